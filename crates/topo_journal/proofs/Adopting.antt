-- A history that the plain reader has found can be adopted.
use Rattle.std.proofs.Common.{◌≡◌, ℕ, List, take, map, true, sym, ◌∙◌, ap, subst, Vec}
use Rattle.std.specs.declared.alloc.Global.{Global}
use Rattle.topo_journal.specs.Bytes.{Stands, read, History}
use Rattle.topo_journal.specs.Kept.{IsFront, IsClosedAfter, AreBytes, history, CanBeAdopted}
use Rattle.topo_journal.specs.Plain.{reading_of, HasGate}
use Rattle.topo_journal.specs.declared.plain.Plain.{Plain}
use Rattle.topo_journal.specs.declared.plain.Plain.TheVariants.{History as Found}
use Rattle.topo_journal.proofs.Parsed.{adoptable}

pub can_be_adopted : (bytes seen : List ℕ) (plain : Plain) (bodies : Vec (Vec ℕ Global) Global) (gate : ℕ) → plain ≡ Found bodies gate
    → reading_of plain ≡ read (λ _ _. true) bytes → HasGate bytes plain → AreBytes bytes → bytes ≡ seen
    → IsFront (take gate seen) × IsClosedAfter (take gate seen) seen × Stands (λ _ _. true) seen (history gate seen)
can_be_adopted bytes seen plain bodies gate is reading has are same =
    let found = map (λ body. body.items) bodies.items in
    let reads : History found ≡ read (λ _ _. true) bytes = ap reading_of (sym is) ∙ reading in
    let at = subst (HasGate bytes) is has in
    let adopted = adoptable (λ _ _. true) bytes found are at.2 at.1 (sym reads) in
    let moved : CanBeAdopted (λ _ _. true) seen found = subst (λ (l : List ℕ). CanBeAdopted (λ _ _. true) l found) same adopted in
    let to_gate = sym at.0 in
    let held : history gate seen ≡ found = ap (λ (n : ℕ). history n seen) at.0 ∙ moved.2 in (
      subst (λ (n : ℕ). IsFront (take n seen)) to_gate moved.0,
      subst (λ (n : ℕ). IsClosedAfter (take n seen) seen) to_gate moved.1,
      ap (read (λ _ _. true)) (sym same) ∙ sym reads ∙ ap History (sym held),
    )
