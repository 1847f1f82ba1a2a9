use Rattle.std.proofs.Common.{◌≡◌, ◌∙◌, ℕ, List, ◌∷◌, Some, nat_eq, sym, ap, subst, IsPermutation}
use Rattle.std.specs.Map.{lookup, values_of}
use Rattle.std.proofs.lemmas.Bool.{ne_eqb}
use Rattle.box_index.specs.declared.entry.Entry.{Entry}
use Rattle.box_index.proofs.Gaps.{removed, gap_closed}
use Rattle.box_index.proofs.remove.close_gap.Goals as goal

pub returns-then-gap-last-clause-kept : goal.returns-then-gap-last-clause-kept
returns-then-gap-last-clause-kept c =
    removed (nat_eq c.args.last) c.args.taken.now c.args.entries.now.entries c.remove.new.self.entries
    (ap (λ (q : ℕ). lookup (nat_eq q) c.args.entries.now.entries) (sym c.if-gap-last.true) ∙ c.requires.gap) c.remove.ensures.entries

pub returns-in-Some-clause-kept : goal.returns-in-Some-clause-kept
returns-in-Some-clause-kept c =
    let written = (c.get_mut.follows.holds c.unwrap-moved.result).0 in
    let there : lookup (nat_eq c.args.gap) c.remove.new.self.entries ≡ Some c.args.taken.now
    = c.remove.ensures.updates.2 c.args.gap (ne_eqb c.args.last c.args.gap (λ is. c.if-gap-last.false (sym is))) ∙ c.requires.gap in
    let P : List (ℕ × Entry) → Type 0 = λ es. IsPermutation (values_of c.args.entries.now.entries) (c.args.taken.now ∷ values_of es) in
    subst P (sym written)
    (gap_closed (nat_eq c.args.last) (nat_eq c.args.gap) c.unwrap-moved.result c.args.taken.now c.args.entries.now.entries c.remove.new.self.entries
    (sym c.remove.ensures.value ∙ c.unwrap-moved.ensures) c.remove.ensures.entries there)
