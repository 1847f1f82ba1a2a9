-- The walk along a ring, dart by dart.
use Rattle.std.proofs.Common.{◌≡◌, ℕ, suc, ◌-◌, ◌<◌, refl, sym, ◌∙◌, ap, subst, arith, ◌⊎◌, ⊎_elim, true, false, List, [], ◌∷◌, ◌++◌, length}
use Rattle.std.proofs.lemmas.List.{append_assoc, length_push}
use Rattle.topo_base.specs.Darts.{same_dart}
use Rattle.topo_base.specs.declared.ids.Dart.{Dart}
use Rattle.face_rings.specs.declared.content.BorderDart.{BorderDart}
use Rattle.face_rings.specs.Border.{next_dart}
use Rattle.face_rings.specs.Rings.{walk, ring_of}
use Rattle.face_rings.proofs.Ranks.{same_in}
use Rattle.face_rings.proofs.Orbits.{Has, IsLinkedBorder, next_known, after, bounded}

-- the ring so far, and the dart that comes behind it
pub record IsWalked (border : List BorderDart) (first : Dart) (ring : List Dart) (here : Dart) : Type 0 where
  pub known : Has border here
  pub is : here ≡ after border (length ring) first
  pub away : (j : ℕ) → 0 < j → j < suc (length ring) → after border j first ≡ first → ⊥
  pub walked : ring_of border first ≡ ring ++ walk border first (length border - length ring) here

pub started : (border : List BorderDart) (first : Dart) → Has border first → IsWalked border first [] first
started border first h =
    let all : length border ≡ length border - 0 = omega arith in
    record { known = h; is = refl; away = λ j some less e. absurd (omega arith); walked = ap (λ (n : ℕ). walk border first n first) all }

pub walk_few : (border : List BorderDart) (first : Dart) (ring : List Dart) (here : Dart) → IsLinkedBorder border → Has border first → IsWalked border first ring here → length ring < length border
walk_few border first ring here linked h w = let few = bounded border (suc (length ring)) first linked h w.away in omega arith

-- one step of the walk
walk_step : (border : List BorderDart) (first here : Dart) (n m : ℕ) → n ≡ suc m → walk border first n here ≡ walk border first (suc m) here
walk_step border first here n m e = ap (λ (k : ℕ). walk border first k here) e

pub walk_end : (border : List BorderDart) (first : Dart) (ring : List Dart) (here on : Dart) → IsLinkedBorder border → Has border first → IsWalked border first ring here → on ≡ next_dart border here → same_dart on first ≡ true →
    ring ++ here ∷ [] ≡ ring_of border first
walk_end border first ring here on linked h w is same =
    let few = walk_few border first ring here linked h w in
    let m = length border - suc (length ring) in
    let more : length border - length ring ≡ suc m = omega arith in
    let back : same_dart (next_dart border here) first ≡ true = subst (λ (d : Dart). same_dart d first ≡ true) is same in
    let last : walk border first (suc m) here ≡ here ∷ [] = rw back refl in
    sym (w.walked ∙ ap (λ ds. ring ++ ds) (walk_step border first here (length border - length ring) m more ∙ last))

pub walk_on : (border : List BorderDart) (first : Dart) (ring : List Dart) (here on : Dart) → IsLinkedBorder border → Has border first → IsWalked border first ring here → on ≡ next_dart border here → same_dart on first ≡ false →
    IsWalked border first (ring ++ here ∷ []) on
walk_on border first ring here on linked h w is other =
    let few = walk_few border first ring here linked h w in
    let long = length_push ring here in
    let count : length (ring ++ here ∷ []) ≡ suc (length ring) = omega arith in
    let m = length border - length (ring ++ here ∷ []) in
    let more : length border - length ring ≡ suc m = omega arith in
    let off : same_dart (next_dart border here) first ≡ false = subst (λ (d : Dart). same_dart d first ≡ false) is other in
    let on_is : on ≡ after border (suc (length ring)) first = is ∙ ap (next_dart border) w.is in
    let next : walk border first (suc m) here ≡ here ∷ walk border first m (next_dart border here) = rw off refl in
    record {
      known = subst (Has border) (sym is) (next_known border here linked w.known);
      is = on_is ∙ ap (λ (k : ℕ). after border k first) (sym count);
      away = λ j some less e.
          ⊎_elim
          (λ (l : j ≡ suc (length ring)). apart (sym other ∙ same_in on first (on_is ∙ ap (λ (k : ℕ). after border k first) (sym l) ∙ e)))
          (λ (l : j < suc (length ring)). w.away j some l e)
          (last j (suc (length ring)) (subst (λ (k : ℕ). j < suc k) count less));
      walked = w.walked
          ∙ ap (λ ds. ring ++ ds) (walk_step border first here (length border - length ring) m more ∙ next ∙ ap (λ (d : Dart). here ∷ walk border first m d) (sym is))
          ∙ sym (append_assoc ring (here ∷ []) (walk border first m on));
    }
  where
    apart : false ≡ true → ⊥
    apart e = cc

    last : (j n : ℕ) → j < suc n → (j ≡ n) ⊎ (j < n)
    last j n h = grind arith
