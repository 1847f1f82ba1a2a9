-- An entry taken out of a list of entries, or another put in its place.
use Rattle.std.proofs.Common.{◌≡◌, ◌≢◌, ◌∙◌, ℕ, ◌<◌, List, [], ◌∷◌, Bool, true, false, cond, Option, Some, None, IfSome, sym, ap, subst, refl, arith, IsPermutation}
use Rattle.std.specs.List.{All}
use Rattle.std.specs.Map.{lookup, values_of, remove_entry, set_value}
use Rattle.std.specs.Cmp.{nat_eq_equiv}
use Rattle.std.proofs.lemmas.Map.Views.{All-values_from_lookup}
use Rattle.std.proofs.lemmas.List.Sorted.{IsPermutation-refl, IsPermutation-cons, IsPermutation-middle, IsPermutation-trans, IsPermutation-sym, IsPermutation-map}
use Rattle.box_index.specs.declared.entry.Entry.{Entry}
use Rattle.box_index.specs.Cells.{home, place}
use Rattle.box_index.specs.LooseGrid.{CellTable, IsLooseGrid, count_of, entry_at, kept}

same_permutes : {X : Type 0} (xs ys : List X) → xs ≡ ys → IsPermutation xs ys
same_permutes xs ys e = subst (IsPermutation xs) e (IsPermutation-refl xs)

pub swapped : {X : Type 0} (xs ys : List X) (x y : X) → IsPermutation xs (x ∷ ys) → IsPermutation (y ∷ xs) (x ∷ y ∷ ys)
swapped xs ys x y moved = IsPermutation-trans (y ∷ xs) (y ∷ x ∷ ys) (x ∷ y ∷ ys) (IsPermutation-cons y xs (x ∷ ys) moved) (IsPermutation-middle (y ∷ []) x ys)

module _ (test : ℕ → Bool) (v : Entry) where
  pub taken_out : (es : List (ℕ × Entry)) → lookup test es ≡ Some v → IsPermutation (values_of es) (v ∷ values_of (remove_entry test es))
  taken_out [] found = absurd (let bad : None ≡ Some v = found in cc)
  taken_out (p ∷ ps) found = on (test p.0) refl (taken_out ps)
    where
      on : (b : Bool) → test p.0 ≡ b → (lookup test ps ≡ Some v → IsPermutation (values_of ps) (v ∷ values_of (remove_entry test ps))) → IsPermutation (p.1 ∷ values_of ps) (v ∷ values_of (cond (test p.0) ps (p ∷ remove_entry test ps)))
      on true is rest =
          let at : Some p.1 ≡ Some v = rw is at found in
          let same : p.1 ≡ v = cc in
          rw is (same_permutes (p.1 ∷ values_of ps) (v ∷ values_of ps) (ap (λ (x : Entry). x ∷ values_of ps) same))
      on false is rest =
          let there : lookup test ps ≡ Some v = rw is at found in
          rw is (swapped (values_of ps) (values_of (remove_entry test ps)) v p.1 (rest there))

  pub put_in : (w : Entry) (es : List (ℕ × Entry)) → lookup test es ≡ Some v → IsPermutation (values_of (set_value test es w)) (w ∷ values_of (remove_entry test es))
  put_in w [] found = absurd (let bad : None ≡ Some v = found in cc)
  put_in w (p ∷ ps) found = on (test p.0) refl (put_in w ps)
    where
      on : (b : Bool) → test p.0 ≡ b → (lookup test ps ≡ Some v → IsPermutation (values_of (set_value test ps w)) (w ∷ values_of (remove_entry test ps)))
          → IsPermutation (values_of (cond (test p.0) ((p.0, w) ∷ ps) (p ∷ set_value test ps w))) (w ∷ values_of (cond (test p.0) ps (p ∷ remove_entry test ps)))
      on true is rest = rw is (IsPermutation-refl (w ∷ values_of ps))
      on false is rest =
          let there : lookup test ps ≡ Some v = rw is at found in
          rw is (swapped (values_of (set_value test ps w)) (values_of (remove_entry test ps)) w p.1 (rest there))

-- after a removal, in whatever order
pub removed : (test : ℕ → Bool) (v : Entry) (es mid : List (ℕ × Entry)) → lookup test es ≡ Some v → IsPermutation (remove_entry test es) mid → IsPermutation (values_of es) (v ∷ values_of mid)
removed test v es mid found moved =
    IsPermutation-trans (values_of es) (v ∷ values_of (remove_entry test es)) (v ∷ values_of mid) (taken_out test v es found)
    (IsPermutation-cons v (values_of (remove_entry test es)) (values_of mid) (IsPermutation-map (λ (p : ℕ × Entry). p.1) (remove_entry test es) mid moved))

-- the last one put in the place of another
pub gap_closed : (last gap : ℕ → Bool) (v x : Entry) (es mid : List (ℕ × Entry)) → lookup last es ≡ Some v → IsPermutation (remove_entry last es) mid → lookup gap mid ≡ Some x
    → IsPermutation (values_of es) (x ∷ values_of (set_value gap mid v))
gap_closed last gap v x es mid found moved there =
    let rest = values_of (remove_entry gap mid) in
    IsPermutation-trans (values_of es) (x ∷ v ∷ rest) (x ∷ values_of (set_value gap mid v))
    (IsPermutation-trans (values_of es) (v ∷ values_of mid) (x ∷ v ∷ rest) (removed last v es mid found moved) (swapped (values_of mid) rest x v (taken_out gap x mid there)))
    (IsPermutation-cons x (v ∷ rest) (values_of (set_value gap mid v)) (IsPermutation-sym (values_of (set_value gap mid v)) (v ∷ rest) (put_in gap x v mid there)))

-- an entry that stands at no place of its cell isn't kept
pub none_of : (i : CellTable) → IsLooseGrid i → (x : Entry) (cell count : ℕ) → cell ≡ home x.bounds → count ≡ count_of i cell
    → ((n : ℕ) → n < count → (e : Entry) → entry_at i (place cell n) ≡ Some e → e ≢ x) → All (λ (e : Entry). e ≢ x) (kept i)
none_of i h x cell count at_cell is none =
    All-values_from_lookup nat_eq_equiv (λ (e : Entry). e ≢ x) i.entries h.unique (λ q. each q (entry_at i q) refl)
  where
    away : (q : ℕ) (e : Entry) → entry_at i q ≡ Some e → e ≢ x
    away q e found same =
        let a = h.at_home q e found in
        let here : home e.bounds ≡ cell = ap (λ (y : Entry). home y.bounds) same ∙ sym at_cell in
        let below = ap (count_of i) here in
        none a.number (omega (arith, a.below, below, is)) e (ap (λ (c : ℕ). entry_at i (place c a.number)) (sym here) ∙ ap (entry_at i) (sym a.is) ∙ found) same

    each : (q : ℕ) (o : Option Entry) → entry_at i q ≡ o → IfSome o (λ (e : Entry). e ≢ x)
    each q None found = tt
    each q (Some e) found = away q e found
