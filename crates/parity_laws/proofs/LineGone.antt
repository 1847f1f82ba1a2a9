-- What stays where a line goes: labels, sides, and the rings that the line is not on.
use Rattle.std.proofs.Common.{◌≡◌, ◌≢◌, refl, sym, ◌∙◌, ap, subst, ◌⊎◌, inl, ⊎_elim, Bool, true, false, cond, List, ◌∷◌, ◌++◌}
use Rattle.topo_base.specs.Point.{Point}
use Rattle.plane.specs.Segment.{Segment}
use Rattle.plane.specs.Crossings.{over, back, crosses}
use Rattle.parity_laws.specs.Steps.{Even, above, left}
use Rattle.parity_laws.specs.Rings.{In, Within, those, Ringwise, Sided}
use Rattle.parity_laws.proofs.Sums.{xor_comm}
use Rattle.parity_laws.proofs.Lists.{those_append, all_those}
use Rattle.parity_laws.proofs.Ringwise.{in_each}
use Rattle.parity_laws.specs.Coming.{both_ways_of, with_line, LineComes}
use Rattle.parity_laws.proofs.OnLine.{old_in, way_in, forth_in, back_in, way_label, last_in, among, in_among, not_among, not_both}
use Rattle.parity_laws.proofs.LineFaces.{left_on_line, left_at_alone}
use Rattle.parity_laws.proofs.Labels.{those_same}
use Rattle.parity_laws.proofs.OldRings.{those_front, odd_both_ways, left_with_line}

-- ---- the line's first step
pub first_there : (T : List Segment) (first : Segment) (rest : List Segment) → In first (with_line T (first ∷ rest))
first_there T first rest = way_in T (first ∷ rest) first (forth_in (first ∷ rest) first (inl refl))

pub back_there : (T : List Segment) (first : Segment) (rest : List Segment) → In (back first) (with_line T (first ∷ rest))
back_there T first rest = way_in T (first ∷ rest) (back first) (back_in (first ∷ rest) first (inl refl))

-- ---- labels
-- a label with one value on the line, both ways, keeps the parity on its left
pub left_without_line : (T : List Segment) (first : Segment) (rest : List Segment) (last : Segment) (label : Segment → Bool) (v : Bool) → LineComes T first rest last →
    Ringwise (with_line T (first ∷ rest)) label → label first ≡ v → label (back first) ≡ v → (s : Segment) → left (those label T) s ≡ left (those label (with_line T (first ∷ rest))) s
left_without_line T first rest last label v c rings e f s = sym (left_with_line T (first ∷ rest) label v (way_label T first rest last label v c rings e f) s)

-- and its sides
pub sided_without_line : (T : List Segment) (first : Segment) (rest : List Segment) (last : Segment) (label : Segment → Bool) (v : Bool) → LineComes T first rest last →
    Ringwise (with_line T (first ∷ rest)) label → label first ≡ v → label (back first) ≡ v → Sided (with_line T (first ∷ rest)) label → Sided T label
sided_without_line T first rest last label v c rings e f sided s i = left_without_line T first rest last label v c rings e f s ∙ sided s (old_in T (first ∷ rest) s i)

-- the same at a point
pub above_without_line : (T : List Segment) (first : Segment) (rest : List Segment) (last : Segment) (label : Segment → Bool) (v : Bool) → LineComes T first rest last →
    Ringwise (with_line T (first ∷ rest)) label → label first ≡ v → label (back first) ≡ v → (q : Point) → above (those label T) q ≡ above (those label (with_line T (first ∷ rest))) q
above_without_line T first rest last label v c rings e f q = sym (by_value v (way_label T first rest last label v c rings e f))
  where
    by_value : (v : Bool) → ((s : Segment) → In s (both_ways_of (first ∷ rest)) → label s ≡ v) → above (those label (with_line T (first ∷ rest))) q ≡ above (those label T) q
    by_value true line =
        ap (λ X. above X q) (those_append label T (both_ways_of (first ∷ rest)) ∙ ap (λ Y. those label T ++ Y) (all_those label (both_ways_of (first ∷ rest)) (in_each (λ s. label s ≡ true) (both_ways_of (first ∷ rest)) line)))
        ∙ odd_both_ways (λ s. crosses s q) (those label T) (first ∷ rest) (λ s. xor_comm (over (back s) q) (over s q))
    by_value false line = ap (λ X. above X q) (those_front label T (both_ways_of (first ∷ rest)) (in_each (λ s. label s ≡ false) (both_ways_of (first ∷ rest)) line))

-- ---- a label of the old steps, with the value v on the line
abbrev pub with_value : List Segment → Bool → (Segment → Bool) → Segment → Bool
with_value L v h s = cond (among (both_ways_of L) s) v (h s)

pub value_old : (T : List Segment) (first : Segment) (rest : List Segment) (last : Segment) (v : Bool) (h : Segment → Bool) → LineComes T first rest last →
    (s : Segment) → In s T → with_value (first ∷ rest) v h s ≡ h s
value_old T first rest last v h c s i = ap (λ b. cond b v (h s)) (not_among (both_ways_of (first ∷ rest)) s (λ j. not_both T first rest last c s i j))

pub value_on_line : (L : List Segment) (v : Bool) (h : Segment → Bool) (s : Segment) → In s (both_ways_of L) → with_value L v h s ≡ v
value_on_line L v h s i = ap (λ b. cond b v (h s)) (in_among (both_ways_of L) s i)

-- ---- an old ring that doesn't enter the line was a ring with the line

-- and its own parity is the same
pub was_left : (T : List Segment) (first : Segment) (rest : List Segment) (last : Segment) (u : Segment → Bool) → LineComes T first rest last →
    (s : Segment) → left (those (with_value (first ∷ rest) false u) (with_line T (first ∷ rest))) s ≡ left (those u T) s
was_left T first rest last u c s =
    left_with_line T (first ∷ rest) (with_value (first ∷ rest) false u) false (value_on_line (first ∷ rest) false u) s
    ∙ ap (λ X. left X s) (those_same (with_value (first ∷ rest) false u) u T (value_old T first rest last false u c))

-- ---- an end at which no other step begins
abbrev pub IsEndOf : Segment → Segment → Segment → Type 0
IsEndOf first last e = (e ≡ first) ⊎ (e ≡ back last)

-- the parity above it is the one along the line
pub above_end : (T : List Segment) (first : Segment) (rest : List Segment) (last : Segment) (X : List Segment) (e : Segment) → LineComes T first rest last → IsEndOf first last e → ((t : Segment) → In t T → t.a ≢ e.a) →
    Even X → Within X T → above X e.a ≡ left X first
above_end T first rest last X e c end none even w = sym (left_at_alone T first rest last X e c w none) ∙ left_on_line T first rest last X c even w e way
  where
    way : In e (both_ways_of (first ∷ rest))
    way =
        ⊎_elim
        (λ (q : e ≡ first). subst (λ z. In z (both_ways_of (first ∷ rest))) (sym q) (forth_in (first ∷ rest) first (inl refl)))
        (λ (q : e ≡ back last). subst (λ z. In z (both_ways_of (first ∷ rest))) (sym q) (back_in (first ∷ rest) last (last_in T first rest last c)))
        end
