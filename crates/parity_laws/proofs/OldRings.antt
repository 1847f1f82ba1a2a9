-- Rings that a line that comes leaves as they were.
use Rattle.std.proofs.Common.{◌≡◌, refl, sym, ◌∙◌, ap, ⊎_elim, Bool, true, false, cond, ◌&&◌, List, [], ◌∷◌, ◌++◌}
use Rattle.std.proofs.lemmas.Bool.{both_ways}
use Rattle.topo_base.specs.Point.{Point, same_point}
use Rattle.plane.specs.Direction.{Direction}
use Rattle.plane.specs.Segment.{Segment}
use Rattle.plane.specs.Parity.{xor}
use Rattle.plane.specs.Crossings.{over, back, crosses}
use Rattle.parity_laws.specs.Steps.{odd, Each, direction, before, leaves_before, left}
use Rattle.parity_laws.specs.Rings.{In, Next, those, OneRing}
use Rattle.parity_laws.proofs.Sums.{xor_comm, xor_none, xor_self, odd_append}
use Rattle.parity_laws.proofs.Ringwise.{in_each}
use Rattle.parity_laws.proofs.Lists.{those_append, all_those, no_those}
use Rattle.parity_laws.specs.Coming.{walked_back, both_ways_of, with_line, LineComes, Enters}
use Rattle.parity_laws.specs.Shelling.{IsRingLabel}
use Rattle.parity_laws.proofs.Wedges.{next_within}
use Rattle.parity_laws.proofs.OnLine.{old_in, old_or_way, way_label}
use Rattle.parity_laws.proofs.LineCorners.{Passes, stays_or_passes, old_ringwise, new_ringwise}

-- ---- lists
pub those_front : (p : Segment → Bool) (X Y : List Segment) → Each (λ t. p t ≡ false) Y → those p (X ++ Y) ≡ those p X
those_front p [] Y none = no_those p Y none
those_front p (t ∷ X) Y none = ap (λ z. cond (p t) (t ∷ z) z) (those_front p X Y none)

-- a test that is one both ways counts nothing on a line walked both ways
odd_walked : (f : Segment → Bool) (L : List Segment) → ((s : Segment) → f (back s) ≡ f s) → odd f (walked_back L) ≡ odd f L
odd_walked f [] same = refl
odd_walked f (s ∷ L) same = odd_append f (walked_back L) (back s ∷ []) ∙ last (odd f (walked_back L)) (odd f L) (f (back s)) (f s) (odd_walked f L same) (same s)
  where
    last : (a b c d : Bool) → a ≡ b → c ≡ d → xor a (xor c false) ≡ xor d b
    last a b c d e g = rw (e, g, xor_none d) (xor_comm b d)

pub odd_both_ways : (f : Segment → Bool) (X L : List Segment) → ((s : Segment) → f (back s) ≡ f s) → odd f (X ++ both_ways_of L) ≡ odd f X
odd_both_ways f X L same = odd_append f X (both_ways_of L) ∙ last (odd f X) (odd f (both_ways_of L)) (odd f L) (odd f (walked_back L)) (odd_append f L (walked_back L)) (odd_walked f L same)
  where
    last : (x w l b : Bool) → w ≡ xor l b → b ≡ l → xor x w ≡ x
    last x w l b e g = rw (e, g, xor_self l) (xor_none x)

line_gone : (X L : List Segment) (t : Segment) → left (X ++ both_ways_of L) t ≡ left X t
line_gone X L t =
    cc (odd_both_ways (λ s. crosses s t.a) X L (λ s. xor_comm (over (back s) t.a) (over s t.a)), odd_both_ways (leaves_before t.a (direction t)) X L (swapped t.a (direction t)))
  where
    swapped : (v : Point) (u : Direction) (s : Segment) → leaves_before v u (back s) ≡ leaves_before v u s
    swapped v u s = xor_comm (same_point s.b v && before (direction (back s)) u) (same_point s.a v && before (direction s) u)

-- steps with the line, or without it, have the same parity on their left
pub left_with_line : (T L : List Segment) (p : Segment → Bool) (v : Bool) → ((s : Segment) → In s (both_ways_of L) → p s ≡ v) → (t : Segment) → left (those p (with_line T L)) t ≡ left (those p T) t
left_with_line T L p true line t =
    ap (λ X. left X t) (those_append p T (both_ways_of L) ∙ ap (λ Y. those p T ++ Y) (all_those p (both_ways_of L) (in_each (λ s. p s ≡ true) (both_ways_of L) line))) ∙ line_gone (those p T) L t
left_with_line T L p false line t = ap (λ X. left X t) (those_front p T (both_ways_of L) (in_each (λ s. p s ≡ false) (both_ways_of L) line))

-- ---- two labels at once
pub both_labels : (a b x y : Bool) → a ≡ b → (a ≡ true → x ≡ y) → a && x ≡ b && y
both_labels true true x y e f = f refl
both_labels true false x y e f = cc
both_labels false true x y e f = cc
both_labels false false x y e f = refl

second_labels : (a b x y : Bool) → a ≡ true → b ≡ true → a && x ≡ b && y → x ≡ y
second_labels true true x y e f g = g
second_labels true false x y e f g = absurd (both_ways false refl f)
second_labels false b x y e f g = absurd (both_ways false refl e)

-- ---- rings
-- a ring of the new drawing that isn't on the line is a ring of the old one
pub ring_off_line : (T : List Segment) (first : Segment) (rest : List Segment) (last : Segment) (q : Segment → Bool) → LineComes T first rest last → IsRingLabel (with_line T (first ∷ rest)) q →
    q first ≡ false → q (back first) ≡ false → IsRingLabel T q
ring_off_line T first rest last q c r e f = record {
  ringwise = old_ringwise T first rest last q false c r.ringwise e f;
  one = one;
  step = r.step;
  there = old r.step r.there r.mine;
  mine = r.mine;
}
  where
    old : (s : Segment) → In s (with_line T (first ∷ rest)) → q s ≡ true → In s T
    old s i g =
        ⊎_elim
        (λ (j : In s T). j)
        (λ (j : In s (both_ways_of (first ∷ rest))). absurd (both_ways (q s) (way_label T first rest last q false c r.ringwise e f s j) g))
        (old_or_way T (first ∷ rest) s i)

    one : OneRing T q
    one h rings s t i j g k =
        second_labels (q s) (q t) (h s) (h t) g k
        (r.one (λ u. q u && h u) (λ d n l m next. both_labels (q d) (q n) (h d) (h n) (r.ringwise d n l m next) (λ x.
        rings d n (old d l x) (old n m (sym (r.ringwise d n l m next) ∙ x)) (next_within T (with_line T (first ∷ rest)) d n (old_in T (first ∷ rest)) next)))
        s t (old_in T (first ∷ rest) s i) (old_in T (first ∷ rest) t j) g k)

-- an old ring none of whose steps enters the line is a ring of the new drawing
pub ring_stays : (T : List Segment) (first : Segment) (rest : List Segment) (last : Segment) (p p' : Segment → Bool) → LineComes T first rest last → IsRingLabel T p →
    ((s : Segment) → In s T → p' s ≡ p s) → ((s : Segment) → In s (both_ways_of (first ∷ rest)) → p' s ≡ false) →
    ((d : Segment) → In d T → p d ≡ true → Enters (with_line T (first ∷ rest)) first last d → ⊥) → IsRingLabel (with_line T (first ∷ rest)) p'
ring_stays T first rest last p p' c r same line off = record {
  ringwise = new_ringwise T first rest last p' false c (λ d n i j next. same d i ∙ r.ringwise d n i j next ∙ sym (same n j)) line (λ d i enters. same d i ∙ entry d i enters (p d) refl);
  one = one;
  step = r.step;
  there = old_in T (first ∷ rest) r.step r.there;
  mine = same r.step r.there ∙ r.mine;
}
  where
    entry : (d : Segment) → In d T → Enters (with_line T (first ∷ rest)) first last d → (b : Bool) → p d ≡ b → b ≡ false
    entry d i enters false e = refl
    entry d i enters true e = absurd (off d i e enters)

    old : (s : Segment) → In s (with_line T (first ∷ rest)) → p' s ≡ true → In s T
    old s i g =
        ⊎_elim
        (λ (j : In s T). j)
        (λ (j : In s (both_ways_of (first ∷ rest))). absurd (both_ways (p' s) (line s j) g))
        (old_or_way T (first ∷ rest) s i)

    one : OneRing (with_line T (first ∷ rest)) p'
    one h rings s t i j g k =
        let s_old = old s i g in
        let t_old = old t j k in
        let ps = sym (same s s_old) ∙ g in
        let pt = sym (same t t_old) ∙ k in
        second_labels (p s) (p t) (h s) (h t) ps pt
        (r.one (λ u. p u && h u) (λ d n l m next. both_labels (p d) (p n) (h d) (h n) (r.ringwise d n l m next) (λ x.
        ⊎_elim
        (λ (y : Next (with_line T (first ∷ rest)) d n). rings d n (old_in T (first ∷ rest) d l) (old_in T (first ∷ rest) n m) y)
        (λ (y : Passes T first rest last d n). absurd (off d l x y.enters))
        (stays_or_passes T first rest last c d n l m next)))
        s t s_old t_old ps pt)
