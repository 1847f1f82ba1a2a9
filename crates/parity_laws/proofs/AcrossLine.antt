-- A ring that goes along a line one way only comes from one end of it to the other by old steps, so an old ring's label has one value at both ends.
use Rattle.std.proofs.Common.{◌≡◌, refl, sym, ◌∙◌, ap, subst, inl, inr, ⊎_elim, Bool, true, false, ◌&&◌, List, [], ◌∷◌, ◌++◌}
use Rattle.std.specs.Prelude.{◌||◌}
use Rattle.topo_base.specs.Point.{Point, same_point}
use Rattle.plane.specs.Segment.{Segment}
use Rattle.plane.specs.Parity.{xor}
use Rattle.plane.specs.Crossings.{back}
use Rattle.parity_laws.specs.Steps.{odd, left}
use Rattle.parity_laws.specs.Rings.{In, Next, Ringwise, those}
use Rattle.parity_laws.proofs.Sums.{xor_self, equal, odd_append, odd_none}
use Rattle.parity_laws.proofs.Tests.{same_self, same_is}
use Rattle.parity_laws.proofs.Lists.{those_append, all_those, no_those}
use Rattle.parity_laws.proofs.Walking.{chained_ends}
use Rattle.parity_laws.proofs.Ringwise.{in_each}
use Rattle.parity_laws.proofs.Star.{those_in, those_within}
use Rattle.parity_laws.proofs.Orbits.{label_even}
use Rattle.parity_laws.proofs.Shells.{World, inside_out, io_back, io_star}
use Rattle.parity_laws.proofs.Climbing.{first_at}
use Rattle.parity_laws.proofs.Splitting.{world}
use Rattle.parity_laws.specs.Coming.{walked_back, both_ways_of, with_line, LineComes}
use Rattle.parity_laws.proofs.OnLine.{line_label, walked_in}
use Rattle.parity_laws.proofs.EndsOfOneRing.{strung_chained}
use Rattle.parity_laws.proofs.JoinedRings.{left_at_entry}

-- ---- a value of the steps as one of their starts
abbrev at_start : (Segment → Bool) → List Segment → Point → Bool
at_start E [] v = false
at_start E (t ∷ X) v = (same_point t.a v && E t) || at_start E X v

start_on : (E : Segment → Bool) (X : List Segment) (s : Segment) → In s X → E s ≡ true → at_start E X s.a ≡ true
start_on E [] s i e = absurd i
start_on E (t ∷ X) s i e = ⊎_elim (λ (f : s ≡ t). here f) (λ (j : In s X). later (same_point t.a s.a && E t) (at_start E X s.a) (start_on E X s j e)) i
  where
    here : s ≡ t → at_start E (t ∷ X) s.a ≡ true
    here f = subst (λ z. at_start E (z ∷ X) s.a ≡ true) f (first (same_point s.a s.a) (E s) (at_start E X s.a) (same_self s.a) e)
      where
        first : (a b c : Bool) → a ≡ true → b ≡ true → (a && b || c) ≡ true
        first a b c f g = rw (f, g) refl

    later : (a b : Bool) → b ≡ true → (a || b) ≡ true
    later true b f = refl
    later false b f = f

start_off : (E : Segment → Bool) (X : List Segment) (v : Point) → ((t : Segment) → In t X → t.a ≡ v → E t ≡ false) → at_start E X v ≡ false
start_off E [] v off = refl
start_off E (t ∷ X) v off = all_off (same_point t.a v) (E t) (at_start E X v) (λ f. off t (inl refl) (same_is t.a v f)) (start_off E X v (λ s i. off s (inr i)))
  where
    all_off : (a b c : Bool) → (a ≡ true → b ≡ false) → c ≡ false → (a && b || c) ≡ false
    all_off true b c f g = rw (f refl) g
    all_off false b c f g = g

start_value : (E : Segment → Bool) (X : List Segment) (s : Segment) → In s X → ((t : Segment) → In t X → t.a ≡ s.a → E t ≡ E s) → at_start E X s.a ≡ E s
start_value E X s i same = by_value (E s) refl
  where
    by_value : (b : Bool) → E s ≡ b → at_start E X s.a ≡ E s
    by_value true e = start_on E X s i e ∙ sym e
    by_value false e = start_off E X s.a (λ t j f. same t j f ∙ e) ∙ sym e

-- inside out is one value at a vertex
vertex_value : (T : List Segment) (h : Segment → Bool) (s : Segment) → World T h → In s T → at_start (inside_out T h) T s.a ≡ inside_out T h s
vertex_value T h s w i =
    let n = first_at T s i in
    start_value (inside_out T h) T s i (λ t j e. io_star T h w n.0 t n.1.0 j (e ∙ n.1.1) ∙ sym (io_star T h w n.0 s n.1.0 i n.1.1))

-- ---- the line in the ring
-- a ring that goes along the line forward only has its steps forward
one_way : (T : List Segment) (first : Segment) (rest : List Segment) (last : Segment) (p : Segment → Bool) → LineComes T first rest last → Ringwise (with_line T (first ∷ rest)) p →
    p first ≡ true → p (back first) ≡ false → those p (both_ways_of (first ∷ rest)) ≡ first ∷ rest
one_way T first rest last p c rings e f =
    those_append p (first ∷ rest) (walked_back (first ∷ rest))
    ∙ ap (λ X. X ++ those p (walked_back (first ∷ rest))) (all_those p (first ∷ rest) (in_each (λ t. p t ≡ true) (first ∷ rest) (λ t i. (line_label T first rest last p c rings t i).0 ∙ e)))
    ∙ ap (λ X. (first ∷ rest) ++ X) (no_those p (walked_back (first ∷ rest)) (in_each (λ t. p t ≡ false) (walked_back (first ∷ rest)) (λ t i. (line_label T first rest last p c rings (back t) (walked_in t (first ∷ rest) i)).1 ∙ f)))
    ∙ append_none (first ∷ rest)
  where
    append_none : (X : List Segment) → X ++ [] ≡ X
    append_none [] = refl
    append_none (t ∷ X) = ap (λ Y. t ∷ Y) (append_none X)

-- a test of points that has one value at both ends of each old step has one at both ends of the line
pub ends_alike : (T : List Segment) (first : Segment) (rest : List Segment) (last : Segment) (p : Segment → Bool) (g : Point → Bool) → LineComes T first rest last → Ringwise (with_line T (first ∷ rest)) p →
    p first ≡ true → p (back first) ≡ false → ((t : Segment) → In t T → g t.a ≡ g t.b) → g first.a ≡ g last.b
ends_alike T first rest last p g c rings e f same =
    equal (g first.a) (g last.b)
    (sum_of (odd ends (those p (with_line T (first ∷ rest)))) (odd ends (those p T)) (odd ends (those p (both_ways_of (first ∷ rest)))) (xor (g first.a) (g last.b))
    (ap (odd ends) (those_append p T (both_ways_of (first ∷ rest))) ∙ odd_append ends (those p T) (those p (both_ways_of (first ∷ rest))))
    (odd_none ends (those p T) (in_each (λ t. ends t ≡ false) (those p T) (λ t i. none t (those_in p T t i).0)))
    (ap (odd ends) (one_way T first rest last p c rings e f) ∙ chained_ends g first.a (first ∷ rest) last.b (refl, strung_chained (with_line T (first ∷ rest)) first rest last c.strung))
    (label_even (with_line T (first ∷ rest)) c.new.plain c.new.once p rings g))
  where
    ends : Segment → Bool
    ends t = xor (g t.a) (g t.b)

    none : (t : Segment) → In t T → ends t ≡ false
    none t i = ap (λ z. xor z (g t.b)) (same t i) ∙ xor_self (g t.b)

    sum_of : (x y z w : Bool) → x ≡ xor y z → y ≡ false → z ≡ w → x ≡ false → w ≡ false
    sum_of x y z w e f g h = sym (e ∙ ap (λ k. xor k z) f ∙ g) ∙ h

-- p has the line in one direction alone: then whatever is one for each old ring is one where the line is entered at its two ends
pub entries_same : (T : List Segment) (first : Segment) (rest : List Segment) (last : Segment) (p h : Segment → Bool) (d d' : Segment) → LineComes T first rest last → Ringwise (with_line T (first ∷ rest)) p →
    p first ≡ true → p (back first) ≡ false → Ringwise T h → In d T → In d' T → Next (with_line T (first ∷ rest)) d first → Next (with_line T (first ∷ rest)) d' (back last) → h d ≡ h d'
entries_same T first rest last p h d d' c rings e f old i i' enters enters' =
    last_of (left (those h T) first) (left (those h T) d) (left (those h T) d') (h d) (h d')
    (left_at_entry T first rest last (those h T) d c (label_even T c.old.plain c.old.once h old) (those_within h T) i (inl enters))
    (left_at_entry T first rest last (those h T) d' c (label_even T c.old.plain c.old.once h old) (those_within h T) i' (inr enters'))
    (sym (at_end d i) ∙ ap (at_start (inside_out T h) T) (sym enters.meets) ∙ ends_alike T first rest last p (at_start (inside_out T h) T) c rings e f same ∙ ap (at_start (inside_out T h) T) enters'.meets ∙ at_end d' i')
  where
    w : World T h
    w = world T h c.old old

    at_end : (t : Segment) → In t T → at_start (inside_out T h) T t.b ≡ inside_out T h t
    at_end t j = vertex_value T h (back t) w (c.old.plain.both t j) ∙ io_back T h w t j

    same : (t : Segment) → In t T → at_start (inside_out T h) T t.a ≡ at_start (inside_out T h) T t.b
    same t j = vertex_value T h t w j ∙ sym (at_end t j)

    last_of : (x y z a b : Bool) → x ≡ y → x ≡ z → xor y a ≡ xor z b → a ≡ b
    last_of x y z a b e f g = cancel x a b (ap (λ k. xor k a) e ∙ g ∙ ap (λ k. xor k b) (sym f))
      where
        cancel : (x a b : Bool) → xor x a ≡ xor x b → a ≡ b
        cancel true true true g = refl
        cancel true true false g = cc
        cancel true false true g = cc
        cancel true false false g = refl
        cancel false a b g = g
