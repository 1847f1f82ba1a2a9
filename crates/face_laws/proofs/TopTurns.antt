-- A ring of steps has on its left what is straight above its top vertex exactly where it is a hole by its parity.
use Rattle.std.proofs.Common.{◌≡◌, refl, sym, ◌∙◌, ap, subst, arith, ◌-ℤ◌, ◌≤ℤ◌, pos, ◌⊎◌, inl, inr, ⊎_elim, Bool, true, false, not, cond, ◌&&◌, List, [], ◌∷◌, ◌++◌}
use Rattle.std.specs.Prelude.{fold, zip, int_lt, ◌||◌, ℤ}
use Rattle.std.specs.List.{list_any}
use Rattle.std.specs.Ordering.{int_eq}
use Rattle.std.proofs.lemmas.Bool.{and_parts, and_from, or_cases, or_left, or_right, both_ways, false_from_ne_true}
use Rattle.std.proofs.lemmas.Bool.Decides.{Decides-int_eq}
use Rattle.topo_base.specs.Point.{Point, same_point}
use Rattle.plane.specs.Direction.{in_wedge, straight_up}
use Rattle.plane.specs.ClosedWalk.{is_higher, higher_of, top_of, turns_below, is_hole_walk}
use Rattle.plane.specs.Segment.{Segment}
use Rattle.plane.specs.Crossings.{back}
use Rattle.plane.proofs.Ring.{signed}
use Rattle.parity_laws.specs.Steps.{direction, before, left}
use Rattle.parity_laws.specs.Walks.{NoHigher}
use Rattle.parity_laws.specs.Ways.{Apart, Outside}
use Rattle.parity_laws.specs.Rings.{In, Next, Plain, Turns, IsRing, those, First}
use Rattle.parity_laws.proofs.Climbing.{first_at}
use Rattle.parity_laws.proofs.Following.{follows}
use Rattle.parity_laws.proofs.Lists.{in_left, in_right, in_cases}
use Rattle.parity_laws.proofs.Ringwise.{each_in, in_each}
use Rattle.parity_laws.proofs.Shells.{World, shell_law}
use Rattle.parity_laws.proofs.Star.{same_start, those_in}
use Rattle.parity_laws.proofs.Tests.{bool_same, same_self, same_is}
use Rattle.face_laws.proofs.LineSteps.{not_zero}
use Rattle.face_laws.proofs.UpWedges.{IsLow, up_in_wedge}
use Rattle.plane.proofs.Tests.{yes_lt, no_lt}

-- ---- the top vertex of a list of steps
higher_up : (p q : Point) → is_higher p q ≡ true → q.y ≤ℤ p.y
higher_up p q e =
    ⊎_elim
    (λ (h : int_lt q.y p.y ≡ true). let k = yes_lt q.y p.y h in omega (arith, signed))
    (λ (h : (int_eq p.y q.y && int_lt q.x p.x) ≡ true). let k = (Decides-int_eq p.y q.y).0 (and_parts (int_eq p.y q.y) (int_lt q.x p.x) h).0 in omega (arith, signed))
    (or_cases (int_lt q.y p.y) (int_eq p.y q.y && int_lt q.x p.x) e)

not_higher : (p q : Point) → is_higher p q ≡ false → p.y ≤ℤ q.y
not_higher p q e = no_lt q.y p.y (false_from_ne_true (int_lt q.y p.y) (λ h. both_ways (is_higher p q) e (or_left (int_lt q.y p.y) (int_eq p.y q.y && int_lt q.x p.x) h)))

-- v is p or the start of one of these steps, and as high as each
record IsHighest (p : Point) (X : List Segment) (v : Point) : Type 0 where
  first : p.y ≤ℤ v.y
  each : (t : Segment) → In t X → t.a.y ≤ℤ v.y
  is : (v ≡ p) ⊎ ((r : Segment) × (In r X × (r.a ≡ v)))

highest : (p : Point) (X : List Segment) → IsHighest p X (fold higher_of p X)
highest p [] = record { first = omega (arith, signed); each = λ t i. absurd i; is = inl refl }
highest p (t ∷ X) = by_test (is_higher t.a p) refl (highest t.a X) (highest p X)
  where
    by_test : (b : Bool) → is_higher t.a p ≡ b → IsHighest t.a X (fold higher_of t.a X) → IsHighest p X (fold higher_of p X) → IsHighest p (t ∷ X) (fold higher_of (cond b t.a p) X)
    by_test true e on off =
        let up = higher_up t.a p e in
        let first = on.first in
        record {
          first = omega (arith, signed);
          each = λ s i. ⊎_elim (λ (f : s ≡ t). subst (λ z. z.a.y ≤ℤ (fold higher_of t.a X).y) (sym f) on.first) (λ (j : In s X). on.each s j) i;
          is = ⊎_elim (λ (f : fold higher_of t.a X ≡ t.a). inr (t, (inl refl, sym f))) (λ (r : (r : Segment) × (In r X × (r.a ≡ fold higher_of t.a X))). inr (r.0, (inr r.1.0, r.1.1))) on.is;
        }
    by_test false e on off =
        let up = not_higher t.a p e in
        let first = off.first in
        let at : t.a.y ≤ℤ (fold higher_of p X).y = omega (arith, signed) in
        record {
          first = off.first;
          each = λ s i. ⊎_elim (λ (f : s ≡ t). subst (λ z. z.a.y ≤ℤ (fold higher_of p X).y) (sym f) at) (λ (j : In s X). off.each s j) i;
          is = ⊎_elim (λ (f : fold higher_of p X ≡ p). inl f) (λ (r : (r : Segment) × (In r X × (r.a ≡ fold higher_of p X))). inr (r.0, (inr r.1.0, r.1.1))) off.is;
        }

pub record IsTop (X : List Segment) (v : Point) : Type 0 where
  pub step : Segment
  pub there : In step X
  pub starts : step.a ≡ v
  pub high : (t : Segment) → In t X → t.a.y ≤ℤ v.y

pub top_is : (d : Segment) (X : List Segment) → IsTop (d ∷ X) (top_of (d ∷ X))
top_is d X = by_is h.is
  where
    h : IsHighest d.a X (fold higher_of d.a X)
    h = highest d.a X

    high : (t : Segment) → In t (d ∷ X) → t.a.y ≤ℤ (fold higher_of d.a X).y
    high t i = ⊎_elim (λ (f : t ≡ d). subst (λ z. z.a.y ≤ℤ (fold higher_of d.a X).y) (sym f) (highest d.a X).first) (λ (j : In t X). (highest d.a X).each t j) i

    by_is : (fold higher_of d.a X ≡ d.a) ⊎ ((r : Segment) × (In r X × (r.a ≡ fold higher_of d.a X))) → IsTop (d ∷ X) (fold higher_of d.a X)
    by_is (inl e) = record { step = d; there = inl refl; starts = sym e; high = high }
    by_is (inr (r, (i, e))) = record { step = r; there = inr i; starts = e; high = high }

-- ---- a turn at the top vertex
-- a step of a plain drawing that doesn't go above v
record IsBelow (T : List Segment) (v : Point) (s : Segment) : Type 0 where
  there : In s T
  low : NoHigher v s

low_back : (T : List Segment) (v : Point) (s : Segment) → Plain T → IsBelow T v s → s.b ≡ v → IsLow (direction (back s))
low_back T v s plain b e = record { some = not_zero (back s) (λ f. plain.proper s b.there (sym f)); low = lower s.a.y s.b.y v.y b.low.0 (ap (λ (p : Point). p.y) e) }
  where
    lower : (a b v : ℤ) → a ≤ℤ v → b ≡ v → (a -ℤ b) ≤ℤ pos 0
    lower a b v h e = omega (arith, signed)

low_on : (T : List Segment) (v : Point) (t : Segment) → Plain T → IsBelow T v t → t.a ≡ v → IsLow (direction t)
low_on T v t plain b e = record { some = not_zero t (plain.proper t b.there); low = lower t.a.y t.b.y v.y b.low.1 (ap (λ (p : Point). p.y) e) }
  where
    lower : (a b v : ℤ) → b ≤ℤ v → a ≡ v → (b -ℤ a) ≤ℤ pos 0
    lower a b v h e = omega (arith, signed)

-- n is the first step at v, and t is next after s
record IsTurn (T : List Segment) (v : Point) (n s t : Segment) : Type 0 where
  plain : Plain T
  first : First T n
  at : n.a ≡ v
  from : IsBelow T v s
  to : IsBelow T v t
  next : Next T s t

-- straight up is in the wedge exactly where t is n
wedge_is : (T : List Segment) (v : Point) (n s t : Segment) → IsTurn T v n s t → s.b ≡ v → in_wedge (direction (back s)) (direction t) straight_up ≡ not (before (direction (back s)) (direction t))
wedge_is T v n s t h e = up_in_wedge (direction (back s)) (direction t) (low_back T v s h.plain h.from e) (low_on T v t h.plain h.to (h.next.meets ∙ e))

below_first : (T : List Segment) (v : Point) (n s t : Segment) → IsTurn T v n s t → turns_below v (s, t) ≡ true → t ≡ n
below_first T v n s t h e =
    let both = and_parts (same_point s.b v) (in_wedge (direction (back s)) (direction t) straight_up) e in
    let at = same_is s.b v both.0 in
    ⊎_elim
    (λ (f : t ≡ n). f)
    (λ (apart : Apart (direction t) (direction n)).
    absurd (never (before (direction (back s)) (direction t)) (before (direction (back s)) (direction n)) (before (direction n) (direction t)) (sym (wedge_is T v n s t h at) ∙ both.1)
    ((each_in (Outside s (direction t)) T h.next.first n h.first.there).start (h.at ∙ sym at)) (sooner apart at)))
    (same_start T n t h.plain h.first.there h.to.there (h.next.meets ∙ at ∙ sym h.at))
  where
    sooner : Apart (direction t) (direction n) → s.b ≡ v → before (direction n) (direction t) ≡ true
    sooner apart at =
        ⊎_elim
        (λ (f : before (direction t) (direction n) ≡ true). absurd (both_ways (before (direction t) (direction n)) (h.first.none t h.to.there (h.next.meets ∙ at ∙ sym h.at)) f))
        (λ (f : before (direction n) (direction t) ≡ true). f)
        apart

    never : (a b c : Bool) → not a ≡ true → cond a (b && c) (b || c) ≡ false → c ≡ true → ⊥
    never true b c e f g = both_ways true (sym e) refl
    never false b c e f g = both_ways (b || c) f (or_right b c g)

first_below : (T : List Segment) (v : Point) (n s t : Segment) → IsTurn T v n s t → t ≡ n → turns_below v (s, t) ≡ true
first_below T v n s t h e =
    and_from (same_point s.b v) (in_wedge (direction (back s)) (direction t) straight_up) (subst (λ q. same_point q v ≡ true) (sym at) (same_self v))
    (wedge_is T v n s t h at ∙ ap not (ap (λ z. before (direction (back s)) (direction z)) e ∙ h.first.none (back s) (h.plain.both s h.from.there) (at ∙ sym h.at)))
  where
    at : s.b ≡ v
    at = sym h.next.meets ∙ ap (λ (z : Segment). z.a) e ∙ h.at

-- ---- the turns of a ring
abbrev AllBelow : List Segment → Point → List Segment → Type 0
AllBelow T v X = (s : Segment) → In s X → IsBelow T v s

-- T is plain, with n first at v
record IsFirstAt (T : List Segment) (v : Point) (n : Segment) : Type 0 where
  plain : Plain T
  first : First T n
  at : n.a ≡ v

turn_of : (T : List Segment) (v : Point) (n s t : Segment) → IsFirstAt T v n → IsBelow T v s → IsBelow T v t → Next T s t → IsTurn T v n s t
turn_of T v n s t f a b next = record { plain = f.plain; first = f.first; at = f.at; from = a; to = b; next = next }

some_below : (T : List Segment) (v : Point) (n d : Segment) (X : List Segment) (z : Segment) → IsFirstAt T v n → Turns T d X z → AllBelow T v (d ∷ X) → IsBelow T v z →
    list_any (turns_below v) (zip (d ∷ X) (X ++ z ∷ [])) ≡ true → In n (X ++ z ∷ [])
some_below T v n d [] z f h all last e =
    ⊎_elim
    (λ (k : turns_below v (d, z) ≡ true). inl (sym (below_first T v n d z (turn_of T v n d z f (all d (inl refl)) last h) k)))
    (λ (k : false ≡ true). cc)
    (or_cases (turns_below v (d, z)) false e)
some_below T v n d (m ∷ X) z f h all last e =
    ⊎_elim
    (λ (k : turns_below v (d, m) ≡ true). inl (sym (below_first T v n d m (turn_of T v n d m f (all d (inl refl)) (all m (inr (inl refl))) h.0) k)))
    (λ (k : list_any (turns_below v) (zip (m ∷ X) (X ++ z ∷ [])) ≡ true). inr (some_below T v n m X z f h.1 (λ s i. all s (inr i)) last k))
    (or_cases (turns_below v (d, m)) (list_any (turns_below v) (zip (m ∷ X) (X ++ z ∷ []))) e)

below_some : (T : List Segment) (v : Point) (n d : Segment) (X : List Segment) (z : Segment) → IsFirstAt T v n → Turns T d X z → AllBelow T v (d ∷ X) → IsBelow T v z →
    In n (X ++ z ∷ []) → list_any (turns_below v) (zip (d ∷ X) (X ++ z ∷ [])) ≡ true
below_some T v n d [] z f h all last i =
    ⊎_elim
    (λ (k : n ≡ z). or_left (turns_below v (d, z)) false (first_below T v n d z (turn_of T v n d z f (all d (inl refl)) last h) (sym k)))
    (λ (k : ⊥). absurd k)
    i
below_some T v n d (m ∷ X) z f h all last i =
    ⊎_elim
    (λ (k : n ≡ m).
    or_left (turns_below v (d, m)) (list_any (turns_below v) (zip (m ∷ X) (X ++ z ∷ []))) (first_below T v n d m (turn_of T v n d m f (all d (inl refl)) (all m (inr (inl refl))) h.0) (sym k)))
    (λ (k : In n (X ++ z ∷ [])). or_right (turns_below v (d, m)) (list_any (turns_below v) (zip (m ∷ X) (X ++ z ∷ []))) (below_some T v n m X z f h.1 (λ s j. all s (inr j)) last k))
    i

-- ---- a ring with a label of its own
pub record IsRingList (T : List Segment) (p : Segment → Bool) (X : List Segment) : Type 0 where
  pub world : World T p
  pub ring : IsRing T X
  pub there : (s : Segment) → In s X → In s T
  pub mine : (s : Segment) → In s X → p s ≡ true
  pub all : (s : Segment) → In s T → p s ≡ true → In s X

pub hole_left : (T : List Segment) (p : Segment → Bool) (X : List Segment) → IsRingList T p X → (r : Segment) × (In r X × (left (those p T) r ≡ not (is_hole_walk X)))
hole_left T p [] h = absurd h.ring
hole_left T p (d ∷ X) h = (
  top.step,
  (
    top.there,
    shell_law T p h.world n.0 top.step n.1.0 (h.there top.step top.there) n.1.1 (h.mine top.step top.there) (in_each (NoHigher n.0.a) (those p T) (λ t i.
        let m = those_in p T t i in subst (λ q. NoHigher q t) (sym vertex) (below t (h.all t m.0 m.1)).low))
        ∙ ap not (bool_same (p n.0) (is_hole_walk (d ∷ X)) to from),
  ),
)
  where
    top : IsTop (d ∷ X) (top_of (d ∷ X))
    top = top_is d X

    n : (n : Segment) × (First T n × ((top_is d X).step.a ≡ n.a))
    n = first_at T (top_is d X).step (h.there (top_is d X).step (top_is d X).there)

    vertex : n.0.a ≡ top_of (d ∷ X)
    vertex = sym n.1.1 ∙ top.starts

    -- what ends somewhere is followed by what begins there
    below : AllBelow T (top_of (d ∷ X)) (d ∷ X)
    below s i =
        let (m, (j, next)) = follows T h.world.plain s (h.there s i) in
        let same = h.world.rings.next s m (h.there s i) j next in
        record {
          there = h.there s i;
          low = (top.high s i, subst (λ (q : Point). q.y ≤ℤ (top_of (d ∷ X)).y) next.meets (top.high m (h.all m j (sym same ∙ h.mine s i))));
        }

    first : IsFirstAt T (top_of (d ∷ X)) n.0
    first = record { plain = h.world.plain; first = n.1.0; at = vertex }

    to : p n.0 ≡ true → is_hole_walk (d ∷ X) ≡ true
    to e = below_some T (top_of (d ∷ X)) n.0 d X d first h.ring below (below d (inl refl)) (turned (h.all n.0 n.1.0.there e))
      where
        turned : In n.0 (d ∷ X) → In n.0 (X ++ d ∷ [])
        turned i = ⊎_elim (λ (k : n.0 ≡ d). in_right n.0 X (d ∷ []) (inl k)) (λ (j : In n.0 X). in_left n.0 X (d ∷ []) j) i

    from : is_hole_walk (d ∷ X) ≡ true → p n.0 ≡ true
    from e = h.mine n.0 (turned (some_below T (top_of (d ∷ X)) n.0 d X d first h.ring below (below d (inl refl)) e))
      where
        turned : In n.0 (X ++ d ∷ []) → In n.0 (d ∷ X)
        turned i = ⊎_elim (λ (j : In n.0 X). inr j) (λ (k : In n.0 (d ∷ [])). ⊎_elim (λ (f : n.0 ≡ d). inl f) (λ (f : ⊥). absurd f) k) (in_cases n.0 X (d ∷ []) i)
