-- Wedges beside each other, and the step before each step.
use Rattle.std.proofs.Common.{◌≡◌, ◌≢◌, refl, sym, ◌∙◌, subst, ⊎_elim, Bool, true, false, not, cond, ◌&&◌, List}
use Rattle.std.specs.Prelude.{◌||◌}
use Rattle.std.proofs.lemmas.Bool.{both_ways, and_parts, and_from, or_parts}
use Rattle.topo_base.specs.Point.{same_point}
use Rattle.plane.specs.Direction.{Direction}
use Rattle.plane.specs.Segment.{Segment}
use Rattle.plane.specs.Crossings.{back}
use Rattle.parity_laws.specs.Steps.{direction, before}
use Rattle.parity_laws.specs.Ways.{Apart, inside, Outside}
use Rattle.parity_laws.specs.Rings.{In, Next, Plain, Within}
use Rattle.parity_laws.proofs.Tests.{same_self, same_is, one_first}
use Rattle.parity_laws.proofs.Gap.{before_self}
use Rattle.parity_laws.proofs.Clockwise.{before_onward}
use Rattle.parity_laws.proofs.Ringwise.{each_in, in_each, each_within}
use Rattle.parity_laws.proofs.Star.{Least, least, same_start}

-- ---- fewer steps in the wedge
pub next_within : (X T : List Segment) (d n : Segment) → Within X T → Next T d n → Next X d n
next_within X T d n w f = record { meets = f.meets; first = each_within (Outside d (direction n)) X T w f.first }

-- a corner from the steps that begin at it
pub next_from : (T : List Segment) (d n : Segment) → Plain T → n.a ≡ d.b → ((t : Segment) → In t T → t.a ≡ d.b → inside (direction (back d)) (direction n) (direction t) ≡ false) → Next T d n
next_from T d n plain e f = record {
  meets = e;
  first = in_each (Outside d (direction n)) T (λ t i. record { start = λ g. f t i g; end = λ g. f (back t) (plain.both t i) g });
}

-- neither of its own sides is inside a wedge
pub side_outside : (u w : Direction) → (inside u w u ≡ false) × (inside u w w ≡ false)
side_outside u w = by_tests (before u w) (before u u) (before w w) (before_self u) (before_self w)
  where
    by_tests : (a b c : Bool) → b ≡ false → c ≡ false → (cond a (b && a) (b || a) ≡ false) × (cond a (a && c) (a || c) ≡ false)
    by_tests true false false e f = (refl, refl)
    by_tests false false false e f = (refl, refl)
    by_tests a true c e f = absurd (both_ways true e refl)
    by_tests a false true e f = absurd (both_ways true f refl)

-- ---- two wedges beside each other
-- what is outside the wedge from u to e and outside that from e to w, and is apart from e, is outside the wedge from u to w
pub wedges_joined : (u e w x : Direction) → inside u e x ≡ false → inside e w x ≡ false → inside u e w ≡ false → inside e w u ≡ false → Apart x e → inside u w x ≡ false
wedges_joined u e w x p q r s h =
    by_tests (before u e) (before e w) (before u w) (before u x) (before x e) (before e x) (before x w) (before w e) (before e u) (one_first x e h) (λ a b. before_onward u e w a b) p q r s
  where
    middle : (ux xe ex xw : Bool) → xe ≡ not ex → ux && xe ≡ false → ex && xw ≡ false → ux && xw ≡ false
    middle false xe ex xw a p q = refl
    middle true true ex xw a p q = absurd (both_ways true p refl)
    middle true false true xw a p q = q
    middle true false false xw a p q = absurd (both_ways false refl a)

    late : (ux xe ex xw : Bool) → xe ≡ not ex → ux && xe ≡ false → (ex || xw) ≡ false → (ux || xw) ≡ false
    late ux xe true xw a p q = absurd (both_ways true q refl)
    late true true false xw a p q = absurd (both_ways true p refl)
    late true false false xw a p q = absurd (both_ways false refl a)
    late false xe false xw a p q = q

    early : (ux xe ex xw : Bool) → xe ≡ not ex → (ux || xe) ≡ false → ex && xw ≡ false → (ux || xw) ≡ false
    early true xe ex xw a p q = absurd (both_ways true p refl)
    early false true ex xw a p q = absurd (both_ways true p refl)
    early false false true xw a p q = q
    early false false false xw a p q = absurd (both_ways false refl a)

    never : (ux xe ex xw : Bool) → xe ≡ not ex → (ux || xe) ≡ false → (ex || xw) ≡ false → (ux || xw) ≡ false
    never true xe ex xw a p q = absurd (both_ways true p refl)
    never false true ex xw a p q = absurd (both_ways true p refl)
    never false false true xw a p q = absurd (both_ways true q refl)
    never false false false xw a p q = q

    by_tests : (ue ew uw ux xe ex xw we eu : Bool) → xe ≡ not ex → (ue ≡ true → ew ≡ true → uw ≡ true) → cond ue (ux && xe) (ux || xe) ≡ false → cond ew (ex && xw) (ex || xw) ≡ false →
        cond ue (uw && we) (uw || we) ≡ false → cond ew (eu && uw) (eu || uw) ≡ false → cond uw (ux && xw) (ux || xw) ≡ false
    by_tests true true uw ux xe ex xw we eu a b p q r s = rw (b refl refl) (middle ux xe ex xw a p q)
    by_tests true false uw ux xe ex xw we eu a b p q r s = rw ((or_parts eu uw s).1) (late ux xe ex xw a p q)
    by_tests false true uw ux xe ex xw we eu a b p q r s = rw ((or_parts uw we r).0) (early ux xe ex xw a p q)
    by_tests false false uw ux xe ex xw we eu a b p q r s = rw ((or_parts uw we r).0) (never ux xe ex xw a p q)

-- d is followed by e in T, and e walked back by n; without e, d is followed by n
pub next_over : (X T : List Segment) (d e n : Segment) → Plain X → Plain T → Within X T → In d T → In e T → In n T → (In e X → ⊥) → Next T d e → Next T (back e) n → Next X d n
next_over X T d e n small plain w i j k off f g =
    next_from X d n small (g.meets ∙ f.meets) (λ t l m.
    wedges_joined (direction (back d)) (direction e) (direction n) (direction t)
    ((each_in (Outside d (direction e)) T f.first t (w t l)).start m)
    ((each_in (Outside (back e) (direction n)) T g.first t (w t l)).start (m ∙ sym f.meets))
    ((each_in (Outside d (direction e)) T f.first n k).start (g.meets ∙ f.meets))
    ((each_in (Outside (back e) (direction n)) T g.first d i).end (sym f.meets))
    (apart t l (m ∙ sym f.meets)))
  where
    apart : (t : Segment) → In t X → t.a ≡ e.a → Apart (direction t) (direction e)
    apart t l m =
        ⊎_elim
        (λ (q : t ≡ e). absurd (off (subst (λ z. In z X) q l)))
        (λ (q : Apart (direction t) (direction e)). q)
        (same_start T e t plain j (w t l) m)

-- the same with two steps between
pub next_over_two : (X T : List Segment) (d e e' n : Segment) → Plain X → Plain T → Within X T → In d T → In e T → In e' T → In n T → (In e X → ⊥) → (In e' X → ⊥) → n ≢ e →
    Next T d e → Next T (back e) e' → Next T (back e') n → In n X → Next X d n
next_over_two X T d e e' n small plain w i j j' k off off' ne f g h k' =
    next_from X d n small (at_n ∙ f.meets) (λ t l m.
    wedges_joined (direction (back d)) (direction e') (direction n) (direction t)
    (first_two t (w t l) (m ∙ sym f.meets) (off_e t l))
    ((each_in (Outside (back e') (direction n)) T h.first t (w t l)).start (m ∙ sym f.meets ∙ sym g.meets))
    (first_two n k at_n ne)
    ((each_in (Outside (back e') (direction n)) T h.first d i).end (sym f.meets ∙ sym g.meets))
    (apart t l (m ∙ sym f.meets ∙ sym g.meets)))
  where
    at_n : n.a ≡ e.a
    at_n = h.meets ∙ g.meets

    off_e : (t : Segment) → In t X → t ≢ e
    off_e t l q = off (subst (λ z. In z X) q l)

    apart : (t : Segment) → In t X → t.a ≡ e'.a → Apart (direction t) (direction e')
    apart t l m =
        ⊎_elim
        (λ (q : t ≡ e'). absurd (off' (subst (λ z. In z X) q l)))
        (λ (q : Apart (direction t) (direction e')). q)
        (same_start T e' t plain j' (w t l) m)

    first_two : (t : Segment) → In t T → t.a ≡ e.a → t ≢ e → inside (direction (back d)) (direction e') (direction t) ≡ false
    first_two t l m q =
        wedges_joined (direction (back d)) (direction e) (direction e') (direction t)
        ((each_in (Outside d (direction e)) T f.first t l).start (m ∙ f.meets))
        ((each_in (Outside (back e) (direction e')) T g.first t l).start m)
        ((each_in (Outside d (direction e)) T f.first e' j').start (g.meets ∙ f.meets))
        ((each_in (Outside (back e) (direction e')) T g.first d i).end (sym f.meets))
        (⊎_elim
        (λ (r : t ≡ e). absurd (q r))
        (λ (r : Apart (direction t) (direction e)). r)
        (same_start T e t plain j l m))

-- ---- the step before
pub before_it : (T : List Segment) (n : Segment) → Plain T → In n T → (d : Segment) × (In d T × Next T d n)
before_it T n plain i = ⊎_elim (λ (h : (t : Segment) → In t T → behind t ≡ false). none h) (λ (l : Least T behind later). some l) (least behind later irr tr T)
  where
    here : Segment → Bool
    here t = same_point t.a n.a

    behind : Segment → Bool
    behind t = same_point t.a n.a && before (direction t) (direction n)

    later : Segment → Segment → Bool
    later r t = before (direction t) (direction r)

    irr : (t : Segment) → later t t ≡ false
    irr t = before_self (direction t)

    tr : (r t u : Segment) → later r t ≡ true → later t u ≡ true → later r u ≡ true
    tr r t u f g = before_onward (direction u) (direction t) (direction r) g f

    at : (t : Segment) → t.a ≡ n.a → here t ≡ true
    at t e = subst (λ p. same_point p n.a ≡ true) (sym e) (same_self n.a)

    inner : (a b c : Bool) → a ≡ true → (b ≡ true → c ≡ false) → cond a (c && b) (c || b) ≡ false
    inner true true c e f = rw (f refl)
    inner true false true e f = refl
    inner true false false e f = refl
    inner false b c e f = absurd (both_ways false refl e)

    outer : (a b c : Bool) → a ≡ false → b ≡ false → c ≡ false → cond a (c && b) (c || b) ≡ false
    outer a b c e f g = rw (e, f, g)

    second : (a b : Bool) → a ≡ true → a && b ≡ false → b ≡ false
    second true b e f = f
    second false b e f = absurd (both_ways false refl e)

    some : Least T behind later → (d : Segment) × (In d T × Next T d n)
    some l =
        let p = l.it in
        let k = and_parts (same_point p.a n.a) (before (direction p) (direction n)) l.passes in
        let pa = same_is p.a n.a k.0 in (
          back p,
          (
            plain.both p l.there,
            next_from T (back p) n plain (sym pa) (λ t j g.
                inner (before (direction p) (direction n)) (before (direction t) (direction n)) (before (direction p) (direction t)) k.1
                (λ m. l.none t j (and_from (same_point t.a n.a) (before (direction t) (direction n)) (at t (g ∙ pa)) m))),
          ),
        )

    none : ((t : Segment) → In t T → behind t ≡ false) → (d : Segment) × (In d T × Next T d n)
    none h =
        ⊎_elim
        (λ (f : (t : Segment) → In t T → here t ≡ false). absurd (both_ways (here n) (f n i) (at n refl)))
        (λ (l : Least T here later). by_last l)
        (least here later irr tr T)
      where
        by_last : Least T here later → (d : Segment) × (In d T × Next T d n)
        by_last l =
            let p = l.it in
            let pa = same_is p.a n.a l.passes in (
              back p,
              (
                plain.both p l.there,
                next_from T (back p) n plain (sym pa) (λ t j g.
                    outer (before (direction p) (direction n)) (before (direction t) (direction n)) (before (direction p) (direction t))
                    (second (here p) (before (direction p) (direction n)) l.passes (h p l.there))
                    (second (here t) (before (direction t) (direction n)) (at t (g ∙ pa)) (h t j))
                    (l.none t j (at t (g ∙ pa)))),
              ),
            )
