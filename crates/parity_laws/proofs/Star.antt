-- All steps that leave one vertex.
use Rattle.std.proofs.Common.{◌≡◌, refl, sym, ◌∙◌, ap, subst, ◌⊎◌, inl, inr, ⊎_elim, Bool, true, false, cond, ◌&&◌, List, [], ◌∷◌}
use Rattle.std.specs.Prelude.{◌||◌}
use Rattle.std.proofs.lemmas.Bool.{both_ways, and_parts, and_from}
use Rattle.plane.specs.Segment.{Segment}
use Rattle.plane.specs.Relation.{AreApart}
use Rattle.plane.specs.Parity.{xor}
use Rattle.plane.specs.Crossings.{back}
use Rattle.topo_base.specs.Point.{same_point, Point}
use Rattle.plane.specs.Direction.{Direction}
use Rattle.parity_laws.specs.Steps.{direction, before, times, Each}
use Rattle.parity_laws.specs.Ways.{Tied, MeetsAtEnds, Fork, Apart, Outside}
use Rattle.parity_laws.specs.Rings.{In, Next, Plain, Within, those, has, Once, First}
use Rattle.parity_laws.proofs.Sums.{xor_self, odd_both, odd_none, equal}
use Rattle.parity_laws.proofs.Tests.{same_self, same_is, exact_is, exact_self}
use Rattle.parity_laws.proofs.Gap.{before_self}
use Rattle.parity_laws.proofs.Across.{ends_differ, start_on}
use Rattle.parity_laws.proofs.Clockwise.{before_onward}
use Rattle.parity_laws.proofs.Ringwise.{each_in, in_each}

-- ---- a step that no other one comes before
pub record Least (T : List Segment) (P : Segment → Bool) (lower : Segment → Segment → Bool) : Type 0 where
  pub it : Segment
  pub there : In it T
  pub passes : P it ≡ true
  pub none : (t : Segment) → In t T → P t ≡ true → lower t it ≡ false

pub least : (P : Segment → Bool) (lower : Segment → Segment → Bool) → ((s : Segment) → lower s s ≡ false) → ((r s t : Segment) → lower r s ≡ true → lower s t ≡ true → lower r t ≡ true) →
    (T : List Segment) → ((t : Segment) → In t T → P t ≡ false) ⊎ Least T P lower
least P lower irr tr [] = inl (λ t i. absurd i)
least P lower irr tr (t ∷ T) = by_rest (least P lower irr tr T) (P t) refl
  where
    only : (b : Bool) → P t ≡ b → ((s : Segment) → In s T → P s ≡ false) → ((s : Segment) → In s (t ∷ T) → P s ≡ false) ⊎ Least (t ∷ T) P lower
    only false e f = inl (λ s i. ⊎_elim (λ (g : s ≡ t). ap P g ∙ e) (λ (j : In s T). f s j) i)
    only true e f = inr (record {
      it = t;
      there = inl refl;
      passes = e;
      none = λ s i h. ⊎_elim (λ (g : s ≡ t). subst (λ k. lower k t ≡ false) (sym g) (irr t)) (λ (j : In s T). let k = f s j in cc) i;
    })

    keep : (l : Least T P lower) → (P t ≡ true → lower t l.it ≡ false) → Least (t ∷ T) P lower
    keep l h = record {
      it = l.it;
      there = inr l.there;
      passes = l.passes;
      none = λ s i k. ⊎_elim (λ (g : s ≡ t). subst (λ z. lower z l.it ≡ false) (sym g) (h (sym (ap P g) ∙ k))) (λ (j : In s T). l.none s j k) i;
    }

    take : (l : Least T P lower) → P t ≡ true → lower t l.it ≡ true → Least (t ∷ T) P lower
    take l e f = record {
      it = t;
      there = inl refl;
      passes = e;
      none = λ s i k. ⊎_elim (λ (g : s ≡ t). subst (λ z. lower z t ≡ false) (sym g) (irr t)) (λ (j : In s T). no_lower s j k (lower s t) refl) i;
    }
      where
        no_lower : (s : Segment) → In s T → P s ≡ true → (b : Bool) → lower s t ≡ b → b ≡ false
        no_lower s j k false g = refl
        no_lower s j k true g = let m = tr s t l.it g f in let n = l.none s j k in cc

    choose : (l : Least T P lower) (b c : Bool) → P t ≡ b → lower t l.it ≡ c → Least (t ∷ T) P lower
    choose l true true e f = take l e f
    choose l true false e f = keep l (λ g. f)
    choose l false c e f = keep l (λ g. cc)

    by_rest : ((s : Segment) → In s T → P s ≡ false) ⊎ Least T P lower → (b : Bool) → P t ≡ b → ((s : Segment) → In s (t ∷ T) → P s ≡ false) ⊎ Least (t ∷ T) P lower
    by_rest h b e =
        ⊎_elim
        (λ (f : (s : Segment) → In s T → P s ≡ false). only b e f)
        (λ (l : Least T P lower). inr (choose l b (lower t l.it) e refl))
        h

-- ---- steps with one start
pub same_start : (T : List Segment) (s t : Segment) → Plain T → In s T → In t T → t.a ≡ s.a → (t ≡ s) ⊎ Apart (direction t) (direction s)
same_start T s t plain i j e =
    ⊎_elim
    (λ (c : AreApart t s). absurd (ends_differ t s t.a s.a c (start_on t) (start_on s) e))
    (λ (g : MeetsAtEnds s t ⊎ MeetsAtEnds s (back t)).
    ⊎_elim
    (λ (m : MeetsAtEnds s t).
    ⊎_elim
    (λ (h : (t.a ≡ s.a) × (t.b ≡ s.b)). inl (λ k. record { a = h.0 k; b = h.1 k }))
    (λ (f : Fork s t ⊎ Fork (back s) t).
    ⊎_elim
    (λ (k : Fork s t). inr k.apart)
    (λ (k : Fork (back s) t). absurd (plain.proper s i (sym e ∙ k.start)))
    f)
    m)
    (λ (m : MeetsAtEnds s (back t)).
    ⊎_elim
    (λ (h : (t.b ≡ s.a) × (t.a ≡ s.b)). absurd (plain.proper t j (e ∙ sym h.0)))
    (λ (f : Fork s (back t) ⊎ Fork (back s) (back t)).
    ⊎_elim
    (λ (k : Fork s (back t)). absurd (k.not_start e))
    (λ (k : Fork (back s) (back t)). absurd (k.not_end e))
    f)
    m)
    g)
    (each_in (Tied s) T (plain.tied s i) t j)

-- ---- the last step at v before the direction u: no step is between
pub record LastBefore (T : List Segment) (v : Point) (u : Direction) : Type 0 where
  pub it : Segment
  pub there : In it T
  pub start : it.a ≡ v
  pub earlier : before (direction it) u ≡ true
  pub outside : Each (Outside (back it) u) T

pub last_before : (T : List Segment) (v : Point) (u : Direction) → Plain T → ((t : Segment) → In t T → t.a ≡ v → before (direction t) u ≡ false) ⊎ LastBefore T v u
last_before T v u plain =
    ⊎_elim
    (λ (f : (t : Segment) → In t T → behind t ≡ false). inl (λ t i e. by_first (same_point t.a v) (before (direction t) u) (starts t e) (f t i)))
    (λ (l : Least T behind later). inr (last l))
    (least behind later (λ t. before_self (direction t)) (λ r t q f g. before_onward (direction q) (direction t) (direction r) g f) T)
  where
    behind : Segment → Bool
    behind t = same_point t.a v && before (direction t) u

    later : Segment → Segment → Bool
    later r t = before (direction t) (direction r)

    starts : (t : Segment) → t.a ≡ v → same_point t.a v ≡ true
    starts t e = subst (λ p. same_point p v ≡ true) (sym e) (same_self v)

    by_first : (a b : Bool) → a ≡ true → a && b ≡ false → b ≡ false
    by_first true b e f = f
    by_first false b e f = cc

    not_between : (a b c : Bool) → a ≡ true → (b ≡ true → c ≡ true → ⊥) → cond a (b && c) (b || c) ≡ false
    not_between true true true e f = absurd (f refl refl)
    not_between true true false e f = refl
    not_between true false c e f = refl
    not_between false b c e f = cc

    last : Least T behind later → LastBefore T v u
    last l =
        let p = l.it in
        let k = and_parts (same_point p.a v) (before (direction p) u) l.passes in
        let pa = same_is p.a v k.0 in
        let free : (t : Segment) → In t T → t.a ≡ p.a → before (direction p) (direction t) ≡ true → before (direction t) u ≡ true → ⊥ =
        λ t j f g m. both_ways (before (direction p) (direction t)) (l.none t j (and_from (same_point t.a v) (before (direction t) u) (starts t (f ∙ pa)) m)) g
        in
        record {
          it = p;
          there = l.there;
          start = pa;
          earlier = k.1;
          outside = in_each (Outside (back p) u) T (λ t j. record {
            start = λ f. not_between (before (direction p) u) (before (direction p) (direction t)) (before (direction t) u) k.1 (free t j f);
            end = λ f. not_between (before (direction p) u) (before (direction p) (direction (back t))) (before (direction (back t)) u) k.1 (free (back t) (plain.both t j) f);
          });
        }

-- ---- what goes round corners and over to the other side is one value at a vertex
pub star : (T : List Segment) (E : Segment → Bool) (n : Segment) → Plain T → First T n →
    ((d m : Segment) → In d T → In m T → Next T d m → E d ≡ E m) → ((d : Segment) → In d T → E (back d) ≡ E d) →
    (s : Segment) → In s T → s.a ≡ n.a → E s ≡ E n
star T E n plain first onward over s i e = by_least (least bad earlier irr tr T)
  where
    bad : Segment → Bool
    bad t = same_point t.a n.a && xor (E t) (E n)

    earlier : Segment → Segment → Bool
    earlier r t = before (direction r) (direction t)

    irr : (t : Segment) → earlier t t ≡ false
    irr t = before_self (direction t)

    tr : (r t u : Segment) → earlier r t ≡ true → earlier t u ≡ true → earlier r u ≡ true
    tr r t u f g = before_onward (direction r) (direction t) (direction u) f g

    not_bad : (t : Segment) → t.a ≡ n.a → bad t ≡ false → E t ≡ E n
    not_bad t f g = equal (E t) (E n) (by_first (same_point t.a n.a) (xor (E t) (E n)) (subst (λ p. same_point p n.a ≡ true) (sym f) (same_self n.a)) g)
      where
        by_first : (a b : Bool) → a ≡ true → a && b ≡ false → b ≡ false
        by_first true b e f = f
        by_first false b e f = cc

    -- the step before the first bad one
    impossible : (l : Least T bad earlier) → ⊥
    impossible l = by_last (last_before T n.a (direction w) plain)
      where
        w : Segment
        w = l.it

        at : (same_point w.a n.a ≡ true) × (xor (E w) (E n) ≡ true)
        at = and_parts (same_point w.a n.a) (xor (E w) (E n)) l.passes

        start : w.a ≡ n.a
        start = same_is w.a n.a at.0

        n_not_w : n ≡ w → ⊥
        n_not_w f = both_ways (xor (E n) (E n)) (xor_self (E n)) (subst (λ z. xor (E z) (E n) ≡ true) (sym f) at.1)

        n_before : before (direction n) (direction w) ≡ true
        n_before =
            ⊎_elim
            (λ (f : n ≡ w). absurd (n_not_w f))
            (λ (f : Apart (direction n) (direction w)).
            ⊎_elim (λ (g : before (direction n) (direction w) ≡ true). g) (λ (g : before (direction w) (direction n) ≡ true). absurd (both_ways (before (direction w) (direction n)) (first.none w l.there start) g)) f)
            (same_start T w n plain l.there first.there (sym start))

        by_last : ((t : Segment) → In t T → t.a ≡ n.a → before (direction t) (direction w) ≡ false) ⊎ LastBefore T n.a (direction w) → ⊥
        by_last h =
            ⊎_elim
            (λ (f : (t : Segment) → In t T → t.a ≡ n.a → before (direction t) (direction w) ≡ false). both_ways (before (direction n) (direction w)) (f n first.there refl) n_before)
            (λ (p : LastBefore T n.a (direction w)).
            let next : Next T (back p.it) w = record { meets = start ∙ sym p.start; first = p.outside } in
            let e1 = onward (back p.it) w (plain.both p.it p.there) l.there next in
            let e2 = over p.it p.there in
            let good = not_bad p.it p.start (clean p.it p.there p.earlier) in
            let m = at.1 in
            contradiction (E w) (E n) (sym e1 ∙ e2 ∙ good) m)
            h
          where
            clean : (t : Segment) → In t T → before (direction t) (direction w) ≡ true → bad t ≡ false
            clean t j g = by_value (bad t) refl
              where
                by_value : (b : Bool) → bad t ≡ b → b ≡ false
                by_value false f = refl
                by_value true f = absurd (both_ways (before (direction t) (direction w)) (l.none t j f) g)

            contradiction : (a b : Bool) → a ≡ b → xor a b ≡ true → ⊥
            contradiction a b f g = both_ways (xor b b) (xor_self b) (subst (λ z. xor z b ≡ true) f g)

    by_least : ((t : Segment) → In t T → bad t ≡ false) ⊎ Least T bad earlier → E s ≡ E n
    by_least h =
        ⊎_elim
        (λ (f : (t : Segment) → In t T → bad t ≡ false). not_bad s e (f s i))
        (λ (l : Least T bad earlier). absurd (impossible l))
        h

-- ---- a union of whole rings
pub those_in : (p : Segment → Bool) (T : List Segment) (s : Segment) → In s (those p T) → In s T × (p s ≡ true)
those_in p [] s i = absurd i
those_in p (t ∷ T) s i = by_test (those_in p T s) (p t) refl i
  where
    by_test : (In s (those p T) → In s T × (p s ≡ true)) → (b : Bool) → p t ≡ b → In s (cond b (t ∷ those p T) (those p T)) → In s (t ∷ T) × (p s ≡ true)
    by_test rest true e j =
        ⊎_elim
        (λ (f : s ≡ t). (inl f, ap p f ∙ e))
        (λ (k : In s (those p T)). let r = rest k in (inr r.0, r.1))
        j
    by_test rest false e j = let r = rest j in (inr r.0, r.1)

pub in_those : (p : Segment → Bool) (T : List Segment) (s : Segment) → In s T → p s ≡ true → In s (those p T)
in_those p [] s i e = absurd i
in_those p (t ∷ T) s i e = by_test (p t) refl (λ j. in_those p T s j e)
  where
    by_test : (b : Bool) → p t ≡ b → (In s T → In s (those p T)) → In s (cond b (t ∷ those p T) (those p T))
    by_test true f rest = ⊎_elim (λ (g : s ≡ t). inl g) (λ (j : In s T). inr (rest j)) i
    by_test false f rest = ⊎_elim (λ (g : s ≡ t). absurd (both_ways (p t) f (sym (ap p g) ∙ e))) (λ (j : In s T). rest j) i

pub those_within : (p : Segment → Bool) (T : List Segment) → Within (those p T) T
those_within p T s i = (those_in p T s i).0

not_there : (p : Segment → Bool) (T : List Segment) (s : Segment) → (In s T → ⊥) → has (those p T) s ≡ false
not_there p T s n = odd_none (λ t. same_point t.a s.a && same_point t.b s.b) (those p T) (in_each (λ t. same_point t.a s.a && same_point t.b s.b ≡ false) (those p T) (λ t i. by_test t i (same_point t.a s.a && same_point t.b s.b) refl))
  where
    by_test : (t : Segment) → In t (those p T) → (b : Bool) → same_point t.a s.a && same_point t.b s.b ≡ b → b ≡ false
    by_test t i false e = refl
    by_test t i true e = absurd (n (subst (λ k. In k T) (sym (exact_is s t e)) (those_in p T t i).0))

-- a list without repeats has each of its steps once
pub has_label : (p : Segment → Bool) (T : List Segment) → Once T → (s : Segment) → In s T → has (those p T) s ≡ p s
has_label p [] once s i = absurd i
has_label p (t ∷ T) once s i =
    ⊎_elim
    (λ (e : s ≡ t). here (p t) refl e)
    (λ (j : In s T). there (has_label p T once.1 s) (p t) refl j)
    i
  where
    here : (b : Bool) → p t ≡ b → s ≡ t → has (cond b (t ∷ those p T) (those p T)) s ≡ p s
    here true f e =
        let n = not_there p T s (λ k. once.0 (subst (λ z. In z T) e k)) in
        let m : same_point t.a s.a && same_point t.b s.b ≡ true = subst (λ z. same_point z.a s.a && same_point z.b s.b ≡ true) e (exact_self s) in
        let g : p s ≡ true = ap p e ∙ f in
        sum_of (same_point t.a s.a && same_point t.b s.b) (has (those p T) s) (p s) m n g
      where
        sum_of : (a b c : Bool) → a ≡ true → b ≡ false → c ≡ true → xor a b ≡ c
        sum_of a b c e f g = rw (e, f, g)
    here false f e = not_there p T s (λ k. once.0 (subst (λ z. In z T) e k)) ∙ sym (ap p e ∙ f)

    there : (In s T → has (those p T) s ≡ p s) → (b : Bool) → p t ≡ b → In s T → has (cond b (t ∷ those p T) (those p T)) s ≡ p s
    there rest true f j =
        let n : same_point t.a s.a && same_point t.b s.b ≡ false = other (same_point t.a s.a && same_point t.b s.b) refl j in
        ap (λ z. xor z (has (those p T) s)) n ∙ rest j
      where
        other : (b : Bool) → same_point t.a s.a && same_point t.b s.b ≡ b → In s T → b ≡ false
        other false e j = refl
        other true e j = absurd (once.0 (subst (λ z. In z T) (exact_is s t e) j))
    there rest false f j = rest j

pub times_has : (X : List Segment) (s : Segment) → times X s ≡ xor (has X s) (has X (back s))
times_has X s = odd_both (λ t. same_point t.a s.a && same_point t.b s.b) (λ t. same_point t.a s.b && same_point t.b s.a) X
