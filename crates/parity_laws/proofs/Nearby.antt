-- A point that sees a step has above it what the step has on its left.
use Rattle.std.proofs.Common.{◌≡◌, ◌≢◌, refl, sym, ◌∙◌, ap, subst, arith, ℤ, pos, ◌-ℤ◌, ◌*ℤ◌, ◌<ℤ◌, ◌≤ℤ◌, ◌⊎◌, inl, inr, ⊎_elim, Bool, true, false, not, cond, ◌&&◌, List, [], ◌∷◌}
use Rattle.std.specs.Prelude.{neg_ℤ, ◌||◌, int_lt}
use Rattle.std.proofs.lemmas.Bool.{both_ways}
use Rattle.std.proofs.Math.IntN.{*ℤ-zero}
use Rattle.plane.proofs.Ring.{multiplied, signed}
use Rattle.plane.proofs.Signs.{order, mul_le, no_zero_divisor, times_one}
use Rattle.plane.proofs.Collinear.{on_round}
use Rattle.topo_base.specs.Point.{Point, same_point}
use Rattle.plane.specs.Segment.{Segment}
use Rattle.topo_base.specs.RationalPoint.{RationalPoint, IsBetween, rational, SamePoint}
use Rattle.plane.specs.RationalTests.{IsOn, area_at}
use Rattle.plane.specs.Relation.{AreApart}
use Rattle.plane.specs.Orientation.{area}
use Rattle.plane.specs.Crossings.{back}
use Rattle.plane.specs.Direction.{Direction, cross}
use Rattle.plane.proofs.Middle.{not_zero}
use Rattle.parity_laws.specs.Steps.{Each, Even, direction, rightward, first_of, before, above, left}
use Rattle.parity_laws.specs.Ways.{Onward, Tied, MeetsAtEnds, Fork, Apart, inside, Outside}
use Rattle.parity_laws.specs.Walks.{NotAt}
use Rattle.parity_laws.specs.Rings.{In, Within, SeesLeft}
use Rattle.parity_laws.specs.Cuts.{Inner, first_part, last_part, parts, cut}
use Rattle.parity_laws.proofs.Tests.{crossed_turned, apart_turned, exact_self}
use Rattle.parity_laws.proofs.Gap.{seg, before_self, rightward_yes, rightward_no}
use Rattle.parity_laws.proofs.Across.{start_on, end_on}
use Rattle.parity_laws.proofs.Corner.{onward_or_back}
use Rattle.parity_laws.proofs.Walking.{seen_left}
use Rattle.parity_laws.proofs.Cutting.{Along, first_along, inner_back, before_along, from_along, pair_same, cut_above, cut_even, cut_first}
use Rattle.parity_laws.proofs.Footway.{between_chain}
use Rattle.parity_laws.proofs.Forks.{fork_only}
use Rattle.parity_laws.proofs.Ringwise.{each_in}
use Rattle.parity_laws.proofs.Lists.{each_append}
use Rattle.parity_laws.proofs.Scaling.{mul_less}
use Rattle.plane.proofs.Tests.{lt_yes, lt_no}

-- ---- directions along d, against it, and to its left
pub along_back : (s t : Segment) → Along (direction s) (direction t) → Along (direction (back s)) (direction (back t))
along_back s t h = record {
  k = h.k;
  l = h.l;
  k_positive = h.k_positive;
  l_positive = h.l_positive;
  x = turn h.k h.l s.b.x s.a.x t.b.x t.a.x h.x;
  y = turn h.k h.l s.b.y s.a.y t.b.y t.a.y h.y;
}
  where
    turn : (k l a b c d : ℤ) → k *ℤ (a -ℤ b) ≡ l *ℤ (c -ℤ d) → k *ℤ (b -ℤ a) ≡ l *ℤ (d -ℤ c)
    turn k l a b c d e = let f = simp multiplied at e in simp multiplied (omega (arith, signed))

pub last_along : (d : Segment) (m : Point) → Inner m d → Along (direction (last_part d m)) (direction d)
last_along d m h = along_back (first_part (back d) m) (back d) (first_along (back d) m (inner_back d m h))

start_along : (d : Segment) (m : Point) → Inner m d → Along (direction (back (first_part d m))) (direction (back d))
start_along d m h = along_back (first_part d m) d (first_along d m h)

halves : (d : Segment) → d.a ≢ d.b → rightward (direction (back d)) ≡ not (rightward (direction d))
halves d n =
    ⊎_elim
    (λ (h : Onward d.a d.b). rightward_no d.a d.b h ∙ sym (ap not (rightward_yes d.a d.b h)))
    (λ (h : Onward d.b d.a). rightward_yes d.b d.a h ∙ sym (ap not (rightward_no d.b d.a h)))
    (onward_or_back d.a d.b n)

negative : (x y : ℤ) → x ≡ neg_ℤ y → pos 0 <ℤ y → x <ℤ pos 0
negative x y e h = omega (arith, signed)

record Leftward (d : Segment) (u : Direction) : Type 0 where
  proper : d.a ≢ d.b
  turns : pos 0 <ℤ cross (direction d) u

back_crossed : (d : Segment) (u : Direction) → cross (direction (back d)) u ≡ neg_ℤ (cross (direction d) u)
back_crossed d u = plain d.a.x d.a.y d.b.x d.b.y u.dx u.dy
  where
    plain : (ax ay bx by x y : ℤ) → (ax -ℤ bx) *ℤ y -ℤ (ay -ℤ by) *ℤ x ≡ neg_ℤ ((bx -ℤ ax) *ℤ y -ℤ (by -ℤ ay) *ℤ x)
    plain ax ay bx by x y = simp multiplied (omega (arith, signed))

outside_left : (d : Segment) (u : Direction) → Leftward d u → inside (direction (back d)) u (direction d) ≡ false
outside_left d u h =
    by_tests (rightward (direction d)) (rightward (direction (back d))) (rightward u) (int_lt (cross (direction (back d)) u) (pos 0)) (int_lt (cross (direction (back d)) (direction d)) (pos 0)) (int_lt (cross (direction d) u) (pos 0))
    (halves d h.proper) (lt_yes (cross (direction (back d)) u) (pos 0) (negative (cross (direction (back d)) u) (cross (direction d) u) (back_crossed d u) h.turns)) (lt_no (cross (direction d) u) (pos 0) (weak (cross (direction d) u) h.turns))
  where
    weak : (x : ℤ) → pos 0 <ℤ x → pos 0 ≤ℤ x
    weak x h = omega (arith, signed)

    final : (h g c3 : Bool) → cond (first_of (not h) g true) (first_of (not h) h c3 && first_of h g false) (first_of (not h) h c3 || first_of h g false) ≡ false
    final true true c3 = refl
    final true false c3 = refl
    final false true c3 = refl
    final false false c3 = refl

    by_tests : (h k g c1 c3 c2 : Bool) → k ≡ not h → c1 ≡ true → c2 ≡ false → cond (first_of k g c1) (first_of k h c3 && first_of h g c2) (first_of k h c3 || first_of h g c2) ≡ false
    by_tests h k g c1 c3 c2 e f i = rw (e, f, i) (final h g c3)

pub inside_start : (u w : Direction) → inside u w u ≡ false
inside_start u w = by_tests (before u w) (before u u) (before_self u)
  where
    by_tests : (a b : Bool) → b ≡ false → cond a (b && a) (b || a) ≡ false
    by_tests true b e = rw e
    by_tests false b e = rw e

apart_turning : (u w : Direction) → pos 0 <ℤ cross u w → Apart u w
apart_turning u w h = by_tests (rightward u) (rightward w) (int_lt (cross u w) (pos 0)) (int_lt (cross w u) (pos 0)) (lt_yes (cross w u) (pos 0) (negative (cross w u) (cross u w) (crossed_turned u w) h))
  where
    by_tests : (a b c d : Bool) → d ≡ true → (first_of a b c ≡ true) ⊎ (first_of b a d ≡ true)
    by_tests true true c d e = inr e
    by_tests true false c d e = inl refl
    by_tests false true c d e = inr refl
    by_tests false false c d e = inr e

apart_back : (d : Segment) → d.a ≢ d.b → Apart (direction d) (direction (back d))
apart_back d n = by_tests (rightward (direction d)) (rightward (direction (back d))) (int_lt (cross (direction d) (direction (back d))) (pos 0)) (int_lt (cross (direction (back d)) (direction d)) (pos 0)) (halves d n)
  where
    by_tests : (a b c e : Bool) → b ≡ not a → (first_of a b c ≡ true) ⊎ (first_of b a e ≡ true)
    by_tests true b c e f = inl (rw f)
    by_tests false b c e f = inr (rw f)

pub apart_along : (u u' w w' : Direction) → Along u u' → Along w w' → Apart u' w' → Apart u w
apart_along u u' w w' h k a =
    ⊎_elim
    (λ (b : before u' w' ≡ true). inl (before_along u u' w h ∙ from_along w w' u' k ∙ b))
    (λ (b : before w' u' ≡ true). inr (before_along w w' u k ∙ from_along u u' w' h ∙ b))
    a

pub itself : (u : Direction) → Along u u
itself u = record { k = pos 1; l = pos 1; k_positive = record { lt = tt }; l_positive = record { lt = tt }; x = refl; y = refl }

pub inside_along : (u u' w d d' : Direction) → Along u u' → Along d d' → inside u w d ≡ inside u' w d'
inside_along u u' w d d' h k = cc (before_along u u' w h, before_along u u' d h, from_along d d' u' k, before_along d d' w k)

-- ---- the list cut at m

pub record Pieces (P : Segment → Type 0) (d : Segment) (m : Point) : Type 0 where
  pub first : P (first_part d m)
  pub last : P (last_part d m)
  pub back_first : P (first_part (back d) m)
  pub back_last : P (last_part (back d) m)

pub each_cut : (P : Segment → Type 0) (d : Segment) (m : Point) → Pieces P d m → (X : List Segment) → ((t : Segment) → In t X → t ≢ d → t ≢ back d → P t) → Each P (cut d m X)
each_cut P d m p [] h = tt
each_cut P d m p (t ∷ X) h = each_append P (parts d m t) (cut d m X) (by_tests (same_point t.a d.a && same_point t.b d.b) (same_point t.a d.b && same_point t.b d.a) is_not is_not_back) (each_cut P d m p X (λ s i. h s (inr i)))
  where
    is_not : same_point t.a d.a && same_point t.b d.b ≡ false → t ≢ d
    is_not e f = both_ways (same_point t.a d.a && same_point t.b d.b) e (subst (λ z. same_point z.a d.a && same_point z.b d.b ≡ true) (sym f) (exact_self d))

    is_not_back : same_point t.a d.b && same_point t.b d.a ≡ false → t ≢ back d
    is_not_back e f = both_ways (same_point t.a d.b && same_point t.b d.a) e (subst (λ z. same_point z.a d.b && same_point z.b d.a ≡ true) (sym f) (exact_self (back d)))

    by_tests : (b c : Bool) → (b ≡ false → t ≢ d) → (c ≡ false → t ≢ back d) →
        Each P (cond b (first_part d m ∷ last_part d m ∷ []) (cond c (first_part (back d) m ∷ last_part (back d) m ∷ []) (t ∷ [])))
    by_tests true c f g = (p.first, (p.last, tt))
    by_tests false true f g = (p.back_first, (p.back_last, tt))
    by_tests false false f g = (h t (inl refl) (f refl) (g refl), tt)

-- ---- parts of d
pub on_first : (d : Segment) (m : Point) (r : RationalPoint) → Inner m d → IsOn r (first_part d m) → IsOn r d
on_first d m r h on =
    let g = first_along d m h in
    record {
      straight = no_zero_divisor g.l (area_at d.a d.b r) (sym (pair_same g.k g.l (m.x -ℤ d.a.x) (m.y -ℤ d.a.y) (d.b.x -ℤ d.a.x) (d.b.y -ℤ d.a.y) (r.x -ℤ d.a.x *ℤ r.d) (r.y -ℤ d.a.y *ℤ r.d) g.x g.y) ∙ ap (λ z. g.k *ℤ z) on.straight ∙ *ℤ-zero g.k) (not_zero g.l g.l_positive);
      across = between_chain d.a.x r.x m.x d.b.x r.d r.whole on.across h.across;
      upward = between_chain d.a.y r.y m.y d.b.y r.d r.whole on.upward h.upward;
    }

-- the end of d is not on its first part
pub not_beyond : (d : Segment) (m : Point) (r : RationalPoint) → Inner m d → IsOn r (first_part d m) → SamePoint r (rational d.b) → ⊥
not_beyond d m r h on e =
    let ex = squeeze d.a.x m.x d.b.x r.x r.d r.whole on.across e.0 h.across in
    let ey = squeeze d.a.y m.y d.b.y r.y r.d r.whole on.upward e.1 h.upward in
    h.not_end (λ i. record { x = ex i; y = ey i })
  where
    squeeze : (a m b x d : ℤ) → pos 0 <ℤ d → IsBetween (a *ℤ d) x (m *ℤ d) → x *ℤ pos 1 ≡ b *ℤ d → IsBetween a m b → m ≡ b
    squeeze a m b x d h f e g =
        ⊎_elim
        (λ (c : m <ℤ b). absurd (below a m b x d h f e g c))
        (λ (c : b ≤ℤ m).
        ⊎_elim
        (λ (k : b <ℤ m). absurd (over_it a m b x d h f e g k))
        (λ (k : m ≤ℤ b). omega (arith, signed))
        (order b m))
        (order m b)
      where
        below : (a m b x d : ℤ) → pos 0 <ℤ d → IsBetween (a *ℤ d) x (m *ℤ d) → x *ℤ pos 1 ≡ b *ℤ d → IsBetween a m b → m <ℤ b → ⊥
        below a m b x d h f e g c =
            let t = times_one x in
            let k = mul_less m b d c h in
            let am : a ≤ℤ m = ⊎_elim (λ (q : (a ≤ℤ m) × (m ≤ℤ b)). q.0) (λ (q : (b ≤ℤ m) × (m ≤ℤ a)). let q0 = q.0 in absurd (omega (arith, signed))) g in
            let l = mul_le a m d am (omega (arith, signed)) in
            ⊎_elim
            (λ (q : ((a *ℤ d) ≤ℤ x) × (x ≤ℤ (m *ℤ d))). let q1 = q.1 in omega (arith, signed))
            (λ (q : ((m *ℤ d) ≤ℤ x) × (x ≤ℤ (a *ℤ d))). let q1 = q.1 in omega (arith, signed))
            f

        over_it : (a m b x d : ℤ) → pos 0 <ℤ d → IsBetween (a *ℤ d) x (m *ℤ d) → x *ℤ pos 1 ≡ b *ℤ d → IsBetween a m b → b <ℤ m → ⊥
        over_it a m b x d h f e g c =
            let t = times_one x in
            let k = mul_less b m d c h in
            let ma : m ≤ℤ a = ⊎_elim (λ (q : (a ≤ℤ m) × (m ≤ℤ b)). let q1 = q.1 in absurd (omega (arith, signed))) (λ (q : (b ≤ℤ m) × (m ≤ℤ a)). q.1) g in
            let l = mul_le m a d ma (omega (arith, signed)) in
            ⊎_elim
            (λ (q : ((a *ℤ d) ≤ℤ x) × (x ≤ℤ (m *ℤ d))). let q0 = q.0 in omega (arith, signed))
            (λ (q : ((m *ℤ d) ≤ℤ x) × (x ≤ℤ (a *ℤ d))). let q0 = q.0 in omega (arith, signed))
            f

-- ---- each other step against the first part of d
tied_first : (T : List Segment) (d t : Segment) (m q : Point) → SeesLeft T d m q → In t T → t ≢ d → t ≢ back d → Tied (first_part d m) t
tied_first T d t m q s i n nb =
    ⊎_elim
    (λ (c : AreApart t d). inl (λ r on. c r (on.0, on_first d m r s.inner on.1)))
    (λ (g : MeetsAtEnds d t ⊎ MeetsAtEnds d (back t)).
    ⊎_elim
    (λ (h : MeetsAtEnds d t). ⊎_elim (λ (k : MeetsAtEnds (first_part d m) t). inr (inl k)) (λ (k : AreApart t (first_part d m)). inl k) (one t n (λ e. not_on (subst (λ p. IsOn (rational p) t) e (end_on t))) h))
    (λ (h : MeetsAtEnds d (back t)).
    ⊎_elim (λ (k : MeetsAtEnds (first_part d m) (back t)). inr (inr k)) (λ (k : AreApart (back t) (first_part d m)). inl (λ r on. k r (on_round t r on.0, on.1)))
    (one (back t) (λ e. nb (ap back e)) (λ e. not_on (subst (λ p. IsOn (rational p) t) e (start_on t))) h))
    g)
    (each_in (Tied d) T (s.plain.tied d s.there) t i)
  where
    not_on : IsOn (rational m) t → ⊥
    not_on on = ⊎_elim (λ (e : t ≡ d). n e) (λ (e : t ≡ back d). nb e) (s.alone t i on)

    one : (r : Segment) → r ≢ d → (r.b ≡ m → ⊥) → MeetsAtEnds d r → MeetsAtEnds (first_part d m) r ⊎ AreApart r (first_part d m)
    one r nr nm h =
        ⊎_elim
        (λ (e : (r.a ≡ d.a) × (r.b ≡ d.b)). absurd (nr (λ j. record { a = e.0 j; b = e.1 j })))
        (λ (g : Fork d r ⊎ Fork (back d) r).
        ⊎_elim
        (λ (k : Fork d r). inl (inr (inl (record {
          start = k.start;
          not_start = k.not_start;
          not_end = nm;
          apart = apart_along (direction r) (direction r) (direction (first_part d m)) (direction d) (itself (direction r)) (first_along d m s.inner) k.apart;
        }))))
        (λ (k : Fork (back d) r). inr (λ p on. not_beyond d m p s.inner on.1 (fork_only (back d) r p k (on_round d p (on_first d m p s.inner on.1)) on.0)))
        g)
        h

-- q sees d from the left: what it has above it is what d has on its left
pub near_left : (T X : List Segment) (d : Segment) (m q : Point) → SeesLeft T d m q → Even X → Within X T → left X d ≡ above X q
near_left T X d m q s even w =
    let n = s.plain.proper d s.there in
    sym (cut_first d m X s.inner)
    ∙ seen_left (first_part d m) (seg m q) (cut d m X) (cut_even d m X even)
    (each_cut (Tied (first_part d m)) d m ties X (λ t i a b. tied_first T d t m q s (w t i) a b))
    (λ e. s.inner.not_start (sym e)) refl
    (each_cut (Outside (first_part d m) (direction (seg m q))) d m outs X (λ t i a b. record { start = λ e. absurd (touches t (w t i) a b (subst (λ p. IsOn (rational p) t) e (start_on t))); end = λ e. absurd (touches t (w t i) a b (subst (λ p. IsOn (rational p) t) e (end_on t))) }))
    (each_cut (Tied (seg m q)) d m forks X (λ t i a b. inl (s.clear t (w t i) a b)))
    (each_cut (NotAt q) d m offs X (λ t i a b. s.off t (w t i)))
    m_not_q
    ∙ cut_above d m X q s.inner
  where
    touches : (t : Segment) → In t T → t ≢ d → t ≢ back d → IsOn (rational m) t → ⊥
    touches t i a b on = ⊎_elim (λ (e : t ≡ d). a e) (λ (e : t ≡ back d). b e) (s.alone t i on)

    m_not_q : m ≢ q
    m_not_q e = not_left (area d.a d.b m) s.inner.straight (subst (λ p. pos 0 <ℤ area d.a d.b p) (sym e) s.is_left)
      where
        not_left : (x : ℤ) → x ≡ pos 0 → pos 0 <ℤ x → ⊥
        not_left x e h = omega (arith, signed)

    leftward : Leftward d (direction (seg m q))
    leftward = record {
      proper = s.plain.proper d s.there;
      turns = subst (λ z. pos 0 <ℤ z) (sym (plain d.a.x d.a.y d.b.x d.b.y m.x m.y q.x q.y)) (less (area d.a d.b q) (area d.a d.b m) s.inner.straight s.is_left);
    }
      where
        plain : (ax ay bx by mx my qx qy : ℤ) → (bx -ℤ ax) *ℤ (qy -ℤ my) -ℤ (by -ℤ ay) *ℤ (qx -ℤ mx) ≡ ((bx -ℤ ax) *ℤ (qy -ℤ ay) -ℤ (by -ℤ ay) *ℤ (qx -ℤ ax)) -ℤ ((bx -ℤ ax) *ℤ (my -ℤ ay) -ℤ (by -ℤ ay) *ℤ (mx -ℤ ax))
        plain ax ay bx by mx my qx qy = simp multiplied (omega (arith, signed))

        less : (x y : ℤ) → y ≡ pos 0 → pos 0 <ℤ x → pos 0 <ℤ (x -ℤ y)
        less x y e h = omega (arith, signed)

    onward : Along (direction (last_part d m)) (direction d)
    onward = last_along d m s.inner

    backward : Along (direction (back (first_part d m))) (direction (back d))
    backward = start_along d m s.inner

    fork_last : Fork (back (first_part d m)) (last_part d m)
    fork_last = record {
      start = refl;
      not_start = λ e. s.inner.not_end (sym e);
      not_end = λ e. s.plain.proper d s.there (sym e);
      apart = apart_along (direction (last_part d m)) (direction d) (direction (back (first_part d m))) (direction (back d)) onward backward (apart_back d (s.plain.proper d s.there));
    }

    ties : Pieces (Tied (first_part d m)) d m
    ties = record { first = inr (inl (inl (refl, refl))); last = inr (inl (inr (inr fork_last))); back_first = inr (inr (inr (inr fork_last))); back_last = inr (inr (inl (refl, refl))) }

    out_last : inside (direction (back (first_part d m))) (direction (seg m q)) (direction (last_part d m)) ≡ false
    out_last = inside_along (direction (back (first_part d m))) (direction (back d)) (direction (seg m q)) (direction (last_part d m)) (direction d) backward onward ∙ outside_left d (direction (seg m q)) leftward

    out_first : inside (direction (back (first_part d m))) (direction (seg m q)) (direction (back (first_part d m))) ≡ false
    out_first = inside_start (direction (back (first_part d m))) (direction (seg m q))

    outs : Pieces (Outside (first_part d m) (direction (seg m q))) d m
    outs = record {
      first = record { start = λ e. absurd (s.inner.not_start (sym e)); end = λ e. out_first };
      last = record { start = λ e. out_last; end = λ e. absurd (s.inner.not_end (sym e)) };
      back_first = record { start = λ e. absurd (s.inner.not_end (sym e)); end = λ e. out_last };
      back_last = record { start = λ e. out_first; end = λ e. absurd (s.inner.not_start (sym e)) };
    }

    q_off : NotAt q d
    q_off = s.off d s.there

    fork_on : Fork (seg m q) (last_part d m)
    fork_on = record {
      start = refl;
      not_start = λ e. s.inner.not_end (sym e);
      not_end = q_off.1;
      apart = apart_along (direction (last_part d m)) (direction d) (direction (seg m q)) (direction (seg m q)) onward (itself (direction (seg m q))) (apart_turning (direction d) (direction (seg m q)) leftward.turns);
    }

    fork_off : Fork (seg m q) (back (first_part d m))
    fork_off = record {
      start = refl;
      not_start = λ e. s.inner.not_start (sym e);
      not_end = q_off.0;
      apart = apart_along (direction (back (first_part d m))) (direction (back d)) (direction (seg m q)) (direction (seg m q)) backward (itself (direction (seg m q))) (apart_turned (direction (seg m q)) (direction (back d)) (apart_turning (direction (seg m q)) (direction (back d)) back_turns));
    }
      where
        back_turns : pos 0 <ℤ cross (direction (seg m q)) (direction (back d))
        back_turns = positive (cross (direction (seg m q)) (direction (back d))) (cross (direction (back d)) (direction (seg m q))) (cross (direction d) (direction (seg m q))) (crossed_turned (direction (back d)) (direction (seg m q))) (back_crossed d (direction (seg m q))) leftward.turns
          where
            positive : (x y z : ℤ) → x ≡ neg_ℤ y → y ≡ neg_ℤ z → pos 0 <ℤ z → pos 0 <ℤ x
            positive x y z e f h = omega (arith, signed)

    forks : Pieces (Tied (seg m q)) d m
    forks = record { first = inr (inr (inr (inl fork_off))); last = inr (inl (inr (inl fork_on))); back_first = inr (inr (inr (inl fork_on))); back_last = inr (inl (inr (inl fork_off))) }

    offs : Pieces (NotAt q) d m
    offs = record { first = (q_off.0, m_not_q); last = (m_not_q, q_off.1); back_first = (q_off.1, m_not_q); back_last = (m_not_q, q_off.0) }
