-- A rational point inside a step that an even list does not have: above it is what the step has on its left.
use Rattle.std.proofs.Common.{◌≡◌, ◌≢◌, refl, sym, ◌∙◌, ap, subst, ℤ, pos, ◌*ℤ◌, ◌<ℤ◌, ◌⊎◌, inl, inr, ⊎_elim, List, map}
use Rattle.topo_base.specs.Point.{Point}
use Rattle.topo_base.specs.RationalPoint.{RationalPoint, rational, SamePoint}
use Rattle.plane.specs.Relation.{AreApart}
use Rattle.plane.specs.RationalTests.{IsOn}
use Rattle.plane.specs.Segment.{Segment}
use Rattle.plane.proofs.Collinear.{on_round}
use Rattle.plane.specs.Crossings.{back, larger_segment}
use Rattle.plane.proofs.Ring.{mul_comm}
use Rattle.plane.proofs.Scale.{times_point}
use Rattle.plane.proofs.Signs.{mul_positive, times_one}
use Rattle.parity_laws.specs.Cuts.{Inner, first_part}
use Rattle.parity_laws.specs.Rings.{In, Plain, Drawn, Within}
use Rattle.parity_laws.specs.Steps.{Even, direction, above, above_at, left}
use Rattle.parity_laws.specs.Walks.{NotAt}
use Rattle.parity_laws.specs.Ways.{Tied, MeetsAtEnds, Fork}
use Rattle.parity_laws.proofs.Across.{start_on, end_on}
use Rattle.parity_laws.proofs.Cutting.{first_along}
use Rattle.parity_laws.proofs.CutSides.{left_along}
use Rattle.parity_laws.proofs.Forks.{fork_only}
use Rattle.parity_laws.proofs.Larger.{drawn_larger, in_larger, from_larger, within_larger, above_rational}
use Rattle.parity_laws.proofs.Nearby.{on_first, not_beyond, apart_along, itself}
use Rattle.parity_laws.proofs.Nearer.{inner_larger}
use Rattle.parity_laws.proofs.Ringwise.{each_in, in_each}
use Rattle.parity_laws.proofs.Scaling.{even_larger, left_larger, larger_is, above_larger}
use Rattle.parity_laws.proofs.Walking.{sight}

-- ---- a grid point m inside d
one_grid : (p q : Point) → SamePoint (rational p) (rational q) → p ≡ q
one_grid p q e =
    let ex = sym (times_one p.x) ∙ e.0 ∙ times_one q.x in
    let ey = sym (times_one p.y) ∙ e.1 ∙ times_one q.y in
    λ i. record { x = ex i; y = ey i }

-- a step that meets d at its ends alone
first_meets : (d t : Segment) (m : Point) → Inner m d → t ≢ d → MeetsAtEnds d t → (MeetsAtEnds (first_part d m) t ⊎ AreApart t (first_part d m)) × (t.a ≢ m) × (t.b ≢ m)
first_meets d t m inner other h =
    ⊎_elim
    (λ (e : (t.a ≡ d.a) × (t.b ≡ d.b)). absurd (other (λ i. record { a = e.0 i; b = e.1 i })))
    (λ (g : Fork d t ⊎ Fork (back d) t).
    ⊎_elim
    (λ (k : Fork d t). (
      inl (inr (inl (record {
        start = k.start;
        not_start = k.not_start;
        not_end = end_off k;
        apart = apart_along (direction t) (direction t) (direction (first_part d m)) (direction d) (itself (direction t)) (first_along d m inner) k.apart;
      }))),
      (λ e. inner.not_start (sym e ∙ k.start)),
      end_off k,
    ))
    (λ (k : Fork (back d) t). (inr (λ r on. not_beyond d m r inner on.1 (fork_only (back d) t r k (on_round d r (on_first d m r inner on.1)) on.0)), (λ e. inner.not_end (sym e ∙ k.start)), end_off_back k))
    g)
    h
  where
    m_on : IsOn (rational m) d
    m_on = on_first d m (rational m) inner (end_on (first_part d m))

    end_off : Fork d t → t.b ≢ m
    end_off k e = inner.not_start (one_grid m d.a (fork_only d t (rational m) k m_on (subst (λ (p : Point). IsOn (rational p) t) e (end_on t))))

    end_off_back : Fork (back d) t → t.b ≢ m
    end_off_back k e = inner.not_end (one_grid m d.b (fork_only (back d) t (rational m) k (on_round d (rational m) m_on) (subst (λ (p : Point). IsOn (rational p) t) e (end_on t))))

-- X has all of its steps in T, and not d
inner_left : (T X : List Segment) (d : Segment) (m : Point) → Plain T → In d T → Inner m d → Even X → Within X T → (In d X → ⊥) → (In (back d) X → ⊥) → left X d ≡ above X m
inner_left T X d m plain i inner even w n nb =
    sym (left_along X (first_part d m) d refl (first_along d m inner))
    ∙ sight (first_part d m) X even (in_each (Tied (first_part d m)) X (λ t j. (one t j).0)) (in_each (NotAt m) X (λ t j. (one t j).1)) (λ e. inner.not_start (sym e))
  where
    m_on : IsOn (rational m) d
    m_on = on_first d m (rational m) inner (end_on (first_part d m))

    one : (t : Segment) → In t X → Tied (first_part d m) t × NotAt m t
    one t j =
        ⊎_elim
        (λ (c : AreApart t d). (
          inl (λ r on. c r (on.0, on_first d m r inner on.1)),
          ((λ e. c (rational m) (subst (λ (p : Point). IsOn (rational p) t) e (start_on t), m_on)), (λ e. c (rational m) (subst (λ (p : Point). IsOn (rational p) t) e (end_on t), m_on))),
        ))
        (λ (g : MeetsAtEnds d t ⊎ MeetsAtEnds d (back t)).
        ⊎_elim
        (λ (h : MeetsAtEnds d t).
        let k = first_meets d t m inner (λ e. n (subst (λ z. In z X) e j)) h in
        (⊎_elim (λ (a : MeetsAtEnds (first_part d m) t). inr (inl a)) (λ (a : AreApart t (first_part d m)). inl a) k.0, (k.1, k.2)))
        (λ (h : MeetsAtEnds d (back t)).
        let k = first_meets d (back t) m inner (λ e. nb (subst (λ z. In z X) (ap back e) j)) h in
        (⊎_elim (λ (a : MeetsAtEnds (first_part d m) (back t)). inr (inr a)) (λ (a : AreApart (back t) (first_part d m)). inl (λ r on. a r (on_round t r on.0, on.1))) k.0, (k.2, k.1)))
        g)
        (each_in (Tied d) T (plain.tied d i) t (w t j))

-- ---- rational points
one_positive : pos 0 <ℤ pos 1
one_positive = record { lt = tt }

scale : (q : RationalPoint) → pos 0 <ℤ (q.d *ℤ pos 1)
scale q = mul_positive q.d (pos 1) q.whole one_positive

not_larger : (k : ℤ) (s : Segment) (X : List Segment) → pos 0 <ℤ k → (In s X → ⊥) → In (larger_segment k s) (map (larger_segment k) X) → ⊥
not_larger k s X h n i =
    let r = from_larger k (larger_segment k s) X i in
    let ea = larger_is k s.a r.0.a h (ap (λ (z : Segment). z.a) r.1.1) in
    let eb = larger_is k s.b r.0.b h (ap (λ (z : Segment). z.b) r.1.1) in
    n (subst (λ z. In z X) (λ j. record { a = sym ea j; b = sym eb j }) r.1.0)

pub inside_left : (T X : List Segment) (d : Segment) (q : RationalPoint) → Drawn T → In d T → IsOn q d → (SamePoint q (rational d.a) → ⊥) → (SamePoint q (rational d.b) → ⊥) →
    Even X → Within X T → (In d X → ⊥) → (In (back d) X → ⊥) → above_at X q ≡ left X d
inside_left T X d q drawn i on na nb even w n m =
    sym (above_rational (pos 1) X q one_positive)
    ∙ sym (inner_left (map (larger_segment (q.d *ℤ pos 1)) T) (map (larger_segment (q.d *ℤ pos 1)) X) (larger_segment (q.d *ℤ pos 1) d) (times_point q (pos 1)) (drawn_larger (q.d *ℤ pos 1) T (scale q) drawn).plain
    (in_larger (q.d *ℤ pos 1) d T i) (inner_larger (pos 1) d q one_positive on na nb) (even_larger (q.d *ℤ pos 1) X even) (within_larger (q.d *ℤ pos 1) X T w)
    (not_larger (q.d *ℤ pos 1) d X (scale q) n) (not_larger (q.d *ℤ pos 1) (back d) X (scale q) m))
    ∙ left_larger (q.d *ℤ pos 1) X d (scale q)

-- a rational point that is a grid point
pub above_same : (X : List Segment) (p : Point) (q : RationalPoint) → SamePoint q (rational p) → above_at X q ≡ above X p
above_same X p q e =
    sym (above_rational (pos 1) X q one_positive)
    ∙ ap (above (map (larger_segment (q.d *ℤ pos 1)) X)) (λ i. record { x = one q.x p.x e.0 i; y = one q.y p.y e.1 i })
    ∙ above_larger (q.d *ℤ pos 1) X p (scale q)
  where
    one : (x z : ℤ) → x *ℤ pos 1 ≡ z *ℤ q.d → x *ℤ pos 1 ≡ (q.d *ℤ pos 1) *ℤ z
    one x z f = f ∙ mul_comm z q.d ∙ ap (λ k. k *ℤ z) (sym (times_one q.d))
