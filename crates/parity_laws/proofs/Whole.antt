-- A list cut at a point inside one of its steps: which step of the list each step of the cut list is a part of.
use Rattle.std.proofs.Common.{◌≡◌, ◌≢◌, refl, sym, ◌∙◌, ap, subst, ◌⊎◌, inl, inr, ⊎_elim, Bool, true, false, cond, ◌&&◌, List, [], ◌∷◌, ◌++◌}
use Rattle.std.specs.Prelude.{◌||◌}
use Rattle.plane.proofs.Signs.{times_one}
use Rattle.plane.proofs.Points.{point_on}
use Rattle.plane.proofs.Collinear.{on_round}
use Rattle.topo_base.specs.Point.{Point, same_point}
use Rattle.topo_base.specs.RationalPoint.{rational, SamePoint}
use Rattle.plane.specs.Segment.{Segment}
use Rattle.plane.specs.RationalTests.{IsOn}
use Rattle.plane.specs.Relation.{AreApart}
use Rattle.plane.specs.Crossings.{back}
use Rattle.parity_laws.specs.Steps.{Each}
use Rattle.parity_laws.specs.Ways.{Tied, MeetsAtEnds, Fork}
use Rattle.parity_laws.specs.Walks.{NotAt}
use Rattle.parity_laws.specs.Cuts.{Inner, first_part, last_part, parts, cut}
use Rattle.parity_laws.specs.Rings.{In, Within, Plain, Once, those}
use Rattle.parity_laws.proofs.Tests.{same_not, exact_is, exact_self}
use Rattle.parity_laws.proofs.Across.{start_on, end_on}
use Rattle.parity_laws.proofs.Ringwise.{each_in}
use Rattle.parity_laws.proofs.Lists.{in_left, in_right, those_append, all_those, no_those, each_append}
use Rattle.parity_laws.proofs.Forks.{fork_only}
use Rattle.parity_laws.proofs.Nearby.{Pieces}

-- m is inside the step d of T, and what T becomes where d is cut there is plain again
pub record IsStepCut (T : List Segment) (d : Segment) (m : Point) : Type 0 where
  pub plain : Plain T
  pub once : Once T
  pub there : In d T
  pub inner : Inner m d
  pub cut_plain : Plain (cut d m T)

abbrev pub exact : Segment → Segment → Bool
exact s t = same_point t.a s.a && same_point t.b s.b

-- the step of which u is a part
abbrev pub whole : Segment → Point → Segment → Segment
whole d m u = cond (exact (first_part d m) u || exact (last_part d m) u) d (cond (exact (first_part (back d) m) u || exact (last_part (back d) m) u) (back d) u)

-- the part of t that begins where t begins, and the part that ends where t ends
abbrev pub begin_of : Segment → Point → Segment → Segment
begin_of d m t = cond (exact d t) (first_part d m) (cond (exact (back d) t) (first_part (back d) m) t)

abbrev pub end_of : Segment → Point → Segment → Segment
end_of d m t = cond (exact d t) (last_part d m) (cond (exact (back d) t) (last_part (back d) m) t)

-- ---- m is on no other step
pub alone : (T : List Segment) (d : Segment) (m : Point) → IsStepCut T d m → (t : Segment) → In t T → IsOn (rational m) t → (t ≡ d) ⊎ (t ≡ back d)
alone T d m h t i on =
    ⊎_elim
    (λ (c : AreApart t d). absurd (c (rational m) (on, on_d)))
    (λ (g : MeetsAtEnds d t ⊎ MeetsAtEnds d (back t)).
    ⊎_elim (λ (k : MeetsAtEnds d t). inl (one t on k)) (λ (k : MeetsAtEnds d (back t)). inr (ap back (one (back t) (on_round t (rational m) on) k))) g)
    (each_in (Tied d) T (h.plain.tied d h.there) t i)
  where
    on_d : IsOn (rational m) d
    on_d = point_on d m h.inner.straight h.inner.across h.inner.upward

    point_is : (p : Point) → SamePoint (rational m) (rational p) → m ≡ p
    point_is p e =
        let ex = sym (times_one m.x) ∙ e.0 ∙ times_one p.x in
        let ey = sym (times_one m.y) ∙ e.1 ∙ times_one p.y in
        λ j. record { x = ex j; y = ey j }

    one : (r : Segment) → IsOn (rational m) r → MeetsAtEnds d r → r ≡ d
    one r on k =
        ⊎_elim
        (λ (e : (r.a ≡ d.a) × (r.b ≡ d.b)). λ j. record { a = e.0 j; b = e.1 j })
        (λ (g : Fork d r ⊎ Fork (back d) r).
        ⊎_elim
        (λ (f : Fork d r). absurd (h.inner.not_start (point_is d.a (fork_only d r (rational m) f on_d on))))
        (λ (f : Fork (back d) r). absurd (h.inner.not_end (point_is d.b (fork_only (back d) r (rational m) f (on_round d (rational m) on_d) on))))
        g)
        k

-- no step of T begins or ends at m
pub no_vertex : (T : List Segment) (d : Segment) (m : Point) → IsStepCut T d m → (t : Segment) → In t T → NotAt m t
no_vertex T d m h t i = (λ e. start e (alone T d m h t i (subst (λ p. IsOn (rational p) t) e (start_on t))), λ e. end e (alone T d m h t i (subst (λ p. IsOn (rational p) t) e (end_on t))))
  where
    start : t.a ≡ m → (t ≡ d) ⊎ (t ≡ back d) → ⊥
    start e g = ⊎_elim (λ (f : t ≡ d). h.inner.not_start (sym e ∙ ap (λ (s : Segment). s.a) f)) (λ (f : t ≡ back d). h.inner.not_end (sym e ∙ ap (λ (s : Segment). s.a) f)) g

    end : t.b ≡ m → (t ≡ d) ⊎ (t ≡ back d) → ⊥
    end e g = ⊎_elim (λ (f : t ≡ d). h.inner.not_end (sym e ∙ ap (λ (s : Segment). s.b) f)) (λ (f : t ≡ back d). h.inner.not_start (sym e ∙ ap (λ (s : Segment). s.b) f)) g

-- ---- a step of T and its parts
-- what is chosen for t: for d, for d walked back, or t itself
pub chosen_for : (P : Segment → Type 0) (d x y t : Segment) → (d ≡ t → P x) → (back d ≡ t → P y) → P t → P (cond (exact d t) x (cond (exact (back d) t) y t))
chosen_for P d x y t first second other = by_tests (exact d t) (exact (back d) t) (λ e. first (exact_is d t e)) (λ e. second (exact_is (back d) t e))
  where
    by_tests : (b c : Bool) → (b ≡ true → P x) → (c ≡ true → P y) → P (cond b x (cond c y t))
    by_tests true c f g = f refl
    by_tests false true f g = g refl
    by_tests false false f g = other

pub begin_start : (d : Segment) (m : Point) (t : Segment) → (begin_of d m t).a ≡ t.a
begin_start d m t = chosen_for (λ z. z.a ≡ t.a) d (first_part d m) (first_part (back d) m) t (λ e. ap (λ (s : Segment). s.a) e) (λ e. ap (λ (s : Segment). s.a) e) refl

pub end_end : (d : Segment) (m : Point) (t : Segment) → (end_of d m t).b ≡ t.b
end_end d m t = chosen_for (λ z. z.b ≡ t.b) d (last_part d m) (last_part (back d) m) t (λ e. ap (λ (s : Segment). s.b) e) (λ e. ap (λ (s : Segment). s.b) e) refl

-- one step, or two that meet at m
pub begin_end : (d : Segment) (m : Point) (t : Segment) → (begin_of d m t ≡ end_of d m t) ⊎ (((begin_of d m t).b ≡ m) × ((end_of d m t).a ≡ m))
begin_end d m t = by_tests (exact d t) (exact (back d) t)
  where
    by_tests : (b c : Bool) →
        (cond b (first_part d m) (cond c (first_part (back d) m) t) ≡ cond b (last_part d m) (cond c (last_part (back d) m) t))
        ⊎ (((cond b (first_part d m) (cond c (first_part (back d) m) t)).b ≡ m) × ((cond b (last_part d m) (cond c (last_part (back d) m) t)).a ≡ m))
    by_tests true c = inr (refl, refl)
    by_tests false true = inr (refl, refl)
    by_tests false false = inl refl

-- ---- the steps of the cut list
in_parts : (u : Segment) (d : Segment) (m : Point) (t : Segment) (X : List Segment) → In t X → In u (parts d m t) → In u (cut d m X)
in_parts u d m t [] i j = absurd i
in_parts u d m t (s ∷ X) i j =
    ⊎_elim
    (λ (e : t ≡ s). in_left u (parts d m s) (cut d m X) (subst (λ z. In u (parts d m z)) e j))
    (λ (k : In t X). in_right u (parts d m s) (cut d m X) (in_parts u d m t X k j))
    i

pub begin_there : (d : Segment) (m : Point) (X : List Segment) (t : Segment) → In t X → In (begin_of d m t) (cut d m X)
begin_there d m X t i = in_parts (begin_of d m t) d m t X i (by_tests (exact d t) (exact (back d) t))
  where
    by_tests : (b c : Bool) →
        In (cond b (first_part d m) (cond c (first_part (back d) m) t)) (cond b (first_part d m ∷ last_part d m ∷ []) (cond c (first_part (back d) m ∷ last_part (back d) m ∷ []) (t ∷ [])))
    by_tests true c = inl refl
    by_tests false true = inl refl
    by_tests false false = inl refl

pub end_there : (d : Segment) (m : Point) (X : List Segment) (t : Segment) → In t X → In (end_of d m t) (cut d m X)
end_there d m X t i = in_parts (end_of d m t) d m t X i (by_tests (exact d t) (exact (back d) t))
  where
    by_tests : (b c : Bool) →
        In (cond b (last_part d m) (cond c (last_part (back d) m) t)) (cond b (first_part d m ∷ last_part d m ∷ []) (cond c (first_part (back d) m ∷ last_part (back d) m ∷ []) (t ∷ [])))
    by_tests true c = inr (inl refl)
    by_tests false true = inr (inl refl)
    by_tests false false = inl refl

-- what is so for both parts of a step is so for its parts; where it is so for each step of X, it is so for the cut list
pub each_part : (P : Segment → Type 0) (d : Segment) (m : Point) (t : Segment) → P (begin_of d m t) → P (end_of d m t) → Each P (parts d m t)
each_part P d m t p q = by_tests (exact d t) (exact (back d) t) p q
  where
    by_tests : (b c : Bool) → P (cond b (first_part d m) (cond c (first_part (back d) m) t)) → P (cond b (last_part d m) (cond c (last_part (back d) m) t)) →
        Each P (cond b (first_part d m ∷ last_part d m ∷ []) (cond c (first_part (back d) m ∷ last_part (back d) m ∷ []) (t ∷ [])))
    by_tests true c p q = (p, (q, tt))
    by_tests false true p q = (p, (q, tt))
    by_tests false false p q = (p, tt)

by_parts : (P : Segment → Type 0) (d : Segment) (m : Point) (X : List Segment) → ((t : Segment) → In t X → P (begin_of d m t)) → ((t : Segment) → In t X → P (end_of d m t)) → Each P (cut d m X)
by_parts P d m [] f g = tt
by_parts P d m (t ∷ X) f g = each_append P (parts d m t) (cut d m X) (each_part P d m t (f t (inl refl)) (g t (inl refl))) (by_parts P d m X (λ s i. f s (inr i)) (λ s i. g s (inr i)))

pub part_is : (P : Segment → Type 0) (d : Segment) (m : Point) (X : List Segment) → ((t : Segment) → In t X → P (begin_of d m t)) → ((t : Segment) → In t X → P (end_of d m t)) →
    (u : Segment) → In u (cut d m X) → P u
part_is P d m X f g = each_in P (cut d m X) (by_parts P d m X f g)

-- ---- each part is a part of its step
other_start : (s t : Segment) → t.a ≢ s.a → exact s t ≡ false
other_start s t n = by_test (same_point t.a s.a) (same_point t.b s.b) (same_not t.a s.a n)
  where
    by_test : (b c : Bool) → b ≡ false → b && c ≡ false
    by_test true c e = cc
    by_test false c e = refl

other_end : (s t : Segment) → t.b ≢ s.b → exact s t ≡ false
other_end s t n = by_test (same_point t.a s.a) (same_point t.b s.b) (same_not t.b s.b n)
  where
    by_test : (b c : Bool) → c ≡ false → b && c ≡ false
    by_test true c e = e
    by_test false c e = refl

-- the whole of each of the four parts, and of another step
pub record Wholes (d : Segment) (m : Point) : Type 0 where
  pub first : whole d m (first_part d m) ≡ d
  pub last : whole d m (last_part d m) ≡ d
  pub back_first : whole d m (first_part (back d) m) ≡ back d
  pub back_last : whole d m (last_part (back d) m) ≡ back d
  pub other : (t : Segment) → NotAt m t → whole d m t ≡ t

wholes : (d : Segment) (m : Point) → Inner m d → d.a ≢ d.b → Wholes d m
wholes d m h n = record {
  first = front_first (first_part d m) (exact_self (first_part d m));
  last = front_last (last_part d m) (exact_self (last_part d m));
  back_first = behind_first (first_part (back d) m) (other_start (first_part d m) (first_part (back d) m) (λ e. n (sym e))) (other_start (last_part d m) (first_part (back d) m) (λ e. h.not_end (sym e))) (exact_self (first_part (back d) m));
  back_last = behind_last (last_part (back d) m) (other_start (first_part d m) (last_part (back d) m) h.not_start) (other_end (last_part d m) (last_part (back d) m) n) (exact_self (last_part (back d) m));
  other = λ t k. neither t (other_end (first_part d m) t k.1) (other_start (last_part d m) t k.0) (other_end (first_part (back d) m) t k.1) (other_start (last_part (back d) m) t k.0);
}
  where
    front_first : (u : Segment) → exact (first_part d m) u ≡ true → whole d m u ≡ d
    front_first u e = rw e

    front_last : (u : Segment) → exact (last_part d m) u ≡ true → whole d m u ≡ d
    front_last u e = by_test (exact (first_part d m) u) (exact (last_part d m) u) (cond (exact (first_part (back d) m) u || exact (last_part (back d) m) u) (back d) u) e
      where
        by_test : (p q : Bool) (z : Segment) → q ≡ true → cond (p || q) d z ≡ d
        by_test true q z e = refl
        by_test false q z e = rw e

    behind_first : (u : Segment) → exact (first_part d m) u ≡ false → exact (last_part d m) u ≡ false → exact (first_part (back d) m) u ≡ true → whole d m u ≡ back d
    behind_first u e f g = rw (e, f, g)

    behind_last : (u : Segment) → exact (first_part d m) u ≡ false → exact (last_part d m) u ≡ false → exact (last_part (back d) m) u ≡ true → whole d m u ≡ back d
    behind_last u e f g = rw (e, f) (by_test (exact (first_part (back d) m) u) (exact (last_part (back d) m) u) g)
      where
        by_test : (p q : Bool) → q ≡ true → cond (p || q) (back d) u ≡ back d
        by_test true q e = refl
        by_test false q e = rw e

    neither : (u : Segment) → exact (first_part d m) u ≡ false → exact (last_part d m) u ≡ false → exact (first_part (back d) m) u ≡ false → exact (last_part (back d) m) u ≡ false → whole d m u ≡ u
    neither u e f g k = rw (e, f, g, k)

pub wholes_of : (T : List Segment) (d : Segment) (m : Point) → IsStepCut T d m → Wholes d m
wholes_of T d m h = wholes d m h.inner (h.plain.proper d h.there)

pub whole_begin : (T : List Segment) (d : Segment) (m : Point) → IsStepCut T d m → (t : Segment) → In t T → whole d m (begin_of d m t) ≡ t
whole_begin T d m h t i =
    let w = wholes_of T d m h in
    chosen_for (λ z. whole d m z ≡ t) d (first_part d m) (first_part (back d) m) t (λ e. w.first ∙ e) (λ e. w.back_first ∙ e) (w.other t (no_vertex T d m h t i))

pub whole_end : (T : List Segment) (d : Segment) (m : Point) → IsStepCut T d m → (t : Segment) → In t T → whole d m (end_of d m t) ≡ t
whole_end T d m h t i =
    let w = wholes_of T d m h in
    chosen_for (λ z. whole d m z ≡ t) d (last_part d m) (last_part (back d) m) t (λ e. w.last ∙ e) (λ e. w.back_last ∙ e) (w.other t (no_vertex T d m h t i))

pub whole_there : (T : List Segment) (d : Segment) (m : Point) → IsStepCut T d m → (u : Segment) → In u (cut d m T) → In (whole d m u) T
whole_there T d m h = part_is (λ u. In (whole d m u) T) d m T (λ t i. subst (λ z. In z T) (sym (whole_begin T d m h t i)) i) (λ t i. subst (λ z. In z T) (sym (whole_end T d m h t i)) i)

-- each step of the cut list is a part of its whole
pub part_of : (T : List Segment) (d : Segment) (m : Point) → IsStepCut T d m → (u : Segment) → In u (cut d m T) → (u ≡ begin_of d m (whole d m u)) ⊎ (u ≡ end_of d m (whole d m u))
part_of T d m h =
    part_is (λ u. (u ≡ begin_of d m (whole d m u)) ⊎ (u ≡ end_of d m (whole d m u))) d m T
    (λ t i. inl (ap (begin_of d m) (sym (whole_begin T d m h t i))))
    (λ t i. inr (ap (end_of d m) (sym (whole_end T d m h t i))))

-- the parts of d and of d walked back
pub record Ends (d : Segment) (m : Point) : Type 0 where
  pub first : begin_of d m d ≡ first_part d m
  pub last : end_of d m d ≡ last_part d m
  pub back_first : begin_of d m (back d) ≡ first_part (back d) m
  pub back_last : end_of d m (back d) ≡ last_part (back d) m

pub ends_of : (T : List Segment) (d : Segment) (m : Point) → IsStepCut T d m → Ends d m
ends_of T d m h = record {
  first = rw (exact_self d);
  last = rw (exact_self d);
  back_first = rw (turned, exact_self (back d));
  back_last = rw (turned, exact_self (back d));
}
  where
    turned : exact d (back d) ≡ false
    turned = other_start d (back d) (λ e. h.plain.proper d h.there (sym e))

pub pieces_there : (T : List Segment) (d : Segment) (m : Point) → IsStepCut T d m → Pieces (λ u. In u (cut d m T)) d m
pieces_there T d m h =
    let e = ends_of T d m h in
    let i = h.plain.both d h.there in
    record {
      first = subst (λ z. In z (cut d m T)) e.first (begin_there d m T d h.there);
      last = subst (λ z. In z (cut d m T)) e.last (end_there d m T d h.there);
      back_first = subst (λ z. In z (cut d m T)) e.back_first (begin_there d m T (back d) i);
      back_last = subst (λ z. In z (cut d m T)) e.back_last (end_there d m T (back d) i);
    }

-- another step stays
pub other_there : (d : Segment) (m : Point) (X : List Segment) (t : Segment) → In t X → t ≢ d → t ≢ back d → In t (cut d m X)
other_there d m X t i n k =
    subst (λ z. In z (cut d m X)) (by_tests (exact d t) (exact (back d) t) (λ e. n (sym (exact_is d t e))) (λ e. k (sym (exact_is (back d) t e)))) (begin_there d m X t i)
  where
    by_tests : (b c : Bool) → (b ≡ true → ⊥) → (c ≡ true → ⊥) → cond b (first_part d m) (cond c (first_part (back d) m) t) ≡ t
    by_tests true c f g = absurd (f refl)
    by_tests false true f g = absurd (g refl)
    by_tests false false f g = refl

-- ---- labels
-- the parts with the label of their step are the parts of the steps with the label
pub those_cut : (T : List Segment) (d : Segment) (m : Point) (label : Segment → Bool) → IsStepCut T d m → (X : List Segment) → Within X T → those (λ u. label (whole d m u)) (cut d m X) ≡ cut d m (those label X)
those_cut T d m label h [] w = refl
those_cut T d m label h (t ∷ X) w =
    those_append label' (parts d m t) (cut d m X)
    ∙ by_test (label t) (each_part (λ u. label' u ≡ label t) d m t (ap label (whole_begin T d m h t (w t (inl refl)))) (ap label (whole_end T d m h t (w t (inl refl))))) (those_cut T d m label h X (λ s i. w s (inr i)))
  where
    label' : Segment → Bool
    label' u = label (whole d m u)

    by_test : (b : Bool) → Each (λ u. label' u ≡ b) (parts d m t) → those label' (cut d m X) ≡ cut d m (those label X) →
        those label' (parts d m t) ++ those label' (cut d m X) ≡ cut d m (cond b (t ∷ those label X) (those label X))
    by_test true e f = cc (all_those label' (parts d m t) e, f)
    by_test false e f = cc (no_those label' (parts d m t) e, f)
