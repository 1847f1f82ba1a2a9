-- The step after each step where a list is cut: corners stay, and the two parts of a step follow each other.
use Rattle.std.proofs.Common.{◌≡◌, refl, sym, ◌∙◌, ap, subst, ◌⊎◌, inl, inr, ⊎_elim, Bool, true, false, cond, List}
use Rattle.topo_base.specs.Point.{Point}
use Rattle.plane.specs.Segment.{Segment}
use Rattle.plane.specs.Direction.{Direction}
use Rattle.plane.specs.Crossings.{back}
use Rattle.parity_laws.specs.Steps.{direction}
use Rattle.parity_laws.specs.Ways.{inside, Outside}
use Rattle.parity_laws.specs.Cuts.{Inner, first_part, last_part, cut}
use Rattle.parity_laws.specs.Rings.{In, Next, Ringwise}
use Rattle.parity_laws.proofs.Ringwise.{each_in, in_each}
use Rattle.parity_laws.proofs.Cutting.{Along, first_along, inner_back, from_along}
use Rattle.parity_laws.proofs.Following.{follows, next_same, inside_end}
use Rattle.parity_laws.proofs.Nearby.{along_back, last_along, inside_start, inside_along, itself, Pieces, each_cut}
use Rattle.parity_laws.proofs.Whole.{IsStepCut, exact, whole, begin_of, end_of, no_vertex, begin_start, end_end, begin_end, begin_there, end_there, part_is, whole_begin, whole_end, whole_there, part_of, chosen_for}

-- ---- directions of parts
pub begin_along : (d : Segment) (m : Point) (t : Segment) → Inner m d → Along (direction (begin_of d m t)) (direction t)
begin_along d m t h =
    chosen_for (λ z. Along (direction z) (direction t)) d (first_part d m) (first_part (back d) m) t
    (λ e. subst (λ z. Along (direction (first_part d m)) (direction z)) e (first_along d m h))
    (λ e. subst (λ z. Along (direction (first_part (back d) m)) (direction z)) e (first_along (back d) m (inner_back d m h)))
    (itself (direction t))

pub end_along : (d : Segment) (m : Point) (t : Segment) → Inner m d → Along (direction (end_of d m t)) (direction t)
end_along d m t h =
    chosen_for (λ z. Along (direction z) (direction t)) d (last_part d m) (last_part (back d) m) t
    (λ e. subst (λ z. Along (direction (last_part d m)) (direction z)) e (last_along d m h))
    (λ e. subst (λ z. Along (direction (last_part (back d) m)) (direction z)) e (last_along (back d) m (inner_back d m h)))
    (itself (direction t))

wedge_along : (u u' w w' d d' : Direction) → Along u u' → Along w w' → Along d d' → inside u w d ≡ inside u' w' d'
wedge_along u u' w w' d d' h k l = inside_along u u' w d d' h l ∙ turned
  where
    turned : inside u' w d' ≡ inside u' w' d'
    turned = cc (from_along w w' u' k, from_along w w' d' k)

-- ---- corners
-- n after x: the part of n that begins there is after the part of x that ends there
pub cut_next : (T : List Segment) (d : Segment) (m : Point) → IsStepCut T d m → (x n : Segment) → In x T → Next T x n → Next (cut d m T) (end_of d m x) (begin_of d m n)
cut_next T d m h x n i next = record {
  meets = begin_start d m n ∙ next.meets ∙ sym ends;
  first = in_each (Outside (end_of d m x) (direction (begin_of d m n))) (cut d m T) (part_is (Outside (end_of d m x) (direction (begin_of d m n))) d m T
      (λ t j. record { start = λ e. starting t j (begin_of d m t) (begin_start d m t) (begin_along d m t h.inner) e; end = λ e. begin_ends t j (begin_end d m t) e })
      (λ t j. record { start = λ e. end_starts t j (begin_end d m t) e; end = λ e. ending t j (end_of d m t) (end_end d m t) (end_along d m t h.inner) e }));
}
  where
    ends : (end_of d m x).b ≡ x.b
    ends = end_end d m x

    away : m ≡ (end_of d m x).b → ⊥
    away e = (no_vertex T d m h x i).1 (sym ends ∙ sym e)

    old : (t : Segment) → In t T → Outside x (direction n) t
    old t j = each_in (Outside x (direction n)) T next.first t j

    same : (v w : Segment) → Along (direction v) (direction w) → inside (direction (back (end_of d m x))) (direction (begin_of d m n)) (direction v) ≡ inside (direction (back x)) (direction n) (direction w)
    same v w k =
        wedge_along (direction (back (end_of d m x))) (direction (back x)) (direction (begin_of d m n)) (direction n) (direction v) (direction w)
        (along_back (end_of d m x) x (end_along d m x h.inner)) (begin_along d m n h.inner) k

    starting : (t : Segment) → In t T → (u : Segment) → u.a ≡ t.a → Along (direction u) (direction t) → u.a ≡ (end_of d m x).b → inside (direction (back (end_of d m x))) (direction (begin_of d m n)) (direction u) ≡ false
    starting t j u e k f = same u t k ∙ (old t j).start (sym e ∙ f ∙ ends)

    ending : (t : Segment) → In t T → (u : Segment) → u.b ≡ t.b → Along (direction u) (direction t) → u.b ≡ (end_of d m x).b → inside (direction (back (end_of d m x))) (direction (begin_of d m n)) (direction (back u)) ≡ false
    ending t j u e k f = same (back u) (back t) (along_back u t k) ∙ (old t j).end (sym e ∙ f ∙ ends)

    begin_ends : (t : Segment) → In t T → (begin_of d m t ≡ end_of d m t) ⊎ (((begin_of d m t).b ≡ m) × ((end_of d m t).a ≡ m)) → (begin_of d m t).b ≡ (end_of d m x).b →
        inside (direction (back (end_of d m x))) (direction (begin_of d m n)) (direction (back (begin_of d m t))) ≡ false
    begin_ends t j g e =
        ⊎_elim
        (λ (f : begin_of d m t ≡ end_of d m t). ending t j (begin_of d m t) (ap (λ (s : Segment). s.b) f ∙ end_end d m t) (begin_along d m t h.inner) e)
        (λ (f : ((begin_of d m t).b ≡ m) × ((end_of d m t).a ≡ m)). absurd (away (sym f.0 ∙ e)))
        g

    end_starts : (t : Segment) → In t T → (begin_of d m t ≡ end_of d m t) ⊎ (((begin_of d m t).b ≡ m) × ((end_of d m t).a ≡ m)) → (end_of d m t).a ≡ (end_of d m x).b →
        inside (direction (back (end_of d m x))) (direction (begin_of d m n)) (direction (end_of d m t)) ≡ false
    end_starts t j g e =
        ⊎_elim
        (λ (f : begin_of d m t ≡ end_of d m t). starting t j (end_of d m t) (sym (ap (λ (s : Segment). s.a) f) ∙ begin_start d m t) (end_along d m t h.inner) e)
        (λ (f : ((begin_of d m t).b ≡ m) × ((end_of d m t).a ≡ m)). absurd (away (sym f.1 ∙ e)))
        g

-- ---- at m the last part follows the first, both ways
parts_outside : (s : Segment) (m : Point) → Inner m s → Pieces (Outside (first_part s m) (direction (last_part s m))) s m
parts_outside s m h = record {
  first = record { start = λ e. absurd (h.not_start (sym e)); end = λ e. inside_start (direction (back (first_part s m))) (direction (last_part s m)) };
  last = record { start = λ e. inside_end (direction (back (first_part s m))) (direction (last_part s m)); end = λ e. absurd (h.not_end (sym e)) };
  back_first = record { start = λ e. absurd (h.not_end (sym e)); end = λ e. inside_end (direction (back (first_part s m))) (direction (last_part s m)) };
  back_last = record { start = λ e. inside_start (direction (back (first_part s m))) (direction (last_part s m)); end = λ e. absurd (h.not_start (sym e)) };
}

pub middle_next : (T : List Segment) (d : Segment) (m : Point) → IsStepCut T d m → Next (cut d m T) (first_part d m) (last_part d m)
middle_next T d m h = record {
  meets = refl;
  first = each_cut (Outside (first_part d m) (direction (last_part d m))) d m (parts_outside d m h.inner) T
      (λ t i n nb. record { start = λ e. absurd ((no_vertex T d m h t i).0 e); end = λ e. absurd ((no_vertex T d m h t i).1 e) });
}

pub middle_back : (T : List Segment) (d : Segment) (m : Point) → IsStepCut T d m → Next (cut d m T) (first_part (back d) m) (last_part (back d) m)
middle_back T d m h = record {
  meets = refl;
  first = each_cut (Outside (first_part (back d) m) (direction (last_part (back d) m))) d m (round (parts_outside (back d) m (inner_back d m h.inner))) T
      (λ t i n nb. record { start = λ e. absurd ((no_vertex T d m h t i).0 e); end = λ e. absurd ((no_vertex T d m h t i).1 e) });
}
  where
    round : Pieces (Outside (first_part (back d) m) (direction (last_part (back d) m))) (back d) m → Pieces (Outside (first_part (back d) m) (direction (last_part (back d) m))) d m
    round p = record { first = p.back_first; last = p.back_last; back_first = p.first; back_last = p.last }

-- each step is its only part, or its last part follows its first
pub parts_next : (T : List Segment) (d : Segment) (m : Point) → IsStepCut T d m → (t : Segment) → (begin_of d m t ≡ end_of d m t) ⊎ Next (cut d m T) (begin_of d m t) (end_of d m t)
parts_next T d m h t = by_tests (exact d t) (exact (back d) t)
  where
    by_tests : (b c : Bool) →
        (cond b (first_part d m) (cond c (first_part (back d) m) t) ≡ cond b (last_part d m) (cond c (last_part (back d) m) t))
        ⊎ Next (cut d m T) (cond b (first_part d m) (cond c (first_part (back d) m) t)) (cond b (last_part d m) (cond c (last_part (back d) m) t))
    by_tests true c = inr (middle_next T d m h)
    by_tests false true = inr (middle_back T d m h)
    by_tests false false = inl refl

-- ---- labels that are one for each ring
-- such a label of the cut list is one on both parts of a step
pub parts_same : (T : List Segment) (d : Segment) (m : Point) → IsStepCut T d m → (g : Segment → Bool) → Ringwise (cut d m T) g → (t : Segment) → In t T → g (begin_of d m t) ≡ g (end_of d m t)
parts_same T d m h g rings t i =
    ⊎_elim
    (λ (e : begin_of d m t ≡ end_of d m t). ap g e)
    (λ (k : Next (cut d m T) (begin_of d m t) (end_of d m t)). rings (begin_of d m t) (end_of d m t) (begin_there d m T t i) (end_there d m T t i) k)
    (parts_next T d m h t)

-- and on a step and the part of its whole with which this begins
pub whole_same : (T : List Segment) (d : Segment) (m : Point) → IsStepCut T d m → (g : Segment → Bool) → Ringwise (cut d m T) g → (u : Segment) → In u (cut d m T) → g (begin_of d m (whole d m u)) ≡ g u
whole_same T d m h g rings u i =
    ⊎_elim
    (λ (e : u ≡ begin_of d m (whole d m u)). ap g (sym e))
    (λ (e : u ≡ end_of d m (whole d m u)). parts_same T d m h g rings (whole d m u) (whole_there T d m h u i) ∙ ap g (sym e))
    (part_of T d m h u i)

pub ringwise_joined : (T : List Segment) (d : Segment) (m : Point) → IsStepCut T d m → (g : Segment → Bool) → Ringwise (cut d m T) g → Ringwise T (λ t. g (begin_of d m t))
ringwise_joined T d m h g rings x n i j next =
    parts_same T d m h g rings x i ∙ rings (end_of d m x) (begin_of d m n) (end_there d m T x i) (begin_there d m T n j) (cut_next T d m h x n i next)

pub ringwise_cut : (T : List Segment) (d : Segment) (m : Point) → IsStepCut T d m → (g : Segment → Bool) → Ringwise T g → Ringwise (cut d m T) (λ u. g (whole d m u))
ringwise_cut T d m h g rings u v i j next =
    part_is (λ u. Next (cut d m T) u v → g (whole d m u) ≡ g (whole d m v)) d m T
    (λ x k. ⊎_elim
    (λ (e : begin_of d m x ≡ end_of d m x). λ (f : Next (cut d m T) (begin_of d m x) v). ap (λ z. g (whole d m z)) e ∙ after_end x k (subst (λ z. Next (cut d m T) z v) e f))
    (λ (e : Next (cut d m T) (begin_of d m x) (end_of d m x)). λ (f : Next (cut d m T) (begin_of d m x) v).
    ap g (whole_begin T d m h x k ∙ sym (whole_end T d m h x k)) ∙ ap (λ z. g (whole d m z)) (next_same (cut d m T) (begin_of d m x) (end_of d m x) v h.cut_plain (end_there d m T x k) j e f))
    (parts_next T d m h x))
    after_end u i next
  where
    after_end : (x : Segment) → In x T → Next (cut d m T) (end_of d m x) v → g (whole d m (end_of d m x)) ≡ g (whole d m v)
    after_end x k f =
        let n = follows T h.plain x k in
        ap g (whole_end T d m h x k)
        ∙ rings x n.0 k n.1.0 n.1.1
        ∙ sym (ap g (whole_begin T d m h n.0 n.1.0))
        ∙ ap (λ z. g (whole d m z)) (next_same (cut d m T) (end_of d m x) (begin_of d m n.0) v h.cut_plain (begin_there d m T n.0 n.1.0) j (cut_next T d m h x n.0 k n.1.1) f)
