-- The segments of one simple line: they meet at ends alone, and stand once; those of a line walked back.
use Rattle.std.proofs.Common.{◌≡◌, ◌≢◌, ℕ, zero, suc, ◌<◌, refl, sym, ◌∙◌, ap, subst, arith, ℤ, pos, ◌-ℤ◌, ◌⊎◌, inl, inr, ⊎_elim, true, List, [], ◌∷◌, ◌++◌, length, slice_get, get_or, ◌-◌, ◌+◌, Some}
use Rattle.std.specs.Prelude.{reverse}
use Rattle.std.specs.List.{list_all}
use Rattle.std.proofs.lemmas.Bool.{cases_order, cases_eq}
use Rattle.std.proofs.lemmas.List.{reverse-reverse}
use Rattle.std.proofs.lemmas.Option.{slice_get_within, slice_get-get_or}
use Rattle.std.proofs.lemmas.Bool.Decides.{Decides-not}
use Rattle.topo_base.specs.Point.{Point, same_point}
use Rattle.topo_base.specs.RationalPoint.{RationalPoint, IsAt}
use Rattle.plane.specs.Direction.{Direction, direction_to, cross, IsNotZero}
use Rattle.plane.specs.Segment.{Segment}
use Rattle.plane.specs.Line.{segments_of, first_vertex, last_vertex, is_proper}
use Rattle.plane.specs.SimpleLine.{IsSimpleLine}
use Rattle.plane.specs.Relation.{IsEnd}
use Rattle.plane.specs.RationalTests.{IsOn}
use Rattle.plane.proofs.Collinear.{on_round}
use Rattle.plane.specs.Crossings.{back}
use Rattle.plane.proofs.Directions.{length_positive}
use Rattle.plane.proofs.LineCuts.{last_ends}
use Rattle.plane.proofs.ListTests.{some_same, all_at}
use Rattle.plane.proofs.PointTests.{Decides-same_point}
use Rattle.plane.proofs.Ring.{multiplied, signed}
use Rattle.plane.proofs.SegmentParts.{start_on, end_on}
use Rattle.plane.proofs.SimpleTests.{before_it, first_begins}
use Rattle.face_rings.proofs.Inside.{IsInside, inside_both}
use Rattle.face_rings.proofs.HalfLines.{reverse_is}
use Rattle.parity_laws.specs.Rings.{In, Once}
use Rattle.face_laws.proofs.Lists.{once_placed}
use Rattle.face_laws.proofs.Tying.{MeetAtEnds}
use Rattle.parity_laws.specs.Coming.{walked_back}
use Rattle.parity_laws.proofs.OnLine.{in_walked}

-- ---- proper segments
pub proper_at : (l : List Point) (k : ℕ) (s : Segment) → list_all is_proper (segments_of l) ≡ true → slice_get (segments_of l) k ≡ Some s → s.a ≢ s.b
proper_at l k s proper e same =
    (Decides-not (same_point s.a s.b) (Decides-same_point s.a s.b)).0 (all_at is_proper (segments_of l) k s proper e) (ap (λ (p : Point). p.x) same, ap (λ (p : Point). p.y) same)

pub not_zero : (s : Segment) → s.a ≢ s.b → IsNotZero (direction_to s.a s.b)
not_zero s n ex ey = let fx = flat s.a.x s.b.x ex in let fy = flat s.a.y s.b.y ey in n (λ i. record { x = fx i; y = fy i })
  where
    flat : (x y : ℤ) → y -ℤ x ≡ pos 0 → x ≡ y
    flat x y e = omega (arith, signed)

-- a point inside
pub middle : (s : Segment) → s.a ≢ s.b → (q : RationalPoint) × IsInside s.a s.b q
middle s n =
    let some = not_zero s n in
    let (q, (one, two)) = inside_both s.a s.b s.b (record { straight = cross_self (direction_to s.a s.b); ahead = length_positive (direction_to s.a s.b) some }) some in
    (q, one)
  where
    cross_self : (u : Direction) → cross u u ≡ pos 0
    cross_self u = simp multiplied (omega (arith, signed))

pub inside_no_end : (s : Segment) (q : RationalPoint) → IsInside s.a s.b q → IsEnd q s → ⊥
inside_no_end s q h = ⊎_elim (λ (a : IsAt s.a q). h.not_start a) (λ (b : IsAt s.b q). h.not_end b)

-- two that meet at ends are not one, in any direction
pub apart_at_ends : (s t : Segment) → s.a ≢ s.b → MeetAtEnds s t → (s ≡ t) ⊎ (s ≡ back t) → ⊥
apart_at_ends s t n ends same =
    let (q, mid) = middle s n in
    inside_no_end s q mid (ends q mid.on (⊎_elim (λ (e : s ≡ t). subst (IsOn q) e mid.on) (λ (e : s ≡ back t). on_round (back t) q (subst (IsOn q) e mid.on)) same)).0

-- ---- segments of one line
meet_in_order : (l : List Point) (k m : ℕ) (s t : Segment) → IsSimpleLine (segments_of l) → k < m → slice_get (segments_of l) k ≡ Some s → slice_get (segments_of l) m ≡ Some t → MeetAtEnds s t
meet_in_order l k m s t simple below e f q on_s on_t =
    ⊎_elim
    (λ (h : (m ≡ k + 1) × IsAt s.b q).
    let next : m ≡ suc k = omega (arith, h.0) in
    let b = before_it l k t (subst (λ n. slice_get (segments_of l) n ≡ Some t) next f) in
    let same : b.0 ≡ s = some_same b.0 s (sym b.1.0 ∙ e) in
    (inr h.1, inl (subst (λ (p : Point). IsAt p q) (ap (λ (r : Segment). r.b) (sym same) ∙ b.1.1) h.1)))
    (λ (h : (k ≡ 0) × (m + 1 ≡ length (segments_of l)) × IsAt s.a q × IsAt t.b q). (inl h.2, inr h.3))
    (simple k m s t q below e f on_s on_t)

pub line_ends_meet : (l : List Point) (k m : ℕ) (s t : Segment) → IsSimpleLine (segments_of l) → k ≢ m → slice_get (segments_of l) k ≡ Some s → slice_get (segments_of l) m ≡ Some t → MeetAtEnds s t
line_ends_meet l k m s t simple other e f q on_s on_t =
    ⊎_elim
    (λ (same : k ≡ m). absurd (other same))
    (⊎_elim
    (λ (h : k < m). meet_in_order l k m s t simple h e f q on_s on_t)
    (λ (h : m < k). let both = meet_in_order l m k t s simple h f e q on_t on_s in (both.1, both.0)))
    (cases_order k m)

-- each stands once
pub line_once : (l : List Point) → list_all is_proper (segments_of l) ≡ true → IsSimpleLine (segments_of l) → Once (segments_of l)
line_once l proper simple =
    once_placed (segments_of l) (λ i j s e f.
    ⊎_elim
    (λ (same : i ≡ j). same)
    (λ (other : i ≡ j → ⊥). absurd (apart_at_ends s s (proper_at l i s proper e) (line_ends_meet l i j s s simple other e f) (inl refl)))
    (cases_eq i j))

-- where the line begins or ends on a segment, that has an end
pub at_line_end : (l : List Point) (k : ℕ) (s : Segment) (q : RationalPoint) → IsSimpleLine (segments_of l) → slice_get (segments_of l) k ≡ Some s → IsOn q s →
    IsAt (first_vertex l) q ⊎ IsAt (last_vertex l) q → IsEnd q s
at_line_end l k s q simple e on ends =
    ⊎_elim
    (λ (first : IsAt (first_vertex l) q). by_first k e first)
    (λ (last : IsAt (last_vertex l) q). by_last last)
    ends
  where
    by_first : (k : ℕ) → slice_get (segments_of l) k ≡ Some s → IsAt (first_vertex l) q → IsEnd q s
    by_first zero e first = inl (subst (λ (p : Point). IsAt p q) (first_begins l s e) first)
    by_first (suc k) e first =
        let within = slice_get_within (segments_of l) (suc k) s e in
        let r = get_or (segments_of l) 0 s in
        let f : slice_get (segments_of l) 0 ≡ Some r = slice_get-get_or (segments_of l) 0 s (omega arith) in
        let on_r = start_on r q (subst (λ (p : Point). IsAt p q) (first_begins l r f) first) in
        (line_ends_meet l 0 (suc k) r s simple (λ same. omega arith) f e q on_r on).1

    by_last : IsAt (last_vertex l) q → IsEnd q s
    by_last last =
        let within = slice_get_within (segments_of l) k s e in
        let m = length (segments_of l) - 1 in
        let r = get_or (segments_of l) m s in
        let f : slice_get (segments_of l) m ≡ Some r = slice_get-get_or (segments_of l) m s (omega arith) in
        let at_r : IsAt r.b q = subst (λ (p : Point). IsAt p q) (last_ends l m r f (omega arith)) last in
        ⊎_elim
        (λ (same : k ≡ m). inr (subst (λ (t : Segment). IsAt t.b q) (some_same r s (sym f ∙ subst (λ n. slice_get (segments_of l) n ≡ Some s) same e)) at_r))
        (λ (other : k ≡ m → ⊥). (line_ends_meet l k m s r simple other e f q on (end_on r q at_r)).0)
        (cases_eq k m)

-- ---- a line walked back

segments-push : (l : List Point) (z a : Point) → segments_of ((l ++ z ∷ []) ++ a ∷ []) ≡ segments_of (l ++ z ∷ []) ++ record { a = z; b = a } ∷ []
segments-push [] z a = refl
segments-push (x ∷ []) z a = refl
segments-push (x ∷ y ∷ l) z a = ap (λ ss. record { a = x; b = y } ∷ ss) (segments-push (y ∷ l) z a)

pub segments-reverse : (l : List Point) → segments_of (reverse l) ≡ walked_back (segments_of l)
segments-reverse [] = refl
segments-reverse (a ∷ []) = refl
segments-reverse (a ∷ b ∷ l) =
    ap segments_of (reverse_is a (b ∷ l) ∙ ap (λ r. r ++ a ∷ []) (reverse_is b l)) ∙ segments-push (reverse l) b a
    ∙ ap (λ ss. ss ++ record { a = b; b = a } ∷ []) (ap segments_of (sym (reverse_is b l)) ∙ segments-reverse (b ∷ l))

pub in_reverse : (s : Segment) (l : List Point) → In s (segments_of l) → In (back s) (segments_of (reverse l))
in_reverse s l i = subst (In (back s)) (sym (segments-reverse l)) (in_walked s (segments_of l) i)

pub from_reverse : (s : Segment) (l : List Point) → In s (segments_of (reverse l)) → In (back s) (segments_of l)
from_reverse s l i = subst (λ r. In (back s) (segments_of r)) (reverse-reverse l) (in_reverse s (reverse l) i)
