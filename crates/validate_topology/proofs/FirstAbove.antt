-- The first segment straight above a point: it is found, and in a plain drawing it is one.
use Rattle.std.proofs.Common.{◌≡◌, ◌≢◌, ◌∙◌, ⊎_elim, ◌⊎◌, inl, inr, ℕ, zero, suc, ◌+◌, ◌<◌, ◌≤◌, ◌==◌, ℤ, pos, ◌+ℤ◌, ◌-ℤ◌, ◌*ℤ◌, ◌<ℤ◌, ◌≤ℤ◌, Bool, true, false, ◌&&◌, ◌||◌, cond, IsTrue, List, [], ◌∷◌, ◌++◌, map, flat_map, length, Option, Some, None, refl, sym, ap, subst, arith}
use Rattle.std.specs.Prelude.{Contains, count_by, fold, int_lt, neg_ℤ, int_le, slice_get, slice_index_or, if◌then◌else◌}
use Rattle.std.specs.Ordering.{int_eq}
use Rattle.std.proofs.lemmas.Bool.{and_from, and_parts, or_cases, eqb-true, eq-eqb, cases_eq, cases_lt}
use Rattle.std.proofs.lemmas.Bool.Decides.{Decides-int_eq}
use Rattle.std.proofs.lemmas.List.Elements.{Contains-append_cases}
use Rattle.std.proofs.Math.IntN.{*ℤ-zero}
use Rattle.std.proofs.lemmas.Int.{ints}
use Rattle.std.specs.Option.{option_map}
use Rattle.topo_base.specs.Point.{Point}
use Rattle.topo_base.specs.RationalPoint.{RationalPoint, IsAt, rational}
use Rattle.topo_base.specs.declared.ids.Dart.{Dart}
use Rattle.topo_base.specs.declared.rows.EdgeRow.{EdgeRow}
use Rattle.plane.specs.Crossings.{back, larger, larger_segment}
use Rattle.plane.specs.Line.{segments_of}
use Rattle.plane.specs.Orientation.{area, is_left, is_right}
use Rattle.plane.specs.Parity.{is_over, passes_above}
use Rattle.plane.specs.RationalTests.{IsOn}
use Rattle.plane.specs.Relation.{turn}
use Rattle.plane.specs.Segment.{Segment}
use Rattle.plane.specs.SimpleLine.{IsSimpleLine}
use Rattle.plane.proofs.Collinear.{on_round}
use Rattle.plane.proofs.LineCuts.{place_of}
use Rattle.plane.proofs.LineLemmas.{end_on}
use Rattle.plane.proofs.ListTests.{contains_here, contains_there, contains_cases, contains_none, some_same}
use Rattle.plane.proofs.Ring.{multiplied, signed}
use Rattle.plane.proofs.Scale.{on_smaller, smaller_spot}
use Rattle.plane.proofs.Signs.{mul_not_negative, mul_positive, no_zero_divisor, order, times_one}
use Rattle.plane.proofs.Tests.{lt_no, lt_yes, no_lt, yes_lt}
use Rattle.drawing.specs.Drawing.{Drawing, Edge, edge_id_of}
use Rattle.drawing.specs.PlainInOrder.{IsPlainInOrder}
use Rattle.drawing.specs.Rows.{row_at}
use Rattle.drawing.specs.Tables.{drawn_edge}
use Rattle.drawing.proofs.Members.{contains-map, contains-mapped, ids_differ, pairwise-same}
use Rattle.slab_index.specs.declared.piece.Piece.{Piece}
use Rattle.slab_index.specs.Above.{dart_beside, IsDartAbove, IsFirstAbove, is_lower, is_lower_rightward, rightward, run, segment_of, with_lower}
use Rattle.slab_index.specs.Pieces.{AreTogether, piece_of, pieces_of, pieces_of_all}
use Rattle.slab_index.proofs.Lowest.{IsFound, all_found, goes_right}
use Rattle.slab_index.proofs.Paths.{both_ways, count_cons, decide, second_no}
use Rattle.validate_topology.specs.FaceAbove.{IsFaceAbove, face_left_of}

-- ---- lists with the same elements, each as often
abbrev same_point_as : Point → Point → Bool
same_point_as p q = int_eq p.x q.x && int_eq p.y q.y

abbrev same_piece : Piece → Piece → Bool
same_piece e x = e.edge == x.edge && same_point_as e.start x.start && same_point_as e.end x.end

point_is : (p q : Point) → same_point_as p q ≡ true → p ≡ q
point_is p q e =
    let parts = and_parts (int_eq p.x q.x) (int_eq p.y q.y) e in
    let x = (Decides-int_eq p.x q.x).0 parts.0 in
    let y = (Decides-int_eq p.y q.y).0 parts.1 in
    λ i. record { x = x i; y = y i }

itself : (p : Point) → same_point_as p p ≡ true
itself p = and_from (int_eq p.x p.x) (int_eq p.y p.y) ((Decides-int_eq p.x p.x).1 refl) ((Decides-int_eq p.y p.y).1 refl)

piece_is : (e x : Piece) → same_piece e x ≡ true → e ≡ x
piece_is e x t =
    let first = and_parts (e.edge == x.edge && same_point_as e.start x.start) (same_point_as e.end x.end) t in
    let second = and_parts (e.edge == x.edge) (same_point_as e.start x.start) first.0 in
    let n = eqb-true e.edge x.edge second.0 in
    let a = point_is e.start x.start second.1 in
    let b = point_is e.end x.end first.1 in
    λ i. record { edge = n i; start = a i; end = b i }

piece_itself : (e : Piece) → same_piece e e ≡ true
piece_itself e =
    and_from (e.edge == e.edge && same_point_as e.start e.start) (same_point_as e.end e.end) (and_from (e.edge == e.edge) (same_point_as e.start e.start) (eq-eqb e.edge e.edge refl) (itself e.start)) (itself e.end)

counted_there : (e : Piece) (xs : List Piece) → Contains xs e → 0 < count_by (same_piece e) xs
counted_there e [] c = absurd (contains_none e c)
counted_there e (x ∷ xs) c =
    ⊎_elim
    (λ (k : x ≡ e).
    let n = count_cons (same_piece e) x xs ∙ ap (λ b. cond b 1 0 + count_by (same_piece e) xs) (subst (λ y. same_piece e y ≡ true) (sym k) (piece_itself e)) in
    omega (arith, n))
    (λ (k : Contains xs e).
    let n = count_cons (same_piece e) x xs in
    let m = counted_there e xs k in
    omega (arith, n, m))
    (contains_cases e x xs c)

there_counted : (e : Piece) (xs : List Piece) → 0 < count_by (same_piece e) xs → Contains xs e
there_counted e [] h = absurd (let k : 0 < 0 = h in omega (arith, k))
there_counted e (x ∷ xs) h =
    ⊎_elim
    (λ (t : same_piece e x ≡ true). subst (λ y. Contains (x ∷ xs) y) (sym (piece_is e x t)) (contains_here x xs))
    (λ (t : same_piece e x ≡ false).
    let n = count_cons (same_piece e) x xs ∙ ap (λ b. cond b 1 0 + count_by (same_piece e) xs) t in
    contains_there e x xs (there_counted e xs (omega (arith, n, h))))
    (decide (same_piece e x))

to_counted : (kept pieces : List Piece) (e : Piece) → AreTogether kept pieces [] → Contains kept e → Contains pieces e
to_counted kept pieces e same c =
    let n = same (same_piece e) in
    let m = counted_there e kept c in
    let none : count_by (same_piece e) [] ≡ 0 = refl in
    there_counted e pieces (omega (arith, n, m, none))

from_counted : (kept pieces : List Piece) (e : Piece) → AreTogether kept pieces [] → Contains pieces e → Contains kept e
from_counted kept pieces e same c =
    let n = same (same_piece e) in
    let m = counted_there e pieces c in
    let none : count_by (same_piece e) [] ≡ 0 = refl in
    there_counted e kept (omega (arith, n, m, none))

pub counted_above : (rows : List EdgeRow) (kept : List Piece) (p : Point) (d : Option Dart) → AreTogether kept (pieces_of_all rows) [] → IsDartAbove p kept d → IsDartAbove p (pieces_of_all rows) d
counted_above rows kept p None same h = λ e c. h e (from_counted kept (pieces_of_all rows) e same c)
counted_above rows kept p (Some d) same (e, (f, is)) =
    (e, (record { kept = to_counted kept (pieces_of_all rows) e same f.kept; over = f.over; first = λ g c over. f.first g (from_counted kept (pieces_of_all rows) g same c) over }, is))

-- ---- there is a first one, or none
found_above : (p : Point) (pieces : List Piece) (found : Option Piece) → IsFound p pieces found → IsDartAbove p pieces (option_map (dart_beside p) found)
found_above p pieces None h = h
found_above p pieces (Some e) h = (e, (h, refl))

pub some_above : (rows : List EdgeRow) (p : Point) → (f : ℕ) × IsFaceAbove rows p f
some_above rows p =
    let pieces = pieces_of_all rows in
    let found = fold (with_lower p) None pieces in
    let first = option_map (dart_beside p) found in
    (face_left_of rows first, record { first = first; above = found_above p pieces found (all_found p pieces [] None (λ e c. absurd (contains_none e c))); face = refl })

-- ---- two that are first are as high as one another, and of one slope
first_no : (a b : Bool) → a || b ≡ false → (a ≡ false) × (b ≡ false)
first_no true b e = absurd cc
first_no false b e = (refl, e)

neither_lower : (x y t u : ℤ) → u ≡ neg_ℤ t → (int_lt x y || int_eq x y && int_lt t (pos 0)) ≡ false → (int_lt y x || int_eq y x && int_lt u (pos 0)) ≡ false → (x ≡ y) × (t ≡ pos 0)
neither_lower x y t u other e f =
    let a = first_no (int_lt x y) (int_eq x y && int_lt t (pos 0)) e in
    let b = first_no (int_lt y x) (int_eq y x && int_lt u (pos 0)) f in
    let below = no_lt x y a.0 in
    let above = no_lt y x b.0 in
    let same : x ≡ y = omega (arith, signed) in
    let turn_not = no_lt t (pos 0) (second_no (int_eq x y) (int_lt t (pos 0)) ((Decides-int_eq x y).1 same) a.1) in
    let back_not = no_lt u (pos 0) (second_no (int_eq y x) (int_lt u (pos 0)) ((Decides-int_eq y x).1 (sym same)) b.1) in
    (same, omega (arith, signed))

turn_back : (r h q i : ℤ) → q *ℤ h -ℤ i *ℤ r ≡ neg_ℤ (r *ℤ i -ℤ h *ℤ q)
turn_back r h q i = simp multiplied (omega (arith, signed))

-- ---- a point half a unit to the right of both
abbrev half_right : ℤ → ℤ → ℤ → Point → Point
half_right w h area p = record { x = w *ℤ (p.x +ℤ p.x) +ℤ w; y = w *ℤ (p.y +ℤ p.y) -ℤ (area +ℤ area) +ℤ h }

bracket : (v i ax ay x y w h one other : ℤ) → other ≡ v *ℤ (y -ℤ ay) -ℤ i *ℤ (x -ℤ ax) → one *ℤ v ≡ other *ℤ w → w *ℤ i -ℤ h *ℤ v ≡ pos 0
    → v *ℤ ((w *ℤ (y +ℤ y) -ℤ (one +ℤ one) +ℤ h) -ℤ (w +ℤ w) *ℤ ay) -ℤ i *ℤ ((w *ℤ (x +ℤ x) +ℤ w) -ℤ (w +ℤ w) *ℤ ax) ≡ pos 0
bracket v i ax ay x y w h one other is same turn =
    let m = simp multiplied at (subst (λ z. one *ℤ v ≡ z *ℤ w) is same) in
    let n = simp multiplied at turn in
    simp multiplied (omega (arith, signed))

wider_area : (k ax ay bx by x y : ℤ) → (k *ℤ bx -ℤ k *ℤ ax) *ℤ (y -ℤ k *ℤ ay) -ℤ (k *ℤ by -ℤ k *ℤ ay) *ℤ (x -ℤ k *ℤ ax) ≡ k *ℤ ((bx -ℤ ax) *ℤ (y -ℤ k *ℤ ay) -ℤ (by -ℤ ay) *ℤ (x -ℤ k *ℤ ax))
wider_area k ax ay bx by x y = simp multiplied (omega (arith, signed))

times_none : (k z : ℤ) → z ≡ pos 0 → k *ℤ z ≡ pos 0
times_none k z e = rw (e, *ℤ-zero k)

wider_less : (k a b : ℤ) → pos 0 <ℤ k → a <ℤ b → (k *ℤ a) <ℤ (k *ℤ b)
wider_less k a b hk h =
    let m = simp multiplied at (mul_positive k (b -ℤ a) hk (omega (arith, signed))) in
    omega (arith, signed)

begins_before : (w a x : ℤ) → pos 0 <ℤ w → a ≤ℤ x → ((w +ℤ w) *ℤ a) ≤ℤ (w *ℤ (x +ℤ x) +ℤ w)
begins_before w a x hw h =
    let m = simp multiplied at (mul_not_negative w (x -ℤ a) (omega (arith, signed)) (omega (arith, signed))) in
    simp multiplied (omega (arith, signed))

ends_behind : (w b x u : ℤ) → u ≡ pos 1 → w *ℤ u ≡ w → pos 0 <ℤ w → x <ℤ b → (w *ℤ (x +ℤ x) +ℤ w) ≤ℤ ((w +ℤ w) *ℤ b)
ends_behind w b x u one times hw h =
    let m = simp multiplied at (mul_not_negative w (b -ℤ x -ℤ u) (omega (arith, signed)) (omega (arith, signed))) in
    simp multiplied (omega (arith, signed))

not_whole : (w x a u : ℤ) → u ≡ pos 1 → w *ℤ u ≡ w → pos 0 <ℤ w → w *ℤ (x +ℤ x) +ℤ w ≡ a *ℤ (w +ℤ w) → ⊥
not_whole w x a u one times hw e =
    let m = simp multiplied at e in
    let z : w *ℤ ((x +ℤ x) +ℤ u -ℤ (a +ℤ a)) ≡ pos 0 = simp multiplied (omega (arith, signed)) in
    let k = no_zero_divisor w ((x +ℤ x) +ℤ u -ℤ (a +ℤ a)) z (omega (arith, signed)) in
    omega (arith, signed)

-- p is over what is from the one end to the other
abbrev IsSpanned : Point → Segment → Type 0
IsSpanned p s = (s.a.x ≤ℤ p.x) × (p.x <ℤ s.b.x)

spanned : (p : Point) (s : Segment) → IsTrue (is_over p s) → IsSpanned p (rightward s)
spanned p s h =
    ⊎_elim
    (λ (e : passes_above s.a s.b p ≡ true).
    let i = and_parts (int_le s.a.x p.x && int_lt p.x s.b.x) (is_right s.a s.b p) e in
    let j = and_parts (int_le s.a.x p.x) (int_lt p.x s.b.x) i.0 in
    let from : s.a.x ≤ℤ p.x = (let u = j.0 in omega (arith, ints)) in
    let to = yes_lt p.x s.b.x j.1 in
    subst (λ b. IsSpanned p (if b then s else back s)) (sym (lt_yes s.a.x s.b.x (omega (arith, signed)))) (from, to))
    (λ (e : passes_above s.b s.a p ≡ true).
    let i = and_parts (int_le s.b.x p.x && int_lt p.x s.a.x) (is_right s.b s.a p) e in
    let j = and_parts (int_le s.b.x p.x) (int_lt p.x s.a.x) i.0 in
    let from : s.b.x ≤ℤ p.x = (let u = j.0 in omega (arith, ints)) in
    let to = yes_lt p.x s.a.x j.1 in
    subst (λ b. IsSpanned p (if b then s else back s)) (sym (lt_no s.a.x s.b.x (omega (arith, signed)))) (from, to))
    (or_cases (passes_above s.a s.b p) (passes_above s.b s.a p) h)

-- the point lies on a segment t that goes to the right, where t is as high over p as one that goes w to the right and h up, and as steep
lies_on : (p : Point) (t : Segment) (w h one : ℤ) (hw : pos 0 <ℤ w) (hk : pos 0 <ℤ (w +ℤ w)) → IsSpanned p t → one *ℤ run t ≡ area t.a t.b p *ℤ w → w *ℤ (t.b.y -ℤ t.a.y) -ℤ h *ℤ run t ≡ pos 0
    → IsOn (smaller_spot (w +ℤ w) hk (rational (half_right w h one p))) t
lies_on p t w h one hw hk span same turn =
    let k = w +ℤ w in
    let q = half_right w h one p in
    let from = span.0 in
    let to = span.1 in
    on_smaller k hk t (rational q)
    (end_on (larger_segment k t) q (wider_less k t.a.x t.b.x hk (omega (arith, signed))) (begins_before w t.a.x p.x hw from) (ends_behind w t.b.x p.x (pos 1) refl (times_one w) hw to)
    (wider_area k t.a.x t.a.y t.b.x t.b.y q.x q.y ∙ times_none k _ (bracket (run t) (t.b.y -ℤ t.a.y) t.a.x t.a.y p.x p.y w h one (area t.a t.b p) refl same turn)))

on_either : (q : RationalPoint) (s : Segment) (b : Bool) → IsOn q (if b then s else back s) → IsOn q s
on_either q s true on = on
on_either q s false on = on_round (back s) q on

-- no grid point lies there
abbrev HaveInner : Segment → Segment → Type 0
HaveInner s t = (q : RationalPoint) × (IsOn q s × IsOn q t × ((v : Point) → IsAt v q → ⊥))

have_inner : (p : Point) (s t : Segment) → IsTrue (is_over p s) → IsTrue (is_over p t) → is_lower p s t ≡ false → is_lower p t s ≡ false → HaveInner s t
have_inner p s t os ot e f = by_right (rightward s) (rightward t) (spanned p s os) (spanned p t ot) e f (on_either_of s) (on_either_of t)
  where
    no_turn : (w h : ℤ) → w *ℤ h -ℤ h *ℤ w ≡ pos 0
    no_turn w h = simp multiplied (omega (arith, signed))

    on_either_of : (s : Segment) (q : RationalPoint) → IsOn q (rightward s) → IsOn q s
    on_either_of s q on = on_either q s (int_lt s.a.x s.b.x) on

    by_right : (x y : Segment) → IsSpanned p x → IsSpanned p y → is_lower_rightward p x y ≡ false → is_lower_rightward p y x ≡ false → ((q : RationalPoint) → IsOn q x → IsOn q s) → ((q : RationalPoint) → IsOn q y → IsOn q t) → HaveInner s t
    by_right x y span other lower higher to_s to_t =
        let w = run x in
        let h = x.b.y -ℤ x.a.y in
        let from = span.0 in
        let to = span.1 in
        let hw : pos 0 <ℤ w = omega (arith, signed) in
        let hk : pos 0 <ℤ (w +ℤ w) = omega (arith, signed) in
        let both = neither_lower (area x.a x.b p *ℤ run y) (area y.a y.b p *ℤ w) (turn x y) (turn y x) (turn_back w h (run y) (y.b.y -ℤ y.a.y)) higher lower in
        let q = smaller_spot (w +ℤ w) hk (rational (half_right w h (area x.a x.b p) p)) in (
          q,
          (
            to_s q (lies_on p x w h (area x.a x.b p) hw hk span refl (no_turn w h)),
            to_t q (lies_on p y w h (area x.a x.b p) hw hk other both.0 both.1),
            λ v at. not_whole w p.x v.x (pos 1) refl (times_one w) hw (at.0 ∙ ap (λ z. v.x *ℤ z) (times_one (w +ℤ w))),
          ),
        )

-- ---- so in a plain drawing they are of one edge, and are one segment
one_segment : (ss : List Segment) (s t : Segment) → IsSimpleLine ss → Contains ss s → Contains ss t → HaveInner s t → s ≡ t
one_segment ss s t simple cs ct (q, (on, onto, none)) = by_place (place_of s ss cs) (place_of t ss ct)
  where
    no_vertex : (x y : Segment) (i j : ℕ) → ((j ≡ i + 1) × IsAt x.b q) ⊎ ((i ≡ 0) × (j + 1 ≡ length ss) × IsAt x.a q × IsAt y.b q) → ⊥
    no_vertex x y i j = ⊎_elim (λ h. none x.b h.1) (λ h. none x.a h.2)

    by_place : ((i : ℕ) × (slice_get ss i ≡ Some s)) → ((j : ℕ) × (slice_get ss j ≡ Some t)) → s ≡ t
    by_place (i, is) (j, also) =
        ⊎_elim
        (λ (l : i < j). absurd (no_vertex s t i j (simple i j s t q l is also on onto)))
        (λ (l : j ≤ i).
        ⊎_elim
        (λ (m : j < i). absurd (no_vertex t s j i (simple j i t s q m also is onto on)))
        (λ (m : i ≤ j).
        let same : i ≡ j = omega arith in
        some_same s t (sym is ∙ ap (slice_get ss) same ∙ also))
        (cases_lt j i))
        (cases_lt i j)

record IsPieceOf (rows : List EdgeRow) (e : Piece) : Type 0 where
  row : EdgeRow
  listed : Contains rows row
  segment : Segment
  own : Contains (segments_of row.geom) segment
  is : piece_of row.edge_id segment ≡ e

of_row : (rows : List EdgeRow) (e : Piece) → Contains (pieces_of_all rows) e → IsPieceOf rows e
of_row [] e c = absurd (contains_none e c)
of_row (r ∷ rows) e c =
    ⊎_elim
    (λ (k : Contains (pieces_of r) e).
    let m = contains-mapped (piece_of r.edge_id) e (segments_of r.geom) k in
    record { row = r; listed = contains_here r rows; segment = m.0; own = m.1.0; is = m.1.1 })
    (λ (k : Contains (pieces_of_all rows) e).
    let m = of_row rows e k in
    record { row = m.row; listed = contains_there m.row r rows m.listed; segment = m.segment; own = m.own; is = m.is })
    (Contains-append_cases (pieces_of r) (pieces_of_all rows) e c)

one_piece : (S : Drawing) (rows : List EdgeRow) (e f : Piece) → IsPlainInOrder (record S { edges = map drawn_edge rows }) → Contains (pieces_of_all rows) e → Contains (pieces_of_all rows) f → HaveInner (segment_of e) (segment_of f) → e ≡ f
one_piece S rows e f plain ce cf inner = by_rows (of_row rows e ce) (of_row rows f cf)
  where
    T : Drawing
    T = record S { edges = map drawn_edge rows }

    by_rows : IsPieceOf rows e → IsPieceOf rows f → e ≡ f
    by_rows m n =
        let there = contains-map drawn_edge m.row rows m.listed in
        let also = contains-map drawn_edge n.row rows n.listed in
        let common : HaveInner m.segment n.segment = subst (λ (x : Piece). HaveInner m.segment (segment_of x)) (sym n.is) (subst (λ (x : Piece). HaveInner (segment_of x) (segment_of f)) (sym m.is) inner) in
        ⊎_elim
        (λ (same : m.row.edge_id ≡ n.row.edge_id).
        let edges = pairwise-same (λ x y. edge_id_of x ≢ edge_id_of y) T.edges (drawn_edge m.row) (drawn_edge n.row) (ids_differ edge_id_of 0 T.next_ids.edge T.edges (record { test = plain.edge_ids })) there also (λ far. far same) (λ far. far (sym same)) in
        let line = ap (λ (x : Edge). segments_of x.geom) edges in
        let one = one_segment (segments_of m.row.geom) m.segment n.segment (plain.plain.lines_simple (drawn_edge m.row) there) m.own (subst (λ (ss : List Segment). Contains ss n.segment) (sym line) n.own) common in
        sym m.is ∙ (λ i. piece_of (same i) (one i)) ∙ n.is)
        (λ (far : m.row.edge_id ≡ n.row.edge_id → ⊥).
        let meet = plain.plain.edges_meet_at_nodes (drawn_edge m.row) (drawn_edge n.row) common.0 there also far (m.segment, (m.own, common.1.0)) (n.segment, (n.own, common.1.1)) in
        absurd (common.1.2 meet.0.geom meet.1.1))
        (cases_eq m.row.edge_id n.row.edge_id)

one_first : (S : Drawing) (rows : List EdgeRow) (p : Point) (c d : Option Dart) → IsPlainInOrder (record S { edges = map drawn_edge rows }) → IsDartAbove p (pieces_of_all rows) c → IsDartAbove p (pieces_of_all rows) d → c ≡ d
one_first S rows p None None plain h k = refl
one_first S rows p None (Some d) plain h (f, (first, is)) = absurd (both_ways _ (h f first.kept) first.over)
one_first S rows p (Some c) None plain (e, (first, is)) k = absurd (both_ways _ (k e first.kept) first.over)
one_first S rows p (Some c) (Some d) plain (e, (first, is)) (f, (other, also)) =
    let inner = have_inner p (segment_of e) (segment_of f) first.over other.over (other.first e first.kept first.over) (first.first f other.kept other.over) in
    ap Some (is ∙ ap (dart_beside p) (one_piece S rows e f plain first.kept other.kept inner) ∙ sym also)

pub one_above : (S : Drawing) (rows : List EdgeRow) (p : Point) (f g : ℕ) → IsPlainInOrder (record S { edges = map drawn_edge rows }) → IsFaceAbove rows p f → IsFaceAbove rows p g → f ≡ g
one_above S rows p f g plain is also = is.face ∙ ap (face_left_of rows) (one_first S rows p is.first also.first plain is.above also.above) ∙ sym also.face
