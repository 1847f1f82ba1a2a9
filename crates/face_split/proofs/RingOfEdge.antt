-- The border of a face in tables whose links are right, and the dart of an edge in it.
use Rattle.std.proofs.Common.{◌≡◌, ℕ, Bool, true, false, ◌||◌, eqb, List, [], ◌∷◌, ◌++◌, map, filter, cond, IsTrue, refl, sym, ap, ◌∙◌, subst, eq-eqb, ⊎_elim}
use Rattle.std.specs.List.{Contains, flat_map}
use Rattle.topo_base.specs.declared.rows.EdgeRow.{EdgeRow}
use Rattle.plane.proofs.ListTests.{contains_here, contains_there, contains_cases, contains_none}
use Rattle.drawing.specs.Drawing.{Drawing, Edge}
use Rattle.drawing.specs.HalfEdge.{HalfEdge, both_ways, dart_of, forward_of, backward_of, half_edges}
use Rattle.drawing.specs.Ring.{ring_of as the_ring_of}
use Rattle.drawing.specs.Tables.{Tables, drawn, drawn_edge, has_side}
use Rattle.drawing_queries.proofs.Listed.{listed}
use Rattle.face_rings.specs.Border.{are_linked, darts_ascend, darts_of}
use Rattle.face_rings.specs.FaceBorder.{border_dart, face_border, is_beside}
use Rattle.face_rings.specs.Rings.{ring_of}
use Rattle.face_rings.specs.RowBorder.{backward_dart, forward_dart, only_if, row_border, rows_border}
use Rattle.face_rings.proofs.FaceBorders.{rings_are_right}
use Rattle.face_split.specs.Linked.{IsEdgeBeside, IsLinked}

-- the edges beside the face give its border
none_beside : (f : ℕ) (r : EdgeRow) → has_side f (drawn_edge r) ≡ false → row_border f r ≡ []
none_beside f r away = by (eqb r.left_face f) (eqb r.right_face f) away
  where
    by : (b c : Bool) → (b || c) ≡ false → only_if b (forward_dart r) ++ only_if c (backward_dart r) ≡ []
    by true c e = absurd cc
    by false true e = absurd cc
    by false false e = refl

pub border_is : (t : Tables) (found seen : List EdgeRow) (f : ℕ) → found ≡ filter (λ (r : EdgeRow). has_side f (drawn_edge r)) t.edges → seen ≡ found → IsLinked t
    → rows_border f seen ≡ face_border (half_edges (drawn t)) f
border_is t found seen f is same h =
    ap (rows_border f) (same ∙ is) ∙ listed (row_border f) (λ (r : EdgeRow). has_side f (drawn_edge r)) t.edges (none_beside f) ∙ ap (rows_border f) h.edges ∙ rings_are_right.rows (drawn t) f

pub border_ascends : (t : Tables) (found seen : List EdgeRow) (f : ℕ) → found ≡ filter (λ (r : EdgeRow). has_side f (drawn_edge r)) t.edges → seen ≡ found → IsLinked t
    → IsTrue (darts_ascend (rows_border f seen))
border_ascends t found seen f is same h = ap darts_ascend (border_is t found seen f is same h) ∙ rings_are_right.ascend (drawn t) f h.ringed.rings

pub border_linked : (t : Tables) (f : ℕ) → IsLinked t → IsTrue (are_linked (face_border (half_edges (drawn t)) f))
border_linked t f h = rings_are_right.linked (drawn t) f h.ringed.rings

-- ---- a half-edge beside the face has its dart in the border
forward_among : (edges : List Edge) (e : Edge) → Contains edges e → Contains (flat_map both_ways edges) (forward_of e)
forward_among [] e c = absurd (contains_none e c)
forward_among (x ∷ edges) e c =
    ⊎_elim
    (λ (is : x ≡ e). subst (λ (y : Edge). Contains (forward_of x ∷ backward_of x ∷ flat_map both_ways edges) (forward_of y)) is (contains_here (forward_of x) (backward_of x ∷ flat_map both_ways edges)))
    (λ (more : Contains edges e). contains_there (forward_of e) (forward_of x) (backward_of x ∷ flat_map both_ways edges) (contains_there (forward_of e) (backward_of x) (flat_map both_ways edges) (forward_among edges e more)))
    (contains_cases e x edges c)

pub forward_there : (S : Drawing) (e : Edge) → Contains S.edges e → Contains (half_edges S) (forward_of e)
forward_there S e c = forward_among S.edges e c

chosen : (all : List HalfEdge) (f : ℕ) (x h : HalfEdge) (rest : List HalfEdge) (b : Bool) → is_beside f x ≡ b → is_beside f h ≡ true → (x ≡ h) → Contains (darts_of (map (border_dart all) (cond b (x ∷ rest) rest))) (dart_of h)
chosen all f x h rest true is near same = subst (λ (y : HalfEdge). Contains (darts_of (map (border_dart all) (x ∷ rest))) (dart_of y)) same (contains_here (dart_of x) (darts_of (map (border_dart all) rest)))
chosen all f x h rest false is near same = absurd (no (sym is ∙ ap (is_beside f) same ∙ near))
  where
    no : false ≡ true → ⊥
    no e = cc

kept : (all : List HalfEdge) (x h : HalfEdge) (rest : List HalfEdge) (b : Bool) → Contains (darts_of (map (border_dart all) rest)) (dart_of h) → Contains (darts_of (map (border_dart all) (cond b (x ∷ rest) rest))) (dart_of h)
kept all x h rest true c = contains_there (dart_of h) (dart_of x) (darts_of (map (border_dart all) rest)) c
kept all x h rest false c = c

dart_among : (all hs : List HalfEdge) (f : ℕ) (h : HalfEdge) → Contains hs h → is_beside f h ≡ true → Contains (darts_of (map (border_dart all) (filter (is_beside f) hs))) (dart_of h)
dart_among all [] f h c near = absurd (contains_none h c)
dart_among all (x ∷ hs) f h c near =
    ⊎_elim
    (λ (is : x ≡ h). chosen all f x h (filter (is_beside f) hs) (is_beside f x) refl near is)
    (λ (more : Contains hs h). kept all x h (filter (is_beside f) hs) (is_beside f x) (dart_among all hs f h more near))
    (contains_cases h x hs c)

pub dart_there : (t : Tables) (edge f : ℕ) (e : Edge) → IsEdgeBeside (drawn t) edge f e → Contains (darts_of (face_border (half_edges (drawn t)) f)) (record { edge = edge; forward = true })
dart_there t edge f e h =
    subst (λ (n : ℕ). Contains (darts_of (face_border (half_edges (drawn t)) f)) (record { edge = n; forward = true })) h.id
    (dart_among (half_edges (drawn t)) (half_edges (drawn t)) f (forward_of e) (forward_there (drawn t) e h.there) (eq-eqb e.left_face f h.left))

pub ring_is : (t : Tables) (edge f : ℕ) (e : Edge) → IsLinked t → IsEdgeBeside (drawn t) edge f e
    → ring_of (face_border (half_edges (drawn t)) f) (record { edge = edge; forward = true }) ≡ map dart_of (the_ring_of (half_edges (drawn t)) (forward_of e))
ring_is t edge f e h is =
    subst (λ (n : ℕ). ring_of (face_border (half_edges (drawn t)) f) (record { edge = n; forward = true }) ≡ map dart_of (the_ring_of (half_edges (drawn t)) (forward_of e))) is.id
    (rings_are_right.ring (drawn t) f (forward_of e) h.ringed.rings (forward_there (drawn t) e is.there) is.left)
