-- The boxes of faces where a face is divided into two parts, one or both of them new, and where a face is not divided.
use Rattle.std.proofs.Common.{◌≡◌, ℕ, ◌+◌, ◌<◌, ◌≤◌, ◌==◌, ◌||◌, List, [], ◌∷◌, ◌++◌, append_assoc, refl, sym, ap, ◌∙◌, subst, ◌⊎◌, inl, inr, ⊎_elim, Option, None, Bool, true, false, not, eqb, eqb-true, eq-eqb, map, filter, cond, IsTrue, arith}
use Rattle.std.specs.List.{flat_map, list_any, Contains}
use Rattle.std.proofs.lemmas.Bool.{or_left, or_right}
use Rattle.std.proofs.lemmas.Bool.Decides.{nat_tests}
use Rattle.std.proofs.lemmas.List.Elements.{filter-append}
use Rattle.std.proofs.lemmas.List.Folds.{list_any-append}
use Rattle.topo_base.specs.Point.{Point}
use Rattle.topo_base.specs.declared.rows.Box4.{Box4}
use Rattle.topo_base.specs.declared.rows.Counters.{Counters}
use Rattle.topo_base.specs.declared.rows.FaceRow.{FaceRow}
use Rattle.topo_base.specs.declared.write.RowId.TheVariants.{Old}
use Rattle.topo_base.specs.declared.write.RowWrite.TheVariants.{DropFace}
use Rattle.drawing.specs.AddEdge.{Division, divided, divided_edge, divided_side, is_on_left, part_at, part_beside}
use Rattle.drawing.specs.Drawing.{Drawing, Edge, has_face}
use Rattle.drawing.specs.HalfEdge.{HalfEdge, backward_of, forward_of, half_edges}
use Rattle.drawing.specs.Ring.{contains_half_edge, least_vertex, ring_of}
use Rattle.drawing.specs.Rows.{has_row, without_row}
use Rattle.drawing.specs.Subdivision.{face_id_of}
use Rattle.drawing.specs.Tables.{Tables, least_box, has_side, face_box, face_row}
use Rattle.drawing.specs.Writable.{CanWriteAll, has_face_row}
use Rattle.drawing.specs.Writes.{all_written, face_row_id}
use Rattle.plane.proofs.ListTests.{contains_here, contains_there}
use Rattle.drawing.proofs.Members.{ids_within}
use Rattle.drawing.proofs.Ordering.{InOrder, InOrder-push, first_of}
use Rattle.drawing.proofs.WritesInOrder.{can_write-append, written-append}
use Rattle.face_boxes.specs.Bounds.{box_write}
use Rattle.face_boxes.proofs.Boxes.{AreRows, beside_same, boxed, boxed_is, boxed_there, box_written, can_box, chosen, chosen_rows, map_same, points_of, other_way}

-- ---- edges whose sides change in one face alone
-- the lines of the edges that have the face on a side
abbrev pub line_of : Edge → List Point
line_of x = x.geom

abbrev pub lines_beside : ℕ → List Edge → List (List Point)
lines_beside g edges = map line_of (filter (has_side g) edges)

-- each face other than these three has the same lines beside it
pub record KeepsOthers (S U : Drawing) (f l r : ℕ) : Type 0 where
  pub same : (g : ℕ) → eqb g f ≡ false → eqb g l ≡ false → eqb g r ≡ false → lines_beside g U.edges ≡ lines_beside g S.edges

pub others_onward : (S T U : Drawing) (f l r : ℕ) → KeepsOthers S T f l r → KeepsOthers T U f l r → KeepsOthers S U f l r
others_onward S T U f l r first then_ = record { same = λ g a b c. then_.same g a b c ∙ first.same g a b c }

-- an edge more that has the face on both sides
pub others_added : (S T : Drawing) (e : Edge) (f l r : ℕ) → T.edges ≡ S.edges ++ e ∷ [] → e.left_face ≡ f → e.right_face ≡ f → KeepsOthers S T f l r
others_added S T e f l r come left right =
    record { same = λ g a b c. ap (lines_beside g) come ∙ ap (map line_of) (beside_same g S.edges e (away g a)) }
  where
    away : (g : ℕ) → eqb g f ≡ false → has_side g e ≡ false
    away g a = rw (left, right, other_way g f a) refl

-- a side other than the face stays, and one that is the face becomes one of two
pub record IsSidePart (f l r old new : ℕ) : Type 0 where
  pub stays : eqb old f ≡ false → new ≡ old
  pub part : eqb old f ≡ true → (new ≡ l) ⊎ (new ≡ r)

pub record DividesSides (k : Edge → Edge) (f l r : ℕ) (x : Edge) : Type 0 where
  pub line : (k x).geom ≡ x.geom
  pub left : IsSidePart f l r x.left_face (k x).left_face
  pub right : IsSidePart f l r x.right_face (k x).right_face

side_same : (f l r old new g : ℕ) → IsSidePart f l r old new → eqb g f ≡ false → eqb g l ≡ false → eqb g r ≡ false → eqb new g ≡ eqb old g
side_same f l r old new g is a b c = by (eqb old f) refl
  where
    by : (t : Bool) → eqb old f ≡ t → eqb new g ≡ eqb old g
    by false e = ap (λ k. eqb k g) (is.stays e)
    by true e =
        let was : eqb old g ≡ false = ap (λ k. eqb k g) (eqb-true old f e) ∙ other_way g f a in
        ⊎_elim (λ (h : new ≡ l). ap (λ k. eqb k g) h ∙ other_way g l b ∙ sym was) (λ (h : new ≡ r). ap (λ k. eqb k g) h ∙ other_way g r c ∙ sym was) (is.part e)

-- the edges have the face on a side as before, and the same lines
pub record KeepsSide (k : Edge → Edge) (g : ℕ) (x : Edge) : Type 0 where
  pub line : (k x).geom ≡ x.geom
  pub side : has_side g (k x) ≡ has_side g x

pub lines_kept : (k : Edge → Edge) (g : ℕ) (edges : List Edge) → ((x : Edge) → Contains edges x → KeepsSide k g x) → lines_beside g (map k edges) ≡ lines_beside g edges
lines_kept k g [] each = refl
lines_kept k g (x ∷ edges) each =
    let first = each x (contains_here x edges) in
    step (k x) x (filter (has_side g) (map k edges)) (filter (has_side g) edges) first.side first.line (lines_kept k g edges (λ y d. each y (contains_there y x edges d)))
  where
    step : (y z : Edge) (ys zs : List Edge) → has_side g y ≡ has_side g z → y.geom ≡ z.geom → map line_of ys ≡ map line_of zs
        → map line_of (cond (has_side g y) (y ∷ ys) ys) ≡ map line_of (cond (has_side g z) (z ∷ zs) zs)
    step y z ys zs test line rest = ap (λ t. map line_of (cond t (y ∷ ys) ys)) test ∙ by (has_side g z)
      where
        by : (t : Bool) → map line_of (cond t (y ∷ ys) ys) ≡ map line_of (cond t (z ∷ zs) zs)
        by true = λ i. line i ∷ rest i
        by false = rest

lines_same : (k : Edge → Edge) (f l r g : ℕ) (edges : List Edge) → ((x : Edge) → Contains edges x → DividesSides k f l r x) → eqb g f ≡ false → eqb g l ≡ false → eqb g r ≡ false
    → lines_beside g (map k edges) ≡ lines_beside g edges
lines_same k f l r g edges each a b c = lines_kept k g edges each_kept
  where
    each_kept : (x : Edge) → Contains edges x → KeepsSide k g x
    each_kept x d =
        let divides = each x d in
        record {
          line = divides.line;
          side = λ i. side_same f l r x.left_face (k x).left_face g divides.left a b c i || side_same f l r x.right_face (k x).right_face g divides.right a b c i;
        }

pub others_divided : (T U : Drawing) (k : Edge → Edge) (f l r : ℕ) → U.edges ≡ map k T.edges → ((x : Edge) → Contains T.edges x → DividesSides k f l r x) → KeepsOthers T U f l r
others_divided T U k f l r are each = record { same = λ g a b c. ap (lines_beside g) are ∙ lines_same k f l r g T.edges each a b c }

-- a division of a face changes sides so
pub division_sides : (d : Division) (hs : List HalfEdge) (x : Edge) → DividesSides (divided_edge d hs) d.face d.left_part d.right_part x
division_sides d hs x =
    record {
      line = refl;
      left = part x.left_face (forward_of x);
      right = part x.right_face (backward_of x);
    }
  where
    either : (p q : Bool) (m : ℕ) → ((m ≡ d.left_part) ⊎ (m ≡ d.right_part)) → (cond p d.left_part (cond q d.right_part m) ≡ d.left_part) ⊎ (cond p d.left_part (cond q d.right_part m) ≡ d.right_part)
    either true q m is = inl refl
    either false true m is = inr refl
    either false false m is = is

    point : (p : Bool) → (cond p d.left_part d.right_part ≡ d.left_part) ⊎ (cond p d.left_part d.right_part ≡ d.right_part)
    point true = inl refl
    point false = inr refl

    part : (old : ℕ) (h : HalfEdge) → IsSidePart d.face d.left_part d.right_part old (divided_side d hs old h)
    part old h =
        let beside : (part_beside d hs h ≡ d.left_part) ⊎ (part_beside d hs h ≡ d.right_part) =
        either (contains_half_edge d.left_ring h) (contains_half_edge d.right_ring h) (part_at d (least_vertex (ring_of hs h))) (point (is_on_left d.left_ring (least_vertex (ring_of hs h)))) in
        record {
          stays = λ e. ap (λ t. cond t (part_beside d hs h) old) e;
          part = λ e. subst (λ t. (cond t (part_beside d hs h) old ≡ d.left_part) ⊎ (cond t (part_beside d hs h) old ≡ d.right_part)) (sym e) beside;
        }

-- a division of a face in which an edge came
pub others_of_division : (S T : Drawing) (e : Edge) (d : Division) (faces : List ℕ) (new : ℕ) → T.edges ≡ S.edges ++ e ∷ [] → e.left_face ≡ d.face → e.right_face ≡ d.face
    → KeepsOthers S (divided T d faces new) d.face d.left_part d.right_part
others_of_division S T e d faces new come left right =
    let hs = half_edges T in
    others_onward S T (divided T d faces new) d.face d.left_part d.right_part (others_added S T e d.face d.left_part d.right_part come left right)
    (others_divided T (divided T d faces new) (divided_edge d hs) d.face d.left_part d.right_part refl (λ x _. division_sides d hs x))

-- ---- their rows
points_joined : (edges : List Edge) → points_of edges ≡ flat_map (λ (ps : List Point). ps) (map line_of edges)
points_joined [] = refl
points_joined (x ∷ edges) = ap (λ (ps : List Point). x.geom ++ ps) (points_joined edges)

pub row_beside : (S U : Drawing) (g : ℕ) → lines_beside g U.edges ≡ lines_beside g S.edges → face_row S g ≡ face_row U g
row_beside S U g lines =
    let points : points_of (filter (has_side g) S.edges) ≡ points_of (filter (has_side g) U.edges) =
    points_joined (filter (has_side g) S.edges) ∙ ap (flat_map (λ (ps : List Point). ps)) (sym lines) ∙ sym (points_joined (filter (has_side g) U.edges)) in
    ap (λ (ps : List Point). record { face_id = g; mbr = cond (g == 0) None (least_box ps) }) points

pub row_same : (S U : Drawing) (f l r g : ℕ) → KeepsOthers S U f l r → eqb g f ≡ false → eqb g l ≡ false → eqb g r ≡ false → face_row S g ≡ face_row U g
row_same S U f l r g keeps a b c = row_beside S U g (keeps.same g a b c)

-- rows with a new one that has no box
abbrev pub new_row : ℕ → FaceRow
new_row f = record { face_id = f; mbr = None }

abbrev pub with_new : (ℕ → FaceRow) → ℕ → ℕ → FaceRow
with_new old new g = cond (eqb g new) (new_row g) (old g)

pub new_rows : (old : ℕ → FaceRow) (new : ℕ) → AreRows old → AreRows (with_new old new)
new_rows old new are = record { id = λ g. by g (eqb g new) }
  where
    by : (g : ℕ) (b : Bool) → face_row_id (cond b (new_row g) (old g)) ≡ g
    by g true = refl
    by g false = are.id g

rows_more : (old : ℕ → FaceRow) (fs : List ℕ) (new : ℕ) → ((g : ℕ) → Contains fs g → eqb g new ≡ false) → map old fs ≡ map (with_new old new) fs
rows_more old [] new other = refl
rows_more old (g ∷ fs) new other =
    let first : old g ≡ with_new old new g = ap (λ b. cond b (new_row g) (old g)) (sym (other g (contains_here g fs))) in
    let rest = rows_more old fs new (λ h c. other h (contains_there h g fs c)) in
    λ i. first i ∷ rest i

one_more : (old : ℕ → FaceRow) (fs : List ℕ) (new : ℕ) → ((g : ℕ) → Contains fs g → eqb g new ≡ false) → map old fs ++ new_row new ∷ [] ≡ map (with_new old new) (fs ++ new ∷ [])
one_more old fs new other = ap (λ (rs : List FaceRow). rs ++ new_row new ∷ []) (rows_more old fs new other) ∙ last fs
  where
    last : (gs : List ℕ) → map (with_new old new) gs ++ new_row new ∷ [] ≡ map (with_new old new) (gs ++ new ∷ [])
    last [] = ap (λ b. cond b (new_row new) (old new) ∷ []) (sym (eq-eqb new new refl))
    last (g ∷ gs) = ap (λ (rs : List FaceRow). with_new old new g ∷ rs) (last gs)

pub below_differs : (a b : ℕ) → a < b → eqb a b ≡ false
below_differs a b h = grind (arith, nat_tests)

-- face 0 has no box before and after
pub zero_new : (U : Drawing) (old : ℕ → FaceRow) (new : ℕ) → old 0 ≡ face_row U 0 → with_new old new 0 ≡ face_row U 0
zero_new U old new is = by (eqb 0 new)
  where
    by : (b : Bool) → cond b (new_row 0) (old 0) ≡ face_row U 0
    by true = refl
    by false = is

zero_chosen : (old new : ℕ → FaceRow) (f : ℕ) → old 0 ≡ new 0 → chosen old new f 0 ≡ new 0
zero_chosen old new f is = by (eqb 0 f)
  where
    by : (b : Bool) → cond b (new 0) (old 0) ≡ new 0
    by true = refl
    by false = is

below_in : (low next f : ℕ) (fs : List ℕ) → IsTrue (list_any (λ g. g == f) fs) → InOrder face_id_of low next fs → f < next
below_in low next f [] h o = absurd cc
below_in low next f (g ∷ fs) h o =
    let parts = first_of face_id_of low next g fs o in
    by (eqb g f) refl parts.1 h (λ k. below_in (g + 1) next f fs k parts.2)
  where
    by : (b : Bool) → eqb g f ≡ b → g < next → IsTrue (b || list_any (λ g. g == f) fs) → (IsTrue (list_any (λ g. g == f) fs) → f < next) → f < next
    by true e first k rest = subst (λ m. m < next) (eqb-true g f e) first
    by false e first k rest = rest k

pub listed_below : (S : Drawing) (f : ℕ) → InOrder face_id_of 0 S.next_ids.face S.faces → IsTrue (has_face S f) → f < S.next_ids.face
listed_below S f ordered listed = below_in 0 S.next_ids.face f S.faces listed ordered

from_zero : (a : ℕ) → 0 ≤ a
from_zero a = omega arith

below_more : (a b : ℕ) → a < b → a < b + 1
below_more a b h = omega (arith, h)

-- two boxes set
pub both_written : (n : Counters) (t : Tables) (l r : ℕ) (left right : Option Box4) → all_written n t (box_write l left ++ box_write r right) ≡ record t { faces = boxed r right (boxed l left t.faces) }
both_written n t l r left right =
    written-append n t (box_write l left) (box_write r right)
    ∙ ap (λ (u : Tables). all_written n u (box_write r right)) (box_written n t l left)
    ∙ box_written n (record t { faces = boxed l left t.faces }) r right

both_boxed : (U : Drawing) (old : ℕ → FaceRow) (fs : List ℕ) (l r : ℕ) (left right : Option Box4) → AreRows old → old 0 ≡ face_row U 0 → left ≡ face_box U l → right ≡ face_box U r
    → boxed r right (boxed l left (map old fs)) ≡ map (chosen (chosen old (face_row U) l) (face_row U) r) fs
both_boxed U old fs l r left right are zero is_left is_right =
    ap (boxed r right) (boxed_is old (face_row U) fs l left are (record { id = λ g. refl }) (λ some. is_left) zero)
    ∙ boxed_is (chosen old (face_row U) l) (face_row U) fs r right (chosen_rows old (face_row U) l are (record { id = λ g. refl })) (record { id = λ g. refl }) (λ some. is_right) (zero_chosen old (face_row U) l zero)

pub has_mapped : (old : ℕ → FaceRow) (fs : List ℕ) (f : ℕ) → AreRows old → has_row face_row_id (map old fs) f ≡ list_any (λ g. g == f) fs
has_mapped old [] f are = refl
has_mapped old (g ∷ fs) f are = let first = are.id g in let rest = has_mapped old fs f are in λ i. eqb (first i) f || rest i

pub can_both : (n : Counters) (t : Tables) (l r : ℕ) (left right : Option Box4) → IsTrue (has_face_row t l) → IsTrue (has_face_row t r) → CanWriteAll n t (box_write l left ++ box_write r right)
can_both n t l r left right at_left at_right =
    can_write-append n t (box_write l left) (box_write r right) (can_box n t l left at_left)
    (subst (λ (u : Tables). CanWriteAll n u (box_write r right)) (sym (box_written n t l left))
    (can_box n (record t { faces = boxed l left t.faces }) r right (subst IsTrue (sym (boxed_there t.faces l r left)) at_right)))

-- ---- a face that is not divided
pub kept_written : (n : Counters) (t : Tables) (S T : Drawing) (f : ℕ) (bounds : Option Box4) → KeepsOthers S T f f f → bounds ≡ face_box T f → t.faces ≡ map (face_row S) S.faces
    → all_written n t (box_write f bounds) ≡ record t { faces = map (face_row T) S.faces }
kept_written n t S T f bounds keeps is begun =
    box_written n t f bounds ∙ ap (λ (rows : List FaceRow). record t { faces = rows }) rows
  where
    by : (g : ℕ) (b : Bool) → eqb g f ≡ b → cond b (face_row T g) (face_row S g) ≡ face_row T g
    by g true e = refl
    by g false e = row_same S T f f f g keeps e e e

    rows : boxed f bounds t.faces ≡ map (face_row T) S.faces
    rows =
        ap (boxed f bounds) begun
        ∙ boxed_is (face_row S) (face_row T) S.faces f bounds (record { id = λ g. refl }) (record { id = λ g. refl }) (λ some. is) refl
        ∙ map_same (chosen (face_row S) (face_row T) f) (face_row T) S.faces (λ g. by g (eqb g f) refl)

pub kept_can : (n : Counters) (t : Tables) (S : Drawing) (f : ℕ) (bounds : Option Box4) → t.faces ≡ map (face_row S) S.faces → IsTrue (has_face S f) → CanWriteAll n t (box_write f bounds)
kept_can n t S f bounds begun listed =
    can_box n t f bounds (subst IsTrue (sym (ap (λ (rows : List FaceRow). has_row face_row_id rows f) begun ∙ has_mapped (face_row S) S.faces f (record { id = λ g. refl }))) listed)

-- ---- one part is new
abbrev pub ArePartsOf : ℕ → ℕ → ℕ → ℕ → Type 0
ArePartsOf f new l r = ((l ≡ f) × (r ≡ new)) ⊎ ((l ≡ new) × (r ≡ f))

-- a face that is no part is neither the divided one nor the new one
pub no_part : (f new l r g : ℕ) → ArePartsOf f new l r → eqb g l ≡ false → eqb g r ≡ false → (eqb g f ≡ false) × (eqb g new ≡ false)
no_part f new l r g (inl is) a b = (ap (eqb g) (sym is.0) ∙ a, ap (eqb g) (sym is.1) ∙ b)
no_part f new l r g (inr is) a b = (ap (eqb g) (sym is.1) ∙ b, ap (eqb g) (sym is.0) ∙ a)

abbrev pub rows_with_one : Drawing → List FaceRow
rows_with_one S = map (face_row S) S.faces ++ new_row S.next_ids.face ∷ []

not_listed : (S : Drawing) → InOrder face_id_of 0 S.next_ids.face S.faces → (g : ℕ) → Contains S.faces g → eqb g S.next_ids.face ≡ false
not_listed S ordered g c = below_differs g S.next_ids.face (ids_within face_id_of 0 S.next_ids.face S.faces g ordered c).1

pub one_is : (S : Drawing) → InOrder face_id_of 0 S.next_ids.face S.faces → rows_with_one S ≡ map (with_new (face_row S) S.next_ids.face) (S.faces ++ S.next_ids.face ∷ [])
one_is S ordered = one_more (face_row S) S.faces S.next_ids.face (not_listed S ordered)

pub one_written : (n : Counters) (t : Tables) (S U : Drawing) (f l r : ℕ) (left right : Option Box4) → InOrder face_id_of 0 S.next_ids.face S.faces → ArePartsOf f S.next_ids.face l r
    → KeepsOthers S U f l r → left ≡ face_box U l → right ≡ face_box U r → t.faces ≡ rows_with_one S
    → all_written n t (box_write l left ++ box_write r right) ≡ record t { faces = map (face_row U) (S.faces ++ S.next_ids.face ∷ []) }
one_written n t S U f l r left right ordered parts keeps is_left is_right begun =
    both_written n t l r left right ∙ ap (λ (rows : List FaceRow). record t { faces = rows }) rows
  where
    new : ℕ
    new = S.next_ids.face

    old : ℕ → FaceRow
    old = with_new (face_row S) new

    stays : (g : ℕ) → eqb g l ≡ false → eqb g r ≡ false → old g ≡ face_row U g
    stays g a b =
        let none = no_part f new l r g parts a b in
        ap (λ t. cond t (new_row g) (face_row S g)) none.1 ∙ row_same S U f l r g keeps none.0 a b

    both : (g : ℕ) (b c : Bool) → eqb g r ≡ b → eqb g l ≡ c → cond b (face_row U g) (cond c (face_row U g) (old g)) ≡ face_row U g
    both g true c e d = refl
    both g false true e d = refl
    both g false false e d = stays g d e

    rows : boxed r right (boxed l left t.faces) ≡ map (face_row U) (S.faces ++ new ∷ [])
    rows =
        ap (λ (rows : List FaceRow). boxed r right (boxed l left rows)) (begun ∙ one_is S ordered)
        ∙ both_boxed U old (S.faces ++ new ∷ []) l r left right (new_rows (face_row S) new (record { id = λ g. refl })) (zero_new U (face_row S) new refl) is_left is_right
        ∙ map_same (chosen (chosen old (face_row U) l) (face_row U) r) (face_row U) (S.faces ++ new ∷ []) (λ g. both g (eqb g r) (eqb g l) refl refl)

-- the face that was listed, and the new one, are there
pub there_in : (old : ℕ → FaceRow) (fs : List ℕ) (f : ℕ) → AreRows old → IsTrue (list_any (λ g. g == f) fs) → IsTrue (has_row face_row_id (map old fs) f)
there_in old fs f are listed = subst IsTrue (sym (has_mapped old fs f are)) listed

pub listed_before : (fs gs : List ℕ) (f : ℕ) → IsTrue (list_any (λ g. g == f) fs) → IsTrue (list_any (λ g. g == f) (fs ++ gs))
listed_before fs gs f listed = list_any-append (λ g. g == f) fs gs ∙ or_left (list_any (λ g. g == f) fs) (list_any (λ g. g == f) gs) listed

pub listed_behind : (fs gs : List ℕ) (f : ℕ) → IsTrue (list_any (λ g. g == f) gs) → IsTrue (list_any (λ g. g == f) (fs ++ gs))
listed_behind fs gs f listed = list_any-append (λ g. g == f) fs gs ∙ or_right (list_any (λ g. g == f) fs) (list_any (λ g. g == f) gs) listed

pub listed_first : (f : ℕ) (gs : List ℕ) → IsTrue (list_any (λ g. g == f) (f ∷ gs))
listed_first f gs = or_left (f == f) (list_any (λ g. g == f) gs) (eq-eqb f f refl)

pub one_can : (n : Counters) (t : Tables) (S : Drawing) (f l r : ℕ) (left right : Option Box4) → InOrder face_id_of 0 S.next_ids.face S.faces → ArePartsOf f S.next_ids.face l r → IsTrue (has_face S f)
    → t.faces ≡ rows_with_one S → CanWriteAll n t (box_write l left ++ box_write r right)
one_can n t S f l r left right ordered parts listed begun = by parts
  where
    new : ℕ
    new = S.next_ids.face

    there : (g : ℕ) → IsTrue (list_any (λ h. h == g) (S.faces ++ new ∷ [])) → IsTrue (has_face_row t g)
    there g h = subst (λ (rows : List FaceRow). IsTrue (has_row face_row_id rows g)) (sym (begun ∙ one_is S ordered)) (there_in (with_new (face_row S) new) (S.faces ++ new ∷ []) g (new_rows (face_row S) new (record { id = λ k. refl })) h)

    at_face : IsTrue (has_face_row t f)
    at_face = there f (listed_before S.faces (new ∷ []) f listed)

    at_new : IsTrue (has_face_row t new)
    at_new = there new (listed_behind S.faces (new ∷ []) new (listed_first new []))

    by : ArePartsOf f new l r → CanWriteAll n t (box_write l left ++ box_write r right)
    by (inl is) = can_both n t l r left right (subst (λ g. IsTrue (has_face_row t g)) (sym is.0) at_face) (subst (λ g. IsTrue (has_face_row t g)) (sym is.1) at_new)
    by (inr is) = can_both n t l r left right (subst (λ g. IsTrue (has_face_row t g)) (sym is.0) at_new) (subst (λ g. IsTrue (has_face_row t g)) (sym is.1) at_face)

-- ---- both parts are new, and the divided face goes
abbrev pub rows_with_two : Drawing → List FaceRow
rows_with_two S = map (face_row S) S.faces ++ new_row S.next_ids.face ∷ new_row (S.next_ids.face + 1) ∷ []

abbrev pub faces_with_two : Drawing → List ℕ
faces_with_two S = S.faces ++ S.next_ids.face ∷ (S.next_ids.face + 1) ∷ []

two_is : (S : Drawing) → InOrder face_id_of 0 S.next_ids.face S.faces → rows_with_two S ≡ map (with_new (with_new (face_row S) S.next_ids.face) (S.next_ids.face + 1)) (faces_with_two S)
two_is S ordered =
    regroup (map (face_row S) S.faces) (new_row new) (new_row (new + 1))
    ∙ ap (λ (rows : List FaceRow). rows ++ new_row (new + 1) ∷ []) (one_is S ordered)
    ∙ one_more (with_new (face_row S) new) (S.faces ++ new ∷ []) (new + 1) other
    ∙ ap (map (with_new (with_new (face_row S) new) (new + 1))) (sym (regroup S.faces new (new + 1)))
  where
    new : ℕ
    new = S.next_ids.face

    regroup : {X : Type 0} (xs : List X) (a b : X) → xs ++ a ∷ b ∷ [] ≡ (xs ++ a ∷ []) ++ b ∷ []
    regroup xs a b = sym (append_assoc xs (a ∷ []) (b ∷ []))

    other : (g : ℕ) → Contains (S.faces ++ new ∷ []) g → eqb g (new + 1) ≡ false
    other g c = below_differs g (new + 1) (ids_within face_id_of 0 (new + 1) (S.faces ++ new ∷ []) g (InOrder-push face_id_of 0 new S.faces new refl (from_zero new) ordered) c).1

-- a row goes
rows_gone : (row become : ℕ → FaceRow) (f : ℕ) (gs : List ℕ) → AreRows row → ((g : ℕ) → eqb g f ≡ false → row g ≡ become g) → without_row face_row_id (map row gs) f ≡ map become (filter (λ g. not (g == f)) gs)
rows_gone row become f [] are same = refl
rows_gone row become f (g ∷ gs) are same =
    ap (λ k. cond (not (eqb k f)) (row g ∷ without_row face_row_id (map row gs) f) (without_row face_row_id (map row gs) f)) (are.id g) ∙ by (eqb g f) refl (rows_gone row become f gs are same)
  where
    by : (b : Bool) → eqb g f ≡ b → without_row face_row_id (map row gs) f ≡ map become (filter (λ g. not (g == f)) gs)
        → cond (not b) (row g ∷ without_row face_row_id (map row gs) f) (without_row face_row_id (map row gs) f) ≡ map become (cond (not b) (g ∷ filter (λ g. not (g == f)) gs) (filter (λ g. not (g == f)) gs))
    by true e rest = rest
    by false e rest = let first = same g e in λ i. first i ∷ rest i

pub two_written : (n : Counters) (t : Tables) (S U : Drawing) (f : ℕ) (left right : Option Box4) → InOrder face_id_of 0 S.next_ids.face S.faces → IsTrue (has_face S f)
    → KeepsOthers S U f S.next_ids.face (S.next_ids.face + 1) → left ≡ face_box U S.next_ids.face → right ≡ face_box U (S.next_ids.face + 1) → t.faces ≡ rows_with_two S
    → all_written n t (box_write S.next_ids.face left ++ box_write (S.next_ids.face + 1) right ++ DropFace (Old f) ∷ [])
    ≡ record t { faces = map (face_row U) (filter (λ g. not (g == f)) S.faces ++ S.next_ids.face ∷ (S.next_ids.face + 1) ∷ []) }
two_written n t S U f left right ordered listed keeps is_left is_right begun =
    written-append n t (box_write l left ++ box_write r right) (DropFace (Old f) ∷ [])
    ∙ ap (λ (u : Tables). all_written n u (DropFace (Old f) ∷ [])) (both_written n t l r left right)
    ∙ ap (λ (rows : List FaceRow). record t { faces = rows }) rows
  where
    l : ℕ
    l = S.next_ids.face

    r : ℕ
    r = S.next_ids.face + 1

    first : ℕ → FaceRow
    first = with_new (face_row S) l

    old : ℕ → FaceRow
    old = with_new first r

    are : AreRows old
    are = new_rows first r (new_rows (face_row S) l (record { id = λ g. refl }))

    there : ℕ → FaceRow
    there = chosen (chosen old (face_row U) l) (face_row U) r

    become : AreRows there
    become = chosen_rows (chosen old (face_row U) l) (face_row U) r (chosen_rows old (face_row U) l are (record { id = λ g. refl })) (record { id = λ g. refl })

    both : (g : ℕ) (b c : Bool) → eqb g f ≡ false → eqb g r ≡ b → eqb g l ≡ c → cond b (face_row U g) (cond c (face_row U g) (cond b (new_row g) (cond c (new_row g) (face_row S g)))) ≡ face_row U g
    both g true c a d e = refl
    both g false true a d e = refl
    both g false false a d e = row_same S U f l r g keeps a e d

    stays : (g : ℕ) → eqb g f ≡ false → there g ≡ face_row U g
    stays g a = both g (eqb g r) (eqb g l) a refl refl

    fs : List ℕ
    fs = faces_with_two S

    gone : filter (λ g. not (g == f)) fs ≡ filter (λ g. not (g == f)) S.faces ++ l ∷ r ∷ []
    gone =
        let below : f < l = listed_below S f ordered listed in
        filter-append (λ g. not (g == f)) S.faces (l ∷ r ∷ [])
        ∙ ap (λ t. filter (λ g. not (g == f)) S.faces ++ cond (not t) (l ∷ filter (λ g. not (g == f)) (r ∷ [])) (filter (λ g. not (g == f)) (r ∷ []))) (other_way f l (below_differs f l below))
        ∙ ap (λ t. filter (λ g. not (g == f)) S.faces ++ l ∷ cond (not t) (r ∷ []) []) (other_way f r (below_differs f r (below_more f l below)))

    rows : without_row face_row_id (boxed r right (boxed l left t.faces)) f ≡ map (face_row U) (filter (λ g. not (g == f)) S.faces ++ l ∷ r ∷ [])
    rows =
        ap (λ (rows : List FaceRow). without_row face_row_id (boxed r right (boxed l left rows)) f) (begun ∙ two_is S ordered)
        ∙ ap (λ (rows : List FaceRow). without_row face_row_id rows f)
        (both_boxed U old fs l r left right are (zero_new U first r (zero_new U (face_row S) l refl)) is_left is_right)
        ∙ rows_gone there (face_row U) f fs become stays
        ∙ ap (map (face_row U)) gone

pub two_can : (n : Counters) (t : Tables) (S : Drawing) (f : ℕ) (left right : Option Box4) → InOrder face_id_of 0 S.next_ids.face S.faces → IsTrue (has_face S f) → eqb f 0 ≡ false
    → t.faces ≡ rows_with_two S → CanWriteAll n t (box_write S.next_ids.face left ++ box_write (S.next_ids.face + 1) right ++ DropFace (Old f) ∷ [])
two_can n t S f left right ordered listed some begun =
    can_write-append n t (box_write l left ++ box_write r right) (DropFace (Old f) ∷ []) boxes
    (subst (λ (u : Tables). CanWriteAll n u (DropFace (Old f) ∷ [])) (sym (both_written n t l r left right)) ((at_last, not_zero), tt))
  where
    l : ℕ
    l = S.next_ids.face

    r : ℕ
    r = S.next_ids.face + 1

    fs : List ℕ
    fs = faces_with_two S

    there : (g : ℕ) → IsTrue (list_any (λ h. h == g) fs) → IsTrue (has_face_row t g)
    there g h =
        subst (λ (rows : List FaceRow). IsTrue (has_row face_row_id rows g)) (sym (begun ∙ two_is S ordered))
        (there_in (with_new (with_new (face_row S) l) r) fs g (new_rows (with_new (face_row S) l) r (new_rows (face_row S) l (record { id = λ k. refl }))) h)

    boxes : CanWriteAll n t (box_write l left ++ box_write r right)
    boxes =
        can_both n t l r left right (there l (listed_behind S.faces (l ∷ r ∷ []) l (listed_first l (r ∷ []))))
        (there r (subst (λ gs. IsTrue (list_any (λ h. h == r) gs)) (append_assoc S.faces (l ∷ []) (r ∷ [])) (listed_behind (S.faces ++ l ∷ []) (r ∷ []) r (listed_first r []))))

    at_last : IsTrue (has_row face_row_id (boxed r right (boxed l left t.faces)) f)
    at_last = subst IsTrue (sym (boxed_there (boxed l left t.faces) r f right ∙ boxed_there t.faces l f left)) (there f (listed_before S.faces (l ∷ r ∷ []) f listed))

    not_zero : Old f ≡ Old 0 → ⊥
    not_zero same = let zero : f ≡ 0 = cc in let yes = eq-eqb f 0 zero in absurd cc
