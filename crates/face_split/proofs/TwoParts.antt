-- A face that is divided into two new faces: what the stages of the draft leave.
use Rattle.std.proofs.Common.{◌≡◌, ℕ, ◌+◌, false, not, ◌==◌, List, [], ◌∷◌, ◌++◌, map, filter, refl, sym, ap, ◌∙◌, subst, append_assoc, arith}
use Rattle.topo_base.specs.Point.{Point}
use Rattle.topo_base.specs.declared.rows.FaceRow.{FaceRow}
use Rattle.topo_base.specs.declared.rows.NodeRow.{NodeRow}
use Rattle.topo_base.specs.declared.write.RowId.TheVariants.{Old}
use Rattle.topo_base.specs.declared.write.RowWrite.{RowWrite}
use Rattle.topo_base.specs.declared.write.RowWrite.TheVariants.{DropFace}
use Rattle.drawing.specs.AddEdge.{coming}
use Rattle.drawing.specs.Drawing.{Drawing}
use Rattle.drawing.specs.IsoEdits.{with_edge}
use Rattle.drawing.specs.Tables.{Tables, tables_of, face_row}
use Rattle.drawing.specs.Writable.{CanWriteAll}
use Rattle.drawing.specs.Writes.{all_written}
use Rattle.face_boxes.proofs.DividedBoxes.{others_of_division, two_can, two_written}
use Rattle.face_boxes.proofs.Boxes.{same_box}
use Rattle.face_parts.specs.declared.parts.FaceParts.{FaceParts}
use Rattle.face_parts.specs.DividedFace.{IsDividedFace, with_division}
use Rattle.face_rings.specs.declared.content.BorderDart.{BorderDart}
use Rattle.face_split.specs.Added.{added_rows}
use Rattle.face_split.specs.Closing.{IsCut, WasAdded, in_two, two_parts}
use Rattle.face_split.specs.Divided.{IsDivisible, both_boxes, followed_rows, new_face, with_new_face}
use Rattle.face_split.proofs.OnePart.{at_added, division_by, divided_by, faces_ordered, knows_features, there_kept, there_new}

-- ---- both parts are new
abbrev pub two_begun : Drawing → NodeRow → NodeRow → List Point → ℕ → Tables
two_begun S a b line f = with_new_face (with_new_face (added_rows S a b line f))

abbrev pub the_two : Drawing → ℕ → FaceParts
the_two S f = two_parts f S.next_ids.edge S.next_ids.face (S.next_ids.face + 1)

two_divisible : (S : Drawing) (a b : NodeRow) (line : List Point) (f : ℕ) (border : List BorderDart) (walk : List Point) → WasAdded S a b line f (added_rows S a b line f) → IsCut S a b line f border walk
    → IsDivisible (two_begun S a b line f) (the_two S f) walk border
two_divisible S a b line f border walk h cut =
    let t = added_rows S a b line f in record {
      drawing = with_edge S a b line f;
      edge = coming S a b line f;
      division = division_by S a b line f (the_two S f);
      divided = divided_by S a b line f border walk (two_begun S a b line f) (the_two S f) h.ringed cut refl refl refl refl;
      left = there_kept (with_new_face t) S.next_ids.face (there_new t);
      right = there_new (with_new_face t);
      features = knows_features S (two_begun S a b line f) f h.ready refl refl refl;
    }

abbrev pub two_followed : Drawing → NodeRow → NodeRow → List Point → ℕ → Tables
two_followed S a b line f = let p = the_two S f in followed_rows (with_division (two_begun S a b line f) (with_edge S a b line f) (division_by S a b line f p)) p

-- the writes of both boxes, and the face goes
abbrev pub last_writes : Tables → ℕ → FaceParts → List RowWrite
last_writes t f p = both_boxes t p.left_part p.right_part ++ DropFace (Old f) ∷ []

-- two faces more
two_more : (rows : List FaceRow) (x y : FaceRow) → (rows ++ x ∷ []) ++ y ∷ [] ≡ rows ++ x ∷ y ∷ []
two_more rows x y = append_assoc rows (x ∷ []) (y ∷ [])

two_faces : (S : Drawing) (a b : NodeRow) (line : List Point) (f : ℕ)
    → (two_followed S a b line f).faces ≡ map (face_row S) S.faces ++ new_face S.next_ids.face ∷ new_face (S.next_ids.face + 1) ∷ []
two_faces S a b line f = two_more (map (face_row S) S.faces) (new_face S.next_ids.face) (new_face (S.next_ids.face + 1))

two_can_close : (S : Drawing) (a b : NodeRow) (line : List Point) (f : ℕ) → WasAdded S a b line f (added_rows S a b line f) → f == 0 ≡ false
    → CanWriteAll (two_followed S a b line f).next_ids (two_followed S a b line f) (last_writes (two_followed S a b line f) f (the_two S f))
two_can_close S a b line f h some = two_can _ (two_followed S a b line f) S f _ _ (faces_ordered S h.ready) h.face some (two_faces S a b line f)

one_and_one : (n : ℕ) → n + 1 + 1 ≡ n + 2
one_and_one n = omega arith

two_is : (S : Drawing) (a b : NodeRow) (line : List Point) (f : ℕ) → WasAdded S a b line f (added_rows S a b line f)
    → all_written (two_followed S a b line f).next_ids (two_followed S a b line f) (last_writes (two_followed S a b line f) f (the_two S f)) ≡ tables_of (in_two S a b line f)
two_is S a b line f h =
    let T = with_edge S a b line f in
    let U = in_two S a b line f in
    let p = the_two S f in
    let new = S.next_ids.face in
    two_written _ (two_followed S a b line f) S U f _ _ (faces_ordered S h.ready) h.face
    (others_of_division S T (coming S a b line f) (division_by S a b line f p) (filter (λ g. not (g == f)) T.faces ++ new ∷ (new + 1) ∷ []) 2 refl refl refl)
    (same_box U p.left_part) (same_box U p.right_part) (two_faces S a b line f)
    ∙ (let e = one_and_one S.next_ids.face in λ i. record (tables_of U) { next_ids = record (T.next_ids) { face = e i } })

-- ---- the stages by their equations
pub record TwoBegun (S : Drawing) (a b : NodeRow) (line : List Point) (f : ℕ) (t2 : Tables) (p : FaceParts) : Type 0 where
  pub begun : t2 ≡ two_begun S a b line f
  pub parts : p ≡ the_two S f

pub two_begins : (S : Drawing) (a b : NodeRow) (line : List Point) (f edge left right : ℕ) (t t1 t2 : Tables) → WasAdded S a b line f t → edge ≡ S.next_ids.edge → left ≡ t.next_ids.face → t1 ≡ with_new_face t
    → right ≡ t1.next_ids.face → t2 ≡ with_new_face t1 → TwoBegun S a b line f t2 (two_parts f edge left right)
two_begins S a b line f edge left right t t1 t2 h edge_is left_is first right_is second =
    let begun = first ∙ ap with_new_face h.rows in
    let left_id = left_is ∙ ap (λ (u : Tables). u.next_ids.face) h.rows in
    let right_id = right_is ∙ ap (λ (u : Tables). u.next_ids.face) begun in record {
      begun = second ∙ ap with_new_face begun;
      parts = λ i. two_parts f (edge_is i) (left_id i) (right_id i);
    }

pub two_divides : (S : Drawing) (a b : NodeRow) (line : List Point) (f : ℕ) (border : List BorderDart) (walk : List Point) (t t2 : Tables) (p : FaceParts) → WasAdded S a b line f t → IsCut S a b line f border walk
    → TwoBegun S a b line f t2 p → IsDivisible t2 p walk border
two_divides S a b line f border walk t t2 p h cut begun =
    subst (λ (u : Tables). IsDivisible u p walk border) (sym begun.begun)
    (subst (λ (q : FaceParts). IsDivisible (two_begun S a b line f) q walk border) (sym begun.parts) (two_divisible S a b line f border walk (at_added S a b line f t h) cut))

pub two_divided : (S : Drawing) (a b : NodeRow) (line : List Point) (f : ℕ) (border : List BorderDart) (walk : List Point) (t t2 : Tables) (p : FaceParts) → WasAdded S a b line f t → IsCut S a b line f border walk
    → TwoBegun S a b line f t2 p → IsDividedFace (with_edge S a b line f) (coming S a b line f) (division_by S a b line f p) p walk t2 border
two_divided S a b line f border walk t t2 p h cut begun =
    divided_by S a b line f border walk t2 p h.ringed cut (ap (λ (u : Tables). u.edges) begun.begun) (ap (λ (u : Tables). u.nodes) begun.begun) (ap (λ (q : FaceParts). q.face) begun.parts)
    (ap (λ (q : FaceParts). q.edge) begun.parts)

pub record TwoFollowed (S : Drawing) (a b : NodeRow) (line : List Point) (f : ℕ) (t2 t3 : Tables) (p : FaceParts) (ws : List RowWrite) : Type 0 where
  pub begun : TwoBegun S a b line f t2 p
  pub followed : t3 ≡ followed_rows (with_division t2 (with_edge S a b line f) (division_by S a b line f p)) p
  pub last : ws ≡ last_writes t3 f p

two_rows : (S : Drawing) (a b : NodeRow) (line : List Point) (f : ℕ) (t2 t3 : Tables) (p : FaceParts) (ws : List RowWrite) → TwoFollowed S a b line f t2 t3 p ws → t3 ≡ two_followed S a b line f
two_rows S a b line f t2 t3 p ws h =
    h.followed ∙ (λ i. followed_rows (with_division (h.begun.begun i) (with_edge S a b line f) (division_by S a b line f (h.begun.parts i))) (h.begun.parts i))

two_last : (S : Drawing) (a b : NodeRow) (line : List Point) (f : ℕ) (t2 t3 : Tables) (p : FaceParts) (ws : List RowWrite) → TwoFollowed S a b line f t2 t3 p ws → ws ≡ last_writes (two_followed S a b line f) f (the_two S f)
two_last S a b line f t2 t3 p ws h = let rows = two_rows S a b line f t2 t3 p ws h in h.last ∙ (λ i. last_writes (rows i) f (h.begun.parts i))

pub two_may_close : (S : Drawing) (a b : NodeRow) (line : List Point) (f : ℕ) (t t2 t3 : Tables) (p : FaceParts) (ws : List RowWrite) → WasAdded S a b line f t → f == 0 ≡ false → TwoFollowed S a b line f t2 t3 p ws
    → CanWriteAll t3.next_ids t3 ws
two_may_close S a b line f t t2 t3 p ws h some followed =
    subst (λ (u : Tables). CanWriteAll u.next_ids u ws) (sym (two_rows S a b line f t2 t3 p ws followed))
    (subst (λ (vs : List RowWrite). CanWriteAll (two_followed S a b line f).next_ids (two_followed S a b line f) vs) (sym (two_last S a b line f t2 t3 p ws followed))
    (two_can_close S a b line f (at_added S a b line f t h) some))

pub two_closes : (S : Drawing) (a b : NodeRow) (line : List Point) (f : ℕ) (t t2 t3 t4 : Tables) (p : FaceParts) (ws : List RowWrite) → WasAdded S a b line f t → TwoFollowed S a b line f t2 t3 p ws
    → t4 ≡ all_written t3.next_ids t3 ws → t4 ≡ tables_of (in_two S a b line f)
two_closes S a b line f t t2 t3 t4 p ws h followed made =
    let rows = two_rows S a b line f t2 t3 p ws followed in
    let last = two_last S a b line f t2 t3 p ws followed in
    made ∙ (λ i. all_written (rows i).next_ids (rows i) (last i)) ∙ two_is S a b line f (at_added S a b line f t h)
