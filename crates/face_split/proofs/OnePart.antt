-- A face that is divided into itself and a new face: what the stages of the draft leave.
use Rattle.std.proofs.Common.{◌≡◌, ℕ, Bool, true, false, not, ◌&&◌, ◌==◌, List, [], ◌∷◌, ◌++◌, IsTrue, refl, sym, ap, ◌∙◌, subst, inl, inr, cond, eq-eqb}
use Rattle.std.proofs.lemmas.List.Elements.{Contains-push}
use Rattle.std.proofs.lemmas.List.Folds.{list_any-append}
use Rattle.std.proofs.lemmas.Bool.{and_parts, or_left, or_right}
use Rattle.topo_base.specs.Point.{Point}
use Rattle.topo_base.specs.declared.rows.FaceRow.{FaceRow}
use Rattle.topo_base.specs.declared.rows.NodeRow.{NodeRow}
use Rattle.topo_base.specs.declared.write.RowWrite.{RowWrite}
use Rattle.drawing.proofs.Ordering.{InOrder}
use Rattle.drawing.specs.AddEdge.{Division, coming, divided}
use Rattle.drawing.specs.Drawing.{Drawing}
use Rattle.drawing.specs.IsoEdits.{with_edge}
use Rattle.drawing.specs.Ring.{is_shell}
use Rattle.drawing.specs.Subdivision.{face_id_of}
use Rattle.drawing.specs.Tables.{Tables, tables_of}
use Rattle.drawing.specs.Writable.{CanWriteAll, has_face_row}
use Rattle.drawing.specs.Writes.{all_written}
use Rattle.drawing.specs.Content.{listing}
use Rattle.drawing.specs.Relations.{face_type, lists_element}
use Rattle.ring_laws.specs.Ringed.{IsRinged}
use Rattle.face_parts.specs.declared.parts.FaceParts.{FaceParts}
use Rattle.face_boxes.proofs.DividedBoxes.{ArePartsOf, one_can, one_written, others_of_division}
use Rattle.face_boxes.proofs.Boxes.{same_box}
use Rattle.face_parts.specs.DividedFace.{IsDividedFace, with_division}
use Rattle.face_rings.specs.declared.content.BorderDart.{BorderDart}
use Rattle.face_rings.specs.Border.{are_linked}
use Rattle.face_rings.proofs.FaceBorders.{rings_are_right}
use Rattle.relation_rows.proofs.KnownFeatures.{known_features}
use Rattle.face_split.specs.Added.{added_rows}
use Rattle.face_split.specs.Closing.{IsCut, WasAdded, in_one, left_ring, right_ring, one_part}
use Rattle.face_split.specs.Divided.{IsDivisible, KnowsFeatures, both_boxes, followed_rows, new_face, with_new_face}
use Rattle.read_set.specs.Ready.{IsReady}
use Rattle.face_split.proofs.AddedRows.{face_row_there}

-- ---- what is known of the drawing
pub faces_ordered : (S : Drawing) → IsReady S → InOrder face_id_of 0 S.next_ids.face S.faces
faces_ordered S h =
    let four = and_parts _ _ h.ids in
    let three = and_parts _ _ four.0 in
    record { test = (and_parts _ _ three.0).1 }

-- ---- a face that came is listed, and so are those that were
pub there_new : (t : Tables) → IsTrue (has_face_row (with_new_face t) t.next_ids.face)
there_new t =
    list_any-append (λ (r : FaceRow). r.face_id == t.next_ids.face) t.faces (new_face t.next_ids.face ∷ [])
    ∙ or_right (has_face_row t t.next_ids.face) _ (or_left (t.next_ids.face == t.next_ids.face) false (eq-eqb t.next_ids.face t.next_ids.face refl))

pub there_kept : (t : Tables) (g : ℕ) → IsTrue (has_face_row t g) → IsTrue (has_face_row (with_new_face t) g)
there_kept t g there =
    list_any-append (λ (r : FaceRow). r.face_id == g) t.faces (new_face t.next_ids.face ∷ []) ∙ or_left (has_face_row t g) _ there

-- ---- the face is divided in the drawing with the edge
abbrev pub division_by : Drawing → NodeRow → NodeRow → List Point → ℕ → FaceParts → Division
division_by S a b line f p = record { face = f; left_ring = left_ring S a b line f; right_ring = right_ring S a b line f; left_part = p.left_part; right_part = p.right_part }

pub divided_by : (S : Drawing) (a b : NodeRow) (line : List Point) (f : ℕ) (border : List BorderDart) (walk : List Point) (t : Tables) (p : FaceParts) → IsRinged (with_edge S a b line f)
    → IsCut S a b line f border walk → t.edges ≡ (tables_of (with_edge S a b line f)).edges → t.nodes ≡ (with_edge S a b line f).nodes → p.face ≡ f → p.edge ≡ S.next_ids.edge
    → IsDividedFace (with_edge S a b line f) (coming S a b line f) (division_by S a b line f p) p walk t border
divided_by S a b line f border walk t p ringed cut edges nodes face edge = record {
  rings = ringed.rings;
  divided = record { there = Contains-push S.edges (coming S a b line f); left = refl; right = refl; left_ring = refl; right_ring = refl };
  face = face;
  edge = edge;
  left_part = refl;
  right_part = refl;
  cut = cut.walk_is;
  rows = record { edges = edges; nodes = nodes };
  content = cut.border_is;
}

-- the features that list it are features of the tables
pub knows_features : (S : Drawing) (t : Tables) (f : ℕ) → IsReady S → t.relations ≡ S.relations → t.features ≡ S.features → t.layers ≡ S.layers → KnowsFeatures t f
knows_features S t f ready relations features layers fs is =
    known_features S t face_type f fs ready.references relations features layers
    (is ∙ (λ i. listing (lists_element (record S { layers = layers i }) face_type f) (record S { relations = relations i })))

-- the border is linked
pub border_is_linked : (S : Drawing) (a b : NodeRow) (line : List Point) (f : ℕ) (border : List BorderDart) (walk : List Point) → IsRinged (with_edge S a b line f) → IsCut S a b line f border walk → IsTrue (are_linked border)
border_is_linked S a b line f border walk ringed cut =
    subst (λ (bs : List BorderDart). IsTrue (are_linked bs)) (sym cut.border_is) (rings_are_right.linked (with_edge S a b line f) f ringed.rings)

-- ---- one part is new
abbrev pub one_begun : Drawing → NodeRow → NodeRow → List Point → ℕ → Tables
one_begun S a b line f = with_new_face (added_rows S a b line f)

abbrev pub the_parts : Drawing → ℕ → Bool → FaceParts
the_parts S f shell = one_part f S.next_ids.edge S.next_ids.face shell

part_there : (t : Tables) (f new : ℕ) (b : Bool) → IsTrue (has_face_row t f) → IsTrue (has_face_row t new) → IsTrue (has_face_row t (cond b f new)) × IsTrue (has_face_row t (cond b new f))
part_there t f new true old more = (old, more)
part_there t f new false old more = (more, old)

pub one_divisible : (S : Drawing) (a b : NodeRow) (line : List Point) (f : ℕ) (border : List BorderDart) (walk : List Point) (shell : Bool) → WasAdded S a b line f (added_rows S a b line f) → IsCut S a b line f border walk
    → IsDivisible (one_begun S a b line f) (the_parts S f shell) walk border
one_divisible S a b line f border walk shell h cut =
    let t = one_begun S a b line f in
    let old = there_kept (added_rows S a b line f) f (face_row_there S f h.face) in
    let both = part_there t f S.next_ids.face (f == 0 && not shell) old (there_new (added_rows S a b line f)) in
    record {
      drawing = with_edge S a b line f;
      edge = coming S a b line f;
      division = division_by S a b line f (the_parts S f shell);
      divided = divided_by S a b line f border walk t (the_parts S f shell) h.ringed cut refl refl refl refl;
      left = both.0;
      right = both.1;
      features = knows_features S t f h.ready refl refl refl;
    }

-- what is left of it once sides, nodes and features follow
abbrev pub one_followed : Drawing → NodeRow → NodeRow → List Point → ℕ → Bool → Tables
one_followed S a b line f shell = let p = the_parts S f shell in followed_rows (with_division (one_begun S a b line f) (with_edge S a b line f) (division_by S a b line f p)) p

abbrev pub in_one_by : Drawing → NodeRow → NodeRow → List Point → ℕ → Bool → Drawing
in_one_by S a b line f shell =
    let T = with_edge S a b line f in divided T (division_by S a b line f (the_parts S f shell)) (T.faces ++ T.next_ids.face ∷ []) 1

are_parts : (f new : ℕ) (b : Bool) → ArePartsOf f new (cond b f new) (cond b new f)
are_parts f new true = inl (refl, refl)
are_parts f new false = inr (refl, refl)

pub one_can_box : (S : Drawing) (a b : NodeRow) (line : List Point) (f : ℕ) (shell : Bool) → WasAdded S a b line f (added_rows S a b line f)
    → CanWriteAll (one_followed S a b line f shell).next_ids (one_followed S a b line f shell) (both_boxes (one_followed S a b line f shell) (the_parts S f shell).left_part (the_parts S f shell).right_part)
one_can_box S a b line f shell h =
    one_can _ (one_followed S a b line f shell) S f (the_parts S f shell).left_part (the_parts S f shell).right_part _ _ (faces_ordered S h.ready) (are_parts f S.next_ids.face (f == 0 && not shell)) h.face refl

pub one_is : (S : Drawing) (a b : NodeRow) (line : List Point) (f : ℕ) (shell : Bool) → WasAdded S a b line f (added_rows S a b line f)
    → all_written (one_followed S a b line f shell).next_ids (one_followed S a b line f shell) (both_boxes (one_followed S a b line f shell) (the_parts S f shell).left_part (the_parts S f shell).right_part)
    ≡ tables_of (in_one_by S a b line f shell)
one_is S a b line f shell h =
    let T = with_edge S a b line f in
    let U = in_one_by S a b line f shell in
    let p = the_parts S f shell in
    one_written _ (one_followed S a b line f shell) S U f p.left_part p.right_part _ _ (faces_ordered S h.ready) (are_parts f S.next_ids.face (f == 0 && not shell))
    (others_of_division S T (coming S a b line f) (division_by S a b line f p) (T.faces ++ T.next_ids.face ∷ []) 1 refl refl refl) (same_box U p.left_part) (same_box U p.right_part) refl

-- ---- the stages by their equations
pub at_added : (S : Drawing) (a b : NodeRow) (line : List Point) (f : ℕ) (t : Tables) → WasAdded S a b line f t → WasAdded S a b line f (added_rows S a b line f)
at_added S a b line f t h = record { ready = h.ready; ringed = h.ringed; face = h.face; rows = refl }

-- the tables with the new face, and the parts
pub record OneBegun (S : Drawing) (a b : NodeRow) (line : List Point) (f : ℕ) (shell : Bool) (t1 : Tables) (p : FaceParts) : Type 0 where
  pub begun : t1 ≡ one_begun S a b line f
  pub parts : p ≡ the_parts S f shell

pub one_begins : (S : Drawing) (a b : NodeRow) (line : List Point) (f edge new : ℕ) (shell : Bool) (t t1 : Tables) (p : FaceParts) → WasAdded S a b line f t → edge ≡ S.next_ids.edge → new ≡ t.next_ids.face
    → t1 ≡ with_new_face t → p ≡ one_part f edge new shell → OneBegun S a b line f shell t1 p
one_begins S a b line f edge new shell t t1 p h edge_is new_is made parts =
    let new_id = new_is ∙ ap (λ (u : Tables). u.next_ids.face) h.rows in record {
      begun = made ∙ ap with_new_face h.rows;
      parts = parts ∙ (λ i. one_part f (edge_is i) (new_id i) shell);
    }

pub one_divides : (S : Drawing) (a b : NodeRow) (line : List Point) (f : ℕ) (border : List BorderDart) (walk : List Point) (shell : Bool) (t t1 : Tables) (p : FaceParts) → WasAdded S a b line f t
    → IsCut S a b line f border walk → OneBegun S a b line f shell t1 p → IsDivisible t1 p walk border
one_divides S a b line f border walk shell t t1 p h cut begun =
    subst (λ (u : Tables). IsDivisible u p walk border) (sym begun.begun)
    (subst (λ (q : FaceParts). IsDivisible (one_begun S a b line f) q walk border) (sym begun.parts) (one_divisible S a b line f border walk shell (at_added S a b line f t h) cut))

pub one_divided : (S : Drawing) (a b : NodeRow) (line : List Point) (f : ℕ) (border : List BorderDart) (walk : List Point) (shell : Bool) (t t1 : Tables) (p : FaceParts) → WasAdded S a b line f t
    → IsCut S a b line f border walk → OneBegun S a b line f shell t1 p
    → IsDividedFace (with_edge S a b line f) (coming S a b line f) (division_by S a b line f p) p walk t1 border
one_divided S a b line f border walk shell t t1 p h cut begun =
    divided_by S a b line f border walk t1 p h.ringed cut (ap (λ (u : Tables). u.edges) begun.begun) (ap (λ (u : Tables). u.nodes) begun.begun) (ap (λ (q : FaceParts). q.face) begun.parts)
    (ap (λ (q : FaceParts). q.edge) begun.parts)

-- the tables with the parts, and the writes of the boxes
pub record OneFollowed (S : Drawing) (a b : NodeRow) (line : List Point) (f : ℕ) (shell : Bool) (t1 t3 : Tables) (p : FaceParts) (ws : List RowWrite) : Type 0 where
  pub begun : OneBegun S a b line f shell t1 p
  pub followed : t3 ≡ followed_rows (with_division t1 (with_edge S a b line f) (division_by S a b line f p)) p
  pub boxes : ws ≡ both_boxes t3 p.left_part p.right_part

one_rows : (S : Drawing) (a b : NodeRow) (line : List Point) (f : ℕ) (shell : Bool) (t1 t3 : Tables) (p : FaceParts) (ws : List RowWrite) → OneFollowed S a b line f shell t1 t3 p ws → t3 ≡ one_followed S a b line f shell
one_rows S a b line f shell t1 t3 p ws h =
    h.followed ∙ (λ i. followed_rows (with_division (h.begun.begun i) (with_edge S a b line f) (division_by S a b line f (h.begun.parts i))) (h.begun.parts i))

one_boxes : (S : Drawing) (a b : NodeRow) (line : List Point) (f : ℕ) (shell : Bool) (t1 t3 : Tables) (p : FaceParts) (ws : List RowWrite) → OneFollowed S a b line f shell t1 t3 p ws
    → ws ≡ both_boxes (one_followed S a b line f shell) (the_parts S f shell).left_part (the_parts S f shell).right_part
one_boxes S a b line f shell t1 t3 p ws h =
    let rows = one_rows S a b line f shell t1 t3 p ws h in h.boxes ∙ (λ i. both_boxes (rows i) (h.begun.parts i).left_part (h.begun.parts i).right_part)

pub one_can_close : (S : Drawing) (a b : NodeRow) (line : List Point) (f : ℕ) (shell : Bool) (t t1 t3 : Tables) (p : FaceParts) (ws : List RowWrite) → WasAdded S a b line f t → OneFollowed S a b line f shell t1 t3 p ws
    → CanWriteAll t3.next_ids t3 ws
one_can_close S a b line f shell t t1 t3 p ws h followed =
    subst (λ (u : Tables). CanWriteAll u.next_ids u ws) (sym (one_rows S a b line f shell t1 t3 p ws followed))
    (subst (λ (vs : List RowWrite). CanWriteAll (one_followed S a b line f shell).next_ids (one_followed S a b line f shell) vs) (sym (one_boxes S a b line f shell t1 t3 p ws followed))
    (one_can_box S a b line f shell (at_added S a b line f t h)))

pub one_closes : (S : Drawing) (a b : NodeRow) (line : List Point) (f : ℕ) (shell : Bool) (t t1 t3 t4 : Tables) (p : FaceParts) (ws : List RowWrite) → WasAdded S a b line f t → OneFollowed S a b line f shell t1 t3 p ws
    → t4 ≡ all_written t3.next_ids t3 ws → shell ≡ is_shell (left_ring S a b line f) → t4 ≡ tables_of (in_one S a b line f)
one_closes S a b line f shell t t1 t3 t4 p ws h followed made is =
    let rows = one_rows S a b line f shell t1 t3 p ws followed in
    let boxes = one_boxes S a b line f shell t1 t3 p ws followed in
    made ∙ (λ i. all_written (rows i).next_ids (rows i) (boxes i)) ∙ one_is S a b line f shell (at_added S a b line f t h) ∙ ap (λ (s : Bool). tables_of (in_one_by S a b line f s)) is
