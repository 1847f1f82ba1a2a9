-- The row writes of an edge that comes may be made, and leave the rows with it.
use Rattle.std.proofs.Common.{◌≡◌, ℕ, ◌+◌, ◌<◌, ◌≤◌, ◌^◌, ◌==◌, true, false, List, [], ◌∷◌, length, None, IsTrue, refl, sym, ap, ◌∙◌, subst, eqb, eq-eqb}
use Rattle.std.proofs.lemmas.Bool.{or_right}
use Rattle.topo_base.specs.Point.{Point}
use Rattle.topo_base.specs.declared.rows.FaceRow.{FaceRow}
use Rattle.topo_base.specs.declared.rows.NodeRow.{NodeRow}
use Rattle.topo_base.specs.declared.write.RowId.TheVariants.{Old}
use Rattle.topo_base.specs.declared.write.RowWrite.{RowWrite}
use Rattle.topo_base.specs.declared.write.RowWrite.TheVariants.{SetContaining}
use Rattle.drawing.proofs.TableLemmas.{list_any-map}
use Rattle.drawing.specs.Drawing.{Drawing, node_id_of, has_face, has_node}
use Rattle.drawing.specs.IsoEdits.{with_edge}
use Rattle.drawing.specs.Plain.{IsPlain}
use Rattle.drawing.specs.PlainInOrder.{IsPlainInOrder}
use Rattle.drawing.specs.Rows.{has_row}
use Rattle.drawing.specs.Tables.{Tables, tables_of, face_row}
use Rattle.drawing.specs.Writable.{CanWriteAll, has_face_row}
use Rattle.drawing.specs.Writes.{all_written, edge_row_id}
use Rattle.drawing.proofs.WritesInOrder.{can_write-append}
use Rattle.edge_links.specs.LinksLaw.{HasDirections, link_writes_of, with_row}
use Rattle.edge_links.proofs.RightLinks.{links_are_right}
use Rattle.face_split.specs.Added.{own_dart, added_writes, added_rows}
use Rattle.topo_tables.proofs.RowChanges.{has_changed}

pub face_row_there : (S : Drawing) (f : ℕ) → has_face S f ≡ true → IsTrue (has_face_row (tables_of S) f)
face_row_there S f there = list_any-map (λ (r : FaceRow). r.face_id == f) (face_row S) S.faces ∙ there

-- what an edge wants that comes into a face, in which it lies
pub record IsAddedTo (S : Drawing) (a b : NodeRow) (line : List Point) (f : ℕ) : Type 0 where
  pub ordered : IsPlainInOrder S
  pub plain : IsPlain (with_edge S a b line f)
  pub at_start : HasDirections S a.node_id
  pub at_end : HasDirections S b.node_id
  pub long : 2 ≤ length line
  pub start : IsTrue (has_node S a.node_id)
  pub end : IsTrue (has_node S b.node_id)
  pub face : IsTrue (has_face S f)
  pub more : S.next_ids.edge + 1 < 2 ^ 32

pub added_is : (S : Drawing) (a b : NodeRow) (line : List Point) (f : ℕ) → IsAddedTo S a b line f → all_written S.next_ids (tables_of S) (added_writes S a b line f) ≡ added_rows S a b line f
added_is S a b line f h =
    let left = own_dart S.next_ids.edge false in
    let right = own_dart S.next_ids.edge true in
    let edges = links_are_right.links S a b line f left right h.ordered h.plain h.at_start h.at_end h.long in
    λ i. record (added_rows S a b line f) { edges = edges i }

pub added_can : (S : Drawing) (a b : NodeRow) (line : List Point) (f : ℕ) → IsAddedTo S a b line f → CanWriteAll S.next_ids (tables_of S) (added_writes S a b line f)
added_can S a b line f h =
    let left = own_dart S.next_ids.edge false in
    let right = own_dart S.next_ids.edge true in
    let itself = or_right (has_row edge_row_id (tables_of S).edges S.next_ids.edge) (eqb S.next_ids.edge S.next_ids.edge) (eq-eqb S.next_ids.edge S.next_ids.edge refl) in
    let face = face_row_there S f h.face in
    let links = links_are_right.writable S a b line f left right h.ordered h.plain h.at_start h.at_end h.long in
    let start = has_changed node_id_of S.nodes b.node_id a.node_id (λ row. record row { containing_face = None }) (λ r. refl) ∙ h.start in (
      ((refl, h.more), h.start, h.end, itself, itself, face, face),
      can_write-append S.next_ids (with_row S a b line f left right) (link_writes_of S (with_edge S a b line f) a b) (SetContaining (Old b.node_id) None ∷ SetContaining (Old a.node_id) None ∷ [])
          links ((h.end, tt), ((start, tt), tt)),
    )

-- the same on tables that stand for the drawing, and by an equal list of writes
pub can_add : (S : Drawing) (t : Tables) (a b : NodeRow) (line : List Point) (f : ℕ) (ws : List RowWrite) → t ≡ tables_of S → ws ≡ added_writes S a b line f → IsAddedTo S a b line f → CanWriteAll t.next_ids t ws
can_add S t a b line f ws stands is h =
    let on_list = subst (λ (vs : List RowWrite). CanWriteAll S.next_ids (tables_of S) vs) (sym is) (added_can S a b line f h) in
    subst (λ (u : Tables). CanWriteAll u.next_ids u ws) (sym stands) on_list

pub rows_added : (S : Drawing) (t u : Tables) (a b : NodeRow) (line : List Point) (f : ℕ) (ws : List RowWrite) → t ≡ tables_of S → ws ≡ added_writes S a b line f → u ≡ all_written t.next_ids t ws
    → IsAddedTo S a b line f → u ≡ added_rows S a b line f
rows_added S t u a b line f ws stands is made h =
    made ∙ ap (λ (v : Tables). all_written v.next_ids v ws) stands ∙ ap (all_written S.next_ids (tables_of S)) is ∙ added_is S a b line f h
