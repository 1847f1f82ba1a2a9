-- A face that an edge doesn't divide: its box grows.
use Rattle.std.proofs.Common.{◌≡◌, ℕ, List, refl, sym, ap, ◌∙◌, subst, map}
use Rattle.topo_base.specs.Point.{Point}
use Rattle.topo_base.specs.declared.rows.NodeRow.{NodeRow}
use Rattle.topo_base.specs.declared.write.RowWrite.{RowWrite}
use Rattle.drawing.specs.AddEdge.{coming}
use Rattle.drawing.specs.Drawing.{Drawing}
use Rattle.drawing.specs.IsoEdits.{with_edge}
use Rattle.drawing.specs.Tables.{Tables, tables_of, drawn, face_box, face_row}
use Rattle.drawing.specs.Writable.{CanWriteAll}
use Rattle.drawing.specs.Writes.{all_written}
use Rattle.face_boxes.specs.Bounds.{box_write}
use Rattle.face_boxes.proofs.DividedBoxes.{kept_can, kept_written, others_added}
use Rattle.face_boxes.proofs.Boxes.{same_box}
use Rattle.face_split.specs.Closing.{HasEdgeIn, WasAdded}

can_grow : (S : Drawing) (a b : NodeRow) (line : List Point) (f : ℕ) (t u : Tables) (ws : List RowWrite) → WasAdded S a b line f t → ws ≡ box_write f (face_box (drawn u) f) → CanWriteAll t.next_ids t ws
can_grow S a b line f t u ws h is =
    subst (λ (vs : List RowWrite). CanWriteAll t.next_ids t vs) (sym is) (kept_can t.next_ids t S f (face_box (drawn u) f) (ap (λ (v : Tables). v.faces) h.rows) h.face)

pub may_grow : (f : ℕ) (t u : Tables) (ws : List RowWrite) → HasEdgeIn t f → ws ≡ box_write f (face_box (drawn u) f) → CanWriteAll t.next_ids t ws
may_grow f t u ws h is = can_grow h.before h.start h.end h.line f t u ws h.added is

pub grown_is : (S : Drawing) (a b : NodeRow) (line : List Point) (f : ℕ) (t u v : Tables) (ws : List RowWrite) → WasAdded S a b line f t → u ≡ t → ws ≡ box_write f (face_box (drawn u) f)
    → v ≡ all_written t.next_ids t ws → v ≡ tables_of (with_edge S a b line f)
grown_is S a b line f t u v ws h same is made =
    let T = with_edge S a b line f in
    let bounds = face_box (drawn u) f in
    let box : bounds ≡ face_box T f = ap (λ (w : Tables). face_box (drawn w) f) (same ∙ h.rows) ∙ same_box T f in
    made ∙ ap (all_written t.next_ids t) is
    ∙ kept_written t.next_ids t S T f bounds (others_added S T (coming S a b line f) f f f refl refl refl) box (ap (λ (w : Tables). w.faces) h.rows)
    ∙ ap (λ (w : Tables). record w { faces = map (face_row T) S.faces }) h.rows
