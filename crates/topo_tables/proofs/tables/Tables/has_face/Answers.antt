use Rattle.std.proofs.Common.{◌≡◌, ℕ, ◌==◌, ◌||◌, List, ◌∷◌, map, sym, ap, ◌∙◌, ne_eqb}
use Rattle.std.specs.List.{list_any}
use Rattle.topo_base.specs.declared.rows.FaceRow.{FaceRow}
use Rattle.drawing.specs.Drawing.{has_face}
use Rattle.drawing.specs.Rows.{has_row}
use Rattle.drawing.specs.Tables.{universal_face, drawn}
use Rattle.drawing.specs.Writes.{face_row_id}
use Rattle.drawing.proofs.TableLemmas.{list_any-map}
use Rattle.topo_tables.specs.Room.{Held}
use Rattle.topo_tables.proofs.tables.Tables.has_face.Goals as goal

-- another face than face 0 is there where it has a row
other_face : (faces : List FaceRow) (f : ℕ) → (f ≡ 0 → ⊥) → has_row face_row_id faces f ≡ list_any (λ g. g == f) (map face_row_id (universal_face ∷ faces))
other_face faces f other =
    sym (list_any-map (λ g. g == f) face_row_id faces)
    ∙ ap (λ b. b || list_any (λ g. g == f) (map face_row_id faces)) (sym (ne_eqb 0 f (λ e. other (sym e))))

pub returns-else-face-eq0 : goal.returns-else-face-eq0
returns-else-face-eq0 c =
    c.has.ensures ∙ other_face c.self.inside.faces.rows c.face.inside.0 c.if-face-eq0.false
    ∙ ap (λ (t : Held). has_face (drawn t.rows) c.face.inside.0) c.self.view_is ∙ ap (λ (f : ℕ). has_face (drawn c.args.self.now.rows) f) c.face.view_is
