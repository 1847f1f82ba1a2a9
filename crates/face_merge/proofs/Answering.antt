-- The rule that refuses a removed edge, and that the faces on its sides join where none does.
use Rattle.std.proofs.Common.{◌≡◌, ℕ, Bool, true, false, not, ◌&&◌, ◌==◌, List, cond, Option, Some, None, Bor, Err, refl, sym, ap, ◌∙◌}
use Rattle.std.specs.List.{Contains}
use Rattle.std.specs.Option.{option_copied}
use Rattle.topo_base.specs.declared.rows.EdgeRow.{EdgeRow}
use Rattle.topo_base.specs.declared.rule.Rule.TheVariants.{NoEdge, EdgeInFeature, FaceInFeature}
use Rattle.drawing.specs.Drawing.{Drawing, Edge, edge_at}
use Rattle.drawing.specs.Apply.{carried_out}
use Rattle.drawing.specs.Decide.{faces_join}
use Rattle.drawing.specs.Edits.{merged, remove_edge}
use Rattle.drawing.specs.IsoEdits.{is_in_feature}
use Rattle.drawing.specs.Outcome.{Outcome}
use Rattle.drawing.specs.Relations.{edge_type, face_type}
use Rattle.drawing.specs.RemoveEdge.{have_same_features}
use Rattle.drawing.specs.Rows.{row_at}
use Rattle.drawing.specs.Writes.{edge_row_id}
use Rattle.drawing.proofs.Members.{contains-found}
use Rattle.drawing.specs.Step.{step}
use Rattle.topo_base.specs.declared.edit.Edit.{Edit}
use Rattle.topo_base.specs.declared.edit.Edit.TheVariants.{RemEdgeModFace, RemEdgeNewFace}

-- the row that a reader found is there
pub found_there : (rows : List EdgeRow) (id : ℕ) (found : Option (Bor EdgeRow)) (row : Bor EdgeRow) → found ≡ Some row → option_copied found ≡ row_at edge_row_id rows id → Contains rows row.now
found_there rows id found row is same = (contains-found (λ (r : EdgeRow). edge_row_id r == id) (row.now) rows (sym same ∙ ap option_copied is)).0

-- ---- what Step answers
abbrev pub lies_between_features : Drawing → Edge → Bool
lies_between_features S e = not (e.left_face == e.right_face) && not (have_same_features S face_type e.left_face e.right_face)

abbrev by_tests : Bool → Drawing → Edge → Bool → Bool → Outcome
by_tests anew S e listed between = carried_out S (cond listed (Err EdgeInFeature) (cond between (Err FaceInFeature) (faces_join anew e)))

pub refused_unknown : (anew : Bool) (S : Drawing) (id : ℕ) → edge_at S id ≡ None → remove_edge anew S (edge_at S id) ≡ Err NoEdge
refused_unknown anew S id none = ap (remove_edge anew S) none

pub refused_listed : (anew : Bool) (S : Drawing) (id : ℕ) (e : Edge) → edge_at S id ≡ Some e → is_in_feature S edge_type e.edge_id ≡ true → remove_edge anew S (edge_at S id) ≡ Err EdgeInFeature
refused_listed anew S id e found listed = ap (remove_edge anew S) found ∙ ap (λ b. by_tests anew S e b (lies_between_features S e)) listed

pub refused_between : (anew : Bool) (S : Drawing) (id : ℕ) (e : Edge) → edge_at S id ≡ Some e → is_in_feature S edge_type e.edge_id ≡ false → lies_between_features S e ≡ true
    → remove_edge anew S (edge_at S id) ≡ Err FaceInFeature
refused_between anew S id e found free between = ap (remove_edge anew S) found ∙ (λ i. by_tests anew S e (free i) (between i))

pub faces_joined : (anew : Bool) (S : Drawing) (id : ℕ) (e : Edge) → edge_at S id ≡ Some e → is_in_feature S edge_type e.edge_id ≡ false → lies_between_features S e ≡ false
    → remove_edge anew S (edge_at S id) ≡ merged anew S e
faces_joined anew S id e found free inner = ap (remove_edge anew S) found ∙ (λ i. by_tests anew S e (free i) (inner i))

-- which edit it is
abbrev pub edit_of : Bool → ℕ → Edit
edit_of anew edge = cond anew (RemEdgeNewFace edge) (RemEdgeModFace edge)

pub step_of : (S : Drawing) (anew : Bool) (edge : ℕ) → remove_edge anew S (edge_at S edge) ≡ step S (edit_of anew edge)
step_of S true edge = refl
step_of S false edge = refl
