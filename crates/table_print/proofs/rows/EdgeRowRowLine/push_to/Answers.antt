use Rattle.std.proofs.Common.{◌≡◌, ℕ, List, length, ◌++◌, ◌∷◌, [], subst, ap, ◌∙◌, OnOk}
use Rattle.std.specs.Prelude.{codes}
use Rattle.std.specs.Fmt.{decimal}
use Rattle.script_model.specs.Words.{spaced, dart_word, line_words}
use Rattle.table_print.proofs.RowLines.{line_of-four}
use Rattle.table_print.proofs.rows.EdgeRowRowLine.push_to.Goals as goal

pub returns : goal.returns
returns c =
    let row = c.args.self.now in
    let nodes = decimal row.edge_id ∷ decimal row.start_node ∷ decimal row.end_node ∷ [] in
    let links = dart_word row.next_left_edge ∷ dart_word row.next_right_edge ∷ [] in
    let faces = decimal row.left_face ∷ decimal row.right_face ∷ decimal (length row.geom) ∷ [] in
    let behind = λ (ws : List (List ℕ)) (t : List ℕ). t ++ spaced ws in
    let before = c.in_ok-push_line.ensures
    ∙ ap (behind (line_words row.geom)) (c.in_ok-push_edge_faces.ensures
    ∙ ap (behind faces) (c.in_ok-push_edge_links.ensures
    ∙ ap (behind links) (c.in_ok-push_edge_nodes.ensures
    ∙ ap (behind nodes) c.in_ok-push_bytes.ensures))) in
    subst (λ (t : List ℕ). OnOk c.push.result (c.push.new.self ≡ t))
    (ap (λ (t : List ℕ). t ++ 10 ∷ []) before ∙ line_of-four c.args.text.now (codes "edge") nodes links faces (line_words row.geom)) c.push.ensures
