use Rattle.std.proofs.Common.{◌≡◌, ◌∙◌, ℕ, ap, true, List, Bool, None, subst}
use Rattle.std.specs.Prelude.{slice_get, slice_set}
use Rattle.drawing.specs.Drawing.{node_id_of}
use Rattle.drawing.specs.Rows.{row_at}
use Rattle.validate_topology.proofs.Marked.{none_by, set_by}
use Rattle.validate_topology.proofs.link_lines.mark.Goals as goal

pub returns-in_default-clause-marked : goal.returns-in_default-clause-marked
returns-in_default-clause-marked c seen e =
    let nodes = c.args.nodes.now in
    e ∙ none_by node_id_of nodes seen c.args.node true (subst (λ (n : ℕ). row_at node_id_of nodes n ≡ None) c.node.view_is c.in_default.ensures.lookup)

pub returns-clause-marked : goal.returns-clause-marked
returns-clause-marked c seen e =
    let nodes = c.args.nodes.now in
    let place = c.in-Some.place in
    ap (λ (bs : List Bool). slice_set bs place true) e
    ∙ set_by node_id_of 0 nodes seen c.args.node place true c.rows.ensures.ascend c.in-Some.ensures.within
    (subst (λ (n : ℕ). row_at node_id_of nodes n ≡ slice_get nodes place) c.node.view_is c.in-Some.ensures.lookup)
