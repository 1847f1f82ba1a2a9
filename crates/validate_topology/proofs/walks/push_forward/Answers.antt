use Rattle.std.proofs.Common.{◌++◌, ◌-◌, ◌∙◌, ap, length, take}
use Rattle.face_parts.proofs.Vertices.{front_is}
use Rattle.validate_topology.proofs.walks.push_forward.Goals as goal

pub returns : goal.returns
returns c =
    c.in_ok-extend_from_slice.ensures.items
    ∙ ap (λ l. c.args.path.now.items ++ l) (c.split_at.ensures.front ∙ ap (λ l. take (length l - 1) l) c.vertices-vertices.ensures.vertices ∙ front_is c.args.line.now)
