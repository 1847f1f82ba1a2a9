use Rattle.std.proofs.Common.{◌≡◌, ◌++◌, ◌∙◌, ap, drop, subst}
use Rattle.std.specs.Prelude.{OnOk, reverse}
use Rattle.face_parts.proofs.Vertices.{back_is}
use Rattle.validate_topology.proofs.walks.push_backward.Goals as goal

pub returns : goal.returns
returns c =
    subst (λ l. OnOk c.push_reversed.result (c.push_reversed.new.path.items ≡ c.args.path.now.items ++ l))
    (ap reverse (c.split_at.ensures.back ∙ ap (drop 1) c.vertices.ensures.vertices) ∙ back_is c.args.line.now) c.push_reversed.ensures
