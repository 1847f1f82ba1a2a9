use Rattle.std.proofs.Common.{◌≡◌, ◌-◌, ◌∙◌, sym, ap, subst, length, get_or}
use Rattle.face_parts.specs.Divided.{vertex_along}
use Rattle.face_parts.proofs.Starts.{last_read}
use Rattle.face_parts.proofs.parts.vertex_along.Goals as goal

pub returns-else-forward : goal.returns-else-forward
returns-else-forward c =
    let same = c.vertices-vertices.ensures.vertices in
    let p = c.index-vertices-vertices.result in
    let is = subst (λ l. p ≡ get_or l (length l - 1) p) same c.index-vertices-vertices.is in
    last_read c.args.row.now.geom p c.vertices-vertices.ensures.some is ∙ ap (λ w. vertex_along w c.args.row.now) (sym c.if-forward.false)
