use Rattle.std.proofs.Common.{◌≡◌, ◌∙◌, ◌++◌, append-nil, ap, sym, rules}
use Rattle.validate_topology.proofs.HoleLines.{hole_told, other_way}
use Rattle.validate_topology.proofs.place_lines.begun_hole.Goals as goal

pub returns-then-not-is_walked : goal.returns-then-not-is_walked
returns-then-not-is_walked g c = λ above tells.
    let items = c.args.walk.now.sides.items in
    let none = other_way above c.args.is_forward items c.index-side.result.now c.requires.some (search rules) (sym c.is_walked.ensures ∙ c.if-not-is_walked.true) in
    sym (append-nil c.args.report.now) ∙ ap (λ ls. c.args.report.now ++ ls) (sym none)

pub returns : goal.returns
returns g c = λ above tells.
    let w = c.args.walk.now in
    let told = hole_told above c.args.is_forward w.sides.items c.index-side.result.now c.face_above-face.result c.requires.some (search rules) c.requires.hole (sym c.is_walked.ensures ∙ c.if-not-is_walked.false)
    (tells w.top c.face_above-face.result c.face_above-face.ensures ∙ ap above c.requires.walk.top) in
    c.in_ok-hole_elsewhere.ensures ∙ ap (λ ls. c.args.report.now ++ ls) (sym told)
