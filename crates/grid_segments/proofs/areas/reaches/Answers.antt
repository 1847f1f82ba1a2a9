use Rattle.std.proofs.Common.{FitsSigned, rules, ◌≡◌, ◌∙◌, ap}
use Rattle.std.proofs.lemmas.Int.{to_z-of_z}
use mir.Syntax.{w128}
use Rattle.plane.specs.Orientation.{area}
use Rattle.grid_segments.proofs.areas.reaches.Goals as goal

pub returns : goal.returns
returns c =
    let t = c.args.t.now in
    let s = c.args.s.now in
    let f1 : FitsSigned w128 c.area_with.result = search rules in
    let f2 : FitsSigned w128 c.area_with-2.result = search rules in
    let a1 : c.area_with.result ≡ area t.a t.b s.a = c.area_with.ensures ∙ ap (area t.a t.b) c.from.ensures.value in
    let a2 : c.area_with-2.result ≡ area t.a t.b s.b = c.area_with-2.ensures ∙ ap (area t.a t.b) c.to.ensures.value in
    let e = simp to_z-of_z at c.is_opposite.ensures in
    rw (← a1, ← a2) e
