use Rattle.std.proofs.Common.{FitsSigned, rules, ◌≡◌, ◌∙◌, ap}
use Rattle.std.specs.Int.{int_min, int_max}
use Rattle.std.proofs.lemmas.Int.{to_z-of_z}
use mir.Syntax.{w64}
use Rattle.drawing_queries.proofs.extent.wider.Goals as goal

pub returns : goal.returns
returns c =
    let old = c.args.old in
    let p = c.args.point in
    let f1 : FitsSigned w64 c.min.result = search rules in
    let f2 : FitsSigned w64 c.min-2.result = search rules in
    let f3 : FitsSigned w64 c.max.result = search rules in
    let f4 : FitsSigned w64 c.max-2.result = search rules in
    let g1 : FitsSigned w64 old.min_x = search rules in
    let g2 : FitsSigned w64 old.min_y = search rules in
    let g3 : FitsSigned w64 old.max_x = search rules in
    let g4 : FitsSigned w64 old.max_y = search rules in
    let h1 : FitsSigned w64 c.x.result = search rules in
    let h2 : FitsSigned w64 c.y.result = search rules in
    let h3 : FitsSigned w64 c.x-2.result = search rules in
    let h4 : FitsSigned w64 c.y-2.result = search rules in
    let a1 : c.min.result ≡ int_min old.min_x p.x = simp to_z-of_z at c.min.ensures.value ∙ ap (int_min old.min_x) c.x.ensures.value in
    let a2 : c.min-2.result ≡ int_min old.min_y p.y = simp to_z-of_z at c.min-2.ensures.value ∙ ap (int_min old.min_y) c.y.ensures.value in
    let a3 : c.max.result ≡ int_max old.max_x p.x = simp to_z-of_z at c.max.ensures.value ∙ ap (int_max old.max_x) c.x-2.ensures.value in
    let a4 : c.max-2.result ≡ int_max old.max_y p.y = simp to_z-of_z at c.max-2.ensures.value ∙ ap (int_max old.max_y) c.y-2.ensures.value in
    simp to_z-of_z (λ i. record { min_x = a1 i; min_y = a2 i; max_x = a3 i; max_y = a4 i })
