use Rattle.std.proofs.Common.{◌∙◌, FitsSigned, rules, w64}
use Rattle.std.proofs.lemmas.Int.{to_z-of_z}
use Rattle.validate_topology.proofs.place_lines.grown.Goals as goal

pub returns : goal.returns
returns c =
    let fits_a : FitsSigned w64 c.lower_x-min_x.result = search rules in
    let fits_b : FitsSigned w64 c.lower_y-min_y.result = search rules in
    let fits_c : FitsSigned w64 c.upper_x-max_x.result = search rules in
    let fits_d : FitsSigned w64 c.upper_y-max_y.result = search rules in
    let low_x = to_z-of_z w64 c.lower_x-min_x.result fits_a ∙ c.lower_x-min_x.ensures in
    let low_y = to_z-of_z w64 c.lower_y-min_y.result fits_b ∙ c.lower_y-min_y.ensures in
    let high_x = to_z-of_z w64 c.upper_x-max_x.result fits_c ∙ c.upper_x-max_x.ensures in
    let high_y = to_z-of_z w64 c.upper_y-max_y.result fits_d ∙ c.upper_y-max_y.ensures in
    c.box_between.ensures ∙ (λ i. record { min_x = low_x i; min_y = low_y i; max_x = high_x i; max_y = high_y i })
