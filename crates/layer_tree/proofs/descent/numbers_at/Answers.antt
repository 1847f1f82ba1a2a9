use Rattle.std.proofs.Common.{◌≡◌, ℕ, ap, arith, ◌∙◌}
use Rattle.drawing.specs.Descent.{listed_by}
use Rattle.drawing.specs.Tables.{drawn}
use Rattle.layer_tree.specs.Descending.{levels_below}
use Rattle.layer_tree.proofs.Descents.{elements_descended}
use Rattle.layer_tree.proofs.descent.numbers_at.Goals as goal

pub returns : goal.returns
returns g c =
    let S = drawn c.args.tables.now.rows in
    let t = c.args.feature in
    let all : c.loop-step.step ≡ c.args.level = omega arith in
    c.loop-step.invariant ∙ ap (λ (n : ℕ). levels_below S n (listed_by S t)) all ∙ elements_descended S c.args.level t
