use Rattle.std.proofs.Common.{◌∙◌}
use Rattle.std.proofs.lemmas.Result.{on_ok_weaker}
use Rattle.face_merge.proofs.FeaturesFollow.{all_at_once}
use Rattle.face_merge.proofs.following.follow_all.Goals as goal

pub returns-clause-rows : goal.returns-clause-rows
returns-clause-rows g c = on_ok_weaker c.follow_each.result (λ made. made ∙ all_at_once c.args.draft.now.rows c.args.gone.now c.args.kept c.requires) c.follow_each.ensures.rows
