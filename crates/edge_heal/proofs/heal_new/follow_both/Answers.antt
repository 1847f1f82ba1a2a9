use Rattle.std.proofs.Common.{[], ◌∷◌, ap, ◌∙◌}
use Rattle.std.proofs.lemmas.Result.{on_ok_weaker}
use Rattle.drawing.specs.Tables.{Tables}
use Rattle.edge_heal.specs.NewHeal.{listed_anew}
use Rattle.edge_heal.proofs.NewHealDrafts.{listed_both}
use Rattle.edge_heal.proofs.heal_new.follow_both.Goals as goal

pub returns-clause-rows : goal.returns-clause-rows
returns-clause-rows g c =
    let healed = c.args.healed.now in
    on_ok_weaker c.follow_edge-2.result
    (λ made. made ∙ ap (λ (t : Tables). listed_anew t (healed.second ∷ []) healed.id) c.in_ok-follow_edge.ensures.rows ∙ listed_both c.args.draft.now.rows healed.first healed.second healed.id c.requires)
    c.follow_edge-2.ensures.rows
