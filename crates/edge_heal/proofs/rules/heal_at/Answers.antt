use Rattle.std.proofs.Common.{refl, rules, sym, ◌∙◌}
use Rattle.drawing.specs.Tables.{drawn, drawn_edge}
use Rattle.edge_heal.specs.Healing.{heal_done_by}
use Rattle.edge_heal.proofs.HealPlans.{accepted}
use Rattle.read_set.proofs.Answering.{want_of_memory}
use Rattle.edge_heal.proofs.rules.heal_at.Goals as goal

pub returns-in_err-tried : goal.returns-in_err-tried
returns-in_err-tried g c =
    want_of_memory (drawn c.args.tables.now.rows) _ (heal_done_by c.args.anew (drawn c.args.tables.now.rows) (drawn_edge c.args.first.now) (drawn_edge c.args.second.now) c.args.node) c.from_residual.result
    (accepted c.args.anew c.args.tables.now.rows c.args.tables.now.rows (drawn_edge c.args.first.now) (drawn_edge c.args.second.now) c.args.node refl (sym c.are_listed_alike.ensures ∙ c.if-not-are_listed_alike.false)
    (sym c.is_listed.ensures ∙ c.if-is_listed.false))
    (search rules)

pub returns : goal.returns
returns g c =
    c.into_edited.ensures (drawn c.args.tables.now.rows) _ (heal_done_by c.args.anew (drawn c.args.tables.now.rows) (drawn_edge c.args.first.now) (drawn_edge c.args.second.now) c.args.node)
    (accepted c.args.anew c.args.tables.now.rows c.args.tables.now.rows (drawn_edge c.args.first.now) (drawn_edge c.args.second.now) c.args.node refl (sym c.are_listed_alike.ensures ∙ c.if-not-are_listed_alike.false)
    (sym c.is_listed.ensures ∙ c.if-is_listed.false))
    c.in_ok-tried.ensures
