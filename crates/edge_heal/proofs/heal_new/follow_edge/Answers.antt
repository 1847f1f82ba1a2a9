use Rattle.std.proofs.Common.{◌∷◌, [], ap, subst, sym, ◌∙◌}
use Rattle.std.proofs.lemmas.Result.{on_ok_weaker}
use Rattle.drawing.specs.Content.{listing}
use Rattle.drawing.specs.Relations.{edge_type, lists_element}
use Rattle.drawing.specs.Tables.{Tables, drawn}
use Rattle.read_set.specs.Drafted.{Drafted}
use Rattle.relation_rows.specs.KnownRows.{KnowsRows}
use Rattle.relation_rows.proofs.MergedInto.{rows_features}
use Rattle.edge_heal.specs.NewHeal.{listed_anew}
use Rattle.edge_heal.proofs.NewHealDrafts.{knows_listed}
use Rattle.edge_heal.proofs.heal_new.follow_edge.Goals as goal

pub write_all-requires : goal.write_all-requires
write_all-requires g c =
    let t = c.args.draft.now.rows in
    let is = c.in_ok-features.ensures.features ∙ ap (λ (u : Tables). listing (lists_element (drawn u) edge_type c.args.edge) (drawn u)) c.tables.ensures in
    record { can = c.in_ok-writes.ensures.can t.next_ids t (rows_features t edge_type c.args.edge c.in_ok-features.features c.requires is) }

pub returns-clause-rows : goal.returns-clause-rows
returns-clause-rows g c =
    let t = c.args.draft.now.rows in
    let is = c.in_ok-features.ensures.features ∙ ap (λ (u : Tables). listing (lists_element (drawn u) edge_type c.args.edge) (drawn u)) c.tables.ensures in
    let follows = c.in_ok-writes.ensures.follows t.next_ids t (rows_features t edge_type c.args.edge c.in_ok-features.features c.requires is) ∙ ap (listed_anew t (c.args.edge ∷ [])) c.joined.view_is in
    on_ok_weaker c.write_all.result (λ made. ap (λ (d : Drafted). d.rows) made ∙ follows) c.write_all.ensures.made

pub returns-clause-knows : goal.returns-clause-knows
returns-clause-knows g c =
    let t = c.args.draft.now.rows in
    let is = c.in_ok-features.ensures.features ∙ ap (λ (u : Tables). listing (lists_element (drawn u) edge_type c.args.edge) (drawn u)) c.tables.ensures in
    let follows = c.in_ok-writes.ensures.follows t.next_ids t (rows_features t edge_type c.args.edge c.in_ok-features.features c.requires is) ∙ ap (listed_anew t (c.args.edge ∷ [])) c.joined.view_is in
    on_ok_weaker c.write_all.result (λ made. subst KnowsRows (sym (ap (λ (d : Drafted). d.rows) made ∙ follows)) (knows_listed t (c.args.edge ∷ []) c.args.joined c.requires)) c.write_all.ensures.made
