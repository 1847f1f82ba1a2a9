use Rattle.std.proofs.Common.{◌∷◌, [], ap, subst, sym, ◌∙◌}
use Rattle.std.proofs.lemmas.Result.{on_ok_weaker}
use Rattle.drawing.specs.Content.{listing}
use Rattle.drawing.specs.Relations.{face_type, lists_element}
use Rattle.drawing.specs.Tables.{Tables, drawn}
use Rattle.read_set.specs.Drafted.{Drafted}
use Rattle.relation_rows.specs.KnownRows.{KnowsRows}
use Rattle.relation_rows.proofs.MergedInto.{rows_features}
use Rattle.face_merge.specs.Merging.{with_relations}
use Rattle.face_merge.proofs.FeaturesFollow.{knows_after}
use Rattle.face_merge.proofs.following.follow_one.Goals as goal

pub write_all-requires : goal.write_all-requires
write_all-requires g c =
    let t = c.args.draft.now.rows in
    let is = c.in_ok-features.ensures.features ∙ ap (λ (u : Tables). listing (lists_element (drawn u) face_type c.args.face) (drawn u)) c.tables.ensures in
    record { can = c.in_ok-writes.ensures.can t.next_ids t (rows_features t face_type c.args.face c.in_ok-features.features c.requires is) }

pub returns-clause-rows : goal.returns-clause-rows
returns-clause-rows g c =
    let t = c.args.draft.now.rows in
    let is = c.in_ok-features.ensures.features ∙ ap (λ (u : Tables). listing (lists_element (drawn u) face_type c.args.face) (drawn u)) c.tables.ensures in
    let follows = c.in_ok-writes.ensures.follows t.next_ids t (rows_features t face_type c.args.face c.in_ok-features.features c.requires is) ∙ ap (with_relations t (c.args.face ∷ [])) c.kept.view_is in
    on_ok_weaker c.write_all.result (λ made. ap (λ (d : Drafted). d.rows) made ∙ follows) c.write_all.ensures.made

pub returns-clause-knows : goal.returns-clause-knows
returns-clause-knows g c =
    let t = c.args.draft.now.rows in
    let is = c.in_ok-features.ensures.features ∙ ap (λ (u : Tables). listing (lists_element (drawn u) face_type c.args.face) (drawn u)) c.tables.ensures in
    let follows = c.in_ok-writes.ensures.follows t.next_ids t (rows_features t face_type c.args.face c.in_ok-features.features c.requires is) ∙ ap (with_relations t (c.args.face ∷ [])) c.kept.view_is in
    on_ok_weaker c.write_all.result (λ made. subst KnowsRows (sym (ap (λ (d : Drafted). d.rows) made ∙ follows)) (knows_after t (c.args.face ∷ []) c.args.kept c.requires)) c.write_all.ensures.made
