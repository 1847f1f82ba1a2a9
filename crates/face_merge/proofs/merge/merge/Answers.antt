use Rattle.std.proofs.lemmas.Result.{on_ok_weaker}
use Rattle.face_merge.proofs.Stages.{closes, knows_renamed, less_of, may_go_still, there_still}
use Rattle.face_merge.proofs.merge.merge.Goals as goal

pub follow_all-requires : goal.follow_all-requires
follow_all-requires g c =
    let h = c.requires in
    let t = c.args.draft.now.rows in
    let less = less_of h.before h.row h.face_rows h.faces h.ids c.args.edge.now c.args.gone.now c.args.kept t h.merge in
    knows_renamed h.before h.row h.face_rows h.faces h.ids c.args.edge.now c.args.gone.now c.args.kept t c.rename.new.draft.rows h.merge (c.in_ok-rename.ensures.rows h.before h.row less)

pub close-requires-clause-there : goal.close-requires-clause-there
close-requires-clause-there g c =
    let h = c.requires in
    let t = c.args.draft.now.rows in
    let less = less_of h.before h.row h.face_rows h.faces h.ids c.args.edge.now c.args.gone.now c.args.kept t h.merge in
    there_still h.before h.row h.face_rows h.faces h.ids c.args.edge.now c.args.gone.now c.args.kept t c.rename.new.draft.rows c.follow_all.new.draft.rows h.merge
    (record { renamed = c.in_ok-rename.ensures.rows h.before h.row less; followed = c.in_ok-follow_all.ensures.rows })

pub close-requires-clause-may_go : goal.close-requires-clause-may_go
close-requires-clause-may_go g c =
    let h = c.requires in
    let t = c.args.draft.now.rows in
    let less = less_of h.before h.row h.face_rows h.faces h.ids c.args.edge.now c.args.gone.now c.args.kept t h.merge in
    may_go_still h.before h.row h.face_rows h.faces h.ids c.args.edge.now c.args.gone.now c.args.kept t c.rename.new.draft.rows c.follow_all.new.draft.rows h.merge
    (record { renamed = c.in_ok-rename.ensures.rows h.before h.row less; followed = c.in_ok-follow_all.ensures.rows })

pub returns-clause-rows : goal.returns-clause-rows
returns-clause-rows g c S e row fs ids h =
    let t = c.args.draft.now.rows in
    let less = less_of S e row fs ids c.args.edge.now c.args.gone.now c.args.kept t h in
    on_ok_weaker c.close.result
    (closes S e row fs ids c.args.edge.now c.args.gone.now c.args.kept t c.rename.new.draft.rows c.follow_all.new.draft.rows c.close.new.draft.rows h
    (record { renamed = c.in_ok-rename.ensures.rows S e less; followed = c.in_ok-follow_all.ensures.rows })) c.close.ensures.rows
