use Rattle.std.proofs.Common.{◌∙◌, ap}
use Rattle.std.proofs.lemmas.Result.{on_ok_weaker}
use Rattle.slab_index.specs.Slabs.{slab_of}
use Rattle.std.proofs.lemmas.List.Elements.{All-set}
use Rattle.slab_index.specs.Held.{IsSlab, kept_of, number_of}
use Rattle.slab_index.proofs.Placed.{number_there, same_numbers, same_pieces, one_staged}
use Rattle.slab_index.proofs.slabs.stage_at.Goals as goal

pub returns-clause-kept : goal.returns-clause-kept
returns-clause-kept c =
    let there = number_there c.args.slabs.now.items c.args.place (slab_of c.args.piece.now) c.requires.own.there in
    same_pieces kept_of c.args.slabs.now.items c.args.place c.index_mut.result.now c.stage_in.new.slab there.0 (c.stage_in.ensures.kept ∙ ap kept_of c.index_mut.ensures.value)

pub returns-clause-ok : goal.returns-clause-ok
returns-clause-ok c =
    let there = number_there c.args.slabs.now.items c.args.place (slab_of c.args.piece.now) c.requires.own.there in
    on_ok_weaker c.stage_in.result (λ made. one_staged c.args.slabs.now.items c.args.place c.index_mut.result.now c.stage_in.new.slab c.args.piece.now there.0 c.index_mut.ensures.value made) c.stage_in.ensures.ok

pub returns-clause-slabs : goal.returns-clause-slabs
returns-clause-slabs c = All-set IsSlab c.args.slabs.now.items c.args.place c.stage_in.new.slab c.stage_in.ensures.slab c.requires.slabs

pub returns-clause-numbers : goal.returns-clause-numbers
returns-clause-numbers c =
    let there = number_there c.args.slabs.now.items c.args.place (slab_of c.args.piece.now) c.requires.own.there in
    same_numbers c.args.slabs.now.items c.args.place c.index_mut.result.now c.stage_in.new.slab there.0 (c.stage_in.ensures.number ∙ ap number_of c.index_mut.ensures.value)
