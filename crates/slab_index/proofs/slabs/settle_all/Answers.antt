use Rattle.std.proofs.Common.{◌<◌, ◌+◌, ◌∙◌, ap, arith, length, not, ◌&&◌, length-set}
use Rattle.std.specs.Prelude.{count_by}
use Rattle.std.proofs.lemmas.List.Elements.{All-set}
use Rattle.slab_index.specs.Pieces.{is_gone}
use Rattle.slab_index.specs.Held.{IsSlab, number_of, all_kept, all_coming}
use Rattle.slab_index.proofs.Placed.{same_numbers, settled_kept, cleared, all_cleared}
use Rattle.slab_index.proofs.slabs.settle_all.Goals as goal

pub loop-place-preserved : goal.loop-place-preserved
loop-place-preserved c =
    let slabs = c.loop-place.slabs.items in
    let i = c.loop-place.place in
    let d = c.index_mut.result.now in
    let s = c.settle_in.new.slab in
    let is = c.index_mut.ensures.value in
    let h : i < length slabs = (let k = c.loop-place.invariant.len in let l = c.loop-place-test.true in omega arith) in
    record {
      slabs = All-set IsSlab slabs i s c.settle_in.ensures.slab c.loop-place.invariant.slabs;
      numbers = λ j. same_numbers slabs i d s h (c.settle_in.ensures.number ∙ ap number_of is) j ∙ c.loop-place.invariant.numbers j;
      len = length-set slabs i s ∙ c.loop-place.invariant.len;
      kept = λ f.
          settled_kept f c.args.gone.now (count_by (λ e. f e && not (is_gone c.args.gone.now e)) (all_kept c.args.slabs.now.items) + count_by f (all_coming c.args.slabs.now.items))
          slabs i d s h is c.settle_in.ensures.kept (c.loop-place.invariant.kept f);
      coming = λ f. cleared f slabs i d s h is c.settle_in.ensures.coming (c.loop-place.invariant.coming f);
    }

pub returns-clause-coming : goal.returns-clause-coming
returns-clause-coming c = all_cleared c.loop-place.slabs.items c.loop-place.place (let k = c.loop-place.invariant.len in let l = c.loop-place-test.false in omega arith) c.loop-place.invariant.coming
