use Rattle.std.proofs.Common.{◌+◌, drop}
use Rattle.validate_topology.proofs.PieceOrder.{item_there, next_is, none_left}
use Rattle.validate_topology.proofs.Sweeping.{all_met, one_more, only_more, order_drop, rest_beyond}
use Rattle.validate_topology.proofs.sweep.compare_all.Goals as goal

pub returns-then-is_beyond-clause-all : goal.returns-then-is_beyond-clause-all
returns-then-is_beyond-clause-all g c =
    let others = c.args.others.now in
    let i = c.loop-other.other-index in
    let x = c.other-item.result in
    rest_beyond c.args.one.now x (drop (i + 1) others) others (drop i others) c.loop-other.found.items (next_is others i x c.loop-other-test.true c.other-item.is)
    (order_drop i others c.requires) (c.is_beyond.ensures.0 c.if-is_beyond.true) c.loop-other.invariant.all

pub loop-other-preserved : goal.loop-other-preserved
loop-other-preserved g c =
    let one = c.args.one.now in
    let others = c.args.others.now in
    let i = c.loop-other.other-index in
    let x = c.other-item.result in
    let found = c.loop-other.found.items in
    let new = c.compare.new.found.items in
    let last = c.in_ok-compare.ensures in
    record {
      kept = λ d h. last.kept d (c.loop-other.invariant.kept d h);
      all = one_more one x (drop (i + 1) others) others (drop i others) found new (next_is others i x c.loop-other-test.true c.other-item.is) c.loop-other.invariant.all last.kept last.all;
      only = only_more one x others c.args.found.now.items found new (item_there others i x c.loop-other-test.true c.other-item.is) c.loop-other.invariant.only last.only;
    }

pub returns-clause-all : goal.returns-clause-all
returns-clause-all g c =
    let others = c.args.others.now in
    let i = c.loop-other.other-index in
    all_met c.args.one.now others (drop i others) c.loop-other.found.items (none_left others i c.loop-other-test.false) c.loop-other.invariant.all
