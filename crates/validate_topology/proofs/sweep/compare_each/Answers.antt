use Rattle.std.proofs.Common.{◌+◌, ◌⊎◌, List, drop, subst, sym}
use Rattle.std.specs.Prelude.{Contains}
use Rattle.validate_topology.specs.Pieces.{AreFoundOf, AreInOrder, IsOfOne}
use Rattle.validate_topology.specs.declared.conflicts.Conflict.{Conflict}
use Rattle.validate_topology.specs.declared.pieces.Piece.{Piece}
use Rattle.validate_topology.proofs.PieceOrder.{in_rest, item_there, next_is}
use Rattle.validate_topology.proofs.Sweeping.{each_more, each_only, order_drop}
use Rattle.validate_topology.proofs.sweep.compare_each.Goals as goal

pub compare_all-requires : goal.compare_all-requires
compare_all-requires g c = subst AreInOrder (sym c.split_at.ensures.back) (order_drop (c.loop-index.index + 1) c.args.pieces.now c.requires)

pub loop-index-preserved : goal.loop-index-preserved
loop-index-preserved g c =
    let pieces = c.args.pieces.now in
    let i = c.loop-index.index in
    let x = c.index-pieces-index.result in
    let rest = drop (i + 1) pieces in
    let found = c.loop-index.found.items in
    let new = c.compare_all.new.found.items in
    let last = c.in_ok-compare_all.ensures in
    let there = item_there pieces i x c.loop-index-test.true c.index-pieces-index.is in
    record {
      all = each_more x rest pieces (drop i pieces) found new (next_is pieces i x c.loop-index-test.true c.index-pieces-index.is) c.loop-index.invariant.all last.kept
          (subst (λ (ps : List Piece). AreFoundOf x ps new) c.split_at.ensures.back last.all);
      only = each_only pieces rest x found new there (λ q k. in_rest pieces (i + 1) q k) c.loop-index.invariant.only
          (subst (λ (ps : List Piece). (d : Conflict) → Contains new d → Contains found d ⊎ IsOfOne x ps d) c.split_at.ensures.back last.only);
    }
