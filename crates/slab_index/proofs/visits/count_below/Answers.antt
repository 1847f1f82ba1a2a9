use Rattle.std.proofs.Common.{arith, rules, int_lt}
use Rattle.std.proofs.lemmas.List.Sorted.{IsPartitionPoint-from_clause}
use Rattle.slab_index.specs.declared.piece.Piece.{Piece}
use Rattle.slab_index.specs.Reach.{top}
use Rattle.slab_index.proofs.Reach.{parted, all_taken}
use Rattle.slab_index.proofs.visits.count_below.Goals as goal

pub returns-clause-below : goal.returns-clause-below
returns-clause-below c =
    let xs = c.args.pieces.now in
    let h = c.args.height in
    let found = IsPartitionPoint-from_clause (λ (e : Piece). int_lt (top e) h) xs c.partition_point.result c.partition_point.ensures.partitioned (parted xs h c.requires) (λ a r f q. search rules) in
    all_taken h xs c.partition_point.result c.partition_point.ensures.bound (λ k d lt. found.0 k d (omega arith) lt)
