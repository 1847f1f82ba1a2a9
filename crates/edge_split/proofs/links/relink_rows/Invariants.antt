use Rattle.std.proofs.Common.{◌≡◌, ◌++◌, drop}
use Rattle.drawing.specs.Places.{rows_of}
use Rattle.edge_split.specs.Relinks.{all_relinks}
use Rattle.edge_split.proofs.links.relink_rows.Given as goal

-- the writes so far, and those of the rows to come
abbrev pub invariant-loop-slot : goal.invariant-loop-slot
invariant-loop-slot g l =
    l.writes ++ all_relinks (g.N.Names.named l.names) (rows_of (drop l.slot-index l.slots))
    ≡ l.fn.writes ++ all_relinks (g.N.Names.named l.names) (rows_of l.slots)
