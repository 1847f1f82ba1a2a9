use Rattle.std.proofs.Common.{◌≡◌, ◌++◌, drop, filter, map}
use Rattle.drawing.specs.Places.{rows_of}
use Rattle.drawing_queries.proofs.found.rows_where.Given as goal

-- those found so far, with those behind, are all that are sought
abbrev pub invariant-loop-slot : goal.invariant-loop-slot
invariant-loop-slot g l = map (λ r. r.now) l.rows.items ++ filter (g.S.Sought.is_sought l.sought) (rows_of (drop l.slot-index l.slots))
    ≡ filter (g.S.Sought.is_sought l.sought) (rows_of l.slots)
