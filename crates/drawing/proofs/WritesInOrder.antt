-- Some row writes, and then others.
use Rattle.std.proofs.Common.{◌≡◌, refl, List, [], ◌∷◌, ◌++◌}
use Rattle.topo_base.specs.declared.rows.Counters.{Counters}
use Rattle.topo_base.specs.declared.write.RowWrite.{RowWrite}
use Rattle.drawing.specs.Tables.{Tables}
use Rattle.drawing.specs.Writable.{CanWriteAll}
use Rattle.drawing.specs.Writes.{all_written, written}

pub written-append : (n : Counters) (t : Tables) (ws vs : List RowWrite) → all_written n t (ws ++ vs) ≡ all_written n (all_written n t ws) vs
written-append n t [] vs = refl
written-append n t (w ∷ ws) vs = written-append n (written n t w) ws vs

pub can_write-append : (n : Counters) (t : Tables) (ws vs : List RowWrite) → CanWriteAll n t ws → CanWriteAll n (all_written n t ws) vs → CanWriteAll n t (ws ++ vs)
can_write-append n t [] vs can more = more
can_write-append n t (w ∷ ws) vs can more = (can.0, can_write-append n (written n t w) ws vs can.1 more)
