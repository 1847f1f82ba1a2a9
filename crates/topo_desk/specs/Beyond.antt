-- Which row writes make an id that is beyond a limit.
use Rattle.std.specs.Prelude.{ℕ, Bool, false, nat_lt}
use Rattle.topo_base.specs.declared.write.RowId.{RowId}
use Rattle.topo_base.specs.declared.write.RowId.TheVariants.{Old, Fresh}
use Rattle.topo_base.specs.declared.write.RowWrite.{RowWrite}
use Rattle.topo_base.specs.declared.write.RowWrite.TheVariants.{AddNode, AddEdge, AddFace, AddLayer, AddFeature}

abbrev pub is_greater : ℕ → RowId → Bool
is_greater max_id (Old n) = nat_lt max_id n
is_greater max_id (Fresh k) = false

-- the write adds a row with an id of its own, and that is greater than the limit
abbrev pub adds_beyond : ℕ → RowWrite → Bool
adds_beyond max_id (AddNode node face p) = is_greater max_id node
adds_beyond max_id (AddEdge edge start end next_left next_right left right line) = is_greater max_id edge
adds_beyond max_id (AddFace face mbr) = is_greater max_id face
adds_beyond max_id (AddLayer layer level child kind name) = is_greater max_id layer
adds_beyond max_id (AddFeature feature layer) = is_greater max_id feature
adds_beyond max_id _ = false
