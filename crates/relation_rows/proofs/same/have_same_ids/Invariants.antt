use Rattle.std.proofs.Common.{◌≡◌, map, drop}
use Rattle.drawing.specs.Drawing.{feature_id_of}
use Rattle.drawing.specs.RemoveEdge.{same_numbers}
use Rattle.relation_rows.proofs.same.have_same_ids.Given as goal

-- the features before this place are the same
abbrev pub invariant-loop-place : goal.invariant-loop-place
invariant-loop-place l = same_numbers (map feature_id_of l.a) (map feature_id_of l.b) ≡ same_numbers (map feature_id_of (drop l.place l.a)) (map feature_id_of (drop l.place l.b))
