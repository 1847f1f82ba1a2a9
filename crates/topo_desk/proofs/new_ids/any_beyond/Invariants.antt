use Rattle.std.proofs.Common.{◌≡◌, drop}
use Rattle.std.specs.List.{list_any}
use Rattle.topo_desk.specs.Beyond.{adds_beyond}
use Rattle.topo_desk.proofs.new_ids.any_beyond.Given as goal

-- no write before this place does
abbrev pub invariant-loop-write : goal.invariant-loop-write
invariant-loop-write l = list_any (adds_beyond l.max_id) l.writes ≡ list_any (adds_beyond l.max_id) (drop l.write-index l.writes)
