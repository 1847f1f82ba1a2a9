use Rattle.std.proofs.Common.{◌≡◌, map, take}
use Rattle.script_reader.proofs.bindings.copies.Given as goal

abbrev pub invariant-loop-name : goal.invariant-loop-name
invariant-loop-name l = map (λ bytes. bytes.items) l.copies.items ≡ take l.name-index l.names
