use Rattle.std.proofs.Common.{◌≡◌, [], ◌∷◌, ◌++◌, IsTrue, length}
use Rattle.std.specs.List.{list_all}
use Rattle.topo_base.specs.Names.{is_name}
use Rattle.script_model.specs.Script.{pieces}
use Rattle.script_reader.specs.Parting.{is_comma}
use Rattle.script_reader.proofs.names.names_of.Given as goal

-- the names so far are the pieces of the word before the rest
abbrev pub invariant-loop-first : goal.invariant-loop-first
invariant-loop-first l = record {
  good : IsTrue (list_all is_name l.names.items);
  parted : pieces is_comma ([] ∷ []) l.word ≡ l.names.items ++ pieces is_comma ([] ∷ []) l.rest;
}

abbrev pub decreases-loop-first : goal.decreases-loop-first
decreases-loop-first l = length l.rest
