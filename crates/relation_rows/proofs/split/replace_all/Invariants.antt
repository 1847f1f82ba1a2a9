use Rattle.std.proofs.Common.{◌≡◌, flat_map, take}
use Rattle.relation_rows.specs.Following.{replaced_by}
use Rattle.relation_rows.proofs.split.replace_all.Given as goal

-- the writes of the features so far
abbrev pub invariant-loop-feature : goal.invariant-loop-feature
invariant-loop-feature l = l.writes ≡ flat_map (replaced_by l.element_type l.old l.new) (take l.feature-index l.features)
