-- The row writes of links where darts have other names after an edit.
use Rattle.std.specs.Prelude.{ℕ, List, [], ◌∷◌, ◌++◌, flat_map, if◌then◌else◌}
use Rattle.topo_base.specs.Darts.{same_dart}
use Rattle.topo_base.specs.declared.ids.Dart.{Dart}
use Rattle.topo_base.specs.declared.rows.EdgeRow.{EdgeRow}
use Rattle.topo_base.specs.declared.write.Hand.{Hand}
use Rattle.topo_base.specs.declared.write.Hand.TheVariants.{Left, Right}
use Rattle.topo_base.specs.declared.write.RowId.TheVariants.{Old}
use Rattle.topo_base.specs.declared.write.RowWrite.{RowWrite}
use Rattle.topo_base.specs.declared.write.RowWrite.TheVariants.{SetNext}
use Rattle.edge_links.specs.Links.{row_dart}

-- a link that names a dart with another name now is set anew
abbrev pub relink : (Dart → Dart) → ℕ → Hand → Dart → List RowWrite
relink named id hand d = if same_dart (named d) d then [] else SetNext (Old id) hand (row_dart (named d)) ∷ []

-- both links of a row, and those of all rows
abbrev pub relinks : (Dart → Dart) → EdgeRow → List RowWrite
relinks named r = relink named r.edge_id Left r.next_left_edge ++ relink named r.edge_id Right r.next_right_edge

abbrev pub all_relinks : (Dart → Dart) → List EdgeRow → List RowWrite
all_relinks named rows = flat_map (relinks named) rows
