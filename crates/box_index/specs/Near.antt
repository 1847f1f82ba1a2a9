-- A search for the entries near an area.
use Rattle.std.specs.Prelude.{List}
use Rattle.box_index.specs.declared.entry.Entry.{Entry}
use Rattle.box_index.specs.declared.near.Scan.{Scan}
use Rattle.box_index.specs.declared.near.Search.{Search}
use Rattle.box_index.specs.declared.near.Search.TheVariants.{Cells, All}
use Rattle.box_index.specs.Boxes.{entries_near}
use Rattle.box_index.specs.Walk.{IsWalk, left}

-- what a scan and a search still give
abbrev pub scanned : Scan → List Entry
scanned s = entries_near s.area s.rest

abbrev pub found_later : Search → List Entry
found_later (Cells walk) = left walk
found_later (All scan) = scanned scan

abbrev pub IsSearch : Search → Type 0
IsSearch (Cells walk) = IsWalk walk
IsSearch (All scan) = Unit {0}
