use Rattle.std.proofs.Common.{◌∙◌, ◌∷◌, List, IsPermutation, sym, arith, subst}
use Rattle.box_index.specs.declared.entry.Entry.{Entry}
use Rattle.box_index.specs.Walk.{left}
use Rattle.box_index.proofs.Passing.{cell_passes, place_passes, place_pops, ends}
use Rattle.box_index.proofs.walk.Walk.next.Goals as goal

pub returns-then-meets-clause-found : goal.returns-then-meets-clause-found
returns-then-meets-clause-found c =
    let P : List Entry → Type 0 = λ es. IsPermutation es (c.entry_here-entry.result ∷ left c.past_place.result) in
    subst P (sym c.walk.invariant.left)
    (place_pops c.walk.self c.past_place.result c.walk.invariant.walk c.past_place.ensures.grid c.past_place.ensures.area
    c.entry_here-entry.result c.entry_here-entry.ensures c.past_place.ensures.further (sym c.meets.ensures ∙ c.if-meets.true))

pub walk-preserved-else-meets : goal.walk-preserved-else-meets
walk-preserved-else-meets c = record {
  walk = c.past_place.ensures.walk;
  grid = c.past_place.ensures.grid ∙ c.walk.invariant.grid;
  area = c.past_place.ensures.area ∙ c.walk.invariant.area;
  left = c.walk.invariant.left
      ∙ place_passes c.walk.self c.past_place.result c.walk.invariant.walk c.past_place.ensures.grid c.past_place.ensures.area
      c.entry_here-entry.result c.entry_here-entry.ensures c.past_place.ensures.further (sym c.meets.ensures ∙ c.if-meets.false);
}

pub walk-preserved : goal.walk-preserved
walk-preserved c = record {
  walk = c.past_cell.ensures.walk;
  grid = c.past_cell.ensures.grid ∙ c.walk.invariant.grid;
  area = c.past_cell.ensures.area ∙ c.walk.invariant.area;
  left = c.walk.invariant.left
      ∙ cell_passes c.walk.self c.past_cell.result c.walk.invariant.walk c.past_cell.ensures.grid c.past_cell.ensures.area c.past_cell.ensures.further c.past_cell.ensures.past;
}

pub returns-clause-found : goal.returns-clause-found
returns-clause-found c = c.walk.invariant.left ∙ ends c.walk.self c.walk.invariant.walk (omega arith)
