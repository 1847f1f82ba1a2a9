use Rattle.std.proofs.Common.{◌≡◌, ◌∙◌, ◌∷◌, ℕ, None, List, IsPermutation, ap, sym, subst, arith, refl, length, nat_eq}
use Rattle.std.specs.Map.{values_of, lookup}
use Rattle.box_index.specs.LooseGrid.{CellTable, count_of, cell_table, kept}
use Rattle.box_index.specs.Cells.{place}
use Rattle.box_index.specs.declared.entry.Entry.{Entry}
use Rattle.box_index.proofs.Indexed.{by_ok, by_none, insert_step, kept_more, place_free, level_few}
use Rattle.box_index.proofs.loose_grid.LooseGrid.insert.Goals as goal

number_is : (c : goal.After-self-1) → c.count_of-number.result ≡ count_of (cell_table c.self.inside.entries.entries c.self.inside.counts.entries c.self.inside.levels 0) c.home-cell.result
number_is c = c.count_of-number.ensures.value ∙ ap (λ (i : CellTable). count_of i c.home-cell.result) (sym c.self.view_is)

was_free : (c : goal.After-self-1) → c.unwrap.result ≡ None
was_free c =
    place_free _ c.self.invariant c.home-cell.result c.unwrap.result
    (ap (λ (n : ℕ). lookup (nat_eq (place c.home-cell.result n)) c.self.inside.entries.entries) (sym (number_is c))
    ∙ ap (λ (q : ℕ). lookup (nat_eq q) c.self.inside.entries.entries) (sym c.place.ensures)
    ∙ sym (by_ok c.insert-put.result c.unwrap.result _ c.unwrap.ensures c.insert-put.ensures.old))

moved : (c : goal.After-self-1) → IsPermutation ((c.place.result, c.args.entry) ∷ c.self.inside.entries.entries) c.insert-put.new.self.entries
moved c = by_none c.unwrap.result _ _ (was_free c) (by_ok c.insert-put.result c.unwrap.result _ c.unwrap.ensures c.insert-put.ensures.entries)

pub overflow_add-self : goal.overflow_add-self
overflow_add-self c =
    let few = level_few _ c.self.invariant c.level_of.result c.level_of.ensures.range in
    let same = ap (λ (i : CellTable). length (kept i)) c.self.view_is in
    omega (arith, few, same, c.requires.small)

pub invariant_of-self : goal.invariant_of-self
invariant_of-self c =
    insert_step _ _ (c.args.entry) c.home-cell.result c.count_of-number.result c.place.result c.level_of.result
    c.self.invariant c.requires.bounds (omega (arith, ap (λ (i : CellTable). length (kept i)) c.self.view_is, c.requires.small))
    c.home-cell.ensures.value (number_is c) c.place.ensures c.level_of.ensures.value c.level_of.ensures.range
    (by_ok c.insert-put.result c.unwrap.result _ c.unwrap.ensures c.insert-put.ensures.updates).0
    (by_ok c.insert-counted.result c.unwrap-2.result _ c.unwrap-2.ensures c.insert-counted.ensures.updates).0
    c.insert-put.ensures.unique (moved c) refl

pub returns-clause-kept : goal.returns-clause-kept
returns-clause-kept c =
    let P : List Entry → Type 0 = λ es. IsPermutation (c.args.entry ∷ es) (values_of c.insert-put.new.self.entries) in
    subst P (ap kept c.self.view_is) (kept_more _ c.place.result _ _ (moved c))
