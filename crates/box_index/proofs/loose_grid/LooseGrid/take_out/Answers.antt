use Rattle.std.proofs.Common.{◌∙◌, ◌-◌, ℕ, None, cond, nat_eq, sym, ap, refl}
use Rattle.std.specs.Map.{lookup}
use Rattle.box_index.specs.Cells.{place}
use Rattle.box_index.specs.LooseGrid.{CellTable, count_of, entry_at}
use Rattle.box_index.proofs.Passing.{level_holds}
use Rattle.box_index.proofs.Taking.{taken_index}
use Rattle.box_index.proofs.loose_grid.LooseGrid.take_out.Goals as goal

pub overflow_sub-self : goal.overflow_sub-self
overflow_sub-self c =
    level_holds _ c.self.invariant (place c.args.cell c.args.number) c.args.taken.now
    (ap (λ (i : CellTable). entry_at i (place c.args.cell c.args.number)) c.self.view_is ∙ c.requires.taken)
    c.level_of-level.result c.level_of-level.ensures.range c.level_of-level.ensures.value

pub invariant_of-self : goal.invariant_of-self
invariant_of-self c =
    let es = c.self.inside.entries.entries in
    taken_index _ _ c.args.taken.now c.args.cell c.args.number c.args.count c.level_of-level.result c.self.invariant
    c.requires.cell (c.requires.count ∙ ap (λ (i : CellTable). count_of i c.args.cell) (sym c.self.view_is))
    c.level_of-level.ensures.value c.level_of-level.ensures.range c.requires.number
    (λ q. c.close_gap.ensures.updates q
    ∙ ap (λ (l : ℕ). cond (nat_eq l q) None (cond (nat_eq c.place-gap.result q) (lookup (nat_eq l) es) (lookup (nat_eq q) es))) c.place-last.ensures
    ∙ ap (λ (g : ℕ). cond (nat_eq (place c.args.cell (c.args.count - 1)) q) None (cond (nat_eq g q) (lookup (nat_eq (place c.args.cell (c.args.count - 1))) es) (lookup (nat_eq q) es))) c.place-gap.ensures)
    c.count_down.ensures.updates c.close_gap.ensures.kept c.close_gap.ensures.unique refl
