use Rattle.std.proofs.Common.{◌≡◌, ◌-◌, ap, arith}
use Rattle.drawing.specs.Places.{rows_of}
use Rattle.topo_tables.specs.Placed.{Placed}
use Rattle.topo_tables.proofs.PlaceLemmas.{stands_in, stands_within, emptied_placed, emptied_rows}
use Rattle.topo_tables.proofs.places.Places.clear.Goals as goal

pub overflow_sub-id : goal.overflow_sub-id
overflow_sub-id g c =
    let rows : rows_of c.self.inside.slots.items ≡ c.args.self.now.rows = ap (λ (v : Placed g.row.R.Denot). v.rows) c.self.view_is in
    let s = stands_in g.R.Row.number c.self.inside.slots.items c.args.self.now.rows c.args.id c.self.invariant rows c.requires in
    s.some

pub index_mut-requires : goal.index_mut-requires
index_mut-requires g c =
    let rows : rows_of c.self.inside.slots.items ≡ c.args.self.now.rows = ap (λ (v : Placed g.row.R.Denot). v.rows) c.self.view_is in
    let s = stands_in g.R.Row.number c.self.inside.slots.items c.args.self.now.rows c.args.id c.self.invariant rows c.requires in
    let within = stands_within c.self.inside.slots.items c.args.id s in
    omega arith

pub invariant_of-self : goal.invariant_of-self
invariant_of-self g c = emptied_placed g.R.Row.number c.self.inside.slots.items (c.args.id - 1) c.self.invariant

pub returns-clause-rows : goal.returns-clause-rows
returns-clause-rows g c =
    let rows : rows_of c.self.inside.slots.items ≡ c.args.self.now.rows = ap (λ (v : Placed g.row.R.Denot). v.rows) c.self.view_is in
    let s = stands_in g.R.Row.number c.self.inside.slots.items c.args.self.now.rows c.args.id c.self.invariant rows c.requires in
    emptied_rows g.R.Row.number c.self.inside.slots.items c.args.self.now.rows c.args.id c.self.invariant rows s
