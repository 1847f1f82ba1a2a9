use Rattle.std.proofs.Common.{ap}
use Rattle.drawing.proofs.RowLemmas.{rows_of-append}
use Rattle.topo_tables.specs.Placed.{Placed}
use Rattle.topo_tables.proofs.PlaceLemmas.{pushed_items, pushed_placed}
use Rattle.topo_tables.proofs.places.Places.push.Goals as goal

pub invariant_of-self : goal.invariant_of-self
invariant_of-self g c =
    let places = c.self.inside.slots.items in
    let e = pushed_items places c.push.new.self.items c.args.row c.push.result c.unwrap.result c.push.ensures.items c.unwrap.ensures in
    rw e (pushed_placed g.R.Row.number places c.args.row c.args.self.now.next_id c.self.invariant (ap (λ (v : Placed g.row.R.Denot). v.next_id) c.self.view_is) c.requires.next c.requires.small)

pub returns-clause-rows : goal.returns-clause-rows
returns-clause-rows g c =
    let places = c.self.inside.slots.items in
    let e = pushed_items places c.push.new.self.items c.args.row c.push.result c.unwrap.result c.push.ensures.items c.unwrap.ensures in
    rw (e, ← c.self.view_is) (rows_of-append places c.args.row)
