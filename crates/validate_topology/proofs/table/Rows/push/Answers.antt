use Rattle.std.proofs.Common.{◌≡◌, ◌<◌, sym, ◌∙◌, arith, lt-ltb}
use Rattle.validate_topology.specs.Ascending.{last_number}
use Rattle.validate_topology.proofs.Ascending.{ascend_push, last_push}
use Rattle.validate_topology.proofs.table.Rows.push.Goals as goal

pub invariant_of-self-2 : goal.invariant_of-self-2
invariant_of-self-2 g c =
    let id = g.R.Row.number in
    let old = c.self.inside.rows.items in
    let row = c.args.row in
    let items = c.in_ok-push.ensures.items in
    let is : c.number-number.result ≡ id row = c.number-number.ensures in
    let last : c.self.inside.last ≡ last_number id 0 old = c.self.invariant.1 in
    let after : c.self.inside.last < c.number-number.result = c.if-number-self.false in
    let below : last_number id 0 old < id row = omega arith in
    rw items (ascend_push id 0 old row c.self.invariant.0 (lt-ltb _ _ below), is ∙ sym (last_push id 0 old row))
