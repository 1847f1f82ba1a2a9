use Rattle.std.proofs.Common.{◌+◌, ◌-◌, vec_len}
use Rattle.shared_rows.specs.Children.{row_in, open_in}
use Rattle.shared_rows.specs.Places.{row_below, SameBelow, OpenBelow}
use Rattle.shared_rows.proofs.branch.add_children.Given as goal

abbrev pub invariant-loop-children : goal.invariant-loop-children
invariant-loop-children g l = SameBelow (row_below (row_in g.N.Node.row_at)) l.children.items l.initial.children.items × OpenBelow (open_in g.N.Node.is_open) l.initial.children.items l.children.items

abbrev pub decreases-loop-children : goal.decreases-loop-children
decreases-loop-children g l = l.index + 1 - vec_len l.children
