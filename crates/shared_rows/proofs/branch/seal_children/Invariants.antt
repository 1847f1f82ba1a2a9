use Rattle.shared_rows.specs.Children.{row_in, open_in}
use Rattle.shared_rows.specs.Places.{row_below, SameBelow, OpenBelow}
use Rattle.shared_rows.proofs.branch.seal_children.Given as goal

abbrev pub invariant-loop-child : goal.invariant-loop-child
invariant-loop-child g l = SameBelow (row_below (row_in g.N.Node.row_at)) l.children l.initial.children × OpenBelow (open_in g.N.Node.is_open) l.children l.initial.children
