use Rattle.std.proofs.Common.{◌≡◌, take, length}
use Rattle.shared_rows.specs.Children.{row_in, open_in}
use Rattle.shared_rows.specs.Places.{row_below, open_below, SameBelow}
use Rattle.shared_rows.proofs.branch.copy_children.Given as goal

abbrev pub invariant-loop-child : goal.invariant-loop-child
invariant-loop-child g l =
    (length l.copy.items ≡ l.child-index) × SameBelow (row_below (row_in g.N.Node.row_at)) l.copy.items (take l.child-index l.children)
    × SameBelow (open_below (open_in g.N.Node.is_open)) l.copy.items (take l.child-index l.children)
