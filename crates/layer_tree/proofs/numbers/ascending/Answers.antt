use Rattle.layer_tree.proofs.Members.{sorted_ascending}
use Rattle.layer_tree.proofs.numbers.ascending.Goals as goal

pub returns : goal.returns
returns c =
    sorted_ascending c.args.numbers.items c.sort_unstable.new.self.items c.dedup.new.self.items c.sort_unstable.ensures.permutation c.sort_unstable.ensures.sorted c.dedup.ensures.filtered
