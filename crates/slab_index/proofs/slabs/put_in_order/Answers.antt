use Rattle.std.proofs.Common.{rules}
use Rattle.std.proofs.lemmas.List.Sorted.{answers_always}
use Rattle.slab_index.specs.Reach.{top}
use Rattle.slab_index.proofs.Reach.{rising_sorted}
use Rattle.slab_index.proofs.slabs.put_in_order.Goals as goal

pub returns-clause-rising : goal.returns-clause-rising
returns-clause-rising c = rising_sorted _ (c.sort_unstable_by_key.ensures.sorted top (answers_always _ _ _ (λ f a r f' h. search rules)))
