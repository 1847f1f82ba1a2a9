use Rattle.std.proofs.Common.{rules, ◌≡◌, List, [], ◌∷◌, ◌++◌, append_assoc, sym, ap, ◌∙◌}
use Rattle.std.specs.Vec.Iter.{into_iter_items}
use Rattle.topo_base.specs.declared.write.RowWrite.{RowWrite}
use Rattle.topo_tables.proofs.writes.Writes.append.Goals as goal

pub loop-one-preserved : goal.loop-one-preserved
loop-one-preserved c =
    let one = c.in-Some.one in
    let left = into_iter_items c.next.new.self in
    let items : into_iter_items c.loop-one.one-iterator ≡ one ∷ left = search rules in
    record {
      iterator = (tt, tt);
      behind = ap (λ (ws : List RowWrite). ws ++ left) c.in_ok-push.ensures.ok ∙ append_assoc c.loop-one.self (one ∷ []) left
          ∙ ap (λ (ws : List RowWrite). c.loop-one.self ++ ws) (sym items) ∙ c.loop-one.invariant.behind;
    }
