use Rattle.std.proofs.Common.{rules, ◌≡◌, List, [], ◌∷◌, ◌++◌, append_assoc, sym, ap, subst, ◌∙◌}
use Rattle.std.specs.Vec.Iter.{into_iter_items}
use Rattle.topo_base.specs.declared.write.RowWrite.{RowWrite}
use Rattle.drawing.specs.Writable.{CanWriteAll}
use Rattle.drawing.specs.Writes.{all_written}
use Rattle.read_set.specs.Drafted.{Drafted}
use Rattle.read_set.proofs.Drafting.{more_to_make}
use Rattle.read_set.proofs.draft.Draft.make_all.Goals as goal

pub loop-one-preserved : goal.loop-one-preserved
loop-one-preserved g c =
    let n = c.args.self.now.rows.next_ids in
    let t = c.loop-one.self.rows in
    let one = c.in-Some.one in
    let left = into_iter_items c.next.new.self in
    let items : into_iter_items c.loop-one.one-iterator ≡ one ∷ left = search rules in
    let inv = c.loop-one.invariant in
    let can = subst (λ (ws : List RowWrite). CanWriteAll n t ws) items inv.can in
    let made = c.in_ok-make.ensures in
    let more = more_to_make n t c.make.new.self.rows one left can (ap (λ (d : Drafted). d.rows) made) in
    record {
      iterator = (tt, tt);
      can = more.0;
      rest = more.1 ∙ ap (λ (ws : List RowWrite). all_written n t ws) (sym items) ∙ inv.rest;
      behind = ap (λ (d : Drafted). d.writes ++ left) made ∙ append_assoc c.loop-one.self.writes (one ∷ []) left
          ∙ ap (λ (ws : List RowWrite). c.loop-one.self.writes ++ ws) (sym items) ∙ inv.behind;
    }
