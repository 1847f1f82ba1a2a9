use Rattle.std.proofs.Common.{◌≡◌, ◌∙◌, ◌+◌, Vec, Global, ap, arith, rules, subst, sym, vec_len}
use Rattle.std.proofs.lemmas.List.{get_or_default}
use Rattle.std.proofs.lemmas.List.Elements.{All-get_or}
use Rattle.validate_topology.specs.Walks.{IsWalk}
use Rattle.validate_topology.specs.declared.ring_lines.Tally.{Tally}
use Rattle.validate_topology.specs.declared.walks.Walk.{Walk}
use Rattle.validate_topology.proofs.Counting.{AreCounted, all_counted, hole_counted, none_yet, shell_counted}
use Rattle.validate_topology.proofs.ring_lines.shells_of.Goals as goal
use Rattle.validate_topology.proofs.ring_lines.shells_of.Goals.{then-walks-ring, else-walks-ring}

pub loop-ring-init : goal.loop-ring-init
loop-ring-init c = record {
  len = search rules;
  counted = none_yet c.args.faces.now c.args.walks.now c.in_ok-tallies.tallies.items (search rules);
}

pub loop-ring-preserved : goal.loop-ring-preserved
loop-ring-preserved c =
    let walks = c.args.walks.now in
    let faces = c.args.faces.now in
    let n = c.loop-ring.ring in
    let w = c.index-walks-ring.result in
    let walk : IsWalk w = subst IsWalk (sym c.index-walks-ring.is) (All-get_or IsWalk walks n w c.loop-ring-test.true c.requires) in
    let shell = ap (λ (x : Walk). x.is_shell) c.index-walks-ring.is in
    elim c.if-walks-ring.branch [
      | then-walks-ring v ↦
          let old = c.loop-ring.invariant.counted in
          let x = v.index-walks-ring-then-walks-ring.result in
          let one : w ≡ x = c.index-walks-ring.is ∙ get_or_default walks n w x c.loop-ring-test.true ∙ sym v.index-walks-ring-then-walks-ring.is in
          let more = shell_counted faces walks n c.loop-ring.tallies.items x old v.count_walk.new.tallies.items c.loop-ring-test.true (omega arith) v.index-walks-ring-then-walks-ring.is (subst IsWalk one walk)
          (ap (λ (y : Walk). y.is_shell) (sym one) ∙ shell ∙ v.if-walks-ring.true)
          (v.count_walk.ensures.counted old.tally old.are) in
          record {
            len = ap vec_len v.tallies-is ∙ v.count_walk.ensures.len ∙ c.loop-ring.invariant.len;
            counted = subst (λ (ts : Vec Tally Global). AreCounted faces walks (n + 1) ts.items) (sym v.tallies-is) more;
          }
      | else-walks-ring v ↦
          let more = hole_counted faces walks n c.loop-ring.tallies.items w c.loop-ring-test.true c.index-walks-ring.is walk (shell ∙ v.if-walks-ring.false) c.loop-ring.invariant.counted in
          record {
            len = ap vec_len v.tallies-is ∙ c.loop-ring.invariant.len;
            counted = subst (λ (ts : Vec Tally Global). AreCounted faces walks (n + 1) ts.items) (sym v.tallies-is) more;
          }
    ]

pub returns-clause-counts : goal.returns-clause-counts
returns-clause-counts c =
    all_counted c.args.faces.now c.args.walks.now c.loop-ring.ring c.loop-ring.tallies.items (omega (arith, c.loop-ring-test.false)) c.loop-ring.invariant.counted
