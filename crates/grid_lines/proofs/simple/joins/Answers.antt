use Rattle.topo_base.specs.declared.relation.Relation.TheVariants.{Apart, TouchEnds, Meet, Overlap}
use Rattle.grid_lines.proofs.Links.{joins_is}
use Rattle.grid_lines.proofs.simple.joins.Goals as goal

pub returns-in-Apart-clause-test : goal.returns-in-Apart-clause-test
returns-in-Apart-clause-test g c = joins_is Apart c.args.s.now c.args.t.now c.requires c.in-Apart.ensures.relates

pub returns-in-TouchEnds-clause-test : goal.returns-in-TouchEnds-clause-test
returns-in-TouchEnds-clause-test g c = joins_is TouchEnds c.args.s.now c.args.t.now c.requires c.in-TouchEnds.ensures.relates

pub returns-in-Meet-clause-test : goal.returns-in-Meet-clause-test
returns-in-Meet-clause-test g c = joins_is Meet c.args.s.now c.args.t.now c.requires c.in-Meet.ensures.relates

pub returns-in-Overlap-clause-test : goal.returns-in-Overlap-clause-test
returns-in-Overlap-clause-test g c = joins_is Overlap c.args.s.now c.args.t.now c.requires c.in-Overlap.ensures.relates
