use Rattle.topo_base.specs.declared.relation.Relation.TheVariants.{Apart, TouchEnds, Meet, Overlap}
use Rattle.grid_lines.proofs.Links.{apart_is}
use Rattle.grid_lines.proofs.simple.is_apart.Goals as goal

pub returns-in-Apart-clause-test : goal.returns-in-Apart-clause-test
returns-in-Apart-clause-test g c = apart_is Apart c.args.s.now c.args.t.now c.in-Apart.ensures.relates

pub returns-in-TouchEnds-clause-test : goal.returns-in-TouchEnds-clause-test
returns-in-TouchEnds-clause-test g c = apart_is TouchEnds c.args.s.now c.args.t.now c.in-TouchEnds.ensures.relates

pub returns-in-Meet-clause-test : goal.returns-in-Meet-clause-test
returns-in-Meet-clause-test g c = apart_is Meet c.args.s.now c.args.t.now c.in-Meet.ensures.relates

pub returns-in-Overlap-clause-test : goal.returns-in-Overlap-clause-test
returns-in-Overlap-clause-test g c = apart_is Overlap c.args.s.now c.args.t.now c.in-Overlap.ensures.relates
