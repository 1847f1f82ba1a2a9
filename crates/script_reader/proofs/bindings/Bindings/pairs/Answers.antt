use Rattle.std.proofs.Common.{◌∙◌, ap, sym, Some, rules}
use Rattle.script_model.specs.Bindings.{pairs_of}
use Rattle.script_reader.specs.Bindings.{names_of}
use Rattle.script_reader.proofs.Pairing.{pairs_of-take_more, pairs_of-unbound}
use Rattle.script_reader.proofs.bindings.Bindings.pairs.Goals as goal

pub returns-in_err-pair-clause-unbound : goal.returns-in_err-pair-clause-unbound
returns-in_err-pair-clause-unbound c = λ _.
    let none = pairs_of-unbound (names_of c.args.self.now) c.pairs-named.result.now c.loop-pair.pair-index c.pair-item.result c.loop-pair-test.true c.pair-item.is c.in_err-pair.ensures.unbound in
    ap (pairs_of (names_of c.args.self.now)) (sym c.pairs-named.ensures.pairs) ∙ none

pub loop-pair-preserved : goal.loop-pair-preserved
loop-pair-preserved c = record {
  found =
      pairs_of-take_more (names_of c.args.self.now) c.pairs-named.result.now c.loop-pair.pair-index c.pair-item.result c.loop-pair.pairs.items c.in_ok-pair.field-0 c.loop-pair-test.true c.pair-item.is c.loop-pair.invariant.found c.in_ok-pair.ensures.pair
      ∙ ap Some (sym c.in_ok-push.ensures.items);
  count = search rules;
}
