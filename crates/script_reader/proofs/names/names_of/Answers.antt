use Rattle.std.proofs.Common.{◌≡◌, IsTrue, false, rules}
use Rattle.topo_base.specs.Names.{is_name}
use Rattle.script_reader.proofs.NameSplits.{good_more, parted_more, names_last, no_name_here, no_name_last}
use Rattle.script_reader.proofs.names.names_of.Goals as goal

pub returns-in_default-2 : goal.returns-in_default-2
returns-in_default-2 c =
    let other : is_name c.in-Some.first.now ≡ false = search rules in
    no_name_here c.args.word.now c.loop-first.rest.now _ c.in-Some.after.now _ c.in-Some.ensures.some c.loop-first.invariant.parted other

pub loop-first-preserved : goal.loop-first-preserved
loop-first-preserved c =
    let named : IsTrue (is_name c.in-Some.first.now) × (c.in-Some-2.name ≡ c.in-Some.first.now) = search rules in
    record {
      good = good_more _ _ _ _ c.in_ok-push.ensures.items named.1 named.0 c.loop-first.invariant.good;
      parted = parted_more c.args.word.now c.loop-first.rest.now c.in-Some.after.now c.in-Some.first.now _ _ _ c.in_ok-push.ensures.items named.1 c.in-Some.ensures.some c.loop-first.invariant.parted;
    }

pub returns-in_default-3 : goal.returns-in_default-3
returns-in_default-3 c =
    let other : is_name c.loop-first.rest.now ≡ false = search rules in
    no_name_last c.args.word.now c.loop-first.rest.now _ c.in_default.ensures.none c.loop-first.invariant.parted other

pub returns : goal.returns
returns c =
    let named : IsTrue (is_name c.loop-first.rest.now) × (c.in-Some-3.name ≡ c.loop-first.rest.now) = search rules in
    names_last c.args.word.now c.loop-first.rest.now _ _ _ c.in_ok-push-2.ensures.items named.1 named.0 c.loop-first.invariant.good c.in_default.ensures.none c.loop-first.invariant.parted
