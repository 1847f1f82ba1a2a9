use Rattle.std.proofs.Common.{◌≡◌, List, length, rules}
use Rattle.topo_base.specs.declared.named.NamedPair.{NamedPair}
use Rattle.script_reader.specs.Reading.{IsPair}
use Rattle.script_reader.proofs.PairWords.{too_many, no_pair, odd_count}
use Rattle.script_reader.proofs.elements.pairs_of.Goals as goal

pub returns-then-len-eq-MAX_ELEMENTS : goal.returns-then-len-eq-MAX_ELEMENTS
returns-then-len-eq-MAX_ELEMENTS c =
    let full : length c.loop-id.pairs.items ≡ 4096 = search rules in
    too_many _ _ _ _ _ _ c.loop-id.invariant.spelled c.in-Some.ensures full

pub returns-in_default-2 : goal.returns-in_default-2
returns-in_default-2 c =
    let none : (x : NamedPair) → IsPair c.in-Some.id.now c.in-Some.element_type.now x → ⊥ = search rules in
    no_pair _ _ _ _ _ _ c.loop-id.invariant.spelled c.in-Some.ensures none

pub returns-in-Some-first_word : goal.returns-in-Some-first_word
returns-in-Some-first_word c = odd_count _ _ _ _ _ c.loop-id.invariant.spelled c.in-Some-first_word.ensures c.in_default.ensures
