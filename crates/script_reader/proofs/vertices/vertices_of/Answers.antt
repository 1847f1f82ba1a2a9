use Rattle.std.proofs.Common.{◌≡◌, length, rules}
use Rattle.script_reader.proofs.VertexWords.{too_many, no_point, odd_count}
use Rattle.script_reader.proofs.vertices.vertices_of.Goals as goal

pub returns-then-len-eq-MAX_VERTICES : goal.returns-then-len-eq-MAX_VERTICES
returns-then-len-eq-MAX_VERTICES c =
    let full : length c.loop-x.vertices.items ≡ 4096 = search rules in
    too_many _ _ _ _ _ _ c.loop-x.invariant.spelled c.in-Some.ensures full

pub returns-in_default-point_of : goal.returns-in_default-point_of
returns-in_default-point_of c = no_point _ _ _ _ _ _ c.loop-x.invariant.spelled c.in-Some.ensures c.in_default-point_of.ensures

pub returns-in-Some-first_word : goal.returns-in-Some-first_word
returns-in-Some-first_word c = odd_count _ _ _ _ _ c.loop-x.invariant.spelled c.in-Some-first_word.ensures c.in_default.ensures
