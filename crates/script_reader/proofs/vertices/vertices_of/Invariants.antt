use Rattle.std.proofs.Common.{◌≡◌, ◌≤◌, ◌++◌, IsTrue, length}
use Rattle.std.specs.List.{list_all}
use Rattle.drawing.specs.InRange.{is_grid_point}
use Rattle.script_model.specs.Script.{words_of}
use Rattle.script_model.specs.Words.{line_words}
use Rattle.script_reader.proofs.vertices.vertices_of.Given as goal

-- the vertices so far are the words before the rest
abbrev pub invariant-loop-x : goal.invariant-loop-x
invariant-loop-x l = record {
  good : IsTrue (list_all is_grid_point l.vertices.items);
  few : length l.vertices.items ≤ 4096;
  spelled : words_of l.words ≡ line_words l.vertices.items ++ words_of l.rest;
}

abbrev pub decreases-loop-x : goal.decreases-loop-x
decreases-loop-x l = length (words_of l.rest)
