use Rattle.grid_lines.proofs.tests.split_counted.Given as goal

abbrev pub ghosts-split_simple : goal.ghosts-split_simple
ghosts-split_simple a = record { name = a.blank.name; parts = a.blank.parts }
