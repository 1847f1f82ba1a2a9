use Rattle.grid_lines.proofs.tests.knows_simple.Given as goal

abbrev pub ghosts-simple : goal.ghosts-simple
ghosts-simple a = record { name = a.blank.name; parts = a.blank.parts }
