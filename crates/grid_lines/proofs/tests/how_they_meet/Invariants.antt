use Rattle.grid_lines.proofs.tests.how_they_meet.Given as goal

abbrev pub ghosts-meeting : goal.ghosts-meeting
ghosts-meeting a = record { name = a.blank.name; parts = a.blank.parts }
