use Rattle.face_merge.proofs.tests.both_sides_change.Given as goal

abbrev pub ghosts-both_sides : goal.ghosts-both_sides
ghosts-both_sides g a = record { name = a.blank.name; parts = a.blank.parts }
