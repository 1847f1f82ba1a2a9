use Rattle.face_parts.proofs.tests.the_side_of_the_new_part.Given as goal

abbrev pub ghosts-one_side : goal.ghosts-one_side
ghosts-one_side g a = record { name = a.blank.name; parts = a.blank.parts }
