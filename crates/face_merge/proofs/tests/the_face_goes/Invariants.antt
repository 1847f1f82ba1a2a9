use Rattle.face_merge.proofs.tests.the_face_goes.Given as goal

abbrev pub ghosts-last_of : goal.ghosts-last_of
ghosts-last_of g a = record { name = a.blank.name; parts = a.blank.parts }
