use Rattle.face_boxes.proofs.tests.a_line_gives_its_box.Given as goal

abbrev pub ghosts-first_boxes : goal.ghosts-first_boxes
ghosts-first_boxes g a = record { name = a.blank.name; parts = a.blank.parts }
