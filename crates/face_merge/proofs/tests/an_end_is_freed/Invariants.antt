use Rattle.face_merge.proofs.tests.an_end_is_freed.Given as goal

abbrev pub ghosts-freed_node : goal.ghosts-freed_node
ghosts-freed_node g a = record { name = a.blank.name; parts = a.blank.parts }
