use Rattle.face_parts.proofs.tests.the_node_outside.Given as goal

abbrev pub ghosts-node_outside : goal.ghosts-node_outside
ghosts-node_outside g a = record { name = a.blank.name; parts = a.blank.parts }
