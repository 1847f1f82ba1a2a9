use Rattle.face_parts.proofs.path_tests.closed_edge.Given as goal

abbrev pub ghosts-walks_both_ways : goal.ghosts-walks_both_ways
ghosts-walks_both_ways g a = record { name = a.blank.name; parts = a.blank.parts }
