use Rattle.face_parts.proofs.tests.an_island_inside.Given as goal

abbrev pub ghosts-island_inside : goal.ghosts-island_inside
ghosts-island_inside g a = record { name = a.blank.name; parts = a.blank.parts }
