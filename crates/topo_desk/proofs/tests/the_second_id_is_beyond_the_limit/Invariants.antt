use Rattle.topo_desk.proofs.tests.the_second_id_is_beyond_the_limit.Given as goal

abbrev pub ghosts-second_is_refused : goal.ghosts-second_is_refused
ghosts-second_is_refused g a = record { name = a.blank.name; parts = a.blank.parts }
