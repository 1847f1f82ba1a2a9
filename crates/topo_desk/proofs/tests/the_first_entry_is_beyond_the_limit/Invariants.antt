use Rattle.topo_desk.proofs.tests.the_first_entry_is_beyond_the_limit.Given as goal

abbrev pub ghosts-first_is_refused : goal.ghosts-first_is_refused
ghosts-first_is_refused g a = record { name = a.blank.name; parts = a.blank.parts }
