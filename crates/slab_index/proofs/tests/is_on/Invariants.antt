use Rattle.slab_index.proofs.tests.is_on.Given as goal

abbrev pub ghosts-on : goal.ghosts-on
ghosts-on g a = record { name = a.blank.name; parts = a.blank.parts }
