use Rattle.slab_index.proofs.tests.is_above.Given as goal

abbrev pub ghosts-above : goal.ghosts-above
ghosts-above g a = record { name = a.blank.name; parts = a.blank.parts }
