use Rattle.topo.proofs.solo.solo.Given as goal

abbrev pub ghosts-solo_counted : goal.ghosts-solo_counted
ghosts-solo_counted g a = record { name = a.blank.name; parts = a.blank.parts }
