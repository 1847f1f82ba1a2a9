use Rattle.topo_recover.proofs.tests.a_disk_that_is_not_yet_a_journal_becomes_one.Given as goal

abbrev pub ghosts-left_by : goal.ghosts-left_by
ghosts-left_by g a = record { name = a.blank.name; parts = a.blank.parts }
