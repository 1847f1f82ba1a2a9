use Rattle.topo_desk.proofs.tests.a_disk_fault_comes_between_two_entries.Given as goal

abbrev pub ghosts-try_three : goal.ghosts-try_three
ghosts-try_three g a = record { name = a.blank.name; parts = a.blank.parts }
