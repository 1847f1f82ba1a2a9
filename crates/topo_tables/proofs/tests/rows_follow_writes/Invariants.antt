use Rattle.topo_tables.proofs.tests.rows_follow_writes.Given as goal

abbrev pub ghosts-nodes_come_and_go : goal.ghosts-nodes_come_and_go
ghosts-nodes_come_and_go g a = record { name = a.blank.name; parts = a.blank.parts }
