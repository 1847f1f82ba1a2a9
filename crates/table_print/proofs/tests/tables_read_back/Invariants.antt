use Rattle.table_print.proofs.tests.tables_read_back.Given as goal

abbrev pub ghosts-rows_read_back : goal.ghosts-rows_read_back
ghosts-rows_read_back g a = record { name = a.blank.name; parts = a.blank.parts }
