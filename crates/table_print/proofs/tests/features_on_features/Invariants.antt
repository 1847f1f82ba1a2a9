use Rattle.table_print.proofs.tests.features_on_features.Given as goal

abbrev pub ghosts-features_are_printed : goal.ghosts-features_are_printed
ghosts-features_are_printed g a = record { name = a.blank.name; parts = a.blank.parts }
