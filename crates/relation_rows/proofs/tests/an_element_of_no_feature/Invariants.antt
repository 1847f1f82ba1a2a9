use Rattle.relation_rows.proofs.tests.an_element_of_no_feature.Given as goal

abbrev pub ghosts-no_feature_lists_it : goal.ghosts-no_feature_lists_it
ghosts-no_feature_lists_it g a = record { name = a.blank.name; parts = a.blank.parts }
