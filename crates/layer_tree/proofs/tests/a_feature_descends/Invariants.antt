use Rattle.layer_tree.proofs.tests.a_feature_descends.Given as goal

abbrev pub ghosts-descends : goal.ghosts-descends
ghosts-descends g a = record { name = a.blank.name; parts = a.blank.parts }
