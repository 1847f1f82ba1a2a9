use Rattle.topogeom_points.proofs.tests.features_of_a_town.Given as goal

abbrev pub ghosts-in_town : goal.ghosts-in_town
ghosts-in_town g a = record { name = a.blank.name; parts = a.blank.parts }
