use Rattle.topogeom_points.proofs.tests.a_layer_comes.Given as goal

abbrev pub ghosts-on_nothing : goal.ghosts-on_nothing
ghosts-on_nothing g a = record { name = a.blank.name; parts = a.blank.parts }
