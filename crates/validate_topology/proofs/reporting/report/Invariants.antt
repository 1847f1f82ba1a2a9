use Rattle.validate_topology.proofs.reporting.report.Given as goal

abbrev pub ghosts-counted_report : goal.ghosts-counted_report
ghosts-counted_report a = record { name = a.blank.name; parts = a.blank.parts }
