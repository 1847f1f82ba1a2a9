use Rattle.std.proofs.Common.{sym, ap, ◌∙◌}
use Rattle.std.specs.Option.{option_copied}
use Rattle.face_parts.proofs.DartPaths.{dart_row}
use Rattle.face_parts.proofs.path.push_dart.Goals as goal

pub unreachable-requires : goal.unreachable-requires
unreachable-requires g c = dart_row c.args.tables.now.rows.edges c.args.dart.now.edge c.requires (sym c.edge.ensures.row ∙ ap option_copied c.in_default.is)
