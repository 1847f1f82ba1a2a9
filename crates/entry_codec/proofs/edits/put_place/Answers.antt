use Rattle.std.proofs.Common.{◌∷◌}
use Rattle.history_model.specs.Spelling.{number_bytes, point_bytes}
use Rattle.entry_codec.proofs.Appending.{joined}
use Rattle.entry_codec.proofs.edits.put_place.Goals as goal

pub returns-clause-bytes : goal.returns-clause-bytes
returns-clause-bytes c =
    joined c.put_point.result c.args.out.now.items c.put_one.new.out.items c.put_point.new.out.items (c.args.tag ∷ number_bytes c.args.number) (point_bytes c.args.point.now)
    c.in_ok-put_one.ensures.bytes c.put_point.ensures.bytes
