use Rattle.std.proofs.Common.{sym, ◌∙◌}
use Rattle.std.specs.Str.{bytes_eq}
use Rattle.script_reader.proofs.Naming.{lookup-with_bytes}
use Rattle.script_reader.proofs.bindings.Bindings.id_of.Goals as goal

pub returns-in-Bound : goal.returns-in-Bound
returns-in-Bound c =
    rw (c.in-Bound.is, ← c.self.view_is, ← c.as_bytes.ensures.bytes)
    (c.copied.ensures ∙ c.get.ensures.value ∙ sym (lookup-with_bytes (bytes_eq c.as_bytes.result.now) c.self.inside.ids.entries))
