use Rattle.std.proofs.Common.{◌≡◌, ◌∙◌, Bor, ap, Option, Some, None, refl}
use Rattle.std.specs.Prelude.{is_some}
use Rattle.std.specs.Option.{option_copied}
use Rattle.drawing.proofs.RowLemmas.{is_some-row_at}
use Rattle.validate_topology.proofs.table.Rows.has.Goals as goal

is_some-copied : {R : Type 0} (found : Option (Bor R)) → is_some found ≡ is_some (option_copied found)
is_some-copied None = refl
is_some-copied (Some row) = refl

pub returns : goal.returns
returns g c = c.is_some.ensures ∙ is_some-copied c.get.result ∙ ap is_some c.get.ensures ∙ is_some-row_at g.R.Row.number c.args.self.now c.args.id
