use Rattle.std.proofs.Common.{◌∙◌, ap}
use Rattle.std.specs.Prelude.{is_some}
use Rattle.drawing.proofs.RowLemmas.{is_some-row_at}
use Rattle.topo_tables.proofs.places.Places.has.Goals as goal
use Rattle.topo_tables.proofs.PlaceLemmas.{is_some-copied}

pub returns : goal.returns
returns g c =
    c.is_some.ensures ∙ is_some-copied c.get.result ∙ ap is_some c.get.ensures ∙ is_some-row_at g.R.Row.number c.args.self.now.rows c.args.id
