-- The number of a layer's type.
use Rattle.std.specs.Prelude.{ℕ}
use Rattle.topo_base.specs.declared.kind.Kind.{Kind}
use Rattle.topo_base.specs.declared.kind.Kind.TheVariants.{Puntal, Lineal, Areal}

abbrev pub kind_number : Kind → ℕ
kind_number Puntal = 1
kind_number Lineal = 2
kind_number Areal = 3
