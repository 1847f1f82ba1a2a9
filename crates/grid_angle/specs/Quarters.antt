-- The number of a quarter.
use Rattle.std.specs.Prelude.{ℕ}
use Rattle.grid_angle.specs.declared.order.Quarter.{Quarter}
use Rattle.grid_angle.specs.declared.order.Quarter.TheVariants.{Ahead, Right, Behind, Left}

abbrev pub quarter_number : Quarter → ℕ
quarter_number Ahead = 0
quarter_number Right = 1
quarter_number Behind = 2
quarter_number Left = 3
