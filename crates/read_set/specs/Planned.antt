-- What contracts see of a plan.
use Rattle.std.specs.Prelude.{ℕ, ◌≤◌, List}
use Rattle.topo_base.specs.declared.edit.Edit.{Edit}
use Rattle.topo_base.specs.declared.element.Element.{Element}
use Rattle.topo_base.specs.declared.write.RowWrite.{RowWrite}
use Rattle.read_set.specs.Plans.{IsPlanFor}
use Rattle.drawing.specs.Tables.{drawn}
use Rattle.topo_tables.specs.Taken.{Taken}

-- whose edit it is, the edit, the excerpt on which it was planned, the row writes in order, and what the reply names
pub record Planned : Type 0 where
  pub editor : ℕ
  pub edit : Edit
  pub excerpt : Taken
  pub writes : List RowWrite
  pub ids : List Element

-- there are 64 editors
abbrev pub IsEditor : ℕ → Type 0
IsEditor k = (1 ≤ k) × (k ≤ 64)

-- the plan is right for its edit on the drawing of its excerpt
abbrev pub IsPromised : Planned → Type 0
IsPromised p = IsPlanFor (drawn p.excerpt.rows) p.edit p.writes p.ids

pub record IsPlan (p : Planned) : Type 0 where
  pub editor : IsEditor p.editor
  pub promised : IsPromised p
