-- What a planner answers.
use Rattle.std.specs.Prelude.{◌≡◌, ℕ, Result, Ok, Err, IsOk}
use Rattle.topo_base.specs.declared.edit.Edit.{Edit}
use Rattle.drawing.specs.Step.{step}
use Rattle.drawing.specs.Tables.{drawn}
use Rattle.topo_tables.specs.Taken.{Taken}
use Rattle.read_set.specs.Planned.{Planned, IsPromised}
use Rattle.read_set.specs.declared.end.PlanEnd.{PlanEnd}
use Rattle.read_set.specs.declared.end.PlanEnd.TheVariants.{Refused, Memory}

-- a plan of the editor's edit on the excerpt, which keeps its promise; the rule that refuses the edit there, with the excerpt's front; or want of memory, for an edit that is accepted there
abbrev pub IsAnswered : ℕ → Edit → Taken → Result Planned PlanEnd → Type 0
IsAnswered k e x (Ok p) = (p.editor ≡ k) × (p.edit ≡ e) × (p.excerpt ≡ x) × IsPromised p
IsAnswered k e x (Err (Refused rule front)) = (step (drawn x.rows) e ≡ Err rule) × (front ≡ x.front)
IsAnswered k e x (Err Memory) = IsOk (step (drawn x.rows) e)
