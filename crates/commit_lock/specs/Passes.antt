-- What contracts see of a lock, of a pass or a turn, and of a note.
use Rattle.std.specs.List.{AllByRecursion as Each}
use Rattle.std.specs.Prelude.{◌≡◌, ℕ, ◌+◌, ◌-◌, ◌≤◌, map, zero, suc, List, [], ◌∷◌, ◌++◌, length}
use Rattle.atomic_table.specs.Seated.{TableId}
use Rattle.topo_base.specs.declared.edit.Entry.{Entry}
use Rattle.commit_lock.specs.declared.view.Origin.{Origin}
use Rattle.commit_lock.specs.declared.view.Line.{Line}
use Rattle.commit_lock.specs.declared.view.View.{View}
use Rattle.commit_lock.specs.declared.view.Stage.{Stage}
use Rattle.commit_lock.specs.declared.view.Stage.TheVariants.{Idle}
use Rattle.commit_lock.specs.Views.{view_of, line_of, one_line_view, telling_view, first_line, spent_view}

-- which lock it is, and how it began
pub record LockValue : Type 0 where
  pub id : TableId
  pub from : Origin

-- a pass, or the turn of one
pub record PassValue : Type 0 where
  -- its lock, and how that began
  pub lock : TableId
  pub from : Origin
  pub number : ℕ
  -- its own entries with their places, which count from 1
  pub own : List (ℕ × Entry)
  -- the history and the count of faults that it has seen; a turn has those with which the value was taken
  pub seen : List Entry
  pub count : ℕ
  -- its own faults: by how much the count rose in its turns
  pub faults : ℕ

-- what a pass had seen
pub record NoteValue : Type 0 where
  pub lock : TableId
  pub from : Origin
  pub seen : List Entry
  pub count : ℕ

abbrev pub only_view : List View → View
only_view [] = spent_view
only_view (v ∷ vs) = v

-- a pass as it is read off a view, and the view that such a pass has
abbrev pub pass_value : TableId → View → PassValue
pass_value lock v = let line = first_line v.lines in record { lock = lock; from = v.from; number = line.number; own = line.own; seen = line.seen; count = v.count; faults = v.faults }

abbrev pub pass_line : PassValue → Line
pass_line x = line_of x.number x.own x.seen

abbrev pub pass_view : Stage → PassValue → View
pass_view stage x = one_line_view x.from stage (pass_line x) x.count x.faults

-- the same of a note
abbrev pub note_value : TableId → View → NoteValue
note_value lock v = record { lock = lock; from = v.from; seen = v.told; count = v.count }

abbrev pub note_view : NoteValue → View
note_view x = telling_view x.from x.seen x.count

-- a pass that has done nothing yet: it has seen the opening history and this count of faults
abbrev pub new_pass : TableId → Origin → ℕ → ℕ → PassValue
new_pass lock from count number = record { lock = lock; from = from; number = number; own = []; seen = from.opening; count = count; faults = 0 }

-- n such passes, with the numbers from k on
abbrev pub new_passes : TableId → Origin → ℕ → ℕ → ℕ → List PassValue
new_passes lock from count k zero = []
new_passes lock from count k (suc n) = new_pass lock from count k ∷ new_passes lock from count (k + 1) n

-- a pass that has seen this history and this count, and else is as it was
abbrev pub with_seen : PassValue → List Entry → ℕ → PassValue
with_seen x seen count = record { lock = x.lock; from = x.from; number = x.number; own = x.own; seen = seen; count = count; faults = x.faults }

-- the pass of a turn that ends with this count: its own faults have grown by as much as the count did in the turn
abbrev pub pass_after_turn : PassValue → ℕ → PassValue
pass_after_turn x count = record { lock = x.lock; from = x.from; number = x.number; own = x.own; seen = x.seen; count = count; faults = x.faults + (count - x.count) }

-- a turn with one entry more, which stands behind all that it has seen
abbrev pub with_entry : PassValue → Entry → PassValue
with_entry x e = record { lock = x.lock; from = x.from; number = x.number; own = x.own ++ (length x.seen + 1, e) ∷ []; seen = x.seen ++ e ∷ []; count = x.count; faults = x.faults }

-- the note of a pass
abbrev pub note_of : PassValue → NoteValue
note_of x = record { lock = x.lock; from = x.from; seen = x.seen; count = x.count }

-- the list is the seen one with one entry of this editor more
abbrev pub IsGrownBy : ℕ → List Entry → List Entry → Type 0
IsGrownBy number seen list = (e : Entry) × (list ≡ seen ++ e ∷ []) × (e.editor ≡ number)

-- a seat's view has the lines of all these passes, and a count that is at least theirs
pub record Gathers (xs : List PassValue) (v : View) : Type 0 where
  pub from : Origin
  pub count : ℕ
  pub faults : ℕ
  pub same : v ≡ view_of from Idle (map pass_line xs) [] count faults
  pub counts : Each (λ x. x.count ≤ count) xs

-- the second is the first again, later: the same lock, start and number
pub record IsSamePass (x y : PassValue) : Type 0 where
  pub lock : y.lock ≡ x.lock
  pub number : y.number ≡ x.number
  pub from : y.from ≡ x.from
