-- The views of seats: what each token of the lock knows, as the table's rule reads it.
use Rattle.std.specs.Prelude.{ℕ, ◌+◌, suc, zero, true, false, List, [], ◌∷◌, ◌++◌, max}
use lib.Dec.{lit<, lit≤}
use Rattle.topo_base.specs.declared.edit.Entry.{Entry}
use Rattle.commit_lock.specs.declared.view.Origin.{Origin}
use Rattle.commit_lock.specs.declared.view.Line.{Line}
use Rattle.commit_lock.specs.declared.view.View.{View}
use Rattle.commit_lock.specs.declared.view.Stage.{Stage}
use Rattle.commit_lock.specs.declared.view.Stage.TheVariants.{Idle}
use Rattle.commit_lock.specs.History.{longer}

abbrev pub view_of : Origin → Stage → List Line → List Entry → ℕ → ℕ → View
view_of from stage lines told count faults = record { live = true; from = from; stage = stage; lines = lines; told = told; count = count; faults = faults }

abbrev pub line_of : ℕ → List (ℕ × Entry) → List Entry → Line
line_of number own seen = record { number = number; own = own; seen = seen }

-- the view of a pass or a turn has one line
abbrev pub one_line_view : Origin → Stage → Line → ℕ → ℕ → View
one_line_view from stage line count faults = view_of from stage (line ∷ []) [] count faults

-- the view of a note has no line, and a history that it tells
abbrev pub telling_view : Origin → List Entry → ℕ → View
telling_view from told count = view_of from Idle [] told count 0

-- the lines of n passes that have done nothing yet, with the numbers from k on
abbrev pub new_lines : ℕ → ℕ → List Entry → List Line
new_lines k zero opening = []
new_lines k (suc n) opening = line_of k [] opening ∷ new_lines (k + 1) n opening

abbrev pub no_origin : Origin
no_origin = record { setting = record { limits = record { max_id = 0; max_journal = 8; max_source = 0; ids = lit< tt; journal = lit≤ tt }; faults = 0; start = 0; length = 0 }; opening = []; passes = 0 }

abbrev pub no_line : Line
no_line = line_of 0 [] []

-- what is left of a view that was joined into another
abbrev pub spent_view : View
spent_view = record { live = false; from = no_origin; stage = Idle; lines = []; told = []; count = 0; faults = 0 }

abbrev pub first_line : List Line → Line
first_line [] = no_line
first_line (line ∷ lines) = line

abbrev pub other_lines : List Line → List Line
other_lines [] = []
other_lines (line ∷ lines) = lines

-- As the lock is made, one seat has the lines of all passes. It gives the first of them to a new seat, and keeps the rest.
abbrev pub rest_view : View → View
rest_view v = view_of v.from v.stage (other_lines v.lines) v.told v.count v.faults

abbrev pub issued_view : View → View
issued_view v = one_line_view v.from Idle (first_line v.lines) v.count 0

-- a note tells what the pass has seen, and has no number, no own entries and no ticket
abbrev pub noted_view : View → View
noted_view v = telling_view v.from (first_line v.lines).seen v.count

-- a pass that was told what a note tells
abbrev pub told_view : View → View → View
told_view v w = view_of v.from v.stage v.lines w.told (max v.count w.count) v.faults

-- it has seen the longer of its own history and the told one
abbrev pub learned_view : View → View
learned_view v = let line = first_line v.lines in one_line_view v.from v.stage (line_of line.number line.own (longer line.seen v.told)) v.count v.faults

-- As the lock is closed, one seat takes in the lines of all passes, each as it was.
abbrev pub joined_view : View → View → View
joined_view v w = view_of v.from v.stage (w.lines ++ v.lines) v.told (max v.count w.count) v.faults
