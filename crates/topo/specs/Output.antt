-- What is written, and how a text ends a call.
use Rattle.std.specs.Prelude.{◌≡◌, ◌⊎◌, ℕ, ◌++◌, ◌∷◌, List, [], codes}
use Rattle.std.specs.Fmt.{decimal}
use Rattle.std.specs.Io.KnownBytes.{Appends}
use Rattle.topo_base.specs.declared.edit.Entry.{Entry}
use Rattle.topo_base.specs.declared.answer.Answer.{Answer}
use Rattle.topo_io.specs.Causes.{Rose}
use Rattle.topo_io.specs.Sinks.{AppendsFront}
use Rattle.drawing.specs.Replay.{replay}
use Rattle.script_model.specs.Texts.{replies_text, tables_text}
use Rattle.validate_topology.specs.declared.lines.ReportLine.{ReportLine}
use Rattle.topo.specs.Views.{SinkView}

-- the lines that name what is bad
abbrev pub fault_line : ℕ → List ℕ
fault_line n = codes "fault line " ++ decimal n ++ 10 ∷ []

abbrev pub journal_line : ℕ → List ℕ
journal_line offset = codes "fault journal " ++ decimal offset ++ 10 ∷ []

-- the text that is due: the line of each answer, and the tables of the history
abbrev pub due : List Entry → List Answer → List ℕ
due history given = replies_text given ++ tables_text (replay history)

-- the status of a report: 0 where it has no lines, and else 1
abbrev pub report_status : List ReportLine → ℕ
report_status [] = 0
report_status (line ∷ lines) = 1

-- all answers but the last
abbrev pub all_but_last : List Answer → List Answer
all_but_last [] = []
all_but_last (a ∷ []) = []
all_but_last (a ∷ b ∷ given) = a ∷ all_but_last (b ∷ given)

-- ---- a fixed text
-- it is written and the status answered, or the sink failed with a front of it written; it takes no memory
pub data Says (old new : SinkView) (text : List ℕ) (status result : ℕ) : Type 0 where
  said : result ≡ status → Appends old.written new.written text → Says old new text status result
  unsaid : result ≡ 6 → Rose old.faults new.faults → AppendsFront old.written new.written text → Says old new text status result

-- the same for a text that takes memory, which may run out before any of it is written
pub data Tells (old new : SinkView) (text : List ℕ) (status result : ℕ) : Type 0 where
  says : Says old new text status result → Tells old new text status result
  no_memory : result ≡ 8 → Appends old.written new.written [] → Tells old new text status result

-- why a text was cut: the sink failed, or memory ran out
abbrev pub IsCutBy : SinkView → SinkView → ℕ → Type 0
IsCutBy old new result = ((result ≡ 6) × Rose old.faults new.faults) ⊎ (result ≡ 8)

-- the same for a text that ends a run, where memory may run out at any place
pub data Prints (old new : SinkView) (text : List ℕ) (status result : ℕ) : Type 0 where
  printed : result ≡ status → Appends old.written new.written text → new.faults ≡ old.faults → Prints old new text status result
  print_cut : IsCutBy old new result → AppendsFront old.written new.written text → Prints old new text status result
