-- How a call of the program ends, by its cause.
use Rattle.std.specs.Prelude.{◌≡◌, ◌⊎◌, ℕ, ◌^◌, ◌-◌, ◌<◌, ◌≤◌, ◌++◌, ◌∷◌, List, [], length, Option, Some, IfSome, OnSome, codes, IsTrue}
use Rattle.std.specs.Fmt.{decimal}
use Rattle.std.specs.Io.KnownBytes.{Appends}
use Rattle.topo_base.specs.ScriptLines.{ScriptLine}
use Rattle.topo_base.specs.declared.edit.Entry.{Entry}
use Rattle.topo_base.specs.declared.answer.Answer.{Answer}
use Rattle.history_model.specs.Answers.{Bounds}
use Rattle.history_model.specs.Journal.{StandsFor, IsBadAt}
use Rattle.script_model.specs.NamedRange.{is_script_line}
use Rattle.topo_io.specs.Causes.{Rose}
use Rattle.topo_io.specs.Sinks.{IsFront, AppendsFront}
use Rattle.drawing.specs.Replay.{replay}
use Rattle.script_model.specs.Script.{IsScript, IsFirstBad}
use Rattle.script_model.specs.Texts.{replies_text, tables_text, features_text, history_text}
use Rattle.topo_journal.specs.Kept.{Each}
use Rattle.topo_desk.specs.Left.{StandsOrDoubts}
use Rattle.topo.specs.declared.words.Form.TheVariants.{Apply, Show}
use Rattle.topo.specs.declared.words.Shown.{Shown}
use Rattle.topo.specs.declared.words.Shown.TheVariants.{Tables, Features, History}
use Rattle.topo_recover.specs.declared.end.RecoverEnd.{RecoverEnd}
use Rattle.topo_recover.specs.declared.end.RecoverEnd.TheVariants.{NoJournal, DiskFault, Memory}
use Rattle.topo.specs.Words.{IsForm, AreForm, IsCheck}
use Rattle.drawing.specs.Plain.{IsPlain}
use Rattle.drawing.specs.Subdivision.{rings_have_one_face, faces_have_shells}
use Rattle.drawing.specs.Tables.{drawn}
use Rattle.validate_topology.specs.Raw.{tables_in}
use Rattle.validate_topology.specs.Stages.{IsReport}
use Rattle.validate_topology.specs.declared.raw.RawTables.{RawTables}
use Rattle.validate_topology.specs.declared.lines.ReportLine.{ReportLine}
use Rattle.table_dump.specs.Dump.{IsDump, IsFirstBad as IsFirstBadLine}
use Rattle.table_dump.specs.ReportText.{report_text}
use Rattle.topo.specs.Views.{SourceView, SinkView, DiskView}
use Rattle.topo.specs.Output.{Says, Tells, IsCutBy, Prints, due, all_but_last, fault_line, journal_line, report_status}
use Rattle.topo.specs.Run.{opening, AreAnswered, AreTried, IsSoundHistory, IsRightRun, RoseBy, faults_in, has_fault, status_of}

-- the limits of the program
abbrev pub max_source : ℕ
max_source = 2 ^ 24

abbrev pub standard : Bounds
standard = record { max_id = 2 ^ 24 - 1; max_journal = 2 ^ 28 }

-- what the source told was read whole: it is this, within the limit, and no fault rose
pub record WasRead (P : List ℕ → Type 0) (old new : SourceView) : Type 0 where
  pub told : IfSome old.left P
  pub short : IfSome old.left (λ bytes. length bytes ≤ max_source)
  pub ended : OnSome old.left (new.left ≡ Some [])
  pub calm : new.faults ≡ old.faults

abbrev pub WasScript : List ScriptLine → SourceView → SourceView → Type 0
WasScript lines old new = WasRead (λ bytes. IsScript is_script_line bytes lines) old new

-- ---- a script that is run behind a history
-- the disk failed at least as often as was answered, and stands for the history, or, after a fault, for it and the entry in doubt
pub record IsLeftBehind (history : List Entry) (given : List Answer) (old new : DiskView) : Type 0 where
  pub faults : RoseBy (faults_in given) old.faults new.faults
  pub left : old.tells → Each (StandsOrDoubts standard history (has_fault given)) new.seen new.may_leave

-- the script was run to its end, and all that is due is written
pub record IsWholeRun (read : List Entry) (lines : List ScriptLine) (old new : SinkView) (before behind : DiskView) (result : ℕ) : Type 0 where
  pub given : List Answer
  pub history : List Entry
  pub answered : AreAnswered standard (opening read) lines given
  pub right : IsRightRun standard read history lines given
  pub status : result ≡ status_of given
  pub text : Appends old.written new.written (due history given)
  pub calm : new.faults ≡ old.faults
  pub disk : IsLeftBehind history given before behind

-- the run stopped: what is written is a front of what is due for the answers given, with the lines of all of these but the last whole
pub record IsCutRun (read : List Entry) (lines : List ScriptLine) (old new : SinkView) (before behind : DiskView) : Type 0 where
  pub given : List Answer
  pub history : List Entry
  pub tried : AreTried standard (opening read) lines given
  pub right : IsRightRun standard read history lines given
  pub text : List ℕ
  pub due_front : IsFront text (due history given)
  pub whole_lines : IsFront (replies_text (all_but_last given)) text
  pub grown : Appends old.written new.written text
  pub disk : IsLeftBehind history given before behind

pub data RunsScript (read : List Entry) (lines : List ScriptLine) (old new : SinkView) (before behind : DiskView) (result : ℕ) : Type 0 where
  ran_whole : IsWholeRun read lines old new before behind result → RunsScript read lines old new before behind result
  ran_cut : IsCutBy old new result → IsCutRun read lines old new before behind → RunsScript read lines old new before behind result

-- ---- a journal that is read
-- the history that was read is the one for which the disk's bytes stand
abbrev pub WasRecovered : DiskView → List Entry → Type 0
WasRecovered disk read = disk.tells → StandsFor standard disk.seen read

-- how a recovery that gave no desk ends
abbrev pub EndsUnread : RecoverEnd → SinkView → SinkView → ℕ → Type 0
EndsUnread (NoJournal offset) old new result = Tells old new (journal_line offset) 4 result
EndsUnread DiskFault old new result = Says old new (codes "fault disk\n") 7 result
EndsUnread Memory old new result = (result ≡ 8) × Appends old.written new.written []

-- no history was read: the bytes stand for none, the disk failed, or memory ran out
pub data Unrecovered (old new : SinkView) (before behind : DiskView) (result : ℕ) : Type 0 where
  no_journal : (offset : ℕ) → (before.tells → IsBadAt standard before.seen offset) → behind.faults ≡ before.faults → Tells old new (journal_line offset) 4 result
      → Unrecovered old new before behind result
  disk_fault : Rose before.faults behind.faults → Says old new (codes "fault disk\n") 7 result → Unrecovered old new before behind result
  not_recovered : behind.faults ≡ before.faults → result ≡ 8 → Appends old.written new.written [] → Unrecovered old new before behind result

-- a script is run behind the history that was read, if one was
pub data RunsOn (lines : List ScriptLine) (kept : Type 0) (old new : SinkView) (before behind : DiskView) (result : ℕ) : Type 0 where
  nothing_read : kept → Unrecovered old new before behind result → RunsOn lines kept old new before behind result
  ran : (read : List Entry) → WasRecovered before read → RunsScript read lines old new before behind result → RunsOn lines kept old new before behind result

-- what a form shows of a history
abbrev pub shown_text : Shown → List Entry → List ℕ
shown_text Tables history = tables_text (replay history)
shown_text Features history = features_text (replay history)
shown_text History history = history_text history

-- ---- the ways to end, where came says that the disk is as it came, and kept that it is as recovery leaves it
-- a script that is to be run
pub data Applied (came kept : Type 0) (from to : SourceView) (old new : SinkView) (before behind : DiskView) (result : ℕ) : Type 0 where
  source_fault : came → Rose from.faults to.faults → Says old new (codes "fault source\n") 5 result → Applied came kept from to old new before behind result
  too_long : came → IfSome from.left (λ bytes. max_source < length bytes) → Says old new (codes "fault long\n") 9 result → Applied came kept from to old new before behind result
  not_read : came → result ≡ 8 → Appends old.written new.written [] → Applied came kept from to old new before behind result
  no_script : came → WasRead (λ bytes. Unit {0}) from to → result ≡ 8 → Appends old.written new.written [] → Applied came kept from to old new before behind result
  bad_line : came → (n : ℕ) → WasRead (λ bytes. IsFirstBad is_script_line bytes n) from to → Tells old new (fault_line n) 3 result
      → Applied came kept from to old new before behind result
  had_script : (lines : List ScriptLine) → WasScript lines from to → RunsOn lines kept old new before behind result → Applied came kept from to old new before behind result

-- something that is to be shown
pub data Showed (shown : Shown) (kept : Type 0) (old new : SinkView) (before behind : DiskView) (result : ℕ) : Type 0 where
  nothing_shown : kept → Unrecovered old new before behind result → Showed shown kept old new before behind result
  showed : kept → (read : List Entry) → WasRecovered before read → IsSoundHistory standard read → behind.faults ≡ before.faults
      → Prints old new (shown_text shown read) 0 result → Showed shown kept old new before behind result

-- ---- a dump that is reported on
-- the lines are those of the report on some tables; where there are none, the tables stand for a plain drawing whose rings have one face each, and whose faces have their shells
pub record IsReportOn (raw : RawTables) (lines : List ReportLine) : Type 0 where
  pub is : IsReport (tables_in raw) lines
  pub plain : lines ≡ [] → IsPlain (drawn (tables_in raw))
  pub rings : lines ≡ [] → IsTrue (rings_have_one_face (drawn (tables_in raw)))
  pub shells : lines ≡ [] → IsTrue (faces_have_shells (drawn (tables_in raw)))

-- the report is written, and the status is 0 where it has no lines; or there was no memory for it
pub data ReportsOn (raw : RawTables) (old new : SinkView) (result : ℕ) : Type 0 where
  no_report : result ≡ 8 → Appends old.written new.written [] → ReportsOn raw old new result
  reported : (lines : List ReportLine) → IsReportOn raw lines → Prints old new (report_text lines) (report_status lines) result → ReportsOn raw old new result

-- the source told a dump, and its tables are reported on, or its first bad line is named
pub data Checked (from to : SourceView) (old new : SinkView) (result : ℕ) : Type 0 where
  dump_fault : Rose from.faults to.faults → Says old new (codes "fault source\n") 5 result → Checked from to old new result
  dump_too_long : IfSome from.left (λ bytes. max_source < length bytes) → Says old new (codes "fault long\n") 9 result → Checked from to old new result
  dump_not_read : result ≡ 8 → Appends old.written new.written [] → Checked from to old new result
  no_tables : WasRead (λ bytes. Unit {0}) from to → result ≡ 8 → Appends old.written new.written [] → Checked from to old new result
  bad_dump_line : (n : ℕ) → WasRead (λ bytes. IsFirstBadLine bytes n) from to → Tells old new (fault_line n) 3 result → Checked from to old new result
  had_dump : (raw : RawTables) → WasRead (λ bytes. IsDump bytes raw) from to → ReportsOn raw old new result → Checked from to old new result

-- any words
pub data Ending (words : List (List ℕ)) (came kept : Type 0) (from to : SourceView) (old new : SinkView) (before behind : DiskView) (result : ℕ) : Type 0 where
  bad_words : (AreForm words → ⊥) → (IsCheck words → ⊥) → came → to ≡ from → Says old new (codes "fault words\n") 2 result → Ending words came kept from to old new before behind result
  applied : IsForm words Apply → Applied came kept from to old new before behind result → Ending words came kept from to old new before behind result
  shows : (shown : Shown) → IsForm words (Show shown) → to ≡ from → Showed shown kept old new before behind result → Ending words came kept from to old new before behind result
  checks : IsCheck words → came → Checked from to old new result → Ending words came kept from to old new before behind result
