-- What each status of the program means, and when it comes.
use Rattle.std.specs.Prelude.{◌≡◌, ◌⊎◌, ℕ, ◌<◌, ◌≤◌, List, length, Option, Some, IfSome}
use Rattle.topo_base.specs.ScriptLines.{ScriptLine}
use Rattle.topo_base.specs.declared.edit.Entry.{Entry}
use Rattle.topo_io.specs.Causes.{Rose}
use Rattle.history_model.specs.Journal.{StandsFor, IsBadAt}
use Rattle.script_model.specs.NamedRange.{is_script_line}
use Rattle.script_model.specs.Script.{IsScript, IsFirstBad}
use Rattle.topo.specs.declared.words.Form.{Form}
use Rattle.topo.specs.declared.words.Form.TheVariants.{Apply, Show}
use Rattle.topo.specs.Words.{IsForm, AreForm, IsCheck}
use Rattle.topo.specs.Views.{SourceView, SinkView, DiskView}
use Rattle.validate_topology.specs.declared.raw.RawTables.{RawTables}
use Rattle.validate_topology.specs.declared.lines.ReportLine.{ReportLine}
use Rattle.table_dump.specs.Dump.{IsDump, IsFirstBad as IsFirstBadLine}
use Rattle.topo.specs.Output.{report_status}
use Rattle.topo.specs.Endings.{max_source, standard, WasRead, WasScript, WasRecovered, IsReportOn}

-- a script was read whole before the disk was touched; what only shows reads nothing
abbrev pub HasInput : Form → SourceView → SourceView → Type 0
HasInput Apply from to = (lines : List ScriptLine) × WasScript lines from to
HasInput (Show shown) from to = to ≡ from

-- the words are a form, and its input is good
abbrev pub HasForm : List (List ℕ) → SourceView → SourceView → Type 0
HasForm words from to = (form : Form) × IsForm words form × HasInput form from to

-- the status of the report on some tables: 0 where it has no lines, and else 1
abbrev pub IsReportStatus : RawTables → ℕ → Type 0
IsReportStatus raw result = (lines : List ReportLine) × IsReportOn raw lines × (result ≡ report_status lines)

-- what each status says of a dump
pub data MeansOfDump (from to : SourceView) (old new : SinkView) (result : ℕ) : Type 0 where
  is_reported : (raw : RawTables) → IsReportStatus raw result → WasRead (λ bytes. IsDump bytes raw) from to → MeansOfDump from to old new result
  has_bad_dump_line : result ≡ 3 → (n : ℕ) → WasRead (λ bytes. IsFirstBadLine bytes n) from to → MeansOfDump from to old new result
  dump_source_failed : result ≡ 5 → Rose from.faults to.faults → MeansOfDump from to old new result
  dump_sink_failed : result ≡ 6 → Rose old.faults new.faults → MeansOfDump from to old new result
  dump_wants_memory : result ≡ 8 → MeansOfDump from to old new result
  dump_is_too_long : result ≡ 9 → IfSome from.left (λ bytes. max_source < length bytes) → MeansOfDump from to old new result

-- what each status says
pub data Means (words : List (List ℕ)) (from to : SourceView) (old new : SinkView) (before behind : DiskView) (result : ℕ) : Type 0 where
  runs_well : result ≤ 1 → HasForm words from to → (read : List Entry) → WasRecovered before read → Means words from to old new before behind result
  has_other_words : result ≡ 2 → (AreForm words → ⊥) → (IsCheck words → ⊥) → Means words from to old new before behind result
  has_bad_line : result ≡ 3 → IsForm words Apply → (n : ℕ) → WasRead (λ bytes. IsFirstBad is_script_line bytes n) from to → Means words from to old new before behind result
  has_bad_gate : result ≡ 4 → HasForm words from to → (offset : ℕ) → (before.tells → IsBadAt standard before.seen offset) → Means words from to old new before behind result
  source_failed : result ≡ 5 → IsForm words Apply → Rose from.faults to.faults → Means words from to old new before behind result
  sink_failed : result ≡ 6 → Rose old.faults new.faults → Means words from to old new before behind result
  disk_failed : result ≡ 7 → HasForm words from to → Rose before.faults behind.faults → Means words from to old new before behind result
  wants_memory : result ≡ 8 → AreForm words → Means words from to old new before behind result
  is_too_long : result ≡ 9 → IsForm words Apply → IfSome from.left (λ bytes. max_source < length bytes) → Means words from to old new before behind result
  checks_dump : IsCheck words → MeansOfDump from to old new result → Means words from to old new before behind result

-- the input of a form is good, as the source tells it
abbrev pub IsGoodInput : Form → SourceView → Type 0
IsGoodInput Apply from = (bytes : List ℕ) × (lines : List ScriptLine) × (from.left ≡ Some bytes) × IsScript is_script_line bytes lines × (length bytes ≤ max_source)
IsGoodInput (Show shown) from = Unit {0}

-- each cause has its status, but where the line of the fault can't be written, or memory runs out
pub record IsComplete (words : List (List ℕ)) (from to : SourceView) (old new : SinkView) (before behind : DiskView) (result : ℕ) : Type 0 where
  pub other_words : (AreForm words → ⊥) → (IsCheck words → ⊥) → (result ≡ 2) ⊎ (result ≡ 6)
  pub bad_lines : (bytes : List ℕ) (n : ℕ) → IsForm words Apply → from.left ≡ Some bytes → IsFirstBad is_script_line bytes n → length bytes ≤ max_source → (Rose from.faults to.faults → ⊥)
      → (result ≡ 3) ⊎ ((result ≡ 6) ⊎ (result ≡ 8))
  pub long_sources : (bytes : List ℕ) → IsForm words Apply → from.left ≡ Some bytes → max_source < length bytes → (Rose from.faults to.faults → ⊥) → (result ≡ 9) ⊎ ((result ≡ 6) ⊎ (result ≡ 8))
  pub bad_gates : (form : Form) (offset : ℕ) → IsForm words form → IsGoodInput form from → before.tells → IsBadAt standard before.seen offset → (Rose from.faults to.faults → ⊥) → (Rose before.faults behind.faults → ⊥)
      → (result ≡ 4) ⊎ ((result ≡ 6) ⊎ (result ≡ 8))
  -- and where all is good and nothing fails, the status is 0 or 1, or memory ran out
  pub good_runs : (form : Form) (read : List Entry) → IsForm words form → IsGoodInput form from → before.tells → StandsFor standard before.seen read → (Rose from.faults to.faults → ⊥)
      → (Rose old.faults new.faults → ⊥) → (Rose before.faults behind.faults → ⊥) → (result ≤ 1) ⊎ (result ≡ 8)
  pub long_dumps : (bytes : List ℕ) → IsCheck words → from.left ≡ Some bytes → max_source < length bytes → (Rose from.faults to.faults → ⊥) → (result ≡ 9) ⊎ ((result ≡ 6) ⊎ (result ≡ 8))
  pub bad_dumps : (bytes : List ℕ) (n : ℕ) → IsCheck words → from.left ≡ Some bytes → IsFirstBadLine bytes n → length bytes ≤ max_source → (Rose from.faults to.faults → ⊥)
      → (result ≡ 3) ⊎ ((result ≡ 6) ⊎ (result ≡ 8))
  pub good_dumps : (bytes : List ℕ) (raw : RawTables) → IsCheck words → from.left ≡ Some bytes → IsDump bytes raw → length bytes ≤ max_source → (Rose from.faults to.faults → ⊥)
      → (Rose old.faults new.faults → ⊥) → IsReportStatus raw result ⊎ (result ≡ 8)
