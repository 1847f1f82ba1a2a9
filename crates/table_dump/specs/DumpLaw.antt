-- A text is the dump of at most one list of tables, and then it has no bad line; what is printed for tables is their dump.
use Rattle.std.specs.Prelude.{◌≡◌, ℕ, List}
use Rattle.script_model.specs.Texts.{rows_text}
use Rattle.validate_topology.specs.Raw.{tables_in}
use Rattle.validate_topology.specs.declared.raw.RawTables.{RawTables}
use Rattle.table_dump.specs.Dump.{IsDumped, IsDump, IsFirstBad}

abbrev pub AreDumpsApart : Type 0
AreDumpsApart = (text : List ℕ) (r s : RawTables) → IsDump text r → IsDump text s → r ≡ s

abbrev pub AreDumpsGood : Type 0
AreDumpsGood = (text : List ℕ) (r : RawTables) (n : ℕ) → IsDump text r → IsFirstBad text n → ⊥

-- the printed text of tables in range is the dump of these, and of no others
abbrev pub ArePrintedBack : Type 0
ArePrintedBack = (r s : RawTables) → IsDumped r → IsDump (rows_text (tables_in r)) r × (IsDump (rows_text (tables_in r)) s → s ≡ r)
