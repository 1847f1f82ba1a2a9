use Rattle.std.proofs.Common.{◌≡◌, ℕ, ◌+◌, List, length, Option, None, Result, Err, ap, subst, rules}
use Rattle.std.proofs.lemmas.List.{nil_from_length}
use Rattle.validate_topology.specs.declared.raw.RawTables.{RawTables}
use Rattle.table_dump.specs.declared.ends.LineEnd.{LineEnd}
use Rattle.table_dump.specs.declared.ends.LineEnd.TheVariants.{Bad}
use Rattle.table_dump.specs.declared.read.DumpEnd.{DumpEnd}
use Rattle.table_dump.specs.declared.read.DumpEnd.TheVariants.{BadLine}
use Rattle.table_dump.specs.Dump.{IsFirstBad}
use Rattle.table_dump.specs.Lines.{lines_of, words_of}
use Rattle.table_dump.specs.Rows.{DumpRow, next_in, row_in}
use Rattle.table_dump.specs.Steps.{Front, Puts, front_of}
use Rattle.table_dump.specs.Words.{Fails}
use Rattle.table_dump.proofs.Dumps.{IsReadTo, empty_bad, first_bad, begin_read, read_on, line_bad, end_bad, end_good}
use Rattle.table_dump.proofs.read.read_tables.Goals as goal

-- the bad line that is answered
abbrev refused : ℕ → Result RawTables DumpEnd
refused n = Err (BadLine n)

bad_at : (text : List ℕ) (k n : ℕ) → refused k ≡ refused n → IsFirstBad text k → IsFirstBad text n
bad_at text k n e h = let same : k ≡ n = cc in subst (IsFirstBad text) same h

no_next : {A : Type 0} (e : LineEnd) (read : Option A) → e ≡ Bad → Fails e read → read ≡ None
no_next e read is h = subst (λ x. Fails x read) is h

no_row : (e : LineEnd) (row : Option DumpRow) (old new : Front) → e ≡ Bad → Puts {U = Unit {0}} row old new (Err e) → Puts {U = Unit {0}} row old new (Err Bad)
no_row e row old new is h = subst (λ x. Puts {U = Unit {0}} row old new (Err x)) is h

pub returns-then-is_empty-clause-bad : goal.returns-then-is_empty-clause-bad
returns-then-is_empty-clause-bad c = λ n e.
    let none : length c.args.text.now ≡ 0 = search rules in
    bad_at c.args.text.now 1 n e (empty_bad c.args.text.now (ap lines_of (nil_from_length c.args.text.now none)))

pub returns-in-Err-Bad-clause-bad : goal.returns-in-Err-Bad-clause-bad
returns-in-Err-Bad-clause-bad c = λ n e.
    let line = c.first_line.result.0.now in
    bad_at c.args.text.now 1 n e (first_bad c.args.text.now line c.first_line.result.1.now c.first_line.ensures.lines (no_next c.in-Err-Bad.field-0 (next_in (words_of line)) c.in-Err-Bad.field-0-is c.in-Err-Bad.ensures))

pub loop-rest-init : goal.loop-rest-init
loop-rest-init c =
    begin_read c.args.text.now c.first_line.result.0.now c.first_line.result.1.now c.in-Ok.next (front_of c.begin-reading.result) c.first_line.ensures.lines c.in-Ok.ensures c.begin-reading.ensures c.first_line.ensures.shorter

pub returns-in-Err-Bad-read_line-clause-bad : goal.returns-in-Err-Bad-read_line-clause-bad
returns-in-Err-Bad-read_line-clause-bad c = λ n e.
    let one = c.first_line-in-loop-rest.result.0.now in
    bad_at c.args.text.now (c.loop-rest.line + 1) n e (
    line_bad c.args.text.now c.loop-rest.rest.now c.first_line-in-loop-rest.result.1.now one c.loop-rest.line (front_of c.loop-rest.reading) c.loop-rest.invariant c.first_line-in-loop-rest.ensures.lines
    (no_row c.in-Err-Bad-read_line.field-0 (row_in (words_of one)) (front_of c.loop-rest.reading) (front_of c.read_line.new.self) c.in-Err-Bad-read_line.field-0-is c.in-Err-Bad-read_line.ensures)
    )

pub loop-rest-preserved : goal.loop-rest-preserved
loop-rest-preserved c =
    read_on c.args.text.now c.loop-rest.rest.now c.first_line-in-loop-rest.result.1.now c.first_line-in-loop-rest.result.0.now c.loop-rest.line (front_of c.loop-rest.reading) (front_of c.read_line.new.self) c.loop-rest.invariant
    c.first_line-in-loop-rest.ensures.lines c.first_line-in-loop-rest.ensures.shorter c.in-Ok-read_line.ensures

pub returns-then-not-reading-clause-bad : goal.returns-then-not-reading-clause-bad
returns-then-not-reading-clause-bad c = λ n e.
    let none : length c.loop-rest.rest.now ≡ 0 = search rules in
    let read = subst (λ r. IsReadTo c.args.text.now r c.loop-rest.line (front_of c.loop-rest.reading)) (nil_from_length c.loop-rest.rest.now none) c.loop-rest.invariant in
    bad_at c.args.text.now (c.loop-rest.line + 1) n e (end_bad c.args.text.now c.loop-rest.line (front_of c.loop-rest.reading) read c.if-not-reading.true)

pub returns-clause-dump : goal.returns-clause-dump
returns-clause-dump c =
    let none : length c.loop-rest.rest.now ≡ 0 = search rules in
    let read = subst (λ r. IsReadTo c.args.text.now r c.loop-rest.line (front_of c.loop-rest.reading)) (nil_from_length c.loop-rest.rest.now none) c.loop-rest.invariant in
    end_good c.args.text.now c.loop-rest.line (front_of c.loop-rest.reading) read c.if-not-reading.false
