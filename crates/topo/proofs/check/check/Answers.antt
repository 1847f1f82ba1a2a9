use Rattle.std.proofs.Common.{◌≤◌, length, Err, ap, subst}
use Rattle.table_dump.specs.Dump.{IsDump, IsFirstBad as IsFirstBadLine}
use Rattle.topo.specs.Endings.{max_source, bad_dump_line, had_dump}
use Rattle.topo.proofs.Statuses.{whole_at}
use Rattle.topo.proofs.check.check.Goals as goal

pub returns-in-Ok-read_tables : goal.returns-in-Ok-read_tables
returns-in-Ok-read_tables g c =
    let raw = c.in-Ok-read_tables.raw in
    had_dump raw
    (record {
      told = whole_at (λ bs. IsDump bs raw) _ c.in-Ok.bytes.items c.in-Ok.ensures.whole (subst (λ bs. IsDump bs raw) c.deref.ensures.value c.in-Ok-read_tables.ensures.dump);
      short = whole_at (λ bs. length bs ≤ max_source) _ c.in-Ok.bytes.items c.in-Ok.ensures.whole c.in-Ok.ensures.short;
      ended = c.in-Ok.ensures.end;
      calm = c.in-Ok.ensures.kept;
    })
    c.end_with_report.ensures

pub returns : goal.returns
returns g c =
    let n = c.in-Err-BadLine.line in
    let bad = subst (λ bs. IsFirstBadLine bs n) c.deref.ensures.value (c.in-Err-BadLine.ensures.bad n (ap Err c.in-Err-BadLine.field-0-is)) in
    bad_dump_line n
    (record {
      told = whole_at (λ bs. IsFirstBadLine bs n) _ c.in-Ok.bytes.items c.in-Ok.ensures.whole bad;
      short = whole_at (λ bs. length bs ≤ max_source) _ c.in-Ok.bytes.items c.in-Ok.ensures.whole c.in-Ok.ensures.short;
      ended = c.in-Ok.ensures.end;
      calm = c.in-Ok.ensures.kept;
    })
    c.end_with_line.ensures
