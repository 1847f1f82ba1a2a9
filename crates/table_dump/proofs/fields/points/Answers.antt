use Rattle.std.proofs.Common.{◌≡◌, ◌++◌, ◌∷◌, []}
use Rattle.table_dump.specs.Lines.{words_behind}
use Rattle.table_dump.specs.Words.{many, point_at}
use Rattle.table_dump.proofs.Loops.{goes_on, ends, is_done}
use Rattle.table_dump.proofs.fields.points.Goals as goal

pub returns-in-Err : goal.returns-in-Err
returns-in-Err c =
    ends point_at c.in-Err.end c.loop.points.items c.args.count c.loop.counter (words_behind c.loop.rest.now) (many point_at c.args.count (words_behind c.args.words.now)) c.loop-test.true c.in-Err.ensures c.loop.invariant

pub loop-preserved : goal.loop-preserved
loop-preserved c =
    let items : c.push.new.self.items ≡ c.loop.points.items ++ c.in-Ok.read.0 ∷ [] = c.in_ok-push.ensures.items in
    rw items (goes_on point_at c.loop.points.items c.args.count c.loop.counter (words_behind c.loop.rest.now) c.in-Ok.read.0 (words_behind c.in-Ok.read.1.now) (many point_at c.args.count (words_behind c.args.words.now)) c.loop-test.true c.in-Ok.ensures c.loop.invariant)

pub returns : goal.returns
returns c = is_done point_at c.loop.points.items c.args.count c.loop.counter (words_behind c.loop.rest.now) (many point_at c.args.count (words_behind c.args.words.now)) c.loop-test.false c.loop.invariant
