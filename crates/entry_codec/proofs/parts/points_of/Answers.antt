use Rattle.std.proofs.Common.{◌≡◌, ◌++◌, ◌∷◌, []}
use Rattle.entry_codec.specs.Reading.{many, point_at}
use Rattle.entry_codec.proofs.Loops.{goes_on, ends, is_done}
use Rattle.entry_codec.proofs.parts.points_of.Goals as goal

pub returns-in-Err : goal.returns-in-Err
returns-in-Err c =
    ends point_at c.in-Err.end c.loop.points.items c.args.count c.loop.counter c.loop.rest.now (many point_at c.args.count c.args.bytes.now) c.loop-test.true c.in-Err.ensures c.loop.invariant

pub loop-preserved : goal.loop-preserved
loop-preserved c =
    let items : c.push.new.self.items ≡ c.loop.points.items ++ c.in-Ok.read.0 ∷ [] = c.in_ok-push.ensures.items in
    rw items (goes_on point_at c.loop.points.items c.args.count c.loop.counter c.loop.rest.now c.in-Ok.read.0 c.in-Ok.read.1.now (many point_at c.args.count c.args.bytes.now) c.loop-test.true c.in-Ok.ensures c.loop.invariant)

pub returns : goal.returns
returns c = is_done point_at c.loop.points.items c.args.count c.loop.counter c.loop.rest.now (many point_at c.args.count c.args.bytes.now) c.loop-test.false c.loop.invariant
