use Rattle.std.proofs.Common.{◌≡◌, ◌+◌, sym, ◌∙◌, arith, true}
use Rattle.plane.specs.Line.{joins}
use Rattle.grid_lines.proofs.Vertices.{ends_at, proper_from, simple_on}
use Rattle.grid_lines.proofs.simple.joins_rest.Goals as goal

pub joins-requires : goal.joins-requires
joins-requires g c =
    let i = c.args.i in
    let vs = c.args.vertices.now in
    let e = ends_at vs i c.segment-s.result (omega (arith, c.requires.within)) c.segment-s.ensures in
    let f = ends_at vs (i + 1) c.segment-t.result (omega (arith, c.requires.within)) c.segment-t.ensures in
    e.1 ∙ sym f.0

pub is_apart_from-requires : goal.is_apart_from-requires
is_apart_from-requires g c = rw c.split_at.ensures.back (proper_from c.args.vertices.now (c.args.i + 2) c.requires.proper)

pub returns-then-joins-clause-test : goal.returns-then-joins-clause-test
returns-then-joins-clause-test g c =
    let s = c.segment-s.result in
    let t = c.segment-t.result in
    let k = simple_on c.args.p.now c.args.vertices.now c.args.i s t c.segment-s.ensures c.segment-t.ensures in
    let j : joins s t ≡ true = sym c.joins.ensures.test ∙ c.if-joins.true in
    let a = rw c.split_at.ensures.back at (sym c.is_apart_from.ensures.test) in
    rw (j, a) at k
