use Rattle.std.proofs.Common.{◌≡◌, ◌≢◌, refl, Option, Some, None, sym, ap, ◌∙◌, ◌∷◌, drop, ◌+◌}
use Rattle.std.specs.Prelude.{IsSome, MatchOption}
use Rattle.topo_base.specs.Point.{Point}
use Rattle.plane.specs.Segment.{Segment}
use Rattle.plane.specs.Line.{segments_of}
use Rattle.plane.specs.Relation.{IsProper}
use Rattle.grid_lines.proofs.Vertices.{segment_is, differ_at}
use Rattle.grid_lines.proofs.proper.segment.Goals as goal

made : (u v : Point) (o : Option Segment) → MatchOption o (u ≡ v) (λ s. (s ≡ record { a = u; b = v }) × IsProper s) → u ≢ v → IsSome o
made u v None e apart = absurd (apart e)
made u v (Some s) e apart = refl

pub unwrap-requires : goal.unwrap-requires
unwrap-requires c =
    let u = c.index-vertices-i.result in
    let v = c.index-vertices-i-2.result in
    made u v c.of.result c.of.ensures (differ_at c.args.vertices.now c.args.i u v c.requires.within c.index-vertices-i.is c.index-vertices-i-2.is c.requires.proper)

pub returns : goal.returns
returns c =
    let u = c.index-vertices-i.result in
    let v = c.index-vertices-i-2.result in
    let is = rw c.unwrap.ensures at c.of.ensures in
    segment_is c.args.vertices.now c.args.i u v c.requires.within c.index-vertices-i.is c.index-vertices-i-2.is
    ∙ ap (λ s. s ∷ segments_of (drop (c.args.i + 1) c.args.vertices.now)) (sym is.0)
