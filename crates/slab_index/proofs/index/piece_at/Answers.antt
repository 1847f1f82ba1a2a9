use Rattle.std.proofs.Common.{◌+◌, ◌<◌, ◌∙◌, ap, sym, arith, ◌∷◌, drop, length}
use Rattle.std.specs.Prelude.{map}
use Rattle.topo_base.specs.Point.{Point}
use Rattle.plane.specs.Line.{segments_of}
use Rattle.plane.specs.ClosedWalk.{point_at}
use Rattle.plane.proofs.Walks.{rest_segments, point_index}
use Rattle.slab_index.specs.declared.piece.Piece.{Piece}
use Rattle.slab_index.specs.Pieces.{piece_of}
use Rattle.slab_index.proofs.index.piece_at.Goals as goal

pub returns : goal.returns
returns c =
    let vs = c.args.vertices.now in
    let i = c.args.i in
    let within : i < length vs = omega arith in
    let first = point_index vs i c.index-vertices-i.result within c.index-vertices-i.is in
    let second = point_index vs (i + 1) c.index-vertices-i-2.result c.requires c.index-vertices-i-2.is in
    let piece = λ (p q : Point). let one : Piece = record { edge = c.args.edge; start = p; end = q } in one in
    ap (map (piece_of c.args.edge)) (rest_segments vs i c.requires)
    ∙ sym (ap (λ p. piece p c.index-vertices-i-2.result ∷ map (piece_of c.args.edge) (segments_of (drop (i + 1) vs))) first
    ∙ ap (λ q. piece (point_at vs i) q ∷ map (piece_of c.args.edge) (segments_of (drop (i + 1) vs))) second)
