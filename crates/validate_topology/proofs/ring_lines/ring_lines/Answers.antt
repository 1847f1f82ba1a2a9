use Rattle.std.proofs.Common.{◌≡◌, ◌∙◌, ◌++◌, ◌∷◌, List, ap, map, sym}
use Rattle.topo_base.specs.declared.rows.FaceRow.{FaceRow}
use Rattle.drawing.specs.Subdivision.{rings}
use Rattle.drawing.specs.Tables.{universal_face}
use Rattle.validate_topology.specs.RingLines.{counts_wrong, shells_of, sides_differ, walked_back, walked_forward}
use Rattle.validate_topology.specs.Walks.{halves_of}
use Rattle.validate_topology.specs.declared.ring_lines.Tally.{Tally}
use Rattle.validate_topology.proofs.Pushing.{three_pushed}
use Rattle.validate_topology.proofs.ring_lines.ring_lines.Goals as goal

pub returns : goal.returns
returns c =
    let hs = halves_of c.args.sides.now in
    let count = shells_of (rings hs) in
    let faces = c.args.faces.now in
    let rows = c.rows.ensures.rows in
    let same : map (λ (t : Tally). t.count) c.deref.result.now ≡ map (λ (f : FaceRow). count f.face_id) (universal_face ∷ c.rows.result.now) =
    ap (map (λ (t : Tally). t.count)) c.deref.ensures.value ∙ c.in_ok-tallies.ensures.counts
    ∙ (λ i. map (λ (f : FaceRow). shells_of (c.requires.walks.all i) f.face_id) (universal_face ∷ sym rows i)) in
    three_pushed c.args.report.now c.backward_sides.new.report c.forward_sides.new.report c.counts_wrong.new.report
    (sides_differ hs (walked_back hs)) (sides_differ hs (walked_forward hs)) (counts_wrong count (universal_face ∷ faces))
    c.in_ok-backward_sides.ensures c.in_ok-forward_sides.ensures
    (c.in_ok-counts_wrong.ensures count same ∙ ap (λ (fs : List FaceRow). c.forward_sides.new.report ++ counts_wrong count (universal_face ∷ fs)) rows)
