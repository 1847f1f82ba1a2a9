-- An added edge: it closes no ring, or divides the face in which it lies.
use Rattle.std.proofs.Common.{◌≡◌, ◌≢◌, ◌≤◌, ℕ, true, sym, ◌∙◌, ap, subst, arith, not, ◌==◌, List, [], ◌∷◌, ◌++◌, ◌+◌, length, filter, unwrap_or}
use Rattle.std.proofs.lemmas.Bool.{and_parts}
use Rattle.topo_base.specs.Point.{Point, same_point}
use Rattle.topo_base.specs.declared.rows.NodeRow.{NodeRow}
use Rattle.drawing.specs.AddEdge.{Division, divided, one_new, two_new}
use Rattle.plane.specs.Direction.{first_direction}
use Rattle.drawing.specs.Drawing.{Drawing, has_face}
use Rattle.drawing.specs.Faces.{face_after}
use Rattle.drawing.specs.HalfEdge.{half_edges, leaves}
use Rattle.drawing.specs.IsoEdits.{with_edge}
use Rattle.plane.specs.Line.{last_vertex}
use Rattle.drawing.specs.Star.{last_clockwise}
use Rattle.drawing.proofs.PlainParts.{plain_of}
use Rattle.edit_changes.specs.Evidence.{EdgeMayCome, OpenEdgeMayCome, FaceMayBeDivided, left_ring, right_ring}
use Rattle.edit_changes.proofs.PlainStaying.{edge_more, has_plain}
use Rattle.ring_laws.specs.Ringed.{IsRinged}
use Rattle.ring_laws.proofs.Known.{wedge_listed}
use Rattle.ring_laws.proofs.RingsStaying.{rings_stay}
use Rattle.parity_laws.proofs.Tests.{same_is}
use Rattle.face_laws.specs.Covered.{IsCovered}
use Rattle.face_laws.proofs.Covering.{known}
use Rattle.subdivision_laws.proofs.Covers.{Covers}
use Rattle.subdivision_laws.proofs.AddedSteps.{added, Adds}
use Rattle.subdivision_laws.proofs.AddedShells.{open_covers}
use Rattle.subdivision_laws.proofs.RingAdded.{AddsRing, FacesBelow, two_parts, one_part}

-- the drawing with the edge, where it doesn't divide its face yet
pub adds : (S : Drawing) (a b : NodeRow) (p q : Point) (vs : List Point) (f : ℕ) → IsCovered S → 2 ≤ length (p ∷ q ∷ vs) → EdgeMayCome S a b (p ∷ q ∷ vs) f → Adds S a b p q vs f
adds S a b p q vs f c long k =
    let plain = edge_more S a b (p ∷ q ∷ vs) f (has_plain S c.ringed.rings.plain) k.start_there k.end_there k.ends k.simple k.free in
    record {
      before = c;
      after = rings_stay.added S a b (p ∷ q ∷ vs) f c.ringed k.start_there k.end_there (plain_of (added S a b p q vs f) plain.parts) long (k.starts_in, k.ends_in);
      node = k.start_there;
      begins = same_is p a.geom (and_parts (same_point p a.geom) (same_point (last_vertex (p ∷ q ∷ vs)) b.geom) k.ends).0;
      face = λ g e. sym (ap (λ o. unwrap_or o (face_after (last_clockwise (first_direction (p ∷ q ∷ vs)) (filter (leaves a.node_id) (half_edges S))))) e) ∙ k.starts_in;
    }

pub edge_comes : (S : Drawing) (a b : NodeRow) (line : List Point) (f : ℕ) → OpenEdgeMayCome S a b line f → 2 ≤ length line → IsCovered S → Covers (with_edge S a b line f)
edge_comes S a b [] f k long c = absurd (omega (arith, long))
edge_comes S a b (p ∷ []) f k long c = absurd (omega (arith, long))
edge_comes S a b (p ∷ q ∷ vs) f k long c = open_covers S a b p q vs f (adds S a b p q vs f c long k.edge) k.joined

-- ---- the edge closes a ring
pub adds_ring : (S : Drawing) (a b : NodeRow) (p q : Point) (vs : List Point) (f : ℕ) → FaceMayBeDivided S a b (p ∷ q ∷ vs) f → 2 ≤ length (p ∷ q ∷ vs) → FacesBelow S → IsCovered S → AddsRing S a b p q vs f
adds_ring S a b p q vs f k long below c = record {
  adds = adds S a b p q vs f c long k.edge;
  cut = k.cut;
  listed = subst (λ g. has_face S g ≡ true) k.edge.starts_in (wedge_listed S a (first_direction (p ∷ q ∷ vs)) (known S c.ringed) k.edge.start_there);
  below = below;
}

-- the drawing once its face is divided so
abbrev divided_once : Drawing → NodeRow → NodeRow → List Point → ℕ → Division → Drawing
divided_once S a b line f d = divided (with_edge S a b line f) d (S.faces ++ S.next_ids.face ∷ []) 1

abbrev divided_twice : Drawing → NodeRow → NodeRow → List Point → ℕ → Division → Drawing
divided_twice S a b line f d = divided (with_edge S a b line f) d (filter (λ g. not (g == f)) S.faces ++ S.next_ids.face ∷ (S.next_ids.face + 1) ∷ []) 2

once : (S : Drawing) (a b : NodeRow) (line : List Point) (f : ℕ) → FaceMayBeDivided S a b line f → 2 ≤ length line → FacesBelow S → IsCovered S
    → (d : Division) → one_new (with_edge S a b line f) f (left_ring S a b line f) (right_ring S a b line f) ≡ d → IsRinged (divided_once S a b line f d) → Covers (divided_once S a b line f d)
once S a b [] f k long below c d is = absurd (omega (arith, long))
once S a b (p ∷ []) f k long below c d is = absurd (omega (arith, long))
once S a b (p ∷ q ∷ vs) f k long below c d is =
    subst (λ x. IsRinged (divided_once S a b (p ∷ q ∷ vs) f x) → Covers (divided_once S a b (p ∷ q ∷ vs) f x)) is (one_part S a b p q vs f (adds_ring S a b p q vs f k long below c))

twice : (S : Drawing) (a b : NodeRow) (line : List Point) (f : ℕ) → FaceMayBeDivided S a b line f → f ≢ 0 → 2 ≤ length line → FacesBelow S → IsCovered S
    → (d : Division) → two_new (with_edge S a b line f) f (left_ring S a b line f) (right_ring S a b line f) ≡ d → IsRinged (divided_twice S a b line f d) → Covers (divided_twice S a b line f d)
twice S a b [] f k some long below c d is = absurd (omega (arith, long))
twice S a b (p ∷ []) f k some long below c d is = absurd (omega (arith, long))
twice S a b (p ∷ q ∷ vs) f k some long below c d is =
    subst (λ x. IsRinged (divided_twice S a b (p ∷ q ∷ vs) f x) → Covers (divided_twice S a b (p ∷ q ∷ vs) f x)) is (two_parts S a b p q vs f (adds_ring S a b p q vs f k long below c) some)

pub face_is_divided : (S : Drawing) (a b : NodeRow) (line : List Point) (d : Division) → FaceMayBeDivided S a b line d.face → d ≡ one_new (with_edge S a b line d.face) d.face (left_ring S a b line d.face) (right_ring S a b line d.face)
    → 2 ≤ length line → FacesBelow S → IsCovered S → IsRinged (divided_once S a b line d.face d) → Covers (divided_once S a b line d.face d)
face_is_divided S a b line d k is long below c = once S a b line d.face k long below c d (sym is)

pub face_is_divided_anew : (S : Drawing) (a b : NodeRow) (line : List Point) (d : Division) → FaceMayBeDivided S a b line d.face → d.face ≢ 0
    → d ≡ two_new (with_edge S a b line d.face) d.face (left_ring S a b line d.face) (right_ring S a b line d.face)
    → 2 ≤ length line → FacesBelow S → IsCovered S → IsRinged (divided_twice S a b line d.face d) → Covers (divided_twice S a b line d.face d)
face_is_divided_anew S a b line d k some is long below c = twice S a b line d.face k some long below c d (sym is)
