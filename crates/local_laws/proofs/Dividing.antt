-- The division of a face by an edge that may come.
use Rattle.std.proofs.Common.{◌≡◌, ◌≤◌, ℕ, subst, arith, List, [], ◌∷◌, length, Some}
use Rattle.std.specs.List.{Contains}
use Rattle.topo_base.specs.Point.{Point}
use Rattle.topo_base.specs.declared.rows.NodeRow.{NodeRow}
use Rattle.drawing.specs.AddEdge.{Division, coming, one_new}
use Rattle.drawing.specs.Drawing.{Drawing, Edge}
use Rattle.drawing.specs.IsoEdits.{with_edge}
use Rattle.edit_changes.specs.Evidence.{EdgeMayCome, FaceMayBeDivided, left_ring, right_ring}
use Rattle.face_laws.specs.Covered.{IsCovered, IsInFaceOf}
use Rattle.subdivision_laws.specs.Subdivided.{IsSubdivided}
use Rattle.subdivision_laws.proofs.AddedSides.{added_placed}
use Rattle.subdivision_laws.proofs.DividedFaces.{IsParted}
use Rattle.subdivision_laws.proofs.EdgesAdded.{adds, adds_ring}
use Rattle.subdivision_laws.proofs.RingAdded.{faces_below, faces_in_order, ring_parted}
use Rattle.local_laws.specs.Parts.{IsToDivide}

parted_by : (S : Drawing) (a b : NodeRow) (line : List Point) (f : ℕ) → IsSubdivided S → 2 ≤ length line → FaceMayBeDivided S a b line f
    → IsParted (with_edge S a b line f) (coming S a b line f) (one_new (with_edge S a b line f) f (left_ring S a b line f) (right_ring S a b line f))
parted_by S a b [] f h long k = absurd (omega (arith, long))
parted_by S a b (p ∷ []) f h long k = absurd (omega (arith, long))
parted_by S a b (p ∷ q ∷ vs) f h long k = ring_parted S a b p q vs f (adds_ring S a b p q vs f k long (faces_below S (faces_in_order S h.referenced.ids)) h.covered)

placed_by : (S : Drawing) (a b : NodeRow) (line : List Point) (f : ℕ) → IsCovered S → 2 ≤ length line → EdgeMayCome S a b line f → (n : NodeRow) → Contains (with_edge S a b line f).nodes n → n.containing_face ≡ Some f
    → IsInFaceOf (with_edge S a b line f) n.geom f
placed_by S a b [] f c long k n = absurd (omega (arith, long))
placed_by S a b (p ∷ []) f c long k n = absurd (omega (arith, long))
placed_by S a b (p ∷ q ∷ vs) f c long k n = added_placed S a b p q vs f (adds S a b p q vs f c long k) n f

-- ---- the drawing with the edge
abbrev pub edge_of : (T : Drawing) (d : Division) → IsToDivide T d → Edge
edge_of T d k = coming k.before k.start_node k.end_node k.line d.face

-- with parts of its own, since the laws ask for the face and the rings alone
abbrev pub one_part : Drawing → Division → Division
one_part T d = one_new T d.face d.left_ring d.right_ring

pub parted : (T : Drawing) (d : Division) (k : IsToDivide T d) → IsParted T (edge_of T d k) (one_part T d)
parted T d k =
    subst (λ ring. IsParted T (edge_of T d k) (one_new T d.face d.left_ring ring)) k.on_right
    (subst (λ ring. IsParted T (edge_of T d k) (one_new T d.face ring (right_ring k.before k.start_node k.end_node k.line d.face))) k.on_left
    (subst (λ U. IsParted U (edge_of T d k) (one_new U d.face (left_ring k.before k.start_node k.end_node k.line d.face) (right_ring k.before k.start_node k.end_node k.line d.face))) k.comes
    (parted_by k.before k.start_node k.end_node k.line d.face k.subdivided k.long k.may)))

-- a node in the face
pub node_placed : (T : Drawing) (d : Division) (n : NodeRow) → IsToDivide T d → Contains T.nodes n → n.containing_face ≡ Some d.face → IsInFaceOf T n.geom d.face
node_placed T d n k c e =
    subst (λ U. Contains U.nodes n → IsInFaceOf U n.geom d.face) k.comes
    (λ i. placed_by k.before k.start_node k.end_node k.line d.face k.subdivided.covered k.long k.may.edge n i e) c
