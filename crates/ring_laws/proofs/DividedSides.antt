-- A divided drawing: the sides of the half-edges of a ring become one part.
use Rattle.std.proofs.Common.{zero, suc, ◌≡◌, ℕ, refl, sym, ◌∙◌, ap, subst, ⊎_elim, Bool, true, false, cond, List, [], ◌∷◌, map}
use Rattle.std.specs.Prelude.{flat_map, ◌==◌}
use Rattle.std.specs.List.{Contains}
use Rattle.std.proofs.lemmas.Bool.{eqb-true}
use Rattle.drawing.specs.AddEdge.{Division, part_at, part_beside, divided_side, divided_edge, divided}
use Rattle.drawing.specs.Drawing.{Drawing, Edge}
use Rattle.drawing.specs.HalfEdge.{HalfEdge, forward_of, backward_of, both_ways, half_edges, dart_of}
use Rattle.drawing.specs.Ring.{ring_of, contains_half_edge}
use Rattle.drawing.specs.Star.{next_of}
use Rattle.drawing.specs.Subdivision.{rings_have_one_face}
use Rattle.drawing.proofs.Members.{contains-mapped}
use Rattle.face_rings.specs.Border.{next_dart}
use Rattle.face_rings.specs.FaceBorder.{face_border, HasRings}
use Rattle.face_rings.proofs.FaceBorders.{has_plain_lines, half_by_dart}
use Rattle.face_rings.proofs.HalfLines.{HasPlainLines}
use Rattle.face_rings.proofs.HalvesApart.{half_of, forward_there, backward_there}
use Rattle.face_rings.proofs.NextApart.{next_there}
use Rattle.face_rings.proofs.Orbits.{after}
use Rattle.face_rings.proofs.Reaching.{from_ring}
use Rattle.ring_laws.proofs.Faceless.{faceless, next_faceless}
use Rattle.ring_laws.specs.Parts.{IsDividedBy, PartsFollow}
use Rattle.ring_laws.proofs.RingParts.{IsStep, step_on, next_half, ring_has, contains_same, least_same}
use Rattle.ring_laws.proofs.Turning.{left_stays, lefts_stay}

-- ---- a division by the rings of two half-edges
pub record IsDivision (T : Drawing) (d : Division) : Type 0 where
  pub rings : HasRings T
  pub on_left : HalfEdge
  pub on_right : HalfEdge
  pub left : IsStep T d.face on_left
  pub right : IsStep T d.face on_right
  pub left_ring : d.left_ring ≡ ring_of (half_edges T) on_left
  pub right_ring : d.right_ring ≡ ring_of (half_edges T) on_right

part_same : (T : Drawing) (d : Division) (h : HalfEdge) → IsDivision T d → IsStep T d.face h → part_beside d (half_edges T) h ≡ part_beside d (half_edges T) (next_of (half_edges T) h)
part_same T d h div s =
    let next = next_of (half_edges T) h in
    let first : contains_half_edge d.left_ring h ≡ contains_half_edge d.left_ring next =
    subst (λ ring. contains_half_edge ring h ≡ contains_half_edge ring next) (sym div.left_ring) (contains_same T d.face div.on_left h div.left s) in
    let second : contains_half_edge d.right_ring h ≡ contains_half_edge d.right_ring next =
    subst (λ ring. contains_half_edge ring h ≡ contains_half_edge ring next) (sym div.right_ring) (contains_same T d.face div.on_right h div.right s) in
    let third = least_same T d.face h s in
    λ i. cond (first i) d.left_part (cond (second i) d.right_part (part_at d (third i)))

abbrev side_of : Drawing → Division → HalfEdge → ℕ
side_of T d h = divided_side d (half_edges T) h.on_left h

pub side_same : (T : Drawing) (d : Division) (h : HalfEdge) → IsDivision T d → Contains (half_edges T) h → side_of T d h ≡ side_of T d (next_of (half_edges T) h)
side_same T d h div c =
    by_test (h.on_left == d.face) refl
    ∙ ap (λ g. divided_side d (half_edges T) g (next_of (half_edges T) h)) (left_stays T h div.rings.one_face c)
  where
    by_test : (t : Bool) → (h.on_left == d.face) ≡ t → cond t (part_beside d (half_edges T) h) h.on_left ≡ cond t (part_beside d (half_edges T) (next_of (half_edges T) h)) h.on_left
    by_test true e = part_same T d h div (record { rings = div.rings; there = c; left = eqb-true h.on_left d.face e })
    by_test false e = refl

-- ---- the half-edges of the divided drawing
abbrev sided : Drawing → Division → List Edge → List Edge
sided T d edges = map (divided_edge d (half_edges T)) edges

sides_faceless : (T : Drawing) (d : Division) (edges : List Edge) → map faceless (flat_map both_ways (sided T d edges)) ≡ map faceless (flat_map both_ways edges)
sides_faceless T d [] = refl
sides_faceless T d (e ∷ edges) = ap (λ (hs : List HalfEdge). faceless (forward_of e) ∷ faceless (backward_of e) ∷ hs) (sides_faceless T d edges)

-- each stands for one of before, and has its part on the left
record IsSideOf (T : Drawing) (d : Division) (h : HalfEdge) : Type 0 where
  half : HalfEdge
  there : Contains (half_edges T) half
  same : faceless h ≡ faceless half
  left : h.on_left ≡ side_of T d half

side_of_half : (T : Drawing) (d : Division) (h : HalfEdge) → Contains (flat_map both_ways (sided T d T.edges)) h → IsSideOf T d h
side_of_half T d h c =
    let r = half_of (sided T d T.edges) h c in
    let (e, (ce, is)) = contains-mapped (divided_edge d (half_edges T)) r.edge T.edges r.there in
    ⊎_elim
    (λ (p : forward_of r.edge ≡ h). subst (IsSideOf T d) (ap forward_of is ∙ p) (record { half = forward_of e; there = forward_there T.edges e ce; same = refl; left = refl }))
    (λ (p : backward_of r.edge ≡ h). subst (IsSideOf T d) (ap backward_of is ∙ p) (record { half = backward_of e; there = backward_there T.edges e ce; same = refl; left = refl }))
    r.way

pub dart_faceless : (h k : HalfEdge) → faceless h ≡ faceless k → dart_of h ≡ dart_of k
dart_faceless h k e = ap (λ (x : HalfEdge). dart_of x) e

pub divided_rings : (T : Drawing) (d : Division) (faces : List ℕ) (new : ℕ) → IsDivision T d → HasPlainLines (divided T d faces new) → rings_have_one_face (divided T d faces new) ≡ true
divided_rings T d faces new div more = lefts_stay (divided T d faces new) each
  where
    hs : List HalfEdge
    hs = half_edges T

    good : HasPlainLines T
    good = has_plain_lines T div.rings

    each : (h : HalfEdge) → Contains (half_edges (divided T d faces new)) h → h.on_left ≡ (next_of (half_edges (divided T d faces new)) h).on_left
    each h c =
        let ks = half_edges (divided T d faces new) in
        let a = side_of_half T d h c in
        let b = side_of_half T d (next_of ks h) (next_there (divided T d faces new) h more c) in
        let lists = sides_faceless T d T.edges in
        let halves = a.same in
        let darts : dart_of (next_of ks h) ≡ dart_of (next_of (half_edges T) a.half) =
        sym (next_faceless ks h) ∙ (λ i. dart_of (next_of (lists i) (halves i))) ∙ next_faceless (half_edges T) a.half in
        let one = half_by_dart T b.half (next_of (half_edges T) a.half) good b.there (next_there T a.half good a.there) (sym (dart_faceless (next_of ks h) b.half b.same) ∙ darts) in
        a.left ∙ side_same T d a.half div a.there ∙ ap (λ (x : HalfEdge). side_of T d x) (sym one) ∙ sym b.left

-- ---- all half-edges of a ring have one part beside them
abbrev onward : List HalfEdge → ℕ → HalfEdge → HalfEdge
onward hs zero h = h
onward hs (suc n) h = next_of hs (onward hs n h)

onward_step : (T : Drawing) (f : ℕ) (n : ℕ) (h : HalfEdge) → IsStep T f h → IsStep T f (onward (half_edges T) n h)
onward_step T f zero h s = s
onward_step T f (suc n) h s = step_on T f (onward (half_edges T) n h) (onward_step T f n h s)

onward_dart : (T : Drawing) (f : ℕ) (n : ℕ) (h : HalfEdge) → IsStep T f h → dart_of (onward (half_edges T) n h) ≡ after (face_border (half_edges T) f) n (dart_of h)
onward_dart T f zero h s = refl
onward_dart T f (suc n) h s =
    sym (next_half T f (onward (half_edges T) n h) (onward_step T f n h s)) ∙ ap (next_dart (face_border (half_edges T) f)) (onward_dart T f n h s)

onward_part : (T : Drawing) (d : Division) (n : ℕ) (h : HalfEdge) → IsDivision T d → IsStep T d.face h → part_beside d (half_edges T) (onward (half_edges T) n h) ≡ part_beside d (half_edges T) h
onward_part T d zero h div s = refl
onward_part T d (suc n) h div s = sym (part_same T d (onward (half_edges T) n h) div (onward_step T d.face n h s)) ∙ onward_part T d n h div s

pub division_by : (T : Drawing) (e : Edge) (d : Division) → HasRings T → IsDividedBy T e d → IsDivision T d
division_by T e d rings by = record {
  rings = rings;
  on_left = forward_of e;
  on_right = backward_of e;
  left = record { rings = rings; there = forward_there T.edges e by.there; left = by.left };
  right = record { rings = rings; there = backward_there T.edges e by.there; left = by.right };
  left_ring = by.left_ring;
  right_ring = by.right_ring;
}

ring_part : (T : Drawing) (e : Edge) (d : Division) (h k : HalfEdge) → HasRings T → IsDividedBy T e d → Contains (half_edges T) h → Contains (half_edges T) k → h.on_left ≡ d.face → contains_half_edge (ring_of (half_edges T) h) k ≡ true
    → part_beside d (half_edges T) k ≡ part_beside d (half_edges T) h
ring_part T e d h k rings by ch ck left inside =
    let s : IsStep T d.face h = record { rings = rings; there = ch; left = left } in
    let (n, is) = from_ring (face_border (half_edges T) d.face) (dart_of h) (dart_of k) (sym (ring_has T d.face h k s) ∙ inside) in
    let one = half_by_dart T (onward (half_edges T) n h) k (has_plain_lines T rings) (onward_step T d.face n h s).there ck (onward_dart T d.face n h s ∙ is) in
    ap (part_beside d (half_edges T)) (sym one) ∙ onward_part T d n h (division_by T e d rings by) s

pub parts_follow : PartsFollow
parts_follow = record { one_part = ring_part }
