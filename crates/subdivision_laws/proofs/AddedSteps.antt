-- The steps of a drawing with an edge more: a line comes to those it had, and has the face in which it lies on both sides.
use Rattle.std.proofs.Common.{◌≡◌, ℕ, suc, refl, sym, ◌∙◌, ap, subst, ◌⊎◌, ⊎_elim, List, [], ◌∷◌, ◌++◌, slice_get, Some}
use Rattle.std.specs.Prelude.{flat_map, reverse}
use Rattle.std.specs.List.{Contains}
use Rattle.std.proofs.lemmas.Bool.{eqb-true, eq-eqb}
use Rattle.std.proofs.lemmas.Grind.{flat_map-append}
use Rattle.std.proofs.lemmas.List.{append-nil}
use Rattle.std.proofs.lemmas.List.Elements.{Contains-push, Contains-append_left}
use Rattle.topo_base.specs.Point.{Point}
use Rattle.topo_base.specs.declared.rows.NodeRow.{NodeRow}
use Rattle.drawing.specs.AddEdge.{coming}
use Rattle.drawing.specs.Drawing.{Drawing, Edge}
use Rattle.drawing.specs.HalfEdge.{HalfEdge, forward_of, backward_of, both_ways, half_edges}
use Rattle.drawing.specs.IsoEdits.{with_edge}
use Rattle.plane.specs.Line.{segments_of}
use Rattle.plane.specs.Segment.{Segment}
use Rattle.plane.specs.Crossings.{back}
use Rattle.face_rings.proofs.FaceBorders.{has_plain_lines}
use Rattle.face_rings.proofs.HalfLines.{HasPlainLines}
use Rattle.face_rings.proofs.HalvesApart.{forward_there, backward_there, half_of}
use Rattle.ring_laws.specs.Ringed.{IsRinged}
use Rattle.parity_laws.specs.Rings.{In, Drawn, Ringwise, of_face}
use Rattle.face_laws.specs.Walked.{steps_along, steps_of}
use Rattle.face_laws.specs.Covered.{face_of, IsCovered}
use Rattle.face_laws.proofs.FaceOnLeft.{left_is}
use Rattle.face_laws.proofs.InnerTurns.{AtInner, inner_starts}
use Rattle.face_laws.proofs.LineSteps.{segments-reverse}
use Rattle.face_laws.proofs.PlainSteps.{half_with, steps_plain, steps_once}
use Rattle.face_laws.proofs.RingLabels.{face_ringwise}
use Rattle.face_laws.proofs.Vertices.{Follows, follows_meet}
use Rattle.parity_laws.specs.Coming.{walked_back, both_ways_of, with_line, Strung, LineComes, FaceComes}
use Rattle.parity_laws.proofs.OnLine.{last_step, old_in, way_in}
use Rattle.parity_laws.proofs.LineCorners.{enters_way}
use Rattle.parity_laws.proofs.Lists.{in_cases}

-- ---- the steps

pub steps_added : (S : Drawing) (a b : NodeRow) (line : List Point) (f : ℕ) → steps_of (with_edge S a b line f) ≡ with_line (steps_of S) (segments_of line)
steps_added S a b line f =
    ap (flat_map steps_along) (flat_map-append both_ways S.edges (coming S a b line f ∷ []))
    ∙ flat_map-append steps_along (half_edges S) (forward_of (coming S a b line f) ∷ backward_of (coming S a b line f) ∷ [])
    ∙ ap (λ Z. steps_of S ++ (segments_of line ++ Z)) (append-nil (segments_of (reverse line)) ∙ segments-reverse line)

-- ---- the edge that comes along p, q and vs
abbrev pub first_of : Point → Point → Segment
first_of p q = record { a = p; b = q }

abbrev pub rest_of : Point → List Point → List Segment
rest_of q vs = segments_of (q ∷ vs)

abbrev pub last_of : Point → Point → List Point → Segment
last_of p q vs = last_step (first_of p q) (rest_of q vs)

abbrev pub added : Drawing → NodeRow → NodeRow → Point → Point → List Point → ℕ → Drawing
added S a b p q vs f = with_edge S a b (p ∷ q ∷ vs) f

abbrev pub edge_of : Drawing → NodeRow → NodeRow → Point → Point → List Point → ℕ → Edge
edge_of S a b p q vs f = coming S a b (p ∷ q ∷ vs) f

-- the drawings before and after; where a node is isolated the line lies in its containing face
pub record Adds (S : Drawing) (a b : NodeRow) (p q : Point) (vs : List Point) (f : ℕ) : Type 0 where
  pub before : IsCovered S
  pub after : IsRinged (added S a b p q vs f)
  pub node : Contains S.nodes a
  pub begins : p ≡ a.geom
  pub face : (c : ℕ) → a.containing_face ≡ Some c → c ≡ f

pub lines_before : (S : Drawing) (a b : NodeRow) (p q : Point) (vs : List Point) (f : ℕ) → Adds S a b p q vs f → HasPlainLines S
lines_before S a b p q vs f h = has_plain_lines S h.before.ringed.rings

pub lines_after : (S : Drawing) (a b : NodeRow) (p q : Point) (vs : List Point) (f : ℕ) → Adds S a b p q vs f → HasPlainLines (added S a b p q vs f)
lines_after S a b p q vs f h = has_plain_lines (added S a b p q vs f) h.after.rings

pub drawn_of : (S : Drawing) → HasPlainLines S → Drawn (steps_of S)
drawn_of S good = record { plain = steps_plain S good; once = steps_once S good }

-- its half-edges
pub forward_in : (S : Drawing) (a b : NodeRow) (line : List Point) (f : ℕ) → Contains (half_edges (with_edge S a b line f)) (forward_of (coming S a b line f))
forward_in S a b line f = forward_there (S.edges ++ coming S a b line f ∷ []) (coming S a b line f) (Contains-push S.edges (coming S a b line f))

pub backward_in : (S : Drawing) (a b : NodeRow) (line : List Point) (f : ℕ) → Contains (half_edges (with_edge S a b line f)) (backward_of (coming S a b line f))
backward_in S a b line f = backward_there (S.edges ++ coming S a b line f ∷ []) (coming S a b line f) (Contains-push S.edges (coming S a b line f))

-- and those it had
pub half_stays : (S : Drawing) (a b : NodeRow) (line : List Point) (f : ℕ) (h : HalfEdge) → Contains (half_edges S) h → Contains (half_edges (with_edge S a b line f)) h
half_stays S a b line f h c =
    let r = half_of S.edges h c in
    let there = Contains-append_left S.edges (coming S a b line f ∷ []) r.edge r.there in
    ⊎_elim
    (λ (k : forward_of r.edge ≡ h). subst (Contains (half_edges (with_edge S a b line f))) k (forward_there (S.edges ++ coming S a b line f ∷ []) r.edge there))
    (λ (k : backward_of r.edge ≡ h). subst (Contains (half_edges (with_edge S a b line f))) k (backward_there (S.edges ++ coming S a b line f ∷ []) r.edge there))
    r.way

-- ---- the line comes
-- t follows s, and no other step begins between them
abbrev pub MeetAlone : List Segment → Segment → Segment → Type 0
MeetAlone T s t = (t.a ≡ s.b) × ((r : Segment) → In r T → r.a ≡ s.b → (r ≡ t) ⊎ (r ≡ back s))

pub strung_by : (T : List Segment) (d : Segment) (X : List Segment) → ((k : ℕ) (s t : Segment) → slice_get (d ∷ X) k ≡ Some s → slice_get (d ∷ X) (suc k) ≡ Some t → MeetAlone T s t) → Strung T d X (last_step d X)
strung_by T d [] each = refl
strung_by T d (n ∷ X) each = let h = each 0 d n refl refl in (h.0, h.1, strung_by T n X (λ k s t e f. each (suc k) s t e f))

-- of plain lines, whatever the faces are
pub plain_line_comes : (S : Drawing) (a b : NodeRow) (p q : Point) (vs : List Point) (f : ℕ) → HasPlainLines S → HasPlainLines (added S a b p q vs f) → LineComes (steps_of S) (first_of p q) (rest_of q vs) (last_of p q vs)
plain_line_comes S a b p q vs f before good = record {
  old = drawn_of S before;
  new = subst Drawn (steps_added S a b (p ∷ q ∷ vs) f) (drawn_of (added S a b p q vs f) good);
  strung = strung_by (with_line (steps_of S) (segments_of (p ∷ q ∷ vs))) (first_of p q) (rest_of q vs) meets;
}
  where
    meets : (k : ℕ) (s t : Segment) → slice_get (segments_of (p ∷ q ∷ vs)) k ≡ Some s → slice_get (segments_of (p ∷ q ∷ vs)) (suc k) ≡ Some t → MeetAlone (with_line (steps_of S) (segments_of (p ∷ q ∷ vs))) s t
    meets k s t e g =
        let two : Follows (p ∷ q ∷ vs) k s t = record { first = e; second = g } in
        let at : AtInner (added S a b p q vs f) (forward_of (edge_of S a b p q vs f)) k s t = record { good = good; there = forward_in S a b (p ∷ q ∷ vs) f; two = two } in (
          follows_meet (p ∷ q ∷ vs) k s t two,
          λ r i j.
              let m = half_with (added S a b p q vs f) r (subst (In r) (sym (steps_added S a b (p ∷ q ∷ vs) f)) i) in
              inner_starts (added S a b p q vs f) (forward_of (edge_of S a b p q vs f)) m.0 k s t r at m.1.0 m.1.1 j,
        )

pub line_comes : (S : Drawing) (a b : NodeRow) (p q : Point) (vs : List Point) (f : ℕ) → Adds S a b p q vs f → LineComes (steps_of S) (first_of p q) (rest_of q vs) (last_of p q vs)
line_comes S a b p q vs f h = plain_line_comes S a b p q vs f (lines_before S a b p q vs f h) (lines_after S a b p q vs f h)

-- ---- faces
pub old_face : (S : Drawing) (a b : NodeRow) (p q : Point) (vs : List Point) (f : ℕ) → Adds S a b p q vs f → (s : Segment) → In s (steps_of S) → face_of (added S a b p q vs f) s ≡ face_of S s
old_face S a b p q vs f h s i =
    let m = half_with S s i in
    left_is (added S a b p q vs f) m.0 s (lines_after S a b p q vs f h) (half_stays S a b (p ∷ q ∷ vs) f m.0 m.1.0) m.1.1
    ∙ sym (left_is S m.0 s (lines_before S a b p q vs f h) m.1.0 m.1.1)

pub line_face : (S : Drawing) (a b : NodeRow) (p q : Point) (vs : List Point) (f : ℕ) → Adds S a b p q vs f → (s : Segment) → In s (both_ways_of (segments_of (p ∷ q ∷ vs))) → face_of (added S a b p q vs f) s ≡ f
line_face S a b p q vs f h s i =
    ⊎_elim
    (λ (j : In s (segments_of (p ∷ q ∷ vs))). left_is (added S a b p q vs f) (forward_of (edge_of S a b p q vs f)) s (lines_after S a b p q vs f h) (forward_in S a b (p ∷ q ∷ vs) f) j)
    (λ (j : In s (walked_back (segments_of (p ∷ q ∷ vs)))).
    left_is (added S a b p q vs f) (backward_of (edge_of S a b p q vs f)) s (lines_after S a b p q vs f h) (backward_in S a b (p ∷ q ∷ vs) f) (subst (In s) (sym (segments-reverse (p ∷ q ∷ vs))) j))
    (in_cases s (segments_of (p ∷ q ∷ vs)) (walked_back (segments_of (p ∷ q ∷ vs))) i)

pub rings_after : (S : Drawing) (a b : NodeRow) (p q : Point) (vs : List Point) (f : ℕ) → Adds S a b p q vs f → (g : ℕ) → Ringwise (with_line (steps_of S) (segments_of (p ∷ q ∷ vs))) (of_face (face_of (added S a b p q vs f)) g)
rings_after S a b p q vs f h g =
    subst (λ T. Ringwise T (of_face (face_of (added S a b p q vs f)) g)) (steps_added S a b (p ∷ q ∷ vs) f) (face_ringwise (added S a b p q vs f) g h.after.rings)

-- old steps keep their faces, and those that lead to the line have the face in which it lies
pub face_comes : (S : Drawing) (a b : NodeRow) (p q : Point) (vs : List Point) (f : ℕ) → Adds S a b p q vs f →
    FaceComes (steps_of S) (first_of p q) (rest_of q vs) (last_of p q vs) (face_of S) (face_of (added S a b p q vs f)) f
face_comes S a b p q vs f h = record {
  rings = λ g. face_ringwise S g h.before.ringed.rings;
  same = old_face S a b p q vs f h;
  line = line_face S a b p q vs f h;
  entry = λ d i enters.
      let n = enters_way (steps_of S) (first_of p q) (rest_of q vs) (last_of p q vs) (line_comes S a b p q vs f h) d enters in
      sym (old_face S a b p q vs f h d i)
      ∙ eqb-true (face_of (added S a b p q vs f) d) f
      (rings_after S a b p q vs f h f d n.0 (old_in (steps_of S) (segments_of (p ∷ q ∷ vs)) d i) (way_in (steps_of S) (segments_of (p ∷ q ∷ vs)) n.0 n.1.0) n.1.1
      ∙ eq-eqb (face_of (added S a b p q vs f) n.0) f (line_face S a b p q vs f h n.0 n.1.0));
}
