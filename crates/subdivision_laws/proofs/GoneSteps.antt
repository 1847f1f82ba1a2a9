-- The steps of a drawing without an edge: its line goes from those it had, and faces are renamed.
use Rattle.std.proofs.Common.{◌≡◌, ◌≢◌, ℕ, suc, refl, sym, ◌∙◌, ap, subst, ◌⊎◌, inl, inr, ⊎_elim, Bool, true, false, not, cond, ◌==◌, List, [], ◌∷◌, ◌++◌, map, slice_get, Some, IsTrue}
use Rattle.std.specs.Prelude.{flat_map, reverse}
use Rattle.std.specs.List.{Contains}
use Rattle.std.proofs.lemmas.Bool.{eqb-true, eq-eqb}
use Rattle.std.proofs.lemmas.Grind.{flat_map-append}
use Rattle.std.proofs.lemmas.List.{append_assoc}
use Rattle.drawing.specs.Drawing.{Drawing, Edge, edge_id_of, has_face}
use Rattle.drawing.specs.HalfEdge.{HalfEdge, forward_of, backward_of, both_ways}
use Rattle.plane.specs.Line.{segments_of}
use Rattle.drawing.specs.Rows.{without_row}
use Rattle.plane.specs.Segment.{Segment}
use Rattle.plane.specs.Crossings.{back}
use Rattle.plane.proofs.ListTests.{contains_cases, contains_none, contains_here, contains_there}
use Rattle.drawing.proofs.Members.{Pairwise, contains-mapped, ids_differ}
use Rattle.face_rings.proofs.FaceBorders.{has_plain_lines}
use Rattle.face_rings.proofs.HalfLines.{HasPlainLines}
use Rattle.face_rings.proofs.HalvesApart.{forward_there, backward_there, half_of}
use Rattle.ring_laws.specs.Ringed.{IsRinged}
use Rattle.ring_laws.proofs.WithoutEdge.{was_edge}
use Rattle.parity_laws.specs.Rings.{In, Drawn}
use Rattle.parity_laws.specs.Coming.{walked_back, both_ways_of, Strung}
use Rattle.parity_laws.proofs.OnLine.{last_step}
use Rattle.parity_laws.proofs.LineGoes.{LineGoes, FacesAreRight}
use Rattle.parity_laws.proofs.LineTaken.{line_taken}
use Rattle.face_laws.specs.Walked.{steps_along, steps_of}
use Rattle.face_laws.specs.Covered.{face_of, IsCovered}
use Rattle.face_laws.proofs.FaceOnLeft.{left_is, right_is}
use Rattle.face_laws.proofs.InnerTurns.{AtInner, inner_starts}
use Rattle.face_laws.proofs.PlainSteps.{half_with}
use Rattle.face_laws.proofs.RingLabels.{face_ringwise}
use Rattle.face_laws.proofs.Vertices.{Follows, follows_meet}
use Rattle.subdivision_laws.proofs.AddedSteps.{drawn_of, MeetAlone, strung_by}
use Rattle.face_laws.proofs.LineSteps.{segments-reverse}

-- ---- a row in the middle of a list
pub record Between (edges : List Edge) (e : Edge) : Type 0 where
  pub front : List Edge
  pub behind : List Edge
  pub all : edges ≡ front ++ e ∷ behind
  pub others : without_row edge_id_of edges e.edge_id ≡ front ++ behind

abbrev IdsDiffer : Edge → Edge → Type 0
IdsDiffer d e = edge_id_of d ≢ edge_id_of e

-- no row with another id goes
none_goes : (edges : List Edge) (n : ℕ) → ((x : Edge) → Contains edges x → edge_id_of x ≢ n) → without_row edge_id_of edges n ≡ edges
none_goes [] n other = refl
none_goes (x ∷ edges) n other = by_test (x.edge_id == n) refl (none_goes edges n (λ y c. other y (contains_there y x edges c)))
  where
    by_test : (b : Bool) → (x.edge_id == n) ≡ b → without_row edge_id_of edges n ≡ edges → cond (not b) (x ∷ without_row edge_id_of edges n) (without_row edge_id_of edges n) ≡ x ∷ edges
    by_test true t rest = absurd (other x (contains_here x edges) (eqb-true x.edge_id n t))
    by_test false t rest = ap (λ (es : List Edge). x ∷ es) rest

between : (edges : List Edge) (e : Edge) → Contains edges e → Pairwise IdsDiffer edges → Between edges e
between [] e c differ = absurd (contains_none e c)
between (x ∷ edges) e c differ =
    ⊎_elim
    (λ (p : x ≡ e). at_front p)
    (λ (d : Contains edges e). later d (between edges e d differ.1))
    (contains_cases e x edges c)
  where
    at_front : x ≡ e → Between (x ∷ edges) e
    at_front p = record {
      front = [];
      behind = edges;
      all = ap (λ (y : Edge). y ∷ edges) p;
      others =
          ap (λ b. cond (not b) (x ∷ without_row edge_id_of edges e.edge_id) (without_row edge_id_of edges e.edge_id)) (eq-eqb x.edge_id e.edge_id (ap (λ (y : Edge). y.edge_id) p))
          ∙ none_goes edges e.edge_id (λ y d q. differ.0 y d (ap (λ (z : Edge). z.edge_id) p ∙ sym q));
    }

    later : Contains edges e → Between edges e → Between (x ∷ edges) e
    later d b = record {
      front = x ∷ b.front;
      behind = b.behind;
      all = ap (λ (es : List Edge). x ∷ es) b.all;
      others = by_test (x.edge_id == e.edge_id) refl;
    }
      where
        by_test : (t : Bool) → (x.edge_id == e.edge_id) ≡ t → cond (not t) (x ∷ without_row edge_id_of edges e.edge_id) (without_row edge_id_of edges e.edge_id) ≡ x ∷ (b.front ++ b.behind)
        by_test true t = absurd (differ.0 e d (eqb-true x.edge_id e.edge_id t))
        by_test false t = ap (λ (es : List Edge). x ∷ es) b.others

-- ---- the steps of edges
abbrev steps_in : List Edge → List Segment
steps_in edges = flat_map steps_along (flat_map both_ways edges)

-- other sides of the same lines
abbrev pub with_sides : (ℕ → ℕ) → Edge → Edge
with_sides name e = record e { left_face = name e.left_face; right_face = name e.right_face }

same_steps : (name : ℕ → ℕ) (edges : List Edge) → steps_in (map (with_sides name) edges) ≡ steps_in edges
same_steps name [] = refl
same_steps name (e ∷ edges) = ap (λ Z. segments_of e.geom ++ (segments_of (reverse e.geom) ++ Z)) (same_steps name edges)

steps_append : (X Y : List Edge) → steps_in (X ++ Y) ≡ steps_in X ++ steps_in Y
steps_append X Y =
    ap (flat_map steps_along) (flat_map-append both_ways X Y)
    ∙ flat_map-append steps_along (flat_map both_ways X) (flat_map both_ways Y)

steps_first : (e : Edge) (Y : List Edge) → steps_in (e ∷ Y) ≡ both_ways_of (segments_of e.geom) ++ steps_in Y
steps_first e Y = ap (λ Z. segments_of e.geom ++ (Z ++ steps_in Y)) (segments-reverse e.geom) ∙ sym (append_assoc (segments_of e.geom) (walked_back (segments_of e.geom)) (steps_in Y))

-- ---- the drawings before and after
-- T is S without the edge e, whose line goes from first through rest, and T's faces are those of S by their new names
pub record Takes (S T : Drawing) (e : Edge) (first : Segment) (rest : List Segment) (name : ℕ → ℕ) : Type 0 where
  pub before : IsCovered S
  pub after : IsRinged T
  pub there : Contains S.edges e
  pub line : segments_of e.geom ≡ first ∷ rest
  pub edges : T.edges ≡ map (with_sides name) (without_row edge_id_of S.edges e.edge_id)

pub lines_before : (S : Drawing) → IsCovered S → HasPlainLines S
lines_before S c = has_plain_lines S c.ringed.rings

pub lines_after : (T : Drawing) → IsRinged T → HasPlainLines T
lines_after T r = has_plain_lines T r.rings

-- ---- the line goes
strung_line : (S T : Drawing) (e : Edge) (first : Segment) (rest : List Segment) (name : ℕ → ℕ) → Takes S T e first rest name → Strung (steps_of S) first rest (last_step first rest)
strung_line S T e first rest name h = strung_by (steps_of S) first rest meets
  where
    good : HasPlainLines S
    good = lines_before S h.before

    meets : (k : ℕ) (s t : Segment) → slice_get (first ∷ rest) k ≡ Some s → slice_get (first ∷ rest) (suc k) ≡ Some t → MeetAlone (steps_of S) s t
    meets k s t f g =
        let two : Follows e.geom k s t = record { first = ap (λ L. slice_get L k) h.line ∙ f; second = ap (λ L. slice_get L (suc k)) h.line ∙ g } in
        let at : AtInner S (forward_of e) k s t = record { good = good; there = forward_there S.edges e h.there; two = two } in
        (follows_meet e.geom k s t two, λ r i j. let m = half_with S r i in inner_starts S (forward_of e) m.0 k s t r at m.1.0 m.1.1 j)

pub edge_goes : (S T : Drawing) (e : Edge) (first : Segment) (rest : List Segment) (name : ℕ → ℕ) → Takes S T e first rest name → LineGoes (steps_of S) (steps_of T) first rest (last_step first rest)
edge_goes S T e first rest name h = by_place (between S.edges e h.there (ids_differ edge_id_of 0 S.next_ids.edge S.edges (lines_before S h.before).edge_ids))
  where
    by_place : Between S.edges e → LineGoes (steps_of S) (steps_of T) first rest (last_step first rest)
    by_place b =
        subst (λ U. LineGoes U (steps_of T) first rest (last_step first rest)) (sym whole)
        (subst (λ V. LineGoes (steps_in b.front ++ (both_ways_of (first ∷ rest) ++ steps_in b.behind)) V first rest (last_step first rest)) (sym less)
        (line_taken (steps_in b.front) first rest (last_step first rest) (steps_in b.behind)
        (subst Drawn whole (drawn_of S (lines_before S h.before)))
        (subst (λ U. Strung U first rest (last_step first rest)) whole (strung_line S T e first rest name h))))
      where
        whole : steps_of S ≡ steps_in b.front ++ (both_ways_of (first ∷ rest) ++ steps_in b.behind)
        whole =
            ap steps_in b.all ∙ steps_append b.front (e ∷ b.behind)
            ∙ ap (λ Z. steps_in b.front ++ Z) (steps_first e b.behind ∙ ap (λ L. both_ways_of L ++ steps_in b.behind) h.line)

        less : steps_of T ≡ steps_in b.front ++ steps_in b.behind
        less =
            ap steps_in h.edges ∙ same_steps name (without_row edge_id_of S.edges e.edge_id)
            ∙ ap steps_in b.others ∙ steps_append b.front b.behind

-- ---- faces
-- the faces of S are right
pub faces_before : (S : Drawing) → IsCovered S → FacesAreRight (steps_of S) (face_of S) (λ g. IsTrue (has_face S g))
faces_before S c = record {
  rings = λ g. face_ringwise S g c.ringed.rings;
  sided = c.sided;
  shells = λ g n is. c.shells g is n;
  outer = c.outer;
}

in_first : (S T : Drawing) (e : Edge) (first : Segment) (rest : List Segment) (name : ℕ → ℕ) → Takes S T e first rest name → In first (segments_of e.geom)
in_first S T e first rest name h = subst (In first) (sym h.line) (inl refl)

-- those on the edge's sides
pub face_forth : (S T : Drawing) (e : Edge) (first : Segment) (rest : List Segment) (name : ℕ → ℕ) → Takes S T e first rest name → face_of S first ≡ e.left_face
face_forth S T e first rest name h = left_is S (forward_of e) first (lines_before S h.before) (forward_there S.edges e h.there) (in_first S T e first rest name h)

pub face_back : (S T : Drawing) (e : Edge) (first : Segment) (rest : List Segment) (name : ℕ → ℕ) → Takes S T e first rest name → face_of S (back first) ≡ e.right_face
face_back S T e first rest name h = right_is S (forward_of e) first (lines_before S h.before) (forward_there S.edges e h.there) (in_first S T e first rest name h)

-- those of the other steps
pub face_after : (S T : Drawing) (e : Edge) (first : Segment) (rest : List Segment) (name : ℕ → ℕ) → Takes S T e first rest name →
    (s : Segment) → In s (steps_of T) → (x : Edge) × (Contains S.edges x × (((face_of S s ≡ x.left_face) ⊎ (face_of S s ≡ x.right_face)) × (face_of T s ≡ name (face_of S s))))
face_after S T e first rest name h s i =
    let m = half_with T s i in
    let r = half_of T.edges m.0 m.1.0 in
    let (x, (c, is)) = contains-mapped (with_sides name) r.edge (without_row edge_id_of S.edges e.edge_id) (subst (λ es. Contains es r.edge) h.edges r.there) in
    let was = (was_edge S.edges e x c).0 in
    ⊎_elim
    (λ (p : forward_of r.edge ≡ m.0).
    let same : forward_of (with_sides name x) ≡ m.0 = ap forward_of is ∙ p in
    let face = left_is S (forward_of x) s (lines_before S h.before) (forward_there S.edges x was) (subst (λ (k : HalfEdge). In s (steps_along k)) (sym same) m.1.1) in
    (x, (was, (inl face, left_is T m.0 s (lines_after T h.after) m.1.0 m.1.1 ∙ ap (λ (k : HalfEdge). k.on_left) (sym same) ∙ ap name (sym face)))))
    (λ (p : backward_of r.edge ≡ m.0).
    let same : backward_of (with_sides name x) ≡ m.0 = ap backward_of is ∙ p in
    let face = left_is S (backward_of x) s (lines_before S h.before) (backward_there S.edges x was) (subst (λ (k : HalfEdge). In s (steps_along k)) (sym same) m.1.1) in
    (x, (was, (inr face, left_is T m.0 s (lines_after T h.after) m.1.0 m.1.1 ∙ ap (λ (k : HalfEdge). k.on_left) (sym same) ∙ ap name (sym face)))))
    r.way
