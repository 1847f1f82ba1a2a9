-- An edge that comes keeps a drawing one whose rings have one face each, and so does the division of its face.
use Rattle.std.proofs.Common.{◌≡◌, ◌≢◌, ℕ, ◌+◌, refl, sym, ap, subst, true, not, ◌==◌, List, [], ◌∷◌, ◌++◌, filter}
use Rattle.std.specs.List.{Contains}
use Rattle.std.proofs.lemmas.List.Elements.{Contains-push}
use Rattle.topo_base.specs.Point.{Point}
use Rattle.topo_base.specs.declared.rows.NodeRow.{NodeRow}
use Rattle.plane.specs.Direction.{first_direction}
use Rattle.drawing.specs.Accepted.{is_line_short}
use Rattle.drawing.specs.AddEdge.{Division, coming, divided, one_new, two_new}
use Rattle.drawing.specs.Drawing.{Drawing, Edge, has_face}
use Rattle.drawing.specs.HalfEdge.{forward_of, backward_of}
use Rattle.drawing.specs.IsoEdits.{with_edge}
use Rattle.edit_changes.specs.Evidence.{EdgeMayCome, left_ring, right_ring}
use Rattle.edit_changes.proofs.PlainStays.{edge_plain}
use Rattle.edit_changes.proofs.PlainStaying.{has_plain, ordered_of}
use Rattle.edit_changes.proofs.VerticesStay.{edge_long}
use Rattle.face_rings.proofs.HalfLines.{HasPlainLines}
use Rattle.ring_laws.specs.Ringed.{LiesIn}
use Rattle.ring_laws.specs.Parts.{IsDividedBy}
use Rattle.ring_laws.proofs.DividedSides.{division_by, divided_rings}
use Rattle.ring_laws.proofs.Known.{IsKnown, lone_of, wedge_listed}
use Rattle.ring_laws.proofs.KnownStays.{AreParts, edge_comes, face_divides, one_listed, two_listed}
use Rattle.ring_laws.proofs.RingedDrawings.{AreRinged, IsBefore, plain_lines, rings_from}
use Rattle.ring_laws.proofs.WithEdge.{comes_into, with_edge_rings}

-- ---- the drawing with the edge, before a face is divided
-- the face in which it lies is listed
lies_listed : (S : Drawing) (a b : NodeRow) (line : List Point) (f : ℕ) → IsKnown S → Contains S.nodes a → LiesIn S a b line f → has_face S f ≡ true
lies_listed S a b line f known ca lies = subst (λ g. has_face S g ≡ true) lies.0 (wedge_listed S a (first_direction line) known ca)

pub comes_listed : (S : Drawing) (a b : NodeRow) (line : List Point) (f : ℕ) → EdgeMayCome S a b line f → IsKnown S → has_face S f ≡ true
comes_listed S a b line f k known = lies_listed S a b line f known k.start_there (k.starts_in, k.ends_in)

pub edge_ringed : (S : Drawing) (a b : NodeRow) (line : List Point) (f : ℕ) → IsBefore S → Contains S.nodes a → Contains S.nodes b → LiesIn S a b line f → HasPlainLines (with_edge S a b line f) → AreRinged (with_edge S a b line f)
edge_ringed S a b line f h ca cb lies more =
    let known = h.ringed.known in
    record {
      one_face = with_edge_rings S a b line f (record {
        lines = h.lines;
        more = more;
        one_face = h.ringed.one_face;
        at_start = comes_into S a (forward_of (coming S a b line f)) f refl (lone_of S a known ca) lies.0;
        at_end = comes_into S b (backward_of (coming S a b line f)) f refl (lone_of S b known cb) lies.1;
      });
      known = edge_comes S a b line f known (lies_listed S a b line f known ca lies);
    }

pub edge_came : (S : Drawing) (a b : NodeRow) (line : List Point) (f : ℕ) → EdgeMayCome S a b line f → IsBefore S → HasPlainLines (with_edge S a b line f) → AreRinged (with_edge S a b line f)
edge_came S a b line f k h more = edge_ringed S a b line f h k.start_there k.end_there (k.starts_in, k.ends_in) more

-- ---- the face is divided
before_division : (S : Drawing) (a b : NodeRow) (line : List Point) (f : ℕ) → EdgeMayCome S a b line f → is_line_short line ≡ true → IsBefore S → IsBefore (with_edge S a b line f)
before_division S a b line f k short h =
    let T = with_edge S a b line f in
    let plain = edge_plain S a b line f k (has_plain S h.ordered) in
    let lines = plain_lines T plain (edge_long S a b line f short (record { each = h.lines.long })).each in
    record { ordered = ordered_of T plain; lines = lines; ringed = edge_came S a b line f k h lines }

-- with one new part, and with two
pub one_division : (S : Drawing) (a b : NodeRow) (line : List Point) (d : Division) → EdgeMayCome S a b line d.face → d ≡ one_new (with_edge S a b line d.face) d.face (left_ring S a b line d.face) (right_ring S a b line d.face) → IsKnown S
    → AreParts (with_edge S a b line d.face) d (S.faces ++ S.next_ids.face ∷ [])
one_division S a b line d k is known =
    let T = with_edge S a b line d.face in
    subst (λ x. AreParts T x (S.faces ++ S.next_ids.face ∷ [])) (sym is) (one_listed T d.face (left_ring S a b line d.face) (right_ring S a b line d.face) known.universe (comes_listed S a b line d.face k known))

pub two_division : (S : Drawing) (a b : NodeRow) (line : List Point) (d : Division) → d.face ≢ 0 → d ≡ two_new (with_edge S a b line d.face) d.face (left_ring S a b line d.face) (right_ring S a b line d.face) → IsKnown S
    → AreParts (with_edge S a b line d.face) d (filter (λ g. not (g == d.face)) S.faces ++ S.next_ids.face ∷ (S.next_ids.face + 1) ∷ [])
two_division S a b line d some is known =
    let T = with_edge S a b line d.face in
    subst (λ x. AreParts T x (filter (λ g. not (g == d.face)) S.faces ++ S.next_ids.face ∷ (S.next_ids.face + 1) ∷ [])) (sym is) (two_listed T d.face (left_ring S a b line d.face) (right_ring S a b line d.face) known.universe some)

division : (S : Drawing) (a b : NodeRow) (line : List Point) (d : Division) → d.left_ring ≡ left_ring S a b line d.face → d.right_ring ≡ right_ring S a b line d.face → IsDividedBy (with_edge S a b line d.face) (coming S a b line d.face) d
division S a b line d left right = record { there = Contains-push S.edges (coming S a b line d.face); left = refl; right = refl; left_ring = left; right_ring = right }

parts_made : (T : Drawing) (e : Edge) (d : Division) (faces : List ℕ) (new : ℕ) → IsBefore T → IsDividedBy T e d → AreParts T d faces → HasPlainLines (divided T d faces new) → AreRinged (divided T d faces new)
parts_made T e d faces new h by listed more = record { one_face = divided_rings T d faces new (division_by T e d (rings_from T h) by) more; known = face_divides T d faces new listed h.ringed.known }

pub face_divided : (S : Drawing) (a b : NodeRow) (line : List Point) (d : Division) → EdgeMayCome S a b line d.face → d ≡ one_new (with_edge S a b line d.face) d.face (left_ring S a b line d.face) (right_ring S a b line d.face) → is_line_short line ≡ true → IsBefore S
    → HasPlainLines (divided (with_edge S a b line d.face) d (S.faces ++ S.next_ids.face ∷ []) 1) → AreRinged (divided (with_edge S a b line d.face) d (S.faces ++ S.next_ids.face ∷ []) 1)
face_divided S a b line d k is short h more =
    let T = with_edge S a b line d.face in
    parts_made T (coming S a b line d.face) d _ 1 (before_division S a b line d.face k short h) (division S a b line d (ap (λ (x : Division). x.left_ring) is) (ap (λ (x : Division). x.right_ring) is))
    (one_division S a b line d k is h.ringed.known) more

pub face_divided_anew : (S : Drawing) (a b : NodeRow) (line : List Point) (d : Division) → EdgeMayCome S a b line d.face → d.face ≢ 0 → d ≡ two_new (with_edge S a b line d.face) d.face (left_ring S a b line d.face) (right_ring S a b line d.face) → is_line_short line ≡ true → IsBefore S
    → HasPlainLines (divided (with_edge S a b line d.face) d (filter (λ g. not (g == d.face)) S.faces ++ S.next_ids.face ∷ (S.next_ids.face + 1) ∷ []) 2)
    → AreRinged (divided (with_edge S a b line d.face) d (filter (λ g. not (g == d.face)) S.faces ++ S.next_ids.face ∷ (S.next_ids.face + 1) ∷ []) 2)
face_divided_anew S a b line d k some is short h more =
    let T = with_edge S a b line d.face in
    parts_made T (coming S a b line d.face) d _ 2 (before_division S a b line d.face k short h) (division S a b line d (ap (λ (x : Division). x.left_ring) is) (ap (λ (x : Division). x.right_ring) is))
    (two_division S a b line d some is h.ringed.known) more
