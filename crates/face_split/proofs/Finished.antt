-- What an edge that came makes of its face: the facts that the calls want.
use Rattle.std.proofs.Common.{◌≡◌, ℕ, Bool, true, false, not, ◌&&◌, ◌==◌, List, [], ◌∷◌, cond, refl, ap, ◌∙◌, ◌+◌, ◌<◌, ◌^◌, arith}
use Rattle.std.proofs.lemmas.Bool.{and_parts}
use Rattle.std.proofs.lemmas.List.Elements.{Contains-push}
use Rattle.topo_base.specs.Point.{Point}
use Rattle.topo_base.specs.declared.ids.Dart.{Dart}
use Rattle.topo_base.specs.declared.rows.NodeRow.{NodeRow}
use Rattle.drawing.specs.AddEdge.{coming}
use Rattle.drawing.specs.Drawing.{Drawing}
use Rattle.drawing.specs.HalfEdge.{forward_of}
use Rattle.drawing.specs.IsoEdits.{with_edge}
use Rattle.drawing.specs.Outcome.{Accepted, the_edge, the_face}
use Rattle.plane.specs.ClosedWalk.{closed_segments, is_hole_walk}
use Rattle.drawing.specs.Ring.{is_shell, ring_segments}
use Rattle.drawing.specs.Tables.{Tables, tables_of}
use Rattle.face_parts.specs.Paths.{IsRingOf}
use Rattle.face_rings.specs.declared.content.BorderDart.{BorderDart}
use Rattle.face_split.specs.Closing.{HasCut, HasRing, IsCut, IsRingOnLeft, WasAdded, in_one, in_parts, in_two, left_ring}
use Rattle.face_split.proofs.RingOfEdge.{forward_there}

-- ---- the ring on the left, in the tables
pub ring_in_tables : (S : Drawing) (a b : NodeRow) (line : List Point) (f : ℕ) (t : Tables) (border : List BorderDart) (ring : List Dart) → WasAdded S a b line f t → IsRingOnLeft S a b line f border ring
    → IsRingOf t.edges ring (with_edge S a b line f) (forward_of (coming S a b line f))
ring_in_tables S a b line f t border ring h left = record {
  edges = ap (λ (u : Tables). u.edges) h.rows;
  rings = h.ringed.rings;
  there = forward_there (with_edge S a b line f) (coming S a b line f) (Contains-push S.edges (coming S a b line f));
  darts = left.ring_is;
}

pub ring_at_hand : (S : Drawing) (a b : NodeRow) (line : List Point) (f : ℕ) (t u : Tables) (border : List BorderDart) (ring darts : List Dart) → WasAdded S a b line f t → IsRingOnLeft S a b line f border ring
    → u ≡ t → darts ≡ ring → IsRingOf u.edges darts (with_edge S a b line f) (forward_of (coming S a b line f))
ring_at_hand S a b line f t u border ring darts h left same same_darts =
    let is = ring_in_tables S a b line f t border ring h left in
    record { edges = ap (λ (v : Tables). v.edges) same ∙ is.edges; rings = is.rings; there = is.there; darts = same_darts ∙ is.darts }

pub cut_by : (S : Drawing) (a b : NodeRow) (line : List Point) (f : ℕ) (border : List BorderDart) (ring : List Dart) (path walk : List Point) → IsRingOnLeft S a b line f border ring
    → closed_segments path ≡ ring_segments (left_ring S a b line f) → walk ≡ path → IsCut S a b line f border walk
cut_by S a b line f border ring path walk left closes same = record { border_is = left.border_is; walk_is = ap closed_segments same ∙ closes }

pub has_cut : (t : Tables) (edge f : ℕ) (border : List BorderDart) (ring : List Dart) (path walk : List Point) → (h : HasRing t edge f border ring)
    → closed_segments path ≡ ring_segments (left_ring h.before h.start h.end h.line f) → walk ≡ path → HasCut t edge f border walk
has_cut t edge f border ring path walk h closes same = record {
  before = h.before;
  start = h.start;
  end = h.end;
  line = h.line;
  added = h.added;
  edge_is = h.edge_is;
  cut = cut_by h.before h.start h.end h.line f border ring path walk h.on_left closes same;
}

pub shell_is : (S : Drawing) (a b : NodeRow) (line : List Point) (f : ℕ) (path : List Point) (shell : Bool) → shell ≡ not (is_hole_walk (closed_segments path))
    → closed_segments path ≡ ring_segments (left_ring S a b line f) → shell ≡ is_shell (left_ring S a b line f)
shell_is S a b line f path shell is closes = is ∙ ap (λ segments. not (is_hole_walk segments)) closes

-- ---- which of the two is made
abbrev pub chosen : Bool → Drawing → NodeRow → NodeRow → List Point → ℕ → Accepted
chosen c S a b line f =
    cond c (record { drawing = in_two S a b line f; ids = the_edge S.next_ids.edge ∷ the_face S.next_ids.face ∷ the_face (S.next_ids.face + 1) ∷ [] })
    (record { drawing = in_one S a b line f; ids = the_edge S.next_ids.edge ∷ the_face S.next_ids.face ∷ [] })

pub in_parts_one : (S : Drawing) (a b : NodeRow) (line : List Point) (f : ℕ) (both : Bool) → (both && not (f == 0)) ≡ false → tables_of (in_one S a b line f) ≡ tables_of (in_parts both S a b line f).drawing
in_parts_one S a b line f both is = by (both && not (f == 0)) is
  where
    by : (c : Bool) → c ≡ false → tables_of (in_one S a b line f) ≡ tables_of (chosen c S a b line f).drawing
    by true e = absurd cc
    by false e = refl

pub in_parts_two : (S : Drawing) (a b : NodeRow) (line : List Point) (f : ℕ) (both : Bool) → (both && not (f == 0)) ≡ true → tables_of (in_two S a b line f) ≡ tables_of (in_parts both S a b line f).drawing
in_parts_two S a b line f both is = by (both && not (f == 0)) is
  where
    by : (c : Bool) → c ≡ true → tables_of (in_two S a b line f) ≡ tables_of (chosen c S a b line f).drawing
    by true e = refl
    by false e = absurd cc

pub one_ids : (S : Drawing) (a b : NodeRow) (line : List Point) (f edge new : ℕ) (t : Tables) (both : Bool) → (both && not (f == 0)) ≡ false → WasAdded S a b line f t → edge ≡ S.next_ids.edge → new ≡ t.next_ids.face
    → the_edge edge ∷ the_face new ∷ [] ≡ (in_parts both S a b line f).ids
one_ids S a b line f edge new t both is h edge_is new_is =
    let id = new_is ∙ ap (λ (u : Tables). u.next_ids.face) h.rows in (λ i. the_edge (edge_is i) ∷ the_face (id i) ∷ []) ∙ by (both && not (f == 0)) is
  where
    by : (c : Bool) → c ≡ false → the_edge S.next_ids.edge ∷ the_face S.next_ids.face ∷ [] ≡ (chosen c S a b line f).ids
    by true e = absurd cc
    by false e = refl

pub two_ids : (S : Drawing) (a b : NodeRow) (line : List Point) (f edge new : ℕ) (t : Tables) (both : Bool) → (both && not (f == 0)) ≡ true → WasAdded S a b line f t → edge ≡ S.next_ids.edge → new ≡ t.next_ids.face
    → the_edge edge ∷ the_face new ∷ the_face (new + 1) ∷ [] ≡ (in_parts both S a b line f).ids
two_ids S a b line f edge new t both is h edge_is new_is =
    let id = new_is ∙ ap (λ (u : Tables). u.next_ids.face) h.rows in (λ i. the_edge (edge_is i) ∷ the_face (id i) ∷ the_face (id i + 1) ∷ []) ∙ by (both && not (f == 0)) is
  where
    by : (c : Bool) → c ≡ true → the_edge S.next_ids.edge ∷ the_face S.next_ids.face ∷ the_face (S.next_ids.face + 1) ∷ [] ≡ (chosen c S a b line f).ids
    by true e = refl
    by false e = absurd cc

pub some_face : (both : Bool) (f : ℕ) → (both && not (f == 0)) ≡ true → f == 0 ≡ false
some_face both f is = by (f == 0) (and_parts both (not (f == 0)) is).1
  where
    by : (b : Bool) → not b ≡ true → b ≡ false
    by true e = absurd cc
    by false e = refl

pub small_face : (S : Drawing) (a b : NodeRow) (line : List Point) (f new : ℕ) (t : Tables) → WasAdded S a b line f t → new ≡ t.next_ids.face → new + 1 < 2 ^ 32
small_face S a b line f new t h is =
    let id : new ≡ S.next_ids.face = is ∙ ap (λ (u : Tables). u.next_ids.face) h.rows in
    let more = h.ready.face_more in
    omega (arith, id, more)
