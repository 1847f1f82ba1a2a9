-- The rings of a plain drawing, whatever faces are on its sides: they are those of the drawing with one face.
use Rattle.std.proofs.Common.{◌≡◌, ◌∙◌, ℕ, zero, suc, Bool, true, false, cond, not, ◌&&◌, IsTrue, List, [], ◌∷◌, ◌++◌, ◌≤◌, length, map, refl, sym, ap, subst, ⊎_elim, le-leb}
use Rattle.std.specs.Prelude.{Contains, flat_map, ◌==◌, nat_le}
use Rattle.std.specs.List.{list_all}
use Rattle.std.proofs.lemmas.Bool.{eq-eqb, leb-true}
use Rattle.std.proofs.lemmas.List.Elements.{All-contains}
use Rattle.std.proofs.lemmas.List.{length-map}
use Rattle.topo_base.specs.Point.{Point}
use Rattle.topo_base.specs.declared.ids.Dart.{Dart}
use Rattle.plane.specs.Line.{segments_of}
use Rattle.plane.specs.ClosedWalk.{closed_segments}
use Rattle.drawing.specs.Drawing.{Drawing, Edge, edge_id_of}
use Rattle.drawing.specs.HalfEdge.{HalfEdge, forward_of, backward_of, both_ways, half_edges, same_half_edge, dart_of}
use Rattle.drawing.specs.PlainInOrder.{IsPlainInOrder}
use Rattle.drawing.specs.Ring.{walk, ring_of, ring_segments}
use Rattle.drawing.specs.Star.{next_of}
use Rattle.drawing.specs.Subdivision.{begins_ring, ascend_between}
use Rattle.drawing.specs.Vertices.{have_segments}
use Rattle.drawing.proofs.Members.{contains-map, contains-mapped}
use Rattle.drawing.proofs.PlainChanges.{sides_changed}
use Rattle.drawing.proofs.PlainParts.{parts_of, plain_of}
use Rattle.drawing.proofs.Members.{ids_differ}
use Rattle.drawing.specs.Drawing.{node_id_of}
use Rattle.plane.proofs.ListTests.{Decides-all}
use Rattle.plane.proofs.LineTests.{all_from}
use Rattle.face_rings.specs.Border.{are_linked, darts_ascend, darts_of, dart_before, next_dart}
use Rattle.face_rings.specs.FaceBorder.{beside, border_dart, face_border, HasRings}
use Rattle.face_rings.specs.Rings.{ring_of as ring_of_dart, begins_ring as dart_begins}
use Rattle.face_rings.specs.declared.content.BorderDart.{BorderDart}
use Rattle.face_rings.proofs.FaceBorders.{border_ascends, border_linked, half_by_dart, ring_is}
use Rattle.face_rings.proofs.HalfLines.{HasPlainLines}
use Rattle.face_rings.proofs.HalvesApart.{half_of}
use Rattle.face_rings.proofs.NextApart.{next_there}
use Rattle.face_parts.specs.Paths.{without_last}
use Rattle.face_parts.proofs.RingPaths.{RingPath, ring_path_is, points_of}
use Rattle.ring_laws.proofs.Faceless.{faceless, next_faceless}
use Rattle.ring_laws.proofs.RingParts.{next_half}

-- ---- the drawing with face 0 on all sides
abbrev bare_edge : Edge → Edge
bare_edge e = record e { left_face = 0; right_face = 0 }

abbrev bare : Drawing → Drawing
bare S = record S { edges = map bare_edge S.edges }

bare_halves : (edges : List Edge) → flat_map both_ways (map bare_edge edges) ≡ map faceless (flat_map both_ways edges)
bare_halves [] = refl
bare_halves (e ∷ edges) = ap (λ (hs : List HalfEdge). faceless (forward_of e) ∷ faceless (backward_of e) ∷ hs) (bare_halves edges)

bare_ids : (edges : List Edge) → map edge_id_of (map bare_edge edges) ≡ map edge_id_of edges
bare_ids [] = refl
bare_ids (e ∷ edges) = ap (λ ns. e.edge_id ∷ ns) (bare_ids edges)

bare_long : (edges : List Edge) → have_segments (map bare_edge edges) ≡ have_segments edges
bare_long [] = refl
bare_long (e ∷ edges) = ap (λ b. nat_le 2 (length e.geom) && b) (bare_long edges)

-- a plain drawing whose lines have two vertices or more
pub record IsLongPlain (S : Drawing) : Type 0 where
  pub plain : IsPlainInOrder S
  pub long : IsTrue (have_segments S.edges)

bare_plain : (S : Drawing) → IsLongPlain S → IsLongPlain (bare S)
bare_plain S p = record {
  plain = record {
    plain = plain_of (bare S) (sides_changed (λ e. 0) (λ e. 0) S.nodes S.edges (parts_of S p.plain.plain));
    node_ids = p.plain.node_ids;
    edge_ids = ap (ascend_between 0 S.next_ids.edge) (bare_ids S.edges) ∙ p.plain.edge_ids;
  };
  long = bare_long S.edges ∙ p.long;
}

pub plain_lines : (S : Drawing) → IsLongPlain S → HasPlainLines S
plain_lines S p = record {
  plain = parts_of S p.plain.plain;
  node_ids = ids_differ node_id_of 0 S.next_ids.node S.nodes (record { test = p.plain.node_ids });
  edge_ids = record { test = p.plain.edge_ids };
  long = λ e c.
      let test = λ (x : Edge). nat_le 2 (length x.geom) in
      leb-true 2 (length e.geom) (All-contains (λ (x : Edge). test x ≡ true) S.edges e ((Decides-all test (λ x. test x ≡ true) (λ x. (λ t. t, λ t. t)) S.edges).0 p.long) c);
}

pub long_lines : (S : Drawing) → HasPlainLines S → IsTrue (have_segments S.edges)
long_lines S good =
    let test = λ (x : Edge). nat_le 2 (length x.geom) in
    (Decides-all test (λ x. test x ≡ true) (λ x. (λ t. t, λ t. t)) S.edges).1 (all_from (λ (x : Edge). test x ≡ true) S.edges (λ x c. le-leb 2 (length x.geom) (good.long x c)))

bare_side : (S : Drawing) (h : HalfEdge) → Contains (half_edges (bare S)) h → h.on_left ≡ 0
bare_side S h c =
    let r = half_of (map bare_edge S.edges) h c in
    let (e, (ce, is)) = contains-mapped bare_edge r.edge S.edges r.there in
    ⊎_elim
    (λ (p : forward_of r.edge ≡ h). ap (λ (x : HalfEdge). x.on_left) (sym p) ∙ ap (λ (x : Edge). x.left_face) (sym is))
    (λ (p : backward_of r.edge ≡ h). ap (λ (x : HalfEdge). x.on_left) (sym p) ∙ ap (λ (x : Edge). x.right_face) (sym is))
    r.way

pub bare_rings : (S : Drawing) → IsLongPlain S → HasRings (bare S)
bare_rings S p =
    let q = bare_plain S p in
    let B = bare S in
    let hs = half_edges B in
    let good = plain_lines B q in
    let test = λ (h : HalfEdge). h.on_left == (next_of hs h).on_left in
    record {
      plain = q.plain;
      lines = q.long;
      one_face = (Decides-all test (λ h. test h ≡ true) (λ h. (λ t. t, λ t. t)) hs).1
          (all_from (λ (h : HalfEdge). test h ≡ true) hs (λ h c. eq-eqb h.on_left (next_of hs h).on_left (bare_side S h c ∙ sym (bare_side S (next_of hs h) (next_there B h good c)))));
    }

-- ---- its half-edges are those of the drawing without their faces
in_bare : (S : Drawing) (h : HalfEdge) → Contains (half_edges S) h → Contains (half_edges (bare S)) (faceless h)
in_bare S h c = subst (λ (ks : List HalfEdge). Contains ks (faceless h)) (sym (bare_halves S.edges)) (contains-map faceless h (half_edges S) c)

bare_next : (S : Drawing) (h : HalfEdge) → IsLongPlain S → Contains (half_edges S) h → next_of (half_edges (bare S)) (faceless h) ≡ faceless (next_of (half_edges S) h)
bare_next S h p c =
    let B = bare S in
    let good = plain_lines B (bare_plain S p) in
    half_by_dart B (next_of (half_edges B) (faceless h)) (faceless (next_of (half_edges S) h)) good
    (next_there B (faceless h) good (in_bare S h c))
    (in_bare S (next_of (half_edges S) h) (next_there S h (plain_lines S p) c))
    (ap (λ (ks : List HalfEdge). dart_of (next_of ks (faceless h))) (bare_halves S.edges) ∙ next_faceless (half_edges S) h)

map_choice : {X Y : Type 0} (f : X → Y) (t : Bool) (xs ys : List X) → map f (cond t xs ys) ≡ cond t (map f xs) (map f ys)
map_choice f true xs ys = refl
map_choice f false xs ys = refl

bare_walk : (S : Drawing) (first h : HalfEdge) (n : ℕ) → IsLongPlain S → Contains (half_edges S) h → walk (half_edges (bare S)) (faceless first) n (faceless h) ≡ map faceless (walk (half_edges S) first n h)
bare_walk S first h zero p c = refl
bare_walk S first h (suc n) p c =
    let hs = half_edges S in
    let ks = half_edges (bare S) in
    let on = next_of hs h in
    ap (λ (k : HalfEdge). cond (same_half_edge k (faceless first)) (faceless h ∷ []) (faceless h ∷ walk ks (faceless first) n k)) (bare_next S h p c)
    ∙ ap (λ (rest : List HalfEdge). cond (same_half_edge on first) (faceless h ∷ []) (faceless h ∷ rest)) (bare_walk S first on n p (next_there S h (plain_lines S p) c))
    ∙ sym (map_choice faceless (same_half_edge on first) (h ∷ []) (h ∷ walk hs first n on))

bare_ring : (S : Drawing) (h : HalfEdge) → IsLongPlain S → Contains (half_edges S) h → ring_of (half_edges (bare S)) (faceless h) ≡ map faceless (ring_of (half_edges S) h)
bare_ring S h p c =
    ap (λ n. walk (half_edges (bare S)) (faceless h) n (faceless h)) (ap length (bare_halves S.edges) ∙ length-map (half_edges S) faceless)
    ∙ bare_walk S h h (length (half_edges S)) p c

-- ---- the border of all half-edges
abbrev pub all_border : List HalfEdge → List BorderDart
all_border hs = map (border_dart hs) hs

all_beside : (hs : List HalfEdge) → beside (map faceless hs) 0 ≡ map faceless hs
all_beside [] = refl
all_beside (h ∷ hs) = ap (λ ks. faceless h ∷ ks) (all_beside hs)

bare_darts : (hs ks : List HalfEdge) → map (border_dart (map faceless hs)) (map faceless ks) ≡ map (border_dart hs) ks
bare_darts hs [] = refl
bare_darts hs (k ∷ ks) = λ i. (record { dart = dart_of k; next = next_faceless hs k i }) ∷ bare_darts hs ks i

bare_border : (S : Drawing) → face_border (half_edges (bare S)) 0 ≡ all_border (half_edges S)
bare_border S =
    ap (λ (ks : List HalfEdge). face_border ks 0) (bare_halves S.edges)
    ∙ ap (map (border_dart (map faceless (half_edges S)))) (all_beside (half_edges S))
    ∙ bare_darts (half_edges S) (half_edges S)

pub all_ascend : (S : Drawing) → IsLongPlain S → darts_ascend (all_border (half_edges S)) ≡ true
all_ascend S p = subst (λ border. darts_ascend border ≡ true) (bare_border S) (border_ascends (bare S) 0 (bare_rings S p))

pub all_linked : (S : Drawing) → IsLongPlain S → are_linked (all_border (half_edges S)) ≡ true
all_linked S p = subst (λ border. are_linked border ≡ true) (bare_border S) (border_linked (bare S) 0 (bare_rings S p))

pub all_next : (S : Drawing) (h : HalfEdge) → IsLongPlain S → Contains (half_edges S) h → next_dart (all_border (half_edges S)) (dart_of h) ≡ dart_of (next_of (half_edges S) h)
all_next S h p c =
    subst (λ border. next_dart border (dart_of h) ≡ dart_of (next_of (half_edges (bare S)) (faceless h))) (bare_border S)
    (next_half (bare S) 0 (faceless h) (record { rings = bare_rings S p; there = in_bare S h c; left = refl }))
    ∙ ap dart_of (bare_next S h p c)

bare_name : (ks : List HalfEdge) → map dart_of (map faceless ks) ≡ map dart_of ks
bare_name [] = refl
bare_name (k ∷ ks) = ap (λ ds. dart_of k ∷ ds) (bare_name ks)

pub all_ring : (S : Drawing) (h : HalfEdge) → IsLongPlain S → Contains (half_edges S) h → ring_of_dart (all_border (half_edges S)) (dart_of h) ≡ map dart_of (ring_of (half_edges S) h)
all_ring S h p c =
    subst (λ border. ring_of_dart border (dart_of h) ≡ map dart_of (ring_of (half_edges (bare S)) (faceless h))) (bare_border S)
    (ring_is (bare S) 0 (faceless h) (bare_rings S p) (in_bare S h c) refl)
    ∙ ap (map dart_of) (bare_ring S h p c)
    ∙ bare_name (ring_of (half_edges S) h)

-- ---- all rings
names : (hs ks : List HalfEdge) → darts_of (map (border_dart hs) ks) ≡ map dart_of ks
names hs [] = refl
names hs (k ∷ ks) = ap (λ ds. dart_of k ∷ ds) (names hs ks)

all_named : (q : Dart → Bool) (ks : List HalfEdge) → list_all q (map dart_of ks) ≡ list_all (λ k. q (dart_of k)) ks
all_named q [] = refl
all_named q (k ∷ ks) = ap (λ t. q (dart_of k) && t) (all_named q ks)

pub begins_so : (S : Drawing) (h : HalfEdge) → IsLongPlain S → Contains (half_edges S) h → dart_begins (all_border (half_edges S)) (dart_of h) ≡ begins_ring (half_edges S) h
begins_so S h p c =
    ap (list_all (λ (d : Dart). not (dart_before d (dart_of h)))) (all_ring S h p c) ∙ all_named (λ (d : Dart). not (dart_before d (dart_of h))) (ring_of (half_edges S) h)

-- ---- the vertices along a ring
bare_points : (ks : List HalfEdge) → points_of (map faceless ks) ≡ points_of ks
bare_points [] = refl
bare_points (k ∷ ks) = ap (λ ps. without_last k.points ++ ps) (bare_points ks)

bare_segments : (ks : List HalfEdge) → ring_segments (map faceless ks) ≡ ring_segments ks
bare_segments [] = refl
bare_segments (k ∷ ks) = ap (λ ss. segments_of k.points ++ ss) (bare_segments ks)

pub all_paths : (S : Drawing) (h : HalfEdge) → IsLongPlain S → Contains (half_edges S) h → RingPath (ring_of (half_edges S) h)
all_paths S h p c =
    let ring = ring_of (half_edges S) h in
    let path = subst RingPath (bare_ring S h p c) (ring_path_is (bare S) (faceless h) (bare_rings S p) (in_bare S h c)) in
    record {
      segments = ap closed_segments (sym (bare_points ring)) ∙ path.segments ∙ bare_segments ring;
      long = subst (λ (ps : List Point). 2 ≤ length ps) (bare_points ring) path.long;
    }
