-- The drawing with an edge that comes, with the face in which it lies on both sides.
use Rattle.std.proofs.Common.{◌≡◌, ℕ, refl, sym, ◌∙◌, ap, subst, arith, ◌⊎◌, inl, inr, ⊎_elim, true, false, List, [], ◌∷◌, ◌++◌, filter, Option, None, unwrap_or, IsTrue}
use Rattle.std.specs.Prelude.{flat_map}
use Rattle.std.specs.List.{Contains}
use Rattle.std.proofs.lemmas.Bool.{false≢true, eqb-true, eq-eqb}
use Rattle.std.proofs.lemmas.List.Elements.{Contains-push_cases, Contains-push, Contains-append_left}
use Rattle.topo_base.specs.Point.{Point}
use Rattle.topo_base.specs.declared.rows.NodeRow.{NodeRow}
use Rattle.drawing.specs.AddEdge.{coming}
use Rattle.plane.specs.Direction.{Direction, is_nearer}
use Rattle.drawing.specs.Drawing.{Drawing, Edge, edge_id_of}
use Rattle.drawing.specs.Faces.{wedge_face, face_after}
use Rattle.drawing.specs.HalfEdge.{HalfEdge, forward_of, backward_of, both_ways, half_edges, leaves}
use Rattle.drawing.specs.IsoEdits.{with_edge}
use Rattle.drawing.specs.Star.{leaving, last_clockwise}
use Rattle.drawing.specs.Subdivision.{rings_have_one_face}
use Rattle.plane.proofs.Directions.{nearer_self}
use Rattle.plane.proofs.ListTests.{contains_here, contains_there, contains_cases, contains_none}
use Rattle.drawing.proofs.Members.{contains-filter, contains-filtered, ids_within}
use Rattle.face_rings.proofs.HalfLines.{HasPlainLines}
use Rattle.face_rings.proofs.HalvesApart.{half_of, forward_there, backward_there}
use Rattle.ring_laws.proofs.Turning.{FacesAgree, spread_of, spread_within, joined_same, joined_of, rings_of}
use Rattle.ring_laws.proofs.Inserting.{NoneLeaves, ComesInto, comes_after, IsFarthest, farthest_is, joined_more}

-- ---- the face of a line at a node
-- a node with a containing face has no edge
abbrev pub IsLoneIfContained : Drawing → NodeRow → Type 0
IsLoneIfContained S node = (node.containing_face ≡ None) ⊎ NoneLeaves (half_edges S) node.node_id

last_of : (r : Direction) (n : ℕ) (ks : List HalfEdge) (f : ℕ) → face_after (last_clockwise r ks) ≡ f
    → ((k : HalfEdge) → Contains ks k → ⊥) ⊎ ((h : HalfEdge) × ((hs : List HalfEdge) × ((m : HalfEdge) × ((ks ≡ h ∷ hs) × IsFarthest r h hs m × (m.on_right ≡ f)))))
last_of r n [] f e = inl (λ k c. contains_none k c)
last_of r n (h ∷ hs) f e = inr (h, (hs, (_, (refl, farthest_is r h hs, e))))

pub comes_into : (S : Drawing) (node : NodeRow) (x : HalfEdge) (f : ℕ) → x.from_node ≡ node.node_id → IsLoneIfContained S node → wedge_face S node (leaving x) ≡ f → ComesInto (half_edges S) x f
comes_into S node x f at lone is =
    ⊎_elim
    (λ (e : node.containing_face ≡ None). by_last (last_of (leaving x) node.node_id (filter (leaves node.node_id) (half_edges S)) f (sym (ap (λ (o : Option ℕ). unwrap_or o (face_after (last_clockwise (leaving x) (filter (leaves node.node_id) (half_edges S))))) e) ∙ is)))
    (λ (none : NoneLeaves (half_edges S) node.node_id). inl (λ k c from. none k c (from ∙ at)))
    lone
  where
    ks : List HalfEdge
    ks = filter (leaves node.node_id) (half_edges S)

    in_those : (k : HalfEdge) → Contains (half_edges S) k → k.from_node ≡ x.from_node → Contains (filter (leaves node.node_id) (half_edges S)) k
    in_those k c from = contains-filter (leaves node.node_id) k (half_edges S) c (eq-eqb k.from_node node.node_id (from ∙ at))

    by_last : ((k : HalfEdge) → Contains (filter (leaves node.node_id) (half_edges S)) k → ⊥) ⊎ ((h : HalfEdge) × ((hs : List HalfEdge) × ((m : HalfEdge) × ((filter (leaves node.node_id) (half_edges S) ≡ h ∷ hs) × IsFarthest (leaving x) h hs m × (m.on_right ≡ f))))) → ComesInto (half_edges S) x f
    by_last (inl none) = inl (λ k c from. none k (in_those k c from))
    by_last (inr (h, (hs, (m, (list, far, right))))) =
        let there = contains-filtered (leaves node.node_id) m (half_edges S) (subst (λ zs. Contains zs m) (sym list) far.there) in
        inr (
          m,
          (
            record {
              there = there.0;
              one_node = eqb-true m.from_node node.node_id there.1 ∙ sym at;
              last = λ k c from. ⊎_elim
                  (λ (p : h ≡ k). subst (λ (z : HalfEdge). is_nearer (leaving x) (leaving m) (leaving z) ≡ false) p (far.beyond (leaving h) (nearer_self (leaving x) (leaving h))))
                  (λ (d : Contains hs k). far.last k d)
                  (contains_cases k h hs (subst (λ zs. Contains zs k) list (in_those k c from)));
            },
            right,
          ),
        )

-- ---- the half-edges with those of the edge
pub in_pushed : (edges : List Edge) (e : Edge) (h : HalfEdge) → Contains (flat_map both_ways (edges ++ e ∷ [])) h → Contains (backward_of e ∷ forward_of e ∷ flat_map both_ways edges) h
in_pushed edges e h c =
    let r = half_of (edges ++ e ∷ []) h c in
    ⊎_elim
    (λ (d : Contains edges r.edge).
    let old : Contains (flat_map both_ways edges) h =
    ⊎_elim (λ (p : forward_of r.edge ≡ h). subst (Contains (flat_map both_ways edges)) p (forward_there edges r.edge d)) (λ (p : backward_of r.edge ≡ h). subst (Contains (flat_map both_ways edges)) p (backward_there edges r.edge d)) r.way in
    contains_there h (backward_of e) (forward_of e ∷ flat_map both_ways edges) (contains_there h (forward_of e) (flat_map both_ways edges) old))
    (λ (q : e ≡ r.edge).
    ⊎_elim
    (λ (p : forward_of r.edge ≡ h). subst (Contains (backward_of e ∷ forward_of e ∷ flat_map both_ways edges)) (ap forward_of q ∙ p) (contains_there (forward_of e) (backward_of e) (forward_of e ∷ flat_map both_ways edges) (contains_here (forward_of e) (flat_map both_ways edges))))
    (λ (p : backward_of r.edge ≡ h). subst (Contains (backward_of e ∷ forward_of e ∷ flat_map both_ways edges)) (ap backward_of q ∙ p) (contains_here (backward_of e) (forward_of e ∷ flat_map both_ways edges)))
    r.way)
    (Contains-push_cases edges e r.edge r.there)

pub from_pushed : (edges : List Edge) (e : Edge) (h : HalfEdge) → Contains (backward_of e ∷ forward_of e ∷ flat_map both_ways edges) h → Contains (flat_map both_ways (edges ++ e ∷ [])) h
from_pushed edges e h c =
    ⊎_elim
    (λ (p : backward_of e ≡ h). subst (Contains (flat_map both_ways (edges ++ e ∷ []))) p (backward_there (edges ++ e ∷ []) e (Contains-push edges e)))
    (λ (d : Contains (forward_of e ∷ flat_map both_ways edges) h).
    ⊎_elim
    (λ (p : forward_of e ≡ h). subst (Contains (flat_map both_ways (edges ++ e ∷ []))) p (forward_there (edges ++ e ∷ []) e (Contains-push edges e)))
    (λ (k : Contains (flat_map both_ways edges) h).
    let r = half_of edges h k in
    let there = Contains-append_left edges (e ∷ []) r.edge r.there in
    ⊎_elim (λ (p : forward_of r.edge ≡ h). subst (Contains (flat_map both_ways (edges ++ e ∷ []))) p (forward_there (edges ++ e ∷ []) r.edge there)) (λ (p : backward_of r.edge ≡ h). subst (Contains (flat_map both_ways (edges ++ e ∷ []))) p (backward_there (edges ++ e ∷ []) r.edge there)) r.way)
    (contains_cases h (forward_of e) (flat_map both_ways edges) d))
    (contains_cases h (backward_of e) (forward_of e ∷ flat_map both_ways edges) c)

-- the edge's own are no others
pub no_old : (S : Drawing) (h : HalfEdge) → HasPlainLines S → h.edge_id ≡ S.next_ids.edge → Contains (half_edges S) h → ⊥
no_old S h good id c =
    let r = half_of S.edges h c in
    let below = (ids_within edge_id_of 0 S.next_ids.edge S.edges r.edge good.edge_ids r.there).1 in
    let same : r.edge.edge_id ≡ h.edge_id = ⊎_elim (λ (p : forward_of r.edge ≡ h). ap (λ (x : HalfEdge). x.edge_id) p) (λ (p : backward_of r.edge ≡ h). ap (λ (x : HalfEdge). x.edge_id) p) r.way in
    omega arith

-- ---- the rings of the drawing with the edge have one face each
pub record IsAdded (S : Drawing) (a b : NodeRow) (line : List Point) (f : ℕ) : Type 0 where
  pub lines : HasPlainLines S
  pub more : HasPlainLines (with_edge S a b line f)
  pub one_face : IsTrue (rings_have_one_face S)
  pub at_start : ComesInto (half_edges S) (forward_of (coming S a b line f)) f
  pub at_end : ComesInto (half_edges S) (backward_of (coming S a b line f)) f

pub with_edge_joined : (S : Drawing) (a b : NodeRow) (line : List Point) (f : ℕ) → IsAdded S a b line f → FacesAgree (half_edges (with_edge S a b line f))
with_edge_joined S a b line f h =
    let e = coming S a b line f in
    let d = forward_of e in
    let g = backward_of e in
    let hs = half_edges S in
    let spread = spread_within (g ∷ d ∷ hs) (half_edges (with_edge S a b line f)) (from_pushed S.edges e) (spread_of (with_edge S a b line f) h.more) in
    let first = joined_more hs d f (record {
      spread = spread_within (d ∷ hs) (g ∷ d ∷ hs) (λ k c. contains_there k g (d ∷ hs) c) spread;
      fresh = no_old S d h.lines refl;
      left = refl;
      right = refl;
      into = h.at_start;
    }) (joined_of S h.lines h.one_face) in
    let both = joined_more (d ∷ hs) g f (record {
      spread = spread;
      fresh = λ c. ⊎_elim (λ (p : d ≡ g). false≢true (sym (ap (λ (x : HalfEdge). x.is_forward) p))) (λ (k : Contains hs g). no_old S g h.lines refl k) (contains_cases g d hs c);
      left = refl;
      right = refl;
      into = comes_after hs d g f refl h.at_end;
    }) first in
    joined_same (g ∷ d ∷ hs) (half_edges (with_edge S a b line f)) (from_pushed S.edges e) (in_pushed S.edges e) both

pub with_edge_rings : (S : Drawing) (a b : NodeRow) (line : List Point) (f : ℕ) → IsAdded S a b line f → rings_have_one_face (with_edge S a b line f) ≡ true
with_edge_rings S a b line f h = rings_of (with_edge S a b line f) h.more (with_edge_joined S a b line f h)
