-- One half-edge less about a node, whose two sides count as one face.
use Rattle.std.proofs.Common.{◌≡◌, ℕ, refl, sym, ◌∙◌, ap, subst, ⊎_elim, true, false, List, ◌∷◌}
use Rattle.std.specs.Prelude.{flat_map, ◌==◌}
use Rattle.std.specs.List.{Contains}
use Rattle.std.proofs.lemmas.Bool.{eqb-true, eq-eqb, false≢true, false_from_ne_true, cases_eq}
use Rattle.plane.specs.Direction.{is_nearer}
use Rattle.drawing.specs.Drawing.{Drawing, Edge, edge_id_of}
use Rattle.drawing.specs.HalfEdge.{HalfEdge, forward_of, backward_of, both_ways, half_edges}
use Rattle.drawing.specs.Rows.{without_row}
use Rattle.drawing.specs.Star.{leaving}
use Rattle.plane.proofs.Directions.{nearer_self, nearer_onward, nearer_cyclic}
use Rattle.plane.proofs.ListTests.{contains_here, contains_there, contains_cases}
use Rattle.face_rings.proofs.HalfLines.{HasPlainLines}
use Rattle.face_rings.proofs.HalvesApart.{half_of, forward_there, backward_there, one_edge}
use Rattle.face_rings.proofs.Ranks.{by_bool}
use Rattle.ring_laws.proofs.Inserting.{round_about, not_both, not_fresh}
use Rattle.ring_laws.proofs.Turning.{AreSpread, spread_of, spread_within, apart_at, Turns, FacesAgree, turns_within}
use Rattle.ring_laws.proofs.WithoutEdge.{kept_edge, was_edge}

-- the faces agree where some count as one
abbrev pub AreJoinedBy : (ℕ → ℕ) → List HalfEdge → Type 0
AreJoinedBy r hs = (t s : HalfEdge) → Turns hs t s → r t.on_right ≡ r s.on_left

pub joined_by : (r : ℕ → ℕ) (ks ls : List HalfEdge) → ((k : HalfEdge) → Contains ks k → Contains ls k) → ((k : HalfEdge) → Contains ls k → Contains ks k) → FacesAgree ks → AreJoinedBy r ls
joined_by r ks ls into back joined t s h = ap r (joined t s (turns_within ks ls t s into (back t h.first) (back s h.second) h))

pub joined_fewer : (r : ℕ → ℕ) (hs : List HalfEdge) (x : HalfEdge) → AreSpread (x ∷ hs) → (Contains hs x → ⊥) → r x.on_left ≡ r x.on_right → AreJoinedBy r (x ∷ hs) → AreJoinedBy r hs
joined_fewer r hs x a fresh same joined t s h =
    ⊎_elim
    (λ (e : x.from_node ≡ t.from_node). at_node e)
    (λ (far : x.from_node ≡ t.from_node → ⊥). joined t s (unchanged (λ e. absurd (far e)) (λ q e. far e)))
    (cases_eq x.from_node t.from_node)
  where
    here : Contains (x ∷ hs) x
    here = contains_here x hs

    in_all : (k : HalfEdge) → Contains hs k → Contains (x ∷ hs) k
    in_all k c = contains_there k x hs c

    unchanged : (x.from_node ≡ t.from_node → is_nearer (leaving t) (leaving x) (leaving s) ≡ false) → (s ≡ t → x.from_node ≡ t.from_node → ⊥) → Turns (x ∷ hs) t s
    unchanged off lone = record {
      first = in_all t h.first;
      second = in_all s h.second;
      one_node = h.one_node;
      none_between = λ k c from other. ⊎_elim
          (λ (p : x ≡ k). subst (λ (z : HalfEdge). is_nearer (leaving t) (leaving z) (leaving s) ≡ false) p (off (ap (λ (z : HalfEdge). z.from_node) p ∙ from)))
          (λ (d : Contains hs k). h.none_between k d from other)
          (contains_cases k x hs c);
      alone = λ e k c from. ⊎_elim (λ (p : x ≡ k). absurd (lone e (ap (λ (z : HalfEdge). z.from_node) p ∙ from))) (λ (d : Contains hs k). h.alone e k d from) (contains_cases k x hs c);
    }

    -- t is the only other one at the node
    two_there : x.from_node ≡ t.from_node → s ≡ t → Turns (x ∷ hs) t x
    two_there node e = record {
      first = in_all t h.first;
      second = here;
      one_node = node;
      none_between = λ k c from other. ⊎_elim
          (λ (p : x ≡ k). subst (λ (z : HalfEdge). is_nearer (leaving t) (leaving z) (leaving x) ≡ false) p (nearer_self (leaving t) (leaving x)))
          (λ (d : Contains hs k). absurd (other (h.alone e k d from)))
          (contains_cases k x hs c);
      alone = λ q. absurd (not_fresh hs x fresh t h.first (sym q));
    }

    two_back : x.from_node ≡ t.from_node → s ≡ t → Turns (x ∷ hs) x t
    two_back node e = record {
      first = here;
      second = in_all t h.first;
      one_node = sym node;
      none_between = λ k c from other. ⊎_elim
          (λ (p : x ≡ k). absurd (other (sym p)))
          (λ (d : Contains hs k). subst (λ (z : HalfEdge). is_nearer (leaving x) (leaving z) (leaving t) ≡ false) (sym (h.alone e k d (from ∙ node))) (nearer_self (leaving x) (leaving t)))
          (contains_cases k x hs c);
      alone = λ q. absurd (not_fresh hs x fresh t h.first q);
    }

    -- x stands between t and s
    up_to : x.from_node ≡ t.from_node → is_nearer (leaving t) (leaving x) (leaving s) ≡ true → Turns (x ∷ hs) t x
    up_to node near = record {
      first = in_all t h.first;
      second = here;
      one_node = node;
      none_between = λ k c from other. ⊎_elim
          (λ (p : x ≡ k). subst (λ (z : HalfEdge). is_nearer (leaving t) (leaving z) (leaving x) ≡ false) p (nearer_self (leaving t) (leaving x)))
          (λ (d : Contains hs k). false_from_ne_true (is_nearer (leaving t) (leaving k) (leaving x)) (λ u. false≢true (sym (h.none_between k d from other) ∙ nearer_onward (leaving t) (leaving k) (leaving x) (leaving s) u near)))
          (contains_cases k x hs c);
      alone = λ q. absurd (not_fresh hs x fresh t h.first (sym q));
    }

    between : (k : HalfEdge) → x.from_node ≡ t.from_node → is_nearer (leaving t) (leaving x) (leaving s) ≡ true → (s ≡ t → ⊥) → Contains hs k → k.from_node ≡ x.from_node → is_nearer (leaving x) (leaving k) (leaving s) ≡ true → ⊥
    between k node near differ c from u =
        let some_t = a.some t (in_all t h.first) in
        let some_x = a.some x here in
        let some_s = a.some s (in_all s h.second) in
        let back : is_nearer (leaving x) (leaving s) (leaving t) ≡ true =
        nearer_cyclic (leaving t) (leaving x) (leaving s) some_t some_x near (apart_at (x ∷ hs) t x a (in_all t h.first) here (sym node) (not_fresh hs x fresh t h.first)) in
        ⊎_elim
        (λ (e : k ≡ t). not_both (leaving x) (leaving s) (leaving t) back (subst (λ (z : HalfEdge). is_nearer (leaving x) (leaving z) (leaving s) ≡ true) e u))
        (λ (other : k ≡ t → ⊥).
        ⊎_elim
        (λ (e : k ≡ s). false≢true (sym (nearer_self (leaving x) (leaving s)) ∙ subst (λ (z : HalfEdge). is_nearer (leaving x) (leaving z) (leaving s) ≡ true) e u))
        (λ (e : k ≡ s → ⊥).
        let at_t = from ∙ node in
        false≢true (sym (h.none_between k c at_t other)
        ∙ round_about (leaving x) (leaving k) (leaving s) (leaving t) some_x (a.some k (in_all k c)) some_s some_t u back
        (apart_at (x ∷ hs) x k a here (in_all k c) (sym from) (λ q. not_fresh hs x fresh k c (sym q)))
        (apart_at (x ∷ hs) x s a here (in_all s h.second) (node ∙ sym h.one_node) (λ q. not_fresh hs x fresh s h.second (sym q)))
        (apart_at (x ∷ hs) k s a (in_all k c) (in_all s h.second) (at_t ∙ sym h.one_node) e)
        (apart_at (x ∷ hs) s t a (in_all s h.second) (in_all t h.first) h.one_node differ)))
        (a.same k s (in_all k c) (in_all s h.second)))
        (a.same k t (in_all k c) (in_all t h.first))

    on_from : x.from_node ≡ t.from_node → is_nearer (leaving t) (leaving x) (leaving s) ≡ true → (s ≡ t → ⊥) → Turns (x ∷ hs) x s
    on_from node near differ = record {
      first = here;
      second = in_all s h.second;
      one_node = h.one_node ∙ sym node;
      none_between = λ k c from other. ⊎_elim
          (λ (p : x ≡ k). absurd (other (sym p)))
          (λ (d : Contains hs k). false_from_ne_true (is_nearer (leaving x) (leaving k) (leaving s)) (λ u. between k node near differ d from u))
          (contains_cases k x hs c);
      alone = λ q. absurd (not_fresh hs x fresh s h.second q);
    }

    at_node : x.from_node ≡ t.from_node → r t.on_right ≡ r s.on_left
    at_node node =
        ⊎_elim
        (λ (e : s ≡ t). joined t x (two_there node e) ∙ same ∙ joined x t (two_back node e) ∙ ap (λ (z : HalfEdge). r z.on_left) (sym e))
        (λ (differ : s ≡ t → ⊥).
        ⊎_elim
        (λ (near : is_nearer (leaving t) (leaving x) (leaving s) ≡ true). joined t x (up_to node near) ∙ same ∙ joined x s (on_from node near differ))
        (λ (off : is_nearer (leaving t) (leaving x) (leaving s) ≡ false). joined t s (unchanged (λ e. off) (λ e p. differ e)))
        (by_bool (is_nearer (leaving t) (leaving x) (leaving s))))
        (a.same s t (in_all s h.second) (in_all t h.first))

-- ---- the half-edges without those of an edge
pub edge_out : (S : Drawing) (e : Edge) (h : HalfEdge) → HasPlainLines S → Contains S.edges e → Contains (half_edges S) h → Contains (backward_of e ∷ forward_of e ∷ flat_map both_ways (without_row edge_id_of S.edges e.edge_id)) h
edge_out S e h good ce c =
    let rest = flat_map both_ways (without_row edge_id_of S.edges e.edge_id) in
    let r = half_of S.edges h c in
    ⊎_elim
    (λ (t : (r.edge.edge_id == e.edge_id) ≡ true).
    let is = one_edge S r.edge e good r.there ce (eqb-true r.edge.edge_id e.edge_id t) in
    ⊎_elim
    (λ (p : forward_of r.edge ≡ h). subst (Contains (backward_of e ∷ forward_of e ∷ rest)) (ap forward_of (sym is) ∙ p) (contains_there (forward_of e) (backward_of e) (forward_of e ∷ rest) (contains_here (forward_of e) rest)))
    (λ (p : backward_of r.edge ≡ h). subst (Contains (backward_of e ∷ forward_of e ∷ rest)) (ap backward_of (sym is) ∙ p) (contains_here (backward_of e) (forward_of e ∷ rest)))
    r.way)
    (λ (t : (r.edge.edge_id == e.edge_id) ≡ false).
    let kept = kept_edge S.edges e r.edge r.there (λ q. false≢true (sym t ∙ eq-eqb r.edge.edge_id e.edge_id q)) in
    let there : Contains rest h =
    ⊎_elim (λ (p : forward_of r.edge ≡ h). subst (Contains rest) p (forward_there (without_row edge_id_of S.edges e.edge_id) r.edge kept)) (λ (p : backward_of r.edge ≡ h). subst (Contains rest) p (backward_there (without_row edge_id_of S.edges e.edge_id) r.edge kept)) r.way in
    contains_there h (backward_of e) (forward_of e ∷ rest) (contains_there h (forward_of e) rest there))
    (by_bool (r.edge.edge_id == e.edge_id))

pub edge_in : (S : Drawing) (e : Edge) (h : HalfEdge) → Contains S.edges e → Contains (backward_of e ∷ forward_of e ∷ flat_map both_ways (without_row edge_id_of S.edges e.edge_id)) h → Contains (half_edges S) h
edge_in S e h ce c =
    let less = without_row edge_id_of S.edges e.edge_id in
    ⊎_elim
    (λ (p : backward_of e ≡ h). subst (Contains (half_edges S)) p (backward_there S.edges e ce))
    (λ (d : Contains (forward_of e ∷ flat_map both_ways less) h).
    ⊎_elim
    (λ (p : forward_of e ≡ h). subst (Contains (half_edges S)) p (forward_there S.edges e ce))
    (λ (k : Contains (flat_map both_ways less) h).
    let r = half_of less h k in
    let was = (was_edge S.edges e r.edge r.there).0 in
    ⊎_elim (λ (p : forward_of r.edge ≡ h). subst (Contains (half_edges S)) p (forward_there S.edges r.edge was)) (λ (p : backward_of r.edge ≡ h). subst (Contains (half_edges S)) p (backward_there S.edges r.edge was)) r.way)
    (contains_cases h (forward_of e) (flat_map both_ways less) d))
    (contains_cases h (backward_of e) (forward_of e ∷ flat_map both_ways less) c)

gone_half : (edges : List Edge) (e : Edge) (h : HalfEdge) → h.edge_id ≡ e.edge_id → Contains (flat_map both_ways (without_row edge_id_of edges e.edge_id)) h → ⊥
gone_half edges e h id c =
    let r = half_of (without_row edge_id_of edges e.edge_id) h c in
    let same : r.edge.edge_id ≡ h.edge_id = ⊎_elim (λ (p : forward_of r.edge ≡ h). ap (λ (x : HalfEdge). x.edge_id) p) (λ (p : backward_of r.edge ≡ h). ap (λ (x : HalfEdge). x.edge_id) p) r.way in
    (was_edge edges e r.edge r.there).1 (same ∙ id)

-- they stay joined where the two sides of the edge count as one face
pub joined_without : (S : Drawing) (e : Edge) (r : ℕ → ℕ) → HasPlainLines S → Contains S.edges e → r e.left_face ≡ r e.right_face → FacesAgree (half_edges S) → AreJoinedBy r (flat_map both_ways (without_row edge_id_of S.edges e.edge_id))
joined_without S e r good ce same joined =
    let d = forward_of e in
    let g = backward_of e in
    let rest = flat_map both_ways (without_row edge_id_of S.edges e.edge_id) in
    let spread = spread_within (g ∷ d ∷ rest) (half_edges S) (λ k c. edge_in S e k ce c) (spread_of S good) in
    let all = joined_by r (half_edges S) (g ∷ d ∷ rest) (λ k c. edge_out S e k good ce c) (λ k c. edge_in S e k ce c) joined in
    let one = joined_fewer r (d ∷ rest) g spread
    (λ c. ⊎_elim (λ (p : d ≡ g). false≢true (sym (ap (λ (x : HalfEdge). x.is_forward) p))) (λ (k : Contains rest g). gone_half S.edges e g refl k) (contains_cases g d rest c)) (sym same) all in
    joined_fewer r rest d (spread_within (d ∷ rest) (g ∷ d ∷ rest) (λ k c. contains_there k g (d ∷ rest) c) spread) (gone_half S.edges e d refl) same one
