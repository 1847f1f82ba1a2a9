-- Two edges healed into one: the rings have it in their place, and faces and nodes stay known.
use Rattle.std.proofs.Common.{◌≡◌, ℕ, sym, ◌∙◌, ap, subst, ◌⊎◌, inl, inr, ⊎_elim, Bool, true, false, not, cond, List}
use Rattle.std.specs.Prelude.{reverse, flat_map, ◌==◌}
use Rattle.std.specs.List.{Contains}
use Rattle.std.proofs.lemmas.Bool.{or_left, or_right, eq-eqb, false≢true, not-true}
use Rattle.topo_base.specs.declared.rows.NodeRow.{NodeRow}
use Rattle.topo_base.specs.declared.rows.RelationRow.{RelationRow}
use Rattle.topo_base.specs.declared.rows.Counters.{Counters}
use Rattle.drawing.specs.Drawing.{Drawing, Edge, node_id_of, has_face, is_end_of, is_isolated}
use Rattle.drawing.specs.HalfEdge.{HalfEdge, forward_of, backward_of, both_ways, half_edges, twin}
use Rattle.drawing.specs.HealEdges.{away_from, joined_edge}
use Rattle.plane.specs.Line.{joined}
use Rattle.drawing.specs.Rows.{without_row}
use Rattle.drawing.specs.Star.{leaving}
use Rattle.drawing.proofs.Members.{contains-filtered}
use Rattle.face_rings.proofs.HalfLines.{HasPlainLines}
use Rattle.face_rings.proofs.HalvesApart.{half_of}
use Rattle.ring_laws.proofs.Alike.{alike_same, IsLike, like_self, joined_like}
use Rattle.ring_laws.proofs.Known.{any_in, any_same, IsKnown, known_kept}
use Rattle.ring_laws.proofs.KnownStays.{end_is}
use Rattle.ring_laws.proofs.SplitSides.{half_there}
use Rattle.ring_laws.proofs.Turning.{FacesAgree, spread_of}
use Rattle.ring_laws.proofs.WithoutEdge.{leaves_end}
use Rattle.ring_laws.proofs.Joint.{IsHealed, AreBoth, both_cases, first_there, second_there, Joint, make_joint, edge_cases, away_ends, joint_sides}

-- ---- the half-edges of an edge, and its ends
end_of_both : (x : Edge) (h k : HalfEdge) (m : ℕ) → AreBoth x h k → is_end_of m x ≡ true → (h.from_node ≡ m) ⊎ (k.from_node ≡ m)
end_of_both x h k m b t = by_way b (end_is m x t)
  where
    by_way : AreBoth x h k → (x.start_node ≡ m) ⊎ (x.end_node ≡ m) → (h.from_node ≡ m) ⊎ (k.from_node ≡ m)
    by_way (inl b) (inl p) = inl (ap (λ (z : HalfEdge). z.from_node) (sym b.0) ∙ p)
    by_way (inl b) (inr p) = inr (ap (λ (z : HalfEdge). z.from_node) (sym b.1) ∙ p)
    by_way (inr b) (inl p) = inr (ap (λ (z : HalfEdge). z.from_node) (sym b.1) ∙ p)
    by_way (inr b) (inr p) = inl (ap (λ (z : HalfEdge). z.from_node) (sym b.0) ∙ p)

start_end : (x : Edge) (m : ℕ) → x.start_node ≡ m → is_end_of m x ≡ true
start_end x m p = or_left (x.start_node == m) (x.end_node == m) (eq-eqb x.start_node m p)

end_end : (x : Edge) (m : ℕ) → x.end_node ≡ m → is_end_of m x ≡ true
end_end x m p = or_right (x.start_node == m) (x.end_node == m) (eq-eqb x.end_node m p)

first_ends : (x : Edge) (h k : HalfEdge) → AreBoth x h k → is_end_of h.from_node x ≡ true
first_ends x h k (inl b) = start_end x h.from_node (ap (λ (z : HalfEdge). z.from_node) b.0)
first_ends x h k (inr b) = end_end x h.from_node (ap (λ (z : HalfEdge). z.from_node) b.0)

second_ends : (x : Edge) (h k : HalfEdge) → AreBoth x h k → is_end_of k.from_node x ≡ true
second_ends x h k (inl b) = end_end x k.from_node (ap (λ (z : HalfEdge). z.from_node) b.1)
second_ends x h k (inr b) = start_end x k.from_node (ap (λ (z : HalfEdge). z.from_node) b.1)

-- ---- the rings
abbrev pub healed_with : Drawing → ℕ → List Edge → List RelationRow → Counters → Drawing
healed_with S n fs rows ids = record S { nodes = without_row node_id_of S.nodes n; edges = fs; relations = rows; next_ids = ids }

pub healed_joined : (S : Drawing) (n : ℕ) (e f : Edge) (id : ℕ) (fs : List Edge) (rows : List RelationRow) (ids : Counters) → HasPlainLines S → IsHealed S n e f id fs → HasPlainLines (healed_with S n fs rows ids)
    → FacesAgree (half_edges S) → FacesAgree (flat_map both_ways fs)
healed_joined S n e f id fs rows ids good h more joined t s turns =
    joined_like (half_edges S) (flat_map both_ways fs) n (spread_of S good) (spread_of (healed_with S n fs rows ids) more) (record { found = found; back = back }) joined t s turns (not_there t turns.first)
  where
    j : Joint S n e f id (joined_edge n e f id)
    j = make_joint S n e f id fs good h

    up_there : Contains (half_edges S) j.up
    up_there = first_there S.edges e j.up (twin j.up) h.e_there j.of_e

    on_back : Contains (half_edges S) (twin j.on)
    on_back = second_there S.edges f j.on (twin j.on) h.f_there j.of_f

    sides : (j.up.on_left ≡ j.on.on_left) × (j.on.on_right ≡ j.up.on_right)
    sides = joint_sides S n e f id fs good joined h j

    start_like : IsLike j.up j.start
    start_like = record { node = j.start_node; way = alike_same (leaving j.up) (leaving j.start) j.start_way; left = j.start_left; right = j.start_right }

    end_like : IsLike (twin j.on) j.end
    end_like = record { node = j.end_node; way = alike_same (leaving (twin j.on)) (leaving j.end) j.end_way; left = sides.1 ∙ j.end_left; right = sym sides.0 ∙ j.end_right }

    found : (k : HalfEdge) → Contains (flat_map both_ways fs) k → (k.from_node ≡ n → ⊥) → (g : HalfEdge) × (Contains (half_edges S) g × IsLike g k)
    found k ck far =
        let r = half_of fs k ck in
        ⊎_elim
        (λ (old : Contains S.edges r.edge × (r.edge.edge_id ≡ e.edge_id → ⊥) × (r.edge.edge_id ≡ f.edge_id → ⊥)). (k, (half_there S.edges k r.edge old.0 r.way, like_self k)))
        (λ (is : joined_edge n e f id ≡ r.edge).
        ⊎_elim
        (λ (q : j.start ≡ k). (j.up, (up_there, subst (IsLike j.up) q start_like)))
        (λ (q : j.end ≡ k). (twin j.on, (on_back, subst (IsLike (twin j.on)) q end_like)))
        (both_cases (joined_edge n e f id) j.start j.end k j.of_joined (subst (λ (x : Edge). (forward_of x ≡ k) ⊎ (backward_of x ≡ k)) (sym is) r.way)))
        (h.from r.edge r.there)

    back : (g : HalfEdge) → Contains (half_edges S) g → (g.from_node ≡ n → ⊥) → (k : HalfEdge) × (Contains (flat_map both_ways fs) k × IsLike g k)
    back g cg far =
        let r = half_of S.edges g cg in
        ⊎_elim
        (λ (p : r.edge ≡ e). ⊎_elim
        (λ (q : j.up ≡ g). (j.start, (first_there fs (joined_edge n e f id) j.start j.end h.made j.of_joined, subst (λ (z : HalfEdge). IsLike z j.start) q start_like)))
        (λ (q : twin j.up ≡ g). absurd (far (ap (λ (z : HalfEdge). z.from_node) (sym q) ∙ j.up_to)))
        (both_cases e j.up (twin j.up) g j.of_e (subst (λ (x : Edge). (forward_of x ≡ g) ⊎ (backward_of x ≡ g)) p r.way)))
        (λ (o : (r.edge ≡ f) ⊎ ((r.edge.edge_id ≡ e.edge_id → ⊥) × (r.edge.edge_id ≡ f.edge_id → ⊥))).
        ⊎_elim
        (λ (p : r.edge ≡ f). ⊎_elim
        (λ (q : j.on ≡ g). absurd (far (ap (λ (z : HalfEdge). z.from_node) (sym q) ∙ j.on_from)))
        (λ (q : twin j.on ≡ g). (j.end, (second_there fs (joined_edge n e f id) j.start j.end h.made j.of_joined, subst (λ (z : HalfEdge). IsLike z j.end) q end_like)))
        (both_cases f j.on (twin j.on) g j.of_f (subst (λ (x : Edge). (forward_of x ≡ g) ⊎ (backward_of x ≡ g)) p r.way)))
        (λ (p : (r.edge.edge_id ≡ e.edge_id → ⊥) × (r.edge.edge_id ≡ f.edge_id → ⊥)). (g, (half_there fs g r.edge (h.old r.edge r.there p.0 p.1) r.way, like_self g)))
        o)
        (edge_cases S n e f id fs r.edge good h r.there)

    -- none of them leaves the node
    not_there : (k : HalfEdge) → Contains (flat_map both_ways fs) k → k.from_node ≡ n → ⊥
    not_there k ck at =
        let r = half_of fs k ck in
        ⊎_elim
        (λ (old : Contains S.edges r.edge × (r.edge.edge_id ≡ e.edge_id → ⊥) × (r.edge.edge_id ≡ f.edge_id → ⊥)). h.only r.edge old.0 old.1 old.2 (subst (λ m. is_end_of m r.edge ≡ true) at (leaves_end fs k r)))
        (λ (is : joined_edge n e f id ≡ r.edge).
        ⊎_elim
        (λ (q : j.start ≡ k). away_ends e j.up j.of_e h.e_open (j.start_node ∙ ap (λ (z : HalfEdge). z.from_node) q ∙ at ∙ sym j.up_to))
        (λ (q : j.end ≡ k). away_ends f j.on j.of_f h.f_open (j.on_from ∙ sym at ∙ ap (λ (z : HalfEdge). z.from_node) (sym q) ∙ sym j.end_node))
        (both_cases (joined_edge n e f id) j.start j.end k j.of_joined (subst (λ (x : Edge). (forward_of x ≡ k) ⊎ (backward_of x ≡ k)) (sym is) r.way)))
        (h.from r.edge r.there)

-- ---- faces and nodes
joined_sides : (S : Drawing) (n : ℕ) (e f : Edge) (id : ℕ) → (has_face S e.left_face ≡ true) × (has_face S e.right_face ≡ true) → (has_face S ((joined_edge n e f id).left_face) ≡ true) × (has_face S ((joined_edge n e f id).right_face) ≡ true)
joined_sides S n e f id there = by_end (n == e.end_node)
  where
    by_end : (t : Bool)
        → (has_face S ((cond t (record e { edge_id = id; end_node = (away_from n f).to_node; geom = joined e.geom ((away_from n f).points) }) (record e { edge_id = id; start_node = (away_from n f).to_node; geom = joined (reverse ((away_from n f).points)) e.geom })).left_face) ≡ true)
        × (has_face S ((cond t (record e { edge_id = id; end_node = (away_from n f).to_node; geom = joined e.geom ((away_from n f).points) }) (record e { edge_id = id; start_node = (away_from n f).to_node; geom = joined (reverse ((away_from n f).points)) e.geom })).right_face) ≡ true)
    by_end true = there
    by_end false = there

pub healed_known : (S : Drawing) (n : ℕ) (e f : Edge) (id : ℕ) (fs : List Edge) (rows : List RelationRow) (ids : Counters) → HasPlainLines S → IsHealed S n e f id fs → IsKnown S → IsKnown (healed_with S n fs rows ids)
healed_known S n e f id fs rows ids good h known = record {
  universe = known.universe;
  sides = λ x c. ⊎_elim
      (λ (old : Contains S.edges x × (x.edge_id ≡ e.edge_id → ⊥) × (x.edge_id ≡ f.edge_id → ⊥)). known.sides x old.0)
      (λ (is : joined_edge n e f id ≡ x). subst (λ (y : Edge). (has_face S y.left_face ≡ true) × (has_face S y.right_face ≡ true)) is (joined_sides S n e f id (known.sides e h.e_there)))
      (h.from x c);
  nodes = λ m c.
      let r = contains-filtered (λ (r : NodeRow). not (node_id_of r == n)) m S.nodes c in
      known_kept S (healed_with S n fs rows ids) m.containing_face (is_isolated S m.node_id) (is_isolated (healed_with S n fs rows ids) m.node_id)
      (as_before m.node_id (λ p. false≢true (sym (not-true (m.node_id == n) r.1) ∙ eq-eqb m.node_id n p))) (λ g t. t) (known.nodes m r.0);
}
  where
    j : Joint S n e f id (joined_edge n e f id)
    j = make_joint S n e f id fs good h

    in_joined : (m : ℕ) → (m ≡ n → ⊥) → (j.up.from_node ≡ m) ⊎ (j.on.to_node ≡ m) → is_end_of m (joined_edge n e f id) ≡ true
    in_joined m far ends =
        ⊎_elim
        (λ (p : j.up.from_node ≡ m). subst (λ k. is_end_of k (joined_edge n e f id) ≡ true) (sym j.start_node ∙ p) (first_ends (joined_edge n e f id) j.start j.end j.of_joined))
        (λ (p : j.on.to_node ≡ m). subst (λ k. is_end_of k (joined_edge n e f id) ≡ true) (sym j.end_node ∙ p) (second_ends (joined_edge n e f id) j.start j.end j.of_joined))
        ends

    from_e : (m : ℕ) → (m ≡ n → ⊥) → is_end_of m e ≡ true → is_end_of m (joined_edge n e f id) ≡ true
    from_e m far t = in_joined m far (⊎_elim (λ (p : j.up.from_node ≡ m). inl p) (λ (p : j.up.to_node ≡ m). absurd (far (sym p ∙ j.up_to))) (end_of_both e j.up (twin j.up) m j.of_e t))

    from_f : (m : ℕ) → (m ≡ n → ⊥) → is_end_of m f ≡ true → is_end_of m (joined_edge n e f id) ≡ true
    from_f m far t = in_joined m far (⊎_elim (λ (p : j.on.from_node ≡ m). absurd (far (sym p ∙ j.on_from))) (λ (p : j.on.to_node ≡ m). inr p) (end_of_both f j.on (twin j.on) m j.of_f t))

    as_before : (m : ℕ) → (m ≡ n → ⊥) → is_isolated S m ≡ is_isolated (healed_with S n fs rows ids) m
    as_before m far = ap not (any_same (is_end_of m) (is_end_of m) S.edges fs
        (λ x c t. ⊎_elim
        (λ (p : x ≡ e). any_in (is_end_of m) fs (joined_edge n e f id) h.made (from_e m far (subst (λ (y : Edge). is_end_of m y ≡ true) p t)))
        (λ (o : (x ≡ f) ⊎ ((x.edge_id ≡ e.edge_id → ⊥) × (x.edge_id ≡ f.edge_id → ⊥))).
        ⊎_elim
        (λ (p : x ≡ f). any_in (is_end_of m) fs (joined_edge n e f id) h.made (from_f m far (subst (λ (y : Edge). is_end_of m y ≡ true) p t)))
        (λ (p : (x.edge_id ≡ e.edge_id → ⊥) × (x.edge_id ≡ f.edge_id → ⊥)). any_in (is_end_of m) fs x (h.old x c p.0 p.1) t)
        o)
        (edge_cases S n e f id fs x good h c))
        (λ x c t. ⊎_elim
        (λ (old : Contains S.edges x × (x.edge_id ≡ e.edge_id → ⊥) × (x.edge_id ≡ f.edge_id → ⊥)). any_in (is_end_of m) S.edges x old.0 t)
        (λ (is : joined_edge n e f id ≡ x).
        ⊎_elim
        (λ (p : j.start.from_node ≡ m). any_in (is_end_of m) S.edges e h.e_there (subst (λ k. is_end_of k e ≡ true) (j.start_node ∙ p) (first_ends e j.up (twin j.up) j.of_e)))
        (λ (p : j.end.from_node ≡ m). any_in (is_end_of m) S.edges f h.f_there (subst (λ k. is_end_of k f ≡ true) (j.end_node ∙ p) (second_ends f j.on (twin j.on) j.of_f)))
        (end_of_both (joined_edge n e f id) j.start j.end m j.of_joined (subst (λ (y : Edge). is_end_of m y ≡ true) (sym is) t)))
        (h.from x c)))
