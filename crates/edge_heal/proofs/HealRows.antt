-- The rows of a drawing in which two edges are healed into one, after links are set.
use Rattle.std.proofs.Common.{◌≡◌, ℕ, refl, sym, ◌∙◌, ap, subst, inl, inr, Bool, true, false, not, cond, List}
use Rattle.std.specs.Prelude.{flat_map, ◌==◌}
use Rattle.topo_base.specs.declared.ids.Dart.{Dart}
use Rattle.topo_base.specs.declared.rows.Counters.{Counters}
use Rattle.topo_base.specs.declared.rows.RelationRow.{RelationRow}
use Rattle.drawing.specs.Drawing.{Drawing, Edge}
use Rattle.drawing.specs.HalfEdge.{HalfEdge, backward_of, both_ways, dart_of, forward_of, half_edges, twin}
use Rattle.drawing.specs.HealEdges.{away_from, joined_edge}
use Rattle.drawing.specs.Star.{next_of}
use Rattle.edge_heal.proofs.HealLinks.{IsHealOf, joined_links, name_in}
use Rattle.edge_split.proofs.LinkWrites.{follower}
use Rattle.ring_laws.proofs.Joint.{AreBoth}

-- the half-edges of an edge by their ways
half_is : (x : Edge) (h k : HalfEdge) (hs : List HalfEdge) → AreBoth x h k → follower hs x h.is_forward ≡ dart_of (next_of hs h)
half_is x h k hs (inl b) = subst (λ (z : HalfEdge). follower hs x z.is_forward ≡ dart_of (next_of hs z)) b.0 refl
half_is x h k hs (inr b) = subst (λ (z : HalfEdge). follower hs x z.is_forward ≡ dart_of (next_of hs z)) b.0 refl

other_is : (x : Edge) (h k : HalfEdge) (hs : List HalfEdge) → AreBoth x h k → follower hs x (not h.is_forward) ≡ dart_of (next_of hs k)
other_is x h k hs (inl b) =
    subst (λ (z : HalfEdge). follower hs x (not z.is_forward) ≡ dart_of (next_of hs k)) b.0 (ap (λ (z : HalfEdge). dart_of (next_of hs z)) b.1)
other_is x h k hs (inr b) =
    subst (λ (z : HalfEdge). follower hs x (not z.is_forward) ≡ dart_of (next_of hs k)) b.0 (ap (λ (z : HalfEdge). dart_of (next_of hs z)) b.1)

away_is : (n : ℕ) (f : Edge) (hs : List HalfEdge) → follower hs f (f.start_node == n) ≡ dart_of (next_of hs (away_from n f))
away_is n f hs = by (f.start_node == n)
  where
    by : (b : Bool) → follower hs f b ≡ dart_of (next_of hs (cond b (forward_of f) (backward_of f)))
    by true = refl
    by false = refl

-- the links of the joined edge, walked on from the first edge to the second, and back
pub joined_on : (S : Drawing) (n : ℕ) (e f : Edge) (id : ℕ) (fs : List Edge) (rows : List RelationRow) (ids : Counters) → IsHealOf S n e f id fs rows ids
    → follower (flat_map both_ways fs) (joined_edge n e f id) (n == e.end_node) ≡ name_in n e f id (follower (half_edges S) f (f.start_node == n))
joined_on S n e f id fs rows ids h =
    let j = joined_links S n e f id fs rows ids h in
    ap (follower (flat_map both_ways fs) (joined_edge n e f id)) (sym (ap (λ (d : Dart). d.forward) j.start_dart))
    ∙ half_is (joined_edge n e f id) j.start j.end (flat_map both_ways fs) j.is_joined
    ∙ j.goes_on
    ∙ ap (name_in n e f id) (sym (away_is n f (half_edges S)))

pub joined_back : (S : Drawing) (n : ℕ) (e f : Edge) (id : ℕ) (fs : List Edge) (rows : List RelationRow) (ids : Counters) → IsHealOf S n e f id fs rows ids
    → follower (flat_map both_ways fs) (joined_edge n e f id) (not (n == e.end_node)) ≡ name_in n e f id (follower (half_edges S) e (not (n == e.end_node)))
joined_back S n e f id fs rows ids h =
    let j = joined_links S n e f id fs rows ids h in
    ap (λ w. follower (flat_map both_ways fs) (joined_edge n e f id) (not w)) (sym (ap (λ (d : Dart). d.forward) j.start_dart))
    ∙ other_is (joined_edge n e f id) j.start j.end (flat_map both_ways fs) j.is_joined
    ∙ j.goes_back
    ∙ ap (name_in n e f id) (sym (other_is e j.up (twin j.up) (half_edges S) j.is_up))
    ∙ ap (λ w. name_in n e f id (follower (half_edges S) e (not w))) j.up_way
