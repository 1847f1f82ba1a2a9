-- What follows each half-edge where an edge is split.
use Rattle.std.proofs.Common.{◌≡◌, ℕ, refl, sym, ◌∙◌, ap, subst, ◌⊎◌, inl, inr, ⊎_elim, Bool, true, false, cond, List}
use Rattle.std.specs.Prelude.{flat_map, ◌==◌}
use Rattle.std.specs.List.{Contains}
use Rattle.std.proofs.lemmas.Bool.{eqb-true, eq-eqb, false≢true, false_from_ne_true}
use Rattle.topo_base.specs.Point.{Point}
use Rattle.topo_base.specs.declared.ids.Dart.{Dart}
use Rattle.topo_base.specs.declared.rows.RelationRow.{RelationRow}
use Rattle.topo_base.specs.declared.rows.Counters.{Counters}
use Rattle.drawing.specs.Drawing.{Drawing, Edge}
use Rattle.drawing.specs.HalfEdge.{HalfEdge, backward_of, both_ways, dart_of, forward_of, half_edges, twin}
use Rattle.drawing.specs.PlainInOrder.{IsPlainInOrder}
use Rattle.drawing.specs.SplitEdge.{first_part, second_part}
use Rattle.drawing.specs.Star.{next_of}
use Rattle.face_rings.proofs.HalfLines.{HasPlainLines}
use Rattle.face_rings.proofs.HalvesApart.{half_of, forward_there, backward_there, one_edge, twin_back}
use Rattle.face_rings.proofs.Ranks.{by_bool}
use Rattle.ring_laws.proofs.Alike.{IsLike, like_self, turns_over, like_leaves}
use Rattle.ring_laws.proofs.Known.{none_leaves}
use Rattle.ring_laws.proofs.KnownStays.{new_isolated}
use Rattle.ring_laws.proofs.SplitSides.{IsSplitInto, half_there, split_with, at_new, node_of, first_like, second_like}
use Rattle.ring_laws.proofs.Turning.{Turns, next_turns, spread_of, turns_next}
use Rattle.ring_laws.proofs.Joint.{pair_turns}
use Rattle.edge_split.specs.Renamed.{renamed}

-- an edge that is split: both drawings are plain
pub record IsSplitOf (S : Drawing) (e : Edge) (p : Point) (id id' : ℕ) (fs : List Edge) (rows : List RelationRow) (ids : Counters) : Type 0 where
  pub ordered : IsPlainInOrder S
  pub lines : HasPlainLines S
  pub split : IsSplitInto S e p id id' fs
  pub more : HasPlainLines (split_with S p fs rows ids)

-- k is the half-edge that leaves its node where h does, by its new name
pub record StandsFor (S : Drawing) (e : Edge) (id id' : ℕ) (fs : List Edge) (h k : HalfEdge) : Type 0 where
  pub there : Contains (half_edges S) h
  pub new : Contains (flat_map both_ways fs) k
  pub like : IsLike h k
  pub name : dart_of k ≡ renamed e.edge_id id id' (dart_of h)

-- ---- names
own_name : (m id id' : ℕ) (way : Bool) → renamed m id id' (record { edge = m; forward = way }) ≡ record { edge = cond way id id'; forward = way }
own_name m id id' way = ap (λ b. cond b (record { edge = cond way id id'; forward = way }) (record { edge = m; forward = way })) (eq-eqb m m refl)

pub other_name : (m id id' : ℕ) (d : Dart) → (d.edge ≡ m → ⊥) → renamed m id id' d ≡ d
other_name m id id' d other = ap (λ b. cond b (record { edge = cond d.forward id id'; forward = d.forward }) d) (false_from_ne_true (d.edge == m) (λ t. other (eqb-true d.edge m t)))

pub first_stands : (S : Drawing) (e : Edge) (p : Point) (id id' : ℕ) (fs : List Edge) → IsSplitInto S e p id id' fs → StandsFor S e id id' fs (forward_of e) (forward_of (first_part e S.next_ids.node p id))
first_stands S e p id id' fs split = record {
  there = forward_there S.edges e split.there;
  new = forward_there fs (first_part e S.next_ids.node p id) split.first;
  like = first_like S e p id id' fs split;
  name = sym (own_name e.edge_id id id' true);
}

pub second_stands : (S : Drawing) (e : Edge) (p : Point) (id id' : ℕ) (fs : List Edge) → IsSplitInto S e p id id' fs → StandsFor S e id id' fs (backward_of e) (backward_of (second_part e S.next_ids.node p id'))
second_stands S e p id id' fs split = record {
  there = backward_there S.edges e split.there;
  new = backward_there fs (second_part e S.next_ids.node p id') split.second;
  like = second_like S e p id id' fs split;
  name = sym (own_name e.edge_id id id' false);
}

-- a half-edge of another edge
pub other_stands : (S : Drawing) (e : Edge) (p : Point) (id id' : ℕ) (fs : List Edge) → IsSplitInto S e p id id' fs → (x : Edge) (h : HalfEdge) → Contains S.edges x → (x.edge_id ≡ e.edge_id → ⊥)
    → (forward_of x ≡ h) ⊎ (backward_of x ≡ h) → StandsFor S e id id' fs h h
other_stands S e p id id' fs split x h c other way = record {
  there = half_there S.edges h x c way;
  new = half_there fs h x (split.old x c other) way;
  like = like_self h;
  name = sym (other_name e.edge_id id id' (dart_of h) (λ q. other (of_edge way ∙ q)));
}
  where
    of_edge : (forward_of x ≡ h) ⊎ (backward_of x ≡ h) → x.edge_id ≡ h.edge_id
    of_edge (inl q) = ap (λ (k : HalfEdge). k.edge_id) q
    of_edge (inr q) = ap (λ (k : HalfEdge). k.edge_id) q

-- ---- each half-edge has one that stands for it
stand_in : (S : Drawing) (e : Edge) (p : Point) (id id' : ℕ) (fs : List Edge) → HasPlainLines S → IsSplitInto S e p id id' fs → (h : HalfEdge) → Contains (half_edges S) h
    → (k : HalfEdge) × StandsFor S e id id' fs h k
stand_in S e p id id' fs good split h ch =
    let r = half_of S.edges h ch in
    ⊎_elim
    (λ (t : (r.edge.edge_id == e.edge_id) ≡ true).
    let is = one_edge S r.edge e good r.there split.there (eqb-true r.edge.edge_id e.edge_id t) in
    ⊎_elim
    (λ (q : forward_of r.edge ≡ h).
    (forward_of (first_part e S.next_ids.node p id), subst (λ (x : HalfEdge). StandsFor S e id id' fs x (forward_of (first_part e S.next_ids.node p id))) (ap forward_of (sym is) ∙ q) (first_stands S e p id id' fs split)))
    (λ (q : backward_of r.edge ≡ h).
    (backward_of (second_part e S.next_ids.node p id'), subst (λ (x : HalfEdge). StandsFor S e id id' fs x (backward_of (second_part e S.next_ids.node p id'))) (ap backward_of (sym is) ∙ q) (second_stands S e p id id' fs split)))
    r.way)
    (λ (t : (r.edge.edge_id == e.edge_id) ≡ false).
    (h, other_stands S e p id id' fs split r.edge h r.there (λ q. false≢true (sym t ∙ eq-eqb r.edge.edge_id e.edge_id q)) r.way))
    (by_bool (r.edge.edge_id == e.edge_id))

-- and each that leaves another node than the new one stands for one
stood_for : (S : Drawing) (e : Edge) (p : Point) (id id' : ℕ) (fs : List Edge) → IsSplitInto S e p id id' fs → (k : HalfEdge) → Contains (flat_map both_ways fs) k → (k.from_node ≡ S.next_ids.node → ⊥)
    → (h : HalfEdge) × StandsFor S e id id' fs h k
stood_for S e p id id' fs split k ck far =
    let r = half_of fs k ck in
    ⊎_elim
    (λ (old : Contains S.edges r.edge × (r.edge.edge_id ≡ e.edge_id → ⊥)). (k, other_stands S e p id id' fs split r.edge k old.0 old.1 r.way))
    (λ (part : (first_part e S.next_ids.node p id ≡ r.edge) ⊎ (second_part e S.next_ids.node p id' ≡ r.edge)).
    ⊎_elim
    (λ (is : first_part e S.next_ids.node p id ≡ r.edge).
    ⊎_elim
    (λ (q : forward_of r.edge ≡ k). (forward_of e, subst (StandsFor S e id id' fs (forward_of e)) (ap forward_of is ∙ q) (first_stands S e p id id' fs split)))
    (λ (q : backward_of r.edge ≡ k). absurd (far (sym (node_of (ap backward_of is ∙ q)))))
    r.way)
    (λ (is : second_part e S.next_ids.node p id' ≡ r.edge).
    ⊎_elim
    (λ (q : forward_of r.edge ≡ k). absurd (far (sym (node_of (ap forward_of is ∙ q)))))
    (λ (q : backward_of r.edge ≡ k). (backward_of e, subst (StandsFor S e id id' fs (backward_of e)) (ap backward_of is ∙ q) (second_stands S e p id id' fs split)))
    r.way)
    part)
    (split.from r.edge r.there)

-- ---- what is next stays next
renamed_turns : (S : Drawing) (e : Edge) (p : Point) (id id' : ℕ) (fs : List Edge) (rows : List RelationRow) (ids : Counters) → IsSplitOf S e p id id' fs rows ids → (t s t' s' : HalfEdge)
    → Turns (half_edges S) t s → StandsFor S e id id' fs t t' → StandsFor S e id id' fs s s' → Turns (flat_map both_ways fs) t' s'
renamed_turns S e p id id' fs rows ids h t s t' s' turn a b =
    turns_over (half_edges S) (flat_map both_ways fs) t s t' s' (spread_of S h.lines) (spread_of (split_with S p fs rows ids) h.more) turn a.new b.new (like_leaves t t' a.like) (like_leaves s s' b.like) (λ k ck from.
    let (g, c) = stood_for S e p id id' fs h.split k ck (λ q. far (sym from ∙ q)) in
    (g, (c.there, like_leaves g k c.like)))
  where
    far : t'.from_node ≡ S.next_ids.node → ⊥
    far q = none_leaves S S.next_ids.node (new_isolated S h.ordered h.lines) t a.there (a.like.node ∙ q)

-- what follows is what followed, by its new name
pub next_renamed : (S : Drawing) (e : Edge) (p : Point) (id id' : ℕ) (fs : List Edge) (rows : List RelationRow) (ids : Counters) → IsSplitOf S e p id id' fs rows ids → (h t : HalfEdge) → Contains (half_edges S) h
    → StandsFor S e id id' fs (twin h) t → dart_of (next_of (flat_map both_ways fs) (twin t)) ≡ renamed e.edge_id id id' (dart_of (next_of (half_edges S) h))
next_renamed S e p id id' fs rows ids g h t ch stands =
    let turn = next_turns S h g.lines ch in
    let (k, s) = stand_in S e p id id' fs g.lines g.split (next_of (half_edges S) h) turn.second in
    ap dart_of (turns_next (split_with S p fs rows ids) t k g.more (renamed_turns S e p id id' fs rows ids g (twin h) (next_of (half_edges S) h) t k turn stands s)) ∙ s.name

-- ---- at the new node
two_there : (S : Drawing) (e : Edge) (p : Point) (id id' : ℕ) (fs : List Edge) (rows : List RelationRow) (ids : Counters) → IsSplitOf S e p id id' fs rows ids → (k : HalfEdge) → Contains (flat_map both_ways fs) k → k.from_node ≡ S.next_ids.node
    → (k ≡ backward_of (first_part e S.next_ids.node p id)) ⊎ (k ≡ forward_of (second_part e S.next_ids.node p id'))
two_there S e p id id' fs rows ids h k ck at =
    ⊎_elim (λ (q : backward_of (first_part e S.next_ids.node p id) ≡ k). inl (sym q)) (λ (q : forward_of (second_part e S.next_ids.node p id') ≡ k). inr (sym q)) (at_new S e p id id' fs h.ordered h.lines h.split k ck at)

-- the second part follows the first
pub first_goes_on : (S : Drawing) (e : Edge) (p : Point) (id id' : ℕ) (fs : List Edge) (rows : List RelationRow) (ids : Counters) → IsSplitOf S e p id id' fs rows ids
    → dart_of (next_of (flat_map both_ways fs) (forward_of (first_part e S.next_ids.node p id))) ≡ record { edge = id'; forward = true }
first_goes_on S e p id id' fs rows ids h =
    let one = first_part e S.next_ids.node p id in
    let two = second_part e S.next_ids.node p id' in
    let turn = pair_turns (flat_map both_ways fs) (backward_of one) (forward_of two) S.next_ids.node (backward_there fs one h.split.first) (forward_there fs two h.split.second) refl refl
    (λ q. false≢true (sym (ap (λ (z : HalfEdge). z.is_forward) q))) (two_there S e p id id' fs rows ids h) in
    ap (λ (z : HalfEdge). dart_of (next_of (flat_map both_ways fs) z)) (twin_back one)
    ∙ ap dart_of (turns_next (split_with S p fs rows ids) (backward_of one) (forward_of two) h.more turn)

-- and, walked back, the first the second
pub second_goes_back : (S : Drawing) (e : Edge) (p : Point) (id id' : ℕ) (fs : List Edge) (rows : List RelationRow) (ids : Counters) → IsSplitOf S e p id id' fs rows ids
    → dart_of (next_of (flat_map both_ways fs) (backward_of (second_part e S.next_ids.node p id'))) ≡ record { edge = id; forward = false }
second_goes_back S e p id id' fs rows ids h =
    let one = first_part e S.next_ids.node p id in
    let two = second_part e S.next_ids.node p id' in
    let turn = pair_turns (flat_map both_ways fs) (forward_of two) (backward_of one) S.next_ids.node (forward_there fs two h.split.second) (backward_there fs one h.split.first) refl refl
    (λ q. false≢true (ap (λ (z : HalfEdge). z.is_forward) q))
    (λ k ck at. ⊎_elim (λ (q : k ≡ backward_of one). inr q) (λ (q : k ≡ forward_of two). inl q) (two_there S e p id id' fs rows ids h k ck at)) in
    ap dart_of (turns_next (split_with S p fs rows ids) (forward_of two) (backward_of one) h.more turn)

-- ---- the links
-- of another edge
pub other_links : (S : Drawing) (e : Edge) (p : Point) (id id' : ℕ) (fs : List Edge) (rows : List RelationRow) (ids : Counters) → IsSplitOf S e p id id' fs rows ids → (x : Edge) → Contains S.edges x → (x.edge_id ≡ e.edge_id → ⊥)
    → (dart_of (next_of (flat_map both_ways fs) (forward_of x)) ≡ renamed e.edge_id id id' (dart_of (next_of (half_edges S) (forward_of x))))
    × (dart_of (next_of (flat_map both_ways fs) (backward_of x)) ≡ renamed e.edge_id id id' (dart_of (next_of (half_edges S) (backward_of x))))
other_links S e p id id' fs rows ids h x c other =
    let on = next_renamed S e p id id' fs rows ids h (forward_of x) (backward_of x) (forward_there S.edges x c) (other_stands S e p id id' fs h.split x (backward_of x) c other (inr refl)) in
    let stands = subst (λ (z : HalfEdge). StandsFor S e id id' fs z (forward_of x)) (twin_back x) (other_stands S e p id id' fs h.split x (forward_of x) c other (inl refl)) in (
      ap (λ (z : HalfEdge). dart_of (next_of (flat_map both_ways fs) z)) (twin_back x) ∙ on,
      next_renamed S e p id id' fs rows ids h (backward_of x) (forward_of x) (backward_there S.edges x c) stands,
    )

-- of the second part, and of the first part walked back
pub second_goes_on : (S : Drawing) (e : Edge) (p : Point) (id id' : ℕ) (fs : List Edge) (rows : List RelationRow) (ids : Counters) → IsSplitOf S e p id id' fs rows ids
    → dart_of (next_of (flat_map both_ways fs) (forward_of (second_part e S.next_ids.node p id'))) ≡ renamed e.edge_id id id' (dart_of (next_of (half_edges S) (forward_of e)))
second_goes_on S e p id id' fs rows ids h =
    let two = second_part e S.next_ids.node p id' in
    ap (λ (z : HalfEdge). dart_of (next_of (flat_map both_ways fs) z)) (twin_back two)
    ∙ next_renamed S e p id id' fs rows ids h (forward_of e) (backward_of two) (forward_there S.edges e h.split.there) (second_stands S e p id id' fs h.split)

pub first_goes_back : (S : Drawing) (e : Edge) (p : Point) (id id' : ℕ) (fs : List Edge) (rows : List RelationRow) (ids : Counters) → IsSplitOf S e p id id' fs rows ids
    → dart_of (next_of (flat_map both_ways fs) (backward_of (first_part e S.next_ids.node p id))) ≡ renamed e.edge_id id id' (dart_of (next_of (half_edges S) (backward_of e)))
first_goes_back S e p id id' fs rows ids h =
    let one = first_part e S.next_ids.node p id in
    next_renamed S e p id id' fs rows ids h (backward_of e) (forward_of one) (backward_there S.edges e h.split.there)
    (subst (λ (z : HalfEdge). StandsFor S e id id' fs z (forward_of one)) (twin_back e) (first_stands S e p id id' fs h.split))
