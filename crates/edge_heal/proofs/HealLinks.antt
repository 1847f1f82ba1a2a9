-- What follows each half-edge where two edges are healed into one.
use Rattle.std.proofs.Common.{◌≡◌, ℕ, refl, sym, ◌∙◌, ap, subst, ◌⊎◌, inl, inr, ⊎_elim, Bool, not, cond, List}
use Rattle.std.specs.Prelude.{flat_map, ◌==◌}
use Rattle.std.specs.List.{Contains}
use Rattle.std.proofs.lemmas.Bool.{or_left, or_right, eqb-true, eq-eqb, false_from_ne_true}
use Rattle.topo_base.specs.declared.ids.Dart.{Dart}
use Rattle.topo_base.specs.declared.rows.RelationRow.{RelationRow}
use Rattle.topo_base.specs.declared.rows.Counters.{Counters}
use Rattle.drawing.specs.Drawing.{Drawing, Edge}
use Rattle.drawing.specs.HalfEdge.{HalfEdge, forward_of, backward_of, both_ways, dart_of, half_edges, twin}
use Rattle.drawing.specs.HealEdges.{away_from, joined_edge}
use Rattle.drawing.specs.Star.{leaving, next_of}
use Rattle.face_rings.proofs.HalfLines.{HasPlainLines}
use Rattle.face_rings.proofs.HalvesApart.{half_of, forward_there, backward_there, twin_back}
use Rattle.ring_laws.proofs.Alike.{alike_same, LeavesAs, like_leaves, like_self, turns_over}
use Rattle.ring_laws.proofs.HealedSides.{healed_with}
use Rattle.ring_laws.proofs.SplitSides.{half_there}
use Rattle.ring_laws.proofs.Turning.{Turns, next_turns, spread_of, turns_next, twin_twin}
use Rattle.edge_heal.specs.Renamed.{healed_name}
use Rattle.ring_laws.proofs.Joint.{IsHealed, AreBoth, Joint, away_ends, both_cases, edge_cases, first_there, id_of, make_joint, second_there}

-- ---- both drawings are plain
pub record IsHealOf (S : Drawing) (n : ℕ) (e f : Edge) (id : ℕ) (fs : List Edge) (rows : List RelationRow) (ids : Counters) : Type 0 where
  pub lines : HasPlainLines S
  pub healed : IsHealed S n e f id fs
  pub more : HasPlainLines (healed_with S n fs rows ids)

-- the name of a dart after the edit
abbrev pub name_in : ℕ → Edge → Edge → ℕ → Dart → Dart
name_in n e f id d = healed_name e.edge_id f.edge_id id (n == e.end_node) d

-- k is the half-edge that leaves its node where h does, by its new name
pub record StandsIn (S : Drawing) (n : ℕ) (e f : Edge) (id : ℕ) (fs : List Edge) (h k : HalfEdge) : Type 0 where
  pub there : Contains (half_edges S) h
  pub new : Contains (flat_map both_ways fs) k
  pub leaves : LeavesAs h k
  pub name : dart_of k ≡ name_in n e f id (dart_of h)

other_name : (e f id : ℕ) (way : Bool) (d : Dart) → (d.edge ≡ e → ⊥) → (d.edge ≡ f → ⊥) → healed_name e f id way d ≡ d
other_name e f id way d far away =
    ap (λ b. cond b (record { edge = id; forward = not way }) (cond (d.edge == e) (record { edge = id; forward = way }) d)) (false_from_ne_true (d.edge == f) (λ t. away (eqb-true d.edge f t)))
    ∙ ap (λ b. cond b (record { edge = id; forward = way }) d) (false_from_ne_true (d.edge == e) (λ t. far (eqb-true d.edge e t)))

first_name : (e f id : ℕ) (way : Bool) (d : Dart) → (e ≡ f → ⊥) → d.edge ≡ e → healed_name e f id way d ≡ record { edge = id; forward = way }
first_name e f id way d differ is =
    ap (λ b. cond b (record { edge = id; forward = not way }) (cond (d.edge == e) (record { edge = id; forward = way }) d)) (false_from_ne_true (d.edge == f) (λ t. differ (sym is ∙ eqb-true d.edge f t)))
    ∙ ap (λ b. cond b (record { edge = id; forward = way }) d) (eq-eqb d.edge e is)

second_name : (e f id : ℕ) (way : Bool) (d : Dart) → d.edge ≡ f → healed_name e f id way d ≡ record { edge = id; forward = not way }
second_name e f id way d is = ap (λ b. cond b (record { edge = id; forward = not way }) (cond (d.edge == e) (record { edge = id; forward = way }) d)) (eq-eqb d.edge f is)

start_stands : (S : Drawing) (n : ℕ) (e f : Edge) (id : ℕ) (fs : List Edge) → IsHealed S n e f id fs → (j : Joint S n e f id (joined_edge n e f id)) → StandsIn S n e f id fs j.up j.start
start_stands S n e f id fs h j = record {
  there = first_there S.edges e j.up (twin j.up) h.e_there j.of_e;
  new = first_there fs (joined_edge n e f id) j.start j.end h.made j.of_joined;
  leaves = record { node = j.start_node; way = alike_same (leaving j.up) (leaving j.start) j.start_way };
  name = j.start_dart ∙ sym (first_name e.edge_id f.edge_id id (n == e.end_node) (dart_of j.up) h.differ (sym (id_of e j.up (twin j.up) j.of_e)));
}

end_stands : (S : Drawing) (n : ℕ) (e f : Edge) (id : ℕ) (fs : List Edge) → IsHealed S n e f id fs → (j : Joint S n e f id (joined_edge n e f id)) → StandsIn S n e f id fs (twin j.on) j.end
end_stands S n e f id fs h j = record {
  there = second_there S.edges f j.on (twin j.on) h.f_there j.of_f;
  new = second_there fs (joined_edge n e f id) j.start j.end h.made j.of_joined;
  leaves = record { node = j.end_node; way = alike_same (leaving (twin j.on)) (leaving j.end) j.end_way };
  name = j.end_dart ∙ sym (second_name e.edge_id f.edge_id id (n == e.end_node) (dart_of (twin j.on)) (sym (id_of f j.on (twin j.on) j.of_f)));
}

other_stands : (S : Drawing) (n : ℕ) (e f : Edge) (id : ℕ) (fs : List Edge) → IsHealed S n e f id fs → (x : Edge) (h : HalfEdge) → Contains S.edges x → (x.edge_id ≡ e.edge_id → ⊥) → (x.edge_id ≡ f.edge_id → ⊥)
    → (forward_of x ≡ h) ⊎ (backward_of x ≡ h) → StandsIn S n e f id fs h h
other_stands S n e f id fs healed x h c far away way = record {
  there = half_there S.edges h x c way;
  new = half_there fs h x (healed.old x c far away) way;
  leaves = like_leaves h h (like_self h);
  name = sym (other_name e.edge_id f.edge_id id (n == e.end_node) (dart_of h) (λ q. far (of_edge way ∙ q)) (λ q. away (of_edge way ∙ q)));
}
  where
    of_edge : (forward_of x ≡ h) ⊎ (backward_of x ≡ h) → x.edge_id ≡ h.edge_id
    of_edge (inl q) = ap (λ (k : HalfEdge). k.edge_id) q
    of_edge (inr q) = ap (λ (k : HalfEdge). k.edge_id) q

-- each that leaves another node than the healed one has one that stands for it
stand_in : (S : Drawing) (n : ℕ) (e f : Edge) (id : ℕ) (fs : List Edge) → HasPlainLines S → IsHealed S n e f id fs → (g : HalfEdge) → Contains (half_edges S) g → (g.from_node ≡ n → ⊥) → (k : HalfEdge) × StandsIn S n e f id fs g k
stand_in S n e f id fs good h g cg far =
    let j = make_joint S n e f id fs good h in
    let r = half_of S.edges g cg in
    ⊎_elim
    (λ (p : r.edge ≡ e). ⊎_elim
    (λ (q : j.up ≡ g). (j.start, subst (λ (z : HalfEdge). StandsIn S n e f id fs z j.start) q (start_stands S n e f id fs h j)))
    (λ (q : twin j.up ≡ g). absurd (far (ap (λ (z : HalfEdge). z.from_node) (sym q) ∙ j.up_to)))
    (both_cases e j.up (twin j.up) g j.of_e (subst (λ (x : Edge). (forward_of x ≡ g) ⊎ (backward_of x ≡ g)) p r.way)))
    (λ (o : (r.edge ≡ f) ⊎ ((r.edge.edge_id ≡ e.edge_id → ⊥) × (r.edge.edge_id ≡ f.edge_id → ⊥))).
    ⊎_elim
    (λ (p : r.edge ≡ f). ⊎_elim
    (λ (q : j.on ≡ g). absurd (far (ap (λ (z : HalfEdge). z.from_node) (sym q) ∙ j.on_from)))
    (λ (q : twin j.on ≡ g). (j.end, subst (λ (z : HalfEdge). StandsIn S n e f id fs z j.end) q (end_stands S n e f id fs h j)))
    (both_cases f j.on (twin j.on) g j.of_f (subst (λ (x : Edge). (forward_of x ≡ g) ⊎ (backward_of x ≡ g)) p r.way)))
    (λ (p : (r.edge.edge_id ≡ e.edge_id → ⊥) × (r.edge.edge_id ≡ f.edge_id → ⊥)). (g, other_stands S n e f id fs h r.edge g r.there p.0 p.1 r.way))
    o)
    (edge_cases S n e f id fs r.edge good h r.there)

-- and each in the drawing after it stands for one
stood_for : (S : Drawing) (n : ℕ) (e f : Edge) (id : ℕ) (fs : List Edge) → HasPlainLines S → IsHealed S n e f id fs → (k : HalfEdge) → Contains (flat_map both_ways fs) k → (g : HalfEdge) × StandsIn S n e f id fs g k
stood_for S n e f id fs good h k ck =
    let j = make_joint S n e f id fs good h in
    let r = half_of fs k ck in
    ⊎_elim
    (λ (old : Contains S.edges r.edge × (r.edge.edge_id ≡ e.edge_id → ⊥) × (r.edge.edge_id ≡ f.edge_id → ⊥)). (k, other_stands S n e f id fs h r.edge k old.0 old.1 old.2 r.way))
    (λ (is : joined_edge n e f id ≡ r.edge).
    ⊎_elim
    (λ (q : j.start ≡ k). (j.up, subst (StandsIn S n e f id fs j.up) q (start_stands S n e f id fs h j)))
    (λ (q : j.end ≡ k). (twin j.on, subst (StandsIn S n e f id fs (twin j.on)) q (end_stands S n e f id fs h j)))
    (both_cases (joined_edge n e f id) j.start j.end k j.of_joined (subst (λ (x : Edge). (forward_of x ≡ k) ⊎ (backward_of x ≡ k)) (sym is) r.way)))
    (h.from r.edge r.there)

-- what is next stays next
named_turns : (S : Drawing) (n : ℕ) (e f : Edge) (id : ℕ) (fs : List Edge) (rows : List RelationRow) (ids : Counters) → IsHealOf S n e f id fs rows ids → (t s t' s' : HalfEdge)
    → Turns (half_edges S) t s → StandsIn S n e f id fs t t' → StandsIn S n e f id fs s s' → Turns (flat_map both_ways fs) t' s'
named_turns S n e f id fs rows ids h t s t' s' turn a b =
    turns_over (half_edges S) (flat_map both_ways fs) t s t' s' (spread_of S h.lines) (spread_of (healed_with S n fs rows ids) h.more) turn a.new b.new a.leaves b.leaves (λ k ck from.
    let (g, c) = stood_for S n e f id fs h.lines h.healed k ck in
    (g, (c.there, c.leaves)))

-- what follows is what followed, by its new name
pub next_named : (S : Drawing) (n : ℕ) (e f : Edge) (id : ℕ) (fs : List Edge) (rows : List RelationRow) (ids : Counters) → IsHealOf S n e f id fs rows ids → (h t : HalfEdge) → Contains (half_edges S) h → (h.to_node ≡ n → ⊥)
    → StandsIn S n e f id fs (twin h) t → dart_of (next_of (flat_map both_ways fs) (twin t)) ≡ name_in n e f id (dart_of (next_of (half_edges S) h))
next_named S n e f id fs rows ids g h t ch far stands =
    let turn = next_turns S h g.lines ch in
    let (k, s) = stand_in S n e f id fs g.lines g.healed (next_of (half_edges S) h) turn.second (λ q. far (sym turn.one_node ∙ q)) in
    ap dart_of (turns_next (healed_with S n fs rows ids) t k g.more (named_turns S n e f id fs rows ids g (twin h) (next_of (half_edges S) h) t k turn stands s)) ∙ s.name

-- ---- the links
-- of another edge
pub other_links : (S : Drawing) (n : ℕ) (e f : Edge) (id : ℕ) (fs : List Edge) (rows : List RelationRow) (ids : Counters) → IsHealOf S n e f id fs rows ids → (x : Edge) → Contains S.edges x → (x.edge_id ≡ e.edge_id → ⊥)
    → (x.edge_id ≡ f.edge_id → ⊥)
    → (dart_of (next_of (flat_map both_ways fs) (forward_of x)) ≡ name_in n e f id (dart_of (next_of (half_edges S) (forward_of x))))
    × (dart_of (next_of (flat_map both_ways fs) (backward_of x)) ≡ name_in n e f id (dart_of (next_of (half_edges S) (backward_of x))))
other_links S n e f id fs rows ids h x c far away =
    let off_end = λ (q : x.end_node ≡ n). h.healed.only x c far away (or_right (x.start_node == n) (x.end_node == n) (eq-eqb x.end_node n q)) in
    let off_start = λ (q : x.start_node ≡ n). h.healed.only x c far away (or_left (x.start_node == n) (x.end_node == n) (eq-eqb x.start_node n q)) in
    let on = next_named S n e f id fs rows ids h (forward_of x) (backward_of x) (forward_there S.edges x c) off_end (other_stands S n e f id fs h.healed x (backward_of x) c far away (inr refl)) in
    let stands = subst (λ (z : HalfEdge). StandsIn S n e f id fs z (forward_of x)) (twin_back x) (other_stands S n e f id fs h.healed x (forward_of x) c far away (inl refl)) in (
      ap (λ (z : HalfEdge). dart_of (next_of (flat_map both_ways fs) z)) (twin_back x) ∙ on,
      next_named S n e f id fs rows ids h (backward_of x) (forward_of x) (backward_there S.edges x c) off_start stands,
    )

-- of the joined edge: it goes on as the second edge did, away from the node, and back as the first did
pub record JoinedLinks (S : Drawing) (n : ℕ) (e f : Edge) (id : ℕ) (fs : List Edge) : Type 0 where
  pub up : HalfEdge
  pub start : HalfEdge
  pub end : HalfEdge
  pub is_up : AreBoth e up (twin up)
  pub up_way : up.is_forward ≡ (n == e.end_node)
  pub is_joined : AreBoth (joined_edge n e f id) start end
  pub start_dart : dart_of start ≡ record { edge = id; forward = n == e.end_node }
  pub goes_on : dart_of (next_of (flat_map both_ways fs) start) ≡ name_in n e f id (dart_of (next_of (half_edges S) (away_from n f)))
  pub goes_back : dart_of (next_of (flat_map both_ways fs) end) ≡ name_in n e f id (dart_of (next_of (half_edges S) (twin up)))

pub joined_links : (S : Drawing) (n : ℕ) (e f : Edge) (id : ℕ) (fs : List Edge) (rows : List RelationRow) (ids : Counters) → IsHealOf S n e f id fs rows ids → JoinedLinks S n e f id fs
joined_links S n e f id fs rows ids h =
    let j = make_joint S n e f id fs h.lines h.healed in
    let up_back = second_there S.edges e j.up (twin j.up) h.healed.e_there j.of_e in
    let on_there = first_there S.edges f j.on (twin j.on) h.healed.f_there j.of_f in
    let on_far = λ (q : j.on.to_node ≡ n). away_ends f j.on j.of_f h.healed.f_open (j.on_from ∙ sym q) in
    let up_far = λ (q : j.up.from_node ≡ n). away_ends e j.up j.of_e h.healed.e_open (q ∙ sym j.up_to) in
    let up_stands = subst (λ (z : HalfEdge). StandsIn S n e f id fs z j.start) (sym (twin_twin j.up)) (start_stands S n e f id fs h.healed j) in
    record {
      up = j.up;
      start = j.start;
      end = j.end;
      is_up = j.of_e;
      up_way = j.up_way;
      is_joined = j.of_joined;
      start_dart = j.start_dart;
      goes_on = ap (λ (z : HalfEdge). dart_of (next_of (flat_map both_ways fs) z)) j.start_twin ∙ next_named S n e f id fs rows ids h j.on j.end on_there on_far (end_stands S n e f id fs h.healed j)
          ∙ ap (λ (z : HalfEdge). name_in n e f id (dart_of (next_of (half_edges S) z))) j.on_is;
      goes_back = ap (λ (z : HalfEdge). dart_of (next_of (flat_map both_ways fs) z)) j.end_twin ∙ next_named S n e f id fs rows ids h (twin j.up) j.start up_back up_far up_stands;
    }
