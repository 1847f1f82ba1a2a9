-- Two edges that are joined keep a drawing one whose rings have one face each.
use Rattle.std.proofs.Common.{◌≡◌, ℕ, refl, sym, inl, inr, ◌⊎◌, ⊎_elim, ◌==◌, eq-eqb, List, [], ◌∷◌, ◌++◌, Bool, true, false, Some}
use Rattle.std.specs.List.{Contains}
use Rattle.std.proofs.lemmas.Bool.{eqb-false, or_left, or_right}
use Rattle.std.proofs.lemmas.List.Elements.{Contains-push, Contains-append_left}
use Rattle.topo_base.specs.declared.rows.Counters.{Counters}
use Rattle.topo_base.specs.declared.rows.RelationRow.{RelationRow}
use Rattle.drawing.specs.Drawing.{Drawing, Edge, edge_id_of, has_only, is_end_of}
use Rattle.drawing.specs.HealEdges.{joined_edge, common_nodes, healed_node, is_closed, is_nothing}
use Rattle.drawing.specs.Rows.{without_row, with_change}
use Rattle.drawing.specs.IsoEdits.{is_in_feature}
use Rattle.drawing.specs.Relations.{edge_type, node_type}
use Rattle.drawing.specs.RemoveEdge.{have_same_features}
use Rattle.drawing.proofs.Members.{contains-filtered, contains-found}
use Rattle.edit_changes.specs.Evidence.{EdgesMayBeJoined}
use Rattle.edit_changes.proofs.PlainHeals.{IsBeside}
use Rattle.edit_changes.proofs.PlainHealing.{no_third, from_mod, from_new}
use Rattle.edit_changes.proofs.PlainStaying.{has_plain}
use Rattle.edit_changes.proofs.PlainStays.{can_heal}
use Rattle.face_rings.proofs.HalfLines.{HasPlainLines}
use Rattle.ring_laws.proofs.EdgesCut.{changed_there, unchanged_there}
use Rattle.ring_laws.proofs.HealedSides.{healed_with, healed_joined, healed_known}
use Rattle.ring_laws.proofs.RingedDrawings.{AreRinged, IsBefore}
use Rattle.ring_laws.proofs.Turning.{joined_of, rings_of}
use Rattle.ring_laws.proofs.WithoutEdge.{kept_edge}
use Rattle.ring_laws.proofs.Joint.{IsHealed}
use Rattle.plane.proofs.ListTests.{contains_cases, contains_none}

-- ---- edges that may be joined at a node
-- a list with an element is not nothing
something : (ns : List ℕ) (n : ℕ) → Contains ns n → is_nothing ns ≡ false
something [] n c = absurd (contains_none n c)
something (m ∷ ns) n c = refl

-- two open edges that are healed at this node
pub may_be_joined : (S : Drawing) (e f : Edge) (n : ℕ) → Contains S.edges e → Contains S.edges f → is_closed e ≡ false → is_closed f ≡ false → (e.edge_id == f.edge_id) ≡ false → healed_node S e f ≡ Some n
    → have_same_features S edge_type e.edge_id f.edge_id ≡ true → is_in_feature S node_type n ≡ false → EdgesMayBeJoined S e f n
may_be_joined S e f n ce cf e_open f_open apart healed alike unlisted =
    let found = contains-found (λ m. has_only S m e.edge_id f.edge_id) n (common_nodes e f) healed in
    let common = contains-filtered (λ m. is_end_of m f) n (e.end_node ∷ e.start_node ∷ []) found.0 in
    record {
      first_there = ce;
      second_there = cf;
      first_open = e_open;
      second_open = f_open;
      differ = eqb-false e.edge_id f.edge_id apart;
      meet = something (common_nodes e f) n found.0;
      node = healed;
      on_first = ⊎_elim (λ (p : e.end_node ≡ n). inl (sym p))
          (λ (c : Contains (e.start_node ∷ []) n). ⊎_elim (λ (p : e.start_node ≡ n). inr (sym p)) (λ (c : Contains [] n). absurd (contains_none n c)) (contains_cases n e.start_node [] c))
          (contains_cases n e.end_node (e.start_node ∷ []) common.0);
      on_second = common.1;
      only = found.1;
      alike = alike;
      unlisted = unlisted;
    }

-- ---- the edges with the joined one
joined_into : (S : Drawing) (n : ℕ) (e f : Edge) (id : ℕ) (fs : List Edge) → EdgesMayBeJoined S e f n → ((x : Edge) → Contains fs x → IsBeside S.edges e f n x ⊎ (joined_edge n e f id ≡ x))
    → ((x : Edge) → Contains S.edges x → (x.edge_id ≡ e.edge_id → ⊥) → (x.edge_id ≡ f.edge_id → ⊥) → Contains fs x) → Contains fs (joined_edge n e f id) → IsHealed S n e f id fs
joined_into S n e f id fs k from old made =
    let g = can_heal S e f n k in
    record {
      e_there = k.first_there;
      f_there = k.second_there;
      differ = k.differ;
      e_open = g.e_open;
      f_open = g.f_open;
      at_e = ⊎_elim (λ (p : n ≡ e.end_node). or_right (e.start_node == n) (e.end_node == n) (eq-eqb e.end_node n (sym p))) (λ (p : n ≡ e.start_node). or_left (e.start_node == n) (e.end_node == n) (eq-eqb e.start_node n (sym p))) k.on_first;
      at_f = k.on_second;
      only = λ x c far away. no_third S n e.edge_id f.edge_id x k.only c far away;
      from = λ x c. ⊎_elim (λ (b : IsBeside S.edges e f n x). inl (b.there, b.not_e, b.not_f)) (λ (p : joined_edge n e f id ≡ x). inr p) (from x c);
      old = old;
      made = made;
    }

-- it is new
pub joined_anew : (S : Drawing) (n : ℕ) (e f : Edge) → EdgesMayBeJoined S e f n
    → IsHealed S n e f S.next_ids.edge (without_row edge_id_of (without_row edge_id_of S.edges e.edge_id) f.edge_id ++ joined_edge n e f S.next_ids.edge ∷ [])
joined_anew S n e f k =
    let J = joined_edge n e f S.next_ids.edge in
    let less = without_row edge_id_of (without_row edge_id_of S.edges e.edge_id) f.edge_id in
    joined_into S n e f S.next_ids.edge (less ++ J ∷ []) k (from_new S e f n S.next_ids.edge (can_heal S e f n k))
    (λ x c far away. Contains-append_left less (J ∷ []) x (kept_edge (without_row edge_id_of S.edges e.edge_id) f x (kept_edge S.edges e x c far) away)) (Contains-push less J)

-- the first edge becomes it
pub joined_changed : (S : Drawing) (n : ℕ) (e f : Edge) → EdgesMayBeJoined S e f n → IsBefore S
    → IsHealed S n e f e.edge_id (with_change edge_id_of (without_row edge_id_of S.edges f.edge_id) e.edge_id (λ x. joined_edge n x f x.edge_id))
joined_changed S n e f k h =
    let less = without_row edge_id_of S.edges f.edge_id in
    let join = λ (x : Edge). joined_edge n x f x.edge_id in
    joined_into S n e f e.edge_id (with_change edge_id_of less e.edge_id join) k (from_mod S e f n (has_plain S h.ordered) (can_heal S e f n k))
    (λ x c far away. unchanged_there less e.edge_id join x (kept_edge S.edges f x c away) far) (changed_there less e.edge_id join e (kept_edge S.edges f e k.first_there k.differ) refl)

-- ---- the rings
pub joined_ringed : (S : Drawing) (n : ℕ) (e f : Edge) (id : ℕ) (fs : List Edge) (rows : List RelationRow) (ids : Counters) → IsBefore S → IsHealed S n e f id fs → HasPlainLines (healed_with S n fs rows ids) → AreRinged (healed_with S n fs rows ids)
joined_ringed S n e f id fs rows ids h healed more = record {
  one_face = rings_of (healed_with S n fs rows ids) more (healed_joined S n e f id fs rows ids h.lines healed more (joined_of S h.lines h.ringed.one_face));
  known = healed_known S n e f id fs rows ids h.lines healed h.ringed.known;
}
