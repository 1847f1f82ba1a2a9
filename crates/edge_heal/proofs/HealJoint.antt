-- Two edges that may be healed at a node: what is known of them, and of the drawing after it.
use Rattle.std.proofs.Common.{◌≡◌, ℕ, refl, sym, ◌∙◌, ap, subst, ◌⊎◌, ⊎_elim, Bool, true, false, not, cond, ◌||◌, [], ◌∷◌, Some, Ok, Err}
use Rattle.std.specs.Prelude.{◌==◌}
use Rattle.std.specs.List.{Contains}
use Rattle.std.proofs.lemmas.Bool.{or_from}
use Rattle.topo_base.specs.declared.edit.Edit.TheVariants.{ModEdgeHeal, NewEdgeHeal}
use Rattle.topo_base.specs.declared.rows.EdgeRow.{EdgeRow}
use Rattle.topo_base.specs.declared.rule.Rule.TheVariants.{ClosedEdge, HealSplitsFeature, NodeInFeature, NotJoined}
use Rattle.drawing.specs.Drawing.{Drawing, edge_at, has_node}
use Rattle.drawing.specs.HalfEdge.{half_edges}
use Rattle.drawing.specs.HealEdges.{common_nodes, heal_mod_done, heal_new_done, healed_node, is_closed, is_nothing}
use Rattle.drawing.specs.Edits.{heal_at, heal_edges, heal_mod, heal_new}
use Rattle.drawing.specs.Outcome.{Outcome}
use Rattle.drawing.specs.Relations.{edge_type, follow}
use Rattle.drawing.specs.Replay.{drawing_of}
use Rattle.drawing.specs.Tables.{drawn_edge, edge_row, tables_of}
use Rattle.drawing.specs.Apply.{Decision, carried_out}
use Rattle.drawing.specs.Decide.{edges_joined_at}
use Rattle.drawing.specs.Change.{EdgesAreJoined, EdgesAreJoinedAnew}
use Rattle.drawing.proofs.Members.{contains-mapped}
use Rattle.face_rings.proofs.FaceBorders.{has_plain_lines}
use Rattle.ring_laws.specs.Ringed.{IsRinged}
use Rattle.ring_laws.proofs.KnownStays.{end_is}
use Rattle.ring_laws.proofs.RingsStaying.{rings_stay}
use Rattle.edge_heal.specs.HealWrites.{healed_edges}
use Rattle.edge_heal.specs.Healing.{AreMeeting, IsJoint}
use Rattle.edge_heal.specs.NewHeal.{new_healed_edges}
use Rattle.edge_heal.proofs.HealLinks.{IsHealOf}
use Rattle.edge_heal.proofs.HealAgain.{either_done}
use Rattle.edge_split.proofs.SplitAllowed.{EndsKnown, ends_known}
use Rattle.ring_laws.proofs.Joint.{make_joint}
use Rattle.ring_laws.proofs.EdgesJoin.{may_be_joined, joined_anew, joined_changed}
use Rattle.ring_laws.proofs.RingedDrawings.{before_of}

-- the row of an edge is that of an edge of the drawing
pub row_drawn : (S : Drawing) (r : EdgeRow) → Contains (tables_of S).edges r → Contains S.edges (drawn_edge r)
row_drawn S r there = let (e, (c, is)) = contains-mapped (edge_row (half_edges S)) r S.edges there in subst (Contains S.edges) (ap drawn_edge is) c

pub row_made : (S : Drawing) (r : EdgeRow) → Contains (tables_of S).edges r → r ≡ edge_row (half_edges S) (drawn_edge r)
row_made S r there = let (e, (c, is)) = contains-mapped (edge_row (half_edges S)) r S.edges there in sym is ∙ ap (λ (q : EdgeRow). edge_row (half_edges S) (drawn_edge q)) is

-- ---- the edit is accepted
passed : (S : Drawing) (closed apart : Bool) (d : Decision) (x : Outcome) → closed ≡ false → apart ≡ false → carried_out S d ≡ x → carried_out S (cond closed (Err ClosedEdge) (cond apart (Err NotJoined) d)) ≡ x
passed S closed apart d x opened joined is = (λ i. carried_out S (cond (opened i) (Err ClosedEdge) (cond (joined i) (Err NotJoined) d))) ∙ is

pub heals : (anew : Bool) (S : Drawing) (r q : EdgeRow) (n : ℕ) → IsJoint S r q n
    → heal_edges anew S (edge_at S r.edge_id) (edge_at S q.edge_id) ≡ cond anew (heal_new S (drawn_edge r) (drawn_edge q) n) (heal_mod S (drawn_edge r) (drawn_edge q) n)
heals anew S r q n h =
    let e = drawn_edge r in
    let f = drawn_edge q in
    let may = may_be_joined S e f n (row_drawn S r h.first) (row_drawn S q h.second) h.first_open h.second_open h.apart h.healed h.shared h.unlisted in
    let done = cond anew (heal_new S e f n) (heal_mod S e f n) in
    let at : heal_at anew S e f (Some n) ≡ done = (λ i. carried_out S (cond (not (h.shared i)) (Err HealSplitsFeature) (cond (h.unlisted i) (Err NodeInFeature) (cond anew (Ok (EdgesAreJoinedAnew e f n)) (Ok (EdgesAreJoined e f n)))))) ∙ either_done anew S e f n in
    (λ i. heal_edges anew S (h.first_named i) (h.second_named i))
    ∙ passed S (is_closed e || is_closed f) (e.edge_id == f.edge_id || is_nothing (common_nodes e f)) (edges_joined_at anew S e f (healed_node S e f)) done (or_from (is_closed e) (is_closed f) h.first_open h.second_open)
    (or_from (e.edge_id == f.edge_id) (is_nothing (common_nodes e f)) h.apart may.meet) (ap (heal_at anew S e f) h.healed ∙ at)

-- ---- both drawings are plain
pub mod_is : (S : Drawing) (r q : EdgeRow) (n : ℕ) → IsRinged S → IsJoint S r q n
    → IsHealOf S n (drawn_edge r) (drawn_edge q) r.edge_id (healed_edges S n (drawn_edge r) (drawn_edge q)) (follow S edge_type (r.edge_id ∷ q.edge_id ∷ []) (r.edge_id ∷ [])) S.next_ids
mod_is S r q n ringed h =
    let good = has_plain_lines S ringed.rings in
    let after : IsRinged (heal_mod_done S (drawn_edge r) (drawn_edge q) n).drawing = subst IsRinged (ap (drawing_of S) (heals false S r q n h)) (rings_stay.each_edit S (ModEdgeHeal r.edge_id q.edge_id) refl ringed) in
    record {
      lines = good;
      healed = joined_changed S n (drawn_edge r) (drawn_edge q) (may_be_joined S (drawn_edge r) (drawn_edge q) n (row_drawn S r h.first) (row_drawn S q h.second) h.first_open h.second_open h.apart h.healed h.shared h.unlisted) (before_of S ringed);
      more = has_plain_lines (heal_mod_done S (drawn_edge r) (drawn_edge q) n).drawing after.rings;
    }

pub new_is : (S : Drawing) (r q : EdgeRow) (n : ℕ) → IsRinged S → IsJoint S r q n
    → IsHealOf S n (drawn_edge r) (drawn_edge q) S.next_ids.edge (new_healed_edges S n (drawn_edge r) (drawn_edge q)) (follow S edge_type (r.edge_id ∷ q.edge_id ∷ []) (S.next_ids.edge ∷ []))
    (heal_new_done S (drawn_edge r) (drawn_edge q) n).drawing.next_ids
new_is S r q n ringed h =
    let good = has_plain_lines S ringed.rings in
    let after : IsRinged (heal_new_done S (drawn_edge r) (drawn_edge q) n).drawing = subst IsRinged (ap (drawing_of S) (heals true S r q n h)) (rings_stay.each_edit S (NewEdgeHeal r.edge_id q.edge_id) refl ringed) in
    record {
      lines = good;
      healed = joined_anew S n (drawn_edge r) (drawn_edge q) (may_be_joined S (drawn_edge r) (drawn_edge q) n (row_drawn S r h.first) (row_drawn S q h.second) h.first_open h.second_open h.apart h.healed h.shared h.unlisted);
      more = has_plain_lines (heal_new_done S (drawn_edge r) (drawn_edge q) n).drawing after.rings;
    }

-- ---- what is there
pub first_known : (S : Drawing) (r q : EdgeRow) (n : ℕ) → IsRinged S → IsJoint S r q n → EndsKnown S (drawn_edge r)
first_known S r q n ringed h = ends_known S (drawn_edge r) ringed.edges (row_drawn S r h.first)

pub second_known : (S : Drawing) (r q : EdgeRow) (n : ℕ) → IsRinged S → IsJoint S r q n → EndsKnown S (drawn_edge q)
second_known S r q n ringed h = ends_known S (drawn_edge q) ringed.edges (row_drawn S q h.second)

pub node_known : (S : Drawing) (r q : EdgeRow) (n : ℕ) → IsRinged S → IsJoint S r q n → has_node S n ≡ true
node_known S r q n ringed h =
    let known = first_known S r q n ringed h in
    ⊎_elim (λ (p : r.start_node ≡ n). subst (λ m. has_node S m ≡ true) p known.start) (λ (p : r.end_node ≡ n). subst (λ m. has_node S m ≡ true) p known.end) (end_is n (drawn_edge r) (mod_is S r q n ringed h).healed.at_e)

-- the lines meet at the node
pub meeting : (S : Drawing) (r q : EdgeRow) (n : ℕ) → IsRinged S → IsJoint S r q n → AreMeeting (drawn_edge r) (drawn_edge q) n
meeting S r q n ringed h =
    let g = mod_is S r q n ringed h in
    let j = make_joint S n (drawn_edge r) (drawn_edge q) r.edge_id (healed_edges S n (drawn_edge r) (drawn_edge q)) g.lines g.healed in
    record { at_end = j.at_end; at_start = j.at_start }
