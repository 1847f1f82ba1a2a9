-- Drafts in which the first of two edges becomes the edge that both are healed into: the facts that the calls want.
use Rattle.std.proofs.Common.{◌≡◌, ℕ, sym, ◌∙◌, ap, subst, Bool, true, false, List, [], ◌∷◌}
use Rattle.std.specs.Prelude.{◌==◌}
use Rattle.std.specs.List.{Contains}
use Rattle.topo_base.specs.declared.rows.EdgeRow.{EdgeRow}
use Rattle.topo_base.specs.declared.write.RowWrite.{RowWrite}
use Rattle.drawing.specs.Drawing.{Drawing}
use Rattle.drawing.specs.HalfEdge.{half_edges}
use Rattle.drawing.specs.Outcome.{the_edge, the_node}
use Rattle.drawing.specs.Tables.{Tables, drawn_edge, tables_of}
use Rattle.drawing.specs.Writable.{CanWriteAll}
use Rattle.drawing.specs.Writes.{all_written}
use Rattle.read_set.specs.Drafted.{IsDraftOf}
use Rattle.read_set.specs.Edited.{IsTried}
use Rattle.edge_heal.specs.HealWrites.{merged_rows, mod_heal_in, mod_heal_rows, mod_heal_writes}
use Rattle.drawing.specs.HealEdges.{heal_mod_done}
use Rattle.edge_heal.specs.Healing.{IsJoint}
use Rattle.edge_heal.specs.Joined.{follows_on, row_follower}
use Rattle.ring_laws.specs.Ringed.{IsRinged}
use Rattle.edge_heal.specs.Renamed.{healed_name}
use Rattle.edge_split.specs.Splitting.{rows_boxed_as}
use Rattle.read_set.specs.declared.edited.Tried.{Tried}
use Rattle.edge_heal.proofs.HealAllowed.{heal_can, heal_written}
use Rattle.edge_heal.proofs.HealBoxes.{healed_boxes}
use Rattle.edge_heal.proofs.HealedRows.{link_on}
use Rattle.edge_heal.proofs.HealJoint.{first_known, mod_is, node_known, row_made, second_known}
use Rattle.edge_split.proofs.LinkWrites.{follower}

-- ---- what follows the joined edge, by the rows
pub follower_is : (S : Drawing) (r : EdgeRow) (way : Bool) → Contains (tables_of S).edges r → row_follower r way ≡ follower (half_edges S) (drawn_edge r) way
follower_is S r true there = ap (λ (q : EdgeRow). q.next_left_edge) (row_made S r there)
follower_is S r false there = ap (λ (q : EdgeRow). q.next_right_edge) (row_made S r there)

pub on_is : (S : Drawing) (r q : EdgeRow) (n id : ℕ) → IsJoint S r q n → follows_on r q n id ≡ link_on S n (drawn_edge r) (drawn_edge q) id
on_is S r q n id joint = ap (healed_name r.edge_id q.edge_id id (n == r.end_node)) (follower_is S q (q.start_node == n) joint.second)

-- ---- the writes
list_is : (S : Drawing) (rows : List EdgeRow) (r q : EdgeRow) (n : ℕ) (ws : List RowWrite) → IsJoint S r q n → rows ≡ (tables_of S).edges → ws ≡ mod_heal_rows rows r q n
    → ws ≡ mod_heal_writes (tables_of S).edges (drawn_edge r) (drawn_edge q) n (link_on S n (drawn_edge r) (drawn_edge q) r.edge_id)
list_is S rows r q n ws joint same is = is ∙ (λ i. mod_heal_writes (same i) (drawn_edge r) (drawn_edge q) n (on_is S r q n r.edge_id joint i))

pub heal_may : (S : Drawing) (t : Tables) (rows : List EdgeRow) (r q : EdgeRow) (n : ℕ) (ws : List RowWrite) → IsRinged S → IsJoint S r q n → t ≡ tables_of S → rows ≡ (tables_of S).edges → ws ≡ mod_heal_rows rows r q n → CanWriteAll t.next_ids t ws
heal_may S t rows r q n ws ringed joint stands same is =
    let can = heal_can S n (drawn_edge r) (drawn_edge q) _ _ (mod_is S r q n ringed joint) (first_known S r q n ringed joint) (second_known S r q n ringed joint) (node_known S r q n ringed joint) in
    let on_list = subst (λ (vs : List RowWrite). CanWriteAll S.next_ids (tables_of S) vs) (sym (list_is S rows r q n ws joint same is)) can in
    subst (λ (u : Tables). CanWriteAll u.next_ids u ws) (sym stands) on_list

pub heal_after : (S : Drawing) (t u : Tables) (rows : List EdgeRow) (r q : EdgeRow) (n : ℕ) (ws : List RowWrite) → IsRinged S → IsJoint S r q n → t ≡ tables_of S → rows ≡ (tables_of S).edges → ws ≡ mod_heal_rows rows r q n
    → u ≡ all_written t.next_ids t ws → u ≡ rows_boxed_as S (mod_heal_in S (drawn_edge r) (drawn_edge q) n)
heal_after S t u rows r q n ws ringed joint stands same is made =
    made ∙ ap (λ (v : Tables). all_written v.next_ids v ws) stands ∙ ap (all_written S.next_ids (tables_of S)) (list_is S rows r q n ws joint same is)
    ∙ heal_written S n (drawn_edge r) (drawn_edge q) _ _ (mod_is S r q n ringed joint)

-- ---- all is done
followed_is : (S : Drawing) (r q : EdgeRow) (n : ℕ) → IsRinged S → IsJoint S r q n
    → merged_rows (rows_boxed_as S (mod_heal_in S (drawn_edge r) (drawn_edge q) n)) r.edge_id q.edge_id ≡ tables_of (heal_mod_done S (drawn_edge r) (drawn_edge q) n).drawing
followed_is S r q n ringed joint =
    let e = drawn_edge r in
    let f = drawn_edge q in
    let heal = mod_is S r q n ringed joint in
    let T = (heal_mod_done S e f n).drawing in
    let boxes = healed_boxes S T n e f e.edge_id S.faces heal.lines ringed.rings.one_face heal.healed in
    λ i. record (tables_of T) { faces = boxes i }

pub heal_edited : (S : Drawing) (r q : EdgeRow) (n : ℕ) (t : Tables) (d : Tried) (first second : ℕ) → IsRinged S → IsJoint S r q n → IsDraftOf S d.draft → t ≡ rows_boxed_as S (mod_heal_in S (drawn_edge r) (drawn_edge q) n)
    → first ≡ r.edge_id → second ≡ q.edge_id → d.draft.rows ≡ merged_rows t first second → d.ids ≡ the_node n ∷ the_edge first ∷ [] → IsTried S (heal_mod_done S (drawn_edge r) (drawn_edge q) n) d
heal_edited S r q n t d first second ringed joint draft rows one two followed ids = record {
  draft = draft;
  rows = followed ∙ (λ i. merged_rows (rows i) (one i) (two i)) ∙ followed_is S r q n ringed joint;
  ids = sym (ids ∙ (λ i. the_node n ∷ the_edge (one i) ∷ []));
}
