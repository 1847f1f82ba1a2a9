-- Drafts in which a new edge comes in the place of two that are healed: the facts that the calls want.
use Rattle.std.proofs.Common.{◌≡◌, ℕ, sym, ◌∙◌, ap, subst, arith, not, List, [], ◌∷◌, refl}
use Rattle.std.specs.Prelude.{◌==◌}
use Rattle.topo_base.specs.declared.rows.EdgeRow.{EdgeRow}
use Rattle.topo_base.specs.declared.write.RowWrite.{RowWrite}
use Rattle.drawing.specs.Drawing.{Drawing, Edge}
use Rattle.drawing.specs.Outcome.{the_edge, the_node}
use Rattle.drawing.specs.Relations.{edge_type}
use Rattle.drawing.specs.Tables.{Tables, drawn, drawn_edge, tables_of}
use Rattle.drawing.specs.Writable.{CanWriteAll}
use Rattle.drawing.specs.Writes.{all_written}
use Rattle.read_set.specs.Drafted.{IsDraftOf}
use Rattle.relation_rows.specs.KnownRows.{KnowsRows}
use Rattle.relation_rows.proofs.MergedInto.{follow_two, knows_followed, knows_rows}
use Rattle.read_set.specs.Edited.{IsTried}
use Rattle.drawing.specs.HealEdges.{heal_new_done}
use Rattle.edge_heal.specs.Healing.{IsJoint}
use Rattle.edge_heal.specs.NewHeal.{follows_back, listed_anew, new_heal_in, new_heal_rows, new_heal_writes}
use Rattle.read_set.specs.Ready.{IsReady}
use Rattle.ring_laws.specs.Ringed.{IsRinged}
use Rattle.edge_heal.specs.Renamed.{healed_name}
use Rattle.edge_split.specs.Splitting.{rows_boxed_as}
use Rattle.read_set.specs.declared.edited.Tried.{Tried}
use Rattle.edge_heal.proofs.HealBoxes.{healed_boxes}
use Rattle.edge_heal.proofs.HealDrafts.{follower_is, on_is}
use Rattle.edge_heal.proofs.HealJoint.{first_known, new_is, node_known, second_known}
use Rattle.edge_heal.proofs.HealedRows.{link_on}
use Rattle.edge_heal.proofs.NewHealAllowed.{new_heal_can, new_heal_written}
use Rattle.edge_heal.proofs.NewHealedRows.{link_back}

-- what follows the joined edge, walked back, by the rows
back_is : (S : Drawing) (r q : EdgeRow) (n new : ℕ) → IsJoint S r q n → follows_back r q n new ≡ link_back S n (drawn_edge r) (drawn_edge q) new
back_is S r q n new joint = ap (healed_name r.edge_id q.edge_id new (n == r.end_node)) (follower_is S r (not (n == r.end_node)) joint.first)

-- ---- the writes
list_is : (S : Drawing) (rows : List EdgeRow) (r q : EdgeRow) (n new : ℕ) (ws : List RowWrite) → IsJoint S r q n → rows ≡ (tables_of S).edges → new ≡ S.next_ids.edge → ws ≡ new_heal_rows rows r q n new
    → ws ≡ new_heal_writes (tables_of S).edges (drawn_edge r) (drawn_edge q) n S.next_ids.edge (link_on S n (drawn_edge r) (drawn_edge q) S.next_ids.edge) (link_back S n (drawn_edge r) (drawn_edge q) S.next_ids.edge)
list_is S rows r q n new ws joint same id is =
    is ∙ (λ i. new_heal_rows (same i) r q n (id i))
    ∙ (λ i. new_heal_writes (tables_of S).edges (drawn_edge r) (drawn_edge q) n S.next_ids.edge (on_is S r q n S.next_ids.edge joint i) (back_is S r q n S.next_ids.edge joint i))

pub new_heal_may : (S : Drawing) (t : Tables) (rows : List EdgeRow) (r q : EdgeRow) (n new : ℕ) (ws : List RowWrite) → IsReady S → IsRinged S → IsJoint S r q n → t ≡ tables_of S → rows ≡ (tables_of S).edges → new ≡ S.next_ids.edge
    → ws ≡ new_heal_rows rows r q n new → CanWriteAll t.next_ids t ws
new_heal_may S t rows r q n new ws ready ringed joint stands same id is =
    let e = drawn_edge r in
    let f = drawn_edge q in
    let more = ready.edge_more in
    let can = new_heal_can S n e f _ _ (new_is S r q n ringed joint) (first_known S r q n ringed joint) (second_known S r q n ringed joint) (node_known S r q n ringed joint) (omega (arith, more)) in
    let on_list = subst (λ (vs : List RowWrite). CanWriteAll S.next_ids (tables_of S) vs) (sym (list_is S rows r q n new ws joint same id is)) can in
    subst (λ (u : Tables). CanWriteAll u.next_ids u ws) (sym stands) on_list

pub new_heal_after : (S : Drawing) (t u : Tables) (rows : List EdgeRow) (r q : EdgeRow) (n new : ℕ) (ws : List RowWrite) → IsRinged S → IsJoint S r q n → t ≡ tables_of S → rows ≡ (tables_of S).edges → new ≡ S.next_ids.edge
    → ws ≡ new_heal_rows rows r q n new → u ≡ all_written t.next_ids t ws → u ≡ rows_boxed_as S (new_heal_in S (drawn_edge r) (drawn_edge q) n)
new_heal_after S t u rows r q n new ws ringed joint stands same id is made =
    made ∙ ap (λ (v : Tables). all_written v.next_ids v ws) stands ∙ ap (all_written S.next_ids (tables_of S)) (list_is S rows r q n new ws joint same id is)
    ∙ new_heal_written S n (drawn_edge r) (drawn_edge q) _ _ (new_is S r q n ringed joint)

-- ---- features
pub knows_healed : (S : Drawing) (t : Tables) (e f : Edge) (n : ℕ) → IsReady S → t ≡ rows_boxed_as S (new_heal_in S e f n) → KnowsRows t
knows_healed S t e f n ready is = subst KnowsRows (sym is) (knows_rows S (rows_boxed_as S (new_heal_in S e f n)) ready.references refl refl refl)

-- one edge after the other is both at once
pub listed_both : (t : Tables) (e f new : ℕ) → KnowsRows t → listed_anew (listed_anew t (e ∷ []) new) (f ∷ []) new ≡ listed_anew t (e ∷ f ∷ []) new
listed_both t e f new knows = λ i. record t { relations = follow_two (drawn t) edge_type e f new knows.layer knows.layers i }

pub knows_listed : (t : Tables) (gone : List ℕ) (new : ℕ) → KnowsRows t → KnowsRows (listed_anew t gone new)
knows_listed t gone new knows = knows_followed t edge_type gone new knows

-- ---- all is done
followed_is : (S : Drawing) (r q : EdgeRow) (n : ℕ) → IsRinged S → IsJoint S r q n
    → listed_anew (rows_boxed_as S (new_heal_in S (drawn_edge r) (drawn_edge q) n)) (r.edge_id ∷ q.edge_id ∷ []) S.next_ids.edge ≡ tables_of (heal_new_done S (drawn_edge r) (drawn_edge q) n).drawing
followed_is S r q n ringed joint =
    let e = drawn_edge r in
    let f = drawn_edge q in
    let heal = new_is S r q n ringed joint in
    let T = (heal_new_done S e f n).drawing in
    let boxes = healed_boxes S T n e f S.next_ids.edge S.faces heal.lines ringed.rings.one_face heal.healed in
    λ i. record (tables_of T) { faces = boxes i }

pub new_heal_edited : (S : Drawing) (r q : EdgeRow) (n : ℕ) (t : Tables) (d : Tried) (first second id : ℕ) → IsRinged S → IsJoint S r q n → IsDraftOf S d.draft → t ≡ rows_boxed_as S (new_heal_in S (drawn_edge r) (drawn_edge q) n)
    → first ≡ r.edge_id → second ≡ q.edge_id → id ≡ S.next_ids.edge → d.draft.rows ≡ listed_anew t (first ∷ second ∷ []) id → d.ids ≡ the_edge id ∷ the_node n ∷ []
    → IsTried S (heal_new_done S (drawn_edge r) (drawn_edge q) n) d
new_heal_edited S r q n t d first second id ringed joint draft rows one two new followed ids = record {
  draft = draft;
  rows = followed ∙ (λ i. listed_anew (rows i) (one i ∷ two i ∷ []) (new i)) ∙ followed_is S r q n ringed joint;
  ids = sym (ids ∙ (λ i. the_edge (new i) ∷ the_node n ∷ []));
}
