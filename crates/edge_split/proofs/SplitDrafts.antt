-- Drafts in which an edge is split: the facts that the calls want.
use Rattle.std.proofs.Common.{◌≡◌, ℕ, ◌+◌, sym, ◌∙◌, ap, subst, true, eqb-true, List, [], ◌∷◌, Option, Some, Bor}
use Rattle.std.specs.Prelude.{◌==◌, option_copied}
use Rattle.std.specs.List.{Contains}
use Rattle.topo_base.specs.Point.{Point}
use Rattle.topo_base.specs.declared.rows.EdgeRow.{EdgeRow}
use Rattle.topo_base.specs.declared.write.RowWrite.{RowWrite}
use Rattle.drawing.specs.Content.{listing}
use Rattle.drawing.specs.Drawing.{Drawing, edge_at}
use Rattle.plane.specs.Line.{is_inside_line, is_proper, is_simple, segments_of}
use Rattle.plane.specs.LinePoints.{has_proper_segments}
use Rattle.drawing.specs.Outcome.{the_edge, the_node}
use Rattle.drawing.specs.Plain.{IsPlain}
use Rattle.plane.specs.Relation.{IsProper}
use Rattle.drawing.specs.Relations.{edge_type, lists_element}
use Rattle.drawing.specs.Rows.{row_at}
use Rattle.drawing.specs.Tables.{Tables, drawn, drawn_edge, tables_of}
use Rattle.drawing.specs.Writable.{CanWriteAll}
use Rattle.drawing.specs.Writes.{all_written, edge_row_id}
use Rattle.drawing.proofs.Members.{contains-found}
use Rattle.plane.proofs.ListTests.{Decides-all}
use Rattle.plane.proofs.SimpleTests.{Decides-proper, Decides-simple}
use Rattle.drawing_queries.proofs.RowTests.{edge_found, proper_rows}
use Rattle.face_rings.proofs.FaceBorders.{has_plain_lines}
use Rattle.read_set.specs.Drafted.{IsDraftOf}
use Rattle.relation_rows.proofs.KnownFeatures.{known_features}
use Rattle.ring_laws.specs.Ringed.{IsRinged}
use Rattle.ring_laws.proofs.Known.{all_out}
use Rattle.read_set.specs.Edited.{IsTried}
use Rattle.read_set.specs.Ready.{IsReady}
use Rattle.drawing.specs.SplitEdge.{split_mod_done, split_new_done}
use Rattle.edge_split.specs.Splitting.{HasFeaturesOf, IsCut, followed_rows, split_mod_in, split_new_in, rows_boxed_as}
use Rattle.edge_split.specs.Writes.{mod_writes, new_writes}
use Rattle.read_set.specs.declared.edited.Tried.{Tried}
use Rattle.edge_split.proofs.SplitAllowed.{ends_known, mod_can, new_can}
use Rattle.edge_split.proofs.SplitBoxes.{boxes_kept}
use Rattle.edge_split.proofs.SplitEdges.{cut_row, cut_there, mod_is, new_is}
use Rattle.edge_split.proofs.SplitRows.{mod_written, new_written, row_of}

-- ---- the edge
pub line_is_simple : (S : Drawing) (r : EdgeRow) (p : Point) → IsRinged S → IsCut S r p → is_simple r.geom ≡ true
line_is_simple S r p ringed cut =
    let good = has_plain_lines S ringed.rings in
    let there = cut_there S r p cut in
    let fit = good.plain.fit (drawn_edge r) there in
    (Decides-simple r.geom).1 ((Decides-all is_proper IsProper Decides-proper (segments_of r.geom)).0 fit.proper, good.plain.simple (drawn_edge r) there)

pub row_found : (t : Tables) (id : ℕ) (found : Option (Bor EdgeRow)) (row : Bor EdgeRow) → found ≡ Some row → option_copied found ≡ row_at edge_row_id t.edges id → Contains t.edges (row.now) × ((edge_row_id (row.now) == id) ≡ true)
row_found t id found row is e = contains-found (λ (r : EdgeRow). edge_row_id r == id) (row.now) t.edges (sym e ∙ ap option_copied is)

pub cut_of : (t : Tables) (id : ℕ) (found : Option (Bor EdgeRow)) (row : Bor EdgeRow) (p : Point) → t ≡ tables_of (drawn t) → found ≡ Some row → option_copied found ≡ row_at edge_row_id t.edges id → is_inside_line p (row.now).geom ≡ true → IsCut (drawn t) (row.now) p
cut_of t id found row p stands is e inside =
    let there = row_found t id found row is e in
    let named = edge_found t id found row is e in
    record {
      there = subst (λ (u : Tables). Contains u.edges (row.now)) stands there.0;
      named = subst (λ n. edge_at (drawn t) n ≡ Some (drawn_edge (row.now))) (sym (eqb-true (row.now).edge_id id there.1)) named;
      inside = inside;
    }

pub proper_line : (t : Tables) (id : ℕ) (found : Option (Bor EdgeRow)) (row : Bor EdgeRow) → IsPlain (drawn t) → found ≡ Some row → option_copied found ≡ row_at edge_row_id t.edges id → has_proper_segments (row.now).geom ≡ true
proper_line t id found row plain is e = all_out (λ (r : EdgeRow). has_proper_segments r.geom) t.edges (row.now) (proper_rows t plain) (row_found t id found row is e).0

-- ---- modedgesplit
mod_list : (S : Drawing) (rows : List EdgeRow) (r : EdgeRow) (p : Point) (n new : ℕ) (ws : List RowWrite) → IsCut S r p → rows ≡ (tables_of S).edges → n ≡ S.next_ids.node → new ≡ S.next_ids.edge → ws ≡ mod_writes rows r p n new
    → ws ≡ mod_writes (tables_of S).edges (row_of S (drawn_edge r)) p S.next_ids.node S.next_ids.edge
mod_list S rows r p n new ws cut same node edge is = let row = cut_row S r p cut in is ∙ (λ i. mod_writes (same i) (row i) p (node i) (edge i))

pub mod_may : (S : Drawing) (t : Tables) (rows : List EdgeRow) (r : EdgeRow) (p : Point) (n new : ℕ) (ws : List RowWrite) → IsReady S → IsRinged S → IsCut S r p → t ≡ tables_of S → rows ≡ (tables_of S).edges → n ≡ S.next_ids.node → new ≡ S.next_ids.edge
    → ws ≡ mod_writes rows r p n new → CanWriteAll t.next_ids t ws
mod_may S t rows r p n new ws ready ringed cut stands same node edge is =
    let e = drawn_edge r in
    let can = mod_can S e p _ _ (mod_is S r p ringed cut) (ends_known S e ringed.edges (cut_there S r p cut)) ready.node_more ready.edge_more in
    let on_list = subst (λ (vs : List RowWrite). CanWriteAll S.next_ids (tables_of S) vs) (sym (mod_list S rows r p n new ws cut same node edge is)) can in
    subst (λ (u : Tables). CanWriteAll u.next_ids u ws) (sym stands) on_list

pub mod_rows : (S : Drawing) (t u : Tables) (rows : List EdgeRow) (r : EdgeRow) (p : Point) (n new : ℕ) (ws : List RowWrite) → IsRinged S → IsCut S r p → t ≡ tables_of S → rows ≡ (tables_of S).edges → n ≡ S.next_ids.node → new ≡ S.next_ids.edge
    → ws ≡ mod_writes rows r p n new → u ≡ all_written t.next_ids t ws → u ≡ rows_boxed_as S (split_mod_in S (drawn_edge r) p)
mod_rows S t u rows r p n new ws ringed cut stands same node edge is made =
    made ∙ ap (λ (v : Tables). all_written v.next_ids v ws) stands ∙ ap (all_written S.next_ids (tables_of S)) (mod_list S rows r p n new ws cut same node edge is)
    ∙ mod_written S (drawn_edge r) p _ _ (mod_is S r p ringed cut)

-- ---- newedgessplit
new_list : (S : Drawing) (rows : List EdgeRow) (r : EdgeRow) (p : Point) (n one two : ℕ) (ws : List RowWrite) → IsCut S r p → rows ≡ (tables_of S).edges → n ≡ S.next_ids.node → one ≡ S.next_ids.edge → two ≡ S.next_ids.edge + 1
    → ws ≡ new_writes rows r p n one two → ws ≡ new_writes (tables_of S).edges (row_of S (drawn_edge r)) p S.next_ids.node S.next_ids.edge (S.next_ids.edge + 1)
new_list S rows r p n one two ws cut same node first second is = let row = cut_row S r p cut in is ∙ (λ i. new_writes (same i) (row i) p (node i) (first i) (second i))

pub new_may : (S : Drawing) (t : Tables) (rows : List EdgeRow) (r : EdgeRow) (p : Point) (n one two : ℕ) (ws : List RowWrite) → IsReady S → IsRinged S → IsCut S r p → t ≡ tables_of S → rows ≡ (tables_of S).edges → n ≡ S.next_ids.node → one ≡ S.next_ids.edge
    → two ≡ S.next_ids.edge + 1 → ws ≡ new_writes rows r p n one two → CanWriteAll t.next_ids t ws
new_may S t rows r p n one two ws ready ringed cut stands same node first second is =
    let e = drawn_edge r in
    let can = new_can S e p _ _ (new_is S r p ringed cut) (ends_known S e ringed.edges (cut_there S r p cut)) ready.node_more ready.edge_more in
    let on_list = subst (λ (vs : List RowWrite). CanWriteAll S.next_ids (tables_of S) vs) (sym (new_list S rows r p n one two ws cut same node first second is)) can in
    subst (λ (u : Tables). CanWriteAll u.next_ids u ws) (sym stands) on_list

pub new_rows : (S : Drawing) (t u : Tables) (rows : List EdgeRow) (r : EdgeRow) (p : Point) (n one two : ℕ) (ws : List RowWrite) → IsRinged S → IsCut S r p → t ≡ tables_of S → rows ≡ (tables_of S).edges → n ≡ S.next_ids.node
    → one ≡ S.next_ids.edge → two ≡ S.next_ids.edge + 1 → ws ≡ new_writes rows r p n one two → u ≡ all_written t.next_ids t ws → u ≡ rows_boxed_as S (split_new_in S (drawn_edge r) p)
new_rows S t u rows r p n one two ws ringed cut stands same node first second is made =
    made ∙ ap (λ (v : Tables). all_written v.next_ids v ws) stands ∙ ap (all_written S.next_ids (tables_of S)) (new_list S rows r p n one two ws cut same node first second is)
    ∙ new_written S (drawn_edge r) p _ _ (new_is S r p ringed cut)

-- ---- features
pub has_features : (S T : Drawing) (t : Tables) (edge : ℕ) → IsReady S → T.relations ≡ S.relations → T.features ≡ S.features → T.layers ≡ S.layers → t ≡ rows_boxed_as S T → HasFeaturesOf t edge
has_features S T t edge ready relations features layers is =
    subst (λ (u : Tables). HasFeaturesOf u edge) (sym is)
    (λ fs listed. known_features S (rows_boxed_as S T) edge_type edge fs ready.references relations features layers
    (listed ∙ (λ i. listing (lists_element (record S { layers = layers i }) edge_type edge) (record S { relations = relations i }))))

-- ---- all is done
mod_followed : (S : Drawing) (r : EdgeRow) (p : Point) → IsRinged S → IsCut S r p → followed_rows (rows_boxed_as S (split_mod_in S (drawn_edge r) p)) r.edge_id r.edge_id S.next_ids.edge ≡ tables_of (split_mod_done S (drawn_edge r) p).drawing
mod_followed S r p ringed cut =
    let g = mod_is S r p ringed cut in
    let boxes = boxes_kept S (split_mod_done S (drawn_edge r) p).drawing (drawn_edge r) p r.edge_id S.next_ids.edge S.faces g.lines g.split in
    λ i. record (tables_of (split_mod_done S (drawn_edge r) p).drawing) { faces = boxes i }

new_followed : (S : Drawing) (r : EdgeRow) (p : Point) → IsRinged S → IsCut S r p → followed_rows (rows_boxed_as S (split_new_in S (drawn_edge r) p)) r.edge_id S.next_ids.edge (S.next_ids.edge + 1) ≡ tables_of (split_new_done S (drawn_edge r) p).drawing
new_followed S r p ringed cut =
    let g = new_is S r p ringed cut in
    let boxes = boxes_kept S (split_new_done S (drawn_edge r) p).drawing (drawn_edge r) p S.next_ids.edge (S.next_ids.edge + 1) S.faces g.lines g.split in
    λ i. record (tables_of (split_new_done S (drawn_edge r) p).drawing) { faces = boxes i }

pub mod_edited : (S : Drawing) (r : EdgeRow) (p : Point) (t : Tables) (d : Tried) (edge n first second : ℕ) → IsRinged S → IsCut S r p → IsDraftOf S d.draft → t ≡ rows_boxed_as S (split_mod_in S (drawn_edge r) p)
    → edge ≡ r.edge_id → n ≡ S.next_ids.node → first ≡ r.edge_id → second ≡ S.next_ids.edge → d.draft.rows ≡ followed_rows t edge first second → d.ids ≡ the_node n ∷ the_edge second ∷ [] → IsTried S (split_mod_done S (drawn_edge r) p) d
mod_edited S r p t d edge n first second ringed cut draft rows own node one two followed ids = record {
  draft = draft;
  rows = followed ∙ (λ i. followed_rows (rows i) (own i) (one i) (two i)) ∙ mod_followed S r p ringed cut;
  ids = sym (ids ∙ (λ i. the_node (node i) ∷ the_edge (two i) ∷ []));
}

pub new_edited : (S : Drawing) (r : EdgeRow) (p : Point) (t : Tables) (d : Tried) (edge n first second : ℕ) → IsRinged S → IsCut S r p → IsDraftOf S d.draft → t ≡ rows_boxed_as S (split_new_in S (drawn_edge r) p)
    → edge ≡ r.edge_id → n ≡ S.next_ids.node → first ≡ S.next_ids.edge → second ≡ S.next_ids.edge + 1 → d.draft.rows ≡ followed_rows t edge first second → d.ids ≡ the_node n ∷ the_edge first ∷ the_edge second ∷ []
    → IsTried S (split_new_done S (drawn_edge r) p) d
new_edited S r p t d edge n first second ringed cut draft rows own node one two followed ids = record {
  draft = draft;
  rows = followed ∙ (λ i. followed_rows (rows i) (own i) (one i) (two i)) ∙ new_followed S r p ringed cut;
  ids = sym (ids ∙ (λ i. the_node (node i) ∷ the_edge (one i) ∷ the_edge (two i) ∷ []));
}
