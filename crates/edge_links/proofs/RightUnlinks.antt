-- The laws of links round an edge that goes, in plain drawings.
use Rattle.std.proofs.Common.{◌≡◌, ℕ, refl, sym, ◌∙◌, ap, subst, Bool, true, false, cond, eqb, eq-eqb, List, [], ◌∷◌, ◌++◌, map}
use Rattle.std.specs.Prelude.{◌==◌, not, Contains}
use Rattle.topo_base.specs.declared.ids.Dart.{Dart}
use Rattle.topo_base.specs.declared.rows.Counters.{Counters}
use Rattle.topo_base.specs.declared.rows.EdgeRow.{EdgeRow}
use Rattle.topo_base.specs.declared.write.RowId.TheVariants.{Old}
use Rattle.topo_base.specs.declared.write.RowWrite.{RowWrite}
use Rattle.topo_base.specs.declared.write.RowWrite.TheVariants.{DropEdge}
use Rattle.drawing.proofs.Members.{contains-map}
use Rattle.drawing.specs.Drawing.{Drawing, Edge, edge_id_of}
use Rattle.drawing.specs.HalfEdge.{half_edges}
use Rattle.drawing.specs.PlainInOrder.{IsPlainInOrder}
use Rattle.drawing.specs.Rows.{has_row, without_row}
use Rattle.drawing.specs.Tables.{Tables, tables_of, edge_row}
use Rattle.drawing.specs.Writable.{CanWriteAll, has_edge_row}
use Rattle.drawing.specs.Writes.{written, all_written, edge_row_id}
use Rattle.edge_links.specs.LinksLaw.{HasDirections, rays_at}
use Rattle.edge_links.specs.Unlinks.{others, before_gone, unlinks_round}
use Rattle.edge_links.specs.UnlinksLaw.{UnlinksAreRight, edge_gone, unlinks_of, drop_writes_of, dropped_rows}
use Rattle.edge_links.proofs.Apart.{about_ordered, star_of}
use Rattle.edge_links.proofs.Fewer.{filter_map, darts_fewer}
use Rattle.edge_links.proofs.Linking.{Link, link_write, link_set, all_set, map_append, map_map, map_self}
use Rattle.edge_links.proofs.RightLinks.{plain_in_order}
use Rattle.edge_links.proofs.Unlinking.{IsNode, IsLeaving, any_has, unlink, unlinks, all_unlinks, all_known, unlinks_set}
use Rattle.edge_links.proofs.Writing.{can_link}

-- ---- what is known about a node, and about an edge
node_of : (S : Drawing) (n : ℕ) → IsPlainInOrder S → HasDirections S n → IsNode S.edges n
node_of S n plain some =
    let at = plain_in_order S n plain some in
    record { ordered = about_ordered S.nodes S.edges n at; stands = star_of S.nodes S.edges n at }

leaving_of : (S : Drawing) (e : Edge) → IsPlainInOrder S → Contains S.edges e → HasDirections S e.start_node → HasDirections S e.end_node → IsLeaving S.edges e
leaving_of S e plain there start end = record { there = there; at_start = node_of S e.start_node plain start; at_end = node_of S e.end_node plain end }

-- ---- links written change the edges alone
pub tables_linked : (n : Counters) (t : Tables) (ks : List Link) → all_written n t (map link_write ks) ≡ record t { edges = map (all_set ks) t.edges }
tables_linked n t [] = ap (λ (es : List EdgeRow). record t { edges = es }) (map_self t.edges)
tables_linked n t (k ∷ ks) = tables_linked n (written n t (link_write k)) ks ∙ ap (λ (es : List EdgeRow). record t { edges = es }) (map_map (all_set ks) (link_set k) t.edges)

-- the writes are those of the links
round_is : (id : ℕ) (ds : List Dart) → unlinks_round id ds ≡ map link_write (unlinks id ds)
round_is id ds = sym (map_map link_write (unlink id ds) (before_gone id ds ds))

writes_are : (S : Drawing) (e : Edge) → unlinks_of S e.edge_id e.start_node e.end_node ≡ map link_write (all_unlinks S.edges e)
writes_are S e = by_closed (eqb e.start_node e.end_node)
  where
    by_closed : (b : Bool) → unlinks_round e.edge_id (rays_at S e.start_node).darts ++ cond b [] (unlinks_round e.edge_id (rays_at S e.end_node).darts)
        ≡ map link_write (unlinks e.edge_id (rays_at S e.start_node).darts ++ cond b [] (unlinks e.edge_id (rays_at S e.end_node).darts))
    by_closed true =
        ap (λ (ws : List RowWrite). ws ++ []) (round_is e.edge_id (rays_at S e.start_node).darts)
        ∙ sym (map_append link_write (unlinks e.edge_id (rays_at S e.start_node).darts) [])
    by_closed false =
        ap (λ (ws : List RowWrite). ws ++ unlinks_round e.edge_id (rays_at S e.end_node).darts) (round_is e.edge_id (rays_at S e.start_node).darts)
        ∙ ap (λ (ws : List RowWrite). map link_write (unlinks e.edge_id (rays_at S e.start_node).darts) ++ ws) (round_is e.edge_id (rays_at S e.end_node).darts)
        ∙ sym (map_append link_write (unlinks e.edge_id (rays_at S e.start_node).darts) (unlinks e.edge_id (rays_at S e.end_node).darts))

-- ---- the rows without the edge
rows_less : (S : Drawing) (id : ℕ) → without_row edge_row_id (tables_of S).edges id ≡ map (edge_row (half_edges S)) (without_row edge_id_of S.edges id)
rows_less S id = filter_map (edge_row (half_edges S)) (λ (r : EdgeRow). not (edge_row_id r == id)) S.edges

abbrev dropped : Drawing → ℕ → Tables
dropped S id = written S.next_ids (tables_of S) (DropEdge (Old id))

has_rest : (S : Drawing) (id : ℕ) (x : Edge) → Contains (without_row edge_id_of S.edges id) x → has_edge_row (dropped S id) x.edge_id ≡ true
has_rest S id x c =
    let rows = map (edge_row (half_edges S)) (without_row edge_id_of S.edges id) in
    ap (λ (rs : List EdgeRow). has_row edge_row_id rs x.edge_id) (rows_less S id)
    ∙ any_has (λ (r : EdgeRow). edge_row_id r == x.edge_id) (edge_row (half_edges S) x) rows (contains-map (edge_row (half_edges S)) x (without_row edge_id_of S.edges id) c) (eq-eqb x.edge_id x.edge_id refl)

has_own : (S : Drawing) (e : Edge) → Contains S.edges e → has_edge_row (tables_of S) e.edge_id ≡ true
has_own S e c = any_has (λ (r : EdgeRow). edge_row_id r == e.edge_id) (edge_row (half_edges S) e) (tables_of S).edges (contains-map (edge_row (half_edges S)) e S.edges c) (eq-eqb e.edge_id e.edge_id refl)

-- ---- the laws
darts_stay : (S : Drawing) (id n : ℕ) → IsPlainInOrder S → HasDirections S n → others id (rays_at S n).darts ≡ (rays_at (edge_gone S id) n).darts
darts_stay S id n plain some = darts_fewer id n S.edges (node_of S n plain some).ordered

links_without : (S : Drawing) (e : Edge) → IsPlainInOrder S → Contains S.edges e → HasDirections S e.start_node → HasDirections S e.end_node
    → all_written S.next_ids (tables_of S) (drop_writes_of S e) ≡ dropped_rows S e.edge_id
links_without S e plain there start end =
    let t = dropped S e.edge_id in
    let ks = all_unlinks S.edges e in
    ap (all_written S.next_ids t) (writes_are S e) ∙ tables_linked S.next_ids t ks
    ∙ ap (λ (es : List EdgeRow). record (tables_of S) { edges = es }) (ap (map (all_set ks)) (rows_less S e.edge_id) ∙ unlinks_set S.edges e (leaving_of S e plain there start end))

links_writable : (S : Drawing) (e : Edge) → IsPlainInOrder S → Contains S.edges e → HasDirections S e.start_node → HasDirections S e.end_node
    → CanWriteAll S.next_ids (tables_of S) (drop_writes_of S e)
links_writable S e plain there start end =
    let t = dropped S e.edge_id in
    let ks = all_unlinks S.edges e in (
      has_own S e there,
      subst (CanWriteAll S.next_ids t) (sym (writes_are S e))
          (can_link S.next_ids t ks (all_known S.edges e (leaving_of S e plain there start end) (has_edge_row t) (λ x c. has_rest S e.edge_id x c))),
    )

pub unlinks_are_right : UnlinksAreRight
unlinks_are_right = record { stays = darts_stay; links = links_without; writable = links_writable }
