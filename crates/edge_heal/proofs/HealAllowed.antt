-- The row writes by which the first of two healed edges becomes the joined one may be made, and what they leave.
use Rattle.std.proofs.Common.{◌≡◌, ℕ, sym, ◌∙◌, ap, subst, Bool, true, false, not, cond, List, map}
use Rattle.std.specs.Prelude.{◌==◌, reverse}
use Rattle.std.specs.List.{Contains}
use Rattle.topo_base.specs.declared.ids.Dart.{Dart}
use Rattle.topo_base.specs.declared.rows.Counters.{Counters}
use Rattle.topo_base.specs.declared.rows.RelationRow.{RelationRow}
use Rattle.topo_base.specs.declared.write.RowWrite.{RowWrite}
use Rattle.drawing.specs.Drawing.{Drawing, Edge, has_node}
use Rattle.drawing.specs.HalfEdge.{backward_of, forward_of, half_edges}
use Rattle.drawing.specs.HealEdges.{away_from, joined_edge}
use Rattle.plane.specs.Line.{joined}
use Rattle.drawing.specs.Tables.{Tables, edge_row, tables_of}
use Rattle.drawing.specs.Writable.{CanWriteAll, has_edge_row}
use Rattle.drawing.specs.Writes.{all_written}
use Rattle.drawing.proofs.Members.{contains-map}
use Rattle.drawing.proofs.WritesInOrder.{can_write-append, written-append}
use Rattle.edge_links.proofs.Linking.{all_set}
use Rattle.edge_links.proofs.Writing.{can_link}
use Rattle.edge_links.proofs.RightUnlinks.{tables_linked}
use Rattle.edge_heal.specs.HealWrites.{healed_edges, last_heal_writes, mod_heal_in, mod_heal_writes}
use Rattle.edge_heal.specs.Renamed.{healed_name}
use Rattle.edge_split.specs.Splitting.{rows_boxed_as}
use Rattle.edge_split.specs.Relinks.{all_relinks}
use Rattle.edge_heal.proofs.HealLinks.{IsHealOf, name_in}
use Rattle.edge_heal.proofs.HealedRows.{heal_links, healed_rows, line_id, link_id, link_on, with_line_of, with_link}
use Rattle.edge_split.proofs.LinkWrites.{all_set_id, follower, has_mapped, links_known, writes_are}
use Rattle.edge_split.proofs.SplitAllowed.{EndsKnown, follower_known, row_there}

-- what the writes leave
pub heal_written : (S : Drawing) (n : ℕ) (e f : Edge) (rows : List RelationRow) (ids : Counters) → IsHealOf S n e f e.edge_id (healed_edges S n e f) rows ids
    → all_written S.next_ids (tables_of S) (mod_heal_writes (tables_of S).edges e f n (link_on S n e f e.edge_id)) ≡ rows_boxed_as S (mod_heal_in S e f n)
heal_written S n e f rows ids h =
    let last = last_heal_writes e f n (link_on S n e f e.edge_id) in
    let all = healed_rows S n e f rows ids h in
    written-append S.next_ids (tables_of S) (all_relinks (name_in n e f e.edge_id) (tables_of S).edges) last
    ∙ ap (λ (ws : List RowWrite). all_written S.next_ids (all_written S.next_ids (tables_of S) ws) last) (writes_are (name_in n e f e.edge_id) (half_edges S) S.edges)
    ∙ ap (λ (u : Tables). all_written S.next_ids u last) (tables_linked S.next_ids (tables_of S) (heal_links S n e f e.edge_id))
    ∙ (λ i. record (rows_boxed_as S (mod_heal_in S e f n)) { edges = all i })

-- ---- they may be made
pub name_known : (e f id : ℕ) (way : Bool) (has : ℕ → Bool) (d : Dart) → has id ≡ true → has d.edge ≡ true → has (healed_name e f id way d).edge ≡ true
name_known e f id way has d own there = by (d.edge == f) (d.edge == e)
  where
    by : (a b : Bool) → has (cond a (record { edge = id; forward = not way }) (cond b (record { edge = id; forward = way }) d)).edge ≡ true
    by true b = own
    by false true = own
    by false false = there

pub record NodesKnown (S : Drawing) (J : Edge) : Type 0 where
  pub start : has_node S J.start_node ≡ true
  pub end : has_node S J.end_node ≡ true

far_known : (S : Drawing) (n : ℕ) (f : Edge) → EndsKnown S f → has_node S ((away_from n f).to_node) ≡ true
far_known S n f known = by (f.start_node == n)
  where
    by : (b : Bool) → has_node S ((cond b (forward_of f) (backward_of f)).to_node) ≡ true
    by true = known.end
    by false = known.start

pub joined_known : (S : Drawing) (n : ℕ) (e f : Edge) (id : ℕ) → EndsKnown S e → EndsKnown S f → NodesKnown S (joined_edge n e f id)
joined_known S n e f id first second = by (n == e.end_node)
  where
    by : (t : Bool)
        → NodesKnown S (cond t (record e { edge_id = id; end_node = (away_from n f).to_node; geom = joined e.geom ((away_from n f).points) }) (record e { edge_id = id; start_node = (away_from n f).to_node; geom = joined (reverse ((away_from n f).points)) e.geom }))
    by true = record { start = first.start; end = far_known S n f second }
    by false = record { start = far_known S n f second; end = first.end }

pub heal_can : (S : Drawing) (n : ℕ) (e f : Edge) (rows : List RelationRow) (ids : Counters) → IsHealOf S n e f e.edge_id (healed_edges S n e f) rows ids → EndsKnown S e → EndsKnown S f → has_node S n ≡ true
    → CanWriteAll S.next_ids (tables_of S) (mod_heal_writes (tables_of S).edges e f n (link_on S n e f e.edge_id))
heal_can S n e f rows ids h first second node =
    let t = tables_of S in
    let m = e.edge_id in
    let ren = name_in n e f m in
    let w = n == e.end_node in
    let d = link_on S n e f m in
    let J = joined_edge n e f m in
    let ks = heal_links S n e f m in
    let was = λ (x : Edge) (c : Contains S.edges x). row_there t.edges (edge_row (half_edges S) x) (contains-map (edge_row (half_edges S)) x S.edges c) in
    let own = was e h.healed.e_there in
    let other = was f h.healed.f_there in
    let next = λ (x : Edge) (way : Bool) (c : Contains S.edges x). name_known e.edge_id f.edge_id m w (has_edge_row t) (follower (half_edges S) x way) own (follower_known S (has_edge_row t) h.lines was x way c) in
    let is = writes_are ren (half_edges S) S.edges in
    let made = ap (all_written S.next_ids t) is ∙ tables_linked S.next_ids t ks in
    let set = map (all_set ks) t.edges in
    let ends = joined_known S n e f m first second in
    let at_set = λ (k : ℕ). has_mapped (all_set ks) (all_set_id ks) k t.edges in
    let at_line = λ (k : ℕ). has_mapped (with_line_of m J) (line_id m J) k set ∙ at_set k in
    let at_link = λ (k : ℕ). has_mapped (with_link m w d) (link_id m w d) k (map (with_line_of m J) set) ∙ at_line k in
    let last : CanWriteAll S.next_ids (record t { edges = set }) (last_heal_writes e f n d) = (
      (at_set m ∙ own, ends.start, ends.end),
      ((at_line m ∙ own, at_line d.edge ∙ next f (f.start_node == n) h.healed.f_there), (at_link f.edge_id ∙ other, (node, tt))),
    ) in
    can_write-append S.next_ids t (all_relinks ren t.edges) (last_heal_writes e f n d)
    (subst (CanWriteAll S.next_ids t) (sym is) (can_link S.next_ids t ks (links_known ren (half_edges S) (has_edge_row t) S.edges was next)))
    (subst (λ (u : Tables). CanWriteAll S.next_ids u (last_heal_writes e f n d)) (sym made) last)
