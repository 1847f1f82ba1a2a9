-- Each edit of isolated nodes and edges keeps a drawing plain.
use Rattle.std.proofs.Common.{◌≡◌, ℕ, refl, sym, arith, inl, inr, Bool, true, false, not, List, Option, None, IsTrue}
use Rattle.std.specs.List.{list_any, list_all, Contains}
use Rattle.std.proofs.lemmas.Bool.{and_parts}
use Rattle.std.proofs.lemmas.Bool.Decides.{Decides-not, not_from_Decides}
use Rattle.topo_base.specs.Point.{Point, same_point}
use Rattle.topo_base.specs.declared.rows.NodeRow.{NodeRow}
use Rattle.plane.specs.Line.{segments_of, first_vertex, last_vertex, is_proper, is_simple}
use Rattle.drawing.specs.Drawing.{Drawing, Edge, node_id_of, edge_id_of, is_end_of, is_isolated}
use Rattle.drawing.specs.Blocked.{is_blocked, is_blocked_for, is_line_blocked, goes_between}
use Rattle.drawing.specs.IsoEdits.{with_node, with_edge, put_at}
use Rattle.drawing.specs.AddEdge.{coming}
use Rattle.drawing.specs.PlainInOrder.{IsPlainInOrder}
use Rattle.drawing.proofs.Ordering.{InOrder, InOrder-push, InOrder-change}
use Rattle.plane.proofs.ListTests.{Decides-any}
use Rattle.plane.proofs.PointTests.{Decides-same_point}
use Rattle.plane.proofs.SimpleTests.{Decides-simple}
use Rattle.plane.proofs.LineTests.{at_from}
use Rattle.drawing.proofs.BlockedTests.{Decides-blocked, Decides-blocked_for, Decides-line_blocked}
use Rattle.drawing.proofs.Members.{ids_differ}
use Rattle.drawing.proofs.PlainParts.{IsBetweenNodes, ArePlain, parts_of, plain_of}
use Rattle.edit_changes.proofs.IdsOrdering.{InOrder-put}
use Rattle.drawing.proofs.PlainChanges.{node_added, node_moved, face_set, edge_added}

-- the nodes and edges are plain, and their ids ascend
pub record HasPlain (S : Drawing) : Type 0 where
  pub parts : ArePlain S.nodes S.edges
  pub ids : InOrder node_id_of 0 S.next_ids.node S.nodes
  pub edge_ids : InOrder edge_id_of 0 S.next_ids.edge S.edges

pub has_plain : (S : Drawing) → IsPlainInOrder S → HasPlain S
has_plain S h = record { parts = parts_of S h.plain; ids = record { test = h.node_ids }; edge_ids = record { test = h.edge_ids } }

pub ordered_of : (S : Drawing) → HasPlain S → IsPlainInOrder S
ordered_of S h = record { plain = plain_of S h.parts; node_ids = h.ids.test; edge_ids = h.edge_ids.test }

pub passed : (b : Bool) → not b ≡ false → b ≡ true
passed true h = refl
passed false h = absurd cc

-- an isolated node is an end of no edge
pub alone : (S : Drawing) (n : ℕ) → is_isolated S n ≡ true → (e : Edge) → Contains S.edges e → IsTrue (is_end_of n e) → ⊥
alone S n h =
    let any = Decides-any (is_end_of n) (λ e. IsTrue (is_end_of n e)) (λ e. (λ k. k, λ k. k)) S.edges in
    let none = (Decides-not (list_any (is_end_of n) S.edges) any).0 h in
    λ e c k. none (e, (c, k))

-- ---- nodes
pub node_more : (S : Drawing) (face : Option ℕ) (p : Point) → HasPlain S → is_blocked S p ≡ false → HasPlain (with_node S face p)
node_more S face p h free =
    let none = not_from_Decides (is_blocked S p) (Decides-blocked S p) free in
    record {
      parts = node_added S.nodes _ S.edges h.parts (λ m c s. none (inl (m, (c, at_from p m.geom (sym s.0, sym s.1))))) (λ e c on. none (inr (e, (c, on))));
      ids = InOrder-push node_id_of 0 S.next_ids.node S.nodes _ refl (omega arith) h.ids;
      edge_ids = h.edge_ids;
    }

pub node_elsewhere : (S : Drawing) (n : ℕ) (p : Point) → HasPlain S → is_isolated S n ≡ true → is_blocked_for S n p ≡ false → HasPlain (record S { nodes = put_at p n S.nodes })
node_elsewhere S n p h lone free =
    let none = not_from_Decides (is_blocked_for S n p) (Decides-blocked_for S n p) free in
    record {
      parts = node_moved S.nodes n p S.edges h.parts (ids_differ node_id_of 0 S.next_ids.node S.nodes h.ids) (alone S n lone)
          (λ m c other s. none (inl (m, (c, (other, at_from p m.geom (sym s.0, sym s.1)))))) (λ e c on. none (inr (e, (c, on))));
      ids = InOrder-change node_id_of 0 S.next_ids.node n (λ row. record row { geom = p }) S.nodes (λ r. refl) h.ids;
      edge_ids = h.edge_ids;
    }

-- ---- edges
-- the line goes between the points of two nodes
fits : (S : Drawing) (a b : NodeRow) (line : List Point) (f : ℕ) → Contains S.nodes a → Contains S.nodes b → goes_between a b line ≡ true → is_simple line ≡ true
    → IsBetweenNodes S.nodes (coming S a b line f)
fits S a b line f ca cb ends simple =
    let both = and_parts (same_point (first_vertex line) a.geom) (same_point (last_vertex line) b.geom) ends in
    let first = (Decides-same_point (first_vertex line) a.geom).0 both.0 in
    let last = (Decides-same_point (last_vertex line) b.geom).0 both.1 in
    record {
      proper = (and_parts (list_all is_proper (segments_of line)) _ simple).0;
      starts = (a, (ca, (refl, (sym first.0, sym first.1))));
      ends = (b, (cb, (refl, (sym last.0, sym last.1))));
    }

pub edge_more : (S : Drawing) (a b : NodeRow) (line : List Point) (f : ℕ) → HasPlain S → Contains S.nodes a → Contains S.nodes b → goes_between a b line ≡ true → is_simple line ≡ true
    → is_line_blocked S line ≡ false → HasPlain (with_edge S a b line f)
edge_more S a b line f h ca cb ends simple free =
    let none = not_from_Decides (is_line_blocked S line) (Decides-line_blocked S line) free in
    let more = edge_added S.nodes S.edges (coming S a b line f) h.parts (fits S a b line f ca cb ends simple) ((Decides-simple line).0 simple).1
    (λ q n inside c at. none (q, (inside, inl (n, (c, at))))) (λ q e inside c on. none (q, (inside, inr (e, (c, on))))) in
    record {
      parts = face_set None a.node_id _ _ (face_set None b.node_id S.nodes _ more);
      ids = InOrder-put 0 S.next_ids.node None a.node_id _ (InOrder-put 0 S.next_ids.node None b.node_id S.nodes h.ids);
      edge_ids = InOrder-push edge_id_of 0 S.next_ids.edge S.edges _ refl (omega arith) h.edge_ids;
    }
