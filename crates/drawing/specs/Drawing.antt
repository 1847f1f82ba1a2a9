-- A drawing: what the tables stand for. It has no links, boxes or stamps.
use Rattle.std.specs.Prelude.{ℕ, Bool, not, ◌&&◌, ◌||◌, ◌==◌, List, [], ◌∷◌, Option}
use Rattle.std.specs.List.{list_any}
use Rattle.topo_base.specs.Point.{Point}
use Rattle.topo_base.specs.declared.rows.NodeRow.{NodeRow}
use Rattle.topo_base.specs.declared.rows.LayerRow.{LayerRow}
use Rattle.topo_base.specs.declared.rows.FeatureRow.{FeatureRow}
use Rattle.topo_base.specs.declared.rows.RelationRow.{RelationRow}
use Rattle.topo_base.specs.declared.rows.Counters.{Counters}
use Rattle.drawing.specs.Rows.{row_at, has_row}

-- an edge, without its links
pub record Edge : Type 0 where
  pub edge_id : ℕ
  pub start_node : ℕ
  pub end_node : ℕ
  pub left_face : ℕ
  pub right_face : ℕ
  pub geom : List Point

-- the rows of each table, ascending by id; relation rows ascend by feature, type and element
pub record Drawing : Type 0 where
  pub nodes : List NodeRow
  pub edges : List Edge
  pub faces : List ℕ
  pub layers : List LayerRow
  pub features : List FeatureRow
  pub relations : List RelationRow
  pub next_ids : Counters

-- face 0 alone
abbrev pub nothing_drawn : Drawing
nothing_drawn =
    record { nodes = []; edges = []; faces = 0 ∷ []; layers = []; features = []; relations = []; next_ids = record { node = 1; edge = 1; face = 1; layer = 1; feature = 1 } }

-- the rows of these ids
abbrev pub node_id_of : NodeRow → ℕ
node_id_of n = n.node_id

abbrev pub edge_id_of : Edge → ℕ
edge_id_of e = e.edge_id

abbrev pub layer_id_of : LayerRow → ℕ
layer_id_of l = l.layer_id

abbrev pub feature_id_of : FeatureRow → ℕ
feature_id_of t = t.feature_id

abbrev pub node_at : Drawing → ℕ → Option NodeRow
node_at S n = row_at node_id_of S.nodes n

abbrev pub edge_at : Drawing → ℕ → Option Edge
edge_at S e = row_at edge_id_of S.edges e

abbrev pub layer_at : Drawing → ℕ → Option LayerRow
layer_at S l = row_at layer_id_of S.layers l

abbrev pub feature_at : Drawing → ℕ → Option FeatureRow
feature_at S t = row_at feature_id_of S.features t

abbrev pub has_node : Drawing → ℕ → Bool
has_node S n = has_row node_id_of S.nodes n

abbrev pub has_edge : Drawing → ℕ → Bool
has_edge S e = has_row edge_id_of S.edges e

abbrev pub has_face : Drawing → ℕ → Bool
has_face S f = list_any (λ g. g == f) S.faces

-- the node is an end of the edge
abbrev pub is_end_of : ℕ → Edge → Bool
is_end_of n e = e.start_node == n || e.end_node == n

-- the node has no edge; the node has no edge but these two
abbrev pub is_isolated : Drawing → ℕ → Bool
is_isolated S n = not (list_any (is_end_of n) S.edges)

abbrev pub has_only : Drawing → ℕ → ℕ → ℕ → Bool
has_only S n e f = not (list_any (λ x. is_end_of n x && not (x.edge_id == e) && not (x.edge_id == f)) S.edges)
