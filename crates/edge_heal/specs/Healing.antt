-- The edges that may be healed, and what is done.
use Rattle.std.specs.Prelude.{◌≡◌, ℕ, ◌==◌, Bool, true, false, IsTrue, Contains, Some, if◌then◌else◌, reverse}
use Rattle.topo_base.specs.declared.rows.EdgeRow.{EdgeRow}
use Rattle.drawing.specs.Drawing.{Drawing, Edge, edge_at}
use Rattle.drawing.specs.HealEdges.{away_from, heal_mod_done, heal_new_done, healed_node, is_closed}
use Rattle.drawing.specs.IsoEdits.{is_in_feature}
use Rattle.plane.specs.Line.{first_vertex, last_vertex}
use Rattle.drawing.specs.Outcome.{Accepted}
use Rattle.drawing.specs.Relations.{edge_type, node_type}
use Rattle.drawing.specs.RemoveEdge.{have_same_features}
use Rattle.drawing.specs.Tables.{drawn_edge, tables_of}

-- the rows of two edges are there, neither is closed, they aren't one, n is the node at which they are healed, and no feature forbids it
pub record IsJoint (S : Drawing) (r q : EdgeRow) (n : ℕ) : Type 0 where
  pub first : Contains (tables_of S).edges r
  pub second : Contains (tables_of S).edges q
  pub first_named : edge_at S r.edge_id ≡ Some (drawn_edge r)
  pub second_named : edge_at S q.edge_id ≡ Some (drawn_edge q)
  pub first_open : is_closed (drawn_edge r) ≡ false
  pub second_open : is_closed (drawn_edge q) ≡ false
  pub apart : (r.edge_id == q.edge_id) ≡ false
  pub healed : healed_node S (drawn_edge r) (drawn_edge q) ≡ Some n
  pub shared : IsTrue (have_same_features S edge_type r.edge_id q.edge_id)
  pub unlisted : is_in_feature S node_type n ≡ false

-- the row is that of an edge, which has its id
pub record IsRowOf (S : Drawing) (r : EdgeRow) : Type 0 where
  pub there : Contains (tables_of S).edges r
  pub named : edge_at S r.edge_id ≡ Some (drawn_edge r)

-- the same, but that features are not asked yet
pub record AreJoined (S : Drawing) (r q : EdgeRow) (n : ℕ) : Type 0 where
  pub first : IsRowOf S r
  pub second : IsRowOf S q
  pub first_open : is_closed (drawn_edge r) ≡ false
  pub second_open : is_closed (drawn_edge q) ≡ false
  pub apart : (r.edge_id == q.edge_id) ≡ false
  pub healed : healed_node S (drawn_edge r) (drawn_edge q) ≡ Some n

-- the lines of two edges have one point at the node: the first ends where the second begins, walked away from the node, or the first begins there
pub record AreMeeting (e f : Edge) (n : ℕ) : Type 0 where
  pub at_end : n == e.end_node ≡ true → last_vertex e.geom ≡ first_vertex ((away_from n f).points)
  pub at_start : n == e.end_node ≡ false → last_vertex (reverse ((away_from n f).points)) ≡ first_vertex e.geom

-- what is done: the joined edge is new, or it is the first
abbrev pub heal_done_by : Bool → Drawing → Edge → Edge → ℕ → Accepted
heal_done_by anew S e f n = if anew then heal_new_done S e f n else heal_mod_done S e f n
