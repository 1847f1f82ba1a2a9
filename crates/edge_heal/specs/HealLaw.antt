-- An edge that is split and healed again.
use Rattle.std.specs.Prelude.{◌≡◌, ◌↔◌, ℕ, ◌+◌, IsTrue, List, [], ◌∷◌, ◌++◌, Some, Ok, Contains}
use Rattle.topo_base.specs.Point.{Point}
use Rattle.topo_base.specs.RationalPoint.{RationalPoint}
use Rattle.topo_base.specs.declared.edit.Edit.TheVariants.{ModEdgeSplit, NewEdgesSplit, ModEdgeHeal, NewEdgeHeal}
use Rattle.drawing.specs.Drawing.{Drawing, Edge, edge_id_of, edge_at}
use Rattle.plane.specs.Line.{is_inside_line, joined, line_from, line_up_to}
use Rattle.drawing.specs.Outcome.{the_edge, the_node}
use Rattle.plane.specs.RationalTests.{IsOnLine}
use Rattle.drawing.specs.Relations.{edge_type, follow}
use Rattle.drawing.specs.Replay.{after}
use Rattle.drawing.specs.Rows.{with_change, without_row}
use Rattle.drawing.specs.Step.{step}
use Rattle.reference_laws.specs.Referenced.{IsReferenced}

-- the line with a vertex at p, a point on it
abbrev pub with_vertex : Point → List Point → List Point
with_vertex p line = joined (line_up_to p line) (line_from p line)

-- the drawing where the edge's line has a vertex at p; an id of a node and one of an edge are used up
abbrev pub healed_again : Drawing → Edge → Point → Drawing
healed_again S e p =
    record S {
      edges = with_change edge_id_of S.edges e.edge_id (λ x. record x { geom = with_vertex p x.geom });
      next_ids = record (S.next_ids) { node = S.next_ids.node + 1; edge = S.next_ids.edge + 1 };
    }

-- the drawing where a new edge with that line is in the place of the edge; its parts had the two ids before
abbrev pub healed_anew : Drawing → Edge → Point → Drawing
healed_anew S e p =
    let new = S.next_ids.edge + 2 in
    record S {
      edges = without_row edge_id_of S.edges e.edge_id ++ record e { edge_id = new; geom = with_vertex p e.geom } ∷ [];
      relations = follow S edge_type (e.edge_id ∷ []) (new ∷ []);
      next_ids = record (S.next_ids) { node = S.next_ids.node + 1; edge = new + 1 };
    }

-- references are known, the edge has this id, and p lies on its line and isn't an end of it
pub record CanSplit (S : Drawing) (id : ℕ) (e : Edge) (p : Point) : Type 0 where
  pub referenced : IsReferenced S
  pub there : edge_at S id ≡ Some e
  pub inside : IsTrue (is_inside_line p e.geom)

pub record HealUndoesSplit : Type 0 where
  -- after modedgesplit, modedgeheal of the two parts is accepted, and the edge has its line again, with a vertex at p
  pub same_edge : (S : Drawing) (id : ℕ) (e : Edge) (p : Point) → CanSplit S id e p
      → step (after S (ModEdgeSplit id p)) (ModEdgeHeal id S.next_ids.edge)
      ≡ Ok (record { drawing = healed_again S e p; ids = the_node S.next_ids.node ∷ the_edge id ∷ [] })
  -- after newedgessplit, newedgeheal of the two parts is accepted, and a new edge has that line
  pub new_edge : (S : Drawing) (id : ℕ) (e : Edge) (p : Point) → CanSplit S id e p
      → step (after S (NewEdgesSplit id p)) (NewEdgeHeal S.next_ids.edge (S.next_ids.edge + 1))
      ≡ Ok (record { drawing = healed_anew S e p; ids = the_edge (S.next_ids.edge + 2) ∷ the_node S.next_ids.node ∷ [] })
  -- the line has the same points
  pub same_points : (S : Drawing) (id : ℕ) (e : Edge) (p : Point) (q : RationalPoint) → CanSplit S id e p → IsOnLine q (with_vertex p e.geom) ↔ IsOnLine q e.geom
  -- it is the same line where p was a vertex of it, and then modedgeheal leaves only the next ids changed
  pub same_line : (S : Drawing) (id : ℕ) (e : Edge) (p : Point) → CanSplit S id e p → Contains e.geom p → with_vertex p e.geom ≡ e.geom
  pub same_drawing : (S : Drawing) (id : ℕ) (e : Edge) (p : Point) → CanSplit S id e p → Contains e.geom p → healed_again S e p ≡ record S { next_ids = (healed_again S e p).next_ids }
