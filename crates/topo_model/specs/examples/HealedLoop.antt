-- A split and two heals, of which the second closes a loop.
use Rattle.std.specs.Prelude.{◌≡◌, pos, List, [], ◌∷◌, Some, None, true, false}
use Rattle.topo_base.specs.declared.edit.Edit.{Edit}
use Rattle.topo_base.specs.declared.edit.Edit.TheVariants.{AddIsoNode, AddEdgeModFace, ModEdgeSplit, ModEdgeHeal}
use Rattle.topo_base.specs.declared.rule.Rule.TheVariants.{NotOnEdge, ClosedEdge}
use Rattle.drawing.specs.Drawing.{Drawing, nothing_drawn}
use Rattle.drawing.specs.Outcome.{the_node, the_edge, the_face}
use Rattle.topo_base.specs.declared.answer.Answer.{Answer}
use Rattle.topo_base.specs.declared.answer.Answer.TheVariants.{Done, Refused}
use Rattle.drawing.specs.Replay.{answers, after_all}
use Rattle.drawing.specs.Tables.{tables_of}
use Rattle.drawing.specs.Subdivision.{is_consistent}
use Rattle.topo_model.specs.examples.Rows.{at, counters, way, node_line, edge_line, face_line, box}

abbrev pub healed_loop : List Edit
healed_loop =
    AddIsoNode None (at (pos 0) (pos 0))
    ∷ AddIsoNode None (at (pos 6) (pos 0))
    ∷ AddEdgeModFace 1 2 (at (pos 0) (pos 0) ∷ at (pos 3) (pos 3) ∷ at (pos 6) (pos 0) ∷ [])
    ∷ ModEdgeSplit 1 (at (pos 0) (pos 0))
    ∷ ModEdgeSplit 1 (at (pos 3) (pos 3))
    ∷ ModEdgeHeal 1 2
    ∷ AddEdgeModFace 2 1 (at (pos 6) (pos 0) ∷ at (pos 0) (pos 0) ∷ [])
    ∷ ModEdgeHeal 1 3
    ∷ ModEdgeHeal 1 1
    ∷ []

abbrev pub healed_loop_drawing : Drawing
healed_loop_drawing = after_all nothing_drawn healed_loop

abbrev pub healed_loop_replies : List Answer
healed_loop_replies =
    Done (the_node 1 ∷ []) 1
    ∷ Done (the_node 2 ∷ []) 2
    ∷ Done (the_edge 1 ∷ []) 3
    ∷ Refused NotOnEdge 3
    ∷ Done (the_node 3 ∷ the_edge 2 ∷ []) 4
    ∷ Done (the_node 3 ∷ the_edge 1 ∷ []) 5
    ∷ Done (the_edge 3 ∷ the_face 1 ∷ []) 6
    ∷ Done (the_node 2 ∷ the_edge 1 ∷ []) 7
    ∷ Refused ClosedEdge 7
    ∷ []

abbrev pub HealedLoopReplies : Type 0
HealedLoopReplies =
    answers nothing_drawn 0 healed_loop ≡ healed_loop_replies

abbrev pub HealedLoopTables : Type 0
HealedLoopTables =
    tables_of healed_loop_drawing ≡ record {
      next_ids = counters 4 4 2 1 1;
      nodes = node_line 1 None (at (pos 0) (pos 0))
          ∷ [];
      edges = edge_line 1 1 1 (way 1 true) (way 1 false) 0 1 (at (pos 0) (pos 0) ∷ at (pos 3) (pos 3) ∷ at (pos 6) (pos 0) ∷ at (pos 0) (pos 0) ∷ [])
          ∷ [];
      faces = face_line 0 None
          ∷ face_line 1 (Some (box (pos 0) (pos 0) (pos 6) (pos 3)))
          ∷ [];
      layers = [];
      features = [];
      relations = [];
    }

abbrev pub HealedLoopConsistent : Type 0
HealedLoopConsistent =
    is_consistent healed_loop_drawing ≡ true
