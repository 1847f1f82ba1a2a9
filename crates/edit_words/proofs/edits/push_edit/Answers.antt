use Rattle.edit_words.proofs.edits.push_edit.Goals as goal

pub returns-in-MoveIsoNode : goal.returns-in-MoveIsoNode
returns-in-MoveIsoNode c = rw (c.in-MoveIsoNode.is, ← c.node.view_is) c.push_place.ensures

pub returns-in-RemoveIsoNode : goal.returns-in-RemoveIsoNode
returns-in-RemoveIsoNode c = rw (c.in-RemoveIsoNode.is, ← c.node-in-RemoveIsoNode.view_is) c.push_one.ensures

pub returns-in-RemoveIsoEdge : goal.returns-in-RemoveIsoEdge
returns-in-RemoveIsoEdge c = rw (c.in-RemoveIsoEdge.is, ← c.edge.view_is) c.push_one-in-RemoveIsoEdge.ensures

pub returns-in-AddEdgeModFace : goal.returns-in-AddEdgeModFace
returns-in-AddEdgeModFace c = rw c.in-AddEdgeModFace.is c.push_edge-in-AddEdgeModFace.ensures

pub returns-in-AddEdgeNewFaces : goal.returns-in-AddEdgeNewFaces
returns-in-AddEdgeNewFaces c = rw c.in-AddEdgeNewFaces.is c.push_edge-in-AddEdgeNewFaces.ensures

pub returns-in-RemEdgeModFace : goal.returns-in-RemEdgeModFace
returns-in-RemEdgeModFace c = rw (c.in-RemEdgeModFace.is, ← c.edge-in-RemEdgeModFace.view_is) c.push_one-in-RemEdgeModFace.ensures

pub returns-in-RemEdgeNewFace : goal.returns-in-RemEdgeNewFace
returns-in-RemEdgeNewFace c = rw (c.in-RemEdgeNewFace.is, ← c.edge-in-RemEdgeNewFace.view_is) c.push_one-in-RemEdgeNewFace.ensures

pub returns-in-ModEdgeSplit : goal.returns-in-ModEdgeSplit
returns-in-ModEdgeSplit c = rw (c.in-ModEdgeSplit.is, ← c.edge-in-ModEdgeSplit.view_is) c.push_place-in-ModEdgeSplit.ensures

pub returns-in-NewEdgesSplit : goal.returns-in-NewEdgesSplit
returns-in-NewEdgesSplit c = rw (c.in-NewEdgesSplit.is, ← c.edge-in-NewEdgesSplit.view_is) c.push_place-in-NewEdgesSplit.ensures

pub returns-in-ModEdgeHeal : goal.returns-in-ModEdgeHeal
returns-in-ModEdgeHeal c = rw (c.in-ModEdgeHeal.is, ← c.edge-in-ModEdgeHeal.view_is, ← c.other.view_is) c.push_two.ensures

pub returns-in-NewEdgeHeal : goal.returns-in-NewEdgeHeal
returns-in-NewEdgeHeal c = rw (c.in-NewEdgeHeal.is, ← c.edge-in-NewEdgeHeal.view_is, ← c.other-in-NewEdgeHeal.view_is) c.push_two-in-NewEdgeHeal.ensures

pub returns-in-AddElement : goal.returns-in-AddElement
returns-in-AddElement c = rw (c.in-AddElement.is, ← c.feature.view_is) c.push_three.ensures

pub returns-in-RemElement : goal.returns-in-RemElement
returns-in-RemElement c = rw (c.in-RemElement.is, ← c.feature-in-RemElement.view_is) c.push_three-in-RemElement.ensures
