-- The kinds of edits: of isolated nodes and edges, of edges among others, and of layers and features.
use Rattle.std.specs.Prelude.{Bool, true, false}
use Rattle.topo_base.specs.declared.named.NamedEdit.{NamedEdit}
use Rattle.topo_base.specs.declared.named.NamedEdit.TheVariants.{AddIsoNode, MoveIsoNode, RemoveIsoNode, AddIsoEdge, RemoveIsoEdge, AddEdgeModFace, AddEdgeNewFaces, RemEdgeModFace, RemEdgeNewFace, ModEdgeSplit, NewEdgesSplit, ModEdgeHeal, NewEdgeHeal, AddLayer, CreateTopoGeom, AddElement, RemElement, DropFeature}

-- the edits of isolated nodes and edges
abbrev pub is_isolated_edit : NamedEdit → Bool
is_isolated_edit (AddIsoNode face p) = true
is_isolated_edit (MoveIsoNode n p) = true
is_isolated_edit (RemoveIsoNode n) = true
is_isolated_edit (AddIsoEdge a b line) = true
is_isolated_edit (RemoveIsoEdge e) = true
is_isolated_edit e = false

-- the edits of edges among others
abbrev pub is_edge_edit : NamedEdit → Bool
is_edge_edit (AddEdgeModFace a b line) = true
is_edge_edit (AddEdgeNewFaces a b line) = true
is_edge_edit (RemEdgeModFace e) = true
is_edge_edit (RemEdgeNewFace e) = true
is_edge_edit (ModEdgeSplit e p) = true
is_edge_edit (NewEdgesSplit e p) = true
is_edge_edit (ModEdgeHeal e f) = true
is_edge_edit (NewEdgeHeal e f) = true
is_edge_edit e = false

-- the edits of layers and features
abbrev pub is_feature_edit : NamedEdit → Bool
is_feature_edit (AddLayer name kind child) = true
is_feature_edit (CreateTopoGeom l xs) = true
is_feature_edit (AddElement t id type) = true
is_feature_edit (RemElement t id type) = true
is_feature_edit (DropFeature t) = true
is_feature_edit e = false
