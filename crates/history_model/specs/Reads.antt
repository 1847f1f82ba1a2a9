-- Tables of reads: the elements that an edit reads in a drawing.
use Rattle.std.specs.Prelude.{ℕ, Bool, true, false, not, ◌&&◌, ◌==◌, nat_eq, List, [], ◌∷◌, ◌++◌, map, filter, Option, Some, None, option_to_list, if◌then◌else◌}
use Rattle.std.specs.List.{list_any}
use Rattle.std.specs.Option.{option_eq}
use Rattle.topo_base.specs.Point.{Point}
use Rattle.topo_base.specs.declared.rows.NodeRow.{NodeRow}
use Rattle.topo_base.specs.declared.rows.LayerRow.{LayerRow}
use Rattle.topo_base.specs.declared.rows.FeatureRow.{FeatureRow}
use Rattle.topo_base.specs.declared.kind.Kind.{Kind}
use Rattle.topo_base.specs.declared.kind.Kind.TheVariants.{Puntal, Lineal, Areal}
use Rattle.topo_base.specs.declared.edit.Pair.{Pair}
use Rattle.topo_base.specs.declared.edit.Edit.{Edit}
use Rattle.topo_base.specs.declared.edit.Edit.TheVariants.{AddIsoNode, MoveIsoNode, RemoveIsoNode, AddIsoEdge, RemoveIsoEdge, AddEdgeModFace, AddEdgeNewFaces, RemEdgeModFace, RemEdgeNewFace, ModEdgeSplit, NewEdgesSplit, ModEdgeHeal, NewEdgeHeal, AddLayer, CreateTopoGeom, AddElement, RemElement, DropFeature}
use Rattle.topo_base.specs.declared.element.Element.{Element}
use Rattle.topo_base.specs.declared.element.Element.TheVariants.{Drawing as TheDrawing}
use Rattle.drawing.specs.Drawing.{Drawing, Edge, node_at, edge_at, layer_at, feature_at}
use Rattle.drawing.specs.HalfEdge.{HalfEdge, half_edges, leaves}
use Rattle.plane.specs.Direction.{first_direction, same_direction}
use Rattle.drawing.specs.Star.{leaving}
use Rattle.drawing.specs.Faces.{face_at}
use Rattle.plane.specs.Line.{segments_of, is_proper}
use Rattle.plane.specs.Segment.{Segment}
use Rattle.drawing.specs.Outcome.{the_node, the_edge, the_face, the_layer, the_feature}
use Rattle.drawing.specs.Blocked.{is_on_edge}
use Rattle.drawing.specs.AddEdge.{face_at_start}
use Rattle.drawing.specs.HealEdges.{common_nodes, healed_node, away_from}
use Rattle.topo_base.specs.Kinds.{kind_number}
use Rattle.drawing.specs.Descent.{ascending}

abbrev pub ReadTable : Type 0
ReadTable = Drawing → Edit → List Element

-- ---- the whole drawing
abbrev pub whole_drawing : ReadTable
whole_drawing S e = TheDrawing ∷ []

-- ---- what an edit depends on
-- the elements by table; they are read in the order faces, edges, nodes, layers, features, each ascending and once
pub record Readings : Type 0 where
  pub faces : List ℕ
  pub edges : List ℕ
  pub nodes : List ℕ
  pub layers : List ℕ
  pub features : List ℕ

abbrev pub no_readings : Readings
no_readings = record { faces = []; edges = []; nodes = []; layers = []; features = [] }

abbrev pub in_order : Readings → List Element
in_order r =
    map the_face (ascending r.faces) ++ map the_edge (ascending r.edges) ++ map the_node (ascending r.nodes) ++ map the_layer (ascending r.layers) ++ map the_feature (ascending r.features)

abbrev pub when : Bool → List ℕ → List ℕ
when b ns = if b then ns else []

-- an isolated node is read with its containing face
abbrev pub face_of_node : Option NodeRow → Option ℕ
face_of_node None = None
face_of_node (Some n) = n.containing_face

-- an isolated edge is drawn in the face of both nodes
abbrev pub face_of_both : Option ℕ → Option ℕ → List ℕ
face_of_both None g = []
face_of_both (Some f) g = when (option_eq nat_eq (Some f) g) (f ∷ [])

-- an added edge lies in the face where its line leaves, unless it has no direction there or leaves along an edge
abbrev pub is_proper_start : List Segment → Bool
is_proper_start [] = false
is_proper_start (s ∷ ss) = is_proper s

abbrev pub leaves_along : Drawing → ℕ → List Point → Bool
leaves_along S n line = list_any (λ (h : HalfEdge). leaves n h && same_direction (leaving h) (first_direction line)) (half_edges S)

abbrev pub face_of_line : Drawing → Option NodeRow → List Point → List ℕ
face_of_line S None line = []
face_of_line S (Some a) line = when (is_proper_start (segments_of line) && not (leaves_along S a.node_id line)) (face_at_start S a line ∷ [])

abbrev pub reads_of_line : Drawing → ℕ → ℕ → List Point → Readings
reads_of_line S a b line = record no_readings { faces = face_of_line S (node_at S a) line; nodes = a ∷ b ∷ [] }

-- a removed edge is read with its nodes and, where they differ, its sides, but not face 0
abbrev pub sides_of : Edge → List ℕ
sides_of e = when (not (e.left_face == e.right_face)) (filter (λ f. not (f == 0)) (e.left_face ∷ e.right_face ∷ []))

abbrev pub reads_of_removal : ℕ → Option Edge → Readings
reads_of_removal id None = record no_readings { edges = id ∷ [] }
reads_of_removal id (Some e) = record no_readings { faces = sides_of e; edges = id ∷ []; nodes = e.start_node ∷ e.end_node ∷ [] }

-- a split edge is read with its end node, and with both where it goes
abbrev pub reads_of_split : Bool → ℕ → Option Edge → Readings
reads_of_split anew id None = record no_readings { edges = id ∷ [] }
reads_of_split anew id (Some e) = record no_readings { edges = id ∷ []; nodes = when anew (e.start_node ∷ []) ++ e.end_node ∷ [] }

-- two healed edges are read with the common nodes that were tried and the other end of the second, and of the first where it goes
abbrev pub tried_from : Option ℕ → List ℕ → List ℕ
tried_from None ns = ns
tried_from (Some n) [] = []
tried_from (Some n) (m ∷ ms) = m ∷ when (not (n == m)) ms

abbrev pub far_ends : Bool → Option ℕ → Edge → Edge → List ℕ
far_ends anew None e f = []
far_ends anew (Some n) e f = (away_from n f).to_node ∷ when anew ((away_from n e).to_node ∷ [])

abbrev pub nodes_of_heal : Drawing → Bool → Option Edge → Option Edge → List ℕ
nodes_of_heal S anew None f = []
nodes_of_heal S anew (Some e) None = []
nodes_of_heal S anew (Some e) (Some f) =
    if e.edge_id == f.edge_id then [] else tried_from (healed_node S e f) (common_nodes e f) ++ far_ends anew (healed_node S e f) e f

abbrev pub reads_of_heal : Drawing → Bool → ℕ → ℕ → Readings
reads_of_heal S anew e f = record no_readings { edges = e ∷ f ∷ []; nodes = nodes_of_heal S anew (edge_at S e) (edge_at S f) }

-- a listed element is read by its type in the layer
abbrev pub reads_of_kind : Kind → ℕ → List Element
reads_of_kind Puntal id = the_node id ∷ []
reads_of_kind Lineal id = the_edge id ∷ []
reads_of_kind Areal id = the_face id ∷ []

abbrev pub with_listed : Kind → List ℕ → Readings → Readings
with_listed Puntal ids r = record r { nodes = ids }
with_listed Lineal ids r = record r { edges = ids }
with_listed Areal ids r = record r { faces = ids }

abbrev pub ids_of_type : ℕ → List Pair → List ℕ
ids_of_type type xs = map (λ (x : Pair). x.id) (filter (λ (x : Pair). x.element_type == type) xs)

abbrev pub with_elements_of : LayerRow → Option ℕ → List Pair → Readings → Readings
with_elements_of l None xs r = with_listed l.feature_type (ids_of_type (kind_number l.feature_type) xs) r
with_elements_of l (Some child) xs r = record r { features = r.features ++ ids_of_type child xs }

abbrev pub reads_of_elements : Option LayerRow → List Pair → Readings → Readings
reads_of_elements None xs r = r
reads_of_elements (Some l) xs r = with_elements_of l l.child_id xs r

-- a feature that gains an element is read with its layer
abbrev pub reads_of_gain : Drawing → Option FeatureRow → Pair → Readings → Readings
reads_of_gain S None x r = r
reads_of_gain S (Some t) x r = reads_of_elements (layer_at S t.layer_id) (x ∷ []) (record r { layers = t.layer_id ∷ [] })

-- an added node is read by its face alone, and where it lies on an edge there is none
abbrev pub reads : ReadTable
reads S (AddIsoNode face p) = in_order (record no_readings { faces = when (not (is_on_edge S p)) (face_at S p ∷ []) })
reads S (MoveIsoNode n p) = in_order (record no_readings { faces = option_to_list (face_of_node (node_at S n)); nodes = n ∷ [] })
reads S (RemoveIsoNode n) = in_order (record no_readings { nodes = n ∷ [] })
reads S (AddIsoEdge a b line) = in_order (record no_readings { faces = face_of_both (face_of_node (node_at S a)) (face_of_node (node_at S b)); nodes = a ∷ b ∷ [] })
reads S (RemoveIsoEdge e) = in_order (record (reads_of_removal e (edge_at S e)) { faces = [] })
reads S (AddEdgeModFace a b line) = in_order (reads_of_line S a b line)
reads S (AddEdgeNewFaces a b line) = in_order (reads_of_line S a b line)
reads S (RemEdgeModFace e) = in_order (reads_of_removal e (edge_at S e))
reads S (RemEdgeNewFace e) = in_order (reads_of_removal e (edge_at S e))
reads S (ModEdgeSplit e p) = in_order (reads_of_split false e (edge_at S e))
reads S (NewEdgesSplit e p) = in_order (reads_of_split true e (edge_at S e))
reads S (ModEdgeHeal e f) = in_order (reads_of_heal S false e f)
reads S (NewEdgeHeal e f) = in_order (reads_of_heal S true e f)
reads S (AddLayer name kind child) = TheDrawing ∷ []
reads S (CreateTopoGeom l xs) = in_order (reads_of_elements (layer_at S l) xs (record no_readings { layers = l ∷ [] }))
reads S (AddElement t id type) = in_order (reads_of_gain S (feature_at S t) (record { id = id; element_type = type }) (record no_readings { features = t ∷ [] }))
reads S (RemElement t id type) = in_order (record no_readings { features = t ∷ [] })
reads S (DropFeature t) = in_order (record no_readings { features = t ∷ [] })
