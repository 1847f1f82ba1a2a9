-- Elements that relation rows of primitive layers name.
use Rattle.std.specs.Prelude.{ℕ, Bool, true, false}
use Rattle.topo_base.specs.declared.element.Element.{Element}
use Rattle.topo_base.specs.declared.element.Element.TheVariants.{Node, Edge, Face}
use Rattle.drawing.specs.Relations.{node_type, edge_type, face_type}

-- a node, an edge or a face
abbrev pub is_primitive : Element → Bool
is_primitive (Node n) = true
is_primitive (Edge e) = true
is_primitive (Face f) = true
is_primitive _ = false

-- its type in relation rows
abbrev pub type_of : Element → ℕ
type_of (Node n) = node_type
type_of (Edge e) = edge_type
type_of (Face f) = face_type
type_of _ = 0

-- its number
abbrev pub number_of : Element → ℕ
number_of (Node n) = n
number_of (Edge e) = e
number_of (Face f) = f
number_of _ = 0
