-- What an edit is answered: the drawing after it with the new ids, or the rule that refuses it.
use Rattle.std.specs.Prelude.{ℕ, List, Result}
use Rattle.topo_base.specs.declared.rule.Rule.{Rule}
use Rattle.topo_base.specs.declared.element.Element.{Element}
use Rattle.topo_base.specs.declared.element.Element.TheVariants.{Node, Edge, Face, Layer, Feature}
use Rattle.drawing.specs.Drawing.{Drawing}

pub record Accepted : Type 0 where
  pub drawing : Drawing
  pub ids : List Element

abbrev pub Outcome : Type 0
Outcome = Result Accepted Rule

-- the elements that a reply names
abbrev pub the_node : ℕ → Element
the_node n = Node n

abbrev pub the_edge : ℕ → Element
the_edge n = Edge n

abbrev pub the_face : ℕ → Element
the_face n = Face n

abbrev pub the_layer : ℕ → Element
the_layer n = Layer n

abbrev pub the_feature : ℕ → Element
the_feature n = Feature n
