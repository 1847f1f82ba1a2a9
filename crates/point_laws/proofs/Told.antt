-- What the laws of points are told of the drawing before a change.
use Rattle.drawing.specs.Drawing.{Drawing}
use Rattle.edit_changes.proofs.IdsOrdering.{AllInOrder, order_of}
use Rattle.relation_rows.proofs.KnownFeatures.{references_parts}
use Rattle.reference_laws.proofs.KnownRows.{HasKnownRows}
use Rattle.subdivision_laws.specs.Subdivided.{IsSubdivided}

pub record IsTold (S : Drawing) : Type 0 where
  pub before : IsSubdivided S
  pub rows : HasKnownRows S
  pub order : AllInOrder S

pub told : (S : Drawing) → IsSubdivided S → IsTold S
told S s =
    let k = references_parts S s.referenced.references in
    let n = s.referenced.starts in
    record {
      before = s;
      rows = record { layers = k.layers; names = k.names; features = k.features; relations = k.relations; ascend = k.ascend };
      order = order_of S s.referenced.ids (n.node, n.edge, n.layer, n.feature);
    }
