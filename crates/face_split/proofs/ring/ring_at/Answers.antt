use Rattle.std.proofs.Common.{List, IsTrue, true, sym, ap, ◌∙◌, subst}
use Rattle.std.specs.List.{Contains}
use Rattle.topo_base.specs.declared.ids.Dart.{Dart}
use Rattle.face_rings.specs.declared.content.BorderDart.{BorderDart}
use Rattle.face_rings.specs.Border.{are_linked, darts_of}
use Rattle.face_rings.specs.Rings.{ring_of}
use Rattle.face_split.proofs.RingOfEdge.{border_is, border_ascends, border_linked, dart_there, ring_is}
use Rattle.face_split.proofs.ring.ring_at.Goals as goal

pub of_rows-requires : goal.of_rows-requires
of_rows-requires c = border_ascends c.args.tables.now.rows _ _ c.args.face c.in_ok-edges.ensures c.rows.ensures c.requires.linked

pub ring_of-requires-clause-linked : goal.ring_of-requires-clause-linked
ring_of-requires-clause-linked c =
    subst (λ (b : List BorderDart). IsTrue (are_linked b)) (sym (c.in_ok-border.ensures ∙ border_is c.args.tables.now.rows _ _ c.args.face c.in_ok-edges.ensures c.rows.ensures c.requires.linked))
    (border_linked c.args.tables.now.rows c.args.face c.requires.linked)

pub ring_of-requires-clause-there : goal.ring_of-requires-clause-there
ring_of-requires-clause-there c =
    let forward : Dart = record { edge = c.args.edge; forward = true } in
    subst (λ (b : List BorderDart). Contains (darts_of b) forward) (sym (c.in_ok-border.ensures ∙ border_is c.args.tables.now.rows _ _ c.args.face c.in_ok-edges.ensures c.rows.ensures c.requires.linked))
    (dart_there c.args.tables.now.rows c.args.edge c.args.face c.requires.there.row c.requires.there.beside)

pub returns-clause-border : goal.returns-clause-border
returns-clause-border c = c.in_ok-border.ensures ∙ border_is c.args.tables.now.rows _ _ c.args.face c.in_ok-edges.ensures c.rows.ensures c.requires.linked

pub returns-clause-ring : goal.returns-clause-ring
returns-clause-ring c e is =
    let forward : Dart = record { edge = c.args.edge; forward = true } in
    c.in_ok-ring.ensures
    ∙ ap (λ (b : List BorderDart). ring_of b forward) (c.in_ok-border.ensures ∙ border_is c.args.tables.now.rows _ _ c.args.face c.in_ok-edges.ensures c.rows.ensures c.requires.linked)
    ∙ ring_is c.args.tables.now.rows c.args.edge c.args.face e c.requires.linked is
