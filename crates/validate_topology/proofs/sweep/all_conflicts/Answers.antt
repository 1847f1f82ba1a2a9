use Rattle.std.proofs.Common.{List, subst}
use Rattle.std.specs.Prelude.{Contains}
use Rattle.std.proofs.lemmas.Result.{IfOk-weaker}
use Rattle.validate_topology.specs.Conflicts.{IsConflictOf}
use Rattle.validate_topology.specs.Pieces.{AreFound, IsOfTwo}
use Rattle.validate_topology.specs.declared.conflicts.Conflict.{Conflict}
use Rattle.validate_topology.specs.declared.pieces.Piece.{Piece}
use Rattle.validate_topology.proofs.PieceConflicts.{all_found, only_found}
use Rattle.validate_topology.proofs.sweep.all_conflicts.Goals as goal

pub returns-clause-all : goal.returns-clause-all
returns-clause-all g c =
    let ps = c.in_ok-pieces.pieces.items in
    let nodes = c.args.nodes.now in
    let edges = c.args.edges.now in
    IfOk-weaker c.compare_each.result (λ v. AreFound c.deref.result.now v.items)
    (λ v. (d : Conflict) → IsConflictOf nodes edges d.kind d.pair → Contains v.items d)
    (λ v found. all_found ps nodes edges v.items c.in_ok-pieces.ensures.all (subst (λ (xs : List Piece). AreFound xs v.items) c.deref.ensures.value found))
    c.compare_each.ensures.all

pub returns-clause-only : goal.returns-clause-only
returns-clause-only g c =
    let ps = c.in_ok-pieces.pieces.items in
    let nodes = c.args.nodes.now in
    let edges = c.args.edges.now in
    IfOk-weaker c.compare_each.result (λ v. (d : Conflict) → Contains v.items d → IsOfTwo c.deref.result.now d)
    (λ v. (d : Conflict) → Contains v.items d → IsConflictOf nodes edges d.kind d.pair)
    (λ v only d h. only_found ps nodes edges c.in_ok-pieces.ensures.all d (subst (λ (xs : List Piece). IsOfTwo xs d) c.deref.ensures.value (only d h)))
    c.compare_each.ensures.only
