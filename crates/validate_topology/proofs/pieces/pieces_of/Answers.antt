use Rattle.std.proofs.Common.{◌∙◌, ◌++◌, ◌↔◌, flat_map, ap, rules, subst, List, map}
use Rattle.std.specs.Prelude.{Contains}
use Rattle.std.proofs.lemmas.List.Sorted.{answers_always}
use Rattle.validate_topology.specs.Pieces.{edge_pieces, left_of, node_piece}
use Rattle.validate_topology.specs.declared.pieces.Piece.{Piece}
use Rattle.validate_topology.proofs.PieceOrder.{order_of, same_members}
use Rattle.validate_topology.proofs.pieces.pieces_of.Goals as goal

pub returns-clause-all : goal.returns-clause-all
returns-clause-all c p =
    let nodes = c.args.nodes.now in
    let edges = c.args.edges.now in
    let none = ap (λ (xs : List Piece). xs ++ map node_piece nodes) c.new-pieces.ensures.items in
    let is = c.in_ok-push_edges.ensures ∙ ap (λ (xs : List Piece). xs ++ flat_map edge_pieces edges) (c.in_ok-push_nodes.ensures ∙ none) in
    let sorted = c.sort_unstable_by_key.new.self.items in
    subst (λ (xs : List Piece). Contains sorted p ↔ Contains xs p) is (same_members c.push_edges.new.pieces.items sorted p c.sort_unstable_by_key.ensures.permutation)

pub returns-clause-order : goal.returns-clause-order
returns-clause-order c = order_of _ (c.sort_unstable_by_key.ensures.sorted left_of (answers_always _ _ _ (λ f a r f' h. search rules)))
