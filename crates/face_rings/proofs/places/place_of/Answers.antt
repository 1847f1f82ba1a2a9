use Rattle.std.proofs.Common.{rules}
use Rattle.std.specs.List.Sorted.{IsBinarySearchResult}
use Rattle.std.proofs.lemmas.Fn.{always_returns_same}
use Rattle.face_rings.proofs.Lookups.{order_to, found_there, found_none}
use Rattle.face_rings.proofs.places.place_of.Goals as goal

searched : (c : goal.After-ok) → IsBinarySearchResult (order_to c.args.dart.now) c.args.darts.now c.binary_search_by.result
searched c = c.binary_search_by.ensures.position (order_to c.args.dart.now) (always_returns_same _ _ _ (λ a r f' k. search rules))

pub returns-clause-found : goal.returns-clause-found
returns-clause-found c = rw c.ok.ensures.value (found_there c.args.darts.now c.args.dart.now c.binary_search_by.result (searched c))

pub returns-clause-none : goal.returns-clause-none
returns-clause-none c = rw c.ok.ensures.value (found_none c.args.darts.now c.args.dart.now c.binary_search_by.result c.requires (searched c))
