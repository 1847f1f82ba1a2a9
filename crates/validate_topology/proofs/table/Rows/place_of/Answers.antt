use Rattle.std.proofs.Common.{rules, subst, List, length}
use Rattle.std.specs.Ordering.{nat_cmp}
use Rattle.std.specs.List.Sorted.{IsBinarySearchResult, IsSearchInRange}
use Rattle.std.proofs.lemmas.Fn.{always_returns_same}
use Rattle.validate_topology.proofs.Lookups.{looked_up}
use Rattle.validate_topology.proofs.table.Rows.place_of.Goals as goal

pub returns-clause-lookup : goal.returns-clause-lookup
returns-clause-lookup g c =
    let ord = λ (y : g.row.R.Denot). nat_cmp (g.R.Row.number y) c.args.id in
    let is = c.deref.ensures.value in
    let result = c.binary_search_by.result in
    let found = c.binary_search_by.ensures.position ord (always_returns_same _ _ _ (λ a r f' k. search rules)) in
    let there = subst (λ (xs : List g.row.R.Denot). IsBinarySearchResult ord xs result) is found in
    let within = subst (λ (xs : List g.row.R.Denot). IsSearchInRange result (length xs)) is c.binary_search_by.ensures.bound in
    rw (← c.self.view_is, c.ok.ensures.value) (looked_up g.R.Row.number c.self.inside.rows.items c.args.id result c.self.invariant.0 within there)
