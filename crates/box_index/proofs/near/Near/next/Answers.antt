use Rattle.std.proofs.Common.{◌≡◌, subst, List, [], ◌∷◌, MatchOption, IsPermutation}
use Rattle.box_index.specs.declared.entry.Entry.{Entry}
use Rattle.box_index.specs.Near.{found_later}
use Rattle.box_index.proofs.Taken.{shorter_found}
use Rattle.box_index.proofs.near.Near.next.Goals as goal

pub returns-clause-shorter : goal.returns-clause-shorter
returns-clause-shorter c =
    let P : List Entry → Type 0 = λ es. MatchOption c.next.result (es ≡ []) (λ e. IsPermutation es (e ∷ found_later c.next.new.self)) in
    shorter_found c.next.result _ _ (subst P c.self.view_is c.next.ensures.found)
