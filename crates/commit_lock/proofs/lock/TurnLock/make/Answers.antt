use Rattle.std.proofs.Common.{rules, ◌≡◌, ◌≤◌, [], ◌∷◌, Some, sym, subst}
use Rattle.std.specs.Prelude.{Option as Maybe}
use mathlib.Core.List.{List}
use Rattle.atomic_table.specs.Table.{opening}
use Rattle.commit_lock.specs.Beginning.{origin_of, maker_of}
use Rattle.commit_lock.specs.declared.rule.Key.{Key}
use Rattle.commit_lock.specs.TableRule.{IsConsistent}
use Rattle.commit_lock.proofs.Joining.{begins}
use Rattle.commit_lock.proofs.lock.TurnLock.make.Goals as goal

pub new-requires : goal.new-requires
new-requires g c =
    let entries = g.T.Chronicle.entries in
    let faults = g.T.Chronicle.faults in
    let setting = g.T.Chronicle.setting in
    let few : c.from.result ≤ 64 = search rules in
    let y = c.of.result.value in
    let items : c.push_reserved.new.self.items ≡ Some y ∷ [] = search rules in
    let b : Key g.row.T.Denot = record { value = c.of.result; passes = c.from.result } in
    let o = origin_of entries setting b in
    subst (λ (its : List (Maybe g.row.T.Denot)). IsConsistent entries faults setting o (opening (0 ∷ 0 ∷ 0 ∷ []) its (maker_of faults o b))) (sym items) (begins entries faults setting y c.from.result few)
