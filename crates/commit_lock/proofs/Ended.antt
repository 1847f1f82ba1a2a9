-- What the value has at the end.
use Rattle.std.specs.Prelude.{◌≡◌, ℕ, ◌+◌, ◌≤◌, List, ◌++◌, length}
use Rattle.std.specs.List.{AllByRecursion as Each}
use Rattle.topo_base.specs.declared.edit.Entry.{Entry}
use Rattle.commit_lock.specs.declared.setting.Setting.{Setting}
use Rattle.commit_lock.specs.declared.view.Origin.{Origin}
use Rattle.commit_lock.specs.declared.view.Line.{Line}
use Rattle.commit_lock.specs.History.{IsPrefix, own_entries, IsEditor}

-- the line's own entries are all of its number that were gained, and the history begins with what it has seen
pub record Agrees (opening gained list : List Entry) (l : Line) : Type 0 where
  pub own : l.own ≡ own_entries l.number (length opening + 1) gained
  pub seen : IsPrefix l.seen list

pub record Ended {T : Type 0} (entries : T → List Entry) (faults : T → ℕ) (setting : T → Setting) (o : Origin) (ls : List Line) (c : ℕ) (y : T) : Type 0 where
  pub gained : List Entry
  pub grown : entries y ≡ o.opening ++ gained
  pub editors : Each (IsEditor o.passes) gained
  pub lines : Each (Agrees o.opening gained (entries y)) ls
  pub count : c ≤ faults y
  pub same_setting : setting y ≡ o.setting
