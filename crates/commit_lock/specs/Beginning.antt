-- How a lock begins.
use Rattle.std.specs.Prelude.{ℕ, List, []}
use Rattle.topo_base.specs.declared.edit.Entry.{Entry}
use Rattle.commit_lock.specs.declared.setting.Setting.{Setting}
use Rattle.commit_lock.specs.declared.view.Origin.{Origin}
use Rattle.commit_lock.specs.declared.view.View.{View}
use Rattle.commit_lock.specs.declared.view.Stage.TheVariants.{Idle}
use Rattle.commit_lock.specs.declared.rule.Key.{Key}
use Rattle.commit_lock.specs.Views.{view_of, new_lines}

module _ {T : Type 0} where
  -- a lock of n passes round this value
  abbrev pub origin : (T → List Entry) → (T → Setting) → T → ℕ → Origin
  origin entries setting value n = record { setting = setting value; opening = entries value; passes = n }

  -- the same, from the table's key
  abbrev pub origin_of : (T → List Entry) → (T → Setting) → Key T → Origin
  origin_of entries setting key = origin entries setting key.value.value key.passes

  -- the view of the first seat, which has the lines of all passes
  abbrev pub maker_of : (T → ℕ) → Origin → Key T → View
  maker_of faults from key = view_of from Idle (new_lines 1 from.passes from.opening) [] (faults key.value.value) 0
