-- What contracts see of a table, and its nodes.
use Rattle.std.proofs.Common.{◌≡◌, ◌∙◌, ℕ, ◌<◌, Bool, false, IsTrue, Option, length, get_or, Result, Ok, Err, OnOk, sym, ap, subst}
use Rattle.shared_rows.specs.Slotted.{Slotted, tabulate, IsOpen}
use Rattle.shared_rows.proofs.Tabulated.{length-tabulate, opened_tabulated}

module _ {R : Type 0} (shown : Slotted R) (row_at : ℕ → Option R) (is_open : ℕ → Bool) (len n : ℕ) where
  -- the table's length is that of the list
  pub len_is : record { slots = tabulate row_at len; opened = tabulate is_open n } ≡ shown → len ≡ length shown.slots
  len_is e = sym (length-tabulate row_at len) ∙ ap (λ (s : Slotted R). length s.slots) e

  -- what is open in the list is open in the nodes
  pub is_open_at : record { slots = tabulate row_at len; opened = tabulate is_open n } ≡ shown → (k : ℕ) → k < n → IsOpen shown k → IsTrue (is_open k)
  is_open_at e k h open_there = sym (opened_tabulated is_open n k h) ∙ ap (λ (s : Slotted R). get_or s.opened k false) e ∙ open_there

  pub is_open_behind : record { slots = tabulate row_at len; opened = tabulate is_open n } ≡ shown → len < n → IsOpen shown (length shown.slots) → IsTrue (is_open len)
  is_open_behind e h open_there = is_open_at e len h (subst (IsOpen shown) (sym (len_is e)) open_there)

-- what follows where a call succeeds
pub on_ok : {T E P Q : Type 0} (result : Result T E) → (P → Q) → OnOk result P → OnOk result Q
on_ok (Ok value) follows holds = follows holds
on_ok (Err error) follows holds = holds
