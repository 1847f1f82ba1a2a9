-- What the bytes of a journal stand for.
use Rattle.std.specs.Prelude.{◌≡◌, ◌≢◌, ℕ, ◌+◌, ◌≤◌, ◌⊎◌, Bool, ◌&&◌, nat_le, IsTrue, List, [], ◌∷◌, ◌++◌, length, is_ok, codes}
use Rattle.topo_base.specs.declared.edit.Entry.{Entry}
use Rattle.drawing.specs.Drawing.{Drawing, nothing_drawn}
use Rattle.drawing.specs.Step.{step}
use Rattle.drawing.specs.Replay.{after}
use Rattle.drawing.specs.Accepted.{ids_within}
use Rattle.drawing.specs.InRange.{is_spelled}
use Rattle.history_model.specs.Spelling.{number_bytes, entry_bytes}
use Rattle.history_model.specs.Answers.{Bounds}

-- at a gate: open, then a length, an entry's spelling and the next gate's bytes
pub record IsFramed (bytes : List ℕ) (x : Entry) (next : List ℕ) : Type 0 where
  pub spelled : IsTrue (is_spelled x)
  pub laid : bytes ≡ 1 ∷ (number_bytes (length (entry_bytes x)) ++ entry_bytes x ++ next)
  pub gated : next ≢ []

-- the next gate's offset, and whether the entry may stand there
abbrev pub next_gate : ℕ → Entry → ℕ
next_gate gate x = gate + 5 + length (entry_bytes x)

abbrev pub may_stand : Bounds → Drawing → ℕ → Entry → Bool
may_stand m S gate x = is_ok (step S x.edit) && ids_within m.max_id (after S x.edit) && nat_le (next_gate gate x + 1) m.max_journal

-- a gate that is closed: another byte than 1
abbrev pub IsClosed : List ℕ → Type 0
IsClosed [] = ⊥
IsClosed (b ∷ bs) = b ≢ 1

-- from the gate at this offset on, the bytes are these entries and a closed gate
abbrev pub AreEntries : Bounds → Drawing → ℕ → List ℕ → List Entry → Type 0
AreEntries m S gate bytes [] = IsClosed bytes
AreEntries m S gate bytes (x ∷ xs) =
    (next : List ℕ) × (IsFramed bytes x next × IsTrue (may_stand m S gate x) × AreEntries m (after S x.edit) (next_gate gate x) next xs)

-- nothing may stand at this gate, and it is not closed
pub record IsBadGate (m : Bounds) (S : Drawing) (gate : ℕ) (bytes : List ℕ) : Type 0 where
  pub not_closed : IsClosed bytes → ⊥
  pub no_entry : (x : Entry) (next : List ℕ) → IsFramed bytes x next → IsTrue (may_stand m S gate x) → ⊥

-- the first bad gate behind these entries
abbrev pub IsBadAfter : Bounds → Drawing → ℕ → List ℕ → List Entry → ℕ → Type 0
IsBadAfter m S gate bytes [] offset = (offset ≡ gate) × IsBadGate m S gate bytes
IsBadAfter m S gate bytes (x ∷ xs) offset =
    (next : List ℕ) × (IsFramed bytes x next × IsTrue (may_stand m S gate x) × IsBadAfter m (after S x.edit) (next_gate gate x) next xs offset)

-- the header: an open gate, TOPOJ and a format byte that is not 2
pub record IsHeaded (bytes rest : List ℕ) : Type 0 where
  pub format : ℕ
  pub laid : bytes ≡ 1 ∷ (codes "TOPOJ" ++ format ∷ rest)
  pub not_later : format ≢ 2

-- not yet a journal: at most one byte, or at most eight with a closed header gate
abbrev pub IsNoJournalYet : List ℕ → Type 0
IsNoJournalYet bytes = (length bytes ≤ 1) ⊎ ((length bytes ≤ 8) × IsClosed bytes)

-- the bytes stand for the history; they are bad at the offset
abbrev pub StandsFor : Bounds → List ℕ → List Entry → Type 0
StandsFor m bytes history = (IsNoJournalYet bytes × (history ≡ [])) ⊎ ((rest : List ℕ) × (IsHeaded bytes rest × AreEntries m nothing_drawn 7 rest history))

abbrev pub IsBadAt : Bounds → List ℕ → ℕ → Type 0
IsBadAt m bytes offset =
    ((IsNoJournalYet bytes → ⊥) × (offset ≡ 0) × ((rest : List ℕ) → IsHeaded bytes rest → rest ≢ [] → ⊥))
    ⊎ ((rest : List ℕ) × (IsHeaded bytes rest × (rest ≢ []) × ((xs : List Entry) × IsBadAfter m nothing_drawn 7 rest xs offset)))
