-- Bytes that stand for a history have no bad gate, and stand for no other history.
use Rattle.std.proofs.Common.{◌≡◌, ◌≢◌, ◌⊎◌, inl, inr, ℕ, ◌+◌, List, [], ◌∷◌, ◌++◌, length, drop, IsTrue, refl, sym, ap, subst, ◌∙◌}
use Rattle.topo_base.specs.declared.edit.Entry.{Entry}
use Rattle.history_model.specs.Answers.{Bounds}
use Rattle.drawing.specs.Drawing.{Drawing, nothing_drawn}
use Rattle.history_model.specs.Journal.{IsFramed, next_gate, AreEntries, IsBadAfter, IsClosed, IsHeaded, StandsFor, IsBadAt}
use Rattle.drawing.specs.Replay.{after}
use Rattle.history_model.specs.Spelling.{number_bytes, entry_bytes}
use Rattle.history_model.proofs.Spellings.{entry_front}
use Rattle.topo_recover.proofs.Endings.{yet_not_bad}

-- what stands behind an open gate is one entry, and then one rest
one_frame : (bytes : List ℕ) (x y : Entry) (next other : List ℕ) → IsFramed bytes x next → IsFramed bytes y other → (x ≡ y) × (next ≡ other)
one_frame bytes x y next other h g = entry_front x y next other h.spelled g.spelled (ap (drop 5) (sym h.laid ∙ g.laid))

framed_not_closed : (bytes : List ℕ) (x : Entry) (next : List ℕ) → IsFramed bytes x next → IsClosed bytes → ⊥
framed_not_closed bytes x next h closed = (subst IsClosed h.laid closed) refl

entries_not_bad : (m : Bounds) (S : Drawing) (gate : ℕ) (bytes : List ℕ) (ys xs : List Entry) (offset : ℕ) → AreEntries m S gate bytes ys → IsBadAfter m S gate bytes xs offset → ⊥
entries_not_bad m S gate bytes [] [] offset h bad = bad.1.not_closed h
entries_not_bad m S gate bytes [] (x ∷ xs) offset h bad = framed_not_closed bytes x bad.0 bad.1.0 h
entries_not_bad m S gate bytes (y ∷ ys) [] offset h bad = bad.1.no_entry y h.0 h.1.0 h.1.1
entries_not_bad m S gate bytes (y ∷ ys) (x ∷ xs) offset h bad =
    let same = one_frame bytes x y bad.0 h.0 bad.1.0 h.1.0 in
    let rest : IsBadAfter m (after S y.edit) (next_gate gate y) h.0 xs offset = subst (λ (z : Entry). IsBadAfter m (after S z.edit) (next_gate gate z) h.0 xs offset) same.0
    (subst (λ (l : List ℕ). IsBadAfter m (after S x.edit) (next_gate gate x) l xs offset) same.1 bad.1.2) in
    entries_not_bad m (after S y.edit) (next_gate gate y) h.0 ys xs offset h.1.2 rest

one_rest : (bytes a b : List ℕ) → IsHeaded bytes a → IsHeaded bytes b → a ≡ b
one_rest bytes a b h g = ap (drop 7) (sym h.laid ∙ g.laid)

entries_not_empty : (m : Bounds) (S : Drawing) (gate : ℕ) (bytes : List ℕ) (ys : List Entry) → AreEntries m S gate bytes ys → bytes ≢ []
entries_not_empty m S gate bytes [] h none = subst IsClosed none h
entries_not_empty m S gate bytes (y ∷ ys) h none = absurd (let e = sym h.1.0.laid ∙ none in cc)

pub stands_not_bad : (m : Bounds) (bytes : List ℕ) (history : List Entry) (offset : ℕ) → StandsFor m bytes history → IsBadAt m bytes offset → ⊥
stands_not_bad m bytes history offset (inl yet) bad = yet_not_bad m bytes offset yet.0 bad
stands_not_bad m bytes history offset (inr (rest, good)) (inl bad) = bad.2 rest good.0 (entries_not_empty m nothing_drawn 7 rest history good.1)
stands_not_bad m bytes history offset (inr (rest, good)) (inr (other, bad)) =
    entries_not_bad m nothing_drawn 7 rest history bad.2.0 offset good.1 (subst (λ (l : List ℕ). IsBadAfter m nothing_drawn 7 l bad.2.0 offset) (one_rest bytes other rest bad.0 good.0) bad.2.1)
