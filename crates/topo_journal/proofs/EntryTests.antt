-- The test of a journal of entries takes the spellings of entries that may follow, and no other body.
use Rattle.std.proofs.Common.{◌≡◌, true, IsTrue, ℕ, List, [], ◌∷◌, Option, Some, None, option_and_then, refl, sym, ap, ◌∙◌}
use Rattle.std.specs.Prelude.{◌↔◌}
use Rattle.std.specs.List.{list_all}
use Rattle.std.proofs.lemmas.Bool.{and_parts}
use Rattle.topo_base.specs.declared.edit.Entry.{Entry}
use Rattle.drawing.specs.Replay.{replay}
use Rattle.drawing.specs.InRange.{is_spelled}
use Rattle.history_model.specs.Spelling.{entry_bytes}
use Rattle.history_model.specs.Answers.{Bounds}
use Rattle.history_model.specs.Journal.{may_stand}
use Rattle.entry_codec.specs.Reading.{entry_in}
use Rattle.entry_codec.proofs.EditLaws.{entries_read}
use Rattle.topo_journal.specs.Bytes.{Legal}
use Rattle.topo_journal.specs.Kept.{gate_behind}
use Rattle.topo_journal.specs.Entries.{spellings, AreSpelled, MayFollow, entries_in, is_next, legal_entry}

-- the test takes a body behind the spellings of entries exactly where it spells an entry that may follow them
pub record TestsEntries (m : Bounds) (legal : Legal) : Type 0 where
  pub takes : (history : List Entry) (x : Entry) → AreSpelled history → MayFollow m history x → legal (spellings history) (entry_bytes x) ≡ true
  pub only : (history : List Entry) (body : List ℕ) → AreSpelled history → legal (spellings history) body ≡ true
      → (x : Entry) × (entry_bytes x ≡ body) × MayFollow m history x

once_more : (x : Entry) → IsTrue (is_spelled x) → entry_in (entry_bytes x) ≡ Some x
once_more x h = (entries_read (entry_bytes x) x).1 (h, refl)

all_once_more : (history : List Entry) → AreSpelled history → entries_in (spellings history) ≡ Some history
all_once_more [] are = refl
all_once_more (x ∷ history) are =
    let p = and_parts (is_spelled x) (list_all is_spelled history) are in
    ap (option_and_then (λ y. option_and_then (λ ys. Some (y ∷ ys)) (entries_in (spellings history)))) (once_more x p.0)
    ∙ ap (option_and_then (λ ys. Some (x ∷ ys))) (all_once_more history p.1)

by_history : (m : Bounds) (history : List Entry) (body : List ℕ) → AreSpelled history → legal_entry m (spellings history) body ≡ is_next m (spellings history) (Some history) (entry_in body)
unfolding legal_entry
by_history m history body are = ap (λ o. is_next m (spellings history) o (entry_in body)) (all_once_more history are)

by_entry : (m : Bounds) (history : List Entry) (x : Entry) → AreSpelled history → IsTrue (is_spelled x)
    → legal_entry m (spellings history) (entry_bytes x) ≡ may_stand m (replay history) (gate_behind (spellings history)) x
by_entry m history x are h = by_history m history (entry_bytes x) are ∙ ap (is_next m (spellings history) (Some history)) (once_more x h)

next_in : (m : Bounds) (history : List Entry) (body : List ℕ) (o : Option Entry) → entry_in body ≡ o → is_next m (spellings history) (Some history) o ≡ true
    → (x : Entry) × (entry_bytes x ≡ body) × MayFollow m history x
next_in m history body None found next = absurd (cc next)
next_in m history body (Some x) found next = let h = (entries_read body x).0 found in (x, h.1, (h.0, next))

pub tests_entries : (m : Bounds) → TestsEntries m (legal_entry m)
tests_entries m = record {
  takes = λ history x are may. by_entry m history x are may.0 ∙ may.1;
  only = λ history body are taken. next_in m history body (entry_in body) refl (sym (by_history m history body are) ∙ taken);
}

pub follows : (m : Bounds) (history : List Entry) (x : Entry) → AreSpelled history → IsTrue (is_spelled x) → (legal_entry m (spellings history) (entry_bytes x) ≡ true) ↔ MayFollow m history x
follows m history x are h = (λ taken. (h, sym (by_entry m history x are h) ∙ taken), λ may. by_entry m history x are h ∙ may.1)
