-- Sizes and frames of entries, spelled by the definitions of entries and by those of bodies.
use Rattle.std.proofs.Common.{◌≡◌, ◌<◌, ℕ, zero, suc, ◌^◌, List, [], ◌∷◌, ◌++◌, length, take, get_or, refl, sym, ◌∙◌, ap, arith, append_assoc}
use Rattle.std.proofs.lemmas.Nat.{be_bytes_4}
use Rattle.std.proofs.lemmas.List.{take_at}
use Rattle.topo_base.specs.declared.edit.Entry.{Entry}
use Rattle.history_model.specs.Spelling.{number_bytes, entry_bytes, frame_bytes}
use Rattle.topo_journal.specs.Bytes.{size_bytes, frame}
use Rattle.topo_journal.specs.Kept.{body_in}
use Rattle.topo_journal.specs.Entries.{IsEntryFrame}
use Rattle.topo_journal.proofs.Reading.{number-bytes}

digits_below : (n i : ℕ) → n < 2 ^ 32 → get_or (size_bytes n) i 0 < 256
digits_below n zero small = omega arith
digits_below n (suc zero) small = omega arith
digits_below n (suc (suc zero)) small = omega arith
digits_below n (suc (suc (suc zero))) small = omega arith
digits_below n (suc (suc (suc (suc i)))) small = omega arith

-- below 2 ^ 32 both spell a number alike
pub number_size : (n : ℕ) → n < 2 ^ 32 → number_bytes n ≡ size_bytes n
number_size n small = be_bytes_4 (size_bytes n) n refl (λ i. digits_below n i small) (omega arith)

pub frame_is : (x : Entry) → length (entry_bytes x) < 2 ^ 32 → frame_bytes x ≡ frame (entry_bytes x) ++ 0 ∷ []
frame_is x small =
    let body = entry_bytes x in
    ap (λ (l : List ℕ). l ++ (body ++ 0 ∷ [])) (number_size (length body) small) ∙ sym (append_assoc (size_bytes (length body)) body (0 ∷ []))

pub entry_frame : (x : Entry) → length (entry_bytes x) < 2 ^ 32 → IsEntryFrame x
entry_frame x small =
    let body = entry_bytes x in
    let is = frame_is x small in
    let its_body : body_in (frame_bytes x) ≡ body = ap body_in is ∙ ap (λ (m : ℕ). take m (body ++ 0 ∷ [])) (number-bytes (length body)) ∙ take_at body (0 ∷ []) (length body) refl in
    (is ∙ ap (λ (l : List ℕ). frame l ++ 0 ∷ []) (sym its_body), its_body)
