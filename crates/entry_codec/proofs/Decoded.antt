-- What is at the front, by how much is left.
use Rattle.std.proofs.Common.{◌≡◌, ℕ, ◌-◌, ◌≤◌, IsTrue, List, ◌++◌, length, drop, Some, None, Result, Err, sym, ap, ◌∙◌, arith, length-append}
use Rattle.std.proofs.lemmas.List.{drop_at}
use Rattle.topo_base.specs.declared.edit.Entry.{Entry}
use Rattle.drawing.specs.InRange.{is_spelled}
use Rattle.history_model.specs.Spelling.{entry_bytes}
use Rattle.entry_codec.specs.Reading.{entry_at}
use Rattle.entry_codec.specs.Gives.{Fails, IsInFront}
use Rattle.entry_codec.specs.declared.ends.CodecEnd.{CodecEnd}
use Rattle.entry_codec.specs.declared.ends.CodecEnd.TheVariants.{NoEntry, Memory}
use Rattle.entry_codec.proofs.EditLaws.{entry_takes, entry_again}

abbrev pub taken : List ℕ → List ℕ → ℕ
taken bytes rest = length bytes - length rest

pub left_fits : (bytes : List ℕ) (x : Entry) (rest : List ℕ) → entry_at bytes ≡ Some (x, rest) → length rest ≤ length bytes
left_fits bytes x rest e = let t = entry_takes bytes x rest e in omega (arith, ap length t.1, length-append (entry_bytes x) rest)

size_taken : (bytes : List ℕ) (x : Entry) (rest : List ℕ) → entry_at bytes ≡ Some (x, rest) → taken bytes rest ≡ length (entry_bytes x)
size_taken bytes x rest e = let t = entry_takes bytes x rest e in omega (arith, ap length t.1, length-append (entry_bytes x) rest)

pub rest_left : (bytes : List ℕ) (x : Entry) (rest : List ℕ) → entry_at bytes ≡ Some (x, rest) → drop (taken bytes rest) bytes ≡ rest
rest_left bytes x rest e =
    let t = entry_takes bytes x rest e in
    ap (drop (taken bytes rest)) t.1 ∙ drop_at (entry_bytes x) rest (taken bytes rest) (sym (size_taken bytes x rest e))

pub in_front : (bytes : List ℕ) (x : Entry) (rest : List ℕ) → entry_at bytes ≡ Some (x, rest) → IsInFront bytes x (taken bytes rest)
in_front bytes x rest e =
    let t = entry_takes bytes x rest e in
    record {
      spelled = t.0;
      size_is = size_taken bytes x rest e;
      within = omega (arith, left_fits bytes x rest e);
      laid = t.1 ∙ ap (λ (l : List ℕ). entry_bytes x ++ l) (sym (rest_left bytes x rest e));
    }

pub exactly : (bytes : List ℕ) (x : Entry) (rest : List ℕ) → entry_at bytes ≡ Some (x, rest) → entry_at bytes ≡ Some (x, drop (taken bytes rest) bytes)
exactly bytes x rest e = e ∙ (λ i. Some (x, sym (rest_left bytes x rest e) i))

pub not_there : (bytes : List ℕ) → entry_at bytes ≡ None → (x : Entry) (rest : List ℕ) → IsTrue (is_spelled x) → bytes ≡ entry_bytes x ++ rest → ⊥
not_there bytes none x rest h laid = cc (sym none ∙ ap entry_at laid ∙ entry_again x rest h)

abbrev pub ended : {T : Type 0} → CodecEnd → Result T CodecEnd
ended e = Err e

pub nothing_read : {T : Type 0} (e : CodecEnd) (bytes : List ℕ) → Fails e (entry_at bytes) → ended {T = T} e ≡ ended NoEntry → entry_at bytes ≡ None
nothing_read Memory bytes fails same = absurd (cc same)
nothing_read NoEntry bytes fails same = fails
