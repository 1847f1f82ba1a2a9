-- What a desk keeps when an entry is appended, or isn't.
use Rattle.std.proofs.Common.{◌≡◌, ◌<◌, ◌⊎◌, inl, inr, ℕ, ◌+◌, ◌^◌, Bool, true, List, [], ◌∷◌, ◌++◌, length, refl, sym, ap, subst, ◌∙◌, arith, leb-true}
use Rattle.std.proofs.lemmas.List.{map-append}
use Rattle.topo_base.specs.declared.edit.Entry.{Entry}
use Rattle.topo_base.specs.declared.element.Element.{Element}
use Rattle.topo_base.specs.declared.write.RowWrite.{RowWrite}
use Rattle.entry_codec.specs.Laws.{EntriesAreRead}
use Rattle.history_model.specs.Legal.{journal_length}
use Rattle.history_model.specs.Spelling.{entry_bytes}
use Rattle.topo_journal.specs.Entries.{spellings}
use Rattle.topo_journal.specs.Kept.{IsFrame, body_in}
use Rattle.topo_journal.proofs.EntryFrames.{entry_frame}
use Rattle.topo_desk.specs.Boarded.{Boarded}
use Rattle.topo_desk.specs.Doubt.{is_legal_with, may_be_in_doubt}
use Rattle.topo_desk.specs.Prepared.{IsReadied}
use Rattle.topo_desk.proofs.Entering.{frame_length, journal_more}

module _ (b : Boarded) (x : Entry) (ws : List RowWrite) (ids : List Element) (frame : List ℕ) (ready : IsReadied b x ws ids frame) where
  pub frame_ready : b.bounds.max_journal < 2 ^ 32 → IsFrame frame × (body_in frame ≡ entry_bytes x)
  frame_ready small =
      let within = leb-true _ _ ready.fits in
      let short : length (entry_bytes x) < 2 ^ 32 = omega (arith, within, small, journal_more b.history x) in
      subst (λ (l : List ℕ). IsFrame l × (body_in l ≡ entry_bytes x)) (sym ready.framed) (entry_frame x short)

  pub gate_after : (gate : ℕ) → gate + 1 ≡ journal_length b.history → (gate + length frame) + 1 ≡ journal_length (b.history ++ x ∷ [])
  gate_after gate at = omega (arith, at, ap length ready.framed, frame_length x, journal_more b.history x)

  pub gate_room : (gate : ℕ) → gate + 1 ≡ journal_length b.history → b.bounds.max_journal < 2 ^ 32 → gate + length frame + 1 < 2 ^ 64
  gate_room gate at small = let within = leb-true _ _ ready.fits in omega (arith, within, small, gate_after gate at)

  -- the body in doubt is this entry's, or the one that was
  pub doubt_after : EntriesAreRead → (now other : List ℕ) (was : Bool) → b.bounds.max_journal < 2 ^ 32 → (was ≡ true → may_be_in_doubt b.bounds b.history other ≡ true)
      → (now ≡ body_in frame) ⊎ ((was ≡ true) × (now ≡ other)) → may_be_in_doubt b.bounds b.history now ≡ true
  doubt_after read now other was small may (inl is) =
      ap (may_be_in_doubt b.bounds b.history) (is ∙ (frame_ready small).1) ∙ ap (is_legal_with b.bounds b.history) ((read (entry_bytes x) x).1 (ready.spelled, refl)) ∙ ready.legal
  doubt_after read now other was small may (inr w) = ap (may_be_in_doubt b.bounds b.history) w.1 ∙ may w.0

pub spellings_more : (xs : List Entry) (x : Entry) (old new : List (List ℕ)) (body : List ℕ) → old ≡ spellings xs → body ≡ entry_bytes x → new ≡ old ++ body ∷ [] → new ≡ spellings (xs ++ x ∷ [])
spellings_more xs x old new body had is more =
    more ∙ ap (λ (bs : List (List ℕ)). bs ++ body ∷ []) had ∙ ap (λ (l : List ℕ). spellings xs ++ l ∷ []) is ∙ sym (map-append entry_bytes xs (x ∷ []))
