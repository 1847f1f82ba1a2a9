use Rattle.std.proofs.Common.{◌+◌, ◌++◌, List, ℕ, sym, ap, ◌∙◌, append_assoc, take}
use Rattle.script_model.specs.Texts.{entry_text, entries_text}
use Rattle.table_print.proofs.Entries.{entries_more}
use Rattle.table_print.proofs.history.push_entries.Goals as goal

pub loop-index-preserved : goal.loop-index-preserved
loop-index-preserved c =
    let i = c.loop-index.index in
    let es = c.args.entries.now in
    let text = c.args.text.now in
    let x = c.index-entries-index.result in
    c.in_ok-push_entry.ensures ∙ ap (λ (t : List ℕ). t ++ entry_text (i + 1) x) c.loop-index.invariant ∙ append_assoc text (entries_text 1 (take i es)) (entry_text (i + 1) x)
    ∙ ap (λ (l : List ℕ). text ++ l) (sym (entries_more es i x c.loop-index-test.true c.index-entries-index.is))
