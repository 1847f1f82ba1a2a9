-- What each status means, from the cause of the end.
use Rattle.std.proofs.Common.{◌≡◌, ◌≢◌, ◌⊎◌, inl, inr, ℕ, ◌<◌, ◌≤◌, Bool, true, false, cond, ◌||◌, List, [], ◌∷◌, length, get_or, Option, Some, None, refl, sym, subst, ap, ◌∙◌, arith}
use Rattle.std.specs.Prelude.{IfSome, codes}
use Rattle.std.specs.List.{list_all, list_any}
use Rattle.std.proofs.lemmas.List.Sums.{sum_by-cons}
use Rattle.topo_base.specs.ScriptLines.{ScriptLine}
use Rattle.topo_base.specs.declared.edit.Entry.{Entry}
use Rattle.topo_base.specs.declared.answer.Answer.{Answer}
use Rattle.script_model.specs.NamedRange.{is_script_line}
use Rattle.topo_io.specs.Causes.{Rose}
use Rattle.history_model.specs.Journal.{StandsFor, IsBadAt}
use Rattle.history_model.specs.Run.{is_done}
use Rattle.script_model.specs.Script.{IsScript, IsFirstBad, lines_of, edit_lines}
use Rattle.script_model.proofs.Scripts.{lines_or_bad}
use Rattle.topo.specs.declared.words.Form.{Form}
use Rattle.topo.specs.declared.words.Form.TheVariants.{Apply, Show}
use Rattle.topo.specs.declared.words.Shown.{Shown}
use Rattle.topo.specs.declared.words.Shown.TheVariants.{Tables, Features, History}
use Rattle.topo.specs.Words.{IsForm, AreForm, IsCheck, verb_of}
use Rattle.topo.specs.Views.{SourceView, SinkView, DiskView}
use Rattle.topo.specs.Output.{Says, said, unsaid, Tells, says, no_memory, IsCutBy, Prints, printed, print_cut, report_status}
use Rattle.validate_topology.specs.declared.lines.ReportLine.{ReportLine}
use Rattle.topo.specs.Run.{is_disk_fault, has_fault, faults_of, faults_in, RoseBy, status_of}
use Rattle.validate_topology.specs.declared.raw.RawTables.{RawTables}
use Rattle.table_dump.specs.Dump.{IsDump, IsFirstBad as IsFirstBadLine}
use Rattle.table_dump.proofs.Dumps.{dumps_apart, dumps_good}
use Rattle.topo.specs.Statuses.{HasInput, HasForm, Means, runs_well, has_other_words, has_bad_line, has_bad_gate, source_failed, sink_failed, disk_failed, wants_memory, is_too_long, checks_dump, MeansOfDump, is_reported, has_bad_dump_line, dump_source_failed, dump_sink_failed, dump_wants_memory, dump_is_too_long, IsReportStatus, IsGoodInput, IsComplete}
use Rattle.topo.proofs.Readings.{stands_not_bad}
use Rattle.topo.specs.Endings.{max_source, standard, WasRead, WasRecovered, Unrecovered, no_journal, disk_fault, not_recovered, RunsScript, ran_whole, ran_cut, RunsOn, nothing_read, ran, Applied, source_fault, too_long, not_read, no_script, bad_line, had_script, Showed, nothing_shown, showed, IsReportOn, ReportsOn, no_report, reported, Checked, dump_fault, dump_too_long, dump_not_read, no_tables, bad_dump_line, had_dump, Ending, bad_words, applied, shows, checks}

-- ---- what holds of what the source told
pub at_some : (P : List ℕ → Type 0) (o : Option (List ℕ)) (bytes : List ℕ) → o ≡ Some bytes → IfSome o P → P bytes
at_some P None bytes e h = absurd cc
at_some P (Some xs) bytes e h = let same : xs ≡ bytes = cc in subst P same h

pub whole_at : (P : List ℕ → Type 0) (o : Option (List ℕ)) (read : List ℕ) → IfSome o (λ bytes. read ≡ bytes) → P read → IfSome o P
whole_at P None read e h = tt
whole_at P (Some bytes) read e h = subst P e h

pub some_any : (o : Option (List ℕ)) → IfSome o (λ bytes. Unit {0})
some_any None = tt
some_any (Some bytes) = tt

not_both : (o : Option (List ℕ)) (bytes : List ℕ) (n : ℕ) → o ≡ Some bytes → IfSome o (λ b. n < length b) → length bytes ≤ n → ⊥
not_both o bytes n e more short = let there = at_some (λ b. n < length b) o bytes e more in omega arith

short_and_long : (o : Option (List ℕ)) (bytes : List ℕ) (n : ℕ) → o ≡ Some bytes → IfSome o (λ b. length b ≤ n) → n < length bytes → ⊥
short_and_long o bytes n e short more = let there = at_some (λ b. length b ≤ n) o bytes e short in omega arith

-- ---- the cause of each status
form_of_any : (words : List (List ℕ)) (form : Form) → IsForm words form → AreForm words
form_of_any words form is = (form, is)

fault_rose : (n before now : ℕ) → 1 ≤ n → RoseBy n before now → Rose before now
fault_rose n before now some rose = omega arith

one_fault : (given : List Answer) → has_fault given ≡ true → 1 ≤ faults_in given
one_fault [] e = absurd cc
one_fault (a ∷ given) e = elim (is_disk_fault a) as (λ b. is_disk_fault a ≡ b → 1 ≤ faults_in (a ∷ given)) [
  | true ↦ λ yes'. let more = sum_by-cons (λ (x : Answer). faults_of (is_disk_fault x)) a given in let one = ap faults_of yes' in omega (arith, more, one)
  | false ↦ λ no'. let more = sum_by-cons (λ (x : Answer). faults_of (is_disk_fault x)) a given in let rest = one_fault given (rest_fault a given no' e) in omega (arith, more, rest)
] refl
  where
    rest_fault : (a : Answer) (given : List Answer) → is_disk_fault a ≡ false → has_fault (a ∷ given) ≡ true → has_fault given ≡ true
    rest_fault a given no' e = sym (ap (λ (b : Bool). b || has_fault given) no') ∙ e

whole_means : (words : List (List ℕ)) (from to : SourceView) (old new : SinkView) (before behind : DiskView) (result : ℕ) (given : List Answer) → HasForm words from to → (read : List Entry) → WasRecovered before read
    → result ≡ status_of given → RoseBy (faults_in given) before.faults behind.faults → Means words from to old new before behind result
whole_means words from to old new before behind result given good read rec is rose =
    elim (has_fault given) as (λ b. has_fault given ≡ b → result ≡ cond b 7 (cond (list_all is_done given) 0 1) → Means words from to old new before behind result) [
      | true ↦ λ failed seven. disk_failed seven good (fault_rose (faults_in given) before.faults behind.faults (one_fault given failed) rose)
      | false ↦ λ fine small. runs_well (small_status (list_all is_done given) small) good read rec
    ] refl is
  where
    small_status : (b : Bool) → result ≡ cond b 0 1 → result ≤ 1
    small_status true e = omega arith
    small_status false e = omega arith

said_means : (words : List (List ℕ)) (from to : SourceView) (old new : SinkView) (before behind : DiskView) (text : List ℕ) (status result : ℕ) → Says old new text status result
    → (result ≡ status → Means words from to old new before behind result) → Means words from to old new before behind result
said_means words from to old new before behind text status result (said is p) then' = then' is
said_means words from to old new before behind text status result (unsaid is rose p) then' = sink_failed is rose

told_means : (words : List (List ℕ)) (from to : SourceView) (old new : SinkView) (before behind : DiskView) (text : List ℕ) (status result : ℕ) → AreForm words → Tells old new text status result
    → (result ≡ status → Means words from to old new before behind result) → Means words from to old new before behind result
told_means words from to old new before behind text status result form (says h) then' = said_means words from to old new before behind text status result h then'
told_means words from to old new before behind text status result form (no_memory is p) then' = wants_memory is form

unread_means : (words : List (List ℕ)) (from to : SourceView) (old new : SinkView) (before behind : DiskView) (result : ℕ) → HasForm words from to → Unrecovered old new before behind result → Means words from to old new before behind result
unread_means words from to old new before behind result good (no_journal offset bad calm h) = told_means words from to old new before behind _ 4 result (form_of_any words good.0 good.1) h (λ is. has_bad_gate is good offset bad)
unread_means words from to old new before behind result good (disk_fault rose h) = said_means words from to old new before behind _ 7 result h (λ is. disk_failed is good rose)
unread_means words from to old new before behind result good (not_recovered calm is p) = wants_memory is (form_of_any words good.0 good.1)

applied_means : (words : List (List ℕ)) (came kept : Type 0) (from to : SourceView) (old new : SinkView) (before behind : DiskView) (result : ℕ) → IsForm words Apply → Applied came kept from to old new before behind result
    → Means words from to old new before behind result
applied_means words came kept from to old new before behind result form (source_fault c rose h) = said_means words from to old new before behind _ 5 result h (λ is. source_failed is form rose)
applied_means words came kept from to old new before behind result form (too_long c more h) = said_means words from to old new before behind _ 9 result h (λ is. is_too_long is form more)
applied_means words came kept from to old new before behind result form (not_read c is p) = wants_memory is (Apply, form)
applied_means words came kept from to old new before behind result form (no_script c read is p) = wants_memory is (Apply, form)
applied_means words came kept from to old new before behind result form (bad_line c n read h) = told_means words from to old new before behind _ 3 result (Apply, form) h (λ is. has_bad_line is form n read)
applied_means words came kept from to old new before behind result form (had_script lines read (nothing_read k h)) = unread_means words from to old new before behind result (Apply, form, (lines, read)) h
applied_means words came kept from to old new before behind result form (had_script lines read (ran history rec (ran_whole w))) =
    whole_means words from to old new before behind result w.given (Apply, form, (lines, read)) history rec w.status w.disk.faults
applied_means words came kept from to old new before behind result form (had_script lines read (ran history rec (ran_cut (inl failed) c))) = sink_failed failed.0 failed.1
applied_means words came kept from to old new before behind result form (had_script lines read (ran history rec (ran_cut (inr is) c))) = wants_memory is (Apply, form)

showed_means : (words : List (List ℕ)) (shown : Shown) (kept : Type 0) (from to : SourceView) (old new : SinkView) (before behind : DiskView) (result : ℕ) → IsForm words (Show shown) → to ≡ from
    → Showed shown kept old new before behind result → Means words from to old new before behind result
showed_means words shown kept from to old new before behind result form same (nothing_shown k h) = unread_means words from to old new before behind result (Show shown, form, same) h
showed_means words shown kept from to old new before behind result form same (showed k read rec sound calm (printed is p q)) = runs_well (omega arith) (Show shown, form, same) read rec
showed_means words shown kept from to old new before behind result form same (showed k read rec sound calm (print_cut (inl failed) p)) = sink_failed failed.0 failed.1
showed_means words shown kept from to old new before behind result form same (showed k read rec sound calm (print_cut (inr is) p)) = wants_memory is (Show shown, form)

said_of_dump : (from to : SourceView) (old new : SinkView) (text : List ℕ) (status result : ℕ) → Says old new text status result → (result ≡ status → MeansOfDump from to old new result) → MeansOfDump from to old new result
said_of_dump from to old new text status result (said is p) then' = then' is
said_of_dump from to old new text status result (unsaid is rose p) then' = dump_sink_failed is rose

reported_means : (from to : SourceView) (old new : SinkView) (result : ℕ) (raw : RawTables) → WasRead (λ bytes. IsDump bytes raw) from to → ReportsOn raw old new result → MeansOfDump from to old new result
reported_means from to old new result raw read (no_report is p) = dump_wants_memory is
reported_means from to old new result raw read (reported lines on (printed is p calm)) = is_reported raw (lines, on, is) read
reported_means from to old new result raw read (reported lines on (print_cut (inl failed) p)) = dump_sink_failed failed.0 failed.1
reported_means from to old new result raw read (reported lines on (print_cut (inr is) p)) = dump_wants_memory is

checked_means : (from to : SourceView) (old new : SinkView) (result : ℕ) → Checked from to old new result → MeansOfDump from to old new result
checked_means from to old new result (dump_fault rose h) = said_of_dump from to old new _ 5 result h (λ is. dump_source_failed is rose)
checked_means from to old new result (dump_too_long more h) = said_of_dump from to old new _ 9 result h (λ is. dump_is_too_long is more)
checked_means from to old new result (dump_not_read is p) = dump_wants_memory is
checked_means from to old new result (no_tables read is p) = dump_wants_memory is
checked_means from to old new result (bad_dump_line n read (says h)) = said_of_dump from to old new _ 3 result h (λ is. has_bad_dump_line is n read)
checked_means from to old new result (bad_dump_line n read (no_memory is p)) = dump_wants_memory is
checked_means from to old new result (had_dump raw read h) = reported_means from to old new result raw read h

pub means : (words : List (List ℕ)) (came kept : Type 0) (from to : SourceView) (old new : SinkView) (before behind : DiskView) (result : ℕ) → Ending words came kept from to old new before behind result
    → Means words from to old new before behind result
means words came kept from to old new before behind result (bad_words other none c same h) = said_means words from to old new before behind _ 2 result h (λ is. has_other_words is other none)
means words came kept from to old new before behind result (applied form h) = applied_means words came kept from to old new before behind result form h
means words came kept from to old new before behind result (shows shown form same h) = showed_means words shown kept from to old new before behind result form same h
means words came kept from to old new before behind result (checks check c h) = checks_dump check (checked_means from to old new result h)

-- ---- each cause has its status
other_words_end : (words : List (List ℕ)) (came kept : Type 0) (from to : SourceView) (old new : SinkView) (before behind : DiskView) (result : ℕ) → Ending words came kept from to old new before behind result
    → (AreForm words → ⊥) → (IsCheck words → ⊥) → (result ≡ 2) ⊎ (result ≡ 6)
other_words_end words came kept from to old new before behind result (bad_words other none c same (said is p)) bad not_check = inl is
other_words_end words came kept from to old new before behind result (bad_words other none c same (unsaid is rose p)) bad not_check = inr is
other_words_end words came kept from to old new before behind result (applied form h) bad not_check = absurd (bad (Apply, form))
other_words_end words came kept from to old new before behind result (shows shown form same h) bad not_check = absurd (bad (Show shown, form))
other_words_end words came kept from to old new before behind result (checks check c h) bad not_check = absurd (not_check check)

-- check is no form with a journal
no_two : (n : ℕ) → n ≡ 2 → n ≡ 1 → ⊥
no_two n a b = omega arith

not_form : (words : List (List ℕ)) (form : Form) → IsCheck words → IsForm words form → ⊥
not_form words form check is = no_two (length words) (ap (λ (ws : List (List ℕ)). length ws) is.words_are) (ap (λ (ws : List (List ℕ)). length ws) check)

-- a form is one form
one_form : (words : List (List ℕ)) (f g : Form) → IsForm words f → IsForm words g → f ≡ g
one_form words f g a b = verb_is f g (ap (λ ws. get_or ws 0 []) (sym a.words_are ∙ b.words_are))
  where
    verb_is : (f g : Form) → verb_of f ≡ verb_of g → f ≡ g
    verb_is Apply Apply e = refl
    verb_is (Show Tables) (Show Tables) e = refl
    verb_is (Show Features) (Show Features) e = refl
    verb_is (Show History) (Show History) e = refl
    verb_is Apply (Show Tables) e = absurd (let one : 97 ≡ 116 = ap (λ (w : List ℕ). get_or w 0 0) e in omega arith)
    verb_is Apply (Show Features) e = absurd (let one : 97 ≡ 102 = ap (λ (w : List ℕ). get_or w 0 0) e in omega arith)
    verb_is Apply (Show History) e = absurd (let one : 97 ≡ 104 = ap (λ (w : List ℕ). get_or w 0 0) e in omega arith)
    verb_is (Show Tables) Apply e = absurd (let one : 116 ≡ 97 = ap (λ (w : List ℕ). get_or w 0 0) e in omega arith)
    verb_is (Show Tables) (Show Features) e = absurd (let one : 116 ≡ 102 = ap (λ (w : List ℕ). get_or w 0 0) e in omega arith)
    verb_is (Show Tables) (Show History) e = absurd (let one : 116 ≡ 104 = ap (λ (w : List ℕ). get_or w 0 0) e in omega arith)
    verb_is (Show Features) Apply e = absurd (let one : 102 ≡ 97 = ap (λ (w : List ℕ). get_or w 0 0) e in omega arith)
    verb_is (Show Features) (Show Tables) e = absurd (let one : 102 ≡ 116 = ap (λ (w : List ℕ). get_or w 0 0) e in omega arith)
    verb_is (Show Features) (Show History) e = absurd (let one : 102 ≡ 104 = ap (λ (w : List ℕ). get_or w 0 0) e in omega arith)
    verb_is (Show History) Apply e = absurd (let one : 104 ≡ 97 = ap (λ (w : List ℕ). get_or w 0 0) e in omega arith)
    verb_is (Show History) (Show Tables) e = absurd (let one : 104 ≡ 116 = ap (λ (w : List ℕ). get_or w 0 0) e in omega arith)
    verb_is (Show History) (Show Features) e = absurd (let one : 104 ≡ 102 = ap (λ (w : List ℕ). get_or w 0 0) e in omega arith)

-- a source that was read had no bad line
input_not_bad : (words : List (List ℕ)) (from to : SourceView) (bytes : List ℕ) (n : ℕ) → IsForm words Apply → from.left ≡ Some bytes → IsFirstBad is_script_line bytes n → HasForm words from to → ⊥
input_not_bad words from to bytes n form is bad good =
    let script : HasInput Apply from to = subst (λ (f : Form). HasInput f from to) (one_form words good.0 Apply good.1 form) good.2 in
    lines_or_bad is_script_line (lines_of bytes) script.0 n (at_some (λ bs. IsScript is_script_line bs script.0) from.left bytes is script.1.told) bad

input_not_long : (words : List (List ℕ)) (from to : SourceView) (bytes : List ℕ) → IsForm words Apply → from.left ≡ Some bytes → max_source < length bytes → HasForm words from to → ⊥
input_not_long words from to bytes form is more good =
    let script : HasInput Apply from to = subst (λ (f : Form). HasInput f from to) (one_form words good.0 Apply good.1 form) good.2 in
    short_and_long from.left bytes max_source is script.1.short more

bad_lines_end : (words : List (List ℕ)) (from to : SourceView) (old new : SinkView) (before behind : DiskView) (result : ℕ) → Means words from to old new before behind result
    → (bytes : List ℕ) (n : ℕ) → IsForm words Apply → from.left ≡ Some bytes → IsFirstBad is_script_line bytes n → length bytes ≤ max_source → (Rose from.faults to.faults → ⊥)
    → (result ≡ 3) ⊎ ((result ≡ 6) ⊎ (result ≡ 8))
bad_lines_end words from to old new before behind result (runs_well is good read rec) bytes n form e bad short calm = absurd (input_not_bad words from to bytes n form e bad good)
bad_lines_end words from to old new before behind result (has_other_words is other none) bytes n form e bad short calm = absurd (other (Apply, form))
bad_lines_end words from to old new before behind result (has_bad_line is f k read) bytes n form e bad short calm = inl is
bad_lines_end words from to old new before behind result (has_bad_gate is good offset at) bytes n form e bad short calm = absurd (input_not_bad words from to bytes n form e bad good)
bad_lines_end words from to old new before behind result (source_failed is f rose) bytes n form e bad short calm = absurd (calm rose)
bad_lines_end words from to old new before behind result (sink_failed is rose) bytes n form e bad short calm = inr (inl is)
bad_lines_end words from to old new before behind result (disk_failed is good rose) bytes n form e bad short calm = absurd (input_not_bad words from to bytes n form e bad good)
bad_lines_end words from to old new before behind result (wants_memory is f) bytes n form e bad short calm = inr (inr is)
bad_lines_end words from to old new before behind result (is_too_long is f more) bytes n form e bad short calm = absurd (not_both from.left bytes max_source e more short)
bad_lines_end words from to old new before behind result (checks_dump check h) bytes n form e bad short calm = absurd (not_form words Apply check form)

long_sources_end : (words : List (List ℕ)) (from to : SourceView) (old new : SinkView) (before behind : DiskView) (result : ℕ) → Means words from to old new before behind result
    → (bytes : List ℕ) → IsForm words Apply → from.left ≡ Some bytes → max_source < length bytes → (Rose from.faults to.faults → ⊥) → (result ≡ 9) ⊎ ((result ≡ 6) ⊎ (result ≡ 8))
long_sources_end words from to old new before behind result (runs_well is good read rec) bytes form e more calm = absurd (input_not_long words from to bytes form e more good)
long_sources_end words from to old new before behind result (has_other_words is other none) bytes form e more calm = absurd (other (Apply, form))
long_sources_end words from to old new before behind result (has_bad_line is f k read) bytes form e more calm = absurd (short_and_long from.left bytes max_source e read.short more)
long_sources_end words from to old new before behind result (has_bad_gate is good offset at) bytes form e more calm = absurd (input_not_long words from to bytes form e more good)
long_sources_end words from to old new before behind result (source_failed is f rose) bytes form e more calm = absurd (calm rose)
long_sources_end words from to old new before behind result (sink_failed is rose) bytes form e more calm = inr (inl is)
long_sources_end words from to old new before behind result (disk_failed is good rose) bytes form e more calm = absurd (input_not_long words from to bytes form e more good)
long_sources_end words from to old new before behind result (wants_memory is f) bytes form e more calm = inr (inr is)
long_sources_end words from to old new before behind result (is_too_long is f some) bytes form e more calm = inl is
long_sources_end words from to old new before behind result (checks_dump check h) bytes form e more calm = absurd (not_form words Apply check form)

good_not_bad : (words : List (List ℕ)) (from to : SourceView) (form : Form) (n : ℕ) → IsForm words form → IsForm words Apply → IsGoodInput form from → WasRead (λ bytes. IsFirstBad is_script_line bytes n) from to → ⊥
good_not_bad words from to form n f g good read =
    let it : IsGoodInput Apply from = subst (λ (x : Form). IsGoodInput x from) (one_form words form Apply f g) good in
    lines_or_bad is_script_line (lines_of it.0) it.1 n it.3 (at_some (λ bs. IsFirstBad is_script_line bs n) from.left it.0 it.2 read.told)

good_not_long : (words : List (List ℕ)) (from : SourceView) (form : Form) → IsForm words form → IsForm words Apply → IsGoodInput form from → IfSome from.left (λ bytes. max_source < length bytes) → ⊥
good_not_long words from form f g good more =
    let it : IsGoodInput Apply from = subst (λ (x : Form). IsGoodInput x from) (one_form words form Apply f g) good in
    not_both from.left it.0 max_source it.2 more it.4

bad_gates_end : (words : List (List ℕ)) (from to : SourceView) (old new : SinkView) (before behind : DiskView) (result : ℕ) → Means words from to old new before behind result
    → (form : Form) (offset : ℕ) → IsForm words form → IsGoodInput form from → before.tells → IsBadAt standard before.seen offset → (Rose from.faults to.faults → ⊥) → (Rose before.faults behind.faults → ⊥)
    → (result ≡ 4) ⊎ ((result ≡ 6) ⊎ (result ≡ 8))
bad_gates_end words from to old new before behind result (runs_well is good read rec) form offset f g tells bad calm still = absurd (stands_not_bad standard before.seen read offset (rec tells) bad)
bad_gates_end words from to old new before behind result (has_other_words is other none) form offset f g tells bad calm still = absurd (other (form, f))
bad_gates_end words from to old new before behind result (has_bad_line is a k read) form offset f g tells bad calm still = absurd (good_not_bad words from to form k f a g read)
bad_gates_end words from to old new before behind result (has_bad_gate is good at gate) form offset f g tells bad calm still = inl is
bad_gates_end words from to old new before behind result (source_failed is a rose) form offset f g tells bad calm still = absurd (calm rose)
bad_gates_end words from to old new before behind result (sink_failed is rose) form offset f g tells bad calm still = inr (inl is)
bad_gates_end words from to old new before behind result (disk_failed is good rose) form offset f g tells bad calm still = absurd (still rose)
bad_gates_end words from to old new before behind result (wants_memory is a) form offset f g tells bad calm still = inr (inr is)
bad_gates_end words from to old new before behind result (is_too_long is a more) form offset f g tells bad calm still = absurd (good_not_long words from form f a g more)
bad_gates_end words from to old new before behind result (checks_dump check h) form offset f g tells bad calm still = absurd (not_form words form check f)

good_runs_end : (words : List (List ℕ)) (from to : SourceView) (old new : SinkView) (before behind : DiskView) (result : ℕ) → Means words from to old new before behind result
    → (form : Form) (read : List Entry) → IsForm words form → IsGoodInput form from → before.tells → StandsFor standard before.seen read → (Rose from.faults to.faults → ⊥)
    → (Rose old.faults new.faults → ⊥) → (Rose before.faults behind.faults → ⊥) → (result ≤ 1) ⊎ (result ≡ 8)
good_runs_end words from to old new before behind result (runs_well is good r rec) form read f g tells stands calm quiet still = inl is
good_runs_end words from to old new before behind result (has_other_words is other none) form read f g tells stands calm quiet still = absurd (other (form, f))
good_runs_end words from to old new before behind result (has_bad_line is a k r) form read f g tells stands calm quiet still = absurd (good_not_bad words from to form k f a g r)
good_runs_end words from to old new before behind result (has_bad_gate is good at gate) form read f g tells stands calm quiet still = absurd (stands_not_bad standard before.seen read at stands (gate tells))
good_runs_end words from to old new before behind result (source_failed is a rose) form read f g tells stands calm quiet still = absurd (calm rose)
good_runs_end words from to old new before behind result (sink_failed is rose) form read f g tells stands calm quiet still = absurd (quiet rose)
good_runs_end words from to old new before behind result (disk_failed is good rose) form read f g tells stands calm quiet still = absurd (still rose)
good_runs_end words from to old new before behind result (wants_memory is a) form read f g tells stands calm quiet still = inr is
good_runs_end words from to old new before behind result (is_too_long is a more) form read f g tells stands calm quiet still = absurd (good_not_long words from form f a g more)
good_runs_end words from to old new before behind result (checks_dump check h) form read f g tells stands calm quiet still = absurd (not_form words form check f)

-- a dump
long_dumps_end : (words : List (List ℕ)) (from to : SourceView) (old new : SinkView) (before behind : DiskView) (result : ℕ) → Means words from to old new before behind result
    → (bytes : List ℕ) → IsCheck words → from.left ≡ Some bytes → max_source < length bytes → (Rose from.faults to.faults → ⊥) → (result ≡ 9) ⊎ ((result ≡ 6) ⊎ (result ≡ 8))
long_dumps_end words from to old new before behind result (runs_well is good read rec) bytes c e more calm = absurd (not_form words good.0 c good.1)
long_dumps_end words from to old new before behind result (has_other_words is other none) bytes c e more calm = absurd (none c)
long_dumps_end words from to old new before behind result (has_bad_line is f k read) bytes c e more calm = absurd (not_form words Apply c f)
long_dumps_end words from to old new before behind result (has_bad_gate is good at gate) bytes c e more calm = absurd (not_form words good.0 c good.1)
long_dumps_end words from to old new before behind result (source_failed is f rose) bytes c e more calm = absurd (not_form words Apply c f)
long_dumps_end words from to old new before behind result (sink_failed is rose) bytes c e more calm = inr (inl is)
long_dumps_end words from to old new before behind result (disk_failed is good rose) bytes c e more calm = absurd (not_form words good.0 c good.1)
long_dumps_end words from to old new before behind result (wants_memory is f) bytes c e more calm = inr (inr is)
long_dumps_end words from to old new before behind result (is_too_long is f some) bytes c e more calm = absurd (not_form words Apply c f)
long_dumps_end words from to old new before behind result (checks_dump check (is_reported raw status read)) bytes c e more calm = absurd (short_and_long from.left bytes max_source e read.short more)
long_dumps_end words from to old new before behind result (checks_dump check (has_bad_dump_line is n read)) bytes c e more calm = absurd (short_and_long from.left bytes max_source e read.short more)
long_dumps_end words from to old new before behind result (checks_dump check (dump_source_failed is rose)) bytes c e more calm = absurd (calm rose)
long_dumps_end words from to old new before behind result (checks_dump check (dump_sink_failed is rose)) bytes c e more calm = inr (inl is)
long_dumps_end words from to old new before behind result (checks_dump check (dump_wants_memory is)) bytes c e more calm = inr (inr is)
long_dumps_end words from to old new before behind result (checks_dump check (dump_is_too_long is some)) bytes c e more calm = inl is

bad_dumps_end : (words : List (List ℕ)) (from to : SourceView) (old new : SinkView) (before behind : DiskView) (result : ℕ) → Means words from to old new before behind result
    → (bytes : List ℕ) (n : ℕ) → IsCheck words → from.left ≡ Some bytes → IsFirstBadLine bytes n → length bytes ≤ max_source → (Rose from.faults to.faults → ⊥) → (result ≡ 3) ⊎ ((result ≡ 6) ⊎ (result ≡ 8))
bad_dumps_end words from to old new before behind result (runs_well is good read rec) bytes n c e bad short calm = absurd (not_form words good.0 c good.1)
bad_dumps_end words from to old new before behind result (has_other_words is other none) bytes n c e bad short calm = absurd (none c)
bad_dumps_end words from to old new before behind result (has_bad_line is f k read) bytes n c e bad short calm = absurd (not_form words Apply c f)
bad_dumps_end words from to old new before behind result (has_bad_gate is good at gate) bytes n c e bad short calm = absurd (not_form words good.0 c good.1)
bad_dumps_end words from to old new before behind result (source_failed is f rose) bytes n c e bad short calm = absurd (not_form words Apply c f)
bad_dumps_end words from to old new before behind result (sink_failed is rose) bytes n c e bad short calm = inr (inl is)
bad_dumps_end words from to old new before behind result (disk_failed is good rose) bytes n c e bad short calm = absurd (not_form words good.0 c good.1)
bad_dumps_end words from to old new before behind result (wants_memory is f) bytes n c e bad short calm = inr (inr is)
bad_dumps_end words from to old new before behind result (is_too_long is f some) bytes n c e bad short calm = absurd (not_form words Apply c f)
bad_dumps_end words from to old new before behind result (checks_dump check (is_reported raw status read)) bytes n c e bad short calm = absurd (dumps_good bytes raw n (at_some (λ bs. IsDump bs raw) from.left bytes e read.told) bad)
bad_dumps_end words from to old new before behind result (checks_dump check (has_bad_dump_line is k read)) bytes n c e bad short calm = inl is
bad_dumps_end words from to old new before behind result (checks_dump check (dump_source_failed is rose)) bytes n c e bad short calm = absurd (calm rose)
bad_dumps_end words from to old new before behind result (checks_dump check (dump_sink_failed is rose)) bytes n c e bad short calm = inr (inl is)
bad_dumps_end words from to old new before behind result (checks_dump check (dump_wants_memory is)) bytes n c e bad short calm = inr (inr is)
bad_dumps_end words from to old new before behind result (checks_dump check (dump_is_too_long is some)) bytes n c e bad short calm = absurd (not_both from.left bytes max_source e some short)

good_dumps_end : (words : List (List ℕ)) (from to : SourceView) (old new : SinkView) (before behind : DiskView) (result : ℕ) → Means words from to old new before behind result
    → (bytes : List ℕ) (raw : RawTables) → IsCheck words → from.left ≡ Some bytes → IsDump bytes raw → length bytes ≤ max_source → (Rose from.faults to.faults → ⊥) → (Rose old.faults new.faults → ⊥)
    → IsReportStatus raw result ⊎ (result ≡ 8)
good_dumps_end words from to old new before behind result (runs_well is good read rec) bytes raw c e dump short calm quiet = absurd (not_form words good.0 c good.1)
good_dumps_end words from to old new before behind result (has_other_words is other none) bytes raw c e dump short calm quiet = absurd (none c)
good_dumps_end words from to old new before behind result (has_bad_line is f k read) bytes raw c e dump short calm quiet = absurd (not_form words Apply c f)
good_dumps_end words from to old new before behind result (has_bad_gate is good at gate) bytes raw c e dump short calm quiet = absurd (not_form words good.0 c good.1)
good_dumps_end words from to old new before behind result (source_failed is f rose) bytes raw c e dump short calm quiet = absurd (not_form words Apply c f)
good_dumps_end words from to old new before behind result (sink_failed is rose) bytes raw c e dump short calm quiet = absurd (quiet rose)
good_dumps_end words from to old new before behind result (disk_failed is good rose) bytes raw c e dump short calm quiet = absurd (not_form words good.0 c good.1)
good_dumps_end words from to old new before behind result (wants_memory is f) bytes raw c e dump short calm quiet = inr is
good_dumps_end words from to old new before behind result (is_too_long is f some) bytes raw c e dump short calm quiet = absurd (not_form words Apply c f)
good_dumps_end words from to old new before behind result (checks_dump check (is_reported other status read)) bytes raw c e dump short calm quiet = inl (subst (λ r. IsReportStatus r result) (dumps_apart bytes other raw (at_some (λ bs. IsDump bs other) from.left bytes e read.told) dump) status)
good_dumps_end words from to old new before behind result (checks_dump check (has_bad_dump_line is n read)) bytes raw c e dump short calm quiet = absurd (dumps_good bytes raw n dump (at_some (λ bs. IsFirstBadLine bs n) from.left bytes e read.told))
good_dumps_end words from to old new before behind result (checks_dump check (dump_source_failed is rose)) bytes raw c e dump short calm quiet = absurd (calm rose)
good_dumps_end words from to old new before behind result (checks_dump check (dump_sink_failed is rose)) bytes raw c e dump short calm quiet = absurd (quiet rose)
good_dumps_end words from to old new before behind result (checks_dump check (dump_wants_memory is)) bytes raw c e dump short calm quiet = inr is
good_dumps_end words from to old new before behind result (checks_dump check (dump_is_too_long is some)) bytes raw c e dump short calm quiet = absurd (not_both from.left bytes max_source e some short)

pub complete : (words : List (List ℕ)) (came kept : Type 0) (from to : SourceView) (old new : SinkView) (before behind : DiskView) (result : ℕ) → Ending words came kept from to old new before behind result
    → IsComplete words from to old new before behind result
complete words came kept from to old new before behind result h =
    let m = means words came kept from to old new before behind result h in
    record {
      other_words = other_words_end words came kept from to old new before behind result h;
      bad_lines = bad_lines_end words from to old new before behind result m;
      long_sources = long_sources_end words from to old new before behind result m;
      bad_gates = bad_gates_end words from to old new before behind result m;
      good_runs = good_runs_end words from to old new before behind result m;
      long_dumps = long_dumps_end words from to old new before behind result m;
      bad_dumps = bad_dumps_end words from to old new before behind result m;
      good_dumps = good_dumps_end words from to old new before behind result m;
    }
