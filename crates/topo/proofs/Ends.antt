-- How the text of a run comes together.
use Rattle.std.proofs.Common.{◌≡◌, ◌⊎◌, inl, inr, ℕ, zero, suc, ◌+◌, ◌-◌, ◌^◌, ◌<◌, ◌≤◌, min, Bool, true, false, ◌||◌, List, [], ◌∷◌, ◌++◌, length, take, Option, Some, None, refl, sym, subst, ap, ◌∙◌, append_assoc, append-nil, arith}
use Rattle.std.specs.Prelude.{codes}
use Rattle.std.specs.Io.KnownBytes.{Appends}
use Rattle.std.proofs.lemmas.List.Concat.{flat_map-append}
use Rattle.std.proofs.lemmas.List.Sums.{sum_by_push}
use Rattle.std.proofs.Math.Seq.{take-length}
use Rattle.topo_base.specs.ScriptLines.{ScriptLine}
use Rattle.topo_base.specs.declared.edit.Edit.{Edit}
use Rattle.topo_base.specs.declared.edit.Entry.{Entry}
use Rattle.topo_base.specs.declared.answer.Answer.{Answer}
use Rattle.topo_base.specs.declared.answer.Answer.TheVariants.{Memory}
use Rattle.topo_io.specs.Causes.{Rose}
use Rattle.topo_io.specs.Sinks.{IsFront, AppendsFront}
use Rattle.topo_io.proofs.Written.{appended_more, front_more, front_whole}
use Rattle.history_model.specs.Answers.{Bounds}
use Rattle.drawing.specs.Replay.{replay}
use Rattle.script_model.specs.Texts.{reply_text, replies_text, tables_text}
use Rattle.topo.specs.Views.{SinkView}
use Rattle.topo.specs.Output.{Prints, printed, print_cut, IsCutBy, due, all_but_last}
use Rattle.topo.specs.Run.{Standing, edit_at, grown, standing_after, standing_behind, AreAnswered, AreTried, is_disk_fault, has_fault, faults_of, faults_in, RoseBy}
use Rattle.topo.specs.Running.{Running, standing_of, AreServed, AllReplied, SomeReplied, RepliesCut, EndsRun, ends_whole, ends_cut, whole_status}
use Rattle.topo.proofs.Serving.{faults_more}

-- ---- lines from the first on
pub tried_front : (m : Bounds) (s : Standing) (ls : List ScriptLine) (n : ℕ) (given : List Answer) → AreAnswered m s (take n ls) given → AreTried m s ls given
tried_front m s ls n [] h = tt
tried_front m s [] zero (a ∷ given) h = h
tried_front m s [] (suc n) (a ∷ given) h = h
tried_front m s (l ∷ ls) zero (a ∷ given) h = absurd h
tried_front m s (l ∷ ls) (suc n) (a ∷ given) h = inr (h.0, tried_front m (standing_after s l a) ls n given h.1)

behind_front : (m : Bounds) (s : Standing) (ls : List ScriptLine) (n : ℕ) (given : List Answer) → AreAnswered m s (take n ls) given → standing_behind s (take n ls) given ≡ standing_behind s ls given
behind_front m s [] zero given h = refl
behind_front m s [] (suc n) given h = refl
behind_front m s (l ∷ ls) zero [] h = refl
behind_front m s (l ∷ ls) zero (a ∷ given) h = absurd h
behind_front m s (l ∷ ls) (suc n) [] h = refl
behind_front m s (l ∷ ls) (suc n) (a ∷ given) h = behind_front m (standing_after s l a) ls n given h.1

-- and one more that wanted memory
tried_memory : (m : Bounds) (s : Standing) (ls : List ScriptLine) (n : ℕ) (given : List Answer) → n < length ls → AreAnswered m s (take n ls) given → AreTried m s ls (given ++ Memory ∷ [])
tried_memory m s [] n given inside h = absurd (omega arith)
tried_memory m s (l ∷ ls) zero [] inside h = inl (refl, refl)
tried_memory m s (l ∷ ls) zero (a ∷ given) inside h = absurd h
tried_memory m s (l ∷ ls) (suc n) [] inside h = absurd h
tried_memory m s (l ∷ ls) (suc n) (a ∷ given) inside h = inr (h.0, tried_memory m (standing_after s l a) ls n given (omega arith) h.1)

memory_grown : (history : List Entry) (o : Option Edit) → history ≡ grown history o Memory
memory_grown history None = refl
memory_grown history (Some e) = sym (append-nil history)

pub behind_none : (s : Standing) (ls : List ScriptLine) → standing_behind s ls [] ≡ s
behind_none s [] = refl
behind_none s (l ∷ ls) = refl

behind_memory : (m : Bounds) (s : Standing) (ls : List ScriptLine) (n : ℕ) (given : List Answer) → n < length ls → AreAnswered m s (take n ls) given
    → (standing_behind s (take n ls) given).history ≡ (standing_behind s ls (given ++ Memory ∷ [])).history
behind_memory m s [] n given inside h = absurd (omega arith)
behind_memory m s (l ∷ ls) zero [] inside h = memory_grown s.history (edit_at s l) ∙ ap (λ (x : Standing). x.history) (sym (behind_none (standing_after s l Memory) ls))
behind_memory m s (l ∷ ls) zero (a ∷ given) inside h = absurd h
behind_memory m s (l ∷ ls) (suc n) [] inside h = absurd h
behind_memory m s (l ∷ ls) (suc n) (a ∷ given) inside h = behind_memory m (standing_after s l a) ls n given (omega arith) h.1

or_one : (b : Bool) → (b || false) ≡ b
or_one true = refl
or_one false = refl

memory_fault : (given : List Answer) → has_fault given ≡ has_fault (given ++ Memory ∷ [])
memory_fault given = sym (faults_more given Memory ∙ or_one (has_fault given))

memory_faults : (given : List Answer) → faults_in given ≡ faults_in (given ++ Memory ∷ [])
memory_faults given = let more = sum_by_push (λ (a : Answer). faults_of (is_disk_fault a)) given Memory in omega (arith, more)

-- ---- all answers but the last
all_but_last-push : (given : List Answer) (answer : Answer) → all_but_last (given ++ answer ∷ []) ≡ given
all_but_last-push [] answer = refl
all_but_last-push (a ∷ []) answer = refl
all_but_last-push (a ∷ b ∷ given) answer = ap (λ l. a ∷ l) (all_but_last-push (b ∷ given) answer)

but_last_front : (given : List Answer) → IsFront (replies_text (all_but_last given)) (replies_text given)
but_last_front [] = ([], refl)
but_last_front (a ∷ []) = (reply_text a ++ [], refl)
but_last_front (a ∷ b ∷ given) =
    let rest = but_last_front (b ∷ given) in
    (rest.0, append_assoc (reply_text a) (replies_text (all_but_last (b ∷ given))) rest.0 ∙ ap (λ l. reply_text a ++ l) rest.1)

longer_front : (a b c : List ℕ) → IsFront a b → IsFront a (b ++ c)
longer_front a b c h = (h.0 ++ c, sym (append_assoc a h.0 c) ∙ ap (λ l. l ++ c) h.1)

-- ---- why it was cut
cut_since : (old mid new : SinkView) (result : ℕ) → mid.faults ≡ old.faults → IsCutBy mid new result → IsCutBy old new result
cut_since old mid new result same (inl failed) = inl (failed.0, subst (λ n. Rose n new.faults) same failed.1)
cut_since old mid new result same (inr is) = inr is

part_of : (mid new : SinkView) (text : List ℕ) (result : ℕ) → Prints mid new text 8 result → IsCutBy mid new result × AppendsFront mid.written new.written text
part_of mid new text result (printed is p calm) = (inr is, front_whole mid.written new.written text [] text p (append-nil text))
part_of mid new text result (print_cut by p) = (by, p)

-- ---- a run to the end
pub runs_whole : (r t : Running) (ls : List ScriptLine) (old mid new : SinkView) (result : ℕ) → AllReplied r ls t old mid
    → Prints mid new (tables_text (replay t.history)) (whole_status t.failed t.all_done) result → EndsRun r ls t old new result
runs_whole r t ls old mid new result all (printed is rows calm) = ends_whole (record {
  given = all.given;
  served = all.served;
  status = is;
  text = appended_more old.written mid.written new.written _ _ all.text rows;
  calm = calm ∙ all.calm;
})
runs_whole r t ls old mid new result all (print_cut by rows) =
    let before = replies_text all.given in
    ends_cut (cut_since old mid new result all.calm by) (record {
      given = all.given;
      tried = tried_front r.bounds (standing_of r) ls (length ls) all.given (subst (λ (ks : List ScriptLine). AreAnswered r.bounds (standing_of r) ks all.given) (sym (take-length ls)) all.served.answered);
      history = all.served.history;
      bounds = all.served.bounds;
      in_doubt = all.served.in_doubt;
      faults = all.served.faults;
      text = before ++ rows.front;
      due_front = (rows.begins.0, append_assoc before rows.front rows.begins.0 ∙ ap (λ l. before ++ l) rows.begins.1);
      whole_lines = longer_front _ _ rows.front (but_last_front all.given);
      grown = appended_more old.written mid.written new.written _ _ all.text rows.grown;
    })

-- ---- a run up to an edit that wanted memory
pub runs_short : (r t : Running) (ls : List ScriptLine) (old mid new : SinkView) (result : ℕ) → SomeReplied r ls t old mid
    → Prints mid new (codes "memory\n" ++ tables_text (replay t.history)) 8 result → EndsRun r ls t old new result
runs_short r t ls old mid new result some ended =
    let part = part_of mid new _ result ended in
    let all = some.replied in
    let given = all.given in
    let before = replies_text given in
    let rows = tables_text (replay t.history) in
    let front = part.1.front in
    let rest = part.1.begins.0 in
    let text = flat_map-append reply_text given (Memory ∷ []) in
    ends_cut (cut_since old mid new result all.calm part.0) (record {
      given = given ++ Memory ∷ [];
      tried = tried_memory r.bounds (standing_of r) ls some.tried given some.inside all.served.answered;
      history = all.served.history ∙ behind_memory r.bounds (standing_of r) ls some.tried given some.inside all.served.answered;
      bounds = all.served.bounds;
      in_doubt = λ e. subst (λ (b : Bool). (b ≡ true) ⊎ (r.in_doubt ≡ true)) (memory_fault given) (all.served.in_doubt e);
      faults = subst (λ (n : ℕ). RoseBy n r.faults t.faults) (memory_faults given) all.served.faults;
      text = before ++ front;
      due_front = (rest, append_assoc before front rest ∙ ap (λ l. before ++ l) part.1.begins.1 ∙ sym (append_assoc before (codes "memory\n") rows) ∙ ap (λ l. l ++ rows) (sym text));
      whole_lines = (front, ap (λ (given : List Answer). replies_text given ++ front) (all_but_last-push given Memory));
      grown = appended_more old.written mid.written new.written _ _ all.text part.1.grown;
    })

-- ---- a run in which a reply was cut
pub runs_cut : (r t : Running) (ls : List ScriptLine) (old new : SinkView) (why : Type 0) (result : ℕ) → RepliesCut r ls t old new why → IsCutBy old new result → EndsRun r ls t old new result
runs_cut r t ls old new why result cut by =
    let given = cut.given ++ cut.answer ∷ [] in
    let before = replies_text cut.given in
    let rows = tables_text (replay t.history) in
    let rest = cut.begins.0 in
    let more : replies_text given ≡ before ++ reply_text cut.answer = flat_map-append reply_text cut.given (cut.answer ∷ []) ∙ ap (λ l. before ++ l) (append-nil (reply_text cut.answer)) in
    let whole : (before ++ cut.front) ++ (rest ++ rows) ≡ replies_text given ++ rows =
    append_assoc before cut.front (rest ++ rows)
    ∙ ap (λ l. before ++ l) (sym (append_assoc cut.front rest rows) ∙ ap (λ l. l ++ rows) cut.begins.1)
    ∙ sym (append_assoc before (reply_text cut.answer) rows) ∙ ap (λ l. l ++ rows) (sym more) in
    ends_cut by (record {
      given = given;
      tried = tried_front r.bounds (standing_of r) ls (cut.tried) given cut.served.answered;
      history = cut.served.history ∙ ap (λ (x : Standing). x.history) (behind_front r.bounds (standing_of r) ls cut.tried given cut.served.answered);
      bounds = cut.served.bounds;
      in_doubt = cut.served.in_doubt;
      faults = cut.served.faults;
      text = before ++ cut.front;
      due_front = (rest ++ rows, whole);
      whole_lines = (cut.front, ap (λ (given : List Answer). replies_text given ++ cut.front) (all_but_last-push cut.given cut.answer));
      grown = cut.text;
    })

-- ---- two texts, one after the other
pub prints_then : (old mid new : SinkView) (x y : List ℕ) (status result : ℕ) → Appends old.written mid.written x → mid.faults ≡ old.faults → Prints mid new y status result → Prints old new (x ++ y) status result
prints_then old mid new x y status result p same (printed is q calm) = printed is (appended_more old.written mid.written new.written x y p q) (calm ∙ same)
prints_then old mid new x y status result p same (print_cut by q) =
    print_cut (cut_since old mid new result same by) (front_more old.written mid.written new.written x y [] (x ++ y) p q (ap (λ l. x ++ l) (append-nil y)))
