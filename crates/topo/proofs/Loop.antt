-- The loop over the lines of a script.
use Rattle.std.proofs.Common.{◌≡◌, ◌⊎◌, inl, inr, ℕ, zero, suc, ◌+◌, ◌<◌, ◌≤◌, Bool, true, false, ◌&&◌, List, [], ◌∷◌, ◌++◌, length, take, get_or, Option, IsTrue, Result, Ok, Err, refl, sym, ap, subst, ◌∙◌, arith, append-nil}
use Rattle.std.specs.Io.KnownBytes.{Appends}
use Rattle.std.specs.List.{list_all}
use Rattle.std.proofs.lemmas.List.{take_more}
use Rattle.std.proofs.lemmas.List.Concat.{flat_map-append}
use Rattle.std.proofs.lemmas.Bool.{and_parts}
use Rattle.topo_base.specs.ScriptLines.{ScriptLine}
use Rattle.topo_base.specs.declared.answer.Answer.{Answer}
use Rattle.topo_io.specs.Causes.{Rose}
use Rattle.topo_io.specs.Sinks.{AppendsFront}
use Rattle.topo_io.proofs.Written.{appended_more, appended_none}
use Rattle.script_model.specs.Texts.{reply_text, replies_text}
use Rattle.topo.specs.declared.run.Stop.{Stop}
use Rattle.topo.specs.declared.run.Stop.TheVariants.{NoMemory, NoText, Fault}
use Rattle.topo.specs.Views.{SinkView}
use Rattle.topo.specs.Run.{faults_in, RoseBy}
use Rattle.topo.specs.Running.{Running, standing_of, IsSame, AreServed, AreBound, IsBound, Replied, ReplyCut, NotReplied, Serves, ServesAll, StopsAt, AllReplied, SomeReplied, RepliesCut}
use Rattle.topo.proofs.Serving.{next_served, next_bound, none_served}

-- ---- the lines so far, all of which were answered and bound
pub record SoFar (r : Running) (ls : List ScriptLine) (t : Running) (old new : SinkView) : Type 0 where
  pub given : List Answer
  pub served : AreServed r ls given t
  pub bound : AreBound r ls given t
  pub text : Appends old.written new.written (replies_text given)
  pub calm : new.faults ≡ old.faults

pub nothing_yet : (r : Running) (v : SinkView) → SoFar r [] r v v
nothing_yet r v = record { given = []; served = none_served r; bound = refl; text = appended_none v.written; calm = refl }

one_line : (ls : List ScriptLine) (i : ℕ) (l : ScriptLine) → i < length ls → l ≡ get_or ls i l → take i ls ++ l ∷ [] ≡ take (i + 1) ls
one_line ls i l inside is = sym (take_more ls i l inside ∙ ap (λ x. take i ls ++ x ∷ []) (sym is))

text_more : (given : List Answer) (answer : Answer) (a b c : Option (List ℕ)) → Appends a b (replies_text given) → Appends b c (reply_text answer) → Appends a c (replies_text (given ++ answer ∷ []))
text_more given answer a b c before now =
    let whole = flat_map-append reply_text given (answer ∷ []) ∙ ap (λ l. replies_text given ++ l) (append-nil (reply_text answer)) in
    subst (Appends a c) (sym whole) (appended_more a b c _ _ before now)

-- one more, whose names may be bound or not
all_more : (r t u : Running) (ls : List ScriptLine) (i : ℕ) (l : ScriptLine) (answer : Answer) (old mid new : SinkView) → i < length ls → l ≡ get_or ls i l → SoFar r (take i ls) t old mid
    → Replied t l answer u mid new → AllReplied r (take (i + 1) ls) u old new
all_more r t u ls i l answer old mid new inside is so one = subst (λ (ks : List ScriptLine). AllReplied r ks u old new) (one_line ls i l inside is) (record {
  given = so.given ++ answer ∷ [];
  served = next_served r t u (take i ls) so.given l answer so.served so.bound one.served;
  text = text_more so.given answer old.written mid.written new.written so.text one.text;
  calm = one.calm ∙ so.calm;
})

pub so_more : (r t u : Running) (ls : List ScriptLine) (i : ℕ) (l : ScriptLine) (old mid new : SinkView) (names : Bool) → i < length ls → l ≡ get_or ls i l → SoFar r (take i ls) t old mid
    → Serves t l u mid new (Ok names) → names ≡ true → SoFar r (take (i + 1) ls) u old new
so_more r t u ls i l old mid new names inside is so (answer, one, bound) all = subst (λ (ks : List ScriptLine). SoFar r ks u old new) (one_line ls i l inside is) (record {
  given = so.given ++ answer ∷ [];
  served = next_served r t u (take i ls) so.given l answer so.served so.bound one.served;
  bound = next_bound r t u (take i ls) so.given l answer so.served so.bound (bound all);
  text = text_more so.given answer old.written mid.written new.written so.text one.text;
  calm = one.calm ∙ so.calm;
})

-- ---- the ends of the loop
take_whole : (ls : List ScriptLine) (i : ℕ) → length ls ≤ i → take i ls ≡ ls
take_whole [] zero all = refl
take_whole [] (suc i) all = refl
take_whole (l ∷ ls) zero all = absurd (omega arith)
take_whole (l ∷ ls) (suc i) all = ap (λ ks. l ∷ ks) (take_whole ls i (omega arith))

all_of : (r t : Running) (ls : List ScriptLine) (old new : SinkView) → SoFar r ls t old new → AllReplied r ls t old new
all_of r t ls old new so = record { given = so.given; served = so.served; text = so.text; calm = so.calm }

pub ends_all : {A : Type 0} (a : A) (r t : Running) (ls : List ScriptLine) (i : ℕ) (old new : SinkView) → length ls ≤ i → SoFar r (take i ls) t old new → ServesAll {A = A} r ls t old new (Ok a)
ends_all a r t ls i old new all so = subst (λ (ks : List ScriptLine). AllReplied r ks t old new) (take_whole ls i all) (all_of r t (take i ls) old new so)

-- the names of the last line wanted memory, and those of another one
pub ends_last : {A : Type 0} (a : A) (r t u : Running) (ls : List ScriptLine) (i : ℕ) (l : ScriptLine) (old mid new : SinkView) (names : Bool) → i < length ls → l ≡ get_or ls i l → length ls ≤ i + 1
    → SoFar r (take i ls) t old mid → Serves t l u mid new (Ok names) → ServesAll {A = A} r ls u old new (Ok a)
ends_last a r t u ls i l old mid new names inside is last so (answer, one, bound) = subst (λ (ks : List ScriptLine). AllReplied r ks u old new) (take_whole ls (i + 1) last) (all_more r t u ls i l answer old mid new inside is so one)

pub ends_unbound : (r t u : Running) (ls : List ScriptLine) (i : ℕ) (l : ScriptLine) (old mid new : SinkView) (names : Bool) → i < length ls → l ≡ get_or ls i l → i + 1 < length ls
    → SoFar r (take i ls) t old mid → Serves t l u mid new (Ok names) → StopsAt r ls u old new NoMemory
ends_unbound r t u ls i l old mid new names inside is more so (answer, one, bound) = record { tried = i + 1; inside = more; replied = all_more r t u ls i l answer old mid new inside is so one }

-- a line wanted memory
same_served : (r t u : Running) (ls : List ScriptLine) (given : List Answer) → AreServed r ls given t → IsSame t u → AreServed r ls given u
same_served r t u ls given h same = record {
  answered = h.answered;
  history = same.history ∙ h.history;
  bounds = same.bounds ∙ h.bounds;
  all_done = same.all_done ∙ h.all_done;
  failed = same.failed ∙ h.failed;
  in_doubt = λ e. h.in_doubt (same.in_doubt e);
  faults = subst (λ (n : ℕ). RoseBy (faults_in given) r.faults n) (sym same.faults) h.faults;
  calm = λ e. same.faults ∙ h.calm e;
}

cut_at : (r t u : Running) (ls : List ScriptLine) (i : ℕ) (l : ScriptLine) (old mid new : SinkView) (why because : Type 0) → i < length ls → l ≡ get_or ls i l → SoFar r (take i ls) t old mid
    → ReplyCut t l u mid new why → (why → because) → RepliesCut r ls u old new because
cut_at r t u ls i l old mid new why because inside is so h turn = record {
  tried = i + 1;
  given = so.given;
  answer = h.answer;
  served = subst (λ (ks : List ScriptLine). AreServed r ks (so.given ++ h.answer ∷ []) u) (one_line ls i l inside is) (next_served r t u (take i ls) so.given l h.answer so.served so.bound h.served);
  front = h.text.front;
  begins = h.text.begins;
  text = appended_more old.written mid.written new.written _ _ so.text h.text.grown;
  cause = turn h.cause;
}

pub ends_stopped : (r t u : Running) (ls : List ScriptLine) (i : ℕ) (l : ScriptLine) (old mid new : SinkView) (stop : Stop) → i < length ls → l ≡ get_or ls i l → SoFar r (take i ls) t old mid
    → Serves t l u mid new (Err stop) → StopsAt r ls u old new stop
ends_stopped r t u ls i l old mid new NoMemory inside is so h =
    let same = subst (λ (v : SinkView). SoFar r (take i ls) t old v) (sym h.written) so in
    record { tried = i; inside = inside; replied = record { given = same.given; served = same_served r t u (take i ls) same.given same.served h.same; text = same.text; calm = same.calm } }
ends_stopped r t u ls i l old mid new NoText inside is so h = cut_at r t u ls i l old mid new (Unit {0}) (Unit {0}) inside is so h (λ e. e)
ends_stopped r t u ls i l old mid new Fault inside is so h = cut_at r t u ls i l old mid new (Rose mid.faults new.faults) (Rose old.faults new.faults) inside is so h (λ e. subst (λ (n : ℕ). Rose n new.faults) so.calm e)

-- ---- what a test says of all it says of each
pub good_at : (p : ScriptLine → Bool) (ls : List ScriptLine) (i : ℕ) (l : ScriptLine) → IsTrue (list_all p ls) → i < length ls → l ≡ get_or ls i l → IsTrue (p l)
good_at p [] i l h inside is = absurd (omega arith)
good_at p (x ∷ ls) zero l h inside is = let parts = and_parts (p x) (list_all p ls) h in subst (λ y. IsTrue (p y)) (sym is) parts.0
good_at p (x ∷ ls) (suc i) l h inside is = let parts = and_parts (p x) (list_all p ls) h in good_at p ls i l parts.1 (omega arith) is
