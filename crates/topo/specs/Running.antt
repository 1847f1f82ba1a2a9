-- What a run keeps, and what a line and some lines make of it.
use Rattle.std.specs.Prelude.{◌≡◌, ◌⊎◌, ℕ, ◌+◌, ◌<◌, Bool, true, false, ◌&&◌, ◌||◌, List, [], ◌∷◌, ◌++◌, length, take, Option, Result, Ok, Err, if◌then◌else◌}
use Rattle.std.specs.Io.KnownBytes.{Appends}
use Rattle.std.specs.List.{list_all}
use Rattle.topo_base.specs.ScriptLines.{ScriptLine}
use Rattle.topo_base.specs.declared.edit.Entry.{Entry}
use Rattle.topo_base.specs.declared.answer.Answer.{Answer}
use Rattle.script_reader.specs.Bindings.{names_of}
use Rattle.topo_io.specs.Causes.{Rose}
use Rattle.topo_io.specs.Sinks.{IsFront, AppendsFront}
use Rattle.history_model.specs.Answers.{Bounds}
use Rattle.script_model.specs.Bindings.{Names, no_names, bound, ids_of}
use Rattle.history_model.specs.Run.{is_done}
use Rattle.script_model.specs.Texts.{reply_text, replies_text}
use Rattle.topo.specs.declared.run.Stop.{Stop}
use Rattle.topo.specs.declared.run.Stop.TheVariants.{NoMemory, NoText, Fault}
use Rattle.topo.specs.Views.{SinkView}
use Rattle.topo.specs.Output.{IsCutBy, due, all_but_last}
use Rattle.topo.specs.Run.{Standing, edit_at, IsLineTried, grown, AreAnswered, AreTried, standing_behind, is_disk_fault, has_fault, faults_of, faults_in, RoseBy}

pub record Running : Type 0 where
  pub history : List Entry
  pub bounds : Bounds
  pub bindings : List (List ℕ × ℕ)
  pub all_done : Bool
  pub failed : Bool
  pub in_doubt : Bool
  pub faults : ℕ

-- a run on such a desk, of which no line was answered yet
pub record IsBegun (history : List Entry) (bounds : Bounds) (in_doubt : Bool) (faults : ℕ) (r : Running) : Type 0 where
  pub history_is : r.history ≡ history
  pub bounds_are : r.bounds ≡ bounds
  pub no_names_yet : names_of r.bindings ≡ no_names
  pub all_done : r.all_done ≡ true
  pub failed : r.failed ≡ false
  pub doubt_is : r.in_doubt ≡ in_doubt
  pub faults_are : r.faults ≡ faults

abbrev pub standing_of : Running → Standing
standing_of r = record { history = r.history; names = names_of r.bindings }

-- a line was answered so
pub record IsServed (r : Running) (l : ScriptLine) (answer : Answer) (t : Running) : Type 0 where
  pub tried : IsLineTried r.bounds (standing_of r) l answer
  pub history : t.history ≡ grown r.history (edit_at (standing_of r) l) answer
  pub bounds : t.bounds ≡ r.bounds
  pub all_done : t.all_done ≡ (r.all_done && is_done answer)
  pub failed : t.failed ≡ (r.failed || is_disk_fault answer)
  pub in_doubt : t.in_doubt ≡ true → (is_disk_fault answer ≡ true) ⊎ (r.in_doubt ≡ true)
  pub faults : RoseBy (faults_of (is_disk_fault answer)) r.faults t.faults
  pub calm : is_disk_fault answer ≡ false → t.faults ≡ r.faults

-- an edit was tried, and what the run notes of it is still to be noted
pub record IsAlike (r : Running) (fault : Bool) (t : Running) : Type 0 where
  pub bounds : t.bounds ≡ r.bounds
  pub bindings : t.bindings ≡ r.bindings
  pub all_done : t.all_done ≡ r.all_done
  pub failed : t.failed ≡ r.failed
  pub in_doubt : t.in_doubt ≡ true → (fault ≡ true) ⊎ (r.in_doubt ≡ true)
  pub faults : RoseBy (faults_of fault) r.faults t.faults
  pub calm : fault ≡ false → t.faults ≡ r.faults

-- it is noted whether it was done, and whether the disk failed
abbrev pub noted : Running → Answer → Running
noted r answer = record {
  history = r.history;
  bounds = r.bounds;
  bindings = r.bindings;
  all_done = r.all_done && is_done answer;
  failed = r.failed || is_disk_fault answer;
  in_doubt = r.in_doubt;
  faults = r.faults;
}

-- nothing was answered
pub record IsSame (r t : Running) : Type 0 where
  pub history : t.history ≡ r.history
  pub bounds : t.bounds ≡ r.bounds
  pub all_done : t.all_done ≡ r.all_done
  pub failed : t.failed ≡ r.failed
  pub in_doubt : t.in_doubt ≡ true → r.in_doubt ≡ true
  pub faults : t.faults ≡ r.faults

-- the names of a line are bound behind its answer
abbrev pub IsBound : Running → ScriptLine → Answer → Running → Type 0
IsBound r l answer t = names_of t.bindings ≡ bound (names_of r.bindings) l.names (ids_of answer)

-- all but the names is as it was
pub record IsRest (r t : Running) : Type 0 where
  pub history : t.history ≡ r.history
  pub bounds : t.bounds ≡ r.bounds
  pub all_done : t.all_done ≡ r.all_done
  pub failed : t.failed ≡ r.failed
  pub in_doubt : t.in_doubt ≡ r.in_doubt
  pub faults : t.faults ≡ r.faults

-- some lines were answered so
pub record AreServed (r : Running) (ls : List ScriptLine) (given : List Answer) (t : Running) : Type 0 where
  pub answered : AreAnswered r.bounds (standing_of r) ls given
  pub history : t.history ≡ (standing_behind (standing_of r) ls given).history
  pub bounds : t.bounds ≡ r.bounds
  pub all_done : t.all_done ≡ (r.all_done && list_all is_done given)
  pub failed : t.failed ≡ (r.failed || has_fault given)
  pub in_doubt : t.in_doubt ≡ true → (has_fault given ≡ true) ⊎ (r.in_doubt ≡ true)
  pub faults : RoseBy (faults_in given) r.faults t.faults
  pub calm : has_fault given ≡ false → t.faults ≡ r.faults

-- the names are those bound behind these lines
abbrev pub AreBound : Running → List ScriptLine → List Answer → Running → Type 0
AreBound r ls given t = names_of t.bindings ≡ (standing_behind (standing_of r) ls given).names

-- ---- what the calls of a run answer
-- a line that is answered and whose reply is written
pub record Replied (r : Running) (l : ScriptLine) (answer : Answer) (t : Running) (old new : SinkView) : Type 0 where
  pub served : IsServed r l answer t
  pub text : Appends old.written new.written (reply_text answer)
  pub calm : new.faults ≡ old.faults

-- one whose reply is written in part, or not at all
pub record ReplyCut (r : Running) (l : ScriptLine) (t : Running) (old new : SinkView) (why : Type 0) : Type 0 where
  pub answer : Answer
  pub served : IsServed r l answer t
  pub text : AppendsFront old.written new.written (reply_text answer)
  pub cause : why

-- one that wanted memory
pub record NotReplied (r t : Running) (old new : SinkView) : Type 0 where
  pub same : IsSame r t
  pub written : new ≡ old

abbrev pub Replies : Running → ScriptLine → Running → SinkView → SinkView → Result Answer Stop → Type 0
Replies r l t old new (Ok answer) = Replied r l answer t old new × (t.bindings ≡ r.bindings)
Replies r l t old new (Err NoMemory) = NotReplied r t old new
Replies r l t old new (Err NoText) = ReplyCut r l t old new (Unit {0})
Replies r l t old new (Err Fault) = ReplyCut r l t old new (Rose old.faults new.faults)

-- and whose names are bound, unless these wanted memory
abbrev pub Serves : Running → ScriptLine → Running → SinkView → SinkView → Result Bool Stop → Type 0
Serves r l t old new (Ok names) = (answer : Answer) × Replied r l answer t old new × (names ≡ true → IsBound r l answer t)
Serves r l t old new (Err NoMemory) = NotReplied r t old new
Serves r l t old new (Err NoText) = ReplyCut r l t old new (Unit {0})
Serves r l t old new (Err Fault) = ReplyCut r l t old new (Rose old.faults new.faults)

-- lines from the first on that are answered and whose replies are written
pub record AllReplied (r : Running) (ls : List ScriptLine) (t : Running) (old new : SinkView) : Type 0 where
  pub given : List Answer
  pub served : AreServed r ls given t
  pub text : Appends old.written new.written (replies_text given)
  pub calm : new.faults ≡ old.faults

pub record SomeReplied (r : Running) (ls : List ScriptLine) (t : Running) (old new : SinkView) : Type 0 where
  pub tried : ℕ
  pub inside : tried < length ls
  pub replied : AllReplied r (take tried ls) t old new

-- and one more whose reply is cut
pub record RepliesCut (r : Running) (ls : List ScriptLine) (t : Running) (old new : SinkView) (why : Type 0) : Type 0 where
  pub tried : ℕ
  pub given : List Answer
  pub answer : Answer
  pub served : AreServed r (take tried ls) (given ++ answer ∷ []) t
  pub front : List ℕ
  pub begins : IsFront front (reply_text answer)
  pub text : Appends old.written new.written (replies_text given ++ front)
  pub cause : why

-- why a run stops before its end, and what was answered up to there
abbrev pub StopsAt : Running → List ScriptLine → Running → SinkView → SinkView → Stop → Type 0
StopsAt r ls t old new NoMemory = SomeReplied r ls t old new
StopsAt r ls t old new NoText = RepliesCut r ls t old new (Unit {0})
StopsAt r ls t old new Fault = RepliesCut r ls t old new (Rose old.faults new.faults)

abbrev pub ServesAll : {A : Type 0} → Running → List ScriptLine → Running → SinkView → SinkView → Result A Stop → Type 0
ServesAll r ls t old new (Ok done) = AllReplied r ls t old new
ServesAll r ls t old new (Err stop) = StopsAt r ls t old new stop

-- ---- how a run ends
abbrev pub whole_status : Bool → Bool → ℕ
whole_status failed all_done = if failed then 7 else (if all_done then 0 else 1)

-- all lines were answered, and what is due is written
pub record EndsWhole (r : Running) (ls : List ScriptLine) (t : Running) (old new : SinkView) (result : ℕ) : Type 0 where
  pub given : List Answer
  pub served : AreServed r ls given t
  pub status : result ≡ whole_status t.failed t.all_done
  pub text : Appends old.written new.written (due t.history given)
  pub calm : new.faults ≡ old.faults

-- or not, and a front of it is written
pub record EndsCut (r : Running) (ls : List ScriptLine) (t : Running) (old new : SinkView) : Type 0 where
  pub given : List Answer
  pub tried : AreTried r.bounds (standing_of r) ls given
  pub history : t.history ≡ (standing_behind (standing_of r) ls given).history
  pub bounds : t.bounds ≡ r.bounds
  pub in_doubt : t.in_doubt ≡ true → (has_fault given ≡ true) ⊎ (r.in_doubt ≡ true)
  pub faults : RoseBy (faults_in given) r.faults t.faults
  pub text : List ℕ
  pub due_front : IsFront text (due t.history given)
  pub whole_lines : IsFront (replies_text (all_but_last given)) text
  pub grown : Appends old.written new.written text

pub data EndsRun (r : Running) (ls : List ScriptLine) (t : Running) (old new : SinkView) (result : ℕ) : Type 0 where
  ends_whole : EndsWhole r ls t old new result → EndsRun r ls t old new result
  ends_cut : IsCutBy old new result → EndsCut r ls t old new → EndsRun r ls t old new result
