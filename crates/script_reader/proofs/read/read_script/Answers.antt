use Rattle.std.proofs.Common.{◌≡◌, ℕ, List, [], ◌∷◌, ◌++◌, length, subst, rules, inl, inr, append-nil}
use Rattle.std.proofs.lemmas.List.{nil_from_length}
use Rattle.topo_base.specs.ScriptLines.{ScriptLine}
use Rattle.script_model.specs.Script.{AreLines, edit_lines, lines_of}
use Rattle.script_model.specs.NamedRange.{is_script_line}
use Rattle.script_reader.specs.Reading.{IsReading}
use Rattle.script_reader.specs.declared.read.Reading.TheVariants.{Skipped, Edit}
use Rattle.script_reader.proofs.ScriptSteps.{skipped_more, edit_more, bad_more}
use Rattle.script_reader.proofs.read.read_script.Goals as goal
use Rattle.script_reader.proofs.read.read_script.Goals.{in-Skipped, in-Edit+in_ok-push-in-Edit}

pub loop-rest-preserved : goal.loop-rest-preserved
loop-rest-preserved c =
    let inv = c.loop-rest.invariant in
    elim c.match-branch-2.branch [
      | in-Skipped w ↦
          let read : IsReading c.first_line.result.0.now Skipped = subst (IsReading c.first_line.result.0.now) w.in-Skipped.is c.in_ok-read_line.ensures in
          let same : c.match-branch-2.lines.items ≡ c.loop-rest.lines.items = rw w.lines-is in
          record {
            spelled = skipped_more _ _ _ _ _ _ same c.first_line.ensures.lines read inv.spelled;
            bad = bad_more _ _ _ _ _ c.first_line.ensures.lines (inl read) inv.bad;
            short = search rules;
            count = search rules;
          }
      | in-Edit+in_ok-push-in-Edit w ↦
          let read : IsReading c.first_line.result.0.now (Edit w.in-Edit.line) = subst (IsReading c.first_line.result.0.now) w.in-Edit.is c.in_ok-read_line.ensures in
          let more : c.match-branch-2.lines.items ≡ c.loop-rest.lines.items ++ w.in-Edit.line ∷ [] = rw w.lines-is w.in_ok-push-in-Edit.ensures.items in
          record {
            spelled = edit_more _ _ _ _ _ _ _ more c.first_line.ensures.lines read inv.spelled;
            bad = bad_more _ _ _ _ _ c.first_line.ensures.lines (inr (w.in-Edit.line, read.1)) inv.bad;
            short = search rules;
            count = search rules;
          }
    ]

pub returns-clause-script : goal.returns-clause-script
returns-clause-script c =
    let none : length c.loop-rest.rest.now ≡ 0 = search rules in
    let last = subst (λ (r : List ℕ). (ls : List ScriptLine) → AreLines is_script_line (edit_lines (lines_of r)) ls → AreLines is_script_line (edit_lines (lines_of c.args.text.now)) (c.loop-rest.lines.items ++ ls)) (nil_from_length _ none) c.loop-rest.invariant.spelled in
    subst (AreLines is_script_line (edit_lines (lines_of c.args.text.now))) (append-nil c.loop-rest.lines.items) (last [] tt)
