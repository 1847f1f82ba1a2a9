use Rattle.std.proofs.Common.{◌≡◌, ◌∷◌, sym, ◌∙◌, arith, length, drop}
use Rattle.std.proofs.lemmas.List.{take_all, drop_all}
use Rattle.script_model.specs.Script.{lines_of}
use Rattle.script_reader.proofs.LineEnds.{lines_front, lines_alone}
use Rattle.script_reader.proofs.lines.first_line.Goals as goal

pub returns-in-Some-clause-lines : goal.returns-in-Some-clause-lines
returns-in-Some-clause-lines c = lines_front _ _ _ _ c.in-Some.ensures.some c.without_return.ensures

pub returns-in-None-clause-lines : goal.returns-in-None-clause-lines
returns-in-None-clause-lines c =
    let text = c.args.text.now in
    let all : c.split_at.result.0.now ≡ text = c.split_at.ensures.front ∙ take_all _ text (omega arith) in
    let none : c.split_at.result.1.now ≡ drop (length text) text = c.split_at.ensures.back in
    lines_alone text c.requires c.in-None.ensures.none ∙ (λ i. sym all i ∷ lines_of (sym (none ∙ drop_all _ text (omega arith)) i))
