use Rattle.std.proofs.Common.{◌≡◌, ℕ, List, ap, subst, ◌∙◌, sym, IfOk}
use Rattle.drawing.specs.Drawing.{Drawing}
use Rattle.drawing.specs.Replay.{replay}
use Rattle.drawing.specs.Tables.{drawn}
use Rattle.script_model.specs.Texts.{features_text}
use Rattle.drawing.proofs.TableLemmas.{drawn-tables_of}
use Rattle.topo.specs.declared.words.Shown.{Shown}
use Rattle.topo.specs.Endings.{shown_text}
use Rattle.topo.proofs.show.text_of.Goals as goal

pub returns-in-Features : goal.returns-in-Features
returns-in-Features g c =
    let history = c.args.desk.now.board.history in
    let same = ap drawn c.tables-in-Features.ensures ∙ drawn-tables_of (replay history) in
    let text = ap features_text same ∙ ap (λ (s : Shown). shown_text s history) (sym c.in-Features.is) in
    subst (λ (t : List ℕ). IfOk c.features_text.result (λ x. x ≡ t)) text c.features_text.ensures
