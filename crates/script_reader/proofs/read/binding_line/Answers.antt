use Rattle.std.proofs.Common.{List, ℕ, subst, rules, ◌∷◌}
use Rattle.topo_base.specs.declared.named.NamedEdit.{NamedEdit}
use Rattle.script_model.specs.Script.{words_of}
use Rattle.script_reader.specs.Reading.{AreNames, IsEdit}
use Rattle.script_reader.proofs.EditWords.{no_edit, binding_parts}
use Rattle.script_reader.proofs.read.binding_line.Goals as goal

pub returns-in_default : goal.returns-in_default
returns-in_default c = λ l h. no_edit _ l.edit c.in_default.ensures (binding_parts _ _ l h).1

pub returns-in_default-2 : goal.returns-in_default-2
returns-in_default-2 c = λ l h.
    let none : (ns : List (List ℕ)) → AreNames c.args.names.now ns → ⊥ = search rules in
    none l.names (binding_parts _ _ l h).0

pub returns-in_default-3 : goal.returns-in_default-3
returns-in_default-3 c = λ l h.
    let none : (e : NamedEdit) → IsEdit (c.in-Some.word.now ∷ words_of c.in-Some.arguments.now) e → ⊥ = search rules in
    none l.edit (subst (λ (ws : List (List ℕ)). IsEdit ws l.edit) c.in-Some.ensures (binding_parts _ _ l h).1)
