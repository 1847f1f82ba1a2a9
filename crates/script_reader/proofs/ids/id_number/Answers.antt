use Rattle.std.proofs.Common.{pos, ◌∙◌, sym, subst, ltb-true}
use Rattle.std.specs.Int.{w64, FitsUnsignedBits}
use Rattle.std.proofs.lemmas.Int.{to_z-of_z}
use Rattle.topo_io.proofs.Decimals.{decimal_unique}
use Rattle.script_reader.proofs.IdWords.{id_fits}
use Rattle.script_reader.proofs.ids.id_number.Goals as goal

pub returns-in_default : goal.returns-in_default
returns-in_default c = λ n h. c.in_default.ensures.none (pos n) (record { fits = id_fits n h.0; spelled = h.1 })

pub returns-in-Err : goal.returns-in-Err
returns-in-Err c = λ n h.
    let same = decimal_unique _ _ (pos n) c.in-Some.ensures.some (record { fits = id_fits n h.0; spelled = h.1 }) in
    c.in-Err.ensures (subst (FitsUnsignedBits 32) (sym (to_z-of_z w64 c.in-Some.n c.in-Some.ensures.some.fits ∙ same)) (ltb-true _ _ h.0))
