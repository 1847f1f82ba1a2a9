use Rattle.std.proofs.Common.{◌∙◌, sym, ap, Some}
use Rattle.std.specs.Int.{w64}
use Rattle.std.proofs.lemmas.Int.{to_z-of_z}
use Rattle.table_dump.proofs.Numbers.{integer_found}
use Rattle.table_dump.proofs.fields.integer_of.Goals as goal

pub returns-in-Some : goal.returns-in-Some
returns-in-Some c = integer_found c.args.word.now c.in-Some.n c.in-Some.ensures.some ∙ ap (λ z. Some z) (sym (to_z-of_z w64 c.in-Some.n c.in-Some.ensures.some.fits))
