use Rattle.std.proofs.Common.{map, refl, subst}
use Rattle.std.specs.Prelude.{string_bytes}
use Rattle.topo.specs.declared.words.Form.{Form}
use Rattle.topo.specs.Endings.{applied, shows}
use Rattle.topo.specs.Words.{IsForm}
use Rattle.topo.proofs.solo.solo_counted.Goals as goal

pub returns-in-Some-Apply : goal.returns-in-Some-Apply
returns-in-Some-Apply g c = applied (subst (λ (f : Form). IsForm (map string_bytes c.args.words.now) f) c.in-Some-Apply.field-0-is c.in-Some-Apply.ensures.form) c.apply.ensures

pub returns : goal.returns
returns g c = shows c.in-Some-Show.shown (subst (λ (f : Form). IsForm (map string_bytes c.args.words.now) f) c.in-Some-Show.field-0-is c.in-Some-Show.ensures.form) refl c.show.ensures
