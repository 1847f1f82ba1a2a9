use Rattle.std.proofs.Common.{◌≡◌, ℕ, ◌++◌, OnOk, FitsSigned, ap, subst, ◌∙◌, rules}
use Rattle.std.specs.Int.{w64, to_be_bytes, cast_unsigned}
use Rattle.std.proofs.lemmas.Int.{to_z-of_z}
use Rattle.entry_codec.proofs.Appending.{joined}
use Rattle.entry_codec.proofs.fields.put_point.Goals as goal

pub returns-clause-bytes : goal.returns-clause-bytes
returns-clause-bytes c =
    let old = c.args.out.now.items in
    let x = c.cast_unsigned-x.result in let y = c.cast_unsigned-y.result in
    let x_fits : FitsSigned w64 c.x.result = search rules in
    let y_fits : FitsSigned w64 c.y.result = search rules in
    let x_is = c.cast_unsigned-x.ensures ∙ ap (cast_unsigned w64) (to_z-of_z w64 c.x.result x_fits ∙ c.x.ensures.value) in
    let y_is = c.cast_unsigned-y.ensures ∙ ap (cast_unsigned w64) (to_z-of_z w64 c.y.result y_fits ∙ c.y.ensures.value) in
    let both = joined c.put_wide-2.result old c.put_wide.new.out.items c.put_wide-2.new.out.items (to_be_bytes w64 x) (to_be_bytes w64 y) c.in_ok-put_wide.ensures c.put_wide-2.ensures in
    subst (λ (m : ℕ). OnOk c.put_wide-2.result (c.put_wide-2.new.out.items ≡ old ++ (to_be_bytes w64 (cast_unsigned w64 c.args.point.now.x) ++ to_be_bytes w64 m))) y_is
    (subst (λ (n : ℕ). OnOk c.put_wide-2.result (c.put_wide-2.new.out.items ≡ old ++ (to_be_bytes w64 n ++ to_be_bytes w64 y))) x_is both)
