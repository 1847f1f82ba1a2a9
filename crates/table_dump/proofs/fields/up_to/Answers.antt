use Rattle.std.proofs.Common.{◌≡◌, ℕ, ℤ, pos, ◌∙◌, sym, ap, subst, arith}
use Rattle.std.specs.Prelude.{unsigned_abs}
use Rattle.std.specs.Int.{w64, FitsUnsignedBits}
use Rattle.std.proofs.lemmas.Int.{to_z-of_z}
use Rattle.topo_io.specs.Decimal.{IsDecimal}
use Rattle.topo_io.proofs.Decimals.{decimal_unique}
use Rattle.table_dump.proofs.Numbers.{up_to_found, up_to_other, pos_of}
use Rattle.table_dump.proofs.fields.up_to.Goals as goal

pub returns-in_default : goal.returns-in_default
returns-in_default c = up_to_other c.args.high c.args.word.now (omega (arith, c.ranges.high.fits)) (λ n le h. c.in_default.ensures.none (pos n) h)

pub returns-in-Err : goal.returns-in-Err
returns-in-Err c = up_to_other c.args.high c.args.word.now (omega (arith, c.ranges.high.fits)) (λ n le h.
    let same = decimal_unique _ _ (pos n) c.in-Some.ensures.some h in
    c.in-Err.ensures (subst (FitsUnsignedBits 32) (sym (to_z-of_z w64 c.in-Some.n c.in-Some.ensures.some.fits ∙ same)) (omega (arith, le, c.ranges.high.fits))))

same_id : (n z : ℤ) (id : ℕ) → n ≡ z → FitsUnsignedBits 32 z → id ≡ unsigned_abs z → n ≡ pos id
same_id n z id is fits e = is ∙ pos_of z fits ∙ ap pos (sym e)

pub returns-then-id-high : goal.returns-then-id-high
returns-then-id-high c =
    let same = same_id c.in-Some.n _ c.in-Ok.id (sym (to_z-of_z w64 c.in-Some.n c.in-Some.ensures.some.fits)) c.in-Ok.ensures.0 c.in-Ok.ensures.1 in
    up_to_found c.args.high c.args.word.now c.in-Ok.id (omega (arith, c.ranges.high.fits)) c.if-id-high.true (subst (IsDecimal c.args.word.now) same c.in-Some.ensures.some)

pub returns-else-id-high : goal.returns-else-id-high
returns-else-id-high c = up_to_other c.args.high c.args.word.now (omega (arith, c.ranges.high.fits)) (λ n le h.
    let same = same_id c.in-Some.n _ c.in-Ok.id (sym (to_z-of_z w64 c.in-Some.n c.in-Some.ensures.some.fits)) c.in-Ok.ensures.0 c.in-Ok.ensures.1 in
    let one = decimal_unique c.args.word.now c.in-Some.n (pos n) c.in-Some.ensures.some h in
    let both : n ≡ c.in-Ok.id = ap unsigned_abs (sym one ∙ same) in
    omega (arith, le, both, c.if-id-high.false))
