use Rattle.std.proofs.Common.{◌≡◌, ◌↔◌, false, sym, ◌∙◌, refl, IsTrue}
use Rattle.std.proofs.lemmas.Bool.{both_ways}
use Rattle.std.specs.declared.cmp.Ordering.{Ordering}
use Rattle.std.specs.declared.cmp.Ordering.TheVariants.{Less, Equal, Greater}
use Rattle.plane.specs.Direction.{Direction, is_nearer, IsNotZero, OneDirection}
use Rattle.plane.proofs.Directions.{nearer_self, nearer_onward, nearer_one, nearer_total, one_turned}
use Rattle.grid_angle.proofs.order.clockwise.Goals as goal

record IsExact (o : Ordering) (r a b : Direction) : Type 0 where
  less : o ≡ Less ↔ IsTrue (is_nearer r a b)
  greater : o ≡ Greater ↔ IsTrue (is_nearer r b a)
  equal : o ≡ Equal ↔ OneDirection a b

not_both : (r a b : Direction) → IsTrue (is_nearer r a b) → IsTrue (is_nearer r b a) → ⊥
not_both r a b h k = both_ways (is_nearer r a a) (nearer_self r a) (nearer_onward r a b a h k)

less_exact : (r a b : Direction) → IsTrue (is_nearer r a b) → IsExact Less r a b
less_exact r a b h = record {
  less = (λ e. h, λ e. refl);
  greater = (λ e. cc, λ e. absurd (not_both r a b h e));
  equal = (λ e. absurd (apart e), λ e. absurd (both_ways (is_nearer r a b) (nearer_one r a b e) h));
}
  where
    apart : Less ≡ Equal → ⊥
    apart e = cc

greater_exact : (r a b : Direction) → IsTrue (is_nearer r b a) → IsExact Greater r a b
greater_exact r a b h = record {
  less = (λ e. cc, λ e. absurd (not_both r a b e h));
  greater = (λ e. h, λ e. refl);
  equal = (λ e. absurd (apart e), λ e. absurd (both_ways (is_nearer r b a) (nearer_one r b a (one_turned a b e)) h));
}
  where
    apart : Greater ≡ Equal → ⊥
    apart e = cc

equal_exact : (r a b : Direction) → IsNotZero r → IsNotZero a → IsNotZero b → is_nearer r a b ≡ false → is_nearer r b a ≡ false → IsExact Equal r a b
equal_exact r a b hr ha hb e f = record {
  less = (λ g. cc, λ g. cc);
  greater = (λ g. cc, λ g. cc);
  equal = (λ g. nearer_total r a b hr ha hb e f, λ g. refl);
}

pub returns-then-is_nearer_of-clause-less : goal.returns-then-is_nearer_of-clause-less
returns-then-is_nearer_of-clause-less c = (less_exact c.args.from c.args.a c.args.b (sym c.is_nearer_of.ensures.nearer ∙ c.if-is_nearer_of.true)).less

pub returns-then-is_nearer_of-clause-greater : goal.returns-then-is_nearer_of-clause-greater
returns-then-is_nearer_of-clause-greater c = (less_exact c.args.from c.args.a c.args.b (sym c.is_nearer_of.ensures.nearer ∙ c.if-is_nearer_of.true)).greater

pub returns-then-is_nearer_of-clause-equal : goal.returns-then-is_nearer_of-clause-equal
returns-then-is_nearer_of-clause-equal c = (less_exact c.args.from c.args.a c.args.b (sym c.is_nearer_of.ensures.nearer ∙ c.if-is_nearer_of.true)).equal

pub returns-then-is_nearer_of-2-clause-less : goal.returns-then-is_nearer_of-2-clause-less
returns-then-is_nearer_of-2-clause-less c = (greater_exact c.args.from c.args.a c.args.b (sym c.is_nearer_of-else-is_nearer_of.ensures.nearer ∙ c.if-is_nearer_of-2.true)).less

pub returns-then-is_nearer_of-2-clause-greater : goal.returns-then-is_nearer_of-2-clause-greater
returns-then-is_nearer_of-2-clause-greater c = (greater_exact c.args.from c.args.a c.args.b (sym c.is_nearer_of-else-is_nearer_of.ensures.nearer ∙ c.if-is_nearer_of-2.true)).greater

pub returns-then-is_nearer_of-2-clause-equal : goal.returns-then-is_nearer_of-2-clause-equal
returns-then-is_nearer_of-2-clause-equal c = (greater_exact c.args.from c.args.a c.args.b (sym c.is_nearer_of-else-is_nearer_of.ensures.nearer ∙ c.if-is_nearer_of-2.true)).equal

pub returns-else-is_nearer_of-2-clause-less : goal.returns-else-is_nearer_of-2-clause-less
returns-else-is_nearer_of-2-clause-less c = (equal_exact c.args.from c.args.a c.args.b c.is_nearer_of.ensures.some.0 c.is_nearer_of.ensures.some.1 c.is_nearer_of.ensures.some.2 (sym c.is_nearer_of.ensures.nearer ∙ c.if-is_nearer_of.false) (sym c.is_nearer_of-else-is_nearer_of.ensures.nearer ∙ c.if-is_nearer_of-2.false)).less

pub returns-else-is_nearer_of-2-clause-greater : goal.returns-else-is_nearer_of-2-clause-greater
returns-else-is_nearer_of-2-clause-greater c = (equal_exact c.args.from c.args.a c.args.b c.is_nearer_of.ensures.some.0 c.is_nearer_of.ensures.some.1 c.is_nearer_of.ensures.some.2 (sym c.is_nearer_of.ensures.nearer ∙ c.if-is_nearer_of.false) (sym c.is_nearer_of-else-is_nearer_of.ensures.nearer ∙ c.if-is_nearer_of-2.false)).greater

pub returns-else-is_nearer_of-2-clause-equal : goal.returns-else-is_nearer_of-2-clause-equal
returns-else-is_nearer_of-2-clause-equal c = (equal_exact c.args.from c.args.a c.args.b c.is_nearer_of.ensures.some.0 c.is_nearer_of.ensures.some.1 c.is_nearer_of.ensures.some.2 (sym c.is_nearer_of.ensures.nearer ∙ c.if-is_nearer_of.false) (sym c.is_nearer_of-else-is_nearer_of.ensures.nearer ∙ c.if-is_nearer_of-2.false)).equal
