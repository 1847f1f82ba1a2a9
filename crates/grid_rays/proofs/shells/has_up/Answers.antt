use Rattle.std.proofs.Common.{◌≡◌, ◌↔◌, refl, sym, ◌∙◌, ap, Bool, false, IsTrue}
use Rattle.std.proofs.lemmas.Bool.{false_from_ne_true, both_ways}
use Rattle.std.specs.Prelude.{◌||◌}
use Rattle.std.specs.Ordering.{is_lt, is_eq}
use Rattle.std.specs.declared.cmp.Ordering.{Ordering}
use Rattle.std.specs.declared.cmp.Ordering.TheVariants.{Less, Equal, Greater}
use Rattle.plane.specs.Direction.{Direction, same_direction, is_nearer, straight_up, OneDirection, IsNotZero}
use Rattle.plane.proofs.Directions.{same_out}
use Rattle.grid_rays.proofs.shells.has_up.Goals as goal

equal_not_less : Equal ≡ Less → ⊥
equal_not_less e = cc

greater_not_less : Greater ≡ Less → ⊥
greater_not_less e = cc

lt_is : (o : Ordering) (n : Bool) → o ≡ Less ↔ IsTrue n → is_lt o ≡ n
lt_is Less n h = sym (h.0 refl)
lt_is Equal n h = sym (false_from_ne_true n (λ e. equal_not_less (h.1 e)))
lt_is Greater n h = sym (false_from_ne_true n (λ e. greater_not_less (h.1 e)))

not_same : (o : Ordering) (u v : Direction) → IsNotZero u → IsNotZero v → o ≡ Equal ↔ OneDirection u v → is_eq o ≡ false → same_direction u v ≡ false
not_same o u v hu hv h e = false_from_ne_true (same_direction u v) (λ f. both_ways (is_eq o) e (ap is_eq (h.1 (same_out u v hu hv f))))

second : (a b : Bool) → a ≡ false → b ≡ (a || b)
second a b e = rw e

pub returns-else-is_eq : goal.returns-else-is_eq
returns-else-is_eq c =
    c.is_lt.ensures
    ∙ lt_is c.clockwise-else-is_eq.result (is_nearer c.args.from c.up.result c.args.to) c.clockwise-else-is_eq.ensures.less
    ∙ ap (λ u. is_nearer c.args.from u c.args.to) c.up.ensures
    ∙ second (same_direction c.args.from c.args.to) (is_nearer c.args.from straight_up c.args.to)
    (not_same c.clockwise.result c.args.from c.args.to c.clockwise.ensures.some.0 c.clockwise.ensures.some.2 c.clockwise.ensures.equal (sym c.is_eq.ensures ∙ c.if-is_eq.false))
