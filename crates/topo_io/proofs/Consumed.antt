-- One read after another.
use Rattle.std.proofs.Common.{ℕ, List, ◌++◌, Some, None, ap, ◌∙◌, append_assoc, sym, take, length, ◌+◌, ◌≤◌, arith, length-append}
use Rattle.std.specs.Prelude.{Option}
use Rattle.std.specs.Io.KnownBytes.{Consumes}
use Rattle.std.proofs.lemmas.List.{length-take}
use Rattle.topo_io.specs.Sources.{TakesAtMost}

-- what two reads take is what stands in front
pub consumed_more : (a b c : Option (List ℕ)) (x y : List ℕ) → Consumes a b x → Consumes b c y → Consumes a c (x ++ y)
consumed_more None b c x y p q = tt
consumed_more (Some s) None c x y p q = absurd p
consumed_more (Some s) (Some t) None x y p q = absurd q
consumed_more (Some s) (Some t) (Some u) x y p q = p ∙ ap (λ l. x ++ l) q ∙ sym (append_assoc x y u)

-- two reads take no more than their counts say
pub takes_at_most : (a b c : Option (List ℕ)) (x y : List ℕ) (n most : ℕ)
    → Consumes a b x → Consumes b c (take n y) → length x + n ≤ most → TakesAtMost most a c
takes_at_most a b c x y n most p q few = record {
  taken = x ++ take n y;
  within = omega (arith, length-append x (take n y), length-take n y);
  consumed = consumed_more a b c x (take n y) p q;
}
