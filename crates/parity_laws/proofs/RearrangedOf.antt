-- Two lists of the same steps, each step once, are one list in another order.
use Rattle.std.proofs.Common.{◌≡◌, refl, sym, ◌∙◌, ap, subst, arith, ⊎_elim, inl, inr, ◌≤◌, Bool, List, [], ◌∷◌, length}
use Rattle.plane.specs.Segment.{Segment}
use Rattle.parity_laws.specs.Steps.{odd}
use Rattle.parity_laws.specs.Rings.{In, Within, Once, those}
use Rattle.parity_laws.proofs.Star.{those_in, in_those}
use Rattle.parity_laws.proofs.Orbits.{Taken, taken, matched_sum, once_those}
use Rattle.parity_laws.proofs.Rearranging.{Rearranged}

-- a list without repeats is no longer than a list that has its steps
pub no_longer : (X Y : List Segment) → Once X → Within X Y → length X ≤ length Y
no_longer [] Y once w = omega arith
no_longer (x ∷ X) Y once w = by_rest (taken x Y (w x (inl refl))) (λ Z v. no_longer X Z once.1 v)
  where
    by_rest : Taken x Y → ((Z : List Segment) → Within X Z → length X ≤ length Z) → length (x ∷ X) ≤ length Y
    by_rest t rest =
        let e = t.shorter in
        let f = rest t.rest (λ z i. ⊎_elim (λ (g : z ≡ x). absurd (once.0 (subst (λ k. In k X) g i))) (λ (j : In z t.rest). j) (t.others z (w z (inr i)))) in
        omega (arith, e, f)

pub same_sum : (g : Segment → Bool) (X Y : List Segment) → Once X → Once Y → Within X Y → Within Y X → odd g X ≡ odd g Y
same_sum g X Y a b w v =
    let e = no_longer X Y a w in
    let f = no_longer Y X b v in
    matched_sum (λ x y. x ≡ y) g g X Y (λ x y h. ap g h) a (omega (arith, e, f)) (record {
      leads = λ x i. (x, (w x i, refl));
      apart = λ x z y i j h k. h ∙ sym k;
    })

pub rearranged_of : (T U : List Segment) → Once T → Once U → Within T U → Within U T → Rearranged T U
rearranged_of T U a b w v = record {
  there = w;
  back = v;
  sums = λ label g. same_sum g (those label T) (those label U) (once_those label T a) (once_those label U b) (within T U label w) (within U T label v);
}
  where
    within : (T U : List Segment) (label : Segment → Bool) → Within T U → Within (those label T) (those label U)
    within T U label w s i = let m = those_in label T s i in in_those label U s (w s m.0) m.1
