-- Pairs that are sorted, and then kept once.
use Rattle.std.proofs.Common.{◌≡◌, ◌∙◌, ℕ, ◌<◌, Bool, true, false, ◌&&◌, ◌||◌, ◌==◌, nat_lt, IsTrue, List, [], ◌∷◌, refl, sym, ap, subst, eqb-true, eq-eqb, lt-ltb}
use Rattle.std.specs.Prelude.{Contains}
use Rattle.std.specs.Cmp.{IsTotalOrder, IsEquivalence, ranks, unsigned_ties}
use Rattle.std.specs.List.{dedup}
use Rattle.std.specs.List.Sorted.{IsPermutation, IsSorted, IsStrictlySortedBy}
use Rattle.std.specs.List.Retain.{IsFiltered, DiffersFromLast}
use Rattle.std.specs.Ordering.{nat_cmp, on, then_cmp, eq_by_cmp, is_eq, ordering_then, eq_of_both}
use Rattle.std.specs.declared.cmp.Ordering.{Ordering}
use Rattle.std.specs.declared.cmp.Ordering.TheVariants.{Less, Equal, Greater}
use Rattle.std.proofs.lemmas.Bool.{and_parts, and_from}
use Rattle.std.proofs.lemmas.Cmp.{by_ranked, nat_cmp_total, nat_eq_equiv, on_total, then_total, on_equiv, and_equiv}
use Rattle.std.proofs.lemmas.List.Filters.{dedup_is}
use Rattle.std.proofs.lemmas.List.Kept.{Contains-dedup, Contains-from_dedup, IsStrictlySortedBy-dedup}
use Rattle.std.proofs.lemmas.List.Sorted.{Contains-permutation, IsPermutation-sym}
use Rattle.validate_topology.specs.declared.pairs.IdPair.{IdPair}
use Rattle.validate_topology.specs.Pairs.{pair_before, pairs_ascend, IsInOrder}

abbrev pair_cmp : IdPair → IdPair → Ordering
pair_cmp = then_cmp (on (λ (p : IdPair). p.first) nat_cmp) (on (λ (p : IdPair). p.second) nat_cmp)

abbrev pair_eq : IdPair → IdPair → Bool
pair_eq = eq_of_both (on (λ (p : IdPair). p.first) (λ a b. a == b)) (on (λ (p : IdPair). p.second) (λ a b. a == b))

cmp_total : IsTotalOrder pair_cmp
cmp_total = then_total (on_total (λ (p : IdPair). p.first) nat_cmp_total) (on_total (λ (p : IdPair). p.second) nat_cmp_total)

eq_equiv : IsEquivalence pair_eq
eq_equiv = and_equiv (on_equiv (λ (p : IdPair). p.first) nat_eq_equiv) (on_equiv (λ (p : IdPair). p.second) nat_eq_equiv)

-- equal pairs are one
one_pair : (p q : IdPair) → pair_eq p q ≡ true → p ≡ q
one_pair p q e =
    let parts = and_parts (p.first == q.first) (p.second == q.second) e in
    let f = eqb-true p.first q.first parts.0 in
    let s = eqb-true p.second q.second parts.1 in
    λ i. record { first = f i; second = s i }

-- the test of equality is that of the order
tied : (a b : ℕ) → (a == b) ≡ is_eq (nat_cmp a b)
tied a b = unsigned_ties a b

tied_both : (a b : ℕ) (o p : Ordering) → o ≡ nat_cmp a b → ((a == b) && is_eq p) ≡ is_eq (ordering_then o p)
tied_both a b Less p e = ap (λ (t : Bool). t && is_eq p) (tied a b ∙ ap is_eq (sym e))
tied_both a b Equal p e = ap (λ (t : Bool). t && is_eq p) (tied a b ∙ ap is_eq (sym e))
tied_both a b Greater p e = ap (λ (t : Bool). t && is_eq p) (tied a b ∙ ap is_eq (sym e))

ties : (p q : IdPair) → pair_eq p q ≡ eq_by_cmp pair_cmp p q
ties p q = ap (λ (t : Bool). (p.first == q.first) && t) (tied p.second q.second) ∙ tied_both p.first q.first (nat_cmp p.first q.first) (nat_cmp p.second q.second) refl

or_right : (a b : Bool) → IsTrue b → IsTrue (a || b)
or_right true b h = refl
or_right false b h = h

-- what the order says
less_first : (a b : ℕ) → nat_cmp a b ≡ Less → nat_lt a b ≡ true
less_first a b e = by_ranked (a < b) (a ≡ b) (b < a) (nat_cmp a b) (ranks a b) (λ _ l. lt-ltb a b l) (λ h _. absurd (let x : Less ≡ Equal = sym e ∙ h in cc)) (λ h _. absurd (let x : Less ≡ Greater = sym e ∙ h in cc))

equal_first : (a b : ℕ) → nat_cmp a b ≡ Equal → a ≡ b
equal_first a b e = by_ranked (a < b) (a ≡ b) (b < a) (nat_cmp a b) (ranks a b) (λ h _. absurd (let x : Equal ≡ Less = sym e ∙ h in cc)) (λ _ l. l) (λ h _. absurd (let x : Equal ≡ Greater = sym e ∙ h in cc))

before_of : (p q : IdPair) (o : Ordering) → o ≡ nat_cmp p.first q.first → ordering_then o (nat_cmp p.second q.second) ≡ Less → IsTrue (pair_before p q)
before_of p q Less is e = ap (λ (t : Bool). t || (p.first == q.first) && nat_lt p.second q.second) (less_first p.first q.first (sym is))
before_of p q Equal is e =
    let same = eq-eqb p.first q.first (equal_first p.first q.first (sym is)) in
    let less = less_first p.second q.second e in
    or_right (nat_lt p.first q.first) ((p.first == q.first) && nat_lt p.second q.second) (ap (λ (t : Bool). t && nat_lt p.second q.second) same ∙ less)
before_of p q Greater is e = absurd cc

ascends : (ps : List IdPair) → IsStrictlySortedBy pair_cmp ps → IsTrue (pairs_ascend ps)
unfolding IsStrictlySortedBy
ascends [] h = refl
ascends (p ∷ []) h = refl
ascends (p ∷ q ∷ rest) h = and_from (pair_before p q) (pairs_ascend (q ∷ rest)) (before_of p q (nat_cmp p.first q.first) refl h.0.0) (ascends (q ∷ rest) h.1)

pub in_order_of : (pairs sorted kept : List IdPair) → IsPermutation pairs sorted → IsSorted pair_cmp sorted → IsFiltered (DiffersFromLast pair_eq) [] sorted kept → IsInOrder pairs kept
in_order_of pairs sorted kept p s f =
    let is : kept ≡ dedup pair_eq sorted = dedup_is pair_eq sorted kept f in
    record {
      ascend = subst (λ (ps : List IdPair). IsTrue (pairs_ascend ps)) (sym is) (ascends (dedup pair_eq sorted) (IsStrictlySortedBy-dedup cmp_total ties sorted s));
      from = λ q c. Contains-permutation sorted pairs q (IsPermutation-sym pairs sorted p) (Contains-from_dedup pair_eq sorted q (subst (λ (ps : List IdPair). Contains ps q) is c));
      to = λ q c. subst (λ (ps : List IdPair). Contains ps q) (sym is) (Contains-dedup eq_equiv one_pair sorted q (Contains-permutation pairs sorted q p c));
    }
