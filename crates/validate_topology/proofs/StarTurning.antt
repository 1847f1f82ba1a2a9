-- Half-edges that stand by node, and clockwise about each: what stands next is next about the node.
use Rattle.std.proofs.Common.{◌≡◌, ◌≢◌, ◌∙◌, ⊎_elim, ℕ, zero, suc, ◌+◌, ◌<◌, ◌≤◌, Bool, true, false, IsTrue, List, [], ◌∷◌, length, get_or, refl, sym, ap, subst, arith}
use Rattle.std.specs.Prelude.{Contains}
use Rattle.std.proofs.lemmas.Bool.{both_ways, false_from_ne_true, cases_lt, cases_eq}
use Rattle.plane.proofs.Directions.{nearer_self, nearer_onward, nearer_cyclic, same_out, same_in, one_turned, quarter_of_one}
use Rattle.plane.proofs.ListTests.{contains_here, contains_there, contains_cases, contains_none}
use Rattle.plane.proofs.Wedges.{apart_nearer, before_before}
use Rattle.plane.specs.Direction.{Direction, cross, quarter, is_nearer, same_direction, straight_up, nearer_by, OneDirection, IsNotZero}
use Rattle.drawing.specs.HalfEdge.{HalfEdge}
use Rattle.drawing.specs.Star.{leaving}
use Rattle.face_rings.proofs.Ranks.{by_bool}
use Rattle.ring_laws.proofs.Inserting.{not_both}
use Rattle.ring_laws.proofs.Turning.{AreSpread, Turns, one_of_equals}

-- ---- three directions in clockwise order, seen from each of them
pub record AreRound (u v w : Direction) : Type 0 where
  pub from_first : IsTrue (is_nearer u v w)
  pub from_second : IsTrue (is_nearer v w u)
  pub from_third : IsTrue (is_nearer w u v)

same_switched : (u v : Direction) → IsNotZero u → IsNotZero v → same_direction u v ≡ false → same_direction v u ≡ false
same_switched u v hu hv e = false_from_ne_true (same_direction v u) (λ h. both_ways (same_direction u v) e (same_in u v (one_turned v u (same_out v u hv hu h))))

from_one : (r u v w : Direction) → OneDirection r u → is_nearer r v w ≡ is_nearer u v w
from_one r u v w one = ap (λ q. nearer_by q (quarter r w) (cross v w)) (quarter_of_one v r u one) ∙ ap (λ q. nearer_by (quarter u v) q (cross v w)) (quarter_of_one w r u one)

pub around : (r u v w : Direction) → IsNotZero r → IsNotZero u → IsNotZero v → IsNotZero w → IsTrue (is_nearer r u v) → IsTrue (is_nearer r v w) → AreRound u v w
around r u v w hr hu hv hw a b = by_first (same_direction r u) refl
  where
    turned : IsTrue (is_nearer u v w) → AreRound u v w
    turned first =
        let second = nearer_cyclic u v w hu hv first (apart_nearer r u v hu hv a) in
        record { from_first = first; from_second = second; from_third = nearer_cyclic v w u hv hw second (apart_nearer r v w hv hw b) }

    by_first : (c : Bool) → same_direction r u ≡ c → AreRound u v w
    by_first true e = turned (sym (from_one r u v w (same_out r u hr hu e)) ∙ b)
    by_first false e =
        let third = before_before r w u v hr hw hu hv e a b in
        turned (nearer_cyclic w u v hw hu third (same_switched u w hu hw (apart_nearer r u w hu hw (nearer_onward r u v w a b))))

up_is_some : IsNotZero straight_up
up_is_some e f = cc

-- ---- half-edges in that order
pub record AreTurned (hs ks : List HalfEdge) : Type 0 where
  pub all : (k : HalfEdge) → Contains hs k → Contains ks k
  pub only : (k : HalfEdge) → Contains ks k → Contains hs k
  pub differ : (i j : ℕ) (d : HalfEdge) → i < j → j < length ks → get_or ks i d ≡ get_or ks j d → ⊥
  pub nodes : (i j : ℕ) (d : HalfEdge) → i ≤ j → j < length ks → (get_or ks i d).from_node ≤ (get_or ks j d).from_node
  pub turned : (i j : ℕ) (d : HalfEdge) → i ≤ j → j < length ks → (get_or ks i d).from_node ≡ (get_or ks j d).from_node → is_nearer straight_up (leaving (get_or ks j d)) (leaving (get_or ks i d)) ≡ false

-- the half-edge at f stands next to that at i, where those of its node begin at the first
pub data Stands (ks : List HalfEdge) (d : HalfEdge) (first i f : ℕ) : Type 0 where
  on : f ≡ i + 1 → i + 1 < length ks → (get_or ks (i + 1) d).from_node ≡ (get_or ks i d).from_node → Stands ks d first i f
  round : f ≡ first → (i + 1 < length ks → (get_or ks (i + 1) d).from_node ≢ (get_or ks i d).from_node) → Stands ks d first i f

pub record IsFirstOf (ks : List HalfEdge) (d : HalfEdge) (first i : ℕ) : Type 0 where
  pub before : first ≤ i
  pub same : (get_or ks first d).from_node ≡ (get_or ks i d).from_node
  pub none : (j : ℕ) → j < first → (get_or ks j d).from_node ≢ (get_or ks i d).from_node

pub place_in : {X : Type 0} (x d : X) (xs : List X) → Contains xs x → (i : ℕ) × ((i < length xs) × (get_or xs i d ≡ x))
place_in x d [] c = absurd (contains_none x c)
place_in x d (y ∷ ys) c =
    ⊎_elim
    (λ (e : y ≡ x). (0, (omega arith, e)))
    (λ (m : Contains ys x). let r = place_in x d ys m in let w = r.1.0 in (suc r.0, (omega arith, r.1.1)))
    (contains_cases x y ys c)

pub at_has : {X : Type 0} (d : X) (xs : List X) (i : ℕ) → i < length xs → Contains xs (get_or xs i d)
at_has d [] i h = absurd (omega arith)
at_has d (x ∷ xs) zero h = contains_here x xs
at_has d (x ∷ xs) (suc i) h = contains_there (get_or xs i d) x xs (at_has d xs i (omega arith))

not_behind : (r u v : Direction) → IsTrue (is_nearer r u v) → is_nearer r v u ≡ false
not_behind r u v x = false_from_ne_true (is_nearer r v u) (λ g. not_both r u v x g)

pub turns : (hs ks : List HalfEdge) (d : HalfEdge) (first i f : ℕ) → AreSpread hs → AreTurned hs ks → i < length ks → IsFirstOf ks d first i → Stands ks d first i f → Turns hs (get_or ks i d) (get_or ks f d)
turns hs ks d first i f spread t within begins stands = record {
  first = t.only (half i) (at_has d ks i within);
  second = t.only (half f) (at_has d ks f f_within);
  one_node = f_node;
  none_between = λ k c from other. let r = place_in k d ks (t.all k c) in
      subst (λ (z : HalfEdge). is_nearer (leaving (half i)) (leaving z) (leaving (half f)) ≡ false) r.1.1
      (between stands r.0 r.1.0 (ap (λ (z : HalfEdge). z.from_node) r.1.1 ∙ from) (λ e. other (sym r.1.1 ∙ ap half e)));
  alone = λ e k c from. let r = place_in k d ks (t.all k c) in
      sym r.1.1 ∙ ap half (lone stands e r.0 r.1.0 (ap (λ (z : HalfEdge). z.from_node) r.1.1 ∙ from));
}
  where
    half : ℕ → HalfEdge
    half j = get_or ks j d

    node : ℕ → ℕ
    node j = (get_or ks j d).from_node

    strict : (j k : ℕ) → j < k → k < length ks → node j ≡ node k → IsTrue (is_nearer straight_up (leaving (half j)) (leaving (half k)))
    strict j k below in_it same =
        ⊎_elim
        (λ (e : is_nearer straight_up (leaving (half j)) (leaving (half k)) ≡ true). e)
        (λ (e : is_nearer straight_up (leaving (half j)) (leaving (half k)) ≡ false).
        absurd (t.differ j k d below in_it
        (one_of_equals hs straight_up (half j) (half k) spread up_is_some (t.only (half j) (at_has d ks j (omega arith))) (t.only (half k) (at_has d ks k in_it)) same e (t.turned j k d (omega arith) in_it same))))
        (by_bool (is_nearer straight_up (leaving (half j)) (leaving (half k))))

    some : (j : ℕ) → j < length ks → IsNotZero (leaving (half j))
    some j in_it = spread.some (half j) (t.only (half j) (at_has d ks j in_it))

    three : (j k l : ℕ) → j < k → k < l → l < length ks → node j ≡ node k → node k ≡ node l → AreRound (leaving (half j)) (leaving (half k)) (leaving (half l))
    three j k l a b in_it e g =
        around straight_up (leaving (half j)) (leaving (half k)) (leaving (half l)) up_is_some (some j (omega arith)) (some k (omega arith)) (some l in_it) (strict j k a (omega arith) e) (strict k l b in_it g)

    f_within : f < length ks
    f_within = elim stands [
      | on is more same ↦ subst (λ n. n < length ks) (sym is) more
      | round is none ↦ let b = begins.before in subst (λ n. n < length ks) (sym is) (omega arith)
    ]

    f_node : node f ≡ node i
    f_node = elim stands [
      | on is more same ↦ ap node is ∙ same
      | round is none ↦ ap node is ∙ begins.same
    ]

    -- none of the node stands behind it, where the next one is of another
    none_behind : (i + 1 < length ks → node (i + 1) ≢ node i) → (j : ℕ) → i < j → j < length ks → node j ≡ node i → ⊥
    none_behind none j after in_it same =
        let next : i + 1 < length ks = omega arith in
        let up = t.nodes i (i + 1) d (omega arith) next in
        let on = t.nodes (i + 1) j d (omega arith) in_it in
        none next (let e : node j ≡ node i = same in let u : node i ≤ node (i + 1) = up in let v : node (i + 1) ≤ node j = on in omega arith)

    between : Stands ks d first i f → (j : ℕ) → j < length ks → node j ≡ node i → (j ≡ i → ⊥) → is_nearer (leaving (half i)) (leaving (half j)) (leaving (half f)) ≡ false
    between (on is more same) j in_it from other =
        subst (λ n. is_nearer (leaving (half i)) (leaving (half j)) (leaving (half n)) ≡ false) (sym is)
        (⊎_elim
        (λ (e : j ≡ i + 1). subst (λ n. is_nearer (leaving (half i)) (leaving (half n)) (leaving (half (i + 1))) ≡ false) (sym e) (nearer_self (leaving (half i)) (leaving (half (i + 1)))))
        (λ (e : j ≡ i + 1 → ⊥).
        ⊎_elim
        (λ (a : j < i). not_behind (leaving (half i)) (leaving (half (i + 1))) (leaving (half j)) (three j i (i + 1) a (omega arith) more from (sym same)).from_second)
        (λ (a : i ≤ j). let past : i + 1 < j = beyond j a other e in not_behind (leaving (half i)) (leaving (half (i + 1))) (leaving (half j)) (three i (i + 1) j (omega arith) past in_it (sym same) (same ∙ sym from)).from_first)
        (cases_lt j i))
        (cases_eq j (i + 1)))
      where
        beyond : (j : ℕ) → i ≤ j → (j ≡ i → ⊥) → (j ≡ i + 1 → ⊥) → i + 1 < j
        beyond j a b c = ⊎_elim (λ (g : i + 1 < j). g) (λ (g : j ≤ i + 1). absurd (⊎_elim (λ (h : j < i + 1). b (omega arith)) (λ (h : i + 1 ≤ j). c (omega arith)) (cases_lt j (i + 1)))) (cases_lt (i + 1) j)
    between (round is none) j in_it from other =
        subst (λ n. is_nearer (leaving (half i)) (leaving (half j)) (leaving (half n)) ≡ false) (sym is)
        (⊎_elim
        (λ (e : j ≡ first). subst (λ n. is_nearer (leaving (half i)) (leaving (half n)) (leaving (half first)) ≡ false) (sym e) (nearer_self (leaving (half i)) (leaving (half first))))
        (λ (e : j ≡ first → ⊥).
        ⊎_elim
        (λ (a : i < j). absurd (none_behind none j a in_it from))
        (λ (a : j ≤ i).
        ⊎_elim
        (λ (b : j < first). absurd (begins.none j b from))
        (λ (b : first ≤ j).
        not_behind (leaving (half i)) (leaving (half first)) (leaving (half j)) (three first j i (less first j b (λ g. e (sym g))) (less j i a other) within (begins.same ∙ sym from) from).from_third)
        (cases_lt j first))
        (cases_lt i j))
        (cases_eq j first))
      where
        less : (a b : ℕ) → a ≤ b → (a ≡ b → ⊥) → a < b
        less a b h g = ⊎_elim (λ (k : a < b). k) (λ (k : b ≤ a). absurd (g (omega arith))) (cases_lt a b)

    lone : Stands ks d first i f → half f ≡ half i → (j : ℕ) → j < length ks → node j ≡ node i → j ≡ i
    lone (on is more same) e j in_it from = absurd (t.differ i (i + 1) d (omega arith) more (sym (ap half (sym is) ∙ e)))
    lone (round is none) e j in_it from =
        let k : half first ≡ half i = ap half (sym is) ∙ e in
        let here : i ≤ first = ⊎_elim (λ (g : first < i). absurd (t.differ first i d g within k)) (λ (g : i ≤ first). g) (cases_lt first i) in
        ⊎_elim
        (λ (a : i < j). absurd (none_behind none j a in_it from))
        (λ (a : j ≤ i).
        ⊎_elim
        (λ (b : j < first). absurd (begins.none j b from))
        (λ (b : first ≤ j). let c = begins.before in omega arith)
        (cases_lt j first))
        (cases_lt i j)
