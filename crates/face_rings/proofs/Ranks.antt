-- Darts by their place in order: twice the edge, and one more where it is walked back.
use Rattle.std.proofs.Common.{◌≡◌, ℕ, zero, suc, ◌+◌, ◌*◌, ◌<◌, ◌≤◌, refl, sym, ◌∙◌, ap, subst, arith, ◌⊎◌, inl, inr, ⊎_elim, Bool, true, false, not, ◌&&◌, List, [], ◌∷◌, length, get_or}
use Rattle.std.specs.Prelude.{◌==◌, nat_lt}
use Rattle.std.specs.Bool.{Decides}
use Rattle.std.specs.Cmp.{IsEquivalence}
use Rattle.std.specs.List.Sorted.{IsNonDecreasingBy}
use Rattle.std.specs.Ordering.{ordering_index}
use Rattle.std.specs.declared.cmp.Ordering.TheVariants.{Less, Equal, Greater}
use Rattle.std.proofs.lemmas.Bool.{and_parts, and_from, or_cases, or_left, or_right, ltb-true, lt-ltb, eqb-true, eq-eqb, cases_order, false_from_ne_true, false≢true}
use Rattle.std.proofs.lemmas.Bool.Decides.{same_from_decides}
use Rattle.topo_base.specs.Darts.{same_dart, same_way}
use Rattle.topo_base.specs.declared.ids.Dart.{Dart}
use Rattle.face_rings.specs.declared.content.BorderDart.{BorderDart}
use Rattle.face_rings.specs.Border.{dart_before, dart_order, darts_ascend, next_dart}

pub by_bool : (t : Bool) → (t ≡ true) ⊎ (t ≡ false)
by_bool true = inl refl
by_bool false = inr refl

-- ---- the same dart
same_way_out : (b c : Bool) → same_way b c ≡ true → b ≡ c
same_way_out true true h = refl
same_way_out true false h = absurd (false≢true h)
same_way_out false true h = absurd (false≢true h)
same_way_out false false h = refl

same_way_in : (b : Bool) → same_way b b ≡ true
same_way_in true = refl
same_way_in false = refl

pub same_out : (d e : Dart) → same_dart d e ≡ true → d ≡ e
same_out d e h =
    let parts = and_parts (d.edge == e.edge) (same_way d.forward e.forward) h in
    let p = eqb-true d.edge e.edge parts.0 in
    let q = same_way_out d.forward e.forward parts.1 in
    λ i. record { edge = p i; forward = q i }

pub same_self : (d : Dart) → same_dart d d ≡ true
same_self d = and_from (d.edge == d.edge) (same_way d.forward d.forward) (eq-eqb d.edge d.edge refl) (same_way_in d.forward)

pub same_in : (d e : Dart) → d ≡ e → same_dart d e ≡ true
same_in d e p = subst (λ z. same_dart d z ≡ true) p (same_self d)

pub Decides-same_dart : (d e : Dart) → Decides (same_dart d e) (d ≡ e)
Decides-same_dart d e = (same_out d e, same_in d e)

pub not_same : (d e : Dart) → (d ≡ e → ⊥) → same_dart d e ≡ false
not_same d e far = false_from_ne_true (same_dart d e) (λ h. far (same_out d e h))

pub same_dart_laws : IsEquivalence same_dart
same_dart_laws = record {
  refl = same_self;
  symm = λ d e. same_from_decides (same_dart d e) (same_dart e d) (Decides-same_dart d e) (λ h. sym (same_out e d h), λ p. same_in e d (sym p));
  congr = λ d e k h. ap (λ z. same_dart z k) (same_out d e h);
}

-- ---- the order of darts
abbrev pub turn : Bool → ℕ
turn true = 0
turn false = 1

abbrev pub rank : Dart → ℕ
rank d = 2 * d.edge + turn d.forward

pub turn_small : (b : Bool) → turn b ≤ 1
turn_small true = omega arith
turn_small false = omega arith

turn_of : (b : Bool) → b ≡ true → turn b ≡ 0
turn_of b e = ap turn e

turn_of_not : (b : Bool) → not b ≡ true → turn b ≡ 1
turn_of_not true e = absurd (false≢true e)
turn_of_not false e = refl

turn_less : (b c : Bool) → turn b < turn c → (b ≡ true) × (not c ≡ true)
turn_less true true h = absurd (omega arith)
turn_less true false h = (refl, refl)
turn_less false true h = absurd (omega arith)
turn_less false false h = absurd (omega arith)

turn_same : (b c : Bool) → turn b ≡ turn c → b ≡ c
turn_same true true h = refl
turn_same true false h = absurd (omega arith)
turn_same false true h = absurd (omega arith)
turn_same false false h = refl

pub before_out : (d e : Dart) → dart_before d e ≡ true → rank d < rank e
before_out d e h =
    let one = turn_small d.forward in
    let two = turn_small e.forward in
    ⊎_elim
    (λ (k : nat_lt d.edge e.edge ≡ true). let less = ltb-true d.edge e.edge k in omega arith)
    (λ (k : (d.edge == e.edge && d.forward && not e.forward) ≡ true).
    let p = and_parts (d.edge == e.edge && d.forward) (not e.forward) k in
    let q = and_parts (d.edge == e.edge) d.forward p.0 in
    let same = eqb-true d.edge e.edge q.0 in
    let first = turn_of d.forward q.1 in
    let second = turn_of_not e.forward p.1 in
    omega arith)
    (or_cases (nat_lt d.edge e.edge) (d.edge == e.edge && d.forward && not e.forward) h)

pub before_in : (d e : Dart) → rank d < rank e → dart_before d e ≡ true
before_in d e h =
    let one = turn_small d.forward in
    let two = turn_small e.forward in
    ⊎_elim
    (λ (k : d.edge ≡ e.edge).
    let ways = turn_less d.forward e.forward (omega arith) in
    or_right (nat_lt d.edge e.edge) (d.edge == e.edge && d.forward && not e.forward)
    (and_from (d.edge == e.edge && d.forward) (not e.forward) (and_from (d.edge == e.edge) d.forward (eq-eqb d.edge e.edge k) ways.0) ways.1))
    (λ (k : (d.edge < e.edge) ⊎ (e.edge < d.edge)).
    ⊎_elim
    (λ (l : d.edge < e.edge). or_left (nat_lt d.edge e.edge) (d.edge == e.edge && d.forward && not e.forward) (lt-ltb d.edge e.edge l))
    (λ (l : e.edge < d.edge). absurd (omega arith))
    k)
    (cases_order d.edge e.edge)

pub before_no : (d e : Dart) → rank e ≤ rank d → dart_before d e ≡ false
before_no d e h = false_from_ne_true (dart_before d e) (λ k. let less = before_out d e k in omega arith)

pub rank_same : (d e : Dart) → rank d ≡ rank e → d ≡ e
rank_same d e h =
    let one = turn_small d.forward in
    let two = turn_small e.forward in
    let p : d.edge ≡ e.edge = omega arith in
    let q = turn_same d.forward e.forward (omega arith) in
    λ i. record { edge = p i; forward = q i }

-- ---- the ranks of darts that ascend
pub first_less : (a : BorderDart) (border : List BorderDart) (i : ℕ) (x : BorderDart) → darts_ascend (a ∷ border) ≡ true → i < length border → rank a.dart < rank ((get_or border i x).dart)
first_less a [] i x h w = absurd (omega arith)
first_less a (b ∷ border) zero x h w = before_out a.dart b.dart (and_parts (dart_before a.dart b.dart) (darts_ascend (b ∷ border)) h).0
first_less a (b ∷ border) (suc i) x h w =
    let parts = and_parts (dart_before a.dart b.dart) (darts_ascend (b ∷ border)) h in
    let here = before_out a.dart b.dart parts.0 in
    let there = first_less b border i x parts.1 (omega arith) in
    omega arith

pub tail_ascends : (a : BorderDart) (border : List BorderDart) → darts_ascend (a ∷ border) ≡ true → darts_ascend border ≡ true
tail_ascends a [] h = refl
tail_ascends a (b ∷ border) h = (and_parts (dart_before a.dart b.dart) (darts_ascend (b ∷ border)) h).1

pub ranks_ascend : (border : List BorderDart) (i j : ℕ) (x : BorderDart) → darts_ascend border ≡ true → i < j → j < length border → rank ((get_or border i x).dart) < rank ((get_or border j x).dart)
ranks_ascend [] i j x h l w = absurd (omega arith)
ranks_ascend (a ∷ border) zero zero x h l w = absurd (omega arith)
ranks_ascend (a ∷ border) zero (suc j) x h l w = first_less a border j x h (omega arith)
ranks_ascend (a ∷ border) (suc i) zero x h l w = absurd (omega arith)
ranks_ascend (a ∷ border) (suc i) (suc j) x h l w = ranks_ascend border i j x (tail_ascends a border h) (omega arith) (omega arith)

-- so the place of a dart is one, and a dart that comes before another has a lower place
pub place_less : (border : List BorderDart) (i j : ℕ) (x : BorderDart) → darts_ascend border ≡ true → i < length border → rank ((get_or border i x).dart) < rank ((get_or border j x).dart) → i < j
place_less border i j x h w less =
    ⊎_elim
    (λ (e : i ≡ j). let same = ap (λ (k : ℕ). rank ((get_or border k x).dart)) e in absurd (omega arith))
    (λ (k : (i < j) ⊎ (j < i)).
    ⊎_elim (λ (l : i < j). l) (λ (l : j < i). let more = ranks_ascend border j i x h l w in absurd (omega arith)) k)
    (cases_order i j)

pub place_same : (border : List BorderDart) (i j : ℕ) (x : BorderDart) → darts_ascend border ≡ true → i < length border → j < length border → (get_or border i x).dart ≡ (get_or border j x).dart → i ≡ j
place_same border i j x h v w e =
    let same = ap rank e in
    ⊎_elim
    (λ (k : i ≡ j). k)
    (λ (k : (i < j) ⊎ (j < i)).
    ⊎_elim
    (λ (l : i < j). let more = ranks_ascend border i j x h l w in absurd (omega arith))
    (λ (l : j < i). let more = ranks_ascend border j i x h l v in absurd (omega arith))
    k)
    (cases_order i j)

-- the dart at a place is followed by the next dart of that place
pub next_at : (border : List BorderDart) (i : ℕ) (x : BorderDart) → darts_ascend border ≡ true → i < length border → next_dart border ((get_or border i x).dart) ≡ (get_or border i x).next
next_at [] i x h w = absurd (omega arith)
next_at (b ∷ border) zero x h w = rw (same_self b.dart) refl
next_at (b ∷ border) (suc i) x h w =
    let less = first_less b border i x h (omega arith) in
    let d = (get_or border i x).dart in
    let other = not_same b.dart d (λ e. let same = ap rank e in omega arith) in
    rw other (next_at border i x (tail_ascends b border h) (omega arith))

-- ---- the order by which a dart is looked up
abbrev pub searched : Dart → BorderDart → ℕ
searched d b = ordering_index (dart_order b.dart d)

order_less : (d e : Dart) → rank d < rank e → dart_order d e ≡ Less
order_less d e h = rw (before_in d e h) refl

order_more : (d e : Dart) → rank e < rank d → dart_order d e ≡ Greater
order_more d e h = rw (before_no d e (omega arith), before_in e d h) refl

order_same : (d e : Dart) → rank d ≡ rank e → dart_order d e ≡ Equal
order_same d e h = rw (before_no d e (omega arith), before_no e d (omega arith)) refl

pub order_equal : (d e : Dart) → dart_order d e ≡ Equal → d ≡ e
order_equal d e h =
    ⊎_elim
    (λ (k : rank d ≡ rank e). rank_same d e k)
    (λ (k : (rank d < rank e) ⊎ (rank e < rank d)).
    ⊎_elim
    (λ (l : rank d < rank e). absurd (apart_less (sym (order_less d e l) ∙ h)))
    (λ (l : rank e < rank d). absurd (apart_more (sym (order_more d e l) ∙ h)))
    k)
    (cases_order (rank d) (rank e))
  where
    apart_less : Less ≡ Equal → ⊥
    apart_less e = cc

    apart_more : Greater ≡ Equal → ⊥
    apart_more e = cc

pub order_self : (d : Dart) → dart_order d d ≡ Equal
order_self d = order_same d d refl

order_rises : (d a b : Dart) → rank a ≤ rank b → ordering_index (dart_order a d) ≤ ordering_index (dart_order b d)
order_rises d a b h =
    ⊎_elim
    (λ (k : rank a ≡ rank d).
    ⊎_elim
    (λ (l : rank b ≡ rank d). rw (order_same a d k, order_same b d l) (omega arith))
    (λ (l : (rank b < rank d) ⊎ (rank d < rank b)).
    ⊎_elim
    (λ (m : rank b < rank d). absurd (omega arith))
    (λ (m : rank d < rank b). rw (order_same a d k, order_more b d m) (omega arith))
    l)
    (cases_order (rank b) (rank d)))
    (λ (k : (rank a < rank d) ⊎ (rank d < rank a)).
    ⊎_elim
    (λ (l : rank a < rank d). rw (order_less a d l) (omega arith))
    (λ (l : rank d < rank a). rw (order_more a d l, order_more b d (omega arith)) (omega arith))
    k)
    (cases_order (rank a) (rank d))

pub order_ascends : (border : List BorderDart) (d : Dart) → darts_ascend border ≡ true → IsNonDecreasingBy (searched d) border
order_ascends border d h i j x l w =
    ⊎_elim
    (λ (e : i ≡ j). let same = ap (λ (k : ℕ). searched d (get_or border k x)) e in omega arith)
    (λ (k : (i < j) ⊎ (j < i)).
    ⊎_elim
    (λ (m : i < j). let less = ranks_ascend border i j x h m w in order_rises d ((get_or border i x).dart) ((get_or border j x).dart) (omega arith))
    (λ (m : j < i). absurd (omega arith))
    k)
    (cases_order i j)
