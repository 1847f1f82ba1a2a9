-- What a binary search for a dart answers.
use Rattle.std.proofs.Common.{◌≡◌, ℕ, ◌<◌, ◌≤◌, refl, sym, ◌∙◌, ap, subst, arith, ⊎_elim, true, List, length, get_or, Result, Ok, Err, Option, Some, None}
use Rattle.std.specs.Prelude.{Contains, IfSome, IsNone, IsSome}
use Rattle.std.specs.List.{HoldsAt}
use Rattle.std.specs.List.Sorted.{IsBinarySearchResult, IsSearchInRange}
use Rattle.std.specs.Result.{result_ok}
use Rattle.std.specs.declared.cmp.Ordering.{Ordering}
use Rattle.std.specs.declared.cmp.Ordering.TheVariants.{Less, Equal, Greater}
use Rattle.std.proofs.lemmas.Bool.{cases_lt}
use Rattle.topo_base.specs.declared.ids.Dart.{Dart}
use Rattle.drawing.proofs.Members.{contains-mapped}
use Rattle.face_rings.specs.declared.content.BorderDart.{BorderDart}
use Rattle.face_rings.specs.Border.{dart_order, darts_ascend, darts_of, next_dart}
use Rattle.face_rings.proofs.Ranks.{order_equal, order_self, order_ascends, next_at}

abbrev pub order_to : Dart → BorderDart → Ordering
order_to d b = dart_order b.dart d

pub found_within : (n : ℕ) (r : Result ℕ ℕ) → IsSearchInRange r n → IfSome (result_ok r) (λ i. i < n)
found_within n (Ok i) h = h
found_within n (Err i) h = tt

pub found_there : (border : List BorderDart) (d : Dart) (r : Result ℕ ℕ) → IsBinarySearchResult (order_to d) border r → IfSome (result_ok r) (HoldsAt (λ (b : BorderDart). b.dart ≡ d) border)
found_there border d (Ok i) h = λ x. order_equal ((get_or border i x).dart) d (h x)
found_there border d (Err i) h = tt

pub found_none : (border : List BorderDart) (d : Dart) (r : Result ℕ ℕ) → darts_ascend border ≡ true → IsBinarySearchResult (order_to d) border r → IsNone (result_ok r) → Contains (darts_of border) d → ⊥
found_none border d (Ok i) up h none c = absurd (no none)
  where
    no : IsNone (Some i) → ⊥
    no e = cc
found_none border d (Err i) up h none c =
    let one = contains-mapped (λ (b : BorderDart). b.dart) d border c in
    let b = one.0 in
    let k = one.1.0.0 in
    let there = one.1.0.1 in
    let is : get_or border k b ≡ b = one.1.0.2 in
    let parts = h (order_ascends border d up) in
    let same : dart_order ((get_or border k b).dart) d ≡ Equal = subst (λ (x : BorderDart). dart_order x.dart d ≡ Equal) (sym is) (subst (λ (e : Dart). dart_order e d ≡ Equal) (sym (one.1.1)) (order_self d)) in
    ⊎_elim
    (λ (l : k < i). less_apart (sym (parts.0 k b (omega arith) l) ∙ same))
    (λ (l : i ≤ k). more_apart (sym (parts.1 k b l there) ∙ same))
    (cases_lt k i)
  where
    less_apart : Less ≡ Equal → ⊥
    less_apart e = cc

    more_apart : Greater ≡ Equal → ⊥
    more_apart e = cc

-- what is read at the place of a dart is its next dart
pub next_read : (border : List BorderDart) (d : Dart) (i : ℕ) (b : BorderDart) → darts_ascend border ≡ true → i < length border → HoldsAt (λ (c : BorderDart). c.dart ≡ d) border i → b ≡ get_or border i b → b.next ≡ next_dart border d
next_read border d i b up w there is =
    ap (λ (c : BorderDart). c.next) is ∙ sym (next_at border i b up w) ∙ ap (next_dart border) (there b)

pub is_there : (o : Option ℕ) → (IsNone o → ⊥) → IsSome o
is_there None none = absurd (none refl)
is_there (Some i) none = refl
