-- Lists of entries, of lines and of views.
use Rattle.std.proofs.Common.{◌≡◌, ◌≢◌, ℕ, zero, suc, ◌+◌, ◌*◌, ◌/◌, ◌%◌, ◌≤◌, Bool, true, false, List, [], ◌∷◌, ◌++◌, length, map, set, refl, sym, ap, ◌∙◌, subst, arith, append_assoc, eq-eqb, ne_eqb}
use Rattle.std.proofs.lemmas.List.{append-nil}
use Rattle.std.proofs.Math.Nat.{add-mul-mod_self_right, mod-add-div'}
use Rattle.commit_lock.specs.declared.view.Line.{Line}
use Rattle.commit_lock.specs.Passes.{PassValue, pass_line}
use Rattle.std.specs.Prelude.{All, Any, nat_lt, if◌then◌else◌, ◌==◌}
use Rattle.std.proofs.lemmas.Bool.Decides.{nat_tests}
use Rattle.std.specs.List.{AllByRecursion as Each}
use mathlib.Core.Option.{some, some-injective, some-ne-none}
use mathlib.Core.Logic.{dite}
use native.Mathlib.Decide.{dec_lt}
use lib.ListN.{get_elem?}
use Rattle.topo_base.specs.declared.edit.Entry.{Entry}
use Rattle.commit_lock.specs.declared.view.View.{View}
use Rattle.commit_lock.specs.History.{IsPrefix, longer, own_entries}
use Rattle.commit_lock.specs.TableRule.{total}

pub prefix_refl : (xs : List Entry) → IsPrefix xs xs
prefix_refl xs = ([], append-nil xs)

pub prefix_more : (xs ys zs : List Entry) → IsPrefix xs ys → IsPrefix xs (ys ++ zs)
prefix_more xs ys zs p = (p.0 ++ zs, sym (append_assoc xs p.0 zs) ∙ ap (λ (l : List Entry). l ++ zs) p.1)

-- of two beginnings of one list the shorter begins the other
pub prefix_shorter : (xs ys zs : List Entry) → IsPrefix xs zs → IsPrefix ys zs → length xs ≤ length ys → IsPrefix xs ys
prefix_shorter [] ys zs p q l = (ys, refl)
prefix_shorter (x ∷ xs) [] zs p q l = absurd (omega arith)
prefix_shorter (x ∷ xs) (y ∷ ys) [] p q l = absurd (let e = p.1 in cc)
prefix_shorter (x ∷ xs) (y ∷ ys) (z ∷ zs) p q l =
    let e = p.1 in let f = q.1 in
    let tail : xs ++ p.0 ≡ zs = cc in
    let tail' : ys ++ q.0 ≡ zs = cc in
    let head : x ≡ y = cc in
    let r = prefix_shorter xs ys zs (p.0, tail) (q.0, tail') (omega arith) in
    (r.0, let e' = r.1 in cc)

pub longer_begins : (xs ys zs : List Entry) → IsPrefix xs zs → IsPrefix ys zs → IsPrefix xs (longer xs ys) × IsPrefix ys (longer xs ys) × IsPrefix (longer xs ys) zs
longer_begins xs ys zs p q = dite (dec_lt (length xs) (length ys))
    (λ l. let is : nat_lt (length xs) (length ys) ≡ true = grind (arith, nat_tests) in subst by_test (sym is) (prefix_shorter xs ys zs p q (omega arith), prefix_refl ys, q))
    (λ l. let is : nat_lt (length xs) (length ys) ≡ false = grind (arith, nat_tests) in subst by_test (sym is) (prefix_refl xs, prefix_shorter ys xs zs q p (omega arith), p))
  where
    by_test : Bool → Type 0
    by_test b = IsPrefix xs (if b then ys else xs) × IsPrefix ys (if b then ys else xs) × IsPrefix (if b then ys else xs) zs

-- an entry more
pub own_entries-snoc : (k at : ℕ) (es : List Entry) (e : Entry) → e.editor ≡ k → own_entries k at (es ++ e ∷ []) ≡ own_entries k at es ++ (at + length es, e) ∷ []
own_entries-snoc k at [] e is =
    rw (eq-eqb e.editor k is) (ap (λ (i : ℕ). (i, e) ∷ []) (let z : at ≡ at + 0 = omega arith in z))
own_entries-snoc k at (x ∷ xs) e is =
    let rest = own_entries-snoc k (at + 1) xs e is ∙ ap (λ (i : ℕ). own_entries k (at + 1) xs ++ (i, e) ∷ []) (let z : at + 1 + length xs ≡ at + suc (length xs) = omega arith in z) in
    elim (x.editor == k) as (λ b. (if b then (at, x) ∷ own_entries k (at + 1) (xs ++ e ∷ []) else own_entries k (at + 1) (xs ++ e ∷ [])) ≡ (if b then (at, x) ∷ own_entries k (at + 1) xs else own_entries k (at + 1) xs) ++ (at + suc (length xs), e) ∷ [])
    [ true ↦ ap (λ (l : List (ℕ × Entry)). (at, x) ∷ l) rest | false ↦ rest ]

pub own_entries-other : (k at : ℕ) (es : List Entry) (e : Entry) → e.editor ≢ k → own_entries k at (es ++ e ∷ []) ≡ own_entries k at es
own_entries-other k at [] e other = rw (ne_eqb e.editor k other) refl
own_entries-other k at (x ∷ xs) e other =
    let rest = own_entries-other k (at + 1) xs e other in
    elim (x.editor == k) as (λ b. (if b then (at, x) ∷ own_entries k (at + 1) (xs ++ e ∷ []) else own_entries k (at + 1) (xs ++ e ∷ [])) ≡ (if b then (at, x) ∷ own_entries k (at + 1) xs else own_entries k (at + 1) xs))
    [ true ↦ ap (λ (l : List (ℕ × Entry)). (at, x) ∷ l) rest | false ↦ rest ]

pub next_mod : (a n : ℕ) → (a % n + 1) % n ≡ (a + 1) % n
next_mod a n = let e : a % n + 1 + a / n * n ≡ a + 1 = omega (arith, mod-add-div' a n) in sym (add-mul-mod_self_right (a % n + 1) (a / n) n) ∙ ap (λ (x : ℕ). x % n) e

pub total-set : (f : View → ℕ) (vs : List View) (i : ℕ) (v w : View) → get_elem? vs i ≡ some v → total f (set vs i w) + f v ≡ total f vs + f w
total-set f [] i v w e = absurd (some-ne-none v (sym e))
total-set f (x ∷ xs) zero v w e = let same : f x ≡ f v = ap f (some-injective x v e) in omega arith
total-set f (x ∷ xs) (suc i) v w e = omega (arith, total-set f xs i v w e)

pub total-snoc : (f : View → ℕ) (vs : List View) (w : View) → total f (vs ++ w ∷ []) ≡ total f vs + f w
total-snoc f [] w = omega arith
total-snoc f (x ∷ xs) w = omega (arith, total-snoc f xs w)

pub total-le : (f g : View → ℕ) (vs : List View) → ((j : ℕ) (v : View) → get_elem? vs j ≡ some v → f v ≤ g v) → total f vs ≤ total g vs
total-le f g [] h = omega arith
total-le f g (x ∷ xs) h = omega (arith, h 0 x refl, total-le f g xs (λ j v. h (suc j) v))

pub total-zero : (f : View → ℕ) (vs : List View) → ((j : ℕ) (v : View) → get_elem? vs j ≡ some v → f v ≤ 0) → total f vs ≤ 0
total-zero f [] h = omega arith
total-zero f (x ∷ xs) h = omega (arith, h 0 x refl, total-zero f xs (λ j v. h (suc j) v))

module _ {A : Type 0} where
  pub all_any : (P Q : A → Type 0) (xs : List A) → All P xs → Any Q xs → (x : A) × P x × Q x
  all_any P Q xs all any = (any.1, subst P any.3 (all any.0 any.1 any.2), any.4)

  pub each_middle : (P : A → Type 0) (xs : List A) (x : A) (ys : List A) → Each P (xs ++ x ∷ ys) → P x
  each_middle P [] x ys h = h.0
  each_middle P (z ∷ xs) x ys h = each_middle P xs x ys h.1

  pub each_map : (P Q : A → Type 0) (xs : List A) → ((x : A) → P x → Q x) → Each P xs → Each Q xs
  each_map P Q [] h e = tt
  each_map P Q (x ∷ xs) h e = (h x e.0, each_map P Q xs h e.1)

  pub each_append : (P : A → Type 0) (xs ys : List A) → Each P xs → Each P ys → Each P (xs ++ ys)
  each_append P [] ys h k = k
  each_append P (x ∷ xs) ys h k = (h.0, each_append P xs ys h.1 k)

pub each_unmap : (P : Line → Type 0) (xs : List PassValue) → Each P (map pass_line xs) → Each (λ x. P (pass_line x)) xs
each_unmap P [] h = tt
each_unmap P (x ∷ xs) h = (h.0, each_unmap P xs h.1)
