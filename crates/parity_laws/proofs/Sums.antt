-- Sums modulo 2 over lists.
use Rattle.std.proofs.Common.{◌≡◌, refl, sym, ◌∙◌, ap, Bool, true, false, List, [], ◌∷◌, ◌++◌}
use Rattle.plane.specs.Parity.{xor}
use Rattle.parity_laws.specs.Steps.{odd, Each}

pub xor_comm : (a b : Bool) → xor a b ≡ xor b a
xor_comm true true = refl
xor_comm true false = refl
xor_comm false true = refl
xor_comm false false = refl

pub xor_assoc : (a b c : Bool) → xor (xor a b) c ≡ xor a (xor b c)
xor_assoc true true true = refl
xor_assoc true true false = refl
xor_assoc true false c = refl
xor_assoc false b c = refl

pub xor_none : (a : Bool) → xor a false ≡ a
xor_none true = refl
xor_none false = refl

pub xor_self : (a : Bool) → xor a a ≡ false
xor_self true = refl
xor_self false = refl

pub xor_left : (a b c : Bool) → xor a (xor b c) ≡ xor b (xor a c)
xor_left a b c = sym (xor_assoc a b c) ∙ ap (λ z. xor z c) (xor_comm a b) ∙ xor_assoc b a c

pub xor_pair : (a b : Bool) → xor a (xor a b) ≡ b
xor_pair true true = refl
xor_pair true false = refl
xor_pair false b = refl

-- sorts a sum, and lets pairs go
pub ruleset summing = (xor_pair, xor_self, xor_none, xor_assoc, xor_comm, xor_left)

pub equal : (a b : Bool) → xor a b ≡ false → a ≡ b
equal true true e = refl
equal true false e = cc
equal false true e = cc
equal false false e = refl

pub xor_four : (a b c d : Bool) → xor (xor a b) (xor c d) ≡ xor (xor a c) (xor b d)
xor_four a b c d = simp summing

pub xor_between : (a b c : Bool) → xor (xor a b) (xor b c) ≡ xor a c
xor_between a b c = simp summing

pub xor_yes_no : (a b : Bool) → a ≡ true → b ≡ false → xor a b ≡ true
xor_yes_no a b e f = rw (e, f)

pub xor_no_yes : (a b : Bool) → a ≡ false → b ≡ true → xor a b ≡ true
xor_no_yes a b e f = rw (e, f)

pub xor_neither : (a b : Bool) → (a ≡ true → ⊥) → (b ≡ true → ⊥) → xor a b ≡ false
xor_neither true b f g = absurd (f refl)
xor_neither false true f g = absurd (g refl)
xor_neither false false f g = refl

pub odd_both : {A : Type 0} (f g : A → Bool) (xs : List A) → odd (λ x. xor (f x) (g x)) xs ≡ xor (odd f xs) (odd g xs)
odd_both f g [] = refl
odd_both f g (x ∷ xs) = ap (xor (xor (f x) (g x))) (odd_both f g xs) ∙ xor_four (f x) (g x) (odd f xs) (odd g xs)

pub odd_each : {A : Type 0} (f g : A → Bool) (xs : List A) → Each (λ x. f x ≡ g x) xs → odd f xs ≡ odd g xs
odd_each f g [] e = refl
odd_each f g (x ∷ xs) e = cc (e.0, odd_each f g xs e.1)

pub odd_append : {A : Type 0} (f : A → Bool) (xs ys : List A) → odd f (xs ++ ys) ≡ xor (odd f xs) (odd f ys)
odd_append f [] ys = refl
odd_append f (x ∷ xs) ys = ap (xor (f x)) (odd_append f xs ys) ∙ sym (xor_assoc (f x) (odd f xs) (odd f ys))

pub each_map : {A : Type 0} (P Q : A → Type 0) → ((x : A) → P x → Q x) → (xs : List A) → Each P xs → Each Q xs
each_map P Q f [] h = tt
each_map P Q f (x ∷ xs) h = (f x h.0, each_map P Q f xs h.1)

pub odd_none : {A : Type 0} (f : A → Bool) (xs : List A) → Each (λ x. f x ≡ false) xs → odd f xs ≡ false
odd_none f [] e = refl
odd_none f (x ∷ xs) e = cc (e.0, odd_none f xs e.1)
