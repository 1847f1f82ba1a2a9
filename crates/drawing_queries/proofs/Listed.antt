-- What is listed of rows, where it is sought among those alone of which something is listed.
use Rattle.std.proofs.Common.{◌≡◌, Bool, true, false, List, [], ◌∷◌, ◌++◌, cond, filter, refl, sym, ap, ◌∙◌}
use Rattle.std.specs.List.{flat_map}

step : {A B : Type 0} (f : A → List B) (x : A) (sought rows : List A) (b : Bool) → (b ≡ false → f x ≡ []) → flat_map f sought ≡ flat_map f rows → flat_map f (cond b (x ∷ sought) sought) ≡ f x ++ flat_map f rows
step f x sought rows true none rest = ap (λ ys. f x ++ ys) rest
step f x sought rows false none rest = rest ∙ ap (λ ys. ys ++ flat_map f rows) (sym (none refl))

pub listed : {A B : Type 0} (f : A → List B) (p : A → Bool) (rows : List A) → ((x : A) → p x ≡ false → f x ≡ []) → flat_map f (filter p rows) ≡ flat_map f rows
listed f p [] none = refl
listed f p (x ∷ rows) none = step f x (filter p rows) rows (p x) (none x) (listed f p rows none)
