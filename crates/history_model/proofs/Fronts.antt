-- What stands at the front of some bytes is known from the bytes.
use Rattle.std.proofs.Common.{◌≡◌, ℕ, ◌-◌, ◌<◌, ◌^◌, ℤ, pos, negsuc, Bool, true, List, [], ◌∷◌, ◌++◌, length, take, drop, flat_map, IsTrue, refl, sym, ap, ◌∙◌, arith, append_assoc, leb-true, ltb-true}
use Rattle.std.specs.List.{list_all}
use Rattle.std.specs.Int.{w32, w64, to_be_bytes, from_be_bytes, cast_unsigned}
use Rattle.std.proofs.lemmas.Nat.{from_be_bytes-to_be_bytes_4, from_be_bytes-to_be_bytes_8}
use Rattle.std.proofs.lemmas.Bool.{and_parts}
use Rattle.topo_base.specs.Point.{Point}
use Rattle.topo_base.specs.declared.edit.Pair.{Pair}
use Rattle.drawing.specs.InRange.{is_id, is_coordinate, is_grid_point, is_pair}
use Rattle.history_model.specs.Spelling.{number_bytes, coordinate_bytes, point_bytes, pair_bytes}

-- a number of 32 bits, and one of 64
pub number_front : (n m : ℕ) (a b : List ℕ) → IsTrue (is_id n) → IsTrue (is_id m) → number_bytes n ++ a ≡ number_bytes m ++ b → (n ≡ m) × (a ≡ b)
number_front n m a b p q e =
    let same : number_bytes n ≡ number_bytes m = ap (take 4) e in
    (sym (from_be_bytes-to_be_bytes_4 n (ltb-true _ _ p)) ∙ ap (from_be_bytes w32) same ∙ from_be_bytes-to_be_bytes_4 m (ltb-true _ _ q), ap (drop 4) e)

wide_front : (n m : ℕ) (a b : List ℕ) → n < 2 ^ 64 → m < 2 ^ 64 → to_be_bytes w64 n ++ a ≡ to_be_bytes w64 m ++ b → (n ≡ m) × (a ≡ b)
wide_front n m a b p q e =
    let same : to_be_bytes w64 n ≡ to_be_bytes w64 m = ap (take 8) e in
    (sym (from_be_bytes-to_be_bytes_8 n p) ∙ ap (from_be_bytes w64) same ∙ from_be_bytes-to_be_bytes_8 m q, ap (drop 8) e)

-- a coordinate in range
pub wide_number : (z : ℤ) → IsTrue (is_coordinate z) → cast_unsigned w64 z < 2 ^ 64
wide_number (pos n) p = let h = leb-true n (2 ^ 40) p in omega arith
wide_number (negsuc n) p = omega arith

one_coordinate : (z w : ℤ) → IsTrue (is_coordinate z) → IsTrue (is_coordinate w) → cast_unsigned w64 z ≡ cast_unsigned w64 w → z ≡ w
one_coordinate (pos n) (pos m) p q e = ap pos e
one_coordinate (pos n) (negsuc m) p q e =
    let h = leb-true n (2 ^ 40) p in
    let k = leb-true m (2 ^ 40 - 1) (and_parts _ true q).0 in
    absurd (omega arith)
one_coordinate (negsuc n) (pos m) p q e =
    let h = leb-true m (2 ^ 40) q in
    let k = leb-true n (2 ^ 40 - 1) (and_parts _ true p).0 in
    absurd (omega arith)
one_coordinate (negsuc n) (negsuc m) p q e =
    let h = leb-true n (2 ^ 40 - 1) (and_parts _ true p).0 in
    let k = leb-true m (2 ^ 40 - 1) (and_parts _ true q).0 in
    let same : n ≡ m = omega arith in
    ap negsuc same

pub coordinate_front : (z w : ℤ) (a b : List ℕ) → IsTrue (is_coordinate z) → IsTrue (is_coordinate w) → coordinate_bytes z ++ a ≡ coordinate_bytes w ++ b → (z ≡ w) × (a ≡ b)
coordinate_front z w a b p q e =
    let parts = wide_front (cast_unsigned w64 z) (cast_unsigned w64 w) a b (wide_number z p) (wide_number w q) e in
    (one_coordinate z w p q parts.0, parts.1)

pub point_front : (p q : Point) (a b : List ℕ) → IsTrue (is_grid_point p) → IsTrue (is_grid_point q) → point_bytes p ++ a ≡ point_bytes q ++ b → (p ≡ q) × (a ≡ b)
point_front p q a b h k e =
    let hp = and_parts (is_coordinate p.x) (is_coordinate p.y) h in
    let hq = and_parts (is_coordinate q.x) (is_coordinate q.y) k in
    let first = coordinate_front p.x q.x (coordinate_bytes p.y ++ a) (coordinate_bytes q.y ++ b) hp.0 hq.0 e in
    let second = coordinate_front p.y q.y a b hp.1 hq.1 first.1 in
    (λ i. record { x = first.0 i; y = second.0 i }, second.1)

pub pair_front : (x y : Pair) (a b : List ℕ) → IsTrue (is_pair x) → IsTrue (is_pair y) → pair_bytes x ++ a ≡ pair_bytes y ++ b → (x ≡ y) × (a ≡ b)
pair_front x y a b h k e =
    let hx = and_parts (is_id x.id) (is_id x.element_type) h in
    let hy = and_parts (is_id y.id) (is_id y.element_type) k in
    let first = number_front x.id y.id (number_bytes x.element_type ++ a) (number_bytes y.element_type ++ b) hx.0 hy.0 e in
    let second = number_front x.element_type y.element_type a b hx.1 hy.1 first.1 in
    (λ i. record { id = first.0 i; element_type = second.0 i }, second.1)

-- lists of one length
pub list_front : {A : Type 0} (f : A → List ℕ) (p : A → Bool) → ((x y : A) (a b : List ℕ) → IsTrue (p x) → IsTrue (p y) → f x ++ a ≡ f y ++ b → (x ≡ y) × (a ≡ b))
    → (xs ys : List A) (a b : List ℕ) → IsTrue (list_all p xs) → IsTrue (list_all p ys) → length xs ≡ length ys → flat_map f xs ++ a ≡ flat_map f ys ++ b → (xs ≡ ys) × (a ≡ b)
list_front f p front [] [] a b h k l e = (refl, e)
list_front f p front [] (y ∷ ys) a b h k l e = absurd (omega arith)
list_front f p front (x ∷ xs) [] a b h k l e = absurd (omega arith)
list_front f p front (x ∷ xs) (y ∷ ys) a b h k l e =
    let hx = and_parts (p x) (list_all p xs) h in
    let hy = and_parts (p y) (list_all p ys) k in
    let e' = sym (append_assoc (f x) (flat_map f xs) a) ∙ e ∙ append_assoc (f y) (flat_map f ys) b in
    let first = front x y (flat_map f xs ++ a) (flat_map f ys ++ b) hx.0 hy.0 e' in
    let rest = list_front f p front xs ys a b hx.1 hy.1 (omega arith) first.1 in
    (λ i. first.0 i ∷ rest.0 i, rest.1)
