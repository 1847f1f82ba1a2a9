-- In which columns and rows a box is kept that meets an area.
use Rattle.std.proofs.Common.{◌≡◌, ℕ, ◌+◌, ◌-◌, ◌*◌, ◌/◌, ◌<◌, ◌≤◌, ◌^◌, ℤ, pos, negsuc, ◌+ℤ◌, ◌≤ℤ◌, true, sym, refl, arith, subst, pow_pos, div-lt_iff_lt-mul, le-div_iff_mul-le, div-mul-le_self, div-le_self}
use Rattle.std.specs.Prelude.{int_le}
use Rattle.std.proofs.lemmas.Int.{ints}
use Rattle.std.proofs.lemmas.Bool.{and_parts}
use Rattle.topo_base.specs.Point.{IsCoordinate}
use Rattle.topo_base.specs.declared.rows.Box4.{Box4}
use Rattle.box_index.specs.Boxes.{IsBox, meets, spans_meet}
use Rattle.box_index.specs.Cells.{at_least_zero, first_cell, last_cell, level_of, longer_side, shifted}
use Rattle.box_index.proofs.Levels.{side_fits, level_small}

le_from_test : (x y : ℤ) → int_le x y ≡ true → x ≤ℤ y
le_from_test x y e = omega (arith, ints)

unsigned_is : (z : ℤ) → pos 0 ≤ℤ z → pos (at_least_zero z) ≡ z
unsigned_is (pos n) h = refl
unsigned_is (negsuc n) h = absurd (omega (arith, ints))

pub shifted_is : (z : ℤ) → IsCoordinate z → pos (shifted z) ≡ z +ℤ pos (2 ^ 40)
shifted_is z h = unsigned_is (z +ℤ pos (2 ^ 40)) (omega (arith, ints, h.low))

pub shifted_small : (z : ℤ) → IsCoordinate z → shifted z ≤ 2 ^ 41
shifted_small z h = omega (arith, ints, shifted_is z h, h.high)

pub shifted_le : (y z : ℤ) → IsCoordinate y → IsCoordinate z → y ≤ℤ z → shifted y ≤ shifted z
shifted_le y z hy hz le = omega (arith, ints, shifted_is y hy, shifted_is z hz, le)

div_le : (a b n : ℕ) → 0 < n → a ≤ b → a / n ≤ b / n
div_le a b n p le = (le-div_iff_mul-le p).1 (omega (arith, div-mul-le_self a n))

-- a box that is no longer than a cell reaches at most into the next
reaches : (low high other n : ℕ) → 0 < n → high ≤ low + n → other ≤ high → other / n - 1 ≤ low / n
reaches low high other n p short le =
    let below : low < (low / n + 1) * n = (div-lt_iff_lt-mul p).0 (omega arith) in
    let far : high < (low / n + 2) * n = omega (arith, below) in
    let next : high / n < low / n + 2 = (div-lt_iff_lt-mul p).1 far in
    omega (arith, next, div_le other high n p le)

module _ (low high from to : ℤ) (k : ℕ) (hl : IsCoordinate low) (hh : IsCoordinate high) (hf : IsCoordinate from) (ht : IsCoordinate to)
    (short : shifted high ≤ shifted low + 2 ^ k) (meet : spans_meet low high from to ≡ true) where
  is_from : first_cell from k ≤ shifted low / 2 ^ k
  unfolding spans_meet
  is_from = reaches (shifted low) (shifted high) (shifted from) (2 ^ k) (pow_pos k) short
      (shifted_le from high hf hh (le_from_test from high (and_parts (int_le low to) (int_le from high) meet).1))

  is_to : shifted low / 2 ^ k ≤ last_cell to k
  unfolding spans_meet
  is_to = div_le (shifted low) (shifted to) (2 ^ k) (pow_pos k)
      (shifted_le low to hl ht (le_from_test low to (and_parts (int_le low to) (int_le from high) meet).0))

-- where a box is kept, at its level
abbrev pub column_of : Box4 → ℕ
column_of b = shifted b.min_x / 2 ^ level_of b

abbrev pub row_of : Box4 → ℕ
row_of b = shifted b.min_y / 2 ^ level_of b

pub record IsReached (b area : Box4) (k : ℕ) : Type 0 where
  pub first_column : first_cell area.min_x k ≤ column_of b
  pub last_column : column_of b ≤ last_cell area.max_x k
  pub first_row : first_cell area.min_y k ≤ row_of b
  pub last_row : row_of b ≤ last_cell area.max_y k

longest : (b : Box4) → IsBox b → longer_side b ≤ 2 ^ 41
longest b h = omega (arith, shifted_small b.max_x h.max_x, shifted_small b.max_y h.max_y)

pub reached : (b area : Box4) → IsBox b → IsBox area → meets b area ≡ true → (k : ℕ) → k ≡ level_of b → IsReached b area k
reached b area h g meet k same =
    let fits = side_fits (longer_side b) (longest b h) in
    let both = and_parts (spans_meet b.min_x b.max_x area.min_x area.max_x) (spans_meet b.min_y b.max_y area.min_y area.max_y) meet in
    let wide : shifted b.max_x ≤ shifted b.min_x + 2 ^ level_of b = omega (arith, fits) in
    let high : shifted b.max_y ≤ shifted b.min_y + 2 ^ level_of b = omega (arith, fits) in
    let P : ℕ → Type 0 = IsReached b area in
    subst P (sym same) (record {
      first_column = is_from b.min_x b.max_x area.min_x area.max_x (level_of b) h.min_x h.max_x g.min_x g.max_x wide both.0;
      last_column = is_to b.min_x b.max_x area.min_x area.max_x (level_of b) h.min_x h.max_x g.min_x g.max_x wide both.0;
      first_row = is_from b.min_y b.max_y area.min_y area.max_y (level_of b) h.min_y h.max_y g.min_y g.max_y high both.1;
      last_row = is_to b.min_y b.max_y area.min_y area.max_y (level_of b) h.min_y h.max_y g.min_y g.max_y high both.1;
    })

pub column_small : (b : Box4) → IsBox b → column_of b < 2 ^ 42
column_small b h = omega (arith, shifted_small b.min_x h.min_x, div-le_self (shifted b.min_x) (2 ^ level_of b))

pub row_small : (b : Box4) → IsBox b → row_of b < 2 ^ 42
row_small b h = omega (arith, shifted_small b.min_y h.min_y, div-le_self (shifted b.min_y) (2 ^ level_of b))

pub level_below : (b : Box4) → IsBox b → level_of b < 42
level_below b h = level_small (longer_side b - 1) (omega (arith, longest b h))
