-- The order of relation rows.
use Rattle.std.proofs.Common.{◌≡◌, ◌∙◌, ℕ, Bool, true, false, arith, ◌&&◌, ◌||◌, ◌==◌, nat_lt, refl, sym, subst}
use Rattle.std.proofs.lemmas.Bool.Decides.{nat_tests}
use Rattle.topo_base.specs.declared.rows.RelationRow.{RelationRow}
use Rattle.drawing.specs.Relations.{row_before, same_row}

pub before_not_same : (a b : RelationRow) → row_before a b ≡ true → same_row a b ≡ false
before_not_same a b h = grind (arith, nat_tests)

pub before_not_after : (a b : RelationRow) → row_before a b ≡ true → row_before b a ≡ false
before_not_after a b h = grind (arith, nat_tests)

pub same_not_before : (a b : RelationRow) → same_row a b ≡ true → row_before a b ≡ false
same_not_before a b h = grind (arith, nat_tests)

pub same_turned : (a b : RelationRow) → same_row a b ≡ same_row b a
same_turned a b = grind (arith, nat_tests)

pub same_itself : (a : RelationRow) → same_row a a ≡ true
same_itself a = grind (arith, nat_tests)

-- by one number, and then by a test
lex_trans : (a b c : ℕ) (p q r : Bool) → (p ≡ true → q ≡ true → r ≡ true) → (nat_lt a b || a == b && p) ≡ true → (nat_lt b c || b == c && q) ≡ true → (nat_lt a c || a == c && r) ≡ true
lex_trans a b c true true r f h k = let e = f refl refl in subst (λ x. (nat_lt a c || a == c && x) ≡ true) (sym e) (grind (arith, nat_tests))
lex_trans a b c false q r f h k = grind (arith, nat_tests)
lex_trans a b c true false r f h k = grind (arith, nat_tests)

lt_trans : (a b c : ℕ) → nat_lt a b ≡ true → nat_lt b c ≡ true → nat_lt a c ≡ true
lt_trans a b c h k = grind (arith, nat_tests)

parted : (l e m g n : Bool) → (l || e && m || e && g && n) ≡ (l || e && (m || g && n))
parted true e m g n = refl
parted false true m g n = refl
parted false false m g n = refl

before_is : (a b : RelationRow) → row_before a b ≡ (nat_lt a.topogeo_id b.topogeo_id || a.topogeo_id == b.topogeo_id && (nat_lt a.element_type b.element_type || a.element_type == b.element_type && nat_lt a.element_id b.element_id))
before_is a b = parted (nat_lt a.topogeo_id b.topogeo_id) (a.topogeo_id == b.topogeo_id) (nat_lt a.element_type b.element_type) (a.element_type == b.element_type) (nat_lt a.element_id b.element_id)

pub before_trans : (a b c : RelationRow) → row_before a b ≡ true → row_before b c ≡ true → row_before a c ≡ true
before_trans a b c h k =
    before_is a c
    ∙ lex_trans a.topogeo_id b.topogeo_id c.topogeo_id _ _ _
    (lex_trans a.element_type b.element_type c.element_type _ _ _ (lt_trans a.element_id b.element_id c.element_id))
    (sym (before_is a b) ∙ h) (sym (before_is b c) ∙ k)

pub same_before : (a b c : RelationRow) → same_row a b ≡ true → row_before a c ≡ row_before b c
same_before a b c h = grind (arith, nat_tests)

pub before_same : (a b c : RelationRow) → same_row a b ≡ true → row_before c a ≡ row_before c b
before_same a b c h = grind (arith, nat_tests)

pub same_same : (a b c : RelationRow) → same_row a b ≡ true → same_row c a ≡ same_row c b
same_same a b c h = grind (arith, nat_tests)

pub after_else : (a b : RelationRow) → row_before a b ≡ false → same_row a b ≡ false → row_before b a ≡ true
after_else a b h k = grind (arith, nat_tests)

pub same_element : (a b : RelationRow) → same_row a b ≡ true → a.element_id ≡ b.element_id
same_element a b h = grind (arith, nat_tests)

pub same_topogeo : (a b : RelationRow) → same_row a b ≡ true → a.topogeo_id ≡ b.topogeo_id
same_topogeo a b h = grind (arith, nat_tests)

pub same_type : (a b : RelationRow) → same_row a b ≡ true → a.element_type ≡ b.element_type
same_type a b h = grind (arith, nat_tests)
