-- Rows put in their order, and dropped.
use Rattle.std.proofs.Common.{◌≡◌, ◌∙◌, Bool, true, false, not, cond, List, [], ◌∷◌, ◌++◌, filter, refl, sym, ap, subst}
use Rattle.std.proofs.lemmas.Bool.{and_parts}
use Rattle.topo_base.specs.declared.rows.RelationRow.{RelationRow}
use Rattle.drawing.specs.Relations.{row_before, same_row, insert_row, ordered}
use Rattle.drawing.specs.Subdivision.{rows_ascend}
use Rattle.relation_rows.proofs.Order.{before_not_same, before_not_after, same_not_before, before_trans, same_before, before_same, same_same, same_turned, after_else}

-- how one row stands to another
pub data Stand (a b : RelationRow) : Type 0 where
  Before : row_before a b ≡ true → Stand a b
  Same : same_row a b ≡ true → Stand a b
  After : row_before b a ≡ true → Stand a b

stand_by : (a b : RelationRow) (x y : Bool) → row_before a b ≡ x → same_row a b ≡ y → Stand a b
stand_by a b true y p q = Before p
stand_by a b false true p q = Same q
stand_by a b false false p q = After (after_else a b p q)

pub stand : (a b : RelationRow) → Stand a b
stand a b = stand_by a b (row_before a b) (same_row a b) refl refl

-- what is put at each of these
pub put_before : (a b : RelationRow) (rows : List RelationRow) → row_before a b ≡ true → insert_row a (b ∷ rows) ≡ a ∷ b ∷ rows
put_before a b rows h = ap (λ x. cond x (a ∷ b ∷ rows) (cond (same_row a b) (b ∷ rows) (b ∷ insert_row a rows))) h

put_else : (a b : RelationRow) (rows : List RelationRow) → row_before a b ≡ false → insert_row a (b ∷ rows) ≡ cond (same_row a b) (b ∷ rows) (b ∷ insert_row a rows)
put_else a b rows h = ap (λ x. cond x (a ∷ b ∷ rows) (cond (same_row a b) (b ∷ rows) (b ∷ insert_row a rows))) h

pub put_at : (a b : RelationRow) (rows : List RelationRow) → same_row a b ≡ true → insert_row a (b ∷ rows) ≡ b ∷ rows
put_at a b rows h = put_else a b rows (same_not_before a b h) ∙ ap (λ x. cond x (b ∷ rows) (b ∷ insert_row a rows)) h

pub put_after : (a b : RelationRow) (rows : List RelationRow) → row_before b a ≡ true → insert_row a (b ∷ rows) ≡ b ∷ insert_row a rows
put_after a b rows h = put_else a b rows (before_not_after b a h) ∙ ap (λ x. cond x (b ∷ rows) (b ∷ insert_row a rows)) (same_turned a b ∙ before_not_same b a h)

-- the order in which two rows are put doesn't matter
commute_at : (a b c : RelationRow) (rows : List RelationRow) → row_before a b ≡ true → insert_row a (insert_row b rows) ≡ insert_row b (insert_row a rows) → Stand a c → Stand b c
    → insert_row a (insert_row b (c ∷ rows)) ≡ insert_row b (insert_row a (c ∷ rows))
commute_at a b c rows h ih (Before p) (Before q) =
    ap (insert_row a) (put_before b c rows q) ∙ put_before a b (c ∷ rows) h
    ∙ sym (ap (insert_row b) (put_before a c rows p) ∙ put_after b a (c ∷ rows) h ∙ ap (λ rs. a ∷ rs) (put_before b c rows q))
commute_at a b c rows h ih (Before p) (Same q) =
    ap (insert_row a) (put_at b c rows q) ∙ put_before a c rows p
    ∙ sym (ap (insert_row b) (put_before a c rows p) ∙ put_after b a (c ∷ rows) h ∙ ap (λ rs. a ∷ rs) (put_at b c rows q))
commute_at a b c rows h ih (Before p) (After q) =
    ap (insert_row a) (put_after b c rows q) ∙ put_before a c (insert_row b rows) p
    ∙ sym (ap (insert_row b) (put_before a c rows p) ∙ put_after b a (c ∷ rows) h ∙ ap (λ rs. a ∷ rs) (put_after b c rows q))
commute_at a b c rows h ih (Same p) (After q) =
    ap (insert_row a) (put_after b c rows q) ∙ put_at a c (insert_row b rows) p
    ∙ sym (ap (insert_row b) (put_at a c rows p) ∙ put_after b c rows q)
commute_at a b c rows h ih (After p) (After q) =
    ap (insert_row a) (put_after b c rows q) ∙ put_after a c (insert_row b rows) p ∙ ap (λ rs. c ∷ rs) ih
    ∙ sym (ap (insert_row b) (put_after a c rows p) ∙ put_after b c (insert_row a rows) q)
commute_at a b c rows h ih (Same p) (Before q) = let k = before_not_same a c (before_trans a b c h q) in absurd cc
commute_at a b c rows h ih (Same p) (Same q) = let k = before_same b c a q in let l = same_not_before a c p in absurd cc
commute_at a b c rows h ih (After p) (Before q) = let k = before_trans b c a q p in let l = before_not_after a b h in absurd cc
commute_at a b c rows h ih (After p) (Same q) = let k = same_before b c a q in let l = before_not_after a b h in absurd cc

commute : (a b : RelationRow) (rows : List RelationRow) → row_before a b ≡ true → insert_row a (insert_row b rows) ≡ insert_row b (insert_row a rows)
commute a b [] h = put_before a b [] h ∙ sym (put_after b a [] h)
commute a b (c ∷ rows) h = commute_at a b c rows h (commute a b rows h) (stand a c) (stand b c)

commute_by : (a b : RelationRow) (rows : List RelationRow) → (same_row a b ≡ true → a ≡ b) → Stand a b → insert_row a (insert_row b rows) ≡ insert_row b (insert_row a rows)
commute_by a b rows same (Before p) = commute a b rows p
commute_by a b rows same (Same p) = subst (λ x. insert_row a (insert_row x rows) ≡ insert_row x (insert_row a rows)) (same p) refl
commute_by a b rows same (After p) = sym (commute b a rows p)

pub commutes : (a b : RelationRow) (rows : List RelationRow) → (same_row a b ≡ true → a ≡ b) → insert_row a (insert_row b rows) ≡ insert_row b (insert_row a rows)
commutes a b rows same = commute_by a b rows same (stand a b)

-- each of the rows comes after this one; each comes after those before it
abbrev pub AllAfter : RelationRow → List RelationRow → Type 0
AllAfter a [] = Unit {0}
AllAfter a (b ∷ rows) = (row_before a b ≡ true) × AllAfter a rows

abbrev pub Ascend : List RelationRow → Type 0
Ascend [] = Unit {0}
Ascend (a ∷ rows) = AllAfter a rows × Ascend rows

pub put_first : (a : RelationRow) (rows : List RelationRow) → AllAfter a rows → insert_row a rows ≡ a ∷ rows
put_first a [] h = refl
put_first a (b ∷ rows) h = put_before a b rows h.0

after_more : (a b : RelationRow) (rows : List RelationRow) → row_before a b ≡ true → AllAfter b rows → AllAfter a rows
after_more a b [] p h = tt
after_more a b (c ∷ rows) p h = (before_trans a b c p h.0, after_more a b rows p h.1)

after_put_at : (a b c : RelationRow) (rows : List RelationRow) → row_before c a ≡ true → AllAfter c (b ∷ rows) → AllAfter c (insert_row a rows) → Stand a b → AllAfter c (insert_row a (b ∷ rows))
after_put_at a b c rows p h ih (Before q) = subst (AllAfter c) (sym (put_before a b rows q)) (p, h)
after_put_at a b c rows p h ih (Same q) = subst (AllAfter c) (sym (put_at a b rows q)) h
after_put_at a b c rows p h ih (After q) = subst (AllAfter c) (sym (put_after a b rows q)) (h.0, ih)

after_put : (a c : RelationRow) (rows : List RelationRow) → row_before c a ≡ true → AllAfter c rows → AllAfter c (insert_row a rows)
after_put a c [] p h = (p, tt)
after_put a c (b ∷ rows) p h = after_put_at a b c rows p h (after_put a c rows p h.1) (stand a b)

ascend_put_at : (a b : RelationRow) (rows : List RelationRow) → Ascend (b ∷ rows) → Ascend (insert_row a rows) → Stand a b → Ascend (insert_row a (b ∷ rows))
ascend_put_at a b rows h ih (Before q) = subst Ascend (sym (put_before a b rows q)) ((q, after_more a b rows q h.0), h)
ascend_put_at a b rows h ih (Same q) = subst Ascend (sym (put_at a b rows q)) h
ascend_put_at a b rows h ih (After q) = subst Ascend (sym (put_after a b rows q)) (after_put a b rows q h.0, ih)

pub ascend_put : (a : RelationRow) (rows : List RelationRow) → Ascend rows → Ascend (insert_row a rows)
ascend_put a [] h = (tt, tt)
ascend_put a (b ∷ rows) h = ascend_put_at a b rows h (ascend_put a rows h.1) (stand a b)

-- the rows without those of one key
abbrev pub without : RelationRow → List RelationRow → List RelationRow
without a rows = filter (λ r. not (same_row a r)) rows

pub drop_same : (a b : RelationRow) (rows : List RelationRow) → same_row a b ≡ true → without a (b ∷ rows) ≡ without a rows
drop_same a b rows h = ap (λ x. cond (not x) (b ∷ without a rows) (without a rows)) h

pub drop_other : (a b : RelationRow) (rows : List RelationRow) → same_row a b ≡ false → without a (b ∷ rows) ≡ b ∷ without a rows
drop_other a b rows h = ap (λ x. cond (not x) (b ∷ without a rows) (without a rows)) h

after_drop_at : (a b c : RelationRow) (rows : List RelationRow) (x : Bool) → same_row a b ≡ x → AllAfter c (b ∷ rows) → AllAfter c (without a rows) → AllAfter c (without a (b ∷ rows))
after_drop_at a b c rows true e h ih = subst (AllAfter c) (sym (drop_same a b rows e)) ih
after_drop_at a b c rows false e h ih = subst (AllAfter c) (sym (drop_other a b rows e)) (h.0, ih)

after_drop : (a c : RelationRow) (rows : List RelationRow) → AllAfter c rows → AllAfter c (without a rows)
after_drop a c [] h = tt
after_drop a c (b ∷ rows) h = after_drop_at a b c rows (same_row a b) refl h (after_drop a c rows h.1)

ascend_drop_at : (a b : RelationRow) (rows : List RelationRow) (x : Bool) → same_row a b ≡ x → Ascend (b ∷ rows) → Ascend (without a rows) → Ascend (without a (b ∷ rows))
ascend_drop_at a b rows true e h ih = subst Ascend (sym (drop_same a b rows e)) ih
ascend_drop_at a b rows false e h ih = subst Ascend (sym (drop_other a b rows e)) (after_drop a b rows h.0, ih)

pub ascend_drop : (a : RelationRow) (rows : List RelationRow) → Ascend rows → Ascend (without a rows)
ascend_drop a [] h = tt
ascend_drop a (b ∷ rows) h = ascend_drop_at a b rows (same_row a b) refl h (ascend_drop a rows h.1)

pub drop_none : (a : RelationRow) (rows : List RelationRow) → AllAfter a rows → without a rows ≡ rows
drop_none a [] h = refl
drop_none a (b ∷ rows) h = drop_other a b rows (before_not_same a b h.0) ∙ ap (λ rs. b ∷ rs) (drop_none a rows h.1)

-- a row is dropped before or after another is put
drop_put_after : (d b c : RelationRow) (rows : List RelationRow) (x : Bool) → same_row d c ≡ x → row_before c b ≡ true → without d (insert_row b rows) ≡ insert_row b (without d rows)
    → without d (insert_row b (c ∷ rows)) ≡ insert_row b (without d (c ∷ rows))
drop_put_after d b c rows true e q ih =
    ap (without d) (put_after b c rows q) ∙ drop_same d c (insert_row b rows) e ∙ ih ∙ sym (ap (insert_row b) (drop_same d c rows e))
drop_put_after d b c rows false e q ih =
    ap (without d) (put_after b c rows q) ∙ drop_other d c (insert_row b rows) e ∙ ap (λ rs. c ∷ rs) ih
    ∙ sym (ap (insert_row b) (drop_other d c rows e) ∙ put_after b c (without d rows) q)

drop_put_at : (d b c : RelationRow) (rows : List RelationRow) → same_row d b ≡ false → Ascend (c ∷ rows) → without d (insert_row b rows) ≡ insert_row b (without d rows) → Stand b c
    → without d (insert_row b (c ∷ rows)) ≡ insert_row b (without d (c ∷ rows))
drop_put_at d b c rows n h ih (Before q) =
    ap (without d) (put_before b c rows q) ∙ drop_other d b (c ∷ rows) n
    ∙ sym (put_first b (without d (c ∷ rows)) (after_drop d b (c ∷ rows) (q, after_more b c rows q h.0)))
drop_put_at d b c rows n h ih (Same q) =
    let m : same_row d c ≡ false = sym (same_same b c d q) ∙ n in
    ap (without d) (put_at b c rows q) ∙ drop_other d c rows m ∙ sym (ap (insert_row b) (drop_other d c rows m) ∙ put_at b c (without d rows) q)
drop_put_at d b c rows n h ih (After q) = drop_put_after d b c rows (same_row d c) refl q ih

pub drop_put : (d b : RelationRow) (rows : List RelationRow) → same_row d b ≡ false → Ascend rows → without d (insert_row b rows) ≡ insert_row b (without d rows)
drop_put d b [] n h = drop_other d b [] n
drop_put d b (c ∷ rows) n h = drop_put_at d b c rows n h (drop_put d b rows n h.1) (stand b c)

-- the test of the order
pub ascend_of : (rows : List RelationRow) → rows_ascend rows ≡ true → Ascend rows
ascend_of [] h = tt
ascend_of (a ∷ []) h = (tt, tt)
ascend_of (a ∷ b ∷ rest) h =
    let parts = and_parts (row_before a b) (rows_ascend (b ∷ rest)) h in
    let k = ascend_of (b ∷ rest) parts.1 in
    ((parts.0, after_more a b rest parts.0 k.0), k)

-- rows put from the last to the first, and from the first to the last
abbrev pub puts : List RelationRow → List RelationRow → List RelationRow
puts [] rows = rows
puts (a ∷ more) rows = insert_row a (puts more rows)

abbrev pub adds : List RelationRow → List RelationRow → List RelationRow
adds [] rows = rows
adds (a ∷ more) rows = adds more (insert_row a rows)

pub ordered_puts : (more rows : List RelationRow) → ordered (more ++ rows) ≡ puts more (ordered rows)
ordered_puts [] rows = refl
ordered_puts (a ∷ more) rows = ap (insert_row a) (ordered_puts more rows)

pub ascend_puts : (more rows : List RelationRow) → Ascend rows → Ascend (puts more rows)
ascend_puts [] rows h = h
ascend_puts (a ∷ more) rows h = ascend_put a (puts more rows) (ascend_puts more rows h)

pub ascend_adds : (more rows : List RelationRow) → Ascend rows → Ascend (adds more rows)
ascend_adds [] rows h = h
ascend_adds (a ∷ more) rows h = ascend_adds more (insert_row a rows) (ascend_put a rows h)

-- each of the rows has another key than this one, or is this one
abbrev pub AllAgree : RelationRow → List RelationRow → Type 0
AllAgree a [] = Unit {0}
AllAgree a (b ∷ more) = (same_row b a ≡ true → b ≡ a) × AllAgree a more

abbrev pub AgreePairwise : List RelationRow → Type 0
AgreePairwise [] = Unit {0}
AgreePairwise (a ∷ more) = AllAgree a more × AgreePairwise more

pub adds_put : (a : RelationRow) (more rows : List RelationRow) → AllAgree a more → adds more (insert_row a rows) ≡ insert_row a (adds more rows)
adds_put a [] rows h = refl
adds_put a (b ∷ more) rows h = ap (adds more) (commutes b a rows h.0) ∙ adds_put a more (insert_row b rows) h.1

pub adds_puts : (more rows : List RelationRow) → AgreePairwise more → adds more rows ≡ puts more rows
adds_puts [] rows h = refl
adds_puts (a ∷ more) rows h = adds_put a more rows h.0 ∙ ap (insert_row a) (adds_puts more rows h.1)

-- among the rows that pass a test, one that fails it
put_unlisted_at : (p : RelationRow → Bool) (a b : RelationRow) (rows : List RelationRow) → p a ≡ false → filter p (insert_row a rows) ≡ filter p rows → Stand a b → filter p (insert_row a (b ∷ rows)) ≡ filter p (b ∷ rows)
put_unlisted_at p a b rows h ih (Before q) = ap (filter p) (put_before a b rows q) ∙ ap (λ t. cond t (a ∷ filter p (b ∷ rows)) (filter p (b ∷ rows))) h
put_unlisted_at p a b rows h ih (Same q) = ap (filter p) (put_at a b rows q)
put_unlisted_at p a b rows h ih (After q) = ap (filter p) (put_after a b rows q) ∙ ap (λ l. cond (p b) (b ∷ l) l) ih

pub put_unlisted : (p : RelationRow → Bool) (a : RelationRow) (rows : List RelationRow) → p a ≡ false → filter p (insert_row a rows) ≡ filter p rows
put_unlisted p a [] h = ap (λ t. cond t (a ∷ []) []) h
put_unlisted p a (b ∷ rows) h = put_unlisted_at p a b rows h (put_unlisted p a rows h) (stand a b)
