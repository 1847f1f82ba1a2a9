-- The writes of features that follow may be made.
use Rattle.std.proofs.Common.{◌≡◌, ◌∙◌, ℕ, Bool, true, false, ◌||◌, List, [], ◌∷◌, ◌++◌, map, flat_map, refl, sym, ap, subst, Result, Ok, Err}
use Rattle.std.specs.List.{list_all, list_any}
use Rattle.std.specs.Result.{IfOk}
use Rattle.std.proofs.lemmas.Bool.{and_parts}
use Rattle.topo_base.specs.declared.rows.Counters.{Counters}
use Rattle.topo_base.specs.declared.rows.FeatureRow.{FeatureRow}
use Rattle.topo_base.specs.declared.rows.RelationRow.{RelationRow}
use Rattle.topo_base.specs.declared.write.RowWrite.{RowWrite}
use Rattle.drawing.specs.Drawing.{Drawing}
use Rattle.drawing.specs.Relations.{row_before, same_row, insert_row, lists_element}
use Rattle.drawing.specs.Tables.{Tables, drawn}
use Rattle.drawing.specs.Writable.{CanWriteAll, has_feature_row, has_layer_row}
use Rattle.drawing.specs.Writes.{written}
use Rattle.relation_rows.specs.Following.{row_goes, row_comes, replaced_by, feature_of, is_known, AreFeaturesOf}
use Rattle.relation_rows.proofs.Order.{before_not_same, same_itself, same_same, same_turned}
use Rattle.relation_rows.proofs.Putting.{Stand, stand, put_before, put_at, put_after, AllAfter, Ascend, ascend_of, without, drop_same, drop_other, adds}
use Rattle.relation_rows.proofs.Putting.Stand.{Before, Same, After}
use Rattle.relation_rows.proofs.Replacing.{row_of, features_in, features_none, features_one, is_row_of, or_true}
use Rattle.relation_rows.proofs.Writing.{with_rows}

-- a row of this key is there
abbrev pub is_in : RelationRow → List RelationRow → Bool
is_in x rows = list_any (same_row x) rows

or_more : (a b c : Bool) → (b ≡ true → c ≡ true) → (a || b) ≡ true → (a || c) ≡ true
or_more true b c f h = refl
or_more false b c f h = f h

-- it stays where another is put
in_put_at : (x a b : RelationRow) (rows : List RelationRow) → is_in x (b ∷ rows) ≡ true → (is_in x rows ≡ true → is_in x (insert_row a rows) ≡ true) → Stand a b → is_in x (insert_row a (b ∷ rows)) ≡ true
in_put_at x a b rows h ih (Before q) = ap (is_in x) (put_before a b rows q) ∙ or_true (same_row x a) (is_in x (b ∷ rows)) h
in_put_at x a b rows h ih (Same q) = ap (is_in x) (put_at a b rows q) ∙ h
in_put_at x a b rows h ih (After q) = ap (is_in x) (put_after a b rows q) ∙ or_more (same_row x b) (is_in x rows) (is_in x (insert_row a rows)) ih h

in_put : (x a : RelationRow) (rows : List RelationRow) → is_in x rows ≡ true → is_in x (insert_row a rows) ≡ true
in_put x a [] h = absurd cc
in_put x a (b ∷ rows) h = in_put_at x a b rows h (in_put x a rows) (stand a b)

in_adds : (x : RelationRow) (more rows : List RelationRow) → is_in x rows ≡ true → is_in x (adds more rows) ≡ true
in_adds x [] rows h = h
in_adds x (a ∷ more) rows h = in_adds x more (insert_row a rows) (in_put x a rows h)

-- it stays where another is dropped
in_rest : (a b : Bool) → a ≡ false → (a || b) ≡ true → b ≡ true
in_rest false b e h = h
in_rest true b e h = absurd cc

in_drop_at : (d x b : RelationRow) (rows : List RelationRow) (y : Bool) → same_row d b ≡ y → same_row d x ≡ false → is_in x (b ∷ rows) ≡ true → (is_in x rows ≡ true → is_in x (without d rows) ≡ true) → is_in x (without d (b ∷ rows)) ≡ true
in_drop_at d x b rows true e n h ih =
    let other : same_row x b ≡ false = sym (same_same d b x e) ∙ same_turned x d ∙ n in
    ap (is_in x) (drop_same d b rows e) ∙ ih (in_rest (same_row x b) (is_in x rows) other h)
in_drop_at d x b rows false e n h ih = ap (is_in x) (drop_other d b rows e) ∙ or_more (same_row x b) (is_in x rows) (is_in x (without d rows)) ih h

in_drop : (d x : RelationRow) (rows : List RelationRow) → same_row d x ≡ false → is_in x rows ≡ true → is_in x (without d rows) ≡ true
in_drop d x [] n h = absurd cc
in_drop d x (b ∷ rows) n h = in_drop_at d x b rows (same_row d b) refl n h (in_drop d x rows n)

-- each of the features lists the old element
abbrev AllThere : ℕ → ℕ → List FeatureRow → List RelationRow → Type 0
AllThere type old [] rows = Unit {0}
AllThere type old (f ∷ fs) rows = (is_in (row_of type f old) rows ≡ true) × AllThere type old fs rows

-- no two of them have one row
abbrev AllOther : ℕ → ℕ → FeatureRow → List FeatureRow → Type 0
AllOther type old f [] = Unit {0}
AllOther type old f (g ∷ gs) = (same_row (row_of type f old) (row_of type g old) ≡ false) × AllOther type old f gs

abbrev AllApart : ℕ → ℕ → List FeatureRow → Type 0
AllApart type old [] = Unit {0}
AllApart type old (f ∷ fs) = AllOther type old f fs × AllApart type old fs

there_after : (type old : ℕ) (f : FeatureRow) (gs : List FeatureRow) (more rows : List RelationRow) → AllOther type old f gs → AllThere type old gs rows → AllThere type old gs (adds more (without (row_of type f old) rows))
there_after type old f [] more rows o h = tt
there_after type old f (g ∷ gs) more rows o h =
    (in_adds (row_of type g old) more (without (row_of type f old) rows) (in_drop (row_of type f old) (row_of type g old) rows o.0 h.0), there_after type old f gs more rows o.1 h.1)

there_more : (type old : ℕ) (fs : List FeatureRow) (r : RelationRow) (rows : List RelationRow) → AllThere type old fs rows → AllThere type old fs (r ∷ rows)
there_more type old [] r rows h = tt
there_more type old (f ∷ fs) r rows h = (or_true (same_row (row_of type f old) r) (is_in (row_of type f old) rows) h.0, there_more type old fs r rows h.1)

there_at : (S : Drawing) (type old : ℕ) (r : RelationRow) (rows : List RelationRow) (b : Bool) → lists_element S type old r ≡ b → AllThere type old (features_in (lists_element S type old) rows) rows → AllThere type old (features_in (lists_element S type old) (r ∷ rows)) (r ∷ rows)
there_at S type old r rows false e h =
    subst (λ fs. AllThere type old fs (r ∷ rows)) (sym (features_none (lists_element S type old) r rows e)) (there_more type old (features_in (lists_element S type old) rows) r rows h)
there_at S type old r rows true e h =
    subst (λ fs. AllThere type old fs (r ∷ rows)) (sym (features_one (lists_element S type old) r rows e)) (
      ap (λ b. b || is_in (row_of type (feature_of r) old) rows) (ap (λ x. same_row x r) (is_row_of S type old r e) ∙ same_itself r),
      there_more type old (features_in (lists_element S type old) rows) r rows h,
    )

there : (S : Drawing) (type old : ℕ) (rows : List RelationRow) → AllThere type old (features_in (lists_element S type old) rows) rows
there S type old [] = tt
there S type old (r ∷ rows) = there_at S type old r rows (lists_element S type old r) refl (there S type old rows)

other_at : (S : Drawing) (type old : ℕ) (r c : RelationRow) (rows : List RelationRow) (b : Bool) → lists_element S type old c ≡ b → row_of type (feature_of r) old ≡ r → row_before r c ≡ true
    → AllOther type old (feature_of r) (features_in (lists_element S type old) rows) → AllOther type old (feature_of r) (features_in (lists_element S type old) (c ∷ rows))
other_at S type old r c rows false e is p ih = subst (AllOther type old (feature_of r)) (sym (features_none (lists_element S type old) c rows e)) ih
other_at S type old r c rows true e is p ih =
    subst (AllOther type old (feature_of r)) (sym (features_one (lists_element S type old) c rows e))
    (ap (λ x. same_row x (row_of type (feature_of c) old)) is ∙ ap (same_row r) (is_row_of S type old c e) ∙ before_not_same r c p, ih)

other : (S : Drawing) (type old : ℕ) (r : RelationRow) (rows : List RelationRow) → row_of type (feature_of r) old ≡ r → AllAfter r rows → AllOther type old (feature_of r) (features_in (lists_element S type old) rows)
other S type old r [] is h = tt
other S type old r (c ∷ rows) is h = other_at S type old r c rows (lists_element S type old c) refl is h.0 (other S type old r rows is h.1)

apart_at : (S : Drawing) (type old : ℕ) (r : RelationRow) (rows : List RelationRow) (b : Bool) → lists_element S type old r ≡ b → AllAfter r rows → AllApart type old (features_in (lists_element S type old) rows) → AllApart type old (features_in (lists_element S type old) (r ∷ rows))
apart_at S type old r rows false e h ih = subst (AllApart type old) (sym (features_none (lists_element S type old) r rows e)) ih
apart_at S type old r rows true e h ih = subst (AllApart type old) (sym (features_one (lists_element S type old) r rows e)) (other S type old r rows (is_row_of S type old r e) h, ih)

apart : (S : Drawing) (type old : ℕ) (rows : List RelationRow) → Ascend rows → AllApart type old (features_in (lists_element S type old) rows)
apart S type old [] h = tt
apart S type old (r ∷ rows) h = apart_at S type old r rows (lists_element S type old r) refl h.0 (apart S type old rows h.1)

-- one write after the other
can_come : (n : Counters) (t : Tables) (type : ℕ) (f : FeatureRow) (new : List ℕ) (more : List RowWrite) → is_known t f ≡ true
    → CanWriteAll n (with_rows t (adds (map (row_of type f) new) t.relations)) more → CanWriteAll n t (map (row_comes type f) new ++ more)
can_come n t type f [] more k h = h
can_come n t type f (id ∷ new) more k h =
    let both = and_parts (has_feature_row t f.feature_id) (has_layer_row t f.layer_id) k in
    ((both.0, both.1, tt), can_come n (written n t (row_comes type f id)) type f new more k h)

can_replace : (n : Counters) (t : Tables) (type old : ℕ) (new : List ℕ) (fs : List FeatureRow) → list_all (is_known t) fs ≡ true → AllThere type old fs t.relations → AllApart type old fs
    → CanWriteAll n t (flat_map (replaced_by type old new) fs)
can_replace n t type old new [] k h a = tt
can_replace n t type old new (f ∷ fs) k h a =
    let known = and_parts (is_known t f) (list_all (is_known t) fs) k in
    let rows = adds (map (row_of type f) new) (without (row_of type f old) t.relations) in (
      (tt, tt, tt, h.0),
      can_come n (written n t (row_goes type old f)) type f new (flat_map (replaced_by type old new) fs) known.0
          (can_replace n (with_rows t rows) type old new fs known.1 (there_after type old f fs (map (row_of type f) new) t.relations a.0 h.1) a.1),
    )

can_follow : (n : Counters) (t : Tables) (type old : ℕ) (new : List ℕ) (fs : List FeatureRow) → AreFeaturesOf t type old fs → CanWriteAll n t (flat_map (replaced_by type old new) fs)
can_follow n t type old new fs h =
    let S = drawn t in
    can_replace n t type old new fs h.known
    (subst (λ gs. AllThere type old gs t.relations) (sym h.listed) (there S type old t.relations))
    (subst (AllApart type old) (sym h.listed) (apart S type old t.relations (ascend_of t.relations h.ascend)))

pub result_can : {E : Type 0} (type old : ℕ) (new : List ℕ) (fs : List FeatureRow) (r : Result (List RowWrite) E) → IfOk r (λ (ws : List RowWrite). ws ≡ flat_map (replaced_by type old new) fs)
    → IfOk r (λ (ws : List RowWrite). (n : Counters) (t : Tables) → AreFeaturesOf t type old fs → CanWriteAll n t ws)
result_can type old new fs (Ok ws) e = λ n t h. subst (CanWriteAll n t) (sym e) (can_follow n t type old new fs h)
result_can type old new fs (Err stop) e = tt
