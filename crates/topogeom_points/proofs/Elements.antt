-- Which elements a feature may list, on tables.
use Rattle.std.proofs.Common.{◌≡◌, ◌∙◌, ℕ, zero, suc, ◌==◌, ◌+◌, ◌<◌, true, false, not, ◌||◌, List, [], ◌∷◌, ◌++◌, take, drop, length, get_or, add-one, drop-cons, arith, refl, sym, ap, Option, Some, None, Bor}
use Rattle.std.specs.Prelude.{is_some}
use Rattle.std.specs.List.{list_any}
use Rattle.std.specs.Option.{option_copied}
use Rattle.std.proofs.lemmas.List.Folds.{list_any-append}
use Rattle.std.proofs.Math.Bool.{or_comm}
use Rattle.topo_base.specs.declared.edit.Pair.{Pair}
use Rattle.topo_base.specs.declared.rows.LayerRow.{LayerRow}
use Rattle.topo_base.specs.declared.rule.Rule.{Rule}
use Rattle.topo_base.specs.declared.rule.Rule.TheVariants.{ElementListed}
use Rattle.drawing.specs.Drawing.{Drawing, edge_id_of, has_edge}
use Rattle.drawing.specs.Layers.{element_rule, elements_rule, missing, or_else, same_pair}
use Rattle.drawing.specs.Rows.{has_row, row_at}
use Rattle.drawing.specs.Tables.{Tables, drawn, drawn_edge}
use Rattle.drawing.specs.Writes.{edge_row_id}
use Rattle.drawing.proofs.RowLemmas.{is_some-row_at}
use Rattle.drawing.proofs.TableLemmas.{list_any-map}
use Rattle.topo_tables.proofs.PlaceLemmas.{is_some-copied}

-- ---- a row is there
pub has_found : {R : Type 0} (id : R → ℕ) (rows : List R) (n : ℕ) (found : Option (Bor R)) → option_copied found ≡ row_at id rows n → is_some found ≡ has_row id rows n
has_found id rows n found e = is_some-copied found ∙ ap is_some e ∙ is_some-row_at id rows n

pub has_edge_is : (t : Tables) (n : ℕ) → has_row edge_row_id t.edges n ≡ has_edge (drawn t) n
has_edge_is t n = sym (list_any-map (λ e. edge_id_of e == n) drawn_edge t.edges)

-- ---- the elements of a new feature, one behind the other
-- how two rules follow one another
or_same : (a b c : Option Rule) → or_else a (or_else b c) ≡ or_else (or_else a b) c
or_same None b c = refl
or_same (Some rule) b c = refl

-- which stand before matters only by what they are
earlier_same : (S : Drawing) (layer : LayerRow) (a b xs : List Pair) → ((x : Pair) → list_any (same_pair x) a ≡ list_any (same_pair x) b) → elements_rule S layer a xs ≡ elements_rule S layer b xs
earlier_same S layer a b [] same = refl
earlier_same S layer a b (x ∷ xs) same =
    ap (λ c. or_else (element_rule S layer x) (or_else (missing (not c) ElementListed) (elements_rule S layer (x ∷ a) xs))) (same x)
    ∙ ap (λ o. or_else (element_rule S layer x) (or_else (missing (not (list_any (same_pair x) b)) ElementListed) o))
    (earlier_same S layer (x ∷ a) (x ∷ b) xs (λ y. ap (λ c. same_pair y x || c) (same y)))

-- the rule for one behind others
abbrev pub rule_behind : Drawing → LayerRow → List Pair → Pair → Option Rule
rule_behind S layer earlier x = or_else (element_rule S layer x) (missing (not (list_any (same_pair x) earlier)) ElementListed)

at_pair : (xs : List Pair) (i : ℕ) (x : Pair) → i < length xs → x ≡ get_or xs i x → drop i xs ≡ x ∷ drop (i + 1) xs
at_pair xs i x h is = drop-cons xs i x h ∙ ap (λ r. r ∷ drop (suc i) xs) (sym is) ∙ rw add-one refl

front_more : (xs : List Pair) (i : ℕ) (x : Pair) → i < length xs → x ≡ get_or xs i x → take (suc i) xs ≡ take i xs ++ x ∷ []
front_more [] i x h is = absurd (omega arith)
front_more (y ∷ xs) zero x h is = ap (λ z. z ∷ []) (sym is)
front_more (y ∷ xs) (suc i) x h is = ap (λ l. y ∷ l) (front_more xs i x (omega arith) is)

same_behind : (xs : List Pair) (i : ℕ) (x : Pair) → i < length xs → x ≡ get_or xs i x → (y : Pair) → list_any (same_pair y) (x ∷ take i xs) ≡ list_any (same_pair y) (take (i + 1) xs)
same_behind xs i x h is y =
    or_comm (same_pair y x) (list_any (same_pair y) (take i xs))
    ∙ ap (λ c. list_any (same_pair y) (take i xs) || c) (or_comm false (same_pair y x))
    ∙ sym (list_any-append (same_pair y) (take i xs) (x ∷ []))
    ∙ ap (list_any (same_pair y)) (sym (front_more xs i x h is) ∙ rw add-one refl)

-- one element further on
pub next_rule : (S : Drawing) (layer : LayerRow) (xs : List Pair) (i : ℕ) (x : Pair) (rule : Option Rule) → i < length xs → x ≡ get_or xs i x → rule_behind S layer (take i xs) x ≡ rule
    → elements_rule S layer (take i xs) (drop i xs) ≡ or_else rule (elements_rule S layer (take (i + 1) xs) (drop (i + 1) xs))
next_rule S layer xs i x rule h is e =
    ap (elements_rule S layer (take i xs)) (at_pair xs i x h is)
    ∙ or_same (element_rule S layer x) (missing (not (list_any (same_pair x) (take i xs))) ElementListed) (elements_rule S layer (x ∷ take i xs) (drop (i + 1) xs))
    ∙ ap (λ o. or_else o (elements_rule S layer (x ∷ take i xs) (drop (i + 1) xs))) e
    ∙ ap (or_else rule) (earlier_same S layer (x ∷ take i xs) (take (i + 1) xs) (drop (i + 1) xs) (same_behind xs i x h is))

-- the answer of one, and of those behind it
pub some_stays : (r o : Option Rule) → is_some r ≡ true → or_else r o ≡ r
some_stays None o h = absurd cc
some_stays (Some rule) o h = refl

pub none_goes : (r o : Option Rule) → is_some r ≡ false → or_else r o ≡ o
none_goes None o h = refl
none_goes (Some rule) o h = absurd cc
