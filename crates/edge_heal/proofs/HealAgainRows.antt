-- Rows that follow an edge to its two parts, and then both parts to one edge, follow the edge to it.
use Rattle.std.proofs.Common.{◌≡◌, ◌∙◌, ℕ, refl, sym, ap, subst, arith, ◌⊎◌, inl, inr, ⊎_elim, Bool, true, false, not, cond, ◌&&◌, ◌||◌, ◌==◌, nat_lt, eqb-true, eq-eqb, List, [], ◌∷◌, ◌++◌, map, filter, flat_map}
use Rattle.std.specs.List.{Contains}
use Rattle.std.proofs.lemmas.Bool.{and_parts, false≢true, or_left, or_right}
use Rattle.std.proofs.lemmas.Bool.Decides.{nat_tests}
use Rattle.std.proofs.lemmas.List.Elements.{Contains-append_cases}
use Rattle.topo_base.specs.declared.rows.RelationRow.{RelationRow}
use Rattle.drawing.specs.Drawing.{Drawing}
use Rattle.drawing.specs.Relations.{followed, insert_row, is_among, is_hierarchical, lists_element, ordered, row_before, same_row}
use Rattle.plane.proofs.ListTests.{contains_cases, contains_here, contains_none, contains_there}
use Rattle.relation_rows.specs.KnownRows.{HasLayer}
use Rattle.relation_rows.proofs.MergedInto.{one_row, put_twice}
use Rattle.relation_rows.proofs.Order.{before_not_after, same_not_before}
use Rattle.relation_rows.proofs.Putting.{AllAfter, Ascend, Stand, commutes, put_after, put_at, put_before, stand}
use Rattle.relation_rows.proofs.Putting.Stand.{Before, Same, After}
use Rattle.relation_rows.proofs.Replacing.{follows_test}
use Rattle.reference_laws.proofs.Followed.{in_ordered, in_put}

-- ---- tests of a row
abbrev pub with_id : ℕ → RelationRow → RelationRow
with_id n r = record r { element_id = n }

eqb_turned : (a b : ℕ) → (a == b) ≡ (b == a)
eqb_turned a b = grind (arith, nat_tests)

itself : (n : ℕ) → (n == n) ≡ true
itself n = eq-eqb n n refl

-- the row lists an element that is one of these
two_listed : (S : Drawing) (type x y : ℕ) (r : RelationRow) → (lists_element S type r.element_id r && is_among r.element_id (x ∷ y ∷ [])) ≡ (lists_element S type x r || lists_element S type y r)
two_listed S type x y r =
    (λ i. (r.element_type == type && itself r.element_id i && not (is_hierarchical S r.layer_id)) && (eqb_turned x r.element_id i || (eqb_turned y r.element_id i || false)))
    ∙ by (r.element_type == type) (r.element_id == x) (r.element_id == y) (not (is_hierarchical S r.layer_id))
  where
    by : (t p q h : Bool) → ((t && true && h) && (p || (q || false))) ≡ ((t && p && h) || (t && q && h))
    by false p q h = refl
    by true true q true = refl
    by true true true false = refl
    by true true false false = refl
    by true false true true = refl
    by true false true false = refl
    by true false false true = refl
    by true false false false = refl

-- a row that lists an element, and the row with another
record Listed (S : Drawing) (type id : ℕ) (r : RelationRow) : Type 0 where
  type_is : (r.element_type == type) ≡ true
  id_is : (r.element_id == id) ≡ true
  primitive : not (is_hierarchical S r.layer_id) ≡ true

listed_parts : (S : Drawing) (type id : ℕ) (r : RelationRow) → lists_element S type id r ≡ true → Listed S type id r
listed_parts S type id r h =
    let both = and_parts (r.element_type == type && r.element_id == id) (not (is_hierarchical S r.layer_id)) h in
    let front = and_parts (r.element_type == type) (r.element_id == id) both.0 in
    record { type_is = front.0; id_is = front.1; primitive = both.1 }

pub listed_type : (S : Drawing) (type id : ℕ) (r : RelationRow) → lists_element S type id r ≡ true → r.element_type ≡ type
listed_type S type id r h = eqb-true r.element_type type (listed_parts S type id r h).type_is

pub listed_id : (S : Drawing) (type id : ℕ) (r : RelationRow) → lists_element S type id r ≡ true → r.element_id ≡ id
listed_id S type id r h = eqb-true r.element_id id (listed_parts S type id r h).id_is

pub listed_with : (S : Drawing) (type id w n : ℕ) (r : RelationRow) → lists_element S type id r ≡ true → lists_element S type w (with_id n r) ≡ (n == w)
listed_with S type id w n r h = let k = listed_parts S type id r h in (λ i. k.type_is i && n == w && k.primitive i) ∙ by (n == w)
  where
    by : (b : Bool) → (true && b && true) ≡ b
    by true = refl
    by false = refl

pub own_id : (n : ℕ) (r : RelationRow) → r.element_id ≡ n → with_id n r ≡ r
own_id n r e = λ i. record r { element_id = sym e i }

-- ---- the rows of the parts
abbrev pub parted : Drawing → ℕ → ℕ → ℕ → ℕ → RelationRow → List RelationRow
parted S type id x y r = cond (lists_element S type id r) (with_id x r ∷ with_id y r ∷ []) (r ∷ [])

abbrev pub parted_rows : Drawing → ℕ → ℕ → ℕ → ℕ → List RelationRow → List RelationRow
parted_rows S type id x y rows = ordered (flat_map (parted S type id x y) rows)

-- rows that list an edge by one number, or by two
abbrev pub one_to : Drawing → ℕ → ℕ → ℕ → RelationRow → RelationRow
one_to S type id z r = cond (lists_element S type id r) (with_id z r) r

abbrev pub both_to : Drawing → ℕ → ℕ → ℕ → ℕ → RelationRow → RelationRow
both_to S type x y z r = cond (lists_element S type x r || lists_element S type y r) (with_id z r) r

pub parted_is : (S : Drawing) (type id x y : ℕ) (rows : List RelationRow) → flat_map (followed S type (id ∷ []) (x ∷ y ∷ [])) rows ≡ flat_map (parted S type id x y) rows
parted_is S type id x y [] = refl
parted_is S type id x y (r ∷ rows) =
    let first = follows_test S type id r in
    let rest = parted_is S type id x y rows in
    λ i. cond (first i) (with_id x r ∷ with_id y r ∷ []) (r ∷ []) ++ rest i

alone : (b : Bool) (r s : RelationRow) → cond b (r ∷ []) (s ∷ []) ≡ cond b r s ∷ []
alone true r s = refl
alone false r s = refl

pub one_is : (S : Drawing) (type id z : ℕ) (rows : List RelationRow) → flat_map (followed S type (id ∷ []) (z ∷ [])) rows ≡ map (one_to S type id z) rows
one_is S type id z [] = refl
one_is S type id z (r ∷ rows) =
    let first = ap (λ b. cond b (with_id z r ∷ []) (r ∷ [])) (follows_test S type id r) ∙ alone (lists_element S type id r) (with_id z r) r in
    let rest = one_is S type id z rows in
    λ i. first i ++ rest i

pub both_is : (S : Drawing) (type x y z : ℕ) (rows : List RelationRow) → flat_map (followed S type (x ∷ y ∷ []) (z ∷ [])) rows ≡ map (both_to S type x y z) rows
both_is S type x y z [] = refl
both_is S type x y z (r ∷ rows) =
    let first = ap (λ b. cond b (with_id z r ∷ []) (r ∷ [])) (two_listed S type x y r) ∙ alone (lists_element S type x r || lists_element S type y r) (with_id z r) r in
    let rest = both_is S type x y z rows in
    λ i. first i ++ rest i

-- rows in order, of features of one layer each, of which only those that list the edge may list a part
pub record CanPart (S : Drawing) (type id x y : ℕ) (layer : ℕ → ℕ) (rows : List RelationRow) : Type 0 where
  pub differ : (x == y) ≡ false
  pub ascend : Ascend rows
  pub layers : (r : RelationRow) → Contains rows r → r.layer_id ≡ layer r.topogeo_id
  pub unlisted : (w : ℕ) → ((w ≡ x) ⊎ (w ≡ y)) → (r : RelationRow) → Contains rows r → lists_element S type id r ≡ false → lists_element S type w r ≡ false

pub can_rest : (S : Drawing) (type id x y : ℕ) (layer : ℕ → ℕ) (a : RelationRow) (rows : List RelationRow) → CanPart S type id x y layer (a ∷ rows) → CanPart S type id x y layer rows
can_rest S type id x y layer a rows g = record {
  differ = g.differ;
  ascend = g.ascend.1;
  layers = λ r c. g.layers r (contains_there r a rows c);
  unlisted = λ w which r c. g.unlisted w which r (contains_there r a rows c);
}

-- where a row of the parts comes from
pub data IsOf (S : Drawing) (type id x y : ℕ) (rows : List RelationRow) (b : RelationRow) : Type 0 where
  Stays : Contains rows b → lists_element S type id b ≡ false → IsOf S type id x y rows b
  Part : (r : RelationRow) → Contains rows r → lists_element S type id r ≡ true → (w : ℕ) → ((w ≡ x) ⊎ (w ≡ y)) → with_id w r ≡ b → IsOf S type id x y rows b

is_of_more : (S : Drawing) (type id x y : ℕ) (rows : List RelationRow) (a b : RelationRow) → IsOf S type id x y rows b → IsOf S type id x y (a ∷ rows) b
is_of_more S type id x y rows a b (Stays c h) = Stays (contains_there b a rows c) h
is_of_more S type id x y rows a b (Part r c h w which e) = Part r (contains_there r a rows c) h w which e

is_of_first : (S : Drawing) (type id x y : ℕ) (rows : List RelationRow) (a b : RelationRow) (t : Bool) → lists_element S type id a ≡ t → Contains (cond t (with_id x a ∷ with_id y a ∷ []) (a ∷ [])) b
    → IsOf S type id x y (a ∷ rows) b
is_of_first S type id x y rows a b true h c =
    ⊎_elim
    (λ (e : with_id x a ≡ b). Part a (contains_here a rows) h x (inl refl) e)
    (λ (k : Contains (with_id y a ∷ []) b).
    ⊎_elim (λ (e : with_id y a ≡ b). Part a (contains_here a rows) h y (inr refl) e) (λ (l : Contains [] b). absurd (contains_none b l)) (contains_cases b (with_id y a) [] k))
    (contains_cases b (with_id x a) (with_id y a ∷ []) c)
is_of_first S type id x y rows a b false h c =
    ⊎_elim (λ (e : a ≡ b). subst (IsOf S type id x y (a ∷ rows)) e (Stays (contains_here a rows) h)) (λ (l : Contains [] b). absurd (contains_none b l)) (contains_cases b a [] c)

is_of : (S : Drawing) (type id x y : ℕ) (rows : List RelationRow) (b : RelationRow) → Contains (flat_map (parted S type id x y) rows) b → IsOf S type id x y rows b
is_of S type id x y [] b c = absurd (contains_none b c)
is_of S type id x y (a ∷ rows) b c =
    ⊎_elim
    (λ (k : Contains (parted S type id x y a) b). is_of_first S type id x y rows a b (lists_element S type id a) refl k)
    (λ (k : Contains (flat_map (parted S type id x y) rows) b). is_of_more S type id x y rows a b (is_of S type id x y rows b k))
    (Contains-append_cases (parted S type id x y a) (flat_map (parted S type id x y) rows) b c)

pub of_parted : (S : Drawing) (type id x y : ℕ) (rows : List RelationRow) (b : RelationRow) → Contains (parted_rows S type id x y rows) b → IsOf S type id x y rows b
of_parted S type id x y rows b c = is_of S type id x y rows b (in_ordered b (flat_map (parted S type id x y) rows) c)

abbrev HaveLayers : (ℕ → ℕ) → List RelationRow → Type 0
HaveLayers layer rows = (r : RelationRow) → Contains rows r → HasLayer layer r

have_put : (layer : ℕ → ℕ) (a : RelationRow) (rows : List RelationRow) → HasLayer layer a → HaveLayers layer rows → HaveLayers layer (insert_row a rows)
have_put layer a rows h k r c = ⊎_elim (λ (e : a ≡ r). subst (HasLayer layer) e h) (λ (d : Contains rows r). k r d) (in_put a r rows c)

parted_layers : (S : Drawing) (type id x y : ℕ) (layer : ℕ → ℕ) (rows : List RelationRow) → CanPart S type id x y layer rows → HaveLayers layer (parted_rows S type id x y rows)
parted_layers S type id x y layer rows g b c = by (of_parted S type id x y rows b c)
  where
    by : IsOf S type id x y rows b → HasLayer layer b
    by (Stays d h) = g.layers b d
    by (Part r d h w which e) = subst (HasLayer layer) e (g.layers r d)

-- a change keeps the feature's layer
abbrev KeepsLayer : (ℕ → ℕ) → (RelationRow → RelationRow) → Type 0
KeepsLayer layer become = (r : RelationRow) → HasLayer layer r → HasLayer layer (become r)

map_put_at : (layer : ℕ → ℕ) (become : RelationRow → RelationRow) (a b : RelationRow) (rows : List RelationRow) → KeepsLayer layer become → HasLayer layer a → HasLayer layer b
    → ordered (map become (insert_row a rows)) ≡ insert_row (become a) (ordered (map become rows)) → Stand a b
    → ordered (map become (insert_row a (b ∷ rows))) ≡ insert_row (become a) (ordered (map become (b ∷ rows)))
map_put_at layer become a b rows keeps h k ih (Before q) = ap (λ rs. ordered (map become rs)) (put_before a b rows q)
map_put_at layer become a b rows keeps h k ih (Same q) =
    ap (λ rs. ordered (map become rs)) (put_at a b rows q)
    ∙ sym (put_twice (become b) (ordered (map become rows)))
    ∙ ap (λ x. insert_row (become x) (ordered (map become (b ∷ rows)))) (sym (one_row layer a b h k q))
map_put_at layer become a b rows keeps h k ih (After q) =
    ap (λ rs. ordered (map become rs)) (put_after a b rows q)
    ∙ ap (insert_row (become b)) ih
    ∙ commutes (become b) (become a) (ordered (map become rows)) (one_row layer (become b) (become a) (keeps b k) (keeps a h))

map_put : (layer : ℕ → ℕ) (become : RelationRow → RelationRow) (a : RelationRow) (rows : List RelationRow) → KeepsLayer layer become → HasLayer layer a → HaveLayers layer rows
    → ordered (map become (insert_row a rows)) ≡ insert_row (become a) (ordered (map become rows))
map_put layer become a [] keeps h k = refl
map_put layer become a (b ∷ rows) keeps h k =
    map_put_at layer become a b rows keeps h (k b (contains_here b rows)) (map_put layer become a rows keeps h (λ r c. k r (contains_there r b rows c))) (stand a b)

-- ---- both parts become one
both_keeps : (S : Drawing) (type x y z : ℕ) (layer : ℕ → ℕ) → KeepsLayer layer (both_to S type x y z)
both_keeps S type x y z layer r h = by (lists_element S type x r || lists_element S type y r)
  where
    by : (b : Bool) → HasLayer layer (cond b (with_id z r) r)
    by true = h
    by false = h

part_to : (S : Drawing) (type id x y z w : ℕ) (a : RelationRow) → lists_element S type id a ≡ true → ((w ≡ x) ⊎ (w ≡ y)) → both_to S type x y z (with_id w a) ≡ with_id z a
part_to S type id x y z w a h which =
    ap (λ b. cond b (with_id z a) (with_id w a)) (
    ⊎_elim
    (λ (e : w ≡ x). or_left (lists_element S type x (with_id w a)) (lists_element S type y (with_id w a)) (listed_with S type id x w a h ∙ eq-eqb w x e))
    (λ (e : w ≡ y). or_right (lists_element S type x (with_id w a)) (lists_element S type y (with_id w a)) (listed_with S type id y w a h ∙ eq-eqb w y e))
    which
    )

pub parted_to : (S : Drawing) (type id x y z : ℕ) (layer : ℕ → ℕ) (rows : List RelationRow) → CanPart S type id x y layer rows
    → ordered (map (both_to S type x y z) (parted_rows S type id x y rows)) ≡ ordered (map (one_to S type id z) rows)
parted_to S type id x y z layer [] g = refl
parted_to S type id x y z layer (a ∷ rows) g = by (lists_element S type id a) refl (parted_to S type id x y z layer rows rest)
  where
    rest : CanPart S type id x y layer rows
    rest = can_rest S type id x y layer a rows g

    own : HasLayer layer a
    own = g.layers a (contains_here a rows)

    there : HaveLayers layer (parted_rows S type id x y rows)
    there = parted_layers S type id x y layer rows rest

    put : (b : RelationRow) (more : List RelationRow) → HasLayer layer b → HaveLayers layer more → ordered (map (both_to S type x y z) (insert_row b more)) ≡ insert_row (both_to S type x y z b) (ordered (map (both_to S type x y z) more))
    put b more h k = map_put layer (both_to S type x y z) b more (both_keeps S type x y z layer) h k

    by : (t : Bool) → lists_element S type id a ≡ t → ordered (map (both_to S type x y z) (parted_rows S type id x y rows)) ≡ ordered (map (one_to S type id z) rows)
        → ordered (map (both_to S type x y z) (ordered (cond t (with_id x a ∷ with_id y a ∷ []) (a ∷ []) ++ flat_map (parted S type id x y) rows))) ≡ insert_row (cond t (with_id z a) a) (ordered (map (one_to S type id z) rows))
    by true h ih =
        let second = part_to S type id x y z y a h (inr refl) in
        let first = part_to S type id x y z x a h (inl refl) in
        put (with_id x a) (insert_row (with_id y a) (parted_rows S type id x y rows)) own (have_put layer (with_id y a) (parted_rows S type id x y rows) own there)
        ∙ ap (insert_row (both_to S type x y z (with_id x a))) (put (with_id y a) (parted_rows S type id x y rows) own there)
        ∙ (λ i. insert_row (first i) (insert_row (second i) (ih i)))
        ∙ put_twice (with_id z a) (ordered (map (one_to S type id z) rows))
    by false h ih =
        let none = g.unlisted x (inl refl) a (contains_here a rows) h in
        let other = g.unlisted y (inr refl) a (contains_here a rows) h in
        put a (parted_rows S type id x y rows) own there
        ∙ (λ i. insert_row (cond (none i || other i) (with_id z a) a) (ih i))

-- rows that list an edge by its own number
pub one_own : (S : Drawing) (type id : ℕ) (rows : List RelationRow) → map (one_to S type id id) rows ≡ rows
one_own S type id [] = refl
one_own S type id (r ∷ rows) = let first = by (lists_element S type id r) refl in let rest = one_own S type id rows in λ i. first i ∷ rest i
  where
    by : (t : Bool) → lists_element S type id r ≡ t → cond t (with_id id r) r ≡ r
    by true h = own_id id r (listed_id S type id r h)
    by false h = refl

-- ---- the features that list a part are those that list the edge
-- where the row stands before each listed one
put_listed_at : (p : RelationRow → Bool) (a b : RelationRow) (rows : List RelationRow) → p a ≡ true → (p b ≡ true → row_before a b ≡ true) → (same_row a b ≡ true → p b ≡ true)
    → filter p (insert_row a rows) ≡ a ∷ filter p rows → Stand a b → filter p (insert_row a (b ∷ rows)) ≡ a ∷ filter p (b ∷ rows)
put_listed_at p a b rows h before same ih (Before q) = ap (filter p) (put_before a b rows q) ∙ ap (λ t. cond t (a ∷ filter p (b ∷ rows)) (filter p (b ∷ rows))) h
put_listed_at p a b rows h before same ih (Same q) = absurd (false≢true (sym (same_not_before a b q) ∙ before (same q)))
put_listed_at p a b rows h before same ih (After q) = ap (filter p) (put_after a b rows q) ∙ by (p b) before
  where
    by : (t : Bool) → (t ≡ true → row_before a b ≡ true) → cond t (b ∷ filter p (insert_row a rows)) (filter p (insert_row a rows)) ≡ a ∷ cond t (b ∷ filter p rows) (filter p rows)
    by true first = absurd (false≢true (sym (before_not_after b a q) ∙ first refl))
    by false first = ih

put_listed : (p : RelationRow → Bool) (a : RelationRow) (rows : List RelationRow) → p a ≡ true → ((b : RelationRow) → Contains rows b → p b ≡ true → row_before a b ≡ true)
    → ((b : RelationRow) → Contains rows b → same_row a b ≡ true → p b ≡ true) → filter p (insert_row a rows) ≡ a ∷ filter p rows
put_listed p a [] h before same = ap (λ t. cond t (a ∷ []) []) h
put_listed p a (b ∷ rows) h before same =
    put_listed_at p a b rows h (before b (contains_here b rows)) (same b (contains_here b rows))
    (put_listed p a rows h (λ c k. before c (contains_there c b rows k)) (λ c k. same c (contains_there c b rows k))) (stand a b)

earlier : (a b : RelationRow) → a.element_type ≡ b.element_type → a.element_id ≡ b.element_id → row_before a b ≡ true → nat_lt a.topogeo_id b.topogeo_id ≡ true
earlier a b types elements h = grind (arith, nat_tests)

before_by : (a b : RelationRow) → nat_lt a.topogeo_id b.topogeo_id ≡ true → row_before a b ≡ true
before_by a b h = grind (arith, nat_tests)

after_in : (a b : RelationRow) (rows : List RelationRow) → AllAfter a rows → Contains rows b → row_before a b ≡ true
after_in a b [] h c = absurd (contains_none b c)
after_in a b (r ∷ rows) h c = ⊎_elim (λ (e : r ≡ b). subst (λ s. row_before a s ≡ true) e h.0) (λ (k : Contains rows b). after_in a b rows h.1 k) (contains_cases b r rows c)

-- a row that lists the edge comes before all others of a part
part_later : (S : Drawing) (type id x y : ℕ) (layer : ℕ → ℕ) (a : RelationRow) (rows : List RelationRow) → CanPart S type id x y layer (a ∷ rows) → lists_element S type id a ≡ true → (w : ℕ) → ((w ≡ x) ⊎ (w ≡ y))
    → (b : RelationRow) → Contains (parted_rows S type id x y rows) b → lists_element S type w b ≡ true → row_before (with_id w a) b ≡ true
part_later S type id x y layer a rows g h w which b c lists = by (of_parted S type id x y rows b c)
  where
    by : IsOf S type id x y rows b → row_before (with_id w a) b ≡ true
    by (Stays d k) = absurd (false≢true (sym (g.unlisted w which b (contains_there b a rows d) k) ∙ lists))
    by (Part r d k v from e) =
        let types = listed_type S type id a h ∙ sym (listed_type S type id r k) in
        let ids = listed_id S type id a h ∙ sym (listed_id S type id r k) in
        subst (λ s. row_before (with_id w a) s ≡ true) e (before_by (with_id w a) (with_id v r) (earlier a r types ids (after_in a r rows g.ascend.0 d)))

-- a row with the same key as one that lists an element lists it
same_lists : (S : Drawing) (type w : ℕ) (layer : ℕ → ℕ) (a b : RelationRow) → HasLayer layer a → HasLayer layer b → lists_element S type w a ≡ true → same_row a b ≡ true → lists_element S type w b ≡ true
same_lists S type w layer a b h k lists same = subst (λ r. lists_element S type w r ≡ true) (one_row layer a b h k same) lists

pub put_part : (S : Drawing) (type id x y : ℕ) (layer : ℕ → ℕ) (a : RelationRow) (rows : List RelationRow) → CanPart S type id x y layer (a ∷ rows) → lists_element S type id a ≡ true → (w : ℕ) → ((w ≡ x) ⊎ (w ≡ y))
    → filter (lists_element S type w) (insert_row (with_id w a) (parted_rows S type id x y rows)) ≡ with_id w a ∷ filter (lists_element S type w) (parted_rows S type id x y rows)
put_part S type id x y layer a rows g h w which =
    let own = g.layers a (contains_here a rows) in
    let is = listed_with S type id w w a h ∙ itself w in
    put_listed (lists_element S type w) (with_id w a) (parted_rows S type id x y rows) is (part_later S type id x y layer a rows g h w which)
    (λ b c same. same_lists S type w layer (with_id w a) b own (parted_layers S type id x y layer rows (can_rest S type id x y layer a rows g) b c) is same)
