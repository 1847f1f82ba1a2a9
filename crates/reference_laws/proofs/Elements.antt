-- Elements that stay listed where rows come, change and go, and what no row lists.
use Rattle.std.proofs.Common.{◌≡◌, ◌∙◌, ℕ, ◌<◌, Option, refl, sym, ap, subst, arith, Bool, true, false, not, cond, ◌&&◌, ◌||◌, ◌==◌, eqb, eqb-true, List, [], ◌∷◌, map, filter}
use Rattle.std.specs.List.{Contains}
use Rattle.std.specs.Str.{bytes_eq}
use Rattle.std.proofs.lemmas.Bool.{and_from, and_parts, false≢true, false_from_ne_true, not-true}
use Rattle.std.proofs.lemmas.Bool.Decides.{nat_tests}
use Rattle.topo_base.specs.Kinds.{kind_number}
use Rattle.topo_base.specs.declared.kind.Kind.{Kind}
use Rattle.topo_base.specs.declared.kind.Kind.TheVariants.{Puntal, Lineal, Areal}
use Rattle.topo_base.specs.declared.rows.NodeRow.{NodeRow}
use Rattle.topo_base.specs.declared.rows.RelationRow.{RelationRow}
use Rattle.drawing.specs.Drawing.{Drawing, has_face, node_id_of}
use Rattle.drawing.specs.IsoEdits.{is_in_feature, put_in_face}
use Rattle.drawing.specs.Relations.{face_type, features_of, is_hierarchical, lists_element}
use Rattle.drawing.specs.Rows.{has_row, without_row}
use Rattle.drawing.specs.Subdivision.{face_id_of}
use Rattle.plane.proofs.ListTests.{contains_here, contains_none, contains_there}
use Rattle.drawing.proofs.Members.{contains-filter, ids_within}
use Rattle.drawing.proofs.Ordering.{InOrder}
use Rattle.ring_laws.proofs.Known.{any_filtered, any_out}
use Rattle.reference_laws.proofs.KnownRows.{IsRow, has_listed, has_of, lists_primitive, number_in}
use Rattle.topo_tables.proofs.RowChanges.{has_changed}

-- ---- rows of a table
pub has_same : {R : Type 0} (id : R → ℕ) (change : R → R) (rows : List R) (n : ℕ) → ((r : R) → id (change r) ≡ id r) → has_row id (map change rows) n ≡ has_row id rows n
has_same id change [] n keeps = refl
has_same id change (r ∷ rows) n keeps = let first = keeps r in let rest = has_same id change rows n keeps in λ i. eqb (first i) n || rest i

pub has_without : {R : Type 0} (id : R → ℕ) (rows : List R) (m n : ℕ) → eqb n m ≡ false → has_row id rows n ≡ true → has_row id (without_row id rows m) n ≡ true
has_without id rows m n other h = any_filtered (λ r. id r == n) (λ r. not (id r == m)) rows (λ r e. ap not (ap (λ k. eqb k m) (eqb-true (id r) n e) ∙ other)) h

pub nodes_put : (c : Option ℕ) (a b : ℕ) (nodes : List NodeRow) (n : ℕ) → has_row node_id_of (put_in_face c a (put_in_face c b nodes)) n ≡ has_row node_id_of nodes n
nodes_put c a b nodes n =
    has_changed node_id_of (put_in_face c b nodes) a n (λ (r : NodeRow). record r { containing_face = c }) (λ r. refl)
    ∙ has_changed node_id_of nodes b n (λ (r : NodeRow). record r { containing_face = c }) (λ r. refl)

-- ---- faces
pub areal_kept : (S T : Drawing) (id : ℕ) → (has_face S id ≡ true → has_face T id ≡ true) → has_of S Areal id ≡ true → has_of T Areal id ≡ true
areal_kept S T id keeps h = let both = and_parts (not (id == 0)) (has_face S id) h in and_from (not (id == 0)) (has_face T id) both.0 (keeps both.1)

pub areal_from : (T : Drawing) (id : ℕ) → eqb id 0 ≡ false → has_face T id ≡ true → has_of T Areal id ≡ true
areal_from T id some h = and_from (not (id == 0)) (has_face T id) (ap not some) h

pub some_face : (S : Drawing) (id : ℕ) → has_of S Areal id ≡ true → eqb id 0 ≡ false
some_face S id h = not-true (eqb id 0) (and_parts (not (id == 0)) (has_face S id) h).0

-- the next face is another than face 0, which is listed
pub next_is_some : (S : Drawing) → InOrder face_id_of 0 S.next_ids.face S.faces → has_face S 0 ≡ true → eqb S.next_ids.face 0 ≡ false
next_is_some S ordered zero =
    let s = any_out (λ g. g == 0) S.faces zero in
    let below = (ids_within face_id_of 0 S.next_ids.face S.faces s.0 ordered s.1.0).1 in
    differs s.0 S.next_ids.face below
  where
    differs : (a b : ℕ) → a < b → eqb b 0 ≡ false
    differs a b h = grind (arith, nat_tests)

-- ---- what no row lists
filter_here : {X : Type 0} (p : X → Bool) (xs : List X) (x : X) → Contains xs x → p x ≡ true → filter p xs ≡ [] → ⊥
filter_here p xs x c t e = contains_none x (subst (λ ys. Contains ys x) e (contains-filter p x xs c t))

empty_map : {X Y : Type 0} (f : X → Y) (xs : List X) → map f xs ≡ [] → xs ≡ []
empty_map f [] e = refl
empty_map f (x ∷ xs) e = absurd cc

pub none_in : (S : Drawing) (type id : ℕ) → features_of S type id ≡ [] → (r : RelationRow) → Contains S.relations r → lists_element S type id r ≡ true → ⊥
none_in S type id e r c t = filter_here (lists_element S type id) S.relations r c t (empty_map (λ (row : RelationRow). row.topogeo_id) (filter (lists_element S type id) S.relations) e)

nothing_listed : (S : Drawing) (type id : ℕ) → is_in_feature S type id ≡ false → features_of S type id ≡ []
nothing_listed S type id free = by (features_of S type id) refl
  where
    by : (ts : List ℕ) → features_of S type id ≡ ts → features_of S type id ≡ []
    by [] e = e
    by (t ∷ ts) e = let yes : is_in_feature S type id ≡ true = rw e refl in absurd (false≢true (sym free ∙ yes))

pub is_other : (S : Drawing) (type gone : ℕ) → features_of S type gone ≡ [] → (r : RelationRow) → Contains S.relations r → lists_element S type r.element_id r ≡ true → eqb r.element_id gone ≡ false
is_other S type gone none r c lists =
    false_from_ne_true (eqb r.element_id gone) (λ e. none_in S type gone none r c (subst (λ n. lists_element S type n r ≡ true) (eqb-true r.element_id gone e) lists))

pub is_free : (S : Drawing) (type gone : ℕ) → is_in_feature S type gone ≡ false → (r : RelationRow) → Contains S.relations r → lists_element S type r.element_id r ≡ true → eqb r.element_id gone ≡ false
is_free S type gone free r c lists = is_other S type gone (nothing_listed S type gone free) r c lists

-- no row lists face 0
filter_none : {X : Type 0} (p : X → Bool) (xs : List X) → ((x : X) → Contains xs x → p x ≡ true → ⊥) → filter p xs ≡ []
filter_none p [] none = refl
filter_none p (x ∷ xs) none =
    ap (λ b. cond b (x ∷ filter p xs) (filter p xs)) (false_from_ne_true (p x) (λ t. none x (contains_here x xs) t)) ∙ filter_none p xs (λ y c t. none y (contains_there y x xs c) t)

pub universe_unlisted : (S : Drawing) → ((r : RelationRow) → Contains S.relations r → IsRow S r) → features_of S face_type 0 ≡ []
universe_unlisted S rows = ap (map (λ (row : RelationRow). row.topogeo_id)) (filter_none (lists_element S face_type 0) S.relations none)
  where
    as_face : (kind : Kind) (id : ℕ) → kind_number kind ≡ 3 → has_of S kind id ≡ true → id ≡ 0 → ⊥
    as_face Puntal id e h zero = absurd cc
    as_face Lineal id e h zero = absurd cc
    as_face Areal id e h zero = false≢true (sym (ap (λ n. not (eqb n 0) && has_face S n) zero) ∙ h)

    none : (r : RelationRow) → Contains S.relations r → lists_element S face_type 0 r ≡ true → ⊥
    none r c t =
        let k = rows r c in
        let lone = lists_primitive S face_type 0 r k t in
        let front = and_parts (r.element_type == face_type) (r.element_id == 0) (and_parts (r.element_type == face_type && r.element_id == 0) (not (is_hierarchical S r.layer_id)) t).0 in
        as_face k.layer.feature_type r.element_id (ap (number_in k.layer.feature_type) (sym lone) ∙ sym k.type ∙ eqb-true r.element_type face_type front.0)
        (subst (λ o. has_listed S k.layer.feature_type o r.element_id ≡ true) lone k.listed) (eqb-true r.element_id 0 front.1)

-- the same features as none
pub same_as_none : (ns : List ℕ) → bytes_eq [] ns ≡ true → ns ≡ []
same_as_none [] h = refl
same_as_none (n ∷ ns) h = absurd cc

pub none_as_same : (ns : List ℕ) → bytes_eq ns [] ≡ true → ns ≡ []
none_as_same [] h = refl
none_as_same (n ∷ ns) h = absurd cc
