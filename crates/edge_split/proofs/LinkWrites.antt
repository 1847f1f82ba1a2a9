-- Links where darts have other names after an edit are set anew, row by row.
use Rattle.std.proofs.Common.{◌≡◌, ℕ, refl, sym, ◌∙◌, Bool, true, false, not, cond, ⊎_elim, eqb-true, eq-eqb, List, [], ◌∷◌, ◌++◌, map, subst}
use Rattle.std.specs.Prelude.{◌||◌, ◌==◌, flat_map}
use Rattle.std.specs.List.{Contains, list_any}
use Rattle.std.proofs.lemmas.Bool.{and_parts, and_from, or_left}
use Rattle.topo_base.specs.Darts.{same_dart, same_way}
use Rattle.topo_base.specs.declared.ids.Dart.{Dart}
use Rattle.topo_base.specs.declared.rows.EdgeRow.{EdgeRow}
use Rattle.drawing.specs.Drawing.{Edge}
use Rattle.drawing.specs.HalfEdge.{HalfEdge, backward_of, dart_of, forward_of}
use Rattle.drawing.specs.Star.{next_of}
use Rattle.drawing.specs.Tables.{edge_row}
use Rattle.drawing.specs.Writes.{edge_row_id, with_next}
use Rattle.plane.proofs.ListTests.{contains_cases, contains_here, contains_none, contains_there}
use Rattle.face_rings.proofs.Ranks.{by_bool, same_out}
use Rattle.edge_links.specs.Links.{hand_back}
use Rattle.edge_links.proofs.Linking.{LinksAreRight, Link, all_set, becomes_right, is_of, link_after, link_write, map_append, row_after, row_with, stays_right}
use Rattle.edge_links.proofs.Writing.{AreKnown, set_id}
use Rattle.edge_split.specs.Renamed.{renamed}
use Rattle.edge_split.specs.Relinks.{all_relinks, relink, relinks}
use Rattle.ring_laws.proofs.Known.{any_more, any_behind}

-- what follows an edge, walked this way
abbrev pub follower : List HalfEdge → Edge → Bool → Dart
follower hs x true = dart_of (next_of hs (forward_of x))
follower hs x false = dart_of (next_of hs (backward_of x))

-- the links that are set
abbrev pub one_link : (Dart → Dart) → ℕ → Bool → Dart → List Link
one_link ren edge way d = cond (same_dart (ren d) d) [] (record { back = record { edge = edge; forward = not way }; next = ren d } ∷ [])

abbrev pub both_links : (Dart → Dart) → List HalfEdge → Edge → List Link
both_links ren hs x = one_link ren x.edge_id true (follower hs x true) ++ one_link ren x.edge_id false (follower hs x false)

abbrev pub all_links : (Dart → Dart) → List HalfEdge → List Edge → List Link
all_links ren hs xs = flat_map (both_links ren hs) xs

one_write : (ren : Dart → Dart) (edge : ℕ) (way : Bool) (d : Dart) → relink ren edge (hand_back (not way)) d ≡ map link_write (one_link ren edge way d)
one_write ren edge true d = by (same_dart (ren d) d)
  where
    k : Link
    k = record { back = record { edge = edge; forward = false }; next = ren d }

    by : (b : Bool) → cond b [] (link_write k ∷ []) ≡ map link_write (cond b [] (k ∷ []))
    by true = refl
    by false = refl
one_write ren edge false d = by (same_dart (ren d) d)
  where
    k : Link
    k = record { back = record { edge = edge; forward = true }; next = ren d }

    by : (b : Bool) → cond b [] (link_write k ∷ []) ≡ map link_write (cond b [] (k ∷ []))
    by true = refl
    by false = refl

row_writes : (ren : Dart → Dart) (hs : List HalfEdge) (x : Edge) → relinks ren (edge_row hs x) ≡ map link_write (both_links ren hs x)
row_writes ren hs x =
    (λ i. one_write ren x.edge_id true (follower hs x true) i ++ one_write ren x.edge_id false (follower hs x false) i)
    ∙ sym (map_append link_write (one_link ren x.edge_id true (follower hs x true)) (one_link ren x.edge_id false (follower hs x false)))

pub writes_are : (ren : Dart → Dart) (hs : List HalfEdge) (xs : List Edge) → all_relinks ren (map (edge_row hs) xs) ≡ map link_write (all_links ren hs xs)
writes_are ren hs [] = refl
writes_are ren hs (x ∷ xs) =
    (λ i. row_writes ren hs x i ++ writes_are ren hs xs i) ∙ sym (map_append link_write (both_links ren hs x) (all_links ren hs xs))

-- ---- what they leave
abbrev set_one : Link → EdgeRow → EdgeRow
set_one k r = cond (edge_row_id r == k.back.edge) (with_next (hand_back k.back.forward) k.next r) r

-- ids stay
pub all_set_id : (ks : List Link) (r : EdgeRow) → edge_row_id (all_set ks r) ≡ edge_row_id r
all_set_id [] r = refl
all_set_id (k ∷ ks) r = all_set_id ks (set_one k r) ∙ set_id (edge_row_id r == k.back.edge) k.back.forward k.next r

pub has_mapped : (f : EdgeRow → EdgeRow) → ((r : EdgeRow) → edge_row_id (f r) ≡ edge_row_id r) → (n : ℕ) (rows : List EdgeRow) → list_any (λ r. edge_row_id r == n) (map f rows) ≡ list_any (λ r. edge_row_id r == n) rows
has_mapped f same n [] = refl
has_mapped f same n (r ∷ rows) = λ i. (same r i == n) || has_mapped f same n rows i

pub links_keep : (ks : List Link) (n : ℕ) (rows : List EdgeRow) → list_any (λ r. edge_row_id r == n) (map (all_set ks) rows) ≡ list_any (λ r. edge_row_id r == n) rows
links_keep ks n rows = has_mapped (all_set ks) (all_set_id ks) n rows

-- ---- each is right
right_append : (ks js : List Link) (x : Edge) (way : Bool) (d : Dart) → LinksAreRight ks x way d → LinksAreRight js x way d → LinksAreRight (ks ++ js) x way d
right_append [] js x way d a b = b
right_append (k ∷ ks) js x way d a b = (a.0, right_append ks js x way d a.1 b)

way_is : (w way : Bool) → same_way (not (not w)) way ≡ true → w ≡ way
way_is true true h = refl
way_is true false h = absurd cc
way_is false true h = absurd cc
way_is false false h = refl

way_self : (w : Bool) → same_way (not (not w)) w ≡ true
way_self true = refl
way_self false = refl

right_one : (ren : Dart → Dart) (edge : ℕ) (w : Bool) (d : Dart) (x : Edge) (way : Bool) (goal : Dart) → (x.edge_id ≡ edge → w ≡ way → ren d ≡ goal) → LinksAreRight (one_link ren edge w d) x way goal
right_one ren edge w d x way goal each = by (same_dart (ren d) d)
  where
    k : Link
    k = record { back = record { edge = edge; forward = not w }; next = ren d }

    by : (b : Bool) → LinksAreRight (cond b [] (k ∷ [])) x way goal
    by true = tt
    by false = (λ is. let both = and_parts (x.edge_id == edge) (same_way (not (not w)) way) is in each (eqb-true x.edge_id edge both.0) (way_is w way both.1), tt)

right_all : (ren : Dart → Dart) (hs : List HalfEdge) (ys : List Edge) (x : Edge) (way : Bool) (goal : Dart) → ((y : Edge) → Contains ys y → x.edge_id ≡ y.edge_id → (w : Bool) → w ≡ way → ren (follower hs y w) ≡ goal)
    → LinksAreRight (all_links ren hs ys) x way goal
right_all ren hs [] x way goal each = tt
right_all ren hs (y ∷ ys) x way goal each =
    right_append (both_links ren hs y) (all_links ren hs ys) x way goal
    (right_append (one_link ren y.edge_id true (follower hs y true)) (one_link ren y.edge_id false (follower hs y false)) x way goal
    (right_one ren y.edge_id true (follower hs y true) x way goal (λ e w. each y (contains_here y ys) e true w))
    (right_one ren y.edge_id false (follower hs y false) x way goal (λ e w. each y (contains_here y ys) e false w)))
    (right_all ren hs ys x way goal (λ z c. each z (contains_there z y ys c)))

-- ---- and one that is to be set is set
any_one : (ren : Dart → Dart) (x : Edge) (way : Bool) (d : Dart) → same_dart (ren d) d ≡ false → list_any (λ j. is_of j x way) (one_link ren x.edge_id way d) ≡ true
any_one ren x way d is = by (same_dart (ren d) d) is
  where
    k : Link
    k = record { back = record { edge = x.edge_id; forward = not way }; next = ren d }

    by : (b : Bool) → b ≡ false → list_any (λ j. is_of j x way) (cond b [] (k ∷ [])) ≡ true
    by true e = absurd cc
    by false e = or_left (is_of k x way) false (and_from (x.edge_id == x.edge_id) (same_way (not (not way)) way) (eq-eqb x.edge_id x.edge_id refl) (way_self way))

any_both : (ren : Dart → Dart) (hs : List HalfEdge) (x : Edge) (way : Bool) → same_dart (ren (follower hs x way)) (follower hs x way) ≡ false → list_any (λ j. is_of j x way) (both_links ren hs x) ≡ true
any_both ren hs x true is =
    any_more (λ j. is_of j x true) (one_link ren x.edge_id true (follower hs x true)) (one_link ren x.edge_id false (follower hs x false)) (any_one ren x true (follower hs x true) is)
any_both ren hs x false is =
    any_behind (λ j. is_of j x false) (one_link ren x.edge_id true (follower hs x true)) (one_link ren x.edge_id false (follower hs x false)) (any_one ren x false (follower hs x false) is)

any_all : (ren : Dart → Dart) (hs : List HalfEdge) (ys : List Edge) (x : Edge) (way : Bool) → Contains ys x → same_dart (ren (follower hs x way)) (follower hs x way) ≡ false
    → list_any (λ j. is_of j x way) (all_links ren hs ys) ≡ true
any_all ren hs [] x way c is = absurd (contains_none x c)
any_all ren hs (y ∷ ys) x way c is =
    ⊎_elim
    (λ (e : y ≡ x).
    any_more (λ j. is_of j x way) (both_links ren hs y) (all_links ren hs ys)
    (subst (λ (z : Edge). list_any (λ j. is_of j x way) (both_links ren hs z) ≡ true) (sym e) (any_both ren hs x way is)))
    (λ (d : Contains ys x). any_behind (λ j. is_of j x way) (both_links ren hs y) (all_links ren hs ys) (any_all ren hs ys x way d is))
    (contains_cases x y ys c)

-- ---- the rows
-- an edge that was there names each dart by its new name
one_set : (ren : Dart → Dart) (hs : List HalfEdge) (xs : List Edge) → ((x y : Edge) → Contains xs x → Contains xs y → x.edge_id ≡ y.edge_id → x ≡ y) → (x : Edge) → Contains xs x → (way : Bool)
    → link_after (all_links ren hs xs) x way (follower hs x way) ≡ ren (follower hs x way)
one_set ren hs xs one x c way =
    let d = follower hs x way in
    let ks = all_links ren hs xs in
    let right = right_all ren hs xs x way (ren d) (λ y cy e w is. λ i. ren (follower hs (one y x cy c (sym e) i) (is i))) in
    ⊎_elim
    (λ (t : same_dart (ren d) d ≡ true). stays_right ks x way (ren d) d right (sym (same_out (ren d) d t)))
    (λ (t : same_dart (ren d) d ≡ false). becomes_right ks x way (ren d) d right (any_all ren hs xs x way c t))
    (by_bool (same_dart (ren d) d))

pub row_relinked : (ren : Dart → Dart) (hs : List HalfEdge) (xs : List Edge) → ((x y : Edge) → Contains xs x → Contains xs y → x.edge_id ≡ y.edge_id → x ≡ y) → (x : Edge) → Contains xs x
    → all_set (all_links ren hs xs) (edge_row hs x) ≡ row_with x (ren (follower hs x true)) (ren (follower hs x false))
row_relinked ren hs xs one x c =
    row_after (all_links ren hs xs) x (follower hs x true) (follower hs x false) ∙ (λ i. row_with x (one_set ren hs xs one x c true i) (one_set ren hs xs one x c false i))

-- and an edge with an id of its own stays
pub row_kept : (ren : Dart → Dart) (hs : List HalfEdge) (xs : List Edge) (z : Edge) (left right : Dart) → ((y : Edge) → Contains xs y → z.edge_id ≡ y.edge_id → ⊥) → all_set (all_links ren hs xs) (row_with z left right) ≡ row_with z left right
row_kept ren hs xs z left right none =
    let ks = all_links ren hs xs in
    let on = stays_right ks z true left left (right_all ren hs xs z true left (λ y c e w is. absurd (none y c e))) refl in
    let back = stays_right ks z false right right (right_all ren hs xs z false right (λ y c e w is. absurd (none y c e))) refl in
    row_after ks z left right ∙ (λ i. row_with z (on i) (back i))

-- ---- they may be written
known_append : (has : ℕ → Bool) (ks js : List Link) → AreKnown has ks → AreKnown has js → AreKnown has (ks ++ js)
known_append has [] js a b = b
known_append has (k ∷ ks) js a b = (a.0, a.1, known_append has ks js a.2 b)

pub renamed_known : (m id id' : ℕ) (has : ℕ → Bool) (d : Dart) → has id ≡ true → has id' ≡ true → has d.edge ≡ true → has (renamed m id id' d).edge ≡ true
renamed_known m id id' has d first second own = by (d.edge == m) d.forward
  where
    by : (b w : Bool) → has (cond b (record { edge = cond w id id'; forward = d.forward }) d).edge ≡ true
    by true true = first
    by true false = second
    by false w = own

one_known : (ren : Dart → Dart) (has : ℕ → Bool) (edge : ℕ) (way : Bool) (d : Dart) → has edge ≡ true → has (ren d).edge ≡ true → AreKnown has (one_link ren edge way d)
one_known ren has edge way d own next = by (same_dart (ren d) d)
  where
    k : Link
    k = record { back = record { edge = edge; forward = not way }; next = ren d }

    by : (b : Bool) → AreKnown has (cond b [] (k ∷ []))
    by true = tt
    by false = (own, next, tt)

pub links_known : (ren : Dart → Dart) (hs : List HalfEdge) (has : ℕ → Bool) (xs : List Edge) → ((x : Edge) → Contains xs x → has x.edge_id ≡ true) → ((x : Edge) (way : Bool) → Contains xs x → has (ren (follower hs x way)).edge ≡ true)
    → AreKnown has (all_links ren hs xs)
links_known ren hs has [] own next = tt
links_known ren hs has (x ∷ xs) own next =
    known_append has (both_links ren hs x) (all_links ren hs xs)
    (known_append has (one_link ren x.edge_id true (follower hs x true)) (one_link ren x.edge_id false (follower hs x false))
    (one_known ren has x.edge_id true (follower hs x true) (own x (contains_here x xs)) (next x true (contains_here x xs)))
    (one_known ren has x.edge_id false (follower hs x false) (own x (contains_here x xs)) (next x false (contains_here x xs))))
    (links_known ren hs has xs (λ y c. own y (contains_there y x xs c)) (λ y way c. next y way (contains_there y x xs c)))
