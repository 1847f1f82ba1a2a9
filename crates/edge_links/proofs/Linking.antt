-- Writes of links, row by row.
use Rattle.std.proofs.Common.{◌≡◌, refl, ◌∙◌, ap, Bool, true, false, not, cond, eqb, List, [], ◌∷◌, ◌++◌, map}
use Rattle.std.specs.Prelude.{◌&&◌, ◌||◌, ◌==◌, if◌then◌else◌}
use Rattle.std.specs.List.{Contains, list_any}
use Rattle.topo_base.specs.Darts.{same_way}
use Rattle.topo_base.specs.declared.ids.Dart.{Dart}
use Rattle.topo_base.specs.declared.rows.Counters.{Counters}
use Rattle.topo_base.specs.declared.rows.EdgeRow.{EdgeRow}
use Rattle.topo_base.specs.declared.write.RowWrite.{RowWrite}
use Rattle.plane.proofs.ListTests.{contains_here, contains_there}
use Rattle.drawing.specs.Drawing.{Edge}
use Rattle.drawing.specs.Tables.{Tables}
use Rattle.drawing.specs.Writes.{written, all_written, with_next, edge_row_id}
use Rattle.edge_links.specs.Links.{hand_back, link_back}

-- ---- lists mapped
pub map_append : {X Y : Type 0} (f : X → Y) (xs ys : List X) → map f (xs ++ ys) ≡ map f xs ++ map f ys
map_append f [] ys = refl
map_append f (x ∷ xs) ys = ap (λ zs. f x ∷ zs) (map_append f xs ys)

pub map_map : {X Y Z : Type 0} (f : Y → Z) (g : X → Y) (xs : List X) → map f (map g xs) ≡ map (λ x. f (g x)) xs
map_map f g [] = refl
map_map f g (x ∷ xs) = ap (λ zs. f (g x) ∷ zs) (map_map f g xs)

pub map_self : {X : Type 0} (xs : List X) → xs ≡ map (λ x. x) xs
map_self [] = refl
map_self (x ∷ xs) = ap (λ zs. x ∷ zs) (map_self xs)

-- each row changed is the row that is to be
pub map_rows : (f : EdgeRow → EdgeRow) (g h : Edge → EdgeRow) (xs : List Edge) → ((x : Edge) → Contains xs x → f (g x) ≡ h x) → map f (map g xs) ≡ map h xs
map_rows f g h [] each = refl
map_rows f g h (x ∷ xs) each = ap (λ r. r ∷ map f (map g xs)) (each x (contains_here x xs)) ∙ ap (λ rs. h x ∷ rs) (map_rows f g h xs (λ y c. each y (contains_there y x xs c)))

-- ---- a link of a dart walked back, and what follows it
pub record Link : Type 0 where
  pub back : Dart
  pub next : Dart

abbrev pub link_write : Link → RowWrite
link_write k = link_back k.back k.next

abbrev pub link_set : Link → EdgeRow → EdgeRow
link_set k r = if edge_row_id r == k.back.edge then with_next (hand_back k.back.forward) k.next r else r

abbrev pub all_set : List Link → EdgeRow → EdgeRow
all_set [] r = r
all_set (k ∷ ks) r = all_set ks (link_set k r)

pub links_written : (n : Counters) (t : Tables) (ks : List Link) → (all_written n t (map link_write ks)).edges ≡ map (all_set ks) t.edges
links_written n t [] = map_self t.edges
links_written n t (k ∷ ks) = links_written n (written n t (link_write k)) ks ∙ map_map (all_set ks) (link_set k) t.edges

-- ---- the row of an edge with these links
abbrev pub row_with : Edge → Dart → Dart → EdgeRow
row_with x left right =
    record {
      edge_id = x.edge_id;
      start_node = x.start_node;
      end_node = x.end_node;
      next_left_edge = left;
      next_right_edge = right;
      left_face = x.left_face;
      right_face = x.right_face;
      geom = x.geom;
    }

-- the link is that of this edge, walked this way
abbrev pub is_of : Link → Edge → Bool → Bool
is_of k x way = x.edge_id == k.back.edge && same_way (not k.back.forward) way

set_by : (b w : Bool) (next : Dart) (x : Edge) (left right : Dart) →
    cond b (with_next (hand_back w) next (row_with x left right)) (row_with x left right)
    ≡ row_with x (cond (b && same_way (not w) true) next left) (cond (b && same_way (not w) false) next right)
set_by true true next x left right = refl
set_by true false next x left right = refl
set_by false w next x left right = refl

-- what the link of the edge, walked this way, is after all
abbrev pub link_after : List Link → Edge → Bool → Dart → Dart
link_after [] x way d = d
link_after (k ∷ ks) x way d = link_after ks x way (if is_of k x way then k.next else d)

pub row_after : (ks : List Link) (x : Edge) (left right : Dart) → all_set ks (row_with x left right) ≡ row_with x (link_after ks x true left) (link_after ks x false right)
row_after [] x left right = refl
row_after (k ∷ ks) x left right =
    ap (all_set ks) (set_by (eqb x.edge_id k.back.edge) k.back.forward k.next x left right)
    ∙ row_after ks x (if is_of k x true then k.next else left) (if is_of k x false then k.next else right)

-- each of these that is of the edge is right
abbrev pub LinksAreRight : List Link → Edge → Bool → Dart → Type 0
LinksAreRight [] x way d = Unit {0}
LinksAreRight (k ∷ ks) x way d = (is_of k x way ≡ true → k.next ≡ d) × LinksAreRight ks x way d

keep_by : (b : Bool) (next d e : Dart) → (b ≡ true → next ≡ d) → e ≡ d → cond b next e ≡ d
keep_by true next d e right is = right refl
keep_by false next d e right is = is

-- a link that is right stays so
pub stays_right : (ks : List Link) (x : Edge) (way : Bool) (d e : Dart) → LinksAreRight ks x way d → e ≡ d → link_after ks x way e ≡ d
stays_right [] x way d e right is = is
stays_right (k ∷ ks) x way d e right is = stays_right ks x way d (if is_of k x way then k.next else e) right.1 (keep_by (is_of k x way) k.next d e right.0 is)

becomes_by : (b : Bool) (k : Link) (ks : List Link) (x : Edge) (way : Bool) (d e : Dart) → (b ≡ true → k.next ≡ d) → LinksAreRight ks x way d → (b || list_any (λ j. is_of j x way) ks) ≡ true
    → ((c : Dart) → list_any (λ j. is_of j x way) ks ≡ true → link_after ks x way c ≡ d) → link_after ks x way (cond b k.next e) ≡ d
becomes_by true k ks x way d e right rest any more = stays_right ks x way d k.next rest (right refl)
becomes_by false k ks x way d e right rest any more = more e any

-- one that is set becomes right
pub becomes_right : (ks : List Link) (x : Edge) (way : Bool) (d e : Dart) → LinksAreRight ks x way d → list_any (λ j. is_of j x way) ks ≡ true → link_after ks x way e ≡ d
becomes_right [] x way d e right any = absurd cc
becomes_right (k ∷ ks) x way d e right any = becomes_by (is_of k x way) k ks x way d e right.0 right.1 any (λ c more. becomes_right ks x way d c right.1 more)
