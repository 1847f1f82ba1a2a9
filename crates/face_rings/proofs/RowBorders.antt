-- Borders as they are made and changed.
use Rattle.std.proofs.Common.{◌≡◌, ℕ, zero, suc, ◌+◌, ◌<◌, ◌≤◌, refl, sym, ◌∙◌, ap, subst, arith, Bool, true, false, List, [], ◌∷◌, ◌++◌, length, map, take, drop, get_or, set, cond, Bor}
use Rattle.std.specs.Prelude.{◌==◌, filter, flat_map}
use Rattle.std.proofs.lemmas.Bool.{and_parts, and_from}
use Rattle.std.proofs.lemmas.List.{append-nil, map-append, take_more, take_all, take-append-drop}
use Rattle.std.proofs.lemmas.List.Concat.{flat_map-append}
use Rattle.topo_base.specs.Darts.{same_dart}
use Rattle.topo_base.specs.declared.ids.Dart.{Dart}
use Rattle.topo_base.specs.declared.rows.EdgeRow.{EdgeRow}
use Rattle.drawing.specs.Drawing.{Edge}
use Rattle.drawing.specs.HalfEdge.{HalfEdge, forward_of, backward_of, both_ways}
use Rattle.drawing.specs.Tables.{edge_row}
use Rattle.face_rings.specs.declared.content.BorderDart.{BorderDart}
use Rattle.face_rings.specs.Border.{dart_before, darts_ascend}
use Rattle.face_rings.specs.FaceBorder.{is_beside, border_dart}
use Rattle.face_rings.specs.RowBorder.{only_if, row_border, rows_border, with_next}
use Rattle.face_rings.proofs.Ranks.{rank, same_self, not_same, first_less, tail_ascends}

-- ---- the front of darts that ascend
pub front_ascends : (xs ys : List BorderDart) → darts_ascend (xs ++ ys) ≡ true → darts_ascend xs ≡ true
front_ascends [] ys h = refl
front_ascends (a ∷ []) ys h = refl
front_ascends (a ∷ b ∷ xs) ys h =
    let parts = and_parts (dart_before a.dart b.dart) (darts_ascend (b ∷ (xs ++ ys))) h in
    and_from (dart_before a.dart b.dart) (darts_ascend (b ∷ xs)) parts.0 (front_ascends (b ∷ xs) ys parts.1)

-- ---- a changed link
abbrev pub linked_to : Dart → BorderDart → BorderDart
linked_to next b = record b { next = next }

-- the darts stay, so they ascend
pub relinked_ascend : (border : List BorderDart) (i : ℕ) (next : Dart) (x : BorderDart) → darts_ascend border ≡ true → darts_ascend (set border i (linked_to next (get_or border i x))) ≡ true
relinked_ascend [] i next x h = refl
relinked_ascend (a ∷ []) zero next x h = refl
relinked_ascend (a ∷ []) (suc i) next x h = refl
relinked_ascend (a ∷ b ∷ border) zero next x h = h
relinked_ascend (a ∷ b ∷ border) (suc zero) next x h =
    let parts = and_parts (dart_before a.dart b.dart) (darts_ascend (b ∷ border)) h in
    and_from (dart_before a.dart b.dart) (darts_ascend (linked_to next b ∷ border)) parts.0 (relinked_ascend (b ∷ border) zero next x parts.1)
relinked_ascend (a ∷ b ∷ border) (suc (suc i)) next x h =
    let parts = and_parts (dart_before a.dart b.dart) (darts_ascend (b ∷ border)) h in
    and_from (dart_before a.dart b.dart) (darts_ascend (b ∷ set border i (linked_to next (get_or border i x)))) parts.0 (relinked_ascend (b ∷ border) (suc i) next x parts.1)

-- no other dart is d
others_stay : (border : List BorderDart) (d next : Dart) → ((i : ℕ) (x : BorderDart) → i < length border → (get_or border i x).dart ≡ d → ⊥) → with_next d next border ≡ border
others_stay [] d next far = refl
others_stay (b ∷ border) d next far =
    let other = not_same b.dart d (far 0 b (omega arith)) in
    ap (λ t. cond t (linked_to next b) b ∷ with_next d next border) other ∙ ap (λ bs. b ∷ bs) (others_stay border d next (λ i x w. far (suc i) x (omega arith)))

pub relinked : (border : List BorderDart) (i : ℕ) (d next : Dart) (x : BorderDart) → darts_ascend border ≡ true → i < length border → (get_or border i x).dart ≡ d → set border i (linked_to next (get_or border i x)) ≡ with_next d next border
relinked [] i d next x h w at = absurd (omega arith)
relinked (b ∷ border) zero d next x h w at =
    let here : same_dart b.dart d ≡ true = subst (λ (e : Dart). same_dart b.dart e ≡ true) at (same_self b.dart) in
    sym (ap (λ t. cond t (linked_to next b) b ∷ with_next d next border) here
    ∙ ap (λ bs. linked_to next b ∷ bs)
    (others_stay border d next (λ i y v same. let less = first_less b border i y h v in let e = ap rank (at ∙ sym same) in omega arith)))
relinked (b ∷ border) (suc i) d next x h w at =
    let less = first_less b border i x h (omega arith) in
    let other = not_same b.dart d (λ e. let same = ap rank (e ∙ sym at) in omega arith) in
    ap (λ bs. b ∷ bs) (relinked border i d next x (tail_ascends b border h) (omega arith) at)
    ∙ sym (ap (λ t. cond t (linked_to next b) b ∷ with_next d next border) other)

-- ---- the rows of a drawing's edges
pub rows_are : (hs : List HalfEdge) (f : ℕ) (edges : List Edge) → rows_border f (map (edge_row hs) edges) ≡ map (border_dart hs) (filter (is_beside f) (flat_map both_ways edges))
rows_are hs f [] = refl
rows_are hs f (e ∷ edges) =
    sides (e.left_face == f) (e.right_face == f) (forward_of e) (backward_of e) (rows_border f (map (edge_row hs) edges)) (filter (is_beside f) (flat_map both_ways edges)) (rows_are hs f edges)
  where
    sides : (left right : Bool) (h k : HalfEdge) (rest : List BorderDart) (hs' : List HalfEdge) → rest ≡ map (border_dart hs) hs' →
        (only_if left (border_dart hs h) ++ only_if right (border_dart hs k)) ++ rest ≡ map (border_dart hs) (cond left (h ∷ cond right (k ∷ hs') hs') (cond right (k ∷ hs') hs'))
    sides true true h k rest hs' e = ap (λ bs. border_dart hs h ∷ border_dart hs k ∷ bs) e
    sides true false h k rest hs' e = ap (λ bs. border_dart hs h ∷ bs) e
    sides false true h k rest hs' e = ap (λ bs. border_dart hs k ∷ bs) e
    sides false false h k rest hs' e = e

-- ---- the rows, one after another
-- those that are seen
abbrev pub seen_border : ℕ → List (Bor EdgeRow) → List BorderDart
seen_border f rows = rows_border f (map (λ (r : Bor EdgeRow). r.now) rows)

seen_append : (f : ℕ) (xs ys : List (Bor EdgeRow)) → seen_border f (xs ++ ys) ≡ seen_border f xs ++ seen_border f ys
seen_append f xs ys = ap (rows_border f) (map-append (λ (r : Bor EdgeRow). r.now) xs ys) ∙ flat_map-append (row_border f) (map (λ (r : Bor EdgeRow). r.now) xs) (map (λ (r : Bor EdgeRow). r.now) ys)

-- those up to the next row
pub row_more : (f : ℕ) (rows : List (Bor EdgeRow)) (i : ℕ) (row : Bor EdgeRow) (content : List BorderDart) → i < length rows → row ≡ get_or rows i row
    → content ≡ seen_border f (take i rows) → content ++ row_border f row.now ≡ seen_border f (take (i + 1) rows)
row_more f rows i row content w is so_far =
    let parts : take (i + 1) rows ≡ take i rows ++ row ∷ [] = take_more rows i row w ∙ ap (λ r. take i rows ++ r ∷ []) (sym is) in
    ap (λ bs. bs ++ row_border f row.now) so_far ∙ ap (λ bs. seen_border f (take i rows) ++ bs) (sym (append-nil (row_border f row.now)))
    ∙ sym (seen_append f (take i rows) (row ∷ [])) ∙ ap (seen_border f) (sym parts)

-- the next row's darts come behind those that are there
pub row_next : (f : ℕ) (rows : List (Bor EdgeRow)) (i : ℕ) (row : Bor EdgeRow) (content : List BorderDart) → i < length rows → row ≡ get_or rows i row → darts_ascend (seen_border f rows) ≡ true
    → content ≡ seen_border f (take i rows) → darts_ascend (content ++ row_border f row.now) ≡ true
row_next f rows i row content w is up so_far =
    let rest = seen_border f (drop (i + 1) rows) in
    let whole : seen_border f rows ≡ (content ++ row_border f row.now) ++ rest =
    ap (seen_border f) (sym (take-append-drop (i + 1) rows)) ∙ seen_append f (take (i + 1) rows) (drop (i + 1) rows) ∙ ap (λ bs. bs ++ rest) (sym (row_more f rows i row content w is so_far)) in
    front_ascends (content ++ row_border f row.now) rest (subst (λ (bs : List BorderDart). darts_ascend bs ≡ true) whole up)

pub rows_all : (f : ℕ) (rows : List (Bor EdgeRow)) (i : ℕ) (content : List BorderDart) → length rows ≤ i → content ≡ seen_border f (take i rows) → content ≡ seen_border f rows
rows_all f rows i content h so_far = so_far ∙ ap (seen_border f) (take_all i rows h)
