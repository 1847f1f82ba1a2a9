-- An entry is known from its spelling, whatever follows.
use Rattle.std.proofs.Common.{◌≡◌, ℕ, ◌^◌, ◌&&◌, List, ◌∷◌, ◌++◌, length, take, drop, get_or, flat_map, IsTrue, Option, Some, None, nat_le, refl, sym, ap, ◌∙◌, arith, append_assoc, leb-true, lt-ltb}
use Rattle.std.specs.List.{list_all}
use Rattle.std.proofs.lemmas.Bool.{and_parts}
use Rattle.std.proofs.Math.Seq.{take-append_seam, drop-append_seam}
use Rattle.topo_base.specs.Point.{Point}
use Rattle.topo_base.specs.declared.edit.Pair.{Pair}
use Rattle.topo_base.specs.declared.kind.Kind.{Kind}
use Rattle.topo_base.specs.declared.kind.Kind.TheVariants.{Puntal, Lineal, Areal}
use Rattle.topo_base.specs.declared.edit.Edit.{Edit}
use Rattle.topo_base.specs.declared.edit.Edit.TheVariants.{AddIsoNode, MoveIsoNode, RemoveIsoNode, AddIsoEdge, RemoveIsoEdge, AddEdgeModFace, AddEdgeNewFaces, RemEdgeModFace, RemEdgeNewFace, ModEdgeSplit, NewEdgesSplit, ModEdgeHeal, NewEdgeHeal, AddLayer, CreateTopoGeom, AddElement, RemElement, DropFeature}
use Rattle.topo_base.specs.declared.edit.Entry.{Entry}
use Rattle.topo_base.specs.Kinds.{kind_number}
use Rattle.drawing.specs.Accepted.{is_line_short, keeps_limits, is_editor}
use Rattle.topo_base.specs.Names.{is_name}
use Rattle.drawing.specs.InRange.{is_id, is_option_id, is_grid_point, is_pair, is_in_range, is_edit, is_spelled}
use Rattle.history_model.specs.Spelling.{number_bytes, point_bytes, option_bytes, line_bytes, pair_bytes, pairs_bytes, name_bytes, edit_bytes, entry_bytes}
use Rattle.history_model.proofs.Fronts.{number_front, point_front, pair_front, list_front}

abbrev first_byte : List ℕ → ℕ
first_byte bytes = get_or bytes 0 0

option_front : (f g : Option ℕ) (a b : List ℕ) → IsTrue (is_option_id f) → IsTrue (is_option_id g) → option_bytes f ++ a ≡ option_bytes g ++ b → (f ≡ g) × (a ≡ b)
option_front None None a b h k e = (refl, ap (drop 1) e)
option_front None (Some g) a b h k e = cc
option_front (Some f) None a b h k e = cc
option_front (Some f) (Some g) a b h k e = let parts = number_front f g a b h k (ap (drop 1) e) in (ap Some parts.0, parts.1)

short_id : (n : ℕ) → IsTrue (nat_le n 4096) → IsTrue (is_id n)
short_id n h = let small = leb-true n 4096 h in lt-ltb n (2 ^ 32) (omega arith)

line_front : (line line' : List Point) (a b : List ℕ) → IsTrue (is_line_short line) → IsTrue (is_line_short line') → IsTrue (list_all is_grid_point line) → IsTrue (list_all is_grid_point line')
    → line_bytes line ++ a ≡ line_bytes line' ++ b → (line ≡ line') × (a ≡ b)
line_front line line' a b s s' h k e =
    let p = and_parts (nat_le 2 (length line)) (nat_le (length line) 4096) s in
    let q = and_parts (nat_le 2 (length line')) (nat_le (length line') 4096) s' in
    let count = number_front (length line) (length line') (flat_map point_bytes line ++ a) (flat_map point_bytes line' ++ b) (short_id _ p.1) (short_id _ q.1) e in
    list_front point_bytes is_grid_point point_front line line' a b h k count.0 count.1

pairs_front : (xs ys : List Pair) (a b : List ℕ) → IsTrue (nat_le (length xs) 4096) → IsTrue (nat_le (length ys) 4096) → IsTrue (list_all is_pair xs) → IsTrue (list_all is_pair ys)
    → pairs_bytes xs ++ a ≡ pairs_bytes ys ++ b → (xs ≡ ys) × (a ≡ b)
pairs_front xs ys a b s s' h k e =
    let count = number_front (length xs) (length ys) (flat_map pair_bytes xs ++ a) (flat_map pair_bytes ys ++ b) (short_id _ s) (short_id _ s') e in
    list_front pair_bytes is_pair pair_front xs ys a b h k count.0 count.1

bytes_front : (xs ys a b : List ℕ) → length xs ≡ length ys → xs ++ a ≡ ys ++ b → (xs ≡ ys) × (a ≡ b)
bytes_front xs ys a b l e = (
  sym (take-append_seam xs a) ∙ ap (take (length xs)) e ∙ ap (λ n. take n (ys ++ b)) l ∙ take-append_seam ys b,
  sym (drop-append_seam xs a) ∙ ap (drop (length xs)) e ∙ ap (λ n. drop n (ys ++ b)) l ∙ drop-append_seam ys b,
)

name_front : (name name' a b : List ℕ) → name_bytes name ++ a ≡ name_bytes name' ++ b → (name ≡ name') × (a ≡ b)
name_front name name' a b e = bytes_front name name' a b (ap first_byte e) (ap (drop 1) e)

one_kind : (k l : Kind) → kind_number k ≡ kind_number l → k ≡ l
one_kind Puntal Puntal e = refl
one_kind Puntal Lineal e = absurd (omega arith)
one_kind Puntal Areal e = absurd (omega arith)
one_kind Lineal Puntal e = absurd (omega arith)
one_kind Lineal Lineal e = refl
one_kind Lineal Areal e = absurd (omega arith)
one_kind Areal Puntal e = absurd (omega arith)
one_kind Areal Lineal e = absurd (omega arith)
one_kind Areal Areal e = refl

-- ---- the fields of an edit
edge_fields : (n m : ℕ) (line : List Point) (n' m' : ℕ) (line' : List Point) (a b : List ℕ) → IsTrue (is_line_short line) → IsTrue (is_line_short line')
    → IsTrue (is_id n && is_id m && list_all is_grid_point line) → IsTrue (is_id n' && is_id m' && list_all is_grid_point line')
    → number_bytes n ++ (number_bytes m ++ (line_bytes line ++ a)) ≡ number_bytes n' ++ (number_bytes m' ++ (line_bytes line' ++ b)) → (n ≡ n') × (m ≡ m') × (line ≡ line') × (a ≡ b)
edge_fields n m line n' m' line' a b s s' h k e =
    let p = and_parts (is_id n && is_id m) (list_all is_grid_point line) h in
    let q = and_parts (is_id n' && is_id m') (list_all is_grid_point line') k in
    let p' = and_parts (is_id n) (is_id m) p.0 in
    let q' = and_parts (is_id n') (is_id m') q.0 in
    let one = number_front n n' _ _ p'.0 q'.0 e in
    let two = number_front m m' _ _ p'.1 q'.1 one.1 in
    let three = line_front line line' a b s s' p.1 q.1 two.1 in
    (one.0, two.0, three.0, three.1)

place_fields : (n n' : ℕ) (p p' : Point) (a b : List ℕ) → IsTrue (is_id n && is_grid_point p) → IsTrue (is_id n' && is_grid_point p')
    → number_bytes n ++ (point_bytes p ++ a) ≡ number_bytes n' ++ (point_bytes p' ++ b) → (n ≡ n') × (p ≡ p') × (a ≡ b)
place_fields n n' p p' a b h k e =
    let x = and_parts (is_id n) (is_grid_point p) h in
    let y = and_parts (is_id n') (is_grid_point p') k in
    let one = number_front n n' _ _ x.0 y.0 e in
    let two = point_front p p' a b x.1 y.1 one.1 in
    (one.0, two.0, two.1)

two_fields : (n n' m m' : ℕ) (a b : List ℕ) → IsTrue (is_id n && is_id m) → IsTrue (is_id n' && is_id m')
    → number_bytes n ++ (number_bytes m ++ a) ≡ number_bytes n' ++ (number_bytes m' ++ b) → (n ≡ n') × (m ≡ m') × (a ≡ b)
two_fields n n' m m' a b h k e =
    let x = and_parts (is_id n) (is_id m) h in
    let y = and_parts (is_id n') (is_id m') k in
    let one = number_front n n' _ _ x.0 y.0 e in
    let two = number_front m m' a b x.1 y.1 one.1 in
    (one.0, two.0, two.1)

three_fields : (n n' m m' t t' : ℕ) (a b : List ℕ) → IsTrue (is_id n && is_id m && is_id t) → IsTrue (is_id n' && is_id m' && is_id t')
    → number_bytes n ++ (number_bytes m ++ (number_bytes t ++ a)) ≡ number_bytes n' ++ (number_bytes m' ++ (number_bytes t' ++ b)) → (n ≡ n') × (m ≡ m') × (t ≡ t') × (a ≡ b)
three_fields n n' m m' t t' a b h k e =
    let x = and_parts (is_id n && is_id m) (is_id t) h in
    let y = and_parts (is_id n' && is_id m') (is_id t') k in
    let front = two_fields n n' m m' (number_bytes t ++ a) (number_bytes t' ++ b) x.0 y.0 e in
    let last = number_front t t' a b x.1 y.1 front.2 in
    (front.0, front.1, last.0, last.1)

-- ---- an edit
pub edit_front : (d e : Edit) (a b : List ℕ) → IsTrue (keeps_limits d) → IsTrue (keeps_limits e) → IsTrue (is_in_range d) → IsTrue (is_in_range e) → edit_bytes d ++ a ≡ edit_bytes e ++ b → (d ≡ e) × (a ≡ b)
edit_front (AddIsoNode f p) (AddIsoNode g q) a b s s' h k e =
    let x = and_parts (is_option_id f) (is_grid_point p) h in
    let y = and_parts (is_option_id g) (is_grid_point q) k in
    let e' = sym (append_assoc (option_bytes f) (point_bytes p) a) ∙ ap (drop 1) e ∙ append_assoc (option_bytes g) (point_bytes q) b in
    let one = option_front f g _ _ x.0 y.0 e' in
    let two = point_front p q a b x.1 y.1 one.1 in
    (λ i. AddIsoNode (one.0 i) (two.0 i), two.1)
edit_front (MoveIsoNode n p) (MoveIsoNode m q) a b s s' h k e = let f = place_fields n m p q a b h k (ap (drop 1) e) in (λ i. MoveIsoNode (f.0 i) (f.1 i), f.2)
edit_front (RemoveIsoNode n) (RemoveIsoNode m) a b s s' h k e = let f = number_front n m a b h k (ap (drop 1) e) in (ap RemoveIsoNode f.0, f.1)
edit_front (AddIsoEdge n m l) (AddIsoEdge n' m' l') a b s s' h k e = let f = edge_fields n m l n' m' l' a b s s' h k (ap (drop 1) e) in (λ i. AddIsoEdge (f.0 i) (f.1 i) (f.2 i), f.3)
edit_front (RemoveIsoEdge n) (RemoveIsoEdge m) a b s s' h k e = let f = number_front n m a b h k (ap (drop 1) e) in (ap RemoveIsoEdge f.0, f.1)
edit_front (AddEdgeModFace n m l) (AddEdgeModFace n' m' l') a b s s' h k e = let f = edge_fields n m l n' m' l' a b s s' h k (ap (drop 1) e) in (λ i. AddEdgeModFace (f.0 i) (f.1 i) (f.2 i), f.3)
edit_front (AddEdgeNewFaces n m l) (AddEdgeNewFaces n' m' l') a b s s' h k e = let f = edge_fields n m l n' m' l' a b s s' h k (ap (drop 1) e) in (λ i. AddEdgeNewFaces (f.0 i) (f.1 i) (f.2 i), f.3)
edit_front (RemEdgeModFace n) (RemEdgeModFace m) a b s s' h k e = let f = number_front n m a b h k (ap (drop 1) e) in (ap RemEdgeModFace f.0, f.1)
edit_front (RemEdgeNewFace n) (RemEdgeNewFace m) a b s s' h k e = let f = number_front n m a b h k (ap (drop 1) e) in (ap RemEdgeNewFace f.0, f.1)
edit_front (ModEdgeSplit n p) (ModEdgeSplit m q) a b s s' h k e = let f = place_fields n m p q a b h k (ap (drop 1) e) in (λ i. ModEdgeSplit (f.0 i) (f.1 i), f.2)
edit_front (NewEdgesSplit n p) (NewEdgesSplit m q) a b s s' h k e = let f = place_fields n m p q a b h k (ap (drop 1) e) in (λ i. NewEdgesSplit (f.0 i) (f.1 i), f.2)
edit_front (ModEdgeHeal n m) (ModEdgeHeal n' m') a b s s' h k e = let f = two_fields n n' m m' a b h k (ap (drop 1) e) in (λ i. ModEdgeHeal (f.0 i) (f.1 i), f.2)
edit_front (NewEdgeHeal n m) (NewEdgeHeal n' m') a b s s' h k e = let f = two_fields n n' m m' a b h k (ap (drop 1) e) in (λ i. NewEdgeHeal (f.0 i) (f.1 i), f.2)
edit_front (AddLayer name kind child) (AddLayer name' kind' child') a b s s' h k e =
    let x = and_parts (is_name name) (is_option_id child) h in
    let y = and_parts (is_name name') (is_option_id child') k in
    let e' = sym (append_assoc (name_bytes name) (kind_number kind ∷ option_bytes child) a) ∙ ap (drop 1) e ∙ append_assoc (name_bytes name') (kind_number kind' ∷ option_bytes child') b in
    let one = name_front name name' (kind_number kind ∷ (option_bytes child ++ a)) (kind_number kind' ∷ (option_bytes child' ++ b)) e' in
    let two = one_kind kind kind' (ap first_byte one.1) in
    let three = option_front child child' a b x.1 y.1 (ap (drop 1) one.1) in
    (λ i. AddLayer (one.0 i) (two i) (three.0 i), three.1)
edit_front (CreateTopoGeom l xs) (CreateTopoGeom l' xs') a b s s' h k e =
    let x = and_parts (is_id l) (list_all is_pair xs) h in
    let y = and_parts (is_id l') (list_all is_pair xs') k in
    let one = number_front l l' (pairs_bytes xs ++ a) (pairs_bytes xs' ++ b) x.0 y.0 (ap (drop 1) e) in
    let two = pairs_front xs xs' a b s s' x.1 y.1 one.1 in
    (λ i. CreateTopoGeom (one.0 i) (two.0 i), two.1)
edit_front (AddElement n m t) (AddElement n' m' t') a b s s' h k e = let f = three_fields n n' m m' t t' a b h k (ap (drop 1) e) in (λ i. AddElement (f.0 i) (f.1 i) (f.2 i), f.3)
edit_front (RemElement n m t) (RemElement n' m' t') a b s s' h k e = let f = three_fields n n' m m' t t' a b h k (ap (drop 1) e) in (λ i. RemElement (f.0 i) (f.1 i) (f.2 i), f.3)
edit_front (DropFeature n) (DropFeature m) a b s s' h k e = let f = number_front n m a b h k (ap (drop 1) e) in (ap DropFeature f.0, f.1)
edit_front d e' a b s s' h k e = absurd (let tags = ap first_byte e in omega arith)

-- ---- an entry
pub entry_front : (x y : Entry) (a b : List ℕ) → IsTrue (is_spelled x) → IsTrue (is_spelled y) → entry_bytes x ++ a ≡ entry_bytes y ++ b → (x ≡ y) × (a ≡ b)
entry_front x y a b h k e =
    let p = and_parts (is_editor x.editor) (is_edit x.edit) h in
    let q = and_parts (is_editor y.editor) (is_edit y.edit) k in
    let p' = and_parts (keeps_limits x.edit) (is_in_range x.edit) p.1 in
    let q' = and_parts (keeps_limits y.edit) (is_in_range y.edit) q.1 in
    let one = number_front x.editor y.editor (edit_bytes x.edit ++ a) (edit_bytes y.edit ++ b) (editor_id x.editor p.0) (editor_id y.editor q.0) e in
    let two = edit_front x.edit y.edit a b p'.0 q'.0 p'.1 q'.1 one.1 in
    (λ i. record { editor = one.0 i; edit = two.0 i }, two.1)
  where
    editor_id : (n : ℕ) → IsTrue (is_editor n) → IsTrue (is_id n)
    editor_id n h = let small = leb-true n 64 (and_parts (nat_le 1 n) (nat_le n 64) h).1 in lt-ltb n (2 ^ 32) (omega arith)
