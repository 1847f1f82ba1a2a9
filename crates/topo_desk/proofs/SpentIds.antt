-- The ids that writes make are within a limit exactly where no write adds a row beyond it.
use Rattle.std.proofs.Common.{◌≡◌, ℕ, ◌+◌, Bool, true, false, not, ◌&&◌, ◌||◌, nat_lt, nat_le, List, [], ◌∷◌, IsTrue, refl, sym, ap, ◌∙◌, arith}
use Rattle.std.specs.List.{list_any}
use Rattle.std.proofs.Math.Bool.{and-true, and-false}
use Rattle.std.proofs.lemmas.Bool.Decides.{nat_tests}
use Rattle.topo_base.specs.declared.rows.Counters.{Counters}
use Rattle.topo_base.specs.declared.write.RowId.TheVariants.{Old, Fresh}
use Rattle.topo_base.specs.declared.write.RowWrite.{RowWrite}
use Rattle.topo_base.specs.declared.write.RowWrite.TheVariants.{AddNode, SetContaining, SetPoint, DropNode, AddEdge, SetNext, SetSide, SetLine, DropEdge, AddFace, SetBox, DropFace, AddLayer, AddFeature, DropFeature, AddRow, DropRow, Raise}
use Rattle.drawing.specs.Drawing.{Drawing}
use Rattle.drawing.specs.Accepted.{ids_within}
use Rattle.drawing.specs.Tables.{Tables, tables_of}
use Rattle.drawing.specs.Writable.{CanWrite, CanWriteAll}
use Rattle.drawing.specs.Writes.{written, all_written}
use Rattle.topo_desk.specs.Beyond.{adds_beyond}

-- all next ids are at most one more than the limit
abbrev are_within : ℕ → Counters → Bool
are_within m n = nat_le n.node (m + 1) && nat_le n.edge (m + 1) && nat_le n.face (m + 1) && nat_le n.layer (m + 1) && nat_le n.feature (m + 1)

-- ---- a test more among five
assoc : (a p q : Bool) → (a && (p && q)) ≡ ((a && p) && q)
assoc true p q = refl
assoc false p q = refl

swap : (x q c : Bool) → ((x && q) && c) ≡ ((x && c) && q)
swap false q c = refl
swap true true c = sym (and-true c)
swap true false c = sym (and-false c)

swap_two : (x q c d : Bool) → (x && q && c && d) ≡ ((x && c && d) && q)
swap_two x q c d = ap (λ (y : Bool). y && d) (swap x q c) ∙ swap (x && c) q d

swap_three : (x q c d e : Bool) → (x && q && c && d && e) ≡ ((x && c && d && e) && q)
swap_three x q c d e = ap (λ (y : Bool). y && e) (swap_two x q c d) ∙ swap (x && c && d) q e

swap_four : (x q b c d e : Bool) → (x && q && b && c && d && e) ≡ ((x && b && c && d && e) && q)
swap_four x q b c d e = ap (λ (y : Bool). y && e) (swap_three x q b c d) ∙ swap (x && b && c && d) q e

step : (m x k : ℕ) → k ≡ x → nat_le (x + 1) (m + 1) ≡ (nat_le x (m + 1) && not (nat_lt m k))
step m x k is = grind (arith, nat_tests)

-- ---- one write
one_more : (m : ℕ) (n : Counters) (t : Tables) (w : RowWrite) → CanWrite t w → are_within m (written n t w).next_ids ≡ (are_within m t.next_ids && not (adds_beyond m w))
one_more m n t (AddNode (Old k) face p) can =
    let k' = t.next_ids in
    ap (λ (y : Bool). y && nat_le k'.edge (m + 1) && nat_le k'.face (m + 1) && nat_le k'.layer (m + 1) && nat_le k'.feature (m + 1)) (step m k'.node k can.0.0)
    ∙ swap_four (nat_le k'.node (m + 1)) (not (nat_lt m k)) (nat_le k'.edge (m + 1)) (nat_le k'.face (m + 1)) (nat_le k'.layer (m + 1)) (nat_le k'.feature (m + 1))
one_more m n t (AddNode (Fresh k) face p) can = absurd can.0
one_more m n t (AddEdge (Old k) start end next_left next_right left right line) can =
    let k' = t.next_ids in let a = nat_le k'.node (m + 1) in
    ap (λ (y : Bool). a && y && nat_le k'.face (m + 1) && nat_le k'.layer (m + 1) && nat_le k'.feature (m + 1)) (step m k'.edge k can.0.0)
    ∙ ap (λ (y : Bool). y && nat_le k'.face (m + 1) && nat_le k'.layer (m + 1) && nat_le k'.feature (m + 1)) (assoc a (nat_le k'.edge (m + 1)) (not (nat_lt m k)))
    ∙ swap_three (a && nat_le k'.edge (m + 1)) (not (nat_lt m k)) (nat_le k'.face (m + 1)) (nat_le k'.layer (m + 1)) (nat_le k'.feature (m + 1))
one_more m n t (AddEdge (Fresh k) start end next_left next_right left right line) can = absurd can.0
one_more m n t (AddFace (Old k) mbr) can =
    let k' = t.next_ids in let a = nat_le k'.node (m + 1) && nat_le k'.edge (m + 1) in
    ap (λ (y : Bool). a && y && nat_le k'.layer (m + 1) && nat_le k'.feature (m + 1)) (step m k'.face k can.0)
    ∙ ap (λ (y : Bool). y && nat_le k'.layer (m + 1) && nat_le k'.feature (m + 1)) (assoc a (nat_le k'.face (m + 1)) (not (nat_lt m k)))
    ∙ swap_two (a && nat_le k'.face (m + 1)) (not (nat_lt m k)) (nat_le k'.layer (m + 1)) (nat_le k'.feature (m + 1))
one_more m n t (AddFace (Fresh k) mbr) can = absurd can
one_more m n t (AddLayer (Old k) level child kind name) can =
    let k' = t.next_ids in let a = nat_le k'.node (m + 1) && nat_le k'.edge (m + 1) && nat_le k'.face (m + 1) in
    ap (λ (y : Bool). a && y && nat_le k'.feature (m + 1)) (step m k'.layer k can.0.0)
    ∙ ap (λ (y : Bool). y && nat_le k'.feature (m + 1)) (assoc a (nat_le k'.layer (m + 1)) (not (nat_lt m k)))
    ∙ swap (a && nat_le k'.layer (m + 1)) (not (nat_lt m k)) (nat_le k'.feature (m + 1))
one_more m n t (AddLayer (Fresh k) level child kind name) can = absurd can.0
one_more m n t (AddFeature (Old k) layer) can =
    let k' = t.next_ids in let a = nat_le k'.node (m + 1) && nat_le k'.edge (m + 1) && nat_le k'.face (m + 1) && nat_le k'.layer (m + 1) in
    ap (λ (y : Bool). a && y) (step m k'.feature k can.0.0) ∙ assoc a (nat_le k'.feature (m + 1)) (not (nat_lt m k))
one_more m n t (AddFeature (Fresh k) layer) can = absurd can.0
one_more m n t (SetContaining node face) can = sym (and-true (are_within m t.next_ids))
one_more m n t (SetPoint node p) can = sym (and-true (are_within m t.next_ids))
one_more m n t (DropNode node) can = sym (and-true (are_within m t.next_ids))
one_more m n t (SetNext edge hand next) can = sym (and-true (are_within m t.next_ids))
one_more m n t (SetSide edge hand face) can = sym (and-true (are_within m t.next_ids))
one_more m n t (SetLine edge start end line) can = sym (and-true (are_within m t.next_ids))
one_more m n t (DropEdge edge) can = sym (and-true (are_within m t.next_ids))
one_more m n t (SetBox face mbr) can = sym (and-true (are_within m t.next_ids))
one_more m n t (DropFace face) can = sym (and-true (are_within m t.next_ids))
one_more m n t (DropFeature feature) can = sym (and-true (are_within m t.next_ids))
one_more m n t (AddRow feature layer element type) can = sym (and-true (are_within m t.next_ids))
one_more m n t (DropRow feature layer element type) can = sym (and-true (are_within m t.next_ids))
one_more m n t (Raise element) can = sym (and-true (are_within m t.next_ids))

-- ---- and all of them
both_not : (x p q : Bool) → ((x && not p) && not q) ≡ (x && not (p || q))
both_not false p q = refl
both_not true true q = refl
both_not true false q = refl

all_more : (m : ℕ) (n : Counters) (t : Tables) (ws : List RowWrite) → CanWriteAll n t ws → are_within m (all_written n t ws).next_ids ≡ (are_within m t.next_ids && not (list_any (adds_beyond m) ws))
all_more m n t [] can = sym (and-true (are_within m t.next_ids))
all_more m n t (w ∷ ws) can =
    all_more m n (written n t w) ws can.1
    ∙ ap (λ (y : Bool). y && not (list_any (adds_beyond m) ws)) (one_more m n t w can.0)
    ∙ both_not (are_within m t.next_ids) (adds_beyond m w) (list_any (adds_beyond m) ws)

twice_not : (x : Bool) → not (not x) ≡ x
twice_not true = refl
twice_not false = refl

-- where the ids were within the limit before
pub beyond_is : (m : ℕ) (S T : Drawing) (ws : List RowWrite) → IsTrue (ids_within m S) → CanWriteAll S.next_ids (tables_of S) ws
    → all_written S.next_ids (tables_of S) ws ≡ tables_of T → list_any (adds_beyond m) ws ≡ not (ids_within m T)
beyond_is m S T ws within can made =
    let all : ids_within m T ≡ (ids_within m S && not (list_any (adds_beyond m) ws)) =
    ap (λ (t : Tables). are_within m t.next_ids) (sym made) ∙ all_more m S.next_ids (tables_of S) ws can in
    let here : ids_within m T ≡ not (list_any (adds_beyond m) ws) = all ∙ ap (λ (y : Bool). y && not (list_any (adds_beyond m) ws)) within in
    sym (twice_not (list_any (adds_beyond m) ws)) ∙ ap not (sym here)
