-- The least boxes of the faces beside edges.
use Rattle.std.proofs.Common.{◌≡◌, ◌≢◌, ◌∙◌, ℕ, ◌+◌, ◌<◌, Bool, true, false, not, ◌||◌, ◌==◌, cond, if◌then◌else◌, List, [], ◌∷◌, ◌++◌, length, map, take, filter, flat_map, fold, get_or, Option, Some, None, refl, sym, ap, arith}
use Rattle.std.specs.Prelude.{nat_lt, IsTrue}
use Rattle.std.proofs.lemmas.Bool.{and_parts, ne_eqb, eqb-true}
use Rattle.std.proofs.lemmas.List.{append-nil}
use Rattle.std.proofs.lemmas.List.Concat.{flat_map-append}
use Rattle.std.proofs.lemmas.List.Elements.{filter-append}
use Rattle.std.proofs.lemmas.List.Sums.{fold-append}
use Rattle.topo_base.specs.Point.{Point}
use Rattle.topo_base.specs.declared.rows.Box4.{Box4}
use Rattle.topo_base.specs.declared.rows.FaceRow.{FaceRow}
use Rattle.topo_base.specs.declared.rows.EdgeRow.{EdgeRow}
use Rattle.drawing.specs.Drawing.{Edge}
use Rattle.drawing.specs.Tables.{box_at, drawn_edge, has_side, least_box, wider}
use Rattle.validate_topology.specs.Ascending.{numbers_ascend}
use Rattle.validate_topology.specs.BoxLines.{box_beside, box_of_all, box_with, least_of, same_box, wrong_boxes}
use Rattle.validate_topology.specs.OnlyIf.{only_if}
use Rattle.validate_topology.specs.declared.lines.ReportLine.TheVariants.{FaceBoxWrong}
use Rattle.validate_topology.proofs.Ends.{edges_more}
use Rattle.validate_topology.proofs.Lookups.{above}
use Rattle.validate_topology.proofs.Marked.{turned_test}

from_box : (b : Box4) (ps : List Point) → box_of_all (Some b) ps ≡ Some (fold wider b ps)
from_box b [] = refl
from_box b (p ∷ ps) = from_box (wider b p) ps

least_is : (ps : List Point) → least_box ps ≡ box_of_all None ps
least_is [] = refl
least_is (p ∷ ps) = sym (from_box (box_at p) ps)

least_more : (ps qs : List Point) → least_box (ps ++ qs) ≡ box_of_all (least_box ps) qs
least_more ps qs = least_is (ps ++ qs) ∙ fold-append box_with None ps qs ∙ ap (λ b. box_of_all b qs) (sym (least_is ps))

abbrev vertices_of : List Edge → List Point
vertices_of edges = flat_map (λ (e : Edge). e.geom) edges

-- one edge more
beside_more : (f : ℕ) (edges : List Edge) (e : Edge) (b : Bool) → has_side f e ≡ b
    → (if b then box_of_all (box_beside edges f) e.geom else box_beside edges f) ≡ box_beside (edges ++ e ∷ []) f
beside_more f edges e true h =
    sym (ap (λ es. least_box (vertices_of es)) (filter-append (has_side f) edges (e ∷ []) ∙ ap (λ b. filter (has_side f) edges ++ cond b (e ∷ []) []) h)
    ∙ ap least_box (flat_map-append (λ (x : Edge). x.geom) (filter (has_side f) edges) (e ∷ []) ∙ ap (λ ps. vertices_of (filter (has_side f) edges) ++ ps) (append-nil e.geom))
    ∙ least_more (vertices_of (filter (has_side f) edges)) e.geom)
beside_more f edges e false h =
    sym (ap (λ es. least_box (vertices_of es)) (filter-append (has_side f) edges (e ∷ []) ∙ ap (λ b. filter (has_side f) edges ++ cond b (e ∷ []) []) h ∙ append-nil (filter (has_side f) edges)))

pub row_more : (edges : List EdgeRow) (i : ℕ) (e : EdgeRow) (f : ℕ) → i < length edges → e ≡ get_or edges i e
    → (if has_side f (drawn_edge e) then box_of_all (box_beside (map drawn_edge (take i edges)) f) e.geom else box_beside (map drawn_edge (take i edges)) f)
    ≡ box_beside (map drawn_edge (take (i + 1) edges)) f
row_more edges i e f h is =
    beside_more f (map drawn_edge (take i edges)) (drawn_edge e) (has_side f (drawn_edge e)) refl ∙ ap (λ es. box_beside es f) (sym (edges_more edges i e h is))

-- both sides of an edge, one after the other
pub one_side : (least : ℕ → Option Box4) (ps : List Point) (a b n : ℕ) → a ≡ b
    → (if n == a then box_of_all (least a) ps else least n) ≡ (if a == n || b == n then box_of_all (least n) ps else least n)
one_side least ps a b n e = pick (n == a) (n == b) refl (ap (λ x. n == x) (sym e)) ∙ (λ i. if turned_test n a i || turned_test n b i then box_of_all (least n) ps else least n)
  where
    pick : (x y : Bool) → (n == a) ≡ x → y ≡ x → (if x then box_of_all (least a) ps else least n) ≡ (if x || y then box_of_all (least n) ps else least n)
    pick true y h k = ap (λ m. box_of_all (least m) ps) (sym (eqb-true n a h))
    pick false true h k = absurd cc
    pick false false h k = refl

pub two_sides : (least : ℕ → Option Box4) (ps : List Point) (a b n : ℕ) → a ≢ b
    → (if n == b then box_of_all (if b == a then box_of_all (least a) ps else least b) ps else (if n == a then box_of_all (least a) ps else least n))
    ≡ (if a == n || b == n then box_of_all (least n) ps else least n)
two_sides least ps a b n ne =
    ap (λ t. if n == b then box_of_all (if t then box_of_all (least a) ps else least b) ps else (if n == a then box_of_all (least a) ps else least n)) (ne_eqb b a (λ e. ne (sym e)))
    ∙ pick (n == a) (n == b) refl refl ∙ (λ i. if turned_test n a i || turned_test n b i then box_of_all (least n) ps else least n)
  where
    pick : (x y : Bool) → (n == a) ≡ x → (n == b) ≡ y
        → (if y then box_of_all (least b) ps else (if x then box_of_all (least a) ps else least n)) ≡ (if x || y then box_of_all (least n) ps else least n)
    pick true true h k = ap (λ m. box_of_all (least m) ps) (sym (eqb-true n b k))
    pick true false h k = ap (λ m. box_of_all (least m) ps) (sym (eqb-true n a h))
    pick false true h k = ap (λ m. box_of_all (least m) ps) (sym (eqb-true n b k))
    pick false false h k = refl

-- listed faces aren't face 0, which has no box
pub with_universal : (low : ℕ) (edges : List Edge) (faces : List FaceRow) → IsTrue (numbers_ascend (λ (f : FaceRow). f.face_id) low faces)
    → wrong_boxes (box_beside edges) faces ≡ wrong_boxes (least_of edges) faces
with_universal low edges [] up = refl
with_universal low edges (f ∷ faces) up =
    let more = above (λ (x : FaceRow). x.face_id) low (f ∷ faces) 0 f up (omega arith) in
    let rest = (and_parts (nat_lt low f.face_id) (numbers_ascend (λ (x : FaceRow). x.face_id) f.face_id faces) up).1 in
    let is = ap (λ b. only_if (not (same_box f.mbr (cond b None (box_beside edges f.face_id)))) (FaceBoxWrong f.face_id)) (ne_eqb f.face_id 0 (λ e. omega arith)) in
    λ i. sym is i ++ with_universal f.face_id edges faces rest i
