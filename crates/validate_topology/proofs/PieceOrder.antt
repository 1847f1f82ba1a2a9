-- Pieces that are sorted by where they begin.
use Rattle.std.proofs.Common.{◌≡◌, ◌∙◌, ⊎_elim, ◌↔◌, ℕ, zero, suc, ◌+◌, ◌<◌, ◌≤◌, ℤ, ◌≤ℤ◌, ◌<ℤ◌, cond, false, List, [], ◌∷◌, ◌++◌, append_assoc, append-nil, drop, length, map, get_or, refl, sym, ap, subst, arith, int_lt}
use Rattle.std.specs.Prelude.{Contains}
use Rattle.std.specs.Cmp.{int_cmp_total}
use Rattle.std.specs.Ordering.{int_cmp, is_lt}
use Rattle.std.specs.List.Sorted.{IsPermutation, IsSortedByKey}
use Rattle.std.specs.declared.cmp.Ordering.TheVariants.{Less, Equal, Greater}
use Rattle.std.proofs.lemmas.Bool.{false≢true}
use Rattle.std.proofs.lemmas.List.Sorted.{Contains-permutation, IsPermutation-sym, ranks_by, sorted_far}
use Rattle.std.proofs.lemmas.List.Elements.{Contains-get_or}
use Rattle.std.proofs.Math.Seq.{drop-cons}
use Rattle.topo_base.specs.Point.{Point}
use Rattle.topo_base.specs.declared.rows.EdgeRow.{EdgeRow}
use Rattle.plane.specs.Line.{first_vertex, last_vertex, segments_of}
use Rattle.plane.proofs.ListTests.{contains_there}
use Rattle.plane.proofs.PointTests.{Decides-int_lt}
use Rattle.plane.proofs.Signs.{order}
use Rattle.grid_lines.proofs.Vertices.{segment_is, segments_end}
use Rattle.validate_topology.specs.Pieces.{AreInOrder, edge_piece, left_of}
use Rattle.validate_topology.specs.declared.pieces.Owner.TheVariants.{Edge}
use Rattle.validate_topology.specs.declared.pieces.Piece.{Piece}

not_less : (a b : ℤ) → is_lt (int_cmp a b) ≡ false → b ≤ℤ a
not_less a b e =
    ⊎_elim
    (λ (h : a <ℤ b). absurd (false≢true (sym e ∙ ap (λ t. is_lt (cond t Less (cond (int_lt b a) Greater Equal))) ((Decides-int_lt a b).1 h))))
    (λ (h : b ≤ℤ a). h)
    (order a b)

in_order : (ps : List Piece) → ((i j : ℕ) (d : Piece) → i ≤ j → j < length ps → left_of (get_or ps i d) ≤ℤ left_of (get_or ps j d)) → AreInOrder ps
in_order [] h = tt
in_order (p ∷ ps) h = (
  λ q (k, within, is). subst (λ x. left_of p ≤ℤ left_of x) is (h 0 (suc k) q (omega arith) (omega arith)),
  in_order ps (λ i j d le lt. h (suc i) (suc j) d (omega arith) (omega arith)),
)

pub order_of : (ps : List Piece) → IsSortedByKey left_of int_cmp ps → AreInOrder ps
order_of ps up =
    in_order ps (λ i j d le lt. not_less (left_of (get_or ps j d)) (left_of (get_or ps i d)) (sorted_far (λ x y. is_lt (int_cmp (left_of x) (left_of y))) (ranks_by int_cmp_total left_of) ps up i j d le lt))

pub same_members : (xs ys : List Piece) (p : Piece) → IsPermutation xs ys → Contains ys p ↔ Contains xs p
same_members xs ys p h = (Contains-permutation ys xs p (IsPermutation-sym xs ys h), Contains-permutation xs ys p h)

-- ---- a walk over a list
pub next_is : {X : Type 0} (xs : List X) (i : ℕ) (x : X) → i < length xs → x ≡ get_or xs i x → drop i xs ≡ x ∷ drop (i + 1) xs
next_is xs i x h e = let one : suc i ≡ i + 1 = omega arith in drop-cons xs i x h ∙ (λ k. sym e k ∷ drop (one k) xs)

pub item_there : {X : Type 0} (xs : List X) (i : ℕ) (x : X) → i < length xs → x ≡ get_or xs i x → Contains xs x
item_there xs i x h e = subst (Contains xs) (sym e) (Contains-get_or xs i x h)

pub none_left : {X : Type 0} (xs : List X) (i : ℕ) → length xs ≤ i → drop i xs ≡ []
none_left [] zero h = refl
none_left [] (suc i) h = refl
none_left (x ∷ xs) zero h = absurd (omega arith)
none_left (x ∷ xs) (suc i) h = none_left xs i (omega arith)

pub in_rest : {X : Type 0} (xs : List X) (i : ℕ) (x : X) → Contains (drop i xs) x → Contains xs x
in_rest xs zero x h = h
in_rest [] (suc i) x h = h
in_rest (y ∷ xs) (suc i) x h = contains_there x y xs (in_rest xs i x h)

-- ---- the pieces of an edge, one after another
pub edge_more : (e : EdgeRow) (vs : List Point) (i : ℕ) (u v first last : Point) (items now old : List Piece) → vs ≡ e.geom → i + 1 < length vs
    → u ≡ get_or vs i u → v ≡ get_or vs (i + 1) v → first ≡ first_vertex e.geom → last ≡ last_vertex e.geom
    → now ≡ items ++ record { from = u; to = v; owner = Edge e.edge_id (record { first = first; last = last }) } ∷ []
    → items ++ map (edge_piece e) (segments_of (drop i e.geom)) ≡ old → now ++ map (edge_piece e) (segments_of (drop (i + 1) e.geom)) ≡ old
edge_more e vs i u v first last items now old same within is_u is_v is_first is_last is before =
    let rest = map (edge_piece e) (segments_of (drop (i + 1) e.geom)) in
    let p : Piece = record { from = u; to = v; owner = Edge e.edge_id (record { first = first; last = last }) } in
    let parts = segment_is e.geom i u v (subst (λ (w : List Point). i + 1 < length w) same within) (subst (λ (w : List Point). u ≡ get_or w i u) same is_u)
    (subst (λ (w : List Point). v ≡ get_or w (i + 1) v) same is_v) in
    ap (λ (xs : List Piece). xs ++ rest) is ∙ append_assoc items (p ∷ []) rest
    ∙ (λ j. items ++ record { from = u; to = v; owner = Edge e.edge_id (record { first = is_first j; last = is_last j }) } ∷ rest)
    ∙ ap (λ ss. items ++ map (edge_piece e) ss) (sym parts) ∙ before

pub edge_done : (e : EdgeRow) (vs : List Point) (i : ℕ) (items old : List Piece) → vs ≡ e.geom → length vs ≤ i + 1
    → items ++ map (edge_piece e) (segments_of (drop i e.geom)) ≡ old → items ≡ old
edge_done e vs i items old same past before =
    sym (ap (λ ss. items ++ map (edge_piece e) ss) (segments_end e.geom i (subst (λ (w : List Point). length w ≤ i + 1) same past)) ∙ append-nil items) ∙ before
