-- What an index keeps after a change is what the rows have after it.
use Rattle.std.proofs.Common.{◌≡◌, ℕ, ◌+◌, refl, sym, ◌∙◌, ap, subst, arith, Bool, true, false, cond, not, ◌&&◌, ◌==◌, List, [], ◌∷◌, ◌++◌, map}
use Rattle.std.specs.Prelude.{count_by, sum_by}
use Rattle.std.specs.List.{list_any}
use Rattle.std.specs.List.Sorted.{IsPermutation}
use Rattle.std.proofs.lemmas.Grind.{flat_map-append}
use Rattle.std.proofs.lemmas.List.Sums.{sum_by-cons}
use Rattle.std.proofs.lemmas.List.Sorted.{sum_by-IsPermutation}
use Rattle.topo_base.specs.declared.rows.EdgeRow.{EdgeRow}
use Rattle.plane.specs.Line.{segments_of}
use Rattle.plane.specs.Segment.{Segment}
use Rattle.slab_index.specs.declared.piece.Piece.{Piece}
use Rattle.slab_index.specs.Pieces.{piece_of, pieces_of, pieces_of_all, is_gone, AreTogether, AreChanged}
use Rattle.slab_index.proofs.Paths.{count_cons}
use Rattle.slab_index.proofs.Placed.{count_append}
use Rattle.above_laws.specs.Indexed.{KeepsEdges}
use Rattle.above_laws.specs.Keeping.{staying, IsSameLine, EdgesAreKept}
use Rattle.above_laws.proofs.Finding.{keeps_same}

keeps_by : (kept : List Piece) (rows : List EdgeRow) → ((f : Piece → Bool) → count_by f kept ≡ count_by f (pieces_of_all rows)) → KeepsEdges kept rows
keeps_by kept rows same f = let k = same f in omega (arith, k)

joined : (f : Piece → Bool) (rows others : List EdgeRow) → count_by f (pieces_of_all (rows ++ others)) ≡ count_by f (pieces_of_all rows) + count_by f (pieces_of_all others)
joined f rows others = ap (count_by f) (flat_map-append pieces_of rows others) ∙ count_append f (pieces_of_all rows) (pieces_of_all others)

-- ---- an edge more
lone : (f : Piece → Bool) (row : EdgeRow) → count_by f (pieces_of_all (row ∷ [])) ≡ count_by f (pieces_of row)
lone f row = let k = count_append f (pieces_of row) [] in omega (arith, k)

inserted : (before after : List Piece) (rows : List EdgeRow) (row : EdgeRow) → KeepsEdges before rows → AreTogether after (pieces_of row) before → KeepsEdges after (rows ++ row ∷ [])
inserted before after rows row keeps together = keeps_by after (rows ++ row ∷ []) (λ f.
    let a = together f in
    let b = keeps_same before rows keeps f in
    let c = joined f rows (row ∷ []) in
    let d = lone f row in
    omega (arith, a, b, c, d))

-- ---- edges that go
along : (f : Piece → Bool) (gone : List ℕ) (n : ℕ) (segments : List Segment) (b : Bool) → list_any (λ m. m == n) gone ≡ b →
    count_by (λ e. f e && not (is_gone gone e)) (map (piece_of n) segments) ≡ cond b 0 (count_by f (map (piece_of n) segments))
along f gone n [] true e = refl
along f gone n [] false e = refl
along f gone n (s ∷ segments) true e =
    let k = count_cons (λ x. f x && not (is_gone gone x)) (piece_of n s) (map (piece_of n) segments) in
    let rest = along f gone n segments true e in
    let m = ap (λ b. cond {A = ℕ} (f (piece_of n s) && not b) 1 0) e in
    let z = no (f (piece_of n s)) in
    omega (arith, k, rest, m, z)
  where
    no : (a : Bool) → cond {A = ℕ} (a && not true) 1 0 ≡ 0
    no true = refl
    no false = refl
along f gone n (s ∷ segments) false e =
    let k = count_cons (λ x. f x && not (is_gone gone x)) (piece_of n s) (map (piece_of n) segments) in
    let l = count_cons f (piece_of n s) (map (piece_of n) segments) in
    let rest = along f gone n segments false e in
    let m = ap (λ b. cond {A = ℕ} (f (piece_of n s) && not b) 1 0) e in
    let z = yes (f (piece_of n s)) in
    omega (arith, k, l, rest, m, z)
  where
    yes : (a : Bool) → cond {A = ℕ} (a && not false) 1 0 ≡ cond {A = ℕ} a 1 0
    yes true = refl
    yes false = refl

those_staying : (f : Piece → Bool) (gone : List ℕ) (rows : List EdgeRow) → count_by (λ e. f e && not (is_gone gone e)) (pieces_of_all rows) ≡ count_by f (pieces_of_all (staying gone rows))
those_staying f gone [] = refl
those_staying f gone (row ∷ rows) = by_test (list_any (λ n. n == row.edge_id) gone) refl (those_staying f gone rows)
  where
    by_test : (b : Bool) → list_any (λ n. n == row.edge_id) gone ≡ b → count_by (λ e. f e && not (is_gone gone e)) (pieces_of_all rows) ≡ count_by f (pieces_of_all (staying gone rows)) →
        count_by (λ e. f e && not (is_gone gone e)) (pieces_of row ++ pieces_of_all rows) ≡ count_by f (pieces_of_all (cond (not (list_any (λ n. n == row.edge_id) gone)) (row ∷ staying gone rows) (staying gone rows)))
    by_test true e rest =
        subst (λ b. count_by (λ x. f x && not (is_gone gone x)) (pieces_of row ++ pieces_of_all rows) ≡ count_by f (pieces_of_all (cond (not b) (row ∷ staying gone rows) (staying gone rows)))) (sym e)
        (let k = count_append (λ x. f x && not (is_gone gone x)) (pieces_of row) (pieces_of_all rows) in
        let l = along f gone row.edge_id (segments_of row.geom) true e in
        omega (arith, k, l, rest))
    by_test false e rest =
        subst (λ b. count_by (λ x. f x && not (is_gone gone x)) (pieces_of row ++ pieces_of_all rows) ≡ count_by f (pieces_of_all (cond (not b) (row ∷ staying gone rows) (staying gone rows)))) (sym e)
        (let k = count_append (λ x. f x && not (is_gone gone x)) (pieces_of row) (pieces_of_all rows) in
        let l = along f gone row.edge_id (segments_of row.geom) false e in
        let m = count_append f (pieces_of row) (pieces_of_all (staying gone rows)) in
        omega (arith, k, l, m, rest))

changed : (before after coming : List Piece) (gone : List ℕ) (rows come : List EdgeRow) → KeepsEdges before rows → KeepsEdges coming come → AreChanged after before gone coming →
    KeepsEdges after (staying gone rows ++ come)
changed before after coming gone rows come keeps comes change = keeps_by after (staying gone rows ++ come) (λ f.
    let a = change f in
    let b = keeps_same before rows keeps (λ e. f e && not (is_gone gone e)) in
    let c = those_staying f gone rows in
    let d = keeps_same coming come comes f in
    let e = joined f (staying gone rows) come in
    omega (arith, a, b, c, d, e))

-- ---- rows in another order, and with other links
by_row : (f : Piece → Bool) (rows : List EdgeRow) → count_by f (pieces_of_all rows) ≡ sum_by (λ row. count_by f (pieces_of row)) rows
by_row f [] = refl
by_row f (row ∷ rows) =
    count_append f (pieces_of row) (pieces_of_all rows)
    ∙ ap (λ n. count_by f (pieces_of row) + n) (by_row f rows)
    ∙ sym (sum_by-cons (λ r. count_by f (pieces_of r)) row rows)

reordered : (kept : List Piece) (rows others : List EdgeRow) → KeepsEdges kept rows → IsPermutation rows others → KeepsEdges kept others
reordered kept rows others keeps order = keeps_by kept others (λ f.
    keeps_same kept rows keeps f ∙ by_row f rows ∙ sym (sum_by-IsPermutation (λ row. count_by f (pieces_of row)) rows others order) ∙ sym (by_row f others))

same_pieces : (rows : List EdgeRow) (change : EdgeRow → EdgeRow) → ((row : EdgeRow) → IsSameLine row (change row)) → pieces_of_all (map change rows) ≡ pieces_of_all rows
same_pieces [] change same = refl
same_pieces (row ∷ rows) change same =
    ap (λ l. pieces_of (change row) ++ l) (same_pieces rows change same)
    ∙ ap (λ n. map (piece_of n) (segments_of (change row).geom) ++ pieces_of_all rows) (same row).id
    ∙ ap (λ line. map (piece_of row.edge_id) (segments_of line) ++ pieces_of_all rows) (same row).geom

relinked : (kept : List Piece) (rows : List EdgeRow) (change : EdgeRow → EdgeRow) → KeepsEdges kept rows → ((row : EdgeRow) → IsSameLine row (change row)) → KeepsEdges kept (map change rows)
relinked kept rows change keeps same = keeps_by kept (map change rows) (λ f. keeps_same kept rows keeps f ∙ sym (ap (count_by f) (same_pieces rows change same)))

pub edges_are_kept : EdgesAreKept
edges_are_kept = record { begins = λ f. refl; inserted = inserted; changed = changed; reordered = reordered; relinked = relinked }
