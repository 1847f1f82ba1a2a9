-- The rows of faces where faces become one.
use Rattle.std.proofs.Common.{◌≡◌, ℕ, ◌||◌, ◌==◌, List, [], ◌∷◌, ◌++◌, refl, sym, ap, ◌∙◌, subst, Option, Bool, true, false, not, eqb, eqb-true, eq-eqb, map, filter, cond, IsTrue, arith}
use Rattle.std.specs.List.{Contains}
use Rattle.std.proofs.lemmas.Bool.Decides.{nat_tests}
use Rattle.std.proofs.lemmas.List.Elements.{filter-append}
use Rattle.topo_base.specs.declared.rows.Box4.{Box4}
use Rattle.topo_base.specs.declared.rows.Counters.{Counters}
use Rattle.topo_base.specs.declared.rows.FaceRow.{FaceRow}
use Rattle.topo_base.specs.declared.write.RowId.TheVariants.{Old}
use Rattle.drawing.specs.Drawing.{Drawing, Edge, edge_id_of, has_face}
use Rattle.drawing.specs.Relations.{is_among}
use Rattle.drawing.specs.RemoveEdge.{renamed, renamed_edge, without_faces}
use Rattle.drawing.specs.Rows.{has_row, without_row}
use Rattle.drawing.specs.Subdivision.{face_id_of}
use Rattle.drawing.specs.Tables.{Tables, has_side, face_box, face_row}
use Rattle.drawing.specs.Writable.{CanWriteAll, has_face_row}
use Rattle.drawing.specs.Writes.{all_written, face_row_id}
use Rattle.drawing.proofs.Members.{ids_differ, pairwise-same}
use Rattle.drawing.proofs.Ordering.{InOrder}
use Rattle.drawing.proofs.WritesInOrder.{can_write-append, written-append}
use Rattle.edge_links.specs.UnlinksLaw.{edge_gone}
use Rattle.face_boxes.specs.Bounds.{box_write}
use Rattle.face_boxes.proofs.Boxes.{AreRows, beside_less, boxed, boxed_is, boxed_there, box_written, can_box, chosen, chosen_rows, other_way}
use Rattle.face_boxes.proofs.DividedBoxes.{below_differs, line_of, lines_beside, lines_kept, listed_below, new_row, new_rows, row_beside, with_new, zero_new}
use Rattle.face_merge.specs.Last.{drop_face}
use Rattle.face_merge.specs.Merge.{KeepsRows, MayGo, stay}

-- ---- faces other than these have the same lines beside them
turned : (a b : ℕ) → eqb a b ≡ eqb b a
turned a b = grind (arith, nat_tests)

side_same : (gone : List ℕ) (kept f g : ℕ) → eqb g kept ≡ false → is_among g gone ≡ false → eqb (renamed gone kept f) g ≡ eqb f g
side_same gone kept f g other stays = by (is_among f gone) refl
  where
    away : (b : Bool) → eqb f g ≡ b → is_among f gone ≡ true → b ≡ false
    away true same among = sym (sym stays ∙ ap (λ k. is_among k gone) (sym (eqb-true f g same)) ∙ among)
    away false same among = refl

    by : (b : Bool) → is_among f gone ≡ b → eqb (cond b kept f) g ≡ eqb f g
    by true e = other_way g kept other ∙ sym (away (eqb f g) refl e)
    by false e = refl

lines_renamed : (gone : List ℕ) (kept g : ℕ) (edges : List Edge) → eqb g kept ≡ false → is_among g gone ≡ false → lines_beside g (map (renamed_edge gone kept) edges) ≡ lines_beside g edges
lines_renamed gone kept g edges other stays =
    lines_kept (renamed_edge gone kept) g edges
    (λ x _. record { line = refl; side = λ i. side_same gone kept x.left_face g other stays i || side_same gone kept x.right_face g other stays i })

-- the sides of the edge are the face that is kept, or go
abbrev pub is_covered : List ℕ → ℕ → ℕ → Bool
is_covered gone kept f = kept == f || is_among f gone

pub record AreCovered (gone : List ℕ) (kept : ℕ) (e : Edge) : Type 0 where
  pub left : is_covered gone kept e.left_face ≡ true
  pub right : is_covered gone kept e.right_face ≡ true

-- an edge of a drawing whose ids ascend
pub record IsEdgeOf (S : Drawing) (e : Edge) : Type 0 where
  pub ordered : InOrder edge_id_of 1 S.next_ids.edge S.edges
  pub there : Contains S.edges e

pub only_edge : (S : Drawing) (e y : Edge) → IsEdgeOf S e → Contains S.edges y → eqb y.edge_id e.edge_id ≡ true → y ≡ e
only_edge S e y is c same =
    let id = eqb-true y.edge_id e.edge_id same in
    pairwise-same _ S.edges y e (ids_differ edge_id_of 1 S.next_ids.edge S.edges is.ordered) c is.there (λ differ. differ id) (λ differ. differ (sym id))

covered_other : (gone : List ℕ) (kept f g : ℕ) → is_covered gone kept f ≡ true → eqb g kept ≡ false → is_among g gone ≡ false → eqb f g ≡ false
covered_other gone kept f g covered other stays = by (eqb f g) refl
  where
    by : (b : Bool) → eqb f g ≡ b → b ≡ false
    by false e = refl
    by true e =
        let same = eqb-true f g e in
        let none : is_covered gone kept f ≡ false = (λ i. turned kept f i || is_among f gone) ∙ ap (λ k. eqb k kept || is_among k gone) same ∙ (λ i. other i || stays i) in
        sym covered ∙ none

lines_less : (S : Drawing) (e : Edge) (gone : List ℕ) (kept g : ℕ) → IsEdgeOf S e → AreCovered gone kept e → eqb g kept ≡ false → is_among g gone ≡ false → lines_beside g (edge_gone S e.edge_id).edges ≡ lines_beside g S.edges
lines_less S e gone kept g is covered other stays =
    ap (map line_of) (beside_less g e.edge_id S.edges (λ y c same. subst (λ (x : Edge). has_side g x ≡ false) (sym (only_edge S e y is c same)) away))
  where
    away : has_side g e ≡ false
    away = λ i. covered_other gone kept e.left_face g covered.left other stays i || covered_other gone kept e.right_face g covered.right other stays i

-- the drawing after has the edges of the one before but this one, with other sides
pub record KeepsEdges (S U : Drawing) (e : Edge) (gone : List ℕ) (kept : ℕ) : Type 0 where
  pub edge : IsEdgeOf S e
  pub covered : AreCovered gone kept e
  pub edges : U.edges ≡ map (renamed_edge gone kept) (edge_gone S e.edge_id).edges

pub row_stays : (S U : Drawing) (e : Edge) (gone : List ℕ) (kept g : ℕ) → KeepsEdges S U e gone kept → eqb g kept ≡ false → is_among g gone ≡ false → face_row S g ≡ face_row U g
row_stays S U e gone kept g keeps other stays =
    row_beside S U g (ap (lines_beside g) keeps.edges ∙ lines_renamed gone kept g (edge_gone S e.edge_id).edges other stays ∙ lines_less S e gone kept g keeps.edge keeps.covered other stays)

-- ---- rows go
abbrev pub dropped : List ℕ → List FaceRow → List FaceRow
dropped [] rows = rows
dropped (f ∷ gone) rows = dropped gone (without_row face_row_id rows f)

drops_written : (n : Counters) (t : Tables) (gone : List ℕ) → all_written n t (map drop_face gone) ≡ record t { faces = dropped gone t.faces }
drops_written n t [] = refl
drops_written n t (f ∷ gone) = drops_written n (record t { faces = without_row face_row_id t.faces f }) gone

one_dropped : (row : ℕ → FaceRow) (f : ℕ) (gs : List ℕ) → AreRows row → without_row face_row_id (map row gs) f ≡ map row (filter (λ g. not (f == g)) gs)
one_dropped row f [] are = refl
one_dropped row f (g ∷ gs) are =
    ap (λ b. cond (not b) (row g ∷ without_row face_row_id (map row gs) f) (without_row face_row_id (map row gs) f)) (ap (λ k. eqb k f) (are.id g) ∙ turned g f)
    ∙ by (eqb f g) (one_dropped row f gs are)
  where
    by : (b : Bool) → without_row face_row_id (map row gs) f ≡ map row (filter (λ h. not (f == h)) gs)
        → cond (not b) (row g ∷ without_row face_row_id (map row gs) f) (without_row face_row_id (map row gs) f) ≡ map row (cond (not b) (g ∷ filter (λ h. not (f == h)) gs) (filter (λ h. not (f == h)) gs))
    by true rest = rest
    by false rest = ap (λ (rs : List FaceRow). row g ∷ rs) rest

pub all_stay : (fs : List ℕ) → stay [] fs ≡ fs
all_stay [] = refl
all_stay (g ∷ fs) = ap (λ (gs : List ℕ). g ∷ gs) (all_stay fs)

stay_more : (f : ℕ) (gone gs : List ℕ) → stay gone (filter (λ g. not (f == g)) gs) ≡ stay (f ∷ gone) gs
stay_more f gone [] = refl
stay_more f gone (g ∷ gs) = by (eqb f g) (is_among g gone) refl (stay_more f gone gs)
  where
    by : (b c : Bool) → is_among g gone ≡ c → stay gone (filter (λ h. not (f == h)) gs) ≡ stay (f ∷ gone) gs
        → stay gone (cond (not b) (g ∷ filter (λ h. not (f == h)) gs) (filter (λ h. not (f == h)) gs)) ≡ cond (not (b || c)) (g ∷ stay (f ∷ gone) gs) (stay (f ∷ gone) gs)
    by true c e rest = rest
    by false true e rest = ap (λ t. cond (not t) (g ∷ stay gone (filter (λ h. not (f == h)) gs)) (stay gone (filter (λ h. not (f == h)) gs))) e ∙ rest
    by false false e rest =
        ap (λ t. cond (not t) (g ∷ stay gone (filter (λ h. not (f == h)) gs)) (stay gone (filter (λ h. not (f == h)) gs))) e ∙ ap (λ (hs : List ℕ). g ∷ hs) rest

dropped_is : (row : ℕ → FaceRow) (gone gs : List ℕ) → AreRows row → dropped gone (map row gs) ≡ map row (stay gone gs)
dropped_is row [] gs are = ap (map row) (sym (all_stay gs))
dropped_is row (f ∷ gone) gs are =
    ap (dropped gone) (one_dropped row f gs are) ∙ dropped_is row gone (filter (λ g. not (f == g)) gs) are ∙ ap (map row) (stay_more f gone gs)

stay_same : (row become : ℕ → FaceRow) (gone gs : List ℕ) → ((g : ℕ) → is_among g gone ≡ false → row g ≡ become g) → map row (stay gone gs) ≡ map become (stay gone gs)
stay_same row become gone [] same = refl
stay_same row become gone (g ∷ gs) same = by (is_among g gone) refl (stay_same row become gone gs same)
  where
    by : (b : Bool) → is_among g gone ≡ b → map row (stay gone gs) ≡ map become (stay gone gs) → map row (cond (not b) (g ∷ stay gone gs) (stay gone gs)) ≡ map become (cond (not b) (g ∷ stay gone gs) (stay gone gs))
    by true e rest = rest
    by false e rest = let first = same g e in λ i. first i ∷ rest i

-- ---- the box of the face that is kept, and the faces that go
pub rows_written : (n : Counters) (t : Tables) (U : Drawing) (old : ℕ → FaceRow) (gone fs : List ℕ) (kept : ℕ) (bounds : Option Box4) → KeepsRows old U gone kept → bounds ≡ face_box U kept → t.faces ≡ map old fs
    → all_written n t (box_write kept bounds ++ map drop_face gone) ≡ record t { faces = map (face_row U) (stay gone fs) }
rows_written n t U old gone fs kept bounds keeps is begun =
    written-append n t (box_write kept bounds) (map drop_face gone)
    ∙ ap (λ (u : Tables). all_written n u (map drop_face gone)) (box_written n t kept bounds)
    ∙ drops_written n (record t { faces = boxed kept bounds t.faces }) gone
    ∙ ap (λ (rows : List FaceRow). record t { faces = rows }) rows
  where
    there : ℕ → FaceRow
    there = chosen old (face_row U) kept

    stays : (g : ℕ) → is_among g gone ≡ false → there g ≡ face_row U g
    stays g out = by (eqb g kept) refl
      where
        by : (b : Bool) → eqb g kept ≡ b → cond b (face_row U g) (old g) ≡ face_row U g
        by true e = refl
        by false e = keeps.others g e out

    rows : dropped gone (boxed kept bounds t.faces) ≡ map (face_row U) (stay gone fs)
    rows =
        ap (λ (rows : List FaceRow). dropped gone (boxed kept bounds rows)) begun
        ∙ ap (dropped gone) (boxed_is old (face_row U) fs kept bounds (record { id = keeps.id }) (record { id = λ g. refl }) (λ some. is) keeps.zero)
        ∙ dropped_is there gone fs (chosen_rows old (face_row U) kept (record { id = keeps.id }) (record { id = λ g. refl }))
        ∙ stay_same there (face_row U) gone fs stays

-- they may be made where each of the faces is there, and face 0 doesn't go
there_less : (rows : List FaceRow) (f g : ℕ) → eqb f g ≡ false → has_row face_row_id (without_row face_row_id rows f) g ≡ has_row face_row_id rows g
there_less [] f g other = refl
there_less (r ∷ rows) f g other = by (eqb r.face_id f) refl (there_less rows f g other)
  where
    by : (b : Bool) → eqb r.face_id f ≡ b → has_row face_row_id (without_row face_row_id rows f) g ≡ has_row face_row_id rows g
        → has_row face_row_id (cond (not b) (r ∷ without_row face_row_id rows f) (without_row face_row_id rows f)) g ≡ (eqb r.face_id g || has_row face_row_id rows g)
    by true e rest = rest ∙ ap (λ t. t || has_row face_row_id rows g) (sym (ap (λ k. eqb k g) (eqb-true r.face_id f e) ∙ other))
    by false e rest = ap (λ t. eqb r.face_id g || t) rest

not_among : (f g : ℕ) (gone : List ℕ) → is_among f (g ∷ gone) ≡ false → (eqb f g ≡ false) × (is_among f gone ≡ false)
not_among f g gone h = by (eqb g f) refl h
  where
    by : (b : Bool) → eqb g f ≡ b → (b || is_among f gone) ≡ false → (eqb f g ≡ false) × (is_among f gone ≡ false)
    by true e h = absurd cc
    by false e h = (other_way g f e, h)

go_less : (rows : List FaceRow) (f : ℕ) (gone : List ℕ) → is_among f gone ≡ false → MayGo rows gone → MayGo (without_row face_row_id rows f) gone
go_less rows f [] out may = tt
go_less rows f (g ∷ gone) out may =
    let parts = not_among f g gone out in (there_less rows f g parts.0 ∙ may.0, may.1, may.2, go_less rows f gone parts.1 may.3)

can_drop : (n : Counters) (t : Tables) (gone : List ℕ) → MayGo t.faces gone → CanWriteAll n t (map drop_face gone)
can_drop n t [] may = tt
can_drop n t (f ∷ gone) may = ((may.0, not_zero), can_drop n (record t { faces = without_row face_row_id t.faces f }) gone (go_less t.faces f gone may.2 may.3))
  where
    not_zero : Old f ≡ Old 0 → ⊥
    not_zero same = let zero : f ≡ 0 = cc in let yes = eq-eqb f 0 zero in let some = may.1 in absurd cc

go_boxed : (rows : List FaceRow) (kept : ℕ) (bounds : Option Box4) (gone : List ℕ) → MayGo rows gone → MayGo (boxed kept bounds rows) gone
go_boxed rows kept bounds [] may = tt
go_boxed rows kept bounds (f ∷ gone) may = (boxed_there rows kept f bounds ∙ may.0, may.1, may.2, go_boxed rows kept bounds gone may.3)

pub rows_can : (n : Counters) (t : Tables) (gone : List ℕ) (kept : ℕ) (bounds : Option Box4) → IsTrue (has_face_row t kept) → MayGo t.faces gone → CanWriteAll n t (box_write kept bounds ++ map drop_face gone)
rows_can n t gone kept bounds there may =
    can_write-append n t (box_write kept bounds) (map drop_face gone) (can_box n t kept bounds there)
    (subst (λ (u : Tables). CanWriteAll n u (map drop_face gone)) (sym (box_written n t kept bounds))
    (can_drop n (record t { faces = boxed kept bounds t.faces }) gone (go_boxed t.faces kept bounds gone may)))

-- ---- a face that was there is kept
pub kept_rows : (S U : Drawing) (e : Edge) (gone : List ℕ) (kept : ℕ) → KeepsEdges S U e gone kept → KeepsRows (face_row S) U gone kept
kept_rows S U e gone kept keeps = record { id = λ g. refl; zero = refl; others = λ g other out. row_stays S U e gone kept g keeps other out }

-- ---- a new face is kept
pub new_kept_rows : (S U : Drawing) (e : Edge) (gone : List ℕ) (new : ℕ) → KeepsEdges S U e gone new → KeepsRows (with_new (face_row S) new) U gone new
new_kept_rows S U e gone new keeps = record {
  id = (new_rows (face_row S) new (record { id = λ g. refl })).id;
  zero = zero_new U (face_row S) new refl;
  others = λ g other out. ap (λ b. cond b (new_row g) (face_row S g)) other ∙ row_stays S U e gone new g keeps other out;
}

-- the new face doesn't go
pub new_out : (S : Drawing) (l r : ℕ) → InOrder face_id_of 0 S.next_ids.face S.faces → IsTrue (has_face S l) → IsTrue (has_face S r) → is_among S.next_ids.face (l ∷ r ∷ []) ≡ false
new_out S l r ordered left right =
    λ i. below_differs l S.next_ids.face (listed_below S l ordered left) i || (below_differs r S.next_ids.face (listed_below S r ordered right) i || false)

pub new_stays : (S : Drawing) (gone : List ℕ) → is_among S.next_ids.face gone ≡ false → stay gone (S.faces ++ S.next_ids.face ∷ []) ≡ without_faces S gone ++ S.next_ids.face ∷ []
new_stays S gone out =
    filter-append (λ g. not (is_among g gone)) S.faces (S.next_ids.face ∷ []) ∙ ap (λ b. without_faces S gone ++ cond (not b) (S.next_ids.face ∷ []) []) out
