-- The boxes of faces where an edge comes or goes, and the writes that set them.
use Rattle.std.proofs.Common.{◌≡◌, ℕ, ◌+◌, ◌<◌, ◌==◌, ◌||◌, if◌then◌else◌, List, [], ◌∷◌, ◌++◌, refl, sym, ap, ◌∙◌, subst, Option, Some, None, Bool, true, false, not, eqb, eqb-true, eq-eqb, map, filter, cond, IsTrue, arith}
use Rattle.std.specs.List.{flat_map, Contains}
use Rattle.std.proofs.lemmas.Bool.{or_left}
use Rattle.std.proofs.lemmas.Bool.Decides.{nat_tests}
use Rattle.std.proofs.lemmas.List.{append-nil}
use Rattle.std.proofs.lemmas.List.Concat.{flat_map-append}
use Rattle.std.proofs.lemmas.List.Elements.{filter-append}
use Rattle.std.proofs.lemmas.List.Sums.{fold-append}
use Rattle.topo_base.specs.Point.{Point}
use Rattle.topo_base.specs.declared.rows.Box4.{Box4}
use Rattle.topo_base.specs.declared.rows.Counters.{Counters}
use Rattle.topo_base.specs.declared.rows.FaceRow.{FaceRow}
use Rattle.topo_base.specs.declared.write.RowId.TheVariants.{Old}
use Rattle.topo_base.specs.declared.write.RowWrite.TheVariants.{SetBox}
use Rattle.drawing.specs.Drawing.{Drawing, Edge, edge_id_of}
use Rattle.drawing.specs.Rows.{has_row, without_row, with_change}
use Rattle.drawing.specs.Tables.{Tables, wider, box_at, least_box, has_side, face_box, face_row, drawn, tables_of}
use Rattle.drawing.specs.Writable.{CanWriteAll, has_face_row}
use Rattle.drawing.specs.Writes.{all_written, face_row_id}
use Rattle.plane.proofs.ListTests.{contains_here, contains_there}
use Rattle.drawing.proofs.Ordering.{InOrder, first_of}
use Rattle.drawing.proofs.TableLemmas.{drawn-tables_of}
use Rattle.drawing_queries.specs.Extent.{grown, is_left_out}
use Rattle.face_boxes.specs.Bounds.{box_with, box_write, other_write, without}
use Rattle.topo_tables.proofs.RowChanges.{has_changed}

-- ---- boxes of more points
pub least_more : (xs ys : List Point) → least_box (xs ++ ys) ≡ grown (least_box xs) ys
least_more [] ys = refl
least_more (x ∷ xs) ys = ap Some (fold-append wider (box_at x) xs ys)

-- the vertices beside a face with an edge more
abbrev pub points_of : List Edge → List Point
points_of edges = flat_map (λ (x : Edge). x.geom) edges

pub beside_more : (f : ℕ) (edges : List Edge) (e : Edge) → has_side f e ≡ true → points_of (filter (has_side f) (edges ++ e ∷ [])) ≡ points_of (filter (has_side f) edges) ++ e.geom
beside_more f edges e beside =
    ap points_of (filter-append (has_side f) edges (e ∷ []))
    ∙ ap (λ b. points_of (filter (has_side f) edges ++ cond b (e ∷ []) [])) beside
    ∙ flat_map-append (λ (x : Edge). x.geom) (filter (has_side f) edges) (e ∷ [])
    ∙ ap (λ (ps : List Point). points_of (filter (has_side f) edges) ++ ps) (append-nil e.geom)

pub beside_same : (f : ℕ) (edges : List Edge) (e : Edge) → has_side f e ≡ false → filter (has_side f) (edges ++ e ∷ []) ≡ filter (has_side f) edges
beside_same f edges e away =
    filter-append (has_side f) edges (e ∷ []) ∙ ap (λ b. filter (has_side f) edges ++ cond b (e ∷ []) []) away ∙ append-nil (filter (has_side f) edges)

-- where no edge is left out
pub none_left_out : (edges : List Edge) → filter (λ x. not (is_left_out None x)) edges ≡ edges
none_left_out [] = refl
none_left_out (x ∷ edges) = ap (λ (es : List Edge). x ∷ es) (none_left_out edges)

-- no row has an id from the end on
pub without_none : (low next : ℕ) (edges : List Edge) → InOrder edge_id_of low next edges → without_row edge_id_of edges next ≡ edges
without_none low next [] ordered = refl
without_none low next (x ∷ edges) ordered =
    let parts = first_of edge_id_of low next x edges ordered in
    let below = parts.1 in
    let other : eqb x.edge_id next ≡ false = differs x.edge_id next below in
    rw other (ap (λ (es : List Edge). x ∷ es) (without_none (x.edge_id + 1) next edges parts.2))
  where
    differs : (a b : ℕ) → a < b → eqb a b ≡ false
    differs a b h = grind (arith, nat_tests)

-- with an edge less that doesn't have the face on a side
less_step : (p : Edge → Bool) (y : Edge) (kept all : List Edge) (b : Bool) → (b ≡ true → p y ≡ false) → filter p kept ≡ filter p all → filter p (cond (not b) (y ∷ kept) kept) ≡ cond (p y) (y ∷ filter p all) (filter p all)
less_step p y kept all true away same = let none = away refl in same ∙ sym (rw none refl)
less_step p y kept all false away same = ap (λ (es : List Edge). cond (p y) (y ∷ es) es) same

pub beside_less : (f id : ℕ) (edges : List Edge) → ((y : Edge) → Contains edges y → eqb y.edge_id id ≡ true → has_side f y ≡ false) → filter (has_side f) (without_row edge_id_of edges id) ≡ filter (has_side f) edges
beside_less f id [] away = refl
beside_less f id (y ∷ edges) away =
    less_step (has_side f) y (without_row edge_id_of edges id) edges (eqb y.edge_id id) (away y (contains_here y edges)) (beside_less f id edges (λ z c. away z (contains_there z y edges c)))

-- ---- a row of a face changed
abbrev pub boxed : ℕ → Option Box4 → List FaceRow → List FaceRow
boxed f bounds rows = cond (f == 0) rows (with_change face_row_id rows f (λ (r : FaceRow). record r { mbr = bounds }))

abbrev pub other_boxed : ℕ → ℕ → Option Box4 → List FaceRow → List FaceRow
other_boxed left right bounds rows = cond (left == right) rows (boxed right bounds rows)

-- rows by their faces
pub record AreRows (row : ℕ → FaceRow) : Type 0 where
  pub id : (f : ℕ) → face_row_id (row f) ≡ f

abbrev pub chosen : (ℕ → FaceRow) → (ℕ → FaceRow) → ℕ → ℕ → FaceRow
chosen old new f g = cond (eqb g f) (new g) (old g)

pub map_same : (old new : ℕ → FaceRow) (fs : List ℕ) → ((g : ℕ) → old g ≡ new g) → map old fs ≡ map new fs
map_same old new [] same = refl
map_same old new (g ∷ fs) same = let first = same g in let rest = map_same old new fs same in cc

set_there : (old new : ℕ → FaceRow) (fs : List ℕ) (f : ℕ) (bounds : Option Box4) → AreRows old → record (old f) { mbr = bounds } ≡ new f
    → with_change face_row_id (map old fs) f (λ (r : FaceRow). record r { mbr = bounds }) ≡ map (chosen old new f) fs
set_there old new [] f bounds are is = refl
set_there old new (g ∷ fs) f bounds are is =
    let first = ap (λ k. cond (eqb k f) (record (old g) { mbr = bounds }) (old g)) (are.id g) ∙ by (eqb g f) refl in
    let rest = set_there old new fs f bounds are is in
    cc
  where
    by : (b : Bool) → eqb g f ≡ b → cond b (record (old g) { mbr = bounds }) (old g) ≡ cond b (new g) (old g)
    by true e = let same : g ≡ f = eqb-true g f e in subst (λ k. record (old k) { mbr = bounds } ≡ new k) (sym same) is
    by false e = refl

pub boxed_is : (old new : ℕ → FaceRow) (fs : List ℕ) (f : ℕ) (bounds : Option Box4) → AreRows old → AreRows new → (eqb f 0 ≡ false → bounds ≡ (new f).mbr) → old 0 ≡ new 0
    → boxed f bounds (map old fs) ≡ map (chosen old new f) fs
boxed_is old new fs f bounds are become is zero = by (eqb f 0) refl
  where
    with_box : (a b : FaceRow) → a.face_id ≡ b.face_id → bounds ≡ b.mbr → record a { mbr = bounds } ≡ b
    with_box a b id mbr i = record { face_id = id i; mbr = mbr i }

    same_at : (g : ℕ) (b : Bool) → f ≡ 0 → eqb g f ≡ b → old g ≡ cond b (new g) (old g)
    same_at g true none e = let at : g ≡ 0 = eqb-true g f e ∙ none in subst (λ k. old k ≡ new k) (sym at) zero
    same_at g false none e = refl

    by : (b : Bool) → eqb f 0 ≡ b → cond b (map old fs) (with_change face_row_id (map old fs) f (λ (r : FaceRow). record r { mbr = bounds })) ≡ map (chosen old new f) fs
    by true e = map_same old (chosen old new f) fs (λ g. same_at g (eqb g f) (eqb-true f 0 e) refl)
    by false e = set_there old new fs f bounds are (with_box (old f) (new f) (are.id f ∙ sym (become.id f)) (is e))

pub chosen_rows : (old new : ℕ → FaceRow) (f : ℕ) → AreRows old → AreRows new → AreRows (chosen old new f)
chosen_rows old new f are become = record { id = λ g. by g (eqb g f) }
  where
    by : (g : ℕ) (b : Bool) → face_row_id (cond b (new g) (old g)) ≡ g
    by g true = become.id g
    by g false = are.id g

-- ---- all boxes where an edge comes
pub other_way : (a b : ℕ) → eqb a b ≡ false → eqb b a ≡ false
other_way a b h = grind (arith, nat_tests)

box_grows : (S T : Drawing) (e : Edge) (f : ℕ) → T.edges ≡ S.edges ++ e ∷ [] → InOrder edge_id_of 0 S.next_ids.edge S.edges → has_side f e ≡ true → eqb f 0 ≡ false
    → box_with e.geom (without S.next_ids.edge S) f ≡ face_box T f
box_grows S T e f come ordered beside some =
    let old : without_row edge_id_of S.edges S.next_ids.edge ≡ S.edges = without_none 0 S.next_ids.edge S.edges ordered in
    rw some (ap (λ (es : List Edge). grown (least_box (points_of (filter (has_side f) es))) e.geom) old
    ∙ sym (least_more (points_of (filter (has_side f) S.edges)) e.geom)
    ∙ ap least_box (sym (beside_more f S.edges e beside) ∙ ap (λ (es : List Edge). points_of (filter (has_side f) es)) (sym come)))

row_with : (S T : Drawing) (g : ℕ) → filter (has_side g) T.edges ≡ filter (has_side g) S.edges → face_row S g ≡ face_row T g
row_with S T g same = ap (λ (es : List Edge). record { face_id = g; mbr = cond (g == 0) None (least_box (points_of es)) }) (sym same)

away_from_both : (g l r : ℕ) → eqb g l ≡ false → eqb g r ≡ false → (eqb l g || eqb r g) ≡ false
away_from_both g l r h k = rw (other_way g l h, other_way g r k) refl

pub boxes_come : (S T : Drawing) (e : Edge) (f : ℕ) (bounds : Option Box4) → T.edges ≡ S.edges ++ e ∷ [] → InOrder edge_id_of 0 S.next_ids.edge S.edges → e.left_face ≡ f → e.right_face ≡ f
    → bounds ≡ box_with e.geom (without S.next_ids.edge S) f → boxed f bounds (map (face_row S) S.faces) ≡ map (face_row T) S.faces
boxes_come S T e f bounds come ordered left right is =
    let beside : has_side f e ≡ true = or_left (e.left_face == f) (e.right_face == f) (eq-eqb e.left_face f left) in
    boxed_is (face_row S) (face_row T) S.faces f bounds (record { id = λ g. refl }) (record { id = λ g. refl }) (λ some. is ∙ box_grows S T e f come ordered beside some) refl
    ∙ map_same (chosen (face_row S) (face_row T) f) (face_row T) S.faces (λ g. by g (eqb g f) refl)
  where
    by : (g : ℕ) (b : Bool) → eqb g f ≡ b → cond b (face_row T g) (face_row S g) ≡ face_row T g
    by g true other = refl
    by g false other =
        let away : has_side g e ≡ false = rw (left, right) (away_from_both g f f other other) in
        row_with S T g (ap (filter (has_side g)) come ∙ beside_same g S.edges e away)

-- ---- all boxes where an edge goes
rows_go : (old new : ℕ → FaceRow) (fs : List ℕ) (l r : ℕ) (right : Option Box4) → AreRows old → AreRows new → old 0 ≡ new 0 → right ≡ (new r).mbr
    → ((g : ℕ) → eqb g l ≡ false → eqb g r ≡ false → old g ≡ new g) → other_boxed l r right (map (chosen old new l) fs) ≡ map new fs
rows_go old new fs l r right are become zero is stays = by (eqb l r) refl
  where
    left_alone : (g : ℕ) (b : Bool) → l ≡ r → eqb g l ≡ b → cond b (new g) (old g) ≡ new g
    left_alone g true same e = refl
    left_alone g false same e = stays g e (ap (eqb g) (sym same) ∙ e)

    zero_first : (b : Bool) → cond b (new 0) (old 0) ≡ new 0
    zero_first true = refl
    zero_first false = zero

    both : (g : ℕ) (b c : Bool) → eqb g r ≡ b → eqb g l ≡ c → cond b (new g) (cond c (new g) (old g)) ≡ new g
    both g true c e d = refl
    both g false true e d = refl
    both g false false e d = stays g d e

    by : (b : Bool) → eqb l r ≡ b → cond b (map (chosen old new l) fs) (boxed r right (map (chosen old new l) fs)) ≡ map new fs
    by true e = map_same (chosen old new l) new fs (λ g. left_alone g (eqb g l) (eqb-true l r e) refl)
    by false e =
        boxed_is (chosen old new l) new fs r right (chosen_rows old new l are become) become (λ some. is) (zero_first (eqb 0 l))
        ∙ map_same (chosen (chosen old new l) new r) new fs (λ g. both g (eqb g r) (eqb g l) refl refl)

pub boxes_go : (S T : Drawing) (e : Edge) (left right : Option Box4) → T.edges ≡ without_row edge_id_of S.edges e.edge_id → ((y : Edge) → Contains S.edges y → eqb y.edge_id e.edge_id ≡ true → y ≡ e)
    → left ≡ face_box (without e.edge_id S) e.left_face → right ≡ face_box (without e.edge_id S) e.right_face
    → other_boxed e.left_face e.right_face right (boxed e.left_face left (map (face_row S) S.faces)) ≡ map (face_row T) S.faces
boxes_go S T e left right gone only is_left is_right =
    let l = e.left_face in
    let r = e.right_face in
    let stays : (g : ℕ) → eqb g l ≡ false → eqb g r ≡ false → face_row S g ≡ face_row T g =
    λ g h k. row_with S T g (ap (filter (has_side g)) gone
    ∙ beside_less g e.edge_id S.edges (λ y c same. subst (λ (z : Edge). has_side g z ≡ false) (sym (only y c same)) (away_from_both g l r h k))) in
    let same_box : (g : ℕ) → face_box (without e.edge_id S) g ≡ face_box T g =
    λ g. ap (λ (es : List Edge). cond (g == 0) None (least_box (points_of (filter (has_side g) es)))) (sym gone) in
    ap (other_boxed l r right) (boxed_is (face_row S) (face_row T) S.faces l left (record { id = λ g. refl }) (record { id = λ g. refl }) (λ some. is_left ∙ same_box l) refl)
    ∙ rows_go (face_row S) (face_row T) S.faces l r right (record { id = λ g. refl }) (record { id = λ g. refl }) refl (is_right ∙ same_box r) stays

-- ---- writes one after the other
pub box_written : (n : Counters) (t : Tables) (f : ℕ) (bounds : Option Box4) → all_written n t (box_write f bounds) ≡ record t { faces = boxed f bounds t.faces }
box_written n t f bounds = by (eqb f 0)
  where
    by : (b : Bool) → all_written n t (cond b [] (SetBox (Old f) bounds ∷ [])) ≡ record t { faces = cond b t.faces (with_change face_row_id t.faces f (λ (r : FaceRow). record r { mbr = bounds })) }
    by true = refl
    by false = refl

pub other_written : (n : Counters) (t : Tables) (left right : ℕ) (bounds : Option Box4) → all_written n t (other_write left right bounds) ≡ record t { faces = other_boxed left right bounds t.faces }
other_written n t left right bounds = by (eqb left right)
  where
    by : (b : Bool) → all_written n t (cond b [] (box_write right bounds)) ≡ record t { faces = cond b t.faces (boxed right bounds t.faces) }
    by true = refl
    by false = box_written n t right bounds

pub can_box : (n : Counters) (t : Tables) (f : ℕ) (bounds : Option Box4) → IsTrue (has_face_row t f) → CanWriteAll n t (box_write f bounds)
can_box n t f bounds there = by (eqb f 0) refl
  where
    not_zero : eqb f 0 ≡ false → Old f ≡ Old 0 → ⊥
    not_zero e same = let zero : f ≡ 0 = cc in let yes = eq-eqb f 0 zero in absurd cc

    by : (b : Bool) → eqb f 0 ≡ b → CanWriteAll n t (cond b [] (SetBox (Old f) bounds ∷ []))
    by true e = tt
    by false e = ((there, not_zero e), tt)

pub can_other : (n : Counters) (t : Tables) (left right : ℕ) (bounds : Option Box4) → IsTrue (has_face_row t right) → CanWriteAll n t (other_write left right bounds)
can_other n t left right bounds there = by (eqb left right)
  where
    by : (b : Bool) → CanWriteAll n t (cond b [] (box_write right bounds))
    by true = tt
    by false = can_box n t right bounds there

pub boxed_there : (rows : List FaceRow) (f g : ℕ) (bounds : Option Box4) → has_row face_row_id (boxed f bounds rows) g ≡ has_row face_row_id rows g
boxed_there rows f g bounds = by (eqb f 0)
  where
    by : (b : Bool) → has_row face_row_id (cond b rows (with_change face_row_id rows f (λ (r : FaceRow). record r { mbr = bounds }))) g ≡ has_row face_row_id rows g
    by true = refl
    by false = has_changed face_row_id rows f g (λ (r : FaceRow). record r { mbr = bounds }) (λ r. refl)

-- the box of a face, in the rows of a drawing
abbrev box_among : ℕ → List Edge → Option Box4
box_among g edges = if g == 0 then None else least_box (flat_map (λ (e : Edge). e.geom) (filter (has_side g) edges))

pub same_box : (U : Drawing) (g : ℕ) → box_among g (drawn (tables_of U)).edges ≡ face_box U g
same_box U g = ap (λ (D : Drawing). box_among g D.edges) (drawn-tables_of U)
