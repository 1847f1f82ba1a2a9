-- The face of a point, by the parities of the border segments above it.
use Rattle.std.proofs.Common.{◌≡◌, ℕ, ◌+◌, ◌-◌, ◌<◌, ◌≤◌, Bool, true, false, not, ◌&&◌, ◌||◌, ◌==◌, List, [], ◌∷◌, ◌++◌, map, filter, flat_map, length, get_or, cond, eqb, eqb-true, eq-eqb, refl, sym, ap, ◌∙◌, subst, arith, Option, Some, None, unwrap_or, ⊎_elim, drop, suc, zero, replicate, add-one}
use Rattle.std.specs.List.{find, list_any}
use Rattle.std.proofs.lemmas.Bool.{and_parts, cases_lt}
use Rattle.topo_base.specs.Point.{Point}
use Rattle.topo_base.specs.declared.rows.EdgeRow.{EdgeRow}
use Rattle.drawing.specs.Drawing.{Drawing, Edge, has_face}
use Rattle.plane.specs.Parity.{xor, is_odd_over}
use Rattle.drawing.specs.Faces.{is_border, is_in_face, face_at}
use Rattle.plane.specs.Line.{segments_of}
use Rattle.drawing.specs.Places.{rows_of}
use Rattle.plane.specs.Segment.{Segment}
use Rattle.drawing.specs.Subdivision.{face_id_of}
use Rattle.drawing.specs.Tables.{Tables, drawn, drawn_edge}
use Rattle.drawing.proofs.Ordering.{InOrder, first_of}
use Rattle.plane.proofs.Walks.{odd_append}
use Rattle.drawing_queries.specs.Location.{border_in, AreOdd, IsLeast, is_odd_listed}

-- ---- an edge more
abbrev pub counts_for : ℕ → Point → EdgeRow → Bool
counts_for f p r = is_border f (drawn_edge r) && is_odd_over p (segments_of r.geom)

one_more : (p : Point) (b : Bool) (ss ts : List Segment) → is_odd_over p (cond b (ss ++ ts) ts) ≡ xor (b && is_odd_over p ss) (is_odd_over p ts)
one_more p true ss ts = odd_append p ss ts
one_more p false ss ts = refl

pub odd_more : (f : ℕ) (p : Point) (r : EdgeRow) (rows : List EdgeRow) → is_odd_over p (border_in f (r ∷ rows)) ≡ xor (counts_for f p r) (is_odd_over p (border_in f rows))
odd_more f p r rows = lifted (is_border f (drawn_edge r)) ∙ one_more p (is_border f (drawn_edge r)) (segments_of r.geom) (border_in f rows)
  where
    lines : List Edge → List Segment
    lines es = flat_map (λ (e : Edge). segments_of e.geom) es

    lifted : (b : Bool) → is_odd_over p (flat_map (λ (e : Edge). segments_of e.geom) (cond b (drawn_edge r ∷ filter (is_border f) (map drawn_edge rows)) (filter (is_border f) (map drawn_edge rows))))
        ≡ is_odd_over p (cond b (segments_of r.geom ++ border_in f rows) (border_in f rows))
    lifted true = refl
    lifted false = refl

-- the rows from a place on: that of the place, if any, and those behind it
with_slot : Option EdgeRow → List EdgeRow → List EdgeRow
with_slot None rows = rows
with_slot (Some r) rows = r ∷ rows

slots_step : (slots : List (Option EdgeRow)) (i : ℕ) (slot : Option EdgeRow) → i < length slots → slot ≡ get_or slots i slot → rows_of (drop i slots) ≡ with_slot slot (rows_of (drop (suc i) slots))
unfolding with_slot
slots_step [] i slot h is = absurd (omega arith)
slots_step (x ∷ slots) zero slot h is = subst (λ (y : Option EdgeRow). rows_of (x ∷ slots) ≡ with_slot y (rows_of slots)) (sym is) (by x)
  where
    by : (x : Option EdgeRow) → rows_of (x ∷ slots) ≡ with_slot x (rows_of slots)
    by None = refl
    by (Some r) = refl
slots_step (x ∷ slots) (suc i) slot h is = slots_step slots i slot (omega arith) is

pub slots_some : (slots : List (Option EdgeRow)) (i : ℕ) (slot : Option EdgeRow) (r : EdgeRow) → i < length slots → slot ≡ get_or slots i slot → slot ≡ Some r → rows_of (drop i slots) ≡ r ∷ rows_of (drop (i + 1) slots)
unfolding with_slot
slots_some slots i slot r h is some =
    subst (λ k. rows_of (drop i slots) ≡ r ∷ rows_of (drop k slots)) (sym (add-one i))
    (subst (λ (y : Option EdgeRow). rows_of (drop i slots) ≡ with_slot y (rows_of (drop (suc i) slots))) some (slots_step slots i slot h is))

pub slots_none : (slots : List (Option EdgeRow)) (i : ℕ) (slot : Option EdgeRow) → i < length slots → slot ≡ get_or slots i slot → ((r : EdgeRow) → slot ≡ Some r → ⊥) → rows_of (drop i slots) ≡ rows_of (drop (i + 1) slots)
unfolding with_slot
slots_none slots i slot h is none =
    subst (λ k. rows_of (drop i slots) ≡ rows_of (drop k slots)) (sym (add-one i)) (by slot none (slots_step slots i slot h is))
  where
    by : (y : Option EdgeRow) → ((r : EdgeRow) → y ≡ Some r → ⊥) → rows_of (drop i slots) ≡ with_slot y (rows_of (drop (suc i) slots)) → rows_of (drop i slots) ≡ rows_of (drop (suc i) slots)
    by None other e = e
    by (Some r) other e = absurd (other r refl)

-- a parity that has changed, with the rest
pub turned : (old new this rest whole : Bool) (all : Bool) → new ≡ xor this old → all ≡ xor this rest → xor old all ≡ whole → xor new rest ≡ whole
turned old new this rest whole all e f h = rw e (sym (by old this rest) ∙ ap (xor old) (sym f) ∙ h)
  where
    by : (a b c : Bool) → xor a (xor b c) ≡ xor (xor b a) c
    by true true true = refl
    by true true false = refl
    by true false c = refl
    by false true c = refl
    by false false c = refl

pub none_odd : (n k : ℕ) → get_or (replicate n false) k false ≡ false
none_odd zero k = refl
none_odd (suc n) zero = refl
none_odd (suc n) (suc k) = none_odd n k

-- ---- what is found
abbrev pub found : Drawing → Point → ℕ → Bool
found S p f = not (f == 0) && is_in_face S f p

abbrev pub NoneBelow : Drawing → Point → ℕ → Type 0
NoneBelow S p n = (f : ℕ) → f < n → (found S p f && has_face S f) ≡ false

-- an ascending list has no id below its start, and none from its end on
in_range : (low next : ℕ) (fs : List ℕ) (f : ℕ) → InOrder face_id_of low next fs → list_any (λ g. g == f) fs ≡ true → (low ≤ f) × (f < next)
in_range low next [] f ordered there = absurd cc
in_range low next (x ∷ fs) f ordered there =
    let parts = first_of face_id_of low next x fs ordered in
    by (eqb x f) refl there parts.0 parts.1 (in_range (x + 1) next fs f parts.2)
  where
    by : (b : Bool) → eqb x f ≡ b → (b || list_any (λ g. g == f) fs) ≡ true → low ≤ x → x < next → (list_any (λ g. g == f) fs ≡ true → (x + 1 ≤ f) × (f < next)) → (low ≤ f) × (f < next)
    by true e here above below rest = let same : x ≡ f = eqb-true x f e in (omega arith, omega arith)
    by false e here above below rest = let later = rest here in let least = later.0 in (omega arith, later.1)

met_here : (a b c : Bool) → b ≡ true → (a && (b || c)) ≡ false → a ≡ false
met_here true true c is e = absurd cc
met_here true false c is e = absurd cc
met_here false b c is e = refl

met_behind : (a b c : Bool) → (a && (b || c)) ≡ false → (a && c) ≡ false
met_behind true true c e = absurd cc
met_behind true false c e = e
met_behind false b c e = refl

-- the first face of an ascending list that meets the test is the least one
find_first : (test : ℕ → Bool) (low next : ℕ) (fs : List ℕ) (f : ℕ) → InOrder face_id_of low next fs → list_any (λ g. g == f) fs ≡ true → test f ≡ true
    → ((g : ℕ) → g < f → (test g && list_any (λ h. h == g) fs) ≡ false) → find test fs ≡ Some f
find_first test low next [] f ordered there met none = absurd cc
find_first test low next (x ∷ fs) f ordered there met none =
    let parts = first_of face_id_of low next x fs ordered in
    by (eqb x f) refl there parts.2 (λ here. find_first test (x + 1) next fs f parts.2 here met (λ g less. met_behind (test g) (eqb x g) (list_any (λ h. h == g) fs) (none g less)))
  where
    by : (b : Bool) → eqb x f ≡ b → (b || list_any (λ g. g == f) fs) ≡ true → InOrder face_id_of (x + 1) next fs → (list_any (λ g. g == f) fs ≡ true → find test fs ≡ Some f)
        → cond (test x) (Some x) (find test fs) ≡ Some f
    by true e here behind rest =
        let same : x ≡ f = eqb-true x f e in
        subst (λ y. cond (test y) (Some y) (find test fs) ≡ Some f) (sym same) (rw met refl)
    by false e here behind rest =
        let above = (in_range (x + 1) next fs f behind here).0 in
        let not_met : test x ≡ false = met_here (test x) (eqb x x) (list_any (λ h. h == x) fs) (eq-eqb x x refl) (none x (omega arith)) in
        rw not_met (rest here)

find_none : (test : ℕ → Bool) (low next : ℕ) (fs : List ℕ) → InOrder face_id_of low next fs → ((g : ℕ) → g < next → (test g && list_any (λ h. h == g) fs) ≡ false) → find test fs ≡ None
find_none test low next [] ordered none = refl
find_none test low next (x ∷ fs) ordered none =
    let parts = first_of face_id_of low next x fs ordered in
    let not_met : test x ≡ false = met_here (test x) (eqb x x) (list_any (λ h. h == x) fs) (eq-eqb x x refl) (none x parts.1) in
    rw not_met (find_none test (x + 1) next fs parts.2 (λ g less. met_behind (test g) (eqb x g) (list_any (λ h. h == g) fs) (none g less)))

-- ---- the face of a point
abbrev pub HasFacesInOrder : Drawing → Type 0
HasFacesInOrder S = InOrder face_id_of 0 S.next_ids.face S.faces

face_is : (S : Drawing) (p : Point) (f : ℕ) → HasFacesInOrder S → has_face S f ≡ true → found S p f ≡ true → NoneBelow S p f → face_at S p ≡ f
face_is S p f ordered there met none = ap (λ (o : Option ℕ). unwrap_or o 0) (find_first (found S p) 0 S.next_ids.face S.faces f ordered there met none)

pub face_none : (t : Tables) (p : Point) (n : ℕ) → HasFacesInOrder (drawn t) → t.next_ids.face ≤ n → NoneBelow (drawn t) p n → 0 ≡ face_at (drawn t) p
face_none t p n ordered far none =
    let S = drawn t in
    sym (ap (λ (o : Option ℕ). unwrap_or o 0) (find_none (found S p) 0 S.next_ids.face S.faces ordered (λ g less. none g (omega arith))))

-- a place says whether the point is in its face
in_place : (t : Tables) (p : Point) (first : ℕ) (odd : List Bool) (f : ℕ) → AreOdd p first t.edges odd → first ≤ f → f < first + length odd → get_or odd (f - first) false ≡ is_in_face (drawn t) f p
in_place t p first odd f counted above below =
    let same : first + (f - first) ≡ f = omega arith in
    counted (f - first) (omega arith) ∙ ap (λ g. is_odd_over p (border_in g t.edges)) same

turned_tests : (a b c : Bool) → ((a && b) && c) ≡ ((b && a) && c)
turned_tests true true c = refl
turned_tests true false c = refl
turned_tests false true c = refl
turned_tests false false c = refl

listed_is : (t : Tables) (p : Point) (first : ℕ) (odd : List Bool) (f : ℕ) → AreOdd p first t.edges odd → first ≤ f → f < first + length odd
    → is_odd_listed (drawn t) first odd f ≡ (found (drawn t) p f && has_face (drawn t) f)
listed_is t p first odd f counted above below =
    ap (λ b. b && not (f == 0) && has_face (drawn t) f) (in_place t p first odd f counted above below)
    ∙ turned_tests (is_in_face (drawn t) f p) (not (f == 0)) (has_face (drawn t) f)

not_listed : (S : Drawing) (f : ℕ) → HasFacesInOrder S → S.next_ids.face ≤ f → has_face S f ≡ false
not_listed S f ordered far = by (has_face S f) refl
  where
    by : (b : Bool) → has_face S f ≡ b → b ≡ false
    by true e = let range = in_range 0 S.next_ids.face S.faces f ordered e in let below = range.1 in absurd (omega arith)
    by false e = refl

and_false : (a b : Bool) → b ≡ false → (a && b) ≡ false
and_false true b e = e
and_false false b e = refl

-- none in this walk, and none before it
pub none_yet : (t : Tables) (p : Point) (first : ℕ) (odd : List Bool) (n : ℕ) → HasFacesInOrder (drawn t) → AreOdd p first t.edges odd
    → ((f : ℕ) → first ≤ f → f < first + length odd → f < t.next_ids.face → is_odd_listed (drawn t) first odd f ≡ false) → n ≡ first + length odd → NoneBelow (drawn t) p first → NoneBelow (drawn t) p n
none_yet t p first odd n ordered counted none_here end none f h =
    ⊎_elim (λ (less : f < first). none f less)
    (λ (above : first ≤ f). ⊎_elim
    (λ (known : f < t.next_ids.face). sym (listed_is t p first odd f counted above (omega arith)) ∙ none_here f above (omega arith) known)
    (λ (far : t.next_ids.face ≤ f). and_false (found (drawn t) p f) (has_face (drawn t) f) (not_listed (drawn t) f ordered far))
    (cases_lt f t.next_ids.face))
    (cases_lt f first)

-- parities over rows that are the tables'
pub odd_rows : {rows : List EdgeRow} (p : Point) (first : ℕ) (edges : List EdgeRow) (odd : List Bool) → rows ≡ edges → AreOdd p first rows odd → AreOdd p first edges odd
odd_rows p first edges odd same counted k h = counted k h ∙ ap (λ (rs : List EdgeRow). is_odd_over p (border_in (first + k) rs)) same

-- the least one in this walk
pub found_now : (t : Tables) (p : Point) (first next : ℕ) (odd : List Bool) (f : ℕ) → HasFacesInOrder (drawn t) → AreOdd p first t.edges odd
    → IsLeast (is_odd_listed (drawn t) first odd) first (first + length odd) next (Some f) → NoneBelow (drawn t) p first → f ≡ face_at (drawn t) p
found_now t p first next odd f ordered counted least none =
    let S = drawn t in
    let above = least.0 in
    let below = least.1 in
    let both = and_parts (found S p f) (has_face S f) (sym (listed_is t p first odd f counted above below) ∙ least.2) in
    sym (face_is S p f ordered both.1 both.0 (λ g less. ⊎_elim (λ (before : g < first). none g before)
    (λ (after : first ≤ g). sym (listed_is t p first odd g counted after (omega arith)) ∙ least.3 g after less) (cases_lt g first)))
