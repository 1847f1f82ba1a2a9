-- Tests of rows and of the drawing for which they stand.
use Rattle.std.proofs.Common.{◌≡◌, ◌∙◌, ℕ, ◌+◌, ◌*◌, ◌≤◌, mul-add, ◌<◌, get_or, Bool, true, false, not, ◌&&◌, ◌||◌, List, [], ◌∷◌, map, drop, length, ◌==◌, subst, refl, sym, ap, zero, suc, arith}
use Rattle.std.proofs.Common.{Option, Some, None, Bor, cond, eqb, option_map}
use Rattle.std.specs.Option.{option_copied}
use Rattle.std.specs.List.{list_any, list_all, sum_by}
use Rattle.std.proofs.lemmas.List.Sums.{sum_by-cons}
use Rattle.std.proofs.lemmas.Bool.{and_parts, and_from}
use Rattle.std.proofs.lemmas.List.Folds.{list_all-map}
use Rattle.topo_base.specs.Point.{Point}
use Rattle.topo_base.specs.declared.rows.EdgeRow.{EdgeRow}
use Rattle.drawing.specs.Drawing.{Drawing, Edge, is_end_of, is_isolated, has_only, edge_id_of, edge_at}
use Rattle.drawing.specs.Blocked.{is_on_edge}
use Rattle.plane.specs.Line.{first_vertex, last_vertex, on_line, meets_at_own_ends}
use Rattle.plane.specs.LinePoints.{has_proper_segments}
use Rattle.drawing.specs.Plain.{IsPlain, is_between_nodes, has_point}
use Rattle.drawing.specs.Rows.{row_at}
use Rattle.drawing.specs.Writes.{edge_row_id}
use Rattle.drawing.specs.Tables.{Tables, drawn, drawn_edge}
use Rattle.drawing.proofs.TableLemmas.{list_any-map}
use Rattle.drawing_queries.proofs.IsolatedTests.{not_all_is}

-- a test that fits each row
pub all_fit : {R : Type 0} (rows : List R) → list_all (λ (r : R). true) rows ≡ true
all_fit [] = refl
all_fit (r ∷ rows) = all_fit rows

-- the edges' lines are proper
proper_of : (S : Drawing) (edges : List Edge) → list_all (is_between_nodes S) edges ≡ true → list_all (λ (e : Edge). has_proper_segments e.geom) edges ≡ true
proper_of S [] h = refl
proper_of S (e ∷ edges) h =
    let both = and_parts (is_between_nodes S e) (list_all (is_between_nodes S) edges) h in
    let starts = has_point S e.start_node (first_vertex e.geom) in
    let ends = has_point S e.end_node (last_vertex e.geom) in
    let front = (and_parts (has_proper_segments e.geom && starts) ends both.0).0 in
    and_from (has_proper_segments e.geom) (list_all (λ (f : Edge). has_proper_segments f.geom) edges) (and_parts (has_proper_segments e.geom) starts front).0 (proper_of S edges both.1)

pub proper_rows : (t : Tables) → IsPlain (drawn t) → list_all (λ (r : EdgeRow). has_proper_segments r.geom) t.edges ≡ true
proper_rows t h = sym (list_all-map (λ (e : Edge). has_proper_segments e.geom) drawn_edge t.edges) ∙ proper_of (drawn t) (drawn t).edges h.lines_fit

-- the tests over rows are those of the drawing
pub isolated_rows : (t : Tables) (n : ℕ) (rows : List EdgeRow) (b : Bool) → rows ≡ t.edges → b ≡ list_any (λ (r : EdgeRow). is_end_of n (drawn_edge r)) rows → not b ≡ is_isolated (drawn t) n
isolated_rows t n rows b e h = ap not (h ∙ ap (list_any (λ (r : EdgeRow). is_end_of n (drawn_edge r))) e ∙ sym (list_any-map (is_end_of n) drawn_edge t.edges))

pub on_edge_rows : (t : Tables) (p : Point) (rows : List EdgeRow) (b : Bool) → rows ≡ t.edges → b ≡ list_any (λ (r : EdgeRow). on_line p r.geom) rows → b ≡ is_on_edge (drawn t) p
on_edge_rows t p rows b e h = h ∙ ap (list_any (λ (r : EdgeRow). on_line p r.geom)) e ∙ sym (list_any-map (λ (x : Edge). on_line p x.geom) drawn_edge t.edges)

-- ---- a list from one of its elements on
pub dropped : {X : Type 0} (p : X → Bool) (xs : List X) (i : ℕ) → length xs ≤ i → list_any p (drop i xs) ≡ false
dropped p [] zero h = refl
dropped p [] (suc i) h = refl
dropped p (x ∷ xs) zero h = absurd (omega arith)
dropped p (x ∷ xs) (suc i) h = dropped p xs i (omega arith)

pub any_at : {X : Type 0} (p : X → Bool) (xs : List X) (i : ℕ) (x : X) → i < length xs → x ≡ get_or xs i x → p x ≡ true → list_any p (drop i xs) ≡ true
any_at p [] i x h is met = absurd (omega arith)
any_at p (y ∷ xs) zero x h is met = ap (λ b. b || list_any p xs) (ap p (sym is) ∙ met)
any_at p (y ∷ xs) (suc i) x h is met = any_at p xs i x (omega arith) is met

-- ---- steps
pub sum_same : {R : Type 0} (n : ℕ) (rows : List R) → sum_by (λ (r : R). n) rows ≡ n * length rows
sum_same n [] = omega arith
sum_same n (r ∷ rows) = sum_by-cons (λ s. n) r rows ∙ ap (λ k. n + k) (sum_same n rows) ∙ more n (length rows)
  where
    more : (a k : ℕ) → a + a * k ≡ a * suc k
    more a k =
        let next : k + 1 ≡ suc k = omega arith in
        let e : a + a * k ≡ a * (k + 1) = omega (arith, mul-add a k 1) in
        e ∙ ap (λ m. a * m) next

pub sum_ones : {R : Type 0} (rows : List R) → sum_by (λ (r : R). 1) rows ≡ length rows
sum_ones rows = let e = sum_same 1 rows in omega arith

-- ---- tests against a line
pub same_fit : {R : Type 0} (b : Bool) (rows : List R) → b ≡ true → list_all (λ (r : R). b) rows ≡ true
same_fit {R = R} b rows h = subst (λ c. list_all (λ (r : R). c) rows ≡ true) (sym h) (all_fit rows)

pub both_fit : {R : Type 0} (b : Bool) (f : R → Bool) (rows : List R) → b ≡ true → list_all f rows ≡ true → list_all (λ (r : R). b && f r) rows ≡ true
both_fit {R = R} b f rows h k = subst (λ c. list_all (λ (r : R). c && f r) rows ≡ true) (sym h) k

pub meets_rows : (t : Tables) (line : List Point) (rows : List EdgeRow) (b : Bool) → rows ≡ t.edges → b ≡ list_any (λ (r : EdgeRow). not (meets_at_own_ends line r.geom)) rows
    → b ≡ not (list_all (λ (e : Edge). meets_at_own_ends line e.geom) (drawn t).edges)
meets_rows t line rows b e h =
    h ∙ ap (list_any (λ (r : EdgeRow). not (meets_at_own_ends line r.geom))) e
    ∙ sym (not_all_is (λ (x : Edge). meets_at_own_ends line x.geom) (drawn t).edges ∙ list_any-map (λ (x : Edge). not (meets_at_own_ends line x.geom)) drawn_edge t.edges)

pub only_rows : (t : Tables) (n e f : ℕ) (rows : List EdgeRow) (b : Bool) → rows ≡ t.edges
    → b ≡ list_any (λ (r : EdgeRow). is_end_of n (drawn_edge r) && not (r.edge_id == e) && not (r.edge_id == f)) rows → not b ≡ has_only (drawn t) n e f
only_rows t n e f rows b is h =
    ap not (h ∙ ap (list_any (λ (r : EdgeRow). is_end_of n (drawn_edge r) && not (r.edge_id == e) && not (r.edge_id == f))) is
    ∙ sym (list_any-map (λ (x : Edge). is_end_of n x && not (x.edge_id == e) && not (x.edge_id == f)) drawn_edge t.edges))

-- ---- the row of an edge
edge_rows : (rows : List EdgeRow) (n : ℕ) → row_at edge_id_of (map drawn_edge rows) n ≡ option_map drawn_edge (row_at edge_row_id rows n)
edge_rows [] n = refl
edge_rows (r ∷ rows) n = by (eqb r.edge_id n) (edge_rows rows n)
  where
    by : (b : Bool) → row_at edge_id_of (map drawn_edge rows) n ≡ option_map drawn_edge (row_at edge_row_id rows n)
        → cond b (Some (drawn_edge r)) (row_at edge_id_of (map drawn_edge rows) n) ≡ option_map drawn_edge (cond b (Some r) (row_at edge_row_id rows n))
    by true rest = refl
    by false rest = rest

pub edge_found : (t : Tables) (n : ℕ) (found : Option (Bor EdgeRow)) (row : Bor EdgeRow) → found ≡ Some row → option_copied found ≡ row_at edge_row_id t.edges n → edge_at (drawn t) n ≡ Some (drawn_edge (row.now))
edge_found t n found row is e = edge_rows t.edges n ∙ ap (option_map drawn_edge) (sym e ∙ ap option_copied is)

pub edge_none : (t : Tables) (n : ℕ) (found : Option (Bor EdgeRow)) → ((row : Bor EdgeRow) → found ≡ Some row → ⊥) → option_copied found ≡ row_at edge_row_id t.edges n → edge_at (drawn t) n ≡ None
edge_none t n None other e = edge_rows t.edges n ∙ ap (option_map drawn_edge) (sym e)
edge_none t n (Some row) other e = absurd (other row refl)
