-- The rows of nodes and edges where an edge is split and healed again.
use Rattle.std.proofs.Common.{◌≡◌, ◌≢◌, ℕ, ◌+◌, ◌<◌, ◌≤◌, refl, sym, ◌∙◌, ap, subst, arith, ◌⊎◌, ⊎_elim, Bool, true, false, not, cond, ◌&&◌, ◌==◌, eqb-true, eq-eqb, ne_eqb, List, [], ◌∷◌, ◌++◌, map, reverse, Some, None, option_map}
use Rattle.std.specs.List.{Contains, list_any}
use Rattle.std.specs.Option.{option_or}
use Rattle.std.proofs.lemmas.Bool.{and_parts, false≢true, false_from_ne_true, or_cases}
use Rattle.std.proofs.lemmas.List.{append-nil}
use Rattle.topo_base.specs.Point.{Point}
use Rattle.drawing.specs.Drawing.{Edge, edge_id_of, is_end_of}
use Rattle.drawing.specs.HalfEdge.{backward_of, forward_of}
use Rattle.drawing.specs.HealEdges.{joined_edge}
use Rattle.plane.specs.Line.{joined, line_from, line_up_to}
use Rattle.drawing.specs.Rows.{row_at, with_change, without_row}
use Rattle.drawing.specs.SplitEdge.{first_part, second_part}
use Rattle.plane.proofs.ListTests.{contains_here, contains_there}
use Rattle.drawing.proofs.Members.{ids_differ, ids_within, pairwise-same}
use Rattle.drawing.proofs.Ordering.{InOrder, InOrder-change, InOrder-filter}
use Rattle.drawing.proofs.PlainSplits.{ComesFrom, EdgeIdsDiffer, from_changed}
use Rattle.drawing.proofs.RowLemmas.{row_at-append, row_at-change_same}
use Rattle.ring_laws.proofs.Known.{any_out}
use Rattle.edge_heal.specs.HealLaw.{with_vertex}

itself : (n : ℕ) → (n == n) ≡ true
itself n = eq-eqb n n refl

-- ---- rows below a number
below_not : {R : Type 0} (id : R → ℕ) (next n : ℕ) (rows : List R) (r : R) → InOrder id 0 next rows → Contains rows r → next ≤ n → (id r == n) ≡ false
below_not id next n rows r ordered c h = let below = (ids_within id 0 next rows r ordered c).1 in ne_eqb (id r) n (λ e. absurd (omega arith))

-- rows before those with this id
past_rows : {R : Type 0} (id : R → ℕ) (n : ℕ) (rows more : List R) → ((r : R) → Contains rows r → (id r == n) ≡ false) → row_at id (rows ++ more) n ≡ row_at id more n
past_rows id n [] more each = refl
past_rows id n (r ∷ rows) more each = ap (λ b. cond b (Some r) (row_at id (rows ++ more) n)) (each r (contains_here r rows)) ∙ past_rows id n rows more (λ s c. each s (contains_there s r rows c))

kept_rows : {R : Type 0} (id : R → ℕ) (n : ℕ) (rows more : List R) → ((r : R) → Contains rows r → (id r == n) ≡ false) → without_row id (rows ++ more) n ≡ rows ++ without_row id more n
kept_rows id n [] more each = refl
kept_rows id n (r ∷ rows) more each =
    ap (λ b. cond (not b) (r ∷ without_row id (rows ++ more) n) (without_row id (rows ++ more) n)) (each r (contains_here r rows))
    ∙ ap (λ rs. r ∷ rs) (kept_rows id n rows more (λ s c. each s (contains_there s r rows c)))

-- a row that came goes again, and so do two
pub next_goes : {R : Type 0} (id : R → ℕ) (n : ℕ) (rows : List R) (new : R) → id new ≡ n → InOrder id 0 n rows → without_row id (rows ++ new ∷ []) n ≡ rows
next_goes id n rows new is ordered =
    kept_rows id n rows (new ∷ []) (λ r c. below_not id n n rows r ordered c (omega arith))
    ∙ ap (λ b. rows ++ cond (not b) (new ∷ []) []) (eq-eqb (id new) n is) ∙ append-nil rows

changed_twice : {X : Type 0} (f g h : X → X) (xs : List X) → ((x : X) → Contains xs x → f (g x) ≡ h x) → map f (map g xs) ≡ map h xs
changed_twice f g h [] each = refl
changed_twice f g h (x ∷ xs) each =
    let first = each x (contains_here x xs) in
    let rest = changed_twice f g h xs (λ y c. each y (contains_there y x xs c)) in
    λ i. first i ∷ rest i

-- ---- an edge of a list of edges, and a node that is new
pub record HasEdge (es : List Edge) (e : Edge) (n new : ℕ) : Type 0 where
  pub ordered : InOrder edge_id_of 0 new es
  pub at : row_at edge_id_of es e.edge_id ≡ Some e
  pub there : Contains es e
  pub starts : (x : Edge) → Contains es x → x.start_node < n
  pub ends : (x : Edge) → Contains es x → x.end_node < n

pub edge_below : (es : List Edge) (e : Edge) (n new : ℕ) → HasEdge es e n new → (e.edge_id == new) ≡ false
edge_below es e n new g = below_not edge_id_of new new es e g.ordered g.there (omega arith)

abbrev pub parts_of : List Edge → Edge → Point → ℕ → ℕ → List Edge
parts_of es e p n new = with_change edge_id_of es e.edge_id (λ x. first_part x n p x.edge_id) ++ second_part e n p new ∷ []

pub first_at : (es : List Edge) (e : Edge) (p : Point) (n new : ℕ) → HasEdge es e n new → row_at edge_id_of (parts_of es e p n new) e.edge_id ≡ Some (first_part e n p e.edge_id)
first_at es e p n new g =
    let change = λ (x : Edge). first_part x n p x.edge_id in
    row_at-append edge_id_of (with_change edge_id_of es e.edge_id change) (second_part e n p new) e.edge_id
    ∙ ap (λ o. option_or o (cond (new == e.edge_id) (Some (second_part e n p new)) None)) (row_at-change_same edge_id_of es e.edge_id change (λ x. refl) ∙ ap (option_map change) g.at)

pub second_at : (es : List Edge) (e : Edge) (p : Point) (n new : ℕ) → HasEdge es e n new → row_at edge_id_of (parts_of es e p n new) new ≡ Some (second_part e n p new)
second_at es e p n new g =
    let change = λ (x : Edge). first_part x n p x.edge_id in
    let front = with_change edge_id_of es e.edge_id change in
    let ordered = InOrder-change edge_id_of 0 new e.edge_id change es (λ x. refl) g.ordered in
    past_rows edge_id_of new front (second_part e n p new ∷ []) (λ x c. below_not edge_id_of new new front x ordered c (omega arith))
    ∙ ap (λ b. cond b (Some (second_part e n p new)) None) (itself new)

-- the edges with two new ones in its place
abbrev pub new_parts_of : List Edge → Edge → Point → ℕ → ℕ → List Edge
new_parts_of es e p n new = without_row edge_id_of es e.edge_id ++ first_part e n p new ∷ second_part e n p (new + 1) ∷ []

next_differs : (n : ℕ) → (n == n + 1) ≡ false
next_differs n = ne_eqb n (n + 1) (λ e. absurd (omega arith))

front_not : (es : List Edge) (e : Edge) (n new m : ℕ) → HasEdge es e n new → new ≤ m → (x : Edge) → Contains (without_row edge_id_of es e.edge_id) x → (x.edge_id == m) ≡ false
front_not es e n new m g h x c =
    below_not edge_id_of new m (without_row edge_id_of es e.edge_id) x (InOrder-filter edge_id_of 0 new (λ r. not (edge_id_of r == e.edge_id)) es g.ordered) c h

pub new_first_at : (es : List Edge) (e : Edge) (p : Point) (n new : ℕ) → HasEdge es e n new → row_at edge_id_of (new_parts_of es e p n new) new ≡ Some (first_part e n p new)
new_first_at es e p n new g =
    past_rows edge_id_of new (without_row edge_id_of es e.edge_id) (first_part e n p new ∷ second_part e n p (new + 1) ∷ []) (front_not es e n new new g (omega arith))
    ∙ ap (λ b. cond b (Some (first_part e n p new)) (row_at edge_id_of (second_part e n p (new + 1) ∷ []) new)) (itself new)

pub new_second_at : (es : List Edge) (e : Edge) (p : Point) (n new : ℕ) → HasEdge es e n new → row_at edge_id_of (new_parts_of es e p n new) (new + 1) ≡ Some (second_part e n p (new + 1))
new_second_at es e p n new g =
    past_rows edge_id_of (new + 1) (without_row edge_id_of es e.edge_id) (first_part e n p new ∷ second_part e n p (new + 1) ∷ []) (front_not es e n new (new + 1) g (omega arith))
    ∙ (λ i. cond (next_differs new i) (Some (first_part e n p new)) (cond (itself (new + 1) i) (Some (second_part e n p (new + 1))) None))

pub new_parts_go : (es : List Edge) (e : Edge) (p : Point) (n new : ℕ) → HasEdge es e n new
    → without_row edge_id_of (without_row edge_id_of (new_parts_of es e p n new) new) (new + 1) ≡ without_row edge_id_of es e.edge_id
new_parts_go es e p n new g =
    let front = without_row edge_id_of es e.edge_id in
    let one = first_part e n p new in
    let two = second_part e n p (new + 1) in
    let other : (new + 1 == new) ≡ false = ne_eqb (new + 1) new (λ k. absurd (omega arith)) in
    ap (λ xs. without_row edge_id_of xs (new + 1))
    (kept_rows edge_id_of new front (one ∷ two ∷ []) (front_not es e n new new g (omega arith))
    ∙ (λ i. front ++ cond (not (itself new i)) (one ∷ cond (not (other i)) (two ∷ []) []) (cond (not (other i)) (two ∷ []) [])))
    ∙ kept_rows edge_id_of (new + 1) front (two ∷ []) (front_not es e n new (new + 1) g (omega arith))
    ∙ ap (λ b. front ++ cond (not b) (two ∷ []) []) (itself (new + 1)) ∙ append-nil front

-- ---- no other edge ends at the new node
pub only_parts : (es fs : List Edge) (e : Edge) (p : Point) (n new a b : ℕ) → HasEdge es e n new → ((x : Edge) → Contains fs x → ComesFrom es e (first_part e n p a) (second_part e n p b) x)
    → list_any (λ x. is_end_of n x && not (x.edge_id == a) && not (x.edge_id == b)) fs ≡ false
only_parts es fs e p n new a b g from = false_from_ne_true (list_any test fs) (λ t. let s = any_out test fs t in by s.0 s.1.1 (from s.0 s.1.0))
  where
    test : Edge → Bool
    test x = is_end_of n x && not (x.edge_id == a) && not (x.edge_id == b)

    known : (x : Edge) (m : ℕ) → x.edge_id ≡ m → not (x.edge_id == m) ≡ true → ⊥
    known x m is h = false≢true (sym (ap not (eq-eqb x.edge_id m is)) ∙ h)

    old : (x : Edge) → Contains es x → is_end_of n x ≡ true → ⊥
    old x c end =
        ⊎_elim
        (λ (h : (x.start_node == n) ≡ true). let is = eqb-true x.start_node n h in let below = g.starts x c in omega arith)
        (λ (h : (x.end_node == n) ≡ true). let is = eqb-true x.end_node n h in let below = g.ends x c in omega arith)
        (or_cases (x.start_node == n) (x.end_node == n) end)

    by : (x : Edge) → test x ≡ true → ComesFrom es e (first_part e n p a) (second_part e n p b) x → ⊥
    by x t came =
        let both = and_parts (is_end_of n x && not (x.edge_id == a)) (not (x.edge_id == b)) t in
        let front = and_parts (is_end_of n x) (not (x.edge_id == a)) both.0 in
        ⊎_elim
        (λ (h : Contains es x × (x.edge_id ≢ e.edge_id)). old x h.0 front.0)
        (λ (h : (first_part e n p a ≡ x) ⊎ (second_part e n p b ≡ x)).
        ⊎_elim
        (λ (k : first_part e n p a ≡ x). known x a (ap (λ (y : Edge). y.edge_id) (sym k)) front.1)
        (λ (k : second_part e n p b ≡ x). known x b (ap (λ (y : Edge). y.edge_id) (sym k)) both.1)
        h)
        came

pub parts_come : (es : List Edge) (e : Edge) (p : Point) (n new : ℕ) → HasEdge es e n new → (x : Edge) → Contains (parts_of es e p n new) x → ComesFrom es e (first_part e n p e.edge_id) (second_part e n p new) x
parts_come es e p n new g x c = from_changed es e p n new (ids_differ edge_id_of 0 new es g.ordered) g.there x c

-- ---- the joined edge
-- the two parts walked through the node
pub parts_joined : (x e : Edge) (p : Point) (n m new id : ℕ) → joined_edge n (first_part x n p m) (second_part e n p new) id ≡ record x { edge_id = id; end_node = e.end_node; geom = joined (line_up_to p x.geom) (line_from p e.geom) }
parts_joined x e p n m new id =
    let f = second_part e n p new in
    let g = first_part x n p m in
    (λ i. let far = cond (itself n i) (forward_of f) (backward_of f) in
    cond (itself n i) (record g { edge_id = id; end_node = far.to_node; geom = joined g.geom far.points }) (record g { edge_id = id; start_node = far.to_node; geom = joined (reverse far.points) g.geom }))

pub edges_again : (es : List Edge) (e : Edge) (p : Point) (n new : ℕ) → HasEdge es e n new
    → with_change edge_id_of (without_row edge_id_of (parts_of es e p n new) new) e.edge_id (λ x. joined_edge n x (second_part e n p new) x.edge_id)
    ≡ with_change edge_id_of es e.edge_id (λ x. record x { geom = with_vertex p x.geom })
edges_again es e p n new g =
    let part = λ (x : Edge). first_part x n p x.edge_id in
    let join = λ (x : Edge). joined_edge n x (second_part e n p new) x.edge_id in
    let ordered = InOrder-change edge_id_of 0 new e.edge_id part es (λ x. refl) g.ordered in
    ap (λ xs. with_change edge_id_of xs e.edge_id join) (next_goes edge_id_of new (with_change edge_id_of es e.edge_id part) (second_part e n p new) refl ordered)
    ∙ changed_twice (λ x. cond (x.edge_id == e.edge_id) (join x) x) (λ x. cond (x.edge_id == e.edge_id) (part x) x) (λ x. cond (x.edge_id == e.edge_id) (record x { geom = with_vertex p x.geom }) x) es each
  where
    again : Edge → Edge
    again y = cond (y.edge_id == e.edge_id) (joined_edge n y (second_part e n p new) y.edge_id) y

    own : again (first_part e n p e.edge_id) ≡ record e { geom = with_vertex p e.geom }
    own = ap (λ b. cond b (joined_edge n (first_part e n p e.edge_id) (second_part e n p new) e.edge_id) (first_part e n p e.edge_id)) (itself e.edge_id) ∙ parts_joined e e p n e.edge_id new e.edge_id

    one : (x : Edge) → Contains es x → x.edge_id ≡ e.edge_id → e ≡ x
    one x c is = pairwise-same EdgeIdsDiffer es e x (ids_differ edge_id_of 0 new es g.ordered) g.there c (λ far. far (sym is)) (λ far. far is)

    by : (x : Edge) → Contains es x → (t : Bool) → (x.edge_id == e.edge_id) ≡ t → again (cond t (first_part x n p x.edge_id) x) ≡ cond t (record x { geom = with_vertex p x.geom }) x
    by x c true h = subst (λ (y : Edge). again (first_part y n p y.edge_id) ≡ record y { geom = with_vertex p y.geom }) (one x c (eqb-true x.edge_id e.edge_id h)) own
    by x c false h = ap (λ b. cond b (joined_edge n x (second_part e n p new) x.edge_id) x) h

    each : (x : Edge) → Contains es x → again (cond (x.edge_id == e.edge_id) (first_part x n p x.edge_id) x) ≡ cond (x.edge_id == e.edge_id) (record x { geom = with_vertex p x.geom }) x
    each x c = by x c (x.edge_id == e.edge_id) refl

-- an edge with the line that it had
pub edges_same : (es : List Edge) (e : Edge) (p : Point) (n new : ℕ) → HasEdge es e n new → with_vertex p e.geom ≡ e.geom → with_change edge_id_of es e.edge_id (λ x. record x { geom = with_vertex p x.geom }) ≡ es
edges_same es e p n new g line = kept es (λ x c. c)
  where
    by : (x : Edge) → Contains es x → (t : Bool) → (x.edge_id == e.edge_id) ≡ t → cond t (record x { geom = with_vertex p x.geom }) x ≡ x
    by x c true h =
        let is = eqb-true x.edge_id e.edge_id h in
        let one : e ≡ x = pairwise-same EdgeIdsDiffer es e x (ids_differ edge_id_of 0 new es g.ordered) g.there c (λ far. far (sym is)) (λ far. far is) in
        subst (λ (y : Edge). record y { geom = with_vertex p y.geom } ≡ y) one (λ i. record e { geom = line i })
    by x c false h = refl

    kept : (xs : List Edge) → ((x : Edge) → Contains xs x → Contains es x) → with_change edge_id_of xs e.edge_id (λ x. record x { geom = with_vertex p x.geom }) ≡ xs
    kept [] within = refl
    kept (x ∷ xs) within =
        let first = by x (within x (contains_here x xs)) (x.edge_id == e.edge_id) refl in
        let rest = kept xs (λ y c. within y (contains_there y x xs c)) in
        λ i. first i ∷ rest i
