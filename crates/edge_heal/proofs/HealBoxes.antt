-- Where two edges are healed into one, each face keeps its box.
use Rattle.std.proofs.Common.{◌≡◌, ℕ, ◌≤◌, refl, sym, ◌∙◌, ap, subst, arith, ◌⊎◌, inl, inr, ⊎_elim, Bool, true, false, cond, List, [], ◌∷◌, length, map, Option, None, ◌||◌, eqb-true, eq-eqb}
use Rattle.std.specs.Prelude.{◌==◌, reverse}
use Rattle.std.specs.List.{Contains}
use Rattle.std.proofs.lemmas.Grind.{reverse_onto}
use Rattle.std.proofs.lemmas.List.{length-reverse, reverse-reverse}
use Rattle.std.proofs.lemmas.List.Elements.{Contains-append_cases, Contains-append_left, Contains-append_right}
use Rattle.std.proofs.lemmas.Bool.{or_left, or_right}
use Rattle.topo_base.specs.Point.{Point}
use Rattle.topo_base.specs.declared.rows.Box4.{Box4}
use Rattle.drawing.specs.Drawing.{Drawing, Edge}
use Rattle.drawing.specs.HalfEdge.{backward_of, forward_of, HalfEdge, twin}
use Rattle.drawing.specs.HealEdges.{away_from, joined_edge}
use Rattle.plane.specs.Line.{first_vertex, joined, last_vertex}
use Rattle.drawing.specs.Subdivision.{rings_have_one_face}
use Rattle.drawing.specs.Tables.{face_box, face_row, has_side}
use Rattle.plane.proofs.ListTests.{contains_cases, contains_here, contains_none, contains_there}
use Rattle.face_rings.proofs.HalfLines.{HasPlainLines}
use Rattle.face_rings.proofs.Ranks.{by_bool}
use Rattle.edge_split.proofs.SplitBoxes.{Spans, beside, beside_has, least_same, of_beside}
use Rattle.ring_laws.proofs.Joint.{IsHealed, edge_cases, make_joint, AreBoth, joint_sides}
use Rattle.ring_laws.proofs.Turning.{joined_of}

-- ---- a face beside the second edge is beside the first
side_out : (x : Edge) (h k : HalfEdge) (g : ℕ) → AreBoth x h (twin h) → has_side g x ≡ true → (h.on_left ≡ g) ⊎ (h.on_right ≡ g)
side_out x h k g both side = by_way both (by_bool (x.left_face == g))
  where
    second : (b c : Bool) → b ≡ false → (b || c) ≡ true → c ≡ true
    second true c e t = absurd cc
    second false c e t = t

    by_way : AreBoth x h (twin h) → ((x.left_face == g) ≡ true) ⊎ ((x.left_face == g) ≡ false) → (h.on_left ≡ g) ⊎ (h.on_right ≡ g)
    by_way (inl b) (inl t) = inl (ap (λ (z : HalfEdge). z.on_left) (sym b.0) ∙ eqb-true x.left_face g t)
    by_way (inl b) (inr t) = inr (ap (λ (z : HalfEdge). z.on_right) (sym b.0) ∙ eqb-true x.right_face g (second (x.left_face == g) (x.right_face == g) t side))
    by_way (inr b) (inl t) = inr (ap (λ (z : HalfEdge). z.on_right) (sym b.0) ∙ eqb-true x.left_face g t)
    by_way (inr b) (inr t) = inl (ap (λ (z : HalfEdge). z.on_left) (sym b.0) ∙ eqb-true x.right_face g (second (x.left_face == g) (x.right_face == g) t side))

side_in : (x : Edge) (h : HalfEdge) (g : ℕ) → AreBoth x h (twin h) → (h.on_left ≡ g) ⊎ (h.on_right ≡ g) → has_side g x ≡ true
side_in x h g (inl b) (inl t) = or_left (x.left_face == g) (x.right_face == g) (eq-eqb x.left_face g (ap (λ (z : HalfEdge). z.on_left) b.0 ∙ t))
side_in x h g (inl b) (inr t) = or_right (x.left_face == g) (x.right_face == g) (eq-eqb x.right_face g (ap (λ (z : HalfEdge). z.on_right) b.0 ∙ t))
side_in x h g (inr b) (inl t) = or_right (x.left_face == g) (x.right_face == g) (eq-eqb x.right_face g (ap (λ (z : HalfEdge). z.on_left) b.0 ∙ t))
side_in x h g (inr b) (inr t) = or_left (x.left_face == g) (x.right_face == g) (eq-eqb x.left_face g (ap (λ (z : HalfEdge). z.on_right) b.0 ∙ t))

first_beside : (S : Drawing) (n : ℕ) (e f : Edge) (id : ℕ) (fs : List Edge) (g : ℕ) → HasPlainLines S → rings_have_one_face S ≡ true → IsHealed S n e f id fs → has_side g f ≡ true → has_side g e ≡ true
first_beside S n e f id fs g good one h side =
    let j = make_joint S n e f id fs good h in
    let (lefts, rights) = joint_sides S n e f id fs good (joined_of S good one) h j in
    side_in e j.up g j.of_e (⊎_elim (λ (p : j.on.on_left ≡ g). inl (lefts ∙ p)) (λ (p : j.on.on_right ≡ g). inr (sym rights ∙ p)) (side_out f j.on j.on g j.of_f side))

second_beside : (S : Drawing) (n : ℕ) (e f : Edge) (id : ℕ) (fs : List Edge) (g : ℕ) → HasPlainLines S → rings_have_one_face S ≡ true → IsHealed S n e f id fs → has_side g e ≡ true → has_side g f ≡ true
second_beside S n e f id fs g good one h side =
    let j = make_joint S n e f id fs good h in
    let (lefts, rights) = joint_sides S n e f id fs good (joined_of S good one) h j in
    side_in f j.on g j.of_f (⊎_elim (λ (p : j.up.on_left ≡ g). inl (sym lefts ∙ p)) (λ (p : j.up.on_right ≡ g). inr (rights ∙ p)) (side_out e j.up j.up g j.of_e side))

-- ---- the vertices of lines walked back, and joined
reversed_has : (l : List Point) (q : Point) → Contains l q → Contains (reverse l) q
reversed_has [] q c = absurd (contains_none q c)
reversed_has (a ∷ l) q c =
    subst (λ (r : List Point). Contains r q) (sym (reverse_onto l a []))
    (⊎_elim
    (λ (e : a ≡ q). Contains-append_right (reverse l) (a ∷ []) q (subst (Contains (a ∷ [])) e (contains_here a [])))
    (λ (d : Contains l q). Contains-append_left (reverse l) (a ∷ []) q (reversed_has l q d))
    (contains_cases q a l c))

has_reversed : (l : List Point) (q : Point) → Contains (reverse l) q → Contains l q
has_reversed l q c = subst (λ (r : List Point). Contains r q) (reverse-reverse l) (reversed_has (reverse l) q c)

last_there : (l : List Point) → 1 ≤ length l → Contains l (last_vertex l)
last_there [] h = absurd (omega arith)
last_there (a ∷ []) h = contains_here a []
last_there (a ∷ b ∷ l) h = contains_there (last_vertex (b ∷ l)) a (b ∷ l) (last_there (b ∷ l) (omega arith))

joined_has : (a b : List Point) (q : Point) → Contains (joined a b) q → Contains a q ⊎ Contains b q
joined_has a [] q c = ⊎_elim (λ (d : Contains a q). inl d) (λ (d : Contains [] q). absurd (contains_none q d)) (Contains-append_cases a [] q c)
joined_has a (p ∷ b) q c = ⊎_elim (λ (d : Contains a q). inl d) (λ (d : Contains b q). inr (contains_there q p b d)) (Contains-append_cases a b q c)

in_joined : (a b : List Point) (q : Point) → 1 ≤ length a → last_vertex a ≡ first_vertex b → Contains a q ⊎ Contains b q → Contains (joined a b) q
in_joined a [] q h meet (inl c) = Contains-append_left a [] q c
in_joined a [] q h meet (inr c) = absurd (contains_none q c)
in_joined a (p ∷ b) q h meet (inl c) = Contains-append_left a b q c
in_joined a (p ∷ b) q h meet (inr c) =
    ⊎_elim (λ (e : p ≡ q). Contains-append_left a b q (subst (Contains a) (meet ∙ e) (last_there a h))) (λ (d : Contains b q). Contains-append_right a b q d) (contains_cases q p b c)

-- the line of an edge away from the node has its vertices
away_has : (n : ℕ) (f : Edge) (q : Point) → Contains ((away_from n f).points) q → Contains f.geom q
away_has n f q c = by (f.start_node == n) c
  where
    by : (b : Bool) → Contains ((cond b (forward_of f) (backward_of f)).points) q → Contains f.geom q
    by true k = k
    by false k = has_reversed f.geom q k

in_away : (n : ℕ) (f : Edge) (q : Point) → Contains f.geom q → Contains ((away_from n f).points) q
in_away n f q c = by (f.start_node == n)
  where
    by : (b : Bool) → Contains ((cond b (forward_of f) (backward_of f)).points) q
    by true = c
    by false = reversed_has f.geom q c

away_long : (n : ℕ) (f : Edge) → 2 ≤ length f.geom → 1 ≤ length ((away_from n f).points)
away_long n f h = by (f.start_node == n)
  where
    by : (b : Bool) → 1 ≤ length ((cond b (forward_of f) (backward_of f)).points)
    by true = omega (arith, h)
    by false = let e = length-reverse f.geom in omega (arith, h, e)

-- the vertices of the joined line are those of the two
joined_line_has : (n : ℕ) (e f : Edge) (id : ℕ) (q : Point) → Contains ((joined_edge n e f id).geom) q → Contains e.geom q ⊎ Contains f.geom q
joined_line_has n e f id q c = by (n == e.end_node) c
  where
    by : (t : Bool)
        → Contains ((cond t (record e { edge_id = id; end_node = (away_from n f).to_node; geom = joined e.geom ((away_from n f).points) }) (record e { edge_id = id; start_node = (away_from n f).to_node; geom = joined (reverse ((away_from n f).points)) e.geom })).geom) q
        → Contains e.geom q ⊎ Contains f.geom q
    by true k = ⊎_elim (λ (d : Contains e.geom q). inl d) (λ (d : Contains ((away_from n f).points) q). inr (away_has n f q d)) (joined_has e.geom ((away_from n f).points) q k)
    by false k =
        ⊎_elim (λ (d : Contains (reverse ((away_from n f).points)) q). inr (away_has n f q (has_reversed ((away_from n f).points) q d))) (λ (d : Contains e.geom q). inl d) (joined_has (reverse ((away_from n f).points)) e.geom q k)

in_joined_line : (S : Drawing) (n : ℕ) (e f : Edge) (id : ℕ) (fs : List Edge) (q : Point) → HasPlainLines S → IsHealed S n e f id fs → Contains e.geom q ⊎ Contains f.geom q → Contains ((joined_edge n e f id).geom) q
in_joined_line S n e f id fs q good h c = let j = make_joint S n e f id fs good h in by (n == e.end_node) (j.at_end, j.at_start)
  where
    e_long : 2 ≤ length e.geom
    e_long = good.long e h.e_there

    far_long : 1 ≤ length ((away_from n f).points)
    far_long = away_long n f (good.long f h.f_there)

    back_long : 1 ≤ length (reverse ((away_from n f).points))
    back_long = let k = length-reverse ((away_from n f).points) in let l = far_long in omega (arith, k, l)

    by : (t : Bool) → (t ≡ true → last_vertex e.geom ≡ first_vertex ((away_from n f).points)) × (t ≡ false → last_vertex (reverse ((away_from n f).points)) ≡ first_vertex e.geom)
        → Contains ((cond t (record e { edge_id = id; end_node = (away_from n f).to_node; geom = joined e.geom ((away_from n f).points) }) (record e { edge_id = id; start_node = (away_from n f).to_node; geom = joined (reverse ((away_from n f).points)) e.geom })).geom) q
    by true meets = let l = e_long in in_joined e.geom ((away_from n f).points) q (omega (arith, l)) (meets.0 refl) (⊎_elim (λ (d : Contains e.geom q). inl d) (λ (d : Contains f.geom q). inr (in_away n f q d)) c)
    by false meets =
        in_joined (reverse ((away_from n f).points)) e.geom q back_long (meets.1 refl) (⊎_elim (λ (d : Contains e.geom q). inr d) (λ (d : Contains f.geom q). inl (reversed_has ((away_from n f).points) q (in_away n f q d))) c)

-- the joined edge has the sides of the first
same_sides : (n : ℕ) (e f : Edge) (id g : ℕ) → has_side g (joined_edge n e f id) ≡ has_side g e
same_sides n e f id g = by (n == e.end_node)
  where
    by : (t : Bool)
        → has_side g (cond t (record e { edge_id = id; end_node = (away_from n f).to_node; geom = joined e.geom ((away_from n f).points) }) (record e { edge_id = id; start_node = (away_from n f).to_node; geom = joined (reverse ((away_from n f).points)) e.geom })) ≡ has_side g e
    by true = refl
    by false = refl

-- ---- boxes
healed_has : (S : Drawing) (n : ℕ) (e f : Edge) (id : ℕ) (fs : List Edge) (g : ℕ) → HasPlainLines S → rings_have_one_face S ≡ true → IsHealed S n e f id fs → (q : Point) → Contains (beside g fs) q → Spans (beside g S.edges) q
healed_has S n e f id fs g good one h q c =
    let (x, (cx, (side, d))) = of_beside g fs q c in
    ⊎_elim
    (λ (old : Contains S.edges x × (x.edge_id ≡ e.edge_id → ⊥) × (x.edge_id ≡ f.edge_id → ⊥)). inl (beside_has g S.edges x q old.0 side d))
    (λ (is : joined_edge n e f id ≡ x).
    let own : has_side g e ≡ true = sym (same_sides n e f id g) ∙ subst (λ (y : Edge). has_side g y ≡ true) (sym is) side in
    ⊎_elim
    (λ (k : Contains e.geom q). inl (beside_has g S.edges e q h.e_there own k))
    (λ (k : Contains f.geom q). inl (beside_has g S.edges f q h.f_there (second_beside S n e f id fs g good one h own) k))
    (joined_line_has n e f id q (subst (λ (y : Edge). Contains y.geom q) (sym is) d)))
    (h.from x cx)

has_healed : (S : Drawing) (n : ℕ) (e f : Edge) (id : ℕ) (fs : List Edge) (g : ℕ) → HasPlainLines S → rings_have_one_face S ≡ true → IsHealed S n e f id fs → (q : Point) → Contains (beside g S.edges) q → Spans (beside g fs) q
has_healed S n e f id fs g good one h q c =
    let (x, (cx, (side, d))) = of_beside g S.edges q c in
    let J = joined_edge n e f id in
    ⊎_elim
    (λ (p : x ≡ e).
    let own = subst (λ (y : Edge). has_side g y ≡ true) p side in
    inl (beside_has g fs J q h.made (same_sides n e f id g ∙ own) (in_joined_line S n e f id fs q good h (inl (subst (λ (y : Edge). Contains y.geom q) p d)))))
    (λ (o : (x ≡ f) ⊎ ((x.edge_id ≡ e.edge_id → ⊥) × (x.edge_id ≡ f.edge_id → ⊥))).
    ⊎_elim
    (λ (p : x ≡ f).
    let own = first_beside S n e f id fs g good one h (subst (λ (y : Edge). has_side g y ≡ true) p side) in
    inl (beside_has g fs J q h.made (same_sides n e f id g ∙ own) (in_joined_line S n e f id fs q good h (inr (subst (λ (y : Edge). Contains y.geom q) p d)))))
    (λ (p : (x.edge_id ≡ e.edge_id → ⊥) × (x.edge_id ≡ f.edge_id → ⊥)). inl (beside_has g fs x q (h.old x cx p.0 p.1) side d))
    o)
    (edge_cases S n e f id fs x good h cx)

pub healed_box : (S T : Drawing) (n : ℕ) (e f : Edge) (id g : ℕ) → HasPlainLines S → rings_have_one_face S ≡ true → IsHealed S n e f id T.edges → face_box S g ≡ face_box T g
healed_box S T n e f id g good one h =
    ap (λ (b : Option Box4). cond (g == 0) None b)
    (least_same (beside g S.edges) (beside g T.edges) (λ q c. has_healed S n e f id T.edges g good one h q c) (λ q c. healed_has S n e f id T.edges g good one h q c))

pub healed_boxes : (S T : Drawing) (n : ℕ) (e f : Edge) (id : ℕ) (faces : List ℕ) → HasPlainLines S → rings_have_one_face S ≡ true → IsHealed S n e f id T.edges → map (face_row S) faces ≡ map (face_row T) faces
healed_boxes S T n e f id [] good one h = refl
healed_boxes S T n e f id (g ∷ faces) good one h = λ i. record { face_id = g; mbr = healed_box S T n e f id g good one h i } ∷ healed_boxes S T n e f id faces good one h i
