-- A face that is divided by an edge: its parts have its points.
use Rattle.std.proofs.Common.{length, ◌≤◌, ◌≡◌, ◌≢◌, ◌∙◌, ℕ, zero, None, refl, sym, ap, subst, ◌⊎◌, inl, inr, ⊎_elim, Bool, true, false, cond, not, ◌||◌, ◌==◌, List, [], ◌∷◌, ◌++◌, map, eqb, eqb-true}
use Rattle.std.specs.Prelude.{◌↔◌, nat_eq, Some}
use Rattle.std.specs.Option.{option_eq}
use Rattle.std.specs.List.{Contains, list_any}
use Rattle.std.proofs.lemmas.Bool.{and_parts, both_ways, eq-eqb, false_from_ne_true, ne_eqb, or_cases}
use Rattle.std.proofs.lemmas.List.Elements.{Contains-push, Contains-push_cases, Contains-append_left}
use Rattle.topo_base.specs.Point.{Point}
use Rattle.topo_base.specs.RationalPoint.{RationalPoint}
use Rattle.topo_base.specs.declared.kind.Kind.TheVariants.{Areal, Lineal, Puntal}
use Rattle.topo_base.specs.declared.rows.NodeRow.{NodeRow}
use Rattle.plane.specs.Parity.{xor}
use Rattle.plane.proofs.ListTests.{contains_cases, contains_here, contains_none, contains_there}
use Rattle.drawing.specs.AddEdge.{Division, coming, divided, divided_edge, divided_node, divided_side, part_beside, part_at}
use Rattle.drawing.specs.Descent.{listed_by}
use Rattle.drawing.specs.Drawing.{Drawing, Edge, has_face, node_id_of}
use Rattle.drawing.specs.HalfEdge.{HalfEdge, backward_of, forward_of, half_edges}
use Rattle.drawing.specs.IsoEdits.{put_in_face, with_edge}
use Rattle.drawing.specs.RemoveEdge.{renamed}
use Rattle.drawing.specs.Relations.{face_type, is_among}
use Rattle.drawing.proofs.Members.{contains-map, contains-mapped}
use Rattle.parity_laws.proofs.JoinedFaces.{JoinedNumber}
use Rattle.face_laws.proofs.Covering.{known}
use Rattle.subdivision_laws.specs.Subdivided.{IsSubdivided}
use Rattle.edit_changes.specs.Evidence.{EdgeMayCome}
use Rattle.point_laws.specs.PointsStay.{KeepsPoints}
use Rattle.point_laws.proofs.CutParity.{border_total, total, total_more}
use Rattle.point_laws.proofs.EdgeComes.{on_line_of}
use Rattle.point_laws.proofs.EdgePoints.{ListsAlike, SameNodes, edge_more, map_same, new_unlisted, put_twice_same, same_then}
use Rattle.point_laws.proofs.Follow.{above_same_rows, listed_anew, other_same_rows}
use Rattle.point_laws.proofs.JoinedParity.{HasHalves, IsJoined, Pairs, in_halves, pairs_to, total_joined, total_other}
use Rattle.point_laws.proofs.Levels.{HasLevel}
use Rattle.point_laws.proofs.OneMore.{HasOneMore, IsRenamed}
use Rattle.point_laws.proofs.Primitive.{among_in, among_out, listing, rows_list}
use Rattle.point_laws.proofs.Told.{IsTold}

-- ---- the faces before and after
abbrev pub IsListed : List ℕ → ℕ → Type 0
IsListed fs g = list_any (λ x. x == g) fs ≡ true

-- fs are the faces of S with the parts l and r in the place of k, which may be one of them
pub record AreParts (S : Drawing) (fs : List ℕ) (l r k : ℕ) : Type 0 where
  pub differ : l ≢ r
  pub inner : k ≢ 0 → (l ≢ 0) × (r ≢ 0)
  pub kept : has_face S k ≡ true
  pub left : IsListed fs l
  pub right : IsListed fs r
  pub stays : (g : ℕ) → IsListed fs g → g ≢ l → g ≢ r → has_face S g ≡ true
  pub gone : (g : ℕ) → has_face S g ≡ true → g ≢ k → (g ≢ l) × (g ≢ r)
  pub fresh : (g : ℕ) → IsListed fs g → (k ≡ l) ⊎ ((k ≡ r) ⊎ (g ≢ k))

-- ---- their numbers
-- the parts are renamed to the face
pub parts_number : (l r k m : ℕ) → (k ≡ l) ⊎ ((k ≡ r) ⊎ (m ≢ k)) → JoinedNumber l r k m (renamed (l ∷ r ∷ []) k m)
parts_number l r k m fresh = record {
  joined = λ at.
      ⊎_elim
      (λ (p : m ≡ l). ap (λ t. cond (t || ((r == m) || false)) k m) (eq-eqb l m (sym p)))
      (λ (p : m ≡ r). at_right (l == m) (r == m) (eq-eqb r m (sym p)))
      at;
  others = λ nl nr. neither (l == m) (r == m) (false_from_ne_true (l == m) (λ t. nl (sym (eqb-true l m t)))) (false_from_ne_true (r == m) (λ t. nr (sym (eqb-true r m t))));
  fresh = fresh;
}
  where
    at_right : (a b : Bool) → b ≡ true → cond (a || (b || false)) k m ≡ k
    at_right true b e = refl
    at_right false true e = refl
    at_right false false e = absurd (both_ways false refl e)

    neither : (a b : Bool) → a ≡ false → b ≡ false → cond (a || (b || false)) k m ≡ m
    neither true b e f = absurd (both_ways true e refl)
    neither false true e f = absurd (both_ways true f refl)
    neither false false e f = refl

-- a number becomes one number
pub same_number : (l r k m a b : ℕ) → JoinedNumber l r k m a → JoinedNumber l r k m b → a ≡ b
same_number l r k m a b h g = by_tests (eqb m l) (eqb m r) refl refl
  where
    by_tests : (x y : Bool) → eqb m l ≡ x → eqb m r ≡ y → a ≡ b
    by_tests true y e f = let p = eqb-true m l e in h.joined (inl p) ∙ sym (g.joined (inl p))
    by_tests false true e f = let p = eqb-true m r f in h.joined (inr p) ∙ sym (g.joined (inr p))
    by_tests false false e f =
        let nl : m ≢ l = (λ z. both_ways (eqb m l) e (eq-eqb m l z)) in
        let nr : m ≢ r = (λ z. both_ways (eqb m r) f (eq-eqb m r z)) in
        h.others nl nr ∙ sym (g.others nl nr)

-- a side that was the face is a part
part_is : (d : Division) (hs : List HalfEdge) (h : HalfEdge) → (part_beside d hs h ≡ d.left_part) ⊎ (part_beside d hs h ≡ d.right_part)
part_is d hs h = by _ _ _
  where
    by : (a b c : Bool) → (cond a d.left_part (cond b d.right_part (cond c d.left_part d.right_part)) ≡ d.left_part) ⊎ (cond a d.left_part (cond b d.right_part (cond c d.left_part d.right_part)) ≡ d.right_part)
    by true b c = inl refl
    by false true c = inr refl
    by false false true = inl refl
    by false false false = inr refl

side_number : (S : Drawing) (fs : List ℕ) (d : Division) (hs : List HalfEdge) (f : ℕ) (h : HalfEdge) → AreParts S fs d.left_part d.right_part d.face → has_face S f ≡ true → JoinedNumber d.left_part d.right_part d.face (divided_side d hs f h) f
side_number S fs d hs f h parts listed = by (f == d.face) refl
  where
    at_part : (m : ℕ) → f ≡ d.face → (m ≡ d.left_part) ⊎ (m ≡ d.right_part) → JoinedNumber d.left_part d.right_part d.face m f
    at_part m is part = record {
      joined = λ _. is;
      others = λ nl nr. absurd (⊎_elim (λ (p : m ≡ d.left_part). nl p) (λ (p : m ≡ d.right_part). nr p) part);
      fresh = parts.fresh m (⊎_elim (λ (p : m ≡ d.left_part). subst (IsListed fs) (sym p) parts.left) (λ (p : m ≡ d.right_part). subst (IsListed fs) (sym p) parts.right) part);
    }

    by : (b : Bool) → (f == d.face) ≡ b → JoinedNumber d.left_part d.right_part d.face (cond b (part_beside d hs h) f) f
    by true e = at_part (part_beside d hs h) (eqb-true f d.face e) (part_is d hs h)
    by false e =
        let other : f ≢ d.face = (λ z. both_ways (f == d.face) e (eq-eqb f d.face z)) in
        let off = parts.gone f listed other in
        record {
          joined = λ at. absurd (⊎_elim (λ (p : f ≡ d.left_part). off.0 p) (λ (p : f ≡ d.right_part). off.1 p) at);
          others = λ _ _. refl;
          fresh = inr (inr other);
        }

-- ---- the drawing with the edge, whose face is divided
abbrev pub parted : Drawing → NodeRow → NodeRow → List Point → Division → List ℕ → ℕ → Drawing
parted S a b line d fs count = divided (with_edge S a b line d.face) d fs count

abbrev pub name_of : Division → ℕ → ℕ
name_of d = renamed (d.left_part ∷ d.right_part ∷ []) d.face

pub record Divides (S : Drawing) (a b : NodeRow) (line : List Point) (d : Division) (fs : List ℕ) : Type 0 where
  pub told : IsTold S
  pub parts : AreParts S fs d.left_part d.right_part d.face
  pub long : 2 ≤ length line
  pub may : EdgeMayCome S a b line d.face

-- ---- the edges of both
-- the edges with the new one, before the face is divided
abbrev all_edges : Drawing → NodeRow → NodeRow → List Point → Division → List Edge
all_edges S a b line d = S.edges ++ coming S a b line d.face ∷ []

abbrev parts_of_edge : Drawing → NodeRow → NodeRow → List Point → Division → Edge → Edge
parts_of_edge S a b line d = divided_edge d (half_edges (with_edge S a b line d.face))

sides_listed : (S : Drawing) (a b : NodeRow) (line : List Point) (d : Division) (fs : List ℕ) → Divides S a b line d fs → (x : Edge) → Contains (all_edges S a b line d) x → (has_face S x.left_face ≡ true) × (has_face S x.right_face ≡ true)
sides_listed S a b line d fs h x c =
    ⊎_elim
    (λ (old : Contains S.edges x). (known S h.told.before.covered.ringed).sides x old)
    (λ (is : coming S a b line d.face ≡ x). subst (λ (y : Edge). (has_face S y.left_face ≡ true) × (has_face S y.right_face ≡ true)) is (h.parts.kept, h.parts.kept))
    (Contains-push_cases S.edges (coming S a b line d.face) x c)

edge_joined : (S : Drawing) (a b : NodeRow) (line : List Point) (d : Division) (fs : List ℕ) → Divides S a b line d fs → (x : Edge) → Contains (all_edges S a b line d) x → IsJoined d.left_part d.right_part d.face x (parts_of_edge S a b line d x)
edge_joined S a b line d fs h x c =
    let listed = sides_listed S a b line d fs h x c in
    let hs = half_edges (with_edge S a b line d.face) in
    record {
      geom = refl;
      left = side_number S fs d hs x.left_face (forward_of x) h.parts listed.0;
      right = side_number S fs d hs x.right_face (backward_of x) h.parts listed.1;
    }

edge_renamed : (S : Drawing) (a b : NodeRow) (line : List Point) (d : Division) (fs : List ℕ) (count : ℕ) → Divides S a b line d fs → IsSubdivided (parted S a b line d fs count) → (x : Edge) → Contains (all_edges S a b line d) x
    → IsRenamed (name_of d) x (parts_of_edge S a b line d x)
edge_renamed S a b line d fs count h later x c =
    let y = parts_of_edge S a b line d x in
    let j = edge_joined S a b line d fs h x c in
    let listed = (known (parted S a b line d fs count) later.covered.ringed).sides y (contains-map (parts_of_edge S a b line d) x (all_edges S a b line d) c) in
    record {
      id = refl;
      geom = refl;
      left = same_number d.left_part d.right_part d.face y.left_face x.left_face (name_of d y.left_face) j.left (parts_number d.left_part d.right_part d.face y.left_face (h.parts.fresh y.left_face listed.0));
      right = same_number d.left_part d.right_part d.face y.right_face x.right_face (name_of d y.right_face) j.right (parts_number d.left_part d.right_part d.face y.right_face (h.parts.fresh y.right_face listed.1));
    }

-- ---- the parities
halves : (S : Drawing) (a b : NodeRow) (line : List Point) (d : Division) (fs : List ℕ) (count : ℕ) → Divides S a b line d fs → HasHalves S (parted S a b line d fs count) d.left_part d.right_part d.face (name_of d)
halves S a b line d fs count h = record {
  differ = h.parts.differ;
  inner = h.parts.inner;
  numbers = λ g there. parts_number d.left_part d.right_part d.face g (h.parts.fresh g there);
  kept = h.parts.kept;
  stays = h.parts.stays;
  gone = h.parts.gone;
  both = λ q.
      border_total d.face q S.edges ∙ sym (with_line d.face q)
      ∙ total_joined d.left_part d.right_part d.face q xs ys h.parts.differ pairs
      ∙ (λ i. xor (sym (border_total d.left_part q ys) i) (sym (border_total d.right_part q ys) i));
  other = λ g q nk nl nr. border_total g q S.edges ∙ sym (with_line g q) ∙ total_other d.left_part d.right_part d.face g q xs ys pairs nk nl nr ∙ sym (border_total g q ys);
}
  where
    xs : List Edge
    xs = all_edges S a b line d

    ys : List Edge
    ys = map (parts_of_edge S a b line d) xs

    pairs : Pairs (IsJoined d.left_part d.right_part d.face) xs ys
    pairs = pairs_to (IsJoined d.left_part d.right_part d.face) (parts_of_edge S a b line d) xs (edge_joined S a b line d fs h)

    -- the new edge is on no border
    with_line : (g : ℕ) (q : RationalPoint) → total g q xs ≡ total g q S.edges
    with_line g q = total_more g q S.edges (coming S a b line d.face) refl

-- ---- one edge more
one_more : (S : Drawing) (a b : NodeRow) (line : List Point) (d : Division) (fs : List ℕ) (count : ℕ) → Divides S a b line d fs → IsSubdivided (parted S a b line d fs count)
    → HasOneMore S (parted S a b line d fs count) (parts_of_edge S a b line d (coming S a b line d.face)) (name_of d) d.face
one_more S a b line d fs count h later = record {
  more = λ x c. let there = Contains-append_left S.edges (e ∷ []) x c in (change x, (contains-map change x xs there, edge_renamed S a b line d fs count h later x there));
  from = λ y c. let (x, (i, is)) = contains-mapped change y xs c in was y x i is (Contains-push_cases S.edges e x i);
  there = contains-map change e xs own;
  left = sym (edge_renamed S a b line d fs count h later e own).left;
  right = sym (edge_renamed S a b line d fs count h later e own).right;
  inside = λ g q there inside. in_halves S (parted S a b line d fs count) d.left_part d.right_part d.face (name_of d) g q h.told.before later (halves S a b line d fs count h) there inside;
  on = λ q on. on_line_of S a b line d.face q h.told.before h.long h.may on;
}
  where
    e : Edge
    e = coming S a b line d.face

    xs : List Edge
    xs = all_edges S a b line d

    change : Edge → Edge
    change = parts_of_edge S a b line d

    own : Contains xs e
    own = Contains-push S.edges e

    was : (y x : Edge) → Contains xs x → change x ≡ y → Contains S.edges x ⊎ (e ≡ x) → ((z : Edge) × (Contains S.edges z × IsRenamed (name_of d) z y)) ⊎ (change e ≡ y)
    was y x i is (inl old) = inl (x, (old, subst (IsRenamed (name_of d) x) is (edge_renamed S a b line d fs count h later x i)))
    was y x i is (inr p) = inr (ap change p ∙ is)

-- ---- what features list
one_of_two : (l r g : ℕ) → Contains (l ∷ r ∷ []) g → (g ≡ l) ⊎ (g ≡ r)
one_of_two l r g c =
    ⊎_elim (λ (e : l ≡ g). inl (sym e)) (λ (k : Contains (r ∷ []) g). ⊎_elim (λ (e : r ≡ g). inr (sym e)) (λ (n : Contains [] g). absurd (contains_none g n)) (contains_cases g r [] k)) (contains_cases g l (r ∷ []) c)

lists : (S : Drawing) (a b : NodeRow) (line : List Point) (d : Division) (fs : List ℕ) (count : ℕ) → Divides S a b line d fs
    → ListsAlike S (parted S a b line d fs count) S (parted S a b line d fs count) (name_of d)
lists S a b line d fs count h = record {
  features = refl;
  layers = refl;
  above = λ kind n u k w. above_same_rows S face_type (d.face ∷ []) parts kind n u w h.told.rows k;
  puntal = λ u k w. other_same_rows S face_type (d.face ∷ []) parts Puntal u w h.told.rows refl k;
  lineal = λ u k w. other_same_rows S face_type (d.face ∷ []) parts Lineal u w h.told.rows refl k;
  areal = λ u k g there. (to u k g there, from u k g there);
}
  where
    T : Drawing
    T = parted S a b line d fs count

    parts : List ℕ
    parts = d.left_part ∷ d.right_part ∷ []

    anew : (u w : ℕ) → HasLevel S Areal zero u → Contains (listed_by T u) w ↔ ((Contains (listed_by S u) w × (is_among w (d.face ∷ []) ≡ false)) ⊎ (Contains parts w × ((o : ℕ) × (Contains (listed_by S u) o × (is_among o (d.face ∷ []) ≡ true)))))
    anew u w k = listed_anew S face_type (d.face ∷ []) parts u w (rows_list S Areal u h.told.rows k)

    is_part : (g : ℕ) → (g ≡ d.left_part) ⊎ (g ≡ d.right_part) → Contains parts g
    is_part g (inl p) = subst (Contains parts) (sym p) (contains_here d.left_part (d.right_part ∷ []))
    is_part g (inr p) = subst (Contains parts) (sym p) (contains_there d.right_part d.left_part (d.right_part ∷ []) (contains_here d.right_part []))

    own : is_among d.face (d.face ∷ []) ≡ true
    own = among_in d.face (d.face ∷ []) (contains_here d.face [])

    not_own : (g : ℕ) → g ≢ d.face → is_among g (d.face ∷ []) ≡ false
    not_own g n = ap (λ b. b || false) (ne_eqb d.face g (λ e. n (sym e)))

    -- either a part, which is named so, or another face, which isn't the divided one
    which : (g : ℕ) → IsListed fs g → (((g ≡ d.left_part) ⊎ (g ≡ d.right_part)) × (name_of d g ≡ d.face)) ⊎ ((name_of d g ≡ g) × (g ≢ d.face))
    which g there = by (eqb g d.left_part) (eqb g d.right_part) refl refl
      where
        number : JoinedNumber d.left_part d.right_part d.face g (name_of d g)
        number = parts_number d.left_part d.right_part d.face g (h.parts.fresh g there)

        by : (x y : Bool) → eqb g d.left_part ≡ x → eqb g d.right_part ≡ y → (((g ≡ d.left_part) ⊎ (g ≡ d.right_part)) × (name_of d g ≡ d.face)) ⊎ ((name_of d g ≡ g) × (g ≢ d.face))
        by true y e f = let p = eqb-true g d.left_part e in inl (inl p, number.joined (inl p))
        by false true e f = let p = eqb-true g d.right_part f in inl (inr p, number.joined (inr p))
        by false false e f =
            let nl : g ≢ d.left_part = (λ z. both_ways (eqb g d.left_part) e (eq-eqb g d.left_part z)) in
            let nr : g ≢ d.right_part = (λ z. both_ways (eqb g d.right_part) f (eq-eqb g d.right_part z)) in
            inr (number.others nl nr, λ z. ⊎_elim (λ (p : d.face ≡ d.left_part). nl (z ∙ p)) (λ (p : (d.face ≡ d.right_part) ⊎ (g ≢ d.face)). ⊎_elim (λ (r : d.face ≡ d.right_part). nr (z ∙ r)) (λ (n : g ≢ d.face). n z) p) number.fresh)

    to : (u : ℕ) → HasLevel S Areal zero u → (g : ℕ) → IsListed fs g → is_among (name_of d g) (listed_by S u) ≡ true → is_among g (listed_by T u) ≡ true
    to u k g there among =
        let c = among_out (name_of d g) (listed_by S u) among in
        among_in g (listed_by T u) ((anew u g k).1 (
        ⊎_elim
        (λ (p : ((g ≡ d.left_part) ⊎ (g ≡ d.right_part)) × (name_of d g ≡ d.face)). inr (is_part g p.0, (d.face, (subst (Contains (listed_by S u)) p.1 c, own))))
        (λ (p : (name_of d g ≡ g) × (g ≢ d.face)). inl (subst (Contains (listed_by S u)) p.0 c, not_own g p.1))
        (which g there)))

    from : (u : ℕ) → HasLevel S Areal zero u → (g : ℕ) → IsListed fs g → is_among g (listed_by T u) ≡ true → is_among (name_of d g) (listed_by S u) ≡ true
    from u k g there among = among_in (name_of d g) (listed_by S u) (⊎_elim old part ((anew u g k).0 (among_out g (listed_by T u) among)))
      where
        old : Contains (listed_by S u) g × (is_among g (d.face ∷ []) ≡ false) → Contains (listed_by S u) (name_of d g)
        old (c, off) =
            let listed = (and_parts (not (g == 0)) (has_face S g) (listing S Areal u g h.told.rows k c).known).1 in
            let other : g ≢ d.face = (λ z. both_ways (is_among g (d.face ∷ [])) off (subst (λ m. is_among m (d.face ∷ []) ≡ true) (sym z) own)) in
            let apart = h.parts.gone g listed other in
            subst (Contains (listed_by S u)) (sym ((parts_number d.left_part d.right_part d.face g (h.parts.fresh g there)).others apart.0 apart.1)) c

        part : Contains parts g × ((o : ℕ) × (Contains (listed_by S u) o × (is_among o (d.face ∷ []) ≡ true))) → Contains (listed_by S u) (name_of d g)
        part (i, (o, (c, among))) =
            let is : d.face ≡ o = ⊎_elim (λ (e : (d.face == o) ≡ true). eqb-true d.face o e) (λ (e : false ≡ true). absurd cc) (or_cases (d.face == o) false among) in
            let named = (parts_number d.left_part d.right_part d.face g (h.parts.fresh g there)).joined (one_of_two d.left_part d.right_part g i) in
            subst (Contains (listed_by S u)) (sym is ∙ sym named) c

-- ---- the points
nodes_same : (S : Drawing) (a b : NodeRow) (line : List Point) (d : Division) (fs : List ℕ) (count : ℕ) → SameNodes S.nodes (parted S a b line d fs count).nodes
nodes_same S a b line d fs count =
    let put = put_in_face None a.node_id (put_in_face None b.node_id S.nodes) in
    same_then S.nodes put (map (divided_node d) put) (put_twice_same None a.node_id b.node_id S.nodes) (map_same (divided_node d) put (λ n. by n (option_eq nat_eq n.containing_face (Some d.face))))
  where
    by : (n : NodeRow) (t : Bool) → (node_id_of (cond t (record n { containing_face = Some (part_at d n.geom) }) n) ≡ n.node_id) × ((cond t (record n { containing_face = Some (part_at d n.geom) }) n).geom ≡ n.geom)
    by n true = (refl, refl)
    by n false = (refl, refl)

pub face_divided : (S : Drawing) (a b : NodeRow) (line : List Point) (d : Division) (fs : List ℕ) (count : ℕ) → Divides S a b line d fs → IsSubdivided (parted S a b line d fs count) → KeepsPoints S (parted S a b line d fs count)
face_divided S a b line d fs count h later =
    edge_more S (parted S a b line d fs count) (parts_of_edge S a b line d (coming S a b line d.face)) (name_of d) d.face h.told later (one_more S a b line d fs count h later) (lists S a b line d fs count h) (nodes_same S a b line d fs count)
    (λ u k among. new_unlisted S u h.told k among)
