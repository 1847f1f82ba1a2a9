-- The half-edges of some edges: what they are, and that no two of them are the same.
use Rattle.std.proofs.Common.{◌≡◌, ◌≢◌, refl, sym, ◌∙◌, ap, subst, ◌⊎◌, inl, inr, ⊎_elim, Bool, true, false, not, eqb-true, List, [], ◌∷◌, ◌++◌}
use Rattle.std.specs.Prelude.{flat_map, ◌==◌}
use Rattle.std.specs.List.{Contains}
use Rattle.std.proofs.lemmas.Bool.{and_parts}
use Rattle.std.proofs.lemmas.List.{reverse-reverse}
use Rattle.topo_base.specs.Darts.{same_way}
use Rattle.topo_base.specs.Point.{Point}
use Rattle.plane.proofs.ListTests.{contains_here, contains_there, contains_cases, contains_none}
use Rattle.drawing.proofs.Members.{Pairwise, pairwise-same}
use Rattle.drawing.specs.Drawing.{Edge}
use Rattle.drawing.specs.HalfEdge.{HalfEdge, forward_of, backward_of, both_ways, twin, same_half_edge}

-- a half-edge is one of an edge's two
abbrev pub IsHalfOf : Edge → HalfEdge → Type 0
IsHalfOf e h = (h ≡ forward_of e) ⊎ (h ≡ backward_of e)

pub twin_forward : (e : Edge) → twin (forward_of e) ≡ backward_of e
twin_forward e = refl

pub twin_backward : (e : Edge) → twin (backward_of e) ≡ forward_of e
twin_backward e = ap (λ (ps : List Point). record (forward_of e) { points = ps }) (reverse-reverse e.geom)

not_not : (b : Bool) → not (not b) ≡ b
not_not true = refl
not_not false = refl

pub twin_twin : (h : HalfEdge) → twin (twin h) ≡ h
twin_twin h = let a = not_not h.is_forward in let b = reverse-reverse h.points in λ i. record h { is_forward = a i; points = b i }

pub half_twin : (e : Edge) (h : HalfEdge) → IsHalfOf e h → IsHalfOf e (twin h)
half_twin e h half = ⊎_elim (λ (f : h ≡ forward_of e). inr (ap twin f)) (λ (f : h ≡ backward_of e). inl (ap twin f ∙ twin_backward e)) half

pub half_id : (e : Edge) (h : HalfEdge) → IsHalfOf e h → h.edge_id ≡ e.edge_id
half_id e h half = ⊎_elim (λ (f : h ≡ forward_of e). ap (λ (k : HalfEdge). k.edge_id) f) (λ (f : h ≡ backward_of e). ap (λ (k : HalfEdge). k.edge_id) f) half

pub in_half_edges : (h : HalfEdge) (edges : List Edge) → Contains (flat_map both_ways edges) h → (e : Edge) × (Contains edges e × IsHalfOf e h)
in_half_edges h [] c = absurd (contains_none h c)
in_half_edges h (e ∷ edges) c =
    ⊎_elim
    (λ (f : forward_of e ≡ h). (e, (contains_here e edges, inl (sym f))))
    (λ (d : Contains (backward_of e ∷ flat_map both_ways edges) h).
    ⊎_elim
    (λ (f : backward_of e ≡ h). (e, (contains_here e edges, inr (sym f))))
    (λ (m : Contains (flat_map both_ways edges) h). let r = in_half_edges h edges m in (r.0, (contains_there r.0 e edges r.1.0, r.1.1)))
    (contains_cases h (backward_of e) (flat_map both_ways edges) d))
    (contains_cases h (forward_of e) (backward_of e ∷ flat_map both_ways edges) c)

pub half_edges_have : (h : HalfEdge) (e : Edge) (edges : List Edge) → Contains edges e → IsHalfOf e h → Contains (flat_map both_ways edges) h
half_edges_have h e [] c half = absurd (contains_none e c)
half_edges_have h e (x ∷ edges) c half =
    let rest = flat_map both_ways edges in
    ⊎_elim
    (λ (f : x ≡ e).
    ⊎_elim
    (λ (k : h ≡ forward_of e). subst (λ z. Contains (both_ways x ++ rest) z) (ap forward_of f ∙ sym k) (contains_here (forward_of x) (backward_of x ∷ rest)))
    (λ (k : h ≡ backward_of e). subst (λ z. Contains (both_ways x ++ rest) z) (ap backward_of f ∙ sym k) (contains_there (backward_of x) (forward_of x) (backward_of x ∷ rest) (contains_here (backward_of x) rest)))
    half)
    (λ (d : Contains edges e). contains_there h (forward_of x) (backward_of x ∷ rest) (contains_there h (backward_of x) rest (half_edges_have h e edges d half)))
    (contains_cases e x edges c)

-- ids differ
abbrev pub IdsDiffer : List Edge → Type 0
IdsDiffer edges = Pairwise (λ (x y : Edge). x.edge_id ≢ y.edge_id) edges

pub one_edge : (edges : List Edge) (x y : Edge) → IdsDiffer edges → Contains edges x → Contains edges y → x.edge_id ≡ y.edge_id → x ≡ y
one_edge edges x y differ cx cy e = pairwise-same (λ (x y : Edge). x.edge_id ≢ y.edge_id) edges x y differ cx cy (λ f. f e) (λ f. f (sym e))

pub way_same : (a b : Bool) → same_way a b ≡ true → a ≡ b
way_same true b h = sym h
way_same false true h = absurd cc
way_same false false h = refl

pub halves_same : (e : Edge) (h k : HalfEdge) → IsHalfOf e h → IsHalfOf e k → h.is_forward ≡ k.is_forward → h ≡ k
halves_same e h k hh hk way =
    ⊎_elim
    (λ (f : h ≡ forward_of e).
    ⊎_elim
    (λ (g : k ≡ forward_of e). f ∙ sym g)
    (λ (g : k ≡ backward_of e). absurd (clash (sym (ap (λ (x : HalfEdge). x.is_forward) f) ∙ way ∙ ap (λ (x : HalfEdge). x.is_forward) g)))
    hk)
    (λ (f : h ≡ backward_of e).
    ⊎_elim
    (λ (g : k ≡ forward_of e). absurd (clash (sym (sym (ap (λ (x : HalfEdge). x.is_forward) f) ∙ way ∙ ap (λ (x : HalfEdge). x.is_forward) g))))
    (λ (g : k ≡ backward_of e). f ∙ sym g)
    hk)
    hh
  where
    clash : true ≡ false → ⊥
    clash h = cc

-- two half-edges of one name are one
pub half_edge_same : (edges : List Edge) (h k : HalfEdge) → IdsDiffer edges → Contains (flat_map both_ways edges) h → Contains (flat_map both_ways edges) k → same_half_edge h k ≡ true → h ≡ k
half_edge_same edges h k differ ch ck same =
    let both = and_parts (h.edge_id == k.edge_id) (same_way h.is_forward k.is_forward) same in
    let x = in_half_edges h edges ch in
    let y = in_half_edges k edges ck in
    let id : x.0.edge_id ≡ y.0.edge_id = sym (half_id x.0 h x.1.1) ∙ eqb-true h.edge_id k.edge_id both.0 ∙ half_id y.0 k y.1.1 in
    let one = one_edge edges x.0 y.0 differ x.1.0 y.1.0 id in
    halves_same y.0 h k (subst (λ e. IsHalfOf e h) one x.1.1) y.1.1 (way_same h.is_forward k.is_forward both.1)
