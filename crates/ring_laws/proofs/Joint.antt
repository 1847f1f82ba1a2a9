-- Two edges that meet at a node with no other one: their half-edges up to it and from it on, the joined edge along both, and faces that agree.
use Rattle.std.proofs.Common.{◌≡◌, ℕ, ◌≤◌, refl, sym, ◌∙◌, ap, subst, arith, ◌⊎◌, inl, inr, ⊎_elim, Bool, true, false, not, cond, List, [], ◌∷◌, ◌++◌, length}
use Rattle.std.specs.Prelude.{reverse, flat_map, ◌==◌}
use Rattle.std.specs.List.{Contains}
use Rattle.std.proofs.lemmas.Bool.{eqb-true, eq-eqb, false≢true}
use Rattle.std.proofs.lemmas.List.{length-append, length-reverse, reverse-reverse}
use Rattle.topo_base.specs.Point.{Point}
use Rattle.plane.specs.Direction.{first_direction, is_nearer}
use Rattle.drawing.specs.Drawing.{Drawing, Edge, is_end_of}
use Rattle.drawing.specs.HalfEdge.{HalfEdge, forward_of, backward_of, both_ways, dart_of, half_edges, twin}
use Rattle.drawing.specs.HealEdges.{away_from, joined_edge}
use Rattle.plane.specs.Line.{first_vertex, last_vertex, without_first, joined}
use Rattle.drawing.specs.Star.{leaving}
use Rattle.plane.proofs.Directions.{nearer_self}
use Rattle.plane.proofs.LineTurns.{last-reverse}
use Rattle.face_rings.proofs.HalfLines.{HasPlainLines}
use Rattle.face_rings.proofs.HalvesApart.{half_of, forward_there, backward_there, line_of, one_edge, one_start, twin_back}
use Rattle.face_rings.proofs.Ranks.{by_bool}
use Rattle.ring_laws.proofs.KnownStays.{end_is}
use Rattle.ring_laws.proofs.SplitSides.{first_of_some, from_end}
use Rattle.ring_laws.proofs.Turning.{Turns, FacesAgree}
use Rattle.ring_laws.proofs.WithoutEdge.{leaves_end}

-- ---- the directions of a joined line
end_of_more : (xs m : List Point) → 2 ≤ length m → first_direction (reverse (xs ++ m)) ≡ first_direction (reverse m)
end_of_more [] m h = refl
end_of_more (x ∷ xs) m h = let e = length-append xs m in from_end x (xs ++ m) (omega arith) ∙ end_of_more xs m h

joined_ends : (l : List Point) (a b : Point) (rest : List Point) → 1 ≤ length l → last_vertex l ≡ a → (front : List Point) × (l ++ b ∷ rest ≡ front ++ a ∷ b ∷ rest)
joined_ends [] a b rest h e = absurd (omega arith)
joined_ends (z ∷ []) a b rest h e = ([], ap (λ p. p ∷ b ∷ rest) e)
joined_ends (z ∷ w ∷ l) a b rest h e = let (front, is) = joined_ends (w ∷ l) a b rest (omega arith) e in (z ∷ front, ap (λ ps. z ∷ ps) is)

-- at its end it is the second line
end_of_joined : (l m : List Point) → 2 ≤ length l → 2 ≤ length m → last_vertex l ≡ first_vertex m → first_direction (reverse (joined l m)) ≡ first_direction (reverse m)
end_of_joined l [] h k e = absurd (omega arith)
end_of_joined l (a ∷ []) h k e = absurd (omega arith)
end_of_joined l (a ∷ b ∷ rest) h k e =
    let (front, is) = joined_ends l a b rest (omega arith) e in
    ap (λ ps. first_direction (reverse ps)) is ∙ end_of_more front (a ∷ b ∷ rest) (omega arith)

-- ---- two half-edges alone at a node
pub pair_turns : (hs : List HalfEdge) (a b : HalfEdge) (n : ℕ) → Contains hs a → Contains hs b → a.from_node ≡ n → b.from_node ≡ n → (b ≡ a → ⊥) → ((k : HalfEdge) → Contains hs k → k.from_node ≡ n → (k ≡ a) ⊎ (k ≡ b)) → Turns hs a b
pair_turns hs a b n ca cb at bt differ each = record {
  first = ca;
  second = cb;
  one_node = bt ∙ sym at;
  none_between = λ k c from other. ⊎_elim
      (λ (p : k ≡ a). absurd (other p))
      (λ (p : k ≡ b). subst (λ (z : HalfEdge). is_nearer (leaving a) (leaving z) (leaving b) ≡ false) (sym p) (nearer_self (leaving a) (leaving b)))
      (each k c (from ∙ at));
  alone = λ e. absurd (differ e);
}

-- ---- edges that have the joined edge in the place of e and f
pub record IsHealed (S : Drawing) (n : ℕ) (e f : Edge) (id : ℕ) (fs : List Edge) : Type 0 where
  pub e_there : Contains S.edges e
  pub f_there : Contains S.edges f
  pub differ : e.edge_id ≡ f.edge_id → ⊥
  pub e_open : e.start_node ≡ e.end_node → ⊥
  pub f_open : f.start_node ≡ f.end_node → ⊥
  pub at_e : is_end_of n e ≡ true
  pub at_f : is_end_of n f ≡ true
  pub only : (x : Edge) → Contains S.edges x → (x.edge_id ≡ e.edge_id → ⊥) → (x.edge_id ≡ f.edge_id → ⊥) → is_end_of n x ≡ true → ⊥
  pub from : (x : Edge) → Contains fs x → (Contains S.edges x × (x.edge_id ≡ e.edge_id → ⊥) × (x.edge_id ≡ f.edge_id → ⊥)) ⊎ (joined_edge n e f id ≡ x)
  pub old : (x : Edge) → Contains S.edges x → (x.edge_id ≡ e.edge_id → ⊥) → (x.edge_id ≡ f.edge_id → ⊥) → Contains fs x
  pub made : Contains fs (joined_edge n e f id)

-- h and its twin are the two half-edges of x
abbrev pub AreBoth : Edge → HalfEdge → HalfEdge → Type 0
AreBoth x h k = ((forward_of x ≡ h) × (backward_of x ≡ k)) ⊎ ((backward_of x ≡ h) × (forward_of x ≡ k))

pub both_cases : (x : Edge) (h k m : HalfEdge) → AreBoth x h k → (forward_of x ≡ m) ⊎ (backward_of x ≡ m) → (h ≡ m) ⊎ (k ≡ m)
both_cases x h k m (inl b) (inl p) = inl (sym b.0 ∙ p)
both_cases x h k m (inl b) (inr p) = inr (sym b.1 ∙ p)
both_cases x h k m (inr b) (inl p) = inr (sym b.1 ∙ p)
both_cases x h k m (inr b) (inr p) = inl (sym b.0 ∙ p)

pub id_of : (x : Edge) (k m : HalfEdge) → AreBoth x k m → x.edge_id ≡ k.edge_id
id_of x k m (inl b) = ap (λ (z : HalfEdge). z.edge_id) b.0
id_of x k m (inr b) = ap (λ (z : HalfEdge). z.edge_id) b.0

pub first_there : (edges : List Edge) (x : Edge) (h k : HalfEdge) → Contains edges x → AreBoth x h k → Contains (flat_map both_ways edges) h
first_there edges x h k c (inl b) = subst (Contains (flat_map both_ways edges)) b.0 (forward_there edges x c)
first_there edges x h k c (inr b) = subst (Contains (flat_map both_ways edges)) b.0 (backward_there edges x c)

pub second_there : (edges : List Edge) (x : Edge) (h k : HalfEdge) → Contains edges x → AreBoth x h k → Contains (flat_map both_ways edges) k
second_there edges x h k c (inl b) = subst (Contains (flat_map both_ways edges)) b.1 (backward_there edges x c)
second_there edges x h k c (inr b) = subst (Contains (flat_map both_ways edges)) b.1 (forward_there edges x c)

-- the half-edge up to the node and the one from it on, and the two half-edges of the joined edge
pub record Joint (S : Drawing) (n : ℕ) (e f : Edge) (id : ℕ) (J : Edge) : Type 0 where
  pub up : HalfEdge
  pub on : HalfEdge
  pub start : HalfEdge
  pub end : HalfEdge
  pub of_e : AreBoth e up (twin up)
  pub of_f : AreBoth f on (twin on)
  pub of_joined : AreBoth J start end
  pub up_to : up.to_node ≡ n
  pub on_from : on.from_node ≡ n
  pub meets : last_vertex up.points ≡ first_vertex on.points
  pub line : (start.points ≡ joined up.points on.points) ⊎ (end.points ≡ joined (reverse on.points) (reverse up.points))
  pub start_node : up.from_node ≡ start.from_node
  pub start_way : leaving up ≡ leaving start
  pub start_left : up.on_left ≡ start.on_left
  pub start_right : up.on_right ≡ start.on_right
  pub end_node : on.to_node ≡ end.from_node
  pub end_way : leaving (twin on) ≡ leaving end
  pub end_left : up.on_right ≡ end.on_left
  pub end_right : up.on_left ≡ end.on_right
  pub start_dart : dart_of start ≡ record { edge = id; forward = n == e.end_node }
  pub end_dart : dart_of end ≡ record { edge = id; forward = not (n == e.end_node) }
  pub end_twin : end ≡ twin start
  pub start_twin : start ≡ twin end
  pub up_way : up.is_forward ≡ (n == e.end_node)
  pub on_is : on ≡ away_from n f
  pub at_end : n == e.end_node ≡ true → last_vertex e.geom ≡ first_vertex ((away_from n f).points)
  pub at_start : n == e.end_node ≡ false → last_vertex (reverse ((away_from n f).points)) ≡ first_vertex e.geom

-- the half-edge that leaves the node
record IsAway (n : ℕ) (f : Edge) (h : HalfEdge) : Type 0 where
  from : h.from_node ≡ n
  both : AreBoth f h (twin h)

away_is : (n : ℕ) (f : Edge) → is_end_of n f ≡ true → IsAway n f (away_from n f)
away_is n f t = by_test (f.start_node == n) refl (end_is n f t)
  where
    by_test : (u : Bool) → (f.start_node == n) ≡ u → (f.start_node ≡ n) ⊎ (f.end_node ≡ n) → IsAway n f (cond u (forward_of f) (backward_of f))
    by_test true e ends = record { from = eqb-true f.start_node n e; both = inl (refl, refl) }
    by_test false e (inl p) = absurd (false≢true (sym e ∙ eq-eqb f.start_node n p))
    by_test false e (inr p) = record { from = p; both = inr (refl, twin_back f) }

pub make_joint : (S : Drawing) (n : ℕ) (e f : Edge) (id : ℕ) (fs : List Edge) → HasPlainLines S → IsHealed S n e f id fs → Joint S n e f id (joined_edge n e f id)
make_joint S n e f id fs good h = by_end (n == e.end_node) refl
  where
    on : HalfEdge
    on = away_from n f

    by_end : (t : Bool) → (n == e.end_node) ≡ t
        → Joint S n e f id (cond t (record e { edge_id = id; end_node = (away_from n f).to_node; geom = joined e.geom ((away_from n f).points) }) (record e { edge_id = id; start_node = (away_from n f).to_node; geom = joined (reverse ((away_from n f).points)) e.geom }))
    by_end true t =
        let away = away_is n f h.at_f in
        let there = first_there S.edges f (away_from n f) (twin (away_from n f)) h.f_there away.both in
        let line = line_of S (away_from n f) good (half_of S.edges (away_from n f) there) in
        let fit = good.plain.fit e h.e_there in
        let long = good.long e h.e_there in
        let at_end : n ≡ e.end_node = eqb-true n e.end_node t in
        let meets = one_start S e.end_node ((away_from n f).from_node) (last_vertex e.geom) (first_vertex ((away_from n f).points)) good (sym at_end ∙ sym away.from) fit.ends line.starts in
        let J : Edge = record e { edge_id = id; end_node = (away_from n f).to_node; geom = joined e.geom ((away_from n f).points) } in
        record {
          up = forward_of e;
          on = away_from n f;
          start = forward_of J;
          end = backward_of J;
          of_e = inl (refl, refl);
          of_f = away.both;
          of_joined = inl (refl, refl);
          up_to = sym at_end;
          on_from = away.from;
          meets = meets;
          line = inl refl;
          start_node = refl;
          start_way = sym (first_of_some e.geom (without_first ((away_from n f).points)) long);
          start_left = refl;
          start_right = refl;
          end_node = refl;
          end_way = sym (end_of_joined e.geom ((away_from n f).points) long line.long meets);
          end_left = refl;
          end_right = refl;
          start_dart = λ i. record { edge = id; forward = sym t i };
          end_dart = λ i. record { edge = id; forward = not (sym t i) };
          end_twin = refl;
          start_twin = twin_back J;
          up_way = sym t;
          on_is = refl;
          at_end = λ _. meets;
          at_start = λ k. absurd (false≢true (sym k ∙ t));
        }
    by_end false t =
        let away = away_is n f h.at_f in
        let there = first_there S.edges f (away_from n f) (twin (away_from n f)) h.f_there away.both in
        let line = line_of S (away_from n f) good (half_of S.edges (away_from n f) there) in
        let fit = good.plain.fit e h.e_there in
        let long = good.long e h.e_there in
        let at_start : e.start_node ≡ n = ⊎_elim (λ (p : e.start_node ≡ n). p) (λ (p : e.end_node ≡ n). absurd (false≢true (sym t ∙ eq-eqb n e.end_node (sym p)))) (end_is n e h.at_e) in
        let meets = one_start S ((away_from n f).from_node) e.start_node (first_vertex ((away_from n f).points)) (first_vertex e.geom) good (away.from ∙ sym at_start) line.starts fit.starts in
        let turned : 2 ≤ length (reverse ((away_from n f).points)) = subst (λ k. 2 ≤ k) (sym (length-reverse ((away_from n f).points))) line.long in
        let J : Edge = record e { edge_id = id; start_node = (away_from n f).to_node; geom = joined (reverse ((away_from n f).points)) e.geom } in
        record {
          up = backward_of e;
          on = away_from n f;
          start = backward_of J;
          end = forward_of J;
          of_e = inr (refl, twin_back e);
          of_f = away.both;
          of_joined = inr (refl, refl);
          up_to = at_start;
          on_from = away.from;
          meets = last-reverse e.geom ∙ sym meets;
          line = inr (ap (joined (reverse ((away_from n f).points))) (sym (reverse-reverse e.geom)));
          start_node = refl;
          start_way = sym (end_of_joined (reverse ((away_from n f).points)) e.geom turned long (last-reverse ((away_from n f).points) ∙ meets));
          start_left = refl;
          start_right = refl;
          end_node = refl;
          end_way = sym (first_of_some (reverse ((away_from n f).points)) (without_first e.geom) turned);
          end_left = refl;
          end_right = refl;
          start_dart = λ i. record { edge = id; forward = sym t i };
          end_dart = λ i. record { edge = id; forward = not (sym t i) };
          end_twin = twin_back J;
          start_twin = refl;
          up_way = sym t;
          on_is = refl;
          at_end = λ k. absurd (false≢true (sym t ∙ k));
          at_start = λ _. last-reverse ((away_from n f).points) ∙ meets;
        }

-- an edge is e, or f, or another
pub edge_cases : (S : Drawing) (n : ℕ) (e f : Edge) (id : ℕ) (fs : List Edge) (x : Edge) → HasPlainLines S → IsHealed S n e f id fs → Contains S.edges x → (x ≡ e) ⊎ ((x ≡ f) ⊎ ((x.edge_id ≡ e.edge_id → ⊥) × (x.edge_id ≡ f.edge_id → ⊥)))
edge_cases S n e f id fs x good h c =
    ⊎_elim
    (λ (t : (x.edge_id == e.edge_id) ≡ true). inl (one_edge S x e good c h.e_there (eqb-true x.edge_id e.edge_id t)))
    (λ (t : (x.edge_id == e.edge_id) ≡ false).
    ⊎_elim
    (λ (u : (x.edge_id == f.edge_id) ≡ true). inr (inl (one_edge S x f good c h.f_there (eqb-true x.edge_id f.edge_id u))))
    (λ (u : (x.edge_id == f.edge_id) ≡ false). inr (inr (λ p. false≢true (sym t ∙ eq-eqb x.edge_id e.edge_id p), λ p. false≢true (sym u ∙ eq-eqb x.edge_id f.edge_id p))))
    (by_bool (x.edge_id == f.edge_id)))
    (by_bool (x.edge_id == e.edge_id))

pub away_ends : (x : Edge) (h : HalfEdge) → AreBoth x h (twin h) → (x.start_node ≡ x.end_node → ⊥) → h.from_node ≡ h.to_node → ⊥
away_ends x h (inl b) far e = far (ap (λ (z : HalfEdge). z.from_node) b.0 ∙ e ∙ ap (λ (z : HalfEdge). z.to_node) (sym b.0))
away_ends x h (inr b) far e = far (ap (λ (z : HalfEdge). z.to_node) b.0 ∙ sym e ∙ ap (λ (z : HalfEdge). z.from_node) (sym b.0))

-- ---- the faces beside the two edges agree
pub joint_sides : (S : Drawing) (n : ℕ) (e f : Edge) (id : ℕ) (fs : List Edge) → HasPlainLines S → FacesAgree (half_edges S) → IsHealed S n e f id fs → (j : Joint S n e f id (joined_edge n e f id))
    → (j.up.on_left ≡ j.on.on_left) × (j.on.on_right ≡ j.up.on_right)
joint_sides S n e f id fs good joined h j = (
  joined (twin j.up) j.on (pair_turns (half_edges S) (twin j.up) j.on n up_back on_there j.up_to j.on_from two_edges at_node),
  joined j.on (twin j.up) (pair_turns (half_edges S) j.on (twin j.up) n on_there up_back j.on_from j.up_to (λ p. two_edges (sym p)) (λ k c at. ⊎_elim (λ (p : k ≡ twin j.up). inr p) (λ (p : k ≡ j.on). inl p) (at_node k c at))),
)
  where
    up_back : Contains (half_edges S) (twin j.up)
    up_back = second_there S.edges e j.up (twin j.up) h.e_there j.of_e

    on_there : Contains (half_edges S) j.on
    on_there = first_there S.edges f j.on (twin j.on) h.f_there j.of_f

    two_edges : j.on ≡ twin j.up → ⊥
    two_edges p = h.differ (id_of e j.up (twin j.up) j.of_e ∙ ap (λ (z : HalfEdge). z.edge_id) (sym p) ∙ sym (id_of f j.on (twin j.on) j.of_f))

    -- those that leave the node
    at_node : (k : HalfEdge) → Contains (half_edges S) k → k.from_node ≡ n → (k ≡ twin j.up) ⊎ (k ≡ j.on)
    at_node k c at =
        let r = half_of S.edges k c in
        ⊎_elim
        (λ (p : r.edge ≡ e). ⊎_elim
        (λ (q : j.up ≡ k). absurd (away_ends e j.up j.of_e h.e_open (ap (λ (z : HalfEdge). z.from_node) q ∙ at ∙ sym j.up_to)))
        (λ (q : twin j.up ≡ k). inl (sym q))
        (both_cases e j.up (twin j.up) k j.of_e (subst (λ (x : Edge). (forward_of x ≡ k) ⊎ (backward_of x ≡ k)) p r.way)))
        (λ (o : (r.edge ≡ f) ⊎ ((r.edge.edge_id ≡ e.edge_id → ⊥) × (r.edge.edge_id ≡ f.edge_id → ⊥))).
        ⊎_elim
        (λ (p : r.edge ≡ f). ⊎_elim
        (λ (q : j.on ≡ k). inr (sym q))
        (λ (q : twin j.on ≡ k). absurd (away_ends f j.on j.of_f h.f_open (j.on_from ∙ sym at ∙ ap (λ (z : HalfEdge). z.from_node) (sym q))))
        (both_cases f j.on (twin j.on) k j.of_f (subst (λ (x : Edge). (forward_of x ≡ k) ⊎ (backward_of x ≡ k)) p r.way)))
        (λ (p : (r.edge.edge_id ≡ e.edge_id → ⊥) × (r.edge.edge_id ≡ f.edge_id → ⊥)). absurd (h.only r.edge r.there p.0 p.1 (subst (λ m. is_end_of m r.edge ≡ true) at (leaves_end S.edges k r))))
        o)
        (edge_cases S n e f id fs r.edge good h r.there)
