-- Where the half-edges of rows stand, and the darts that are made of them.
use Rattle.std.proofs.Common.{◌≡◌, ◌∙◌, ℕ, zero, suc, ◌+◌, ◌*◌, ◌<◌, ◌≤◌, List, [], ◌∷◌, ◌++◌, map, flat_map, length, take, get_or, sym, ap, subst, arith}
use Rattle.std.proofs.lemmas.Grind.{flat_map-append}
use Rattle.std.proofs.lemmas.List.{map_more}
use Rattle.topo_base.specs.declared.rows.EdgeRow.{EdgeRow}
use Rattle.drawing.specs.HalfEdge.{HalfEdge, both_ways, forward_of, backward_of, twin}
use Rattle.drawing.specs.Star.{leaving}
use Rattle.drawing.specs.Tables.{drawn_edge}
use Rattle.face_rings.proofs.HalvesApart.{twin_back}
use Rattle.validate_topology.specs.Following.{HasRowAt, IsSpokeOf, half_edges_of, halves_at, some_direction}
use Rattle.validate_topology.specs.declared.stars.Spoke.{Spoke}

pub forward_at : (rows : List EdgeRow) (i : ℕ) (e : EdgeRow) (d : HalfEdge) → i < length rows → e ≡ get_or rows i e → get_or (half_edges_of rows) (2 * i) d ≡ forward_of (drawn_edge e)
forward_at [] i e d h is = absurd (omega arith)
forward_at (x ∷ rows) zero e d h is = ap (λ (r : EdgeRow). forward_of (drawn_edge r)) (sym is)
forward_at (x ∷ rows) (suc i) e d h is =
    let two : 2 * suc i ≡ suc (suc (2 * i)) = omega arith in ap (λ n. get_or (half_edges_of (x ∷ rows)) n d) two ∙ forward_at rows i e d (omega arith) is

pub backward_at : (rows : List EdgeRow) (i : ℕ) (e : EdgeRow) (d : HalfEdge) → i < length rows → e ≡ get_or rows i e → get_or (half_edges_of rows) (2 * i + 1) d ≡ backward_of (drawn_edge e)
backward_at [] i e d h is = absurd (omega arith)
backward_at (x ∷ rows) zero e d h is = ap (λ (r : EdgeRow). backward_of (drawn_edge r)) (sym is)
backward_at (x ∷ rows) (suc i) e d h is =
    let two : 2 * suc i + 1 ≡ suc (suc (2 * i + 1)) = omega arith in ap (λ n. get_or (half_edges_of (x ∷ rows)) n d) two ∙ backward_at rows i e d (omega arith) is

pub halves_length : (rows : List EdgeRow) → length (half_edges_of rows) ≡ 2 * length rows
halves_length [] = omega arith
halves_length (x ∷ rows) = let rest = halves_length rows in omega arith

pub row_at_place : (rows : List EdgeRow) (i : ℕ) (e : EdgeRow) → i < length rows → e ≡ get_or rows i e → HasRowAt rows e (2 * i)
row_at_place rows i e h is = record {
  within = let long = halves_length rows in omega arith;
  first = λ d. forward_at rows i e d h is;
  second = λ d. backward_at rows i e d h is;
}

pub halves_more : (rows : List EdgeRow) (i : ℕ) (e : EdgeRow) → i < length rows → e ≡ get_or rows i e → half_edges_of (take (i + 1) rows) ≡ half_edges_of (take i rows) ++ both_ways (drawn_edge e)
halves_more rows i e h is =
    ap (flat_map both_ways) (map_more drawn_edge rows i e h) ∙ flat_map-append both_ways (map drawn_edge (take i rows)) (drawn_edge (get_or rows i e) ∷ [])
    ∙ ap (λ (r : EdgeRow). half_edges_of (take i rows) ++ both_ways (drawn_edge r)) (sym is)

-- ---- a dart at a place
spoke_is : (hs : List HalfEdge) (s : Spoke) (h : HalfEdge) (p q : ℕ) → ((d : HalfEdge) → get_or hs p d ≡ h) → ((d : HalfEdge) → get_or hs q d ≡ twin h) → p < length hs → q < length hs → s.place ≡ p → s.twin ≡ q
    → s.node ≡ h.from_node → s.dir ≡ some_direction (leaving h) → 2 ≤ length h.points → IsSpokeOf hs s
spoke_is hs s h p q at back wp wq sp sq sn sd long = record {
  within = subst (λ n. n < length hs) (sym sp) wp;
  twin_within = subst (λ n. n < length hs) (sym sq) wq;
  is_twin = λ d. ap (λ n. get_or hs n d) sq ∙ back d ∙ ap twin (sym (here d));
  node = λ d. sn ∙ ap (λ (k : HalfEdge). k.from_node) (sym (here d));
  dir = λ d. sd ∙ ap (λ (k : HalfEdge). some_direction (leaving k)) (sym (here d));
  long = λ d. subst (λ (k : HalfEdge). 2 ≤ length (k.points)) (sym (here d)) long;
}
  where
    here : (d : HalfEdge) → get_or hs s.place d ≡ h
    here d = ap (λ n. get_or hs n d) sp ∙ at d

pub forward_spoke : (rows : List EdgeRow) (row : EdgeRow) (place : ℕ) (s : Spoke) → HasRowAt rows row place → s.place ≡ place → s.twin ≡ place + 1 → s.node ≡ row.start_node
    → s.dir ≡ some_direction (leaving (forward_of (drawn_edge row))) → 2 ≤ length (row.geom) → IsSpokeOf (half_edges_of rows) s
forward_spoke rows row place s at sp sq sn sd long =
    let w = at.within in spoke_is (half_edges_of rows) s (forward_of (drawn_edge row)) place (place + 1) at.first at.second (omega arith) w sp sq sn sd long

pub backward_spoke : (rows : List EdgeRow) (row : EdgeRow) (place : ℕ) (s : Spoke) → HasRowAt rows row place → s.place ≡ place + 1 → s.twin ≡ place → s.node ≡ row.end_node
    → s.dir ≡ some_direction (leaving (backward_of (drawn_edge row))) → 2 ≤ length ((backward_of (drawn_edge row)).points) → IsSpokeOf (half_edges_of rows) s
backward_spoke rows row place s at sp sq sn sd long =
    let w = at.within in
    spoke_is (half_edges_of rows) s (backward_of (drawn_edge row)) (place + 1) place at.second (λ d. at.first d ∙ twin_back (drawn_edge row)) w (omega arith) sp sq sn sd long

-- ---- the half-edges at the places of darts
halves_by_place : (hs : List HalfEdge) (d : HalfEdge) (ss : List Spoke) → halves_at hs d ss ≡ map (λ n. get_or hs n d) (map (λ (s : Spoke). s.place) ss)
halves_by_place hs d [] = λ i. []
halves_by_place hs d (s ∷ ss) = ap (λ hs'. get_or hs s.place d ∷ hs') (halves_by_place hs d ss)

pub halves_pushed : (rows : List EdgeRow) (i : ℕ) (e : EdgeRow) (d : HalfEdge) (old new : List Spoke) → i < length rows → e ≡ get_or rows i e
    → map (λ (s : Spoke). s.place) new ≡ map (λ (s : Spoke). s.place) old ++ (2 * i) ∷ (2 * i + 1) ∷ [] → halves_at (half_edges_of rows) d old ≡ half_edges_of (take i rows)
    → halves_at (half_edges_of rows) d new ≡ half_edges_of (take (i + 1) rows)
halves_pushed rows i e d old new h is places so_far =
    let hs = half_edges_of rows in
    let at : ℕ → HalfEdge = λ n. get_or hs n d in
    let place : Spoke → ℕ = λ (s : Spoke). s.place in
    halves_by_place hs d new ∙ ap (map at) places ∙ map_both at (map place old) ((2 * i) ∷ (2 * i + 1) ∷ [])
    ∙ (λ j. (sym (halves_by_place hs d old) ∙ so_far) j ++ forward_at rows i e d h is j ∷ backward_at rows i e d h is j ∷ [])
    ∙ sym (halves_more rows i e h is)
  where
    map_both : (f : ℕ → HalfEdge) (xs ys : List ℕ) → map f (xs ++ ys) ≡ map f xs ++ map f ys
    map_both f [] ys = λ i. map f ys
    map_both f (x ∷ xs) ys = ap (λ zs. f x ∷ zs) (map_both f xs ys)
