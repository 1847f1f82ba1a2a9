-- Nodes that are ends of edges.
use Rattle.std.proofs.Common.{◌≡◌, ◌∙◌, ℕ, ◌+◌, ◌<◌, Bool, true, false, ◌||◌, ◌==◌, if◌then◌else◌, List, [], ◌∷◌, ◌++◌, length, map, take, get_or, replicate, refl, sym, ap}
use Rattle.std.proofs.lemmas.List.{map-append, take_more}
use Rattle.std.proofs.lemmas.List.Folds.{list_any-append}
use Rattle.topo_base.specs.declared.rows.NodeRow.{NodeRow}
use Rattle.topo_base.specs.declared.rows.EdgeRow.{EdgeRow}
use Rattle.drawing.specs.Drawing.{Edge, is_end_of}
use Rattle.drawing.specs.Tables.{drawn_edge}
use Rattle.validate_topology.specs.LinkLines.{has_edge}
use Rattle.validate_topology.proofs.Marked.{turned_test}

-- marked at both ends
two_marks : (s x y : Bool) → (if y then true else (if x then true else s)) ≡ (s || (x || y))
two_marks true true true = refl
two_marks true true false = refl
two_marks true false true = refl
two_marks true false false = refl
two_marks false true true = refl
two_marks false true false = refl
two_marks false false true = refl
two_marks false false false = refl

pub marks_ends : (seen : ℕ → Bool) (a b n : ℕ) → (if n == b then true else (if n == a then true else seen n)) ≡ (seen n || (a == n || b == n))
marks_ends seen a b n = two_marks (seen n) (n == a) (n == b) ∙ (λ i. seen n || (turned_test n a i || turned_test n b i))

-- no edges, and one more
or_false : (b : Bool) → (b || false) ≡ b
or_false true = refl
or_false false = refl

pub none_marked : (nodes : List NodeRow) → replicate (length nodes) false ≡ map (λ (n : NodeRow). has_edge [] n.node_id) nodes
none_marked [] = refl
none_marked (n ∷ nodes) = ap (λ (bs : List Bool). false ∷ bs) (none_marked nodes)

pub edges_more : (edges : List EdgeRow) (i : ℕ) (e : EdgeRow) → i < length edges → e ≡ get_or edges i e
    → map drawn_edge (take (i + 1) edges) ≡ map drawn_edge (take i edges) ++ drawn_edge e ∷ []
edges_more edges i e h is =
    ap (map drawn_edge) (take_more edges i e h ∙ (λ k. take i edges ++ sym is k ∷ [])) ∙ map-append drawn_edge (take i edges) (e ∷ [])

pub has_more : (edges : List EdgeRow) (i : ℕ) (e : EdgeRow) (n : ℕ) → i < length edges → e ≡ get_or edges i e
    → (has_edge (map drawn_edge (take i edges)) n || is_end_of n (drawn_edge e)) ≡ has_edge (map drawn_edge (take (i + 1) edges)) n
has_more edges i e n h is =
    let before = map drawn_edge (take i edges) in
    sym (ap (λ (es : List Edge). has_edge es n) (edges_more edges i e h is) ∙ list_any-append (is_end_of n) before (drawn_edge e ∷ [])
    ∙ ap (λ b. has_edge before n || b) (or_false (is_end_of n (drawn_edge e))))
