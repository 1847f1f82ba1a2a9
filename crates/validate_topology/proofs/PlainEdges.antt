-- Tables with right references and plain lines: their edges are those of a plain drawing.
use Rattle.std.proofs.Common.{◌≡◌, ◌∙◌, ⊎_elim, ℕ, ◌+◌, ◌<◌, ◌≤◌, Bool, true, false, IsTrue, List, [], ◌∷◌, ◌++◌, map, flat_map, nat_le, nat_lt, refl, sym, ap, subst, arith, le-leb, lt-ltb, ltb-true}
use Rattle.std.specs.Prelude.{Contains}
use Rattle.std.proofs.lemmas.Bool.{both_ways, and_parts, and_from, cases_lt}
use Rattle.topo_base.specs.declared.rows.EdgeRow.{EdgeRow}
use Rattle.topo_base.specs.declared.rows.NodeRow.{NodeRow}
use Rattle.drawing.specs.Drawing.{node_id_of, edge_id_of}
use Rattle.drawing.specs.PlainInOrder.{IsPlainInOrder}
use Rattle.drawing.specs.Subdivision.{ascend_between}
use Rattle.drawing.specs.Tables.{Tables, drawn, drawn_edge}
use Rattle.plane.proofs.ListTests.{contains_here, contains_there, contains_cases, contains_none}
use Rattle.validate_topology.specs.Ascending.{numbers_ascend}
use Rattle.validate_topology.specs.Following.{ArePlainEdges}
use Rattle.validate_topology.specs.OnlyIf.{only_if}
use Rattle.validate_topology.specs.PlainLines.{HasPlainLines}
use Rattle.validate_topology.specs.References.{drawing_references, edges_past_next, faces_past_next, features_past_next, layer_references, layers_past_next, nodes_past_next, past_next}
use Rattle.validate_topology.specs.RelationLines.{AreReferenceLines}
use Rattle.validate_topology.specs.declared.lines.ReportLine.{ReportLine}
use Rattle.validate_topology.specs.declared.lines.ReportLine.TheVariants.{NodePastNext, EdgePastNext}
use Rattle.validate_topology.proofs.Plain.{first_none, plain_drawing, second_none}

-- ---- rows of which no line is told
one_none : {A : Type 0} (b : Bool) (line : A) → [] ≡ only_if b line → b ≡ false
one_none true line e = absurd cc
one_none false line e = refl

each_below : {X : Type 0} (next : ℕ) (number : X → ℕ) (line : X → ReportLine) (xs : List X) → [] ≡ flat_map (λ (x : X). only_if (nat_le next (number x)) (line x)) xs → (x : X) → Contains xs x → number x < next
each_below next number line [] e x c = absurd (contains_none x c)
each_below {X} next number line (y ∷ xs) e x c =
    let rest = flat_map (λ (z : X). only_if (nat_le next (number z)) (line z)) xs in
    let here = only_if (nat_le next (number y)) (line y) in
    ⊎_elim
    (λ (same : y ≡ x). subst (λ z. number z < next) same (below (one_none (nat_le next (number y)) (line y) (sym (first_none here rest e)))))
    (λ (there : Contains xs x). each_below next number line xs (second_none here rest e) x there)
    (contains_cases x y xs c)
  where
    below : nat_le next (number y) ≡ false → number y < next
    below f = ⊎_elim (λ (h : number y < next). h) (λ (h : next ≤ number y). absurd (both_ways (nat_le next (number y)) f (le-leb next (number y) h))) (cases_lt (number y) next)

-- ---- ids that ascend, below the next one
in_order : {X : Type 0} (number : X → ℕ) (low start next : ℕ) (xs : List X) → start ≤ low + 1 → IsTrue (numbers_ascend number low xs) → ((x : X) → Contains xs x → number x < next) → IsTrue (ascend_between start next (map number xs))
in_order number low start next [] le up below = refl
in_order number low start next (x ∷ xs) le up below =
    let parts = and_parts (nat_lt low (number x)) (numbers_ascend number (number x) xs) up in
    let above : low < number x = ltb-true low (number x) parts.0 in
    let rest = in_order number (number x) (number x + 1) next xs (omega arith) parts.1 (λ y c. below y (contains_there y x xs c)) in
    and_from _ _ (and_from (nat_le start (number x)) (nat_lt (number x) next) (le-leb start (number x) (omega arith)) (lt-ltb (number x) next (below x (contains_here x xs)))) rest

edge_ids : (rows : List EdgeRow) → map edge_id_of (map drawn_edge rows) ≡ map (λ (r : EdgeRow). r.edge_id) rows
edge_ids [] = refl
edge_ids (r ∷ rows) = ap (λ ns. r.edge_id ∷ ns) (edge_ids rows)

pub plain_edges : (t : Tables) (rows : List EdgeRow) → IsTrue (numbers_ascend node_id_of 0 t.nodes) → IsTrue (numbers_ascend (λ (r : EdgeRow). r.edge_id) 0 t.edges) → AreReferenceLines t [] → HasPlainLines t [] → rows ≡ t.edges → ArePlainEdges rows
plain_edges t rows nodes_up edges_up refs plain same = record {
  of = drawn t;
  plain = subst (λ (es : List EdgeRow). IsPlainInOrder (record (drawn t) { edges = map drawn_edge es })) (sym same)
      (record {
        plain = plain_drawing t nodes_up plain;
        node_ids = in_order node_id_of 0 0 t.next_ids.node t.nodes (omega arith) nodes_up (each_below t.next_ids.node node_id_of (λ (n : NodeRow). NodePastNext n.node_id) t.nodes no_nodes);
        edge_ids = ap (ascend_between 0 t.next_ids.edge) (edge_ids t.edges)
            ∙ in_order (λ (r : EdgeRow). r.edge_id) 0 0 t.next_ids.edge t.edges (omega arith) edges_up
            (each_below t.next_ids.edge (λ (r : EdgeRow). r.edge_id) (λ (r : EdgeRow). EdgePastNext r.edge_id) t.edges no_edges);
      });
}
  where
    nodes : List ReportLine
    nodes = nodes_past_next t.next_ids.node t.nodes

    edges : List ReportLine
    edges = edges_past_next t.next_ids.edge t.edges

    faces : List ReportLine
    faces = faces_past_next t.next_ids.face t.faces

    layers : List ReportLine
    layers = layers_past_next t.next_ids.layer t.layers

    features : List ReportLine
    features = features_past_next t.next_ids.feature t.features

    no_past : [] ≡ past_next t
    no_past =
        let three = past_next t ++ drawing_references t ++ layer_references t in
        let two = past_next t ++ drawing_references t in
        sym (first_none (past_next t) (drawing_references t) (sym (first_none two (layer_references t) (sym (first_none three refs.on_relations refs.all)))))

    no_both : [] ≡ nodes ++ edges
    no_both = sym (first_none (nodes ++ edges) faces (sym (first_none (nodes ++ edges ++ faces) layers (sym (first_none (nodes ++ edges ++ faces ++ layers) features no_past)))))

    no_nodes : [] ≡ nodes
    no_nodes = sym (first_none nodes edges no_both)

    no_edges : [] ≡ edges
    no_edges = second_none nodes edges no_both
