-- A heal undoes a split.
use Rattle.std.proofs.Common.{◌≡◌, ℕ, ◌+◌, ◌≤◌, sym, ◌∙◌, ap, subst, arith, ◌⊎◌, inl, inr, Bool, true, false, not, cond, ◌&&◌, ◌||◌, ◌==◌, eqb-true, eq-eqb, ne_eqb, List, [], ◌∷◌, ◌++◌, map, filter, refl, Some, None, Ok, Err}
use Rattle.std.specs.Prelude.{if◌then◌else◌}
use Rattle.std.specs.List.{Contains, list_all}
use Rattle.std.proofs.lemmas.Bool.{and_parts, not-true}
use Rattle.topo_base.specs.Point.{Point}
use Rattle.topo_base.specs.declared.edit.Edit.TheVariants.{ModEdgeSplit, NewEdgesSplit, ModEdgeHeal, NewEdgeHeal}
use Rattle.topo_base.specs.declared.rule.Rule.TheVariants.{NotOnEdge}
use Rattle.drawing.specs.Drawing.{Drawing, Edge, edge_at, has_face, has_node, has_only, is_end_of, node_id_of}
use Rattle.drawing.specs.HealEdges.{common_nodes, is_closed}
use Rattle.drawing.specs.Edits.{heal_edges, heal_mod, heal_new, split_edge}
use Rattle.drawing.specs.IsoEdits.{is_in_feature, with_node}
use Rattle.plane.specs.Line.{is_line_end, is_proper, on_line, segments_of}
use Rattle.drawing.specs.Outcome.{the_edge, the_node}
use Rattle.drawing.specs.Plain.{is_between_nodes}
use Rattle.drawing.specs.Relations.{edge_type, features_of, follow, node_type, ordered}
use Rattle.drawing.specs.RemoveEdge.{have_same_features}
use Rattle.drawing.specs.Replay.{after, drawing_of}
use Rattle.drawing.specs.Rows.{without_row}
use Rattle.drawing.specs.SplitEdge.{first_part, second_part}
use Rattle.drawing.specs.Step.{step}
use Rattle.drawing.specs.Subdivision.{is_edge_known}
use Rattle.drawing.specs.Apply.{carried_out}
use Rattle.drawing.specs.Change.{EdgeIsCut, EdgeIsCutAnew, EdgesAreJoined, EdgesAreJoinedAnew}
use Rattle.drawing.proofs.Members.{contains-found}
use Rattle.drawing.proofs.PlainSplits.{ComesFrom, from_both}
use Rattle.relation_rows.proofs.KnownFeatures.{references_parts}
use Rattle.relation_rows.proofs.Putting.{ascend_of}
use Rattle.relation_rows.proofs.MergedInto.{ordered_is}
use Rattle.ring_laws.proofs.Known.{all_out}
use Rattle.grid_lines.proofs.Splitting.{not_first}
use Rattle.edge_heal.specs.HealLaw.{CanSplit, HealUndoesSplit, healed_again, healed_anew, with_vertex}
use Rattle.edge_heal.proofs.HealAgainEdges.{HasEdge, edge_below, edges_again, edges_same, first_at, new_first_at, new_parts_go, new_parts_of, new_second_at, next_goes, only_parts, parts_come, parts_joined, parts_of, second_at}
use Rattle.edge_heal.proofs.HealAgainFeatures.{can_part, end_below, feature_layer, node_unlisted, others_unlisted, same_features}
use Rattle.edge_heal.proofs.HealAgainLines.{vertex_points, vertex_stays}
use Rattle.edge_heal.proofs.HealAgainRows.{both_is, both_to, one_is, one_own, parted_is, parted_to}

itself : (n : ℕ) → (n == n) ≡ true
itself n = eq-eqb n n refl

-- ---- the drawing after the split, with the edges among which the parts x and y are
abbrev split_drawing : Drawing → ℕ → Point → List Edge → ℕ → ℕ → Drawing
split_drawing S id p edges x y =
    record S {
      nodes = (with_node S None p).nodes;
      edges = edges;
      relations = follow S edge_type (id ∷ []) (x ∷ y ∷ []);
      next_ids = record (S.next_ids) { node = S.next_ids.node + 1; edge = y + 1 };
    }

-- an edge that is split, by its own number
abbrev Splits : Drawing → Edge → Point → Type 0
Splits S e p = CanSplit S e.edge_id e p

edge_known : (S : Drawing) (e : Edge) (p : Point) → Splits S e p → HasEdge S.edges e S.next_ids.node S.next_ids.edge
edge_known S e p g = record {
  ordered = record { test = g.referenced.rings.rings.plain.edge_ids };
  at = g.there;
  there = (contains-found (λ (x : Edge). x.edge_id == e.edge_id) e S.edges g.there).0;
  starts = λ x c. end_below S x.start_node g.referenced (ends x c).0;
  ends = λ x c. end_below S x.end_node g.referenced (ends x c).1;
}
  where
    ends : (x : Edge) → Contains S.edges x → (has_node S x.start_node ≡ true) × (has_node S x.end_node ≡ true)
    ends x c =
        let all = all_out (is_edge_known S) S.edges x (references_parts S g.referenced.references).edges c in
        let faces = and_parts (has_node S x.start_node && has_node S x.end_node && has_face S x.left_face) (has_face S x.right_face) all in
        let nodes = and_parts (has_node S x.start_node && has_node S x.end_node) (has_face S x.left_face) faces.0 in
        and_parts (has_node S x.start_node) (has_node S x.end_node) nodes.0

-- ---- the relation rows
-- the numbers that the parts may have
record AreParts (S : Drawing) (id x y : ℕ) : Type 0 where
  differ : (x == y) ≡ false
  first : (x ≡ id) ⊎ (S.next_ids.edge ≤ x)
  second : S.next_ids.edge ≤ y

abbrev with_parts : Drawing → ℕ → ℕ → ℕ → Drawing
with_parts S id x y = record S { relations = follow S edge_type (id ∷ []) (x ∷ y ∷ []) }

rows_follow : (S : Drawing) (e : Edge) (p : Point) (x y z : ℕ) → Splits S e p → AreParts S e.edge_id x y
    → follow (with_parts S e.edge_id x y) edge_type (x ∷ y ∷ []) (z ∷ []) ≡ follow S edge_type (e.edge_id ∷ []) (z ∷ [])
rows_follow S e p x y z g parts =
    let id = e.edge_id in
    ap ordered (both_is S edge_type x y z (follow S edge_type (id ∷ []) (x ∷ y ∷ [])))
    ∙ ap (λ rows. ordered (map (both_to S edge_type x y z) (ordered rows))) (parted_is S edge_type id x y S.relations)
    ∙ parted_to S edge_type id x y z (feature_layer S) S.relations (can_part S id x y g.referenced parts.differ parts.first parts.second)
    ∙ ap ordered (sym (one_is S edge_type id z S.relations))

rows_stay : (S : Drawing) (e : Edge) (p : Point) → Splits S e p → follow S edge_type (e.edge_id ∷ []) (e.edge_id ∷ []) ≡ S.relations
rows_stay S e p g =
    ap ordered (one_is S edge_type e.edge_id e.edge_id S.relations ∙ one_own S edge_type e.edge_id S.relations)
    ∙ ordered_is S.relations (ascend_of S.relations (references_parts S g.referenced.references).ascend)

parts_shared : (S : Drawing) (e : Edge) (p : Point) (x y : ℕ) → Splits S e p → AreParts S e.edge_id x y → have_same_features (with_parts S e.edge_id x y) edge_type x y ≡ true
parts_shared S e p x y g parts =
    ap (λ rows. have_same_features (record S { relations = ordered rows }) edge_type x y) (parted_is S edge_type e.edge_id x y S.relations)
    ∙ same_features S edge_type e.edge_id x y (feature_layer S) S.relations (can_part S e.edge_id x y g.referenced parts.differ parts.first parts.second)

node_free : (S : Drawing) (e : Edge) (p : Point) (x y : ℕ) → Splits S e p → is_in_feature (with_parts S e.edge_id x y) node_type S.next_ids.node ≡ false
node_free S e p x y g = rw none refl
  where
    none : features_of (with_parts S e.edge_id x y) node_type S.next_ids.node ≡ []
    none =
        ap (λ rows. features_of (record S { relations = ordered rows }) node_type S.next_ids.node) (parted_is S edge_type e.edge_id x y S.relations)
        ∙ others_unlisted S edge_type e.edge_id x y node_type S.next_ids.node S.relations refl (λ r c. node_unlisted S S.next_ids.node r g.referenced (omega arith) c)

-- ---- an accepted heal
pub either_done : (anew : Bool) (S : Drawing) (e f : Edge) (n : ℕ) → carried_out S (cond anew (Ok (EdgesAreJoinedAnew e f n)) (Ok (EdgesAreJoined e f n))) ≡ cond anew (heal_new S e f n) (heal_mod S e f n)
either_done true S e f n = refl
either_done false S e f n = refl

heal_chain : (anew : Bool) (T : Drawing) (e f : Edge) (n : ℕ) (more : List ℕ) → is_closed e ≡ false → is_closed f ≡ false → (e.edge_id == f.edge_id) ≡ false → common_nodes e f ≡ n ∷ more
    → has_only T n e.edge_id f.edge_id ≡ true → have_same_features T edge_type e.edge_id f.edge_id ≡ true → is_in_feature T node_type n ≡ false
    → heal_edges anew T (Some e) (Some f) ≡ carried_out T (cond anew (Ok (EdgesAreJoinedAnew e f n)) (Ok (EdgesAreJoined e f n)))
heal_chain anew T e f n more open_e open_f differ common only same free = rw (open_e, open_f, differ, common, only, same, free) refl

-- the parts x and y among these edges
record HasParts (S : Drawing) (e : Edge) (p : Point) (edges : List Edge) (x y : ℕ) : Type 0 where
  numbers : AreParts S e.edge_id x y
  first : edge_at (split_drawing S e.edge_id p edges x y) x ≡ Some (first_part e S.next_ids.node p x)
  second : edge_at (split_drawing S e.edge_id p edges x y) y ≡ Some (second_part e S.next_ids.node p y)
  come : (z : Edge) → Contains edges z → ComesFrom S.edges e (first_part e S.next_ids.node p x) (second_part e S.next_ids.node p y) z

heal_is : (anew : Bool) (S : Drawing) (e : Edge) (p : Point) (edges : List Edge) (x y : ℕ) → Splits S e p → HasParts S e p edges x y
    → heal_edges anew (split_drawing S e.edge_id p edges x y) (edge_at (split_drawing S e.edge_id p edges x y) x) (edge_at (split_drawing S e.edge_id p edges x y) y)
    ≡ (if anew then heal_new (split_drawing S e.edge_id p edges x y) (first_part e S.next_ids.node p x) (second_part e S.next_ids.node p y) S.next_ids.node
    else heal_mod (split_drawing S e.edge_id p edges x y) (first_part e S.next_ids.node p x) (second_part e S.next_ids.node p y) S.next_ids.node)
heal_is anew S e p edges x y g parts =
    let n = S.next_ids.node in
    let T = split_drawing S e.edge_id p edges x y in
    let one = first_part e n p x in
    let two = second_part e n p y in
    let known = edge_known S e p g in
    let first = parts.first in
    let second = parts.second in
    let start = known.starts e known.there in
    let end = known.ends e known.there in
    let open_one : is_closed one ≡ false = ne_eqb e.start_node n (λ q. absurd (omega arith)) in
    let open_two : is_closed two ≡ false = ne_eqb n e.end_node (λ q. absurd (omega arith)) in
    let more = filter (λ k. is_end_of k two) (e.start_node ∷ []) in
    (λ i. heal_edges anew T (first i) (second i))
    ∙ heal_chain anew T one two n more open_one open_two parts.numbers.differ
    (ap (λ b. cond (b || (e.end_node == n)) (n ∷ more) more) (itself n))
    (ap not (only_parts S.edges edges e p n S.next_ids.edge x y known parts.come)) (parts_shared S e p x y g parts.numbers) (node_free S e p x y g)
    ∙ either_done anew T one two n

nodes_again : (S : Drawing) (e : Edge) (p : Point) → Splits S e p → without_row node_id_of (with_node S None p).nodes S.next_ids.node ≡ S.nodes
nodes_again S e p g = next_goes node_id_of S.next_ids.node S.nodes (record { node_id = S.next_ids.node; containing_face = None; geom = p }) refl (record { test = g.referenced.rings.rings.plain.node_ids })

-- ---- the edge keeps its number
mod_split : (S : Drawing) (e : Edge) (p : Point) → Splits S e p
    → after S (ModEdgeSplit e.edge_id p) ≡ split_drawing S e.edge_id p (parts_of S.edges e p S.next_ids.node S.next_ids.edge) e.edge_id S.next_ids.edge
mod_split S e p g = ap (drawing_of S) (ap (λ o. split_edge false S o p) g.there ∙ ap (λ b. carried_out S (cond (not b) (Err NotOnEdge) (Ok (EdgeIsCut e p)))) g.inside)

mod_parts : (S : Drawing) (e : Edge) (p : Point) → Splits S e p → HasParts S e p (parts_of S.edges e p S.next_ids.node S.next_ids.edge) e.edge_id S.next_ids.edge
mod_parts S e p g =
    let known = edge_known S e p g in
    record {
      numbers = record { differ = edge_below S.edges e S.next_ids.node S.next_ids.edge known; first = inl refl; second = omega arith };
      first = first_at S.edges e p S.next_ids.node S.next_ids.edge known;
      second = second_at S.edges e p S.next_ids.node S.next_ids.edge known;
      come = λ z c. parts_come S.edges e p S.next_ids.node S.next_ids.edge known z c;
    }

mod_undone : (S : Drawing) (e : Edge) (p : Point) → Splits S e p
    → step (after S (ModEdgeSplit e.edge_id p)) (ModEdgeHeal e.edge_id S.next_ids.edge) ≡ Ok (record { drawing = healed_again S e p; ids = the_node S.next_ids.node ∷ the_edge e.edge_id ∷ [] })
mod_undone S e p g =
    let n = S.next_ids.node in
    let new = S.next_ids.edge in
    let parts = mod_parts S e p g in
    let nodes = nodes_again S e p g in
    let edges = edges_again S.edges e p n new (edge_known S e p g) in
    let rows = rows_follow S e p e.edge_id new e.edge_id g parts.numbers ∙ rows_stay S e p g in
    ap (λ T. step T (ModEdgeHeal e.edge_id new)) (mod_split S e p g)
    ∙ heal_is false S e p (parts_of S.edges e p n new) e.edge_id new g parts
    ∙ (λ i. Ok (record { drawing = record (healed_again S e p) { nodes = nodes i; edges = edges i; relations = rows i }; ids = the_node n ∷ the_edge e.edge_id ∷ [] }))

-- ---- a new edge comes in its place
new_split : (S : Drawing) (e : Edge) (p : Point) → Splits S e p
    → after S (NewEdgesSplit e.edge_id p) ≡ record (split_drawing S e.edge_id p (new_parts_of S.edges e p S.next_ids.node S.next_ids.edge) S.next_ids.edge (S.next_ids.edge + 1)) { next_ids = record (S.next_ids) { node = S.next_ids.node + 1; edge = S.next_ids.edge + 2 } }
new_split S e p g = ap (drawing_of S) (ap (λ o. split_edge true S o p) g.there ∙ ap (λ b. carried_out S (cond (not b) (Err NotOnEdge) (Ok (EdgeIsCutAnew e p)))) g.inside)

two_more : (n : ℕ) → n + 2 ≡ n + 1 + 1
two_more n = omega arith

new_parts : (S : Drawing) (e : Edge) (p : Point) → Splits S e p → HasParts S e p (new_parts_of S.edges e p S.next_ids.node S.next_ids.edge) S.next_ids.edge (S.next_ids.edge + 1)
new_parts S e p g =
    let known = edge_known S e p g in
    let n = S.next_ids.node in
    let new = S.next_ids.edge in
    record {
      numbers = record { differ = ne_eqb new (new + 1) (λ q. absurd (omega arith)); first = inr (omega arith); second = omega arith };
      first = new_first_at S.edges e p n new known;
      second = new_second_at S.edges e p n new known;
      come = λ z c. from_both S.edges e p n new (new + 1) z c;
    }

new_undone : (S : Drawing) (e : Edge) (p : Point) → Splits S e p
    → step (after S (NewEdgesSplit e.edge_id p)) (NewEdgeHeal S.next_ids.edge (S.next_ids.edge + 1)) ≡ Ok (record { drawing = healed_anew S e p; ids = the_edge (S.next_ids.edge + 2) ∷ the_node S.next_ids.node ∷ [] })
new_undone S e p g =
    let n = S.next_ids.node in
    let new = S.next_ids.edge in
    let es = new_parts_of S.edges e p n new in
    let parts = new_parts S e p g in
    let nodes = nodes_again S e p g in
    let front = new_parts_go S.edges e p n new (edge_known S e p g) in
    let line = parts_joined e e p n new (new + 1) (new + 2) in
    let rows = rows_follow S e p new (new + 1) (new + 2) g parts.numbers in
    let more = two_more new in
    let T = record (split_drawing S e.edge_id p es new (new + 1)) { next_ids = record (S.next_ids) { node = n + 1; edge = new + 2 } } in
    ap (λ U. step U (NewEdgeHeal new (new + 1))) (new_split S e p g)
    ∙ (λ i. step (record T { next_ids = record (S.next_ids) { node = n + 1; edge = more i } }) (NewEdgeHeal new (new + 1)))
    ∙ heal_is true S e p es new (new + 1) g parts
    ∙ (λ i. heal_new (record T { next_ids = record (S.next_ids) { node = n + 1; edge = sym more i } }) (first_part e n p new) (second_part e n p (new + 1)) n)
    ∙ (λ i. Ok (record { drawing = record (healed_anew S e p) { nodes = nodes i; edges = front i ++ line i ∷ []; relations = rows i }; ids = the_edge (new + 2) ∷ the_node n ∷ [] }))

-- ---- the law
found : (S : Drawing) (id : ℕ) (e : Edge) → edge_at S id ≡ Some e → Contains S.edges e × ((e.edge_id == id) ≡ true)
found S id e there = contains-found (λ (x : Edge). x.edge_id == id) e S.edges there

own_id : (S : Drawing) (id : ℕ) (e : Edge) (p : Point) → CanSplit S id e p → e.edge_id ≡ id
own_id S id e p g = eqb-true e.edge_id id (found S id e g.there).1

by_own_id : (S : Drawing) (id : ℕ) (e : Edge) (p : Point) → CanSplit S id e p → Splits S e p
by_own_id S id e p g = subst (λ k. CanSplit S k e p) (sym (own_id S id e p g)) g

line_proper : (S : Drawing) (id : ℕ) (e : Edge) (p : Point) → CanSplit S id e p → list_all is_proper (segments_of e.geom) ≡ true
line_proper S id e p g =
    let all = all_out (is_between_nodes S) S.edges e g.referenced.rings.rings.plain.plain.lines_fit (found S id e g.there).0 in
    (and_parts _ _ (and_parts _ _ all).0).0

line_stays : (S : Drawing) (id : ℕ) (e : Edge) (p : Point) → CanSplit S id e p → Contains e.geom p → with_vertex p e.geom ≡ e.geom
line_stays S id e p g c =
    let both = and_parts (on_line p e.geom) (not (is_line_end p e.geom)) g.inside in
    vertex_stays p e.geom (g.referenced.rings.rings.plain.plain.lines_simple e (found S id e g.there).0) both.0 (not_first p e.geom (not-true (is_line_end p e.geom) both.1)) c

pub heal_undoes_split : HealUndoesSplit
heal_undoes_split = record {
  same_edge = λ S id e p g.
      subst (λ k. step (after S (ModEdgeSplit k p)) (ModEdgeHeal k S.next_ids.edge) ≡ Ok (record { drawing = healed_again S e p; ids = the_node S.next_ids.node ∷ the_edge k ∷ [] }))
      (own_id S id e p g) (mod_undone S e p (by_own_id S id e p g));
  new_edge = λ S id e p g.
      subst (λ k. step (after S (NewEdgesSplit k p)) (NewEdgeHeal S.next_ids.edge (S.next_ids.edge + 1)) ≡ Ok (record { drawing = healed_anew S e p; ids = the_edge (S.next_ids.edge + 2) ∷ the_node S.next_ids.node ∷ [] }))
      (own_id S id e p g) (new_undone S e p (by_own_id S id e p g));
  same_points = λ S id e p q g. vertex_points p e.geom q (line_proper S id e p g) g.inside;
  same_line = λ S id e p g c. line_stays S id e p g c;
  same_drawing = λ S id e p g c.
      let same = edges_same S.edges e p S.next_ids.node S.next_ids.edge (edge_known S e p (by_own_id S id e p g)) (line_stays S id e p g c) in
      λ i. record (healed_again S e p) { edges = same i };
}
