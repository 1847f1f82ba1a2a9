-- The row writes of the edits of isolated edges.
use Rattle.std.proofs.Common.{◌≡◌, ◌≢◌, ℕ, ◌+◌, ◌<◌, ◌^◌, ◌==◌, ◌&&◌, ◌||◌, List, [], ◌∷◌, ◌++◌, refl, sym, ap, ◌∙◌, subst, Option, Some, None, Ok, IsTrue, Bool, true, false, not, eqb, eqb-true, eq-eqb, map, unwrap_or, ⊎_elim}
use Rattle.std.specs.List.{list_any, flat_map, Contains}
use Rattle.std.specs.Option.{option_eq}
use Rattle.std.proofs.lemmas.Bool.{or_right, not-true}
use Rattle.topo_base.specs.Point.{Point}
use Rattle.topo_base.specs.declared.rows.NodeRow.{NodeRow}
use Rattle.topo_base.specs.declared.rows.Box4.{Box4}
use Rattle.topo_base.specs.declared.rows.EdgeRow.{EdgeRow}
use Rattle.topo_base.specs.declared.edit.Edit.TheVariants.{AddIsoEdge, RemoveIsoEdge}
use Rattle.topo_base.specs.declared.write.RowId.TheVariants.{Old}
use Rattle.topo_base.specs.declared.write.RowWrite.{RowWrite}
use Rattle.topo_base.specs.declared.write.RowWrite.TheVariants.{AddEdge, DropEdge, SetContaining}
use Rattle.drawing.specs.Blocked.{is_line_blocked, goes_between}
use Rattle.drawing.specs.Drawing.{Drawing, Edge, node_id_of, edge_id_of, node_at, edge_at, is_end_of, is_isolated, has_only, has_face}
use Rattle.drawing.specs.HalfEdge.{both_ways}
use Rattle.drawing.specs.IsoEdits.{with_edge, put_in_face, is_in_feature, is_isolated_edge}
use Rattle.plane.specs.Line.{is_simple}
use Rattle.drawing.specs.Outcome.{the_edge}
use Rattle.read_set.specs.Plans.{IsPlanFor}
use Rattle.drawing.specs.Relations.{edge_type}
use Rattle.drawing.specs.Rows.{has_row, without_row}
use Rattle.drawing.specs.Step.{step}
use Rattle.drawing.specs.Tables.{Tables, tables_of, edge_row, face_box}
use Rattle.drawing.specs.Writable.{has_face_row}
use Rattle.drawing.specs.Writes.{edge_row_id, all_written}
use Rattle.face_boxes.specs.Bounds.{box_with, box_write, other_write, without}
use Rattle.face_boxes.proofs.Boxes.{boxed, boxed_there, box_written, other_written, boxes_come, boxes_go, can_box, can_other}
use Rattle.iso_edits.proofs.IsolatedNodes.{face_there}
use Rattle.iso_edits.proofs.IsolatedLinks.{rows_comes, rows_goes}
use Rattle.drawing_queries.proofs.IsolatedTests.{found_id, found_there}
use Rattle.plane.proofs.ListTests.{contains_cases, contains_none}
use Rattle.drawing.proofs.Members.{contains-found, pairwise-same, ids_differ}
use Rattle.drawing.proofs.Ordering.{InOrder}
use Rattle.drawing.proofs.WritesInOrder.{can_write-append, written-append}
use Rattle.drawing.specs.AddEdge.{coming}
use Rattle.topo_tables.proofs.RowChanges.{has_changed}

-- a node that was found is there, also after other nodes' containing faces have changed
node_there : (S : Drawing) (n : ℕ) (node : NodeRow) → node_at S n ≡ Some node → IsTrue (has_row node_id_of S.nodes node.node_id)
node_there S n node found =
    subst (λ k. IsTrue (has_row node_id_of S.nodes k)) (sym (found_id node_id_of S.nodes n node found)) (found_there node_id_of S.nodes n node found)

still_there : (nodes : List NodeRow) (face : Option ℕ) (m n : ℕ) → IsTrue (has_row node_id_of nodes n) → IsTrue (has_row node_id_of (put_in_face face m nodes) n)
still_there nodes face m n there = has_changed node_id_of nodes m n (λ row. record row { containing_face = face }) (λ r. refl) ∙ there

-- the writes of the edge that comes
abbrev pub edge_writes : ℕ → ℕ → ℕ → ℕ → List Point → List RowWrite
edge_writes edge a b f line =
    AddEdge (Old edge) (Old a) (Old b) (record { edge = Old edge; forward = false }) (record { edge = Old edge; forward = true }) (Old f) (Old f) line
    ∷ SetContaining (Old b) None ∷ SetContaining (Old a) None ∷ []

pub edge_comes : (S : Drawing) (start end : ℕ) (a b : NodeRow) (line : List Point) (f : ℕ) (bounds : Option Box4) → has_face S f ≡ true → bounds ≡ box_with line (without S.next_ids.edge S) f
    → InOrder edge_id_of 0 S.next_ids.edge S.edges → S.next_ids.edge + 1 < 2 ^ 32
    → node_at S start ≡ Some a → node_at S end ≡ Some b → eqb a.node_id b.node_id ≡ false → is_isolated S a.node_id ≡ true → is_isolated S b.node_id ≡ true
    → step S (AddIsoEdge start end line) ≡ Ok (record { drawing = with_edge S a b line f; ids = the_edge S.next_ids.edge ∷ [] })
    → IsPlanFor S (AddIsoEdge start end line) (edge_writes S.next_ids.edge a.node_id b.node_id f line ++ box_write f bounds) (the_edge S.next_ids.edge ∷ [])
edge_comes S start end a b line f bounds listed is ordered fits found_a found_b differ lone_a lone_b done =
    let e = coming S a b line f in
    let n = S.next_ids in
    let T = with_edge S a b line f in
    let ws = edge_writes S.next_ids.edge a.node_id b.node_id f line in
    let there_a = node_there S start a found_a in
    let there_b = node_there S end b found_b in
    let face = face_there S f listed in
    let itself = or_right (has_row edge_row_id (tables_of S).edges S.next_ids.edge) (eqb S.next_ids.edge S.next_ids.edge) (eq-eqb S.next_ids.edge S.next_ids.edge refl) in
    let edges = rows_comes S.edges e (not-true (list_any (is_end_of a.node_id) S.edges) lone_a) (not-true (list_any (is_end_of b.node_id) S.edges) lone_b) differ in
    let faces = boxes_come S T e f bounds refl ordered refl refl is in
    let t = all_written n (tables_of S) ws in
    record {
      done = record { drawing = T; ids = the_edge S.next_ids.edge ∷ [] };
      accepted = done;
      named = refl;
      writable =
          can_write-append n (tables_of S) ws (box_write f bounds)
          (((refl, fits), there_a, there_b, itself, itself, face, face), ((there_b, tt), ((still_there S.nodes None b.node_id a.node_id there_a, tt), tt)))
          (can_box n t f bounds face);
      tables = written-append n (tables_of S) ws (box_write f bounds) ∙ box_written n t f bounds ∙ (λ i. record (tables_of T) { edges = edges i; faces = faces i });
    }

-- ---- the edge that goes
none_of : {X : Type 0} (p : X → Bool) (xs : List X) (x : X) → list_any p xs ≡ false → Contains xs x → p x ≡ false
none_of p [] x h c = absurd (contains_none x c)
none_of p (y ∷ xs) x h c =
    let both = neither (p y) (list_any p xs) h in
    ⊎_elim (λ (e : y ≡ x). subst (λ z. p z ≡ false) e both.0) (λ (k : Contains xs x). none_of p xs x both.1 k) (contains_cases x y xs c)
  where
    neither : (a b : Bool) → (a || b) ≡ false → (a ≡ false) × (b ≡ false)
    neither true b g = absurd cc
    neither false b g = (refl, g)

only_end : (S : Drawing) (n id : ℕ) (x : Edge) → has_only S n id id ≡ true → Contains S.edges x → eqb x.edge_id id ≡ false → is_end_of n x ≡ false
only_end S n id x only c other = end_only (is_end_of n x) (eqb x.edge_id id) other
    (none_of (λ (y : Edge). is_end_of n y && not (y.edge_id == id) && not (y.edge_id == id)) S.edges x (not-true (list_any (λ (y : Edge). is_end_of n y && not (y.edge_id == id) && not (y.edge_id == id)) S.edges) only) c)
  where
    end_only : (b same : Bool) → same ≡ false → (b && not same && not same) ≡ false → b ≡ false
    end_only false same e h = refl
    end_only true true e h = absurd cc
    end_only true false e h = h

-- the edge with its id is the only one
one_of_id : (S : Drawing) (e y : Edge) → InOrder edge_id_of 0 S.next_ids.edge S.edges → Contains S.edges e → Contains S.edges y → eqb y.edge_id e.edge_id ≡ true → y ≡ e
one_of_id S e y ordered ce cy same =
    let id : y.edge_id ≡ e.edge_id = eqb-true y.edge_id e.edge_id same in
    pairwise-same (λ (r s : Edge). edge_id_of r ≢ edge_id_of s) S.edges y e (ids_differ edge_id_of 0 S.next_ids.edge S.edges ordered) cy ce (λ f. f id) (λ f. f (sym id))

abbrev pub gone_writes : ℕ → ℕ → ℕ → ℕ → List RowWrite
gone_writes edge a b f = DropEdge (Old edge) ∷ SetContaining (Old b) (Some (Old f)) ∷ SetContaining (Old a) (Some (Old f)) ∷ []

has_mapped : (f : Edge → EdgeRow) (edges : List Edge) (n : ℕ) → ((x : Edge) → edge_row_id (f x) ≡ x.edge_id) → has_row edge_row_id (map f edges) n ≡ has_row edge_id_of edges n
has_mapped f [] n keeps = refl
has_mapped f (x ∷ edges) n keeps = ap (λ k. eqb k n || has_row edge_row_id (map f edges) n) (keeps x) ∙ ap (λ b. eqb x.edge_id n || b) (has_mapped f edges n keeps)

abbrev pub without_edge : Drawing → Edge → ℕ → Drawing
without_edge S e face =
    record S {
      nodes = put_in_face (Some face) e.start_node (put_in_face (Some face) e.end_node S.nodes);
      edges = without_row edge_id_of S.edges e.edge_id;
    }

pub edge_goes : (S : Drawing) (n : ℕ) (e : Edge) (left right : Option Box4) → has_face S e.left_face ≡ true → has_face S e.right_face ≡ true
    → left ≡ face_box (without e.edge_id S) e.left_face → right ≡ face_box (without e.edge_id S) e.right_face → InOrder edge_id_of 0 S.next_ids.edge S.edges → edge_at S n ≡ Some e
    → IsTrue (has_row node_id_of S.nodes e.start_node) → IsTrue (has_row node_id_of S.nodes e.end_node) → has_only S e.start_node e.edge_id e.edge_id ≡ true → has_only S e.end_node e.edge_id e.edge_id ≡ true
    → step S (RemoveIsoEdge n) ≡ Ok (record { drawing = without_edge S e e.left_face; ids = the_edge e.edge_id ∷ [] })
    → IsPlanFor S (RemoveIsoEdge n) (gone_writes e.edge_id e.start_node e.end_node e.left_face ++ (box_write e.left_face left ++ other_write e.left_face e.right_face right)) (the_edge e.edge_id ∷ [])
edge_goes S n e left right on_left on_right is_left is_right ordered found there_a there_b only_a only_b done =
    let next = S.next_ids in
    let l = e.left_face in
    let r = e.right_face in
    let T = without_edge S e l in
    let ws = gone_writes e.edge_id e.start_node e.end_node l in
    let here = (contains-found (λ (x : Edge). edge_id_of x == n) e S.edges found).0 in
    let face = face_there S l on_left in
    let there : IsTrue (has_row edge_id_of S.edges e.edge_id) = subst (λ k. IsTrue (has_row edge_id_of S.edges k)) (sym (found_id edge_id_of S.edges n e found)) (found_there edge_id_of S.edges n e found) in
    let only : (y : Edge) → Contains S.edges y → eqb y.edge_id e.edge_id ≡ true → y ≡ e = λ y c same. one_of_id S e y ordered here c same in
    let edges = rows_goes S.edges e only (λ x c other. (only_end S e.start_node e.edge_id x only_a c other, only_end S e.end_node e.edge_id x only_b c other)) in
    let faces = boxes_go S T e left right refl only is_left is_right in
    let t = all_written next (tables_of S) ws in
    let u : Tables = record t { faces = boxed l left t.faces } in
    let still : IsTrue (has_face_row (all_written next t (box_write l left)) r) =
    subst (λ (v : Tables). IsTrue (has_face_row v r)) (sym (box_written next t l left)) (boxed_there t.faces l r left ∙ face_there S r on_right) in
    record {
      done = record { drawing = T; ids = the_edge e.edge_id ∷ [] };
      accepted = done;
      named = refl;
      writable =
          can_write-append next (tables_of S) ws (box_write l left ++ other_write l r right)
          (has_mapped (edge_row (flat_map both_ways S.edges)) S.edges e.edge_id (λ x. refl) ∙ there, ((there_b, face), ((still_there S.nodes (Some l) e.end_node e.start_node there_a, face), tt)))
          (can_write-append next t (box_write l left) (other_write l r right) (can_box next t l left face) (can_other next (all_written next t (box_write l left)) l r right still));
      tables =
          written-append next (tables_of S) ws (box_write l left ++ other_write l r right)
          ∙ written-append next t (box_write l left) (other_write l r right)
          ∙ ap (λ (v : Tables). all_written next v (other_write l r right)) (box_written next t l left)
          ∙ other_written next u l r right
          ∙ (λ i. record (tables_of T) { edges = edges i; faces = faces i });
    }

-- ---- where no rule refuses
pub edge_comes_where : (S : Drawing) (start end : ℕ) (a b : NodeRow) (line : List Point) (f : ℕ) → node_at S start ≡ Some a → node_at S end ≡ Some b → eqb a.node_id b.node_id ≡ false
    → is_isolated S a.node_id ≡ true → is_isolated S b.node_id ≡ true → option_eq eqb a.containing_face b.containing_face ≡ true → goes_between a b line ≡ true → is_simple line ≡ true → is_line_blocked S line ≡ false
    → f ≡ unwrap_or a.containing_face 0
    → step S (AddIsoEdge start end line) ≡ Ok (record { drawing = with_edge S a b line f; ids = the_edge S.next_ids.edge ∷ [] })
edge_comes_where S start end a b line f found_a found_b differ lone_a lone_b within ends simple free face =
    subst (λ g. step S (AddIsoEdge start end line) ≡ Ok (record { drawing = with_edge S a b line g; ids = the_edge S.next_ids.edge ∷ [] })) (sym face)
    (rw (found_a, found_b, differ, lone_a, lone_b, within, ends, simple, free) refl)

pub edge_goes_where : (S : Drawing) (n : ℕ) (e : Edge) → edge_at S n ≡ Some e → is_isolated_edge S e ≡ true → is_in_feature S edge_type e.edge_id ≡ false
    → step S (RemoveIsoEdge n) ≡ Ok (record { drawing = without_edge S e e.left_face; ids = the_edge e.edge_id ∷ [] })
edge_goes_where S n e found isolated free = rw (found, isolated, free) refl
