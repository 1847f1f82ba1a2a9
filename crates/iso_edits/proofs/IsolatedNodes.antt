-- The row writes of the edits of isolated nodes.
use Rattle.std.proofs.Common.{◌≡◌, ◌∙◌, ℕ, map, cond, ◌+◌, ◌<◌, ◌^◌, ◌==◌, ◌&&◌, ◌||◌, List, [], ◌∷◌, refl, sym, ap, subst, Option, Some, None, Ok, IsTrue, Bool, true, false, not, eqb, eq-eqb, unwrap_or}
use Rattle.std.specs.List.{find, list_any}
use Rattle.std.proofs.lemmas.Bool.{or_left, or_right}
use Rattle.std.specs.Option.{option_eq}
use Rattle.topo_base.specs.Point.{Point}
use Rattle.topo_base.specs.declared.rows.NodeRow.{NodeRow}
use Rattle.topo_base.specs.declared.edit.Edit.TheVariants.{AddIsoNode, MoveIsoNode, RemoveIsoNode}
use Rattle.topo_base.specs.declared.write.RowId.TheVariants.{Old}
use Rattle.topo_base.specs.declared.write.RowWrite.TheVariants.{AddNode, SetPoint, DropNode}
use Rattle.drawing.specs.Drawing.{Drawing, node_id_of, node_at, is_isolated, has_face}
use Rattle.drawing.specs.Outcome.{the_node}
use Rattle.drawing.specs.Blocked.{is_blocked, is_blocked_for}
use Rattle.drawing.specs.Faces.{face_at, is_in_face}
use Rattle.drawing.specs.IsoEdits.{accepts_face, is_given_face, is_in_feature, with_node, put_at}
use Rattle.drawing.specs.Relations.{node_type}
use Rattle.drawing.specs.Rows.{has_row, without_row}
use Rattle.drawing.specs.Step.{step}
use Rattle.drawing.specs.Tables.{tables_of, face_row}
use Rattle.drawing.specs.Writable.{has_face_row}
use Rattle.drawing.specs.Writes.{face_row_id}
use Rattle.read_set.specs.Plans.{IsPlanFor}
use Rattle.drawing_queries.proofs.IsolatedTests.{found_id, found_there}

-- a face that is listed has its row
pub has_face_row_is : (S : Drawing) (fs : List ℕ) (f : ℕ) → has_row face_row_id (map (face_row S) fs) f ≡ list_any (λ g. g == f) fs
has_face_row_is S [] f = refl
has_face_row_is S (g ∷ fs) f = ap (λ b. eqb g f || b) (has_face_row_is S fs f)

pub face_there : (S : Drawing) (f : ℕ) → has_face S f ≡ true → IsTrue (has_face_row (tables_of S) f)
face_there S f there = has_face_row_is S S.faces f ∙ there

-- the face of a point is listed
find_there : (test : ℕ → Bool) (fs : List ℕ) (f : ℕ) → find test fs ≡ Some f → list_any (λ g. g == f) fs ≡ true
find_there test [] f found = absurd cc
find_there test (x ∷ fs) f found = by (test x) found (find_there test fs f)
  where
    by : (b : Bool) → cond b (Some x) (find test fs) ≡ Some f → (find test fs ≡ Some f → list_any (λ g. g == f) fs ≡ true) → (eqb x f || list_any (λ g. g == f) fs) ≡ true
    by true e rest = let same : x ≡ f = cc in or_left (eqb x f) (list_any (λ g. g == f) fs) (eq-eqb x f same)
    by false e rest = or_right (eqb x f) (list_any (λ g. g == f) fs) (rest e)

pub face_listed : (S : Drawing) (p : Point) → has_face S 0 ≡ true → has_face S (face_at S p) ≡ true
face_listed S p universe = by (find (λ f. not (f == 0) && is_in_face S f p) S.faces) refl
  where
    by : (o : Option ℕ) → find (λ f. not (f == 0) && is_in_face S f p) S.faces ≡ o → has_face S (unwrap_or o 0) ≡ true
    by None e = universe
    by (Some f) e = find_there (λ f. not (f == 0) && is_in_face S f p) S.faces f e

-- a node comes
pub node_comes : (S : Drawing) (face : Option ℕ) (p : Point) (f : ℕ) → has_face S f ≡ true → S.next_ids.node + 1 < 2 ^ 32
    → step S (AddIsoNode face p) ≡ Ok (record { drawing = with_node S (Some f) p; ids = the_node S.next_ids.node ∷ [] })
    → IsPlanFor S (AddIsoNode face p) (AddNode (Old S.next_ids.node) (Some (Old f)) p ∷ []) (the_node S.next_ids.node ∷ [])
node_comes S face p f there fits done = record {
  done = record { drawing = with_node S (Some f) p; ids = the_node S.next_ids.node ∷ [] };
  accepted = done;
  named = refl;
  writable = (((refl, fits), face_there S f there), tt);
  tables = refl;
}

-- a node moves
pub node_moves : (S : Drawing) (n : ℕ) (node : NodeRow) (p : Point) → node_at S n ≡ Some node
    → step S (MoveIsoNode n p) ≡ Ok (record { drawing = record S { nodes = put_at p node.node_id S.nodes }; ids = the_node node.node_id ∷ [] })
    → IsPlanFor S (MoveIsoNode n p) (SetPoint (Old node.node_id) p ∷ []) (the_node node.node_id ∷ [])
node_moves S n node p found done =
    let there : IsTrue (has_row node_id_of S.nodes node.node_id) =
    subst (λ k. IsTrue (has_row node_id_of S.nodes k)) (sym (found_id node_id_of S.nodes n node found)) (found_there node_id_of S.nodes n node found) in
    record {
      done = record { drawing = record S { nodes = put_at p node.node_id S.nodes }; ids = the_node node.node_id ∷ [] };
      accepted = done;
      named = refl;
      writable = (there, tt);
      tables = refl;
    }

-- a node goes
pub node_goes : (S : Drawing) (n : ℕ) (node : NodeRow) → node_at S n ≡ Some node
    → step S (RemoveIsoNode n) ≡ Ok (record { drawing = record S { nodes = without_row node_id_of S.nodes node.node_id }; ids = the_node node.node_id ∷ [] })
    → IsPlanFor S (RemoveIsoNode n) (DropNode (Old node.node_id) ∷ []) (the_node node.node_id ∷ [])
node_goes S n node found done =
    let there : IsTrue (has_row node_id_of S.nodes node.node_id) =
    subst (λ k. IsTrue (has_row node_id_of S.nodes k)) (sym (found_id node_id_of S.nodes n node found)) (found_there node_id_of S.nodes n node found) in
    record {
      done = record { drawing = record S { nodes = without_row node_id_of S.nodes node.node_id }; ids = the_node node.node_id ∷ [] };
      accepted = done;
      named = refl;
      writable = (there, tt);
      tables = refl;
    }

-- ---- where no rule refuses
pub node_comes_where : (S : Drawing) (face : Option ℕ) (p : Point) (f : ℕ) → f ≡ face_at S p → accepts_face S face ≡ true → is_blocked S p ≡ false → is_given_face face f ≡ true
    → step S (AddIsoNode face p) ≡ Ok (record { drawing = with_node S (Some f) p; ids = the_node S.next_ids.node ∷ [] })
node_comes_where S face p f within accepts free given =
    subst (λ g. step S (AddIsoNode face p) ≡ Ok (record { drawing = with_node S (Some g) p; ids = the_node S.next_ids.node ∷ [] })) (sym within)
    (rw (accepts, free, ap (is_given_face face) (sym within) ∙ given) refl)

pub node_moves_where : (S : Drawing) (n : ℕ) (node : NodeRow) (p : Point) → node_at S n ≡ Some node → is_isolated S node.node_id ≡ true → is_blocked_for S node.node_id p ≡ false
    → option_eq eqb node.containing_face (Some (face_at S p)) ≡ true
    → step S (MoveIsoNode n p) ≡ Ok (record { drawing = record S { nodes = put_at p node.node_id S.nodes }; ids = the_node node.node_id ∷ [] })
node_moves_where S n node p found isolated free within = rw (found, isolated, free, within) refl

pub node_goes_where : (S : Drawing) (n : ℕ) (node : NodeRow) → node_at S n ≡ Some node → is_isolated S node.node_id ≡ true → is_in_feature S node_type node.node_id ≡ false
    → step S (RemoveIsoNode n) ≡ Ok (record { drawing = record S { nodes = without_row node_id_of S.nodes node.node_id }; ids = the_node node.node_id ∷ [] })
node_goes_where S n node found isolated free = rw (found, isolated, free) refl
