-- Isolated nodes that come, move and go.
use Rattle.std.proofs.Common.{◌≡◌, ◌≢◌, ℕ, refl, sym, ◌∙◌, ap, subst, ⊎_elim, Bool, true, false, not, cond, ◌==◌, nat_eq, Option, Some, None}
use Rattle.std.specs.Option.{option_eq}
use Rattle.std.specs.List.{Contains}
use Rattle.std.proofs.lemmas.Bool.{eqb-true}
use Rattle.std.proofs.lemmas.List.Elements.{Contains-push_cases}
use Rattle.topo_base.specs.Point.{Point}
use Rattle.topo_base.specs.declared.rows.NodeRow.{NodeRow}
use Rattle.drawing.specs.Drawing.{Drawing, node_id_of}
use Rattle.drawing.specs.Faces.{face_at}
use Rattle.drawing.specs.IsoEdits.{with_node, put_at}
use Rattle.drawing.specs.Rows.{without_row}
use Rattle.plane.proofs.ListTests.{some_same}
use Rattle.drawing.proofs.Members.{contains-mapped, contains-filtered, pairwise-same}
use Rattle.edit_changes.specs.Evidence.{NodeMayCome, NodeMayMove}
use Rattle.face_rings.proofs.FaceBorders.{has_plain_lines}
use Rattle.face_laws.specs.Covered.{IsInFaceOf, IsCovered}
use Rattle.face_laws.proofs.Covering.{sides_of, point_placed}
use Rattle.subdivision_laws.proofs.Covers.{Covers}

pub node_more : (S : Drawing) (face : ℕ) (p : Point) → NodeMayCome S face p → IsCovered S → Covers (with_node S (Some face) p)
node_more S face p k c = record {
  sided = c.sided;
  shells = c.shells;
  outer = c.outer;
  placed = λ n f i e.
      ⊎_elim
      (λ (old : Contains S.nodes n). c.placed n f old e)
      (λ (new : record { node_id = S.next_ids.node; containing_face = Some face; geom = p } ≡ n). at_new n f new e)
      (Contains-push_cases S.nodes (record { node_id = S.next_ids.node; containing_face = Some face; geom = p }) n i);
}
  where
    at_new : (n : NodeRow) (f : ℕ) → record { node_id = S.next_ids.node; containing_face = Some face; geom = p } ≡ n → n.containing_face ≡ Some f → IsInFaceOf S n.geom f
    at_new n f new e =
        subst (λ (q : Point). IsInFaceOf S q f) (ap (λ (m : NodeRow). m.geom) new)
        (subst (IsInFaceOf S p) (k.lies ∙ some_same face f (ap (λ (m : NodeRow). m.containing_face) new ∙ e)) (point_placed S p (sides_of S c)))

pub same_face : (o : Option ℕ) (g : ℕ) → option_eq nat_eq o (Some g) ≡ true → o ≡ Some g
same_face None g e = cc
same_face (Some f) g e = ap (λ k. Some k) (eqb-true f g e)

-- one node has an id
one_node : (S : Drawing) (n m : NodeRow) → IsCovered S → Contains S.nodes n → Contains S.nodes m → (node_id_of m == n.node_id) ≡ true → m ≡ n
one_node S n m c i j e =
    pairwise-same (λ r s. node_id_of r ≢ node_id_of s) S.nodes m n (has_plain_lines S c.ringed.rings).node_ids j i
    (λ differ. differ (eqb-true m.node_id n.node_id e))
    (λ differ. differ (sym (eqb-true m.node_id n.node_id e)))

pub node_elsewhere : (S : Drawing) (n : NodeRow) (p : Point) → NodeMayMove S n p → IsCovered S → Covers (record S { nodes = put_at p n.node_id S.nodes })
node_elsewhere S n p k c = record {
  sided = c.sided;
  shells = c.shells;
  outer = c.outer;
  placed = λ m f i e. let r = contains-mapped (λ (row : NodeRow). cond (node_id_of row == n.node_id) (record row { geom = p }) row) m S.nodes i in moved m f r.0 r.1.0 r.1.1 e;
}
  where
    moved : (m : NodeRow) (f : ℕ) (row : NodeRow) → Contains S.nodes row → cond (node_id_of row == n.node_id) (record row { geom = p }) row ≡ m → m.containing_face ≡ Some f → IsInFaceOf S m.geom f
    moved m f row i is e = by_test (node_id_of row == n.node_id) refl is
      where
        by_test : (b : Bool) → (node_id_of row == n.node_id) ≡ b → cond b (record row { geom = p }) row ≡ m → IsInFaceOf S m.geom f
        by_test true t is = subst (λ (q : Point). IsInFaceOf S q f) (ap (λ (x : NodeRow). x.geom) is) (subst (IsInFaceOf S p) (some_same (face_at S p) f (sym k.lies ∙ ap (λ (x : NodeRow). x.containing_face) (sym (one_node S n row c k.there i t)) ∙ ap (λ (x : NodeRow). x.containing_face) is ∙ e)) (point_placed S p (sides_of S c)))
        by_test false t is = subst (λ (q : Point). IsInFaceOf S q f) (ap (λ (x : NodeRow). x.geom) is) (c.placed row f i (ap (λ (x : NodeRow). x.containing_face) is ∙ e))

pub node_less : (S : Drawing) (n : NodeRow) → IsCovered S → Covers (record S { nodes = without_row node_id_of S.nodes n.node_id })
node_less S n c = record {
  sided = c.sided;
  shells = c.shells;
  outer = c.outer;
  placed = λ m f i e. c.placed m f (contains-filtered (λ (row : NodeRow). not (node_id_of row == n.node_id)) m S.nodes i).0 e;
}
