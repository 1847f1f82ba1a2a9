-- An edge that is cut keeps a drawing one whose rings have one face each.
use Rattle.std.proofs.Common.{◌≡◌, ℕ, ◌+◌, refl, ap, cond, not, ◌==◌, eqb-true, eq-eqb, subst, List, [], ◌∷◌, ◌++◌}
use Rattle.std.specs.List.{Contains}
use Rattle.std.proofs.lemmas.Bool.{and_parts, false_from_ne_true}
use Rattle.std.proofs.lemmas.List.Elements.{Contains-push, Contains-append_left, Contains-append_right}
use Rattle.topo_base.specs.Point.{Point}
use Rattle.topo_base.specs.declared.rows.Counters.{Counters}
use Rattle.topo_base.specs.declared.rows.RelationRow.{RelationRow}
use Rattle.plane.specs.Line.{on_line, is_line_end}
use Rattle.plane.proofs.ListTests.{contains_here, contains_there}
use Rattle.drawing.specs.Drawing.{Drawing, Edge, edge_id_of}
use Rattle.drawing.specs.Rows.{without_row, with_change}
use Rattle.drawing.specs.SplitEdge.{first_part, second_part}
use Rattle.drawing.proofs.Members.{contains-map, ids_differ}
use Rattle.drawing.proofs.PlainSplits.{from_changed, from_both}
use Rattle.edit_changes.specs.Evidence.{EdgeMayBeCut}
use Rattle.edit_changes.proofs.PlainOthers.{cut_at}
use Rattle.edit_changes.proofs.PlainStaying.{has_plain}
use Rattle.face_rings.proofs.HalfLines.{HasPlainLines}
use Rattle.ring_laws.proofs.RingedDrawings.{AreRinged, IsBefore}
use Rattle.ring_laws.proofs.SplitSides.{IsSplitInto, split_with, split_joined, split_known}
use Rattle.ring_laws.proofs.Turning.{joined_of, rings_of}
use Rattle.ring_laws.proofs.WithoutEdge.{kept_edge}

-- ---- the edges with one changed
pub changed_there : (edges : List Edge) (n : ℕ) (change : Edge → Edge) (x : Edge) → Contains edges x → x.edge_id ≡ n → Contains (with_change edge_id_of edges n change) (change x)
changed_there edges n change x c is =
    subst (Contains (with_change edge_id_of edges n change)) (ap (λ t. cond t (change x) x) (eq-eqb x.edge_id n is)) (contains-map (λ (y : Edge). cond (edge_id_of y == n) (change y) y) x edges c)

pub unchanged_there : (edges : List Edge) (n : ℕ) (change : Edge → Edge) (x : Edge) → Contains edges x → (x.edge_id ≡ n → ⊥) → Contains (with_change edge_id_of edges n change) x
unchanged_there edges n change x c other =
    subst (Contains (with_change edge_id_of edges n change)) (ap (λ t. cond t (change x) x) (false_from_ne_true (x.edge_id == n) (λ t. other (eqb-true x.edge_id n t)))) (contains-map (λ (y : Edge). cond (edge_id_of y == n) (change y) y) x edges c)

-- ---- the edges with both parts
-- both are new
pub both_new : (S : Drawing) (e : Edge) (p : Point) → EdgeMayBeCut S e p → IsBefore S
    → IsSplitInto S e p S.next_ids.edge (S.next_ids.edge + 1) (without_row edge_id_of S.edges e.edge_id ++ first_part e S.next_ids.node p S.next_ids.edge ∷ second_part e S.next_ids.node p (S.next_ids.edge + 1) ∷ [])
both_new S e p k h =
    let one = first_part e S.next_ids.node p S.next_ids.edge in
    let two = second_part e S.next_ids.node p (S.next_ids.edge + 1) in
    let less = without_row edge_id_of S.edges e.edge_id in
    let cut = cut_at S e p (has_plain S h.ordered) k.there k.inside in
    record {
      there = k.there;
      from = λ x c. from_both S.edges e p S.next_ids.node S.next_ids.edge (S.next_ids.edge + 1) x c;
      old = λ x c other. Contains-append_left less (one ∷ two ∷ []) x (kept_edge S.edges e x c other);
      first = Contains-append_right less (one ∷ two ∷ []) one (contains_here one (two ∷ []));
      second = Contains-append_right less (one ∷ two ∷ []) two (contains_there two one (two ∷ []) (contains_here two []));
      on = (and_parts (on_line p e.geom) (not (is_line_end p e.geom)) k.inside).0;
      not_first = cut.not_first;
      not_last = cut.not_last;
    }

-- the edge becomes its first part
pub one_changed : (S : Drawing) (e : Edge) (p : Point) → EdgeMayBeCut S e p → IsBefore S
    → IsSplitInto S e p e.edge_id S.next_ids.edge (with_change edge_id_of S.edges e.edge_id (λ x. first_part x S.next_ids.node p x.edge_id) ++ second_part e S.next_ids.node p S.next_ids.edge ∷ [])
one_changed S e p k h =
    let two = second_part e S.next_ids.node p S.next_ids.edge in
    let change = λ (x : Edge). first_part x S.next_ids.node p x.edge_id in
    let changed = with_change edge_id_of S.edges e.edge_id change in
    let cut = cut_at S e p (has_plain S h.ordered) k.there k.inside in
    record {
      there = k.there;
      from = λ x c. from_changed S.edges e p S.next_ids.node S.next_ids.edge (ids_differ edge_id_of 0 S.next_ids.edge S.edges h.lines.edge_ids) k.there x c;
      old = λ x c other. Contains-append_left changed (two ∷ []) x (unchanged_there S.edges e.edge_id change x c other);
      first = Contains-append_left changed (two ∷ []) (change e) (changed_there S.edges e.edge_id change e k.there refl);
      second = Contains-push changed two;
      on = (and_parts (on_line p e.geom) (not (is_line_end p e.geom)) k.inside).0;
      not_first = cut.not_first;
      not_last = cut.not_last;
    }

-- ---- the rings
pub cut_ringed : (S : Drawing) (e : Edge) (p : Point) (id id' : ℕ) (fs : List Edge) (rows : List RelationRow) (ids : Counters) → IsBefore S → IsSplitInto S e p id id' fs → HasPlainLines (split_with S p fs rows ids) → AreRinged (split_with S p fs rows ids)
cut_ringed S e p id id' fs rows ids h split more = record {
  one_face = rings_of (split_with S p fs rows ids) more (split_joined S e p id id' fs rows ids h.ordered h.lines split more (joined_of S h.lines h.ringed.one_face));
  known = split_known S e p id id' fs rows ids h.ordered h.lines split h.ringed.known;
}
