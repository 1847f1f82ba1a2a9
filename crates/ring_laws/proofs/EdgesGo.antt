-- An edge that goes keeps a drawing one whose rings have one face each.
use Rattle.std.proofs.Common.{◌≡◌, ◌≢◌, ℕ, sym, ◌∙◌, subst, ⊎_elim, true, not, ◌==◌, List, [], ◌∷◌, ◌++◌}
use Rattle.topo_base.specs.declared.rows.Counters.{Counters}
use Rattle.drawing.specs.Drawing.{Drawing, Edge, edge_id_of, has_face}
use Rattle.drawing.specs.RemoveEdge.{renamed, without_faces}
use Rattle.drawing.proofs.PlainChanges.{edges_filtered}
use Rattle.edit_changes.specs.Evidence.{AreSides, EdgeMayGo, FacesMayJoin, LoneEdgeMayGo}
use Rattle.edit_changes.proofs.IdsOrdering.{InOrder-without}
use Rattle.edit_changes.proofs.PlainStaying.{has_plain}
use Rattle.face_rings.proofs.HalfLines.{HasPlainLines}
use Rattle.ring_laws.proofs.Known.{IsKnown}
use Rattle.ring_laws.proofs.KnownStays.{edge_goes, without_edge}
use Rattle.ring_laws.proofs.MergedSides.{AreMerged, lessened, merged_with, merged_rings, merged_known, none_merged, one_merged, both_merged, one_renamed, both_renamed}
use Rattle.ring_laws.proofs.RingedDrawings.{AreRinged, IsBefore, plain_lines}
use Rattle.ring_laws.proofs.Turning.{joined_of, rings_of}
use Rattle.ring_laws.proofs.WithoutEdge.{alone_of, was_edge, without_edge_joined}

pub lone_gone : (S : Drawing) (e : Edge) → LoneEdgeMayGo S e → IsBefore S → HasPlainLines (without_edge S e) → AreRinged (without_edge S e)
lone_gone S e k h more =
    let alone = alone_of S e k.lone in
    record {
      one_face = rings_of (without_edge S e) more (without_edge_joined S e h.lines k.there alone (joined_of S h.lines h.ringed.one_face));
      known = edge_goes S e h.lines k.there alone h.ringed.known;
    }

-- ---- an edge goes, and what was beside it is one face
less_lines : (S : Drawing) (e : Edge) → IsBefore S → HasPlainLines (lessened S e)
less_lines S e h =
    let plain = has_plain S h.ordered in
    plain_lines (lessened S e)
    (record { parts = edges_filtered (λ (r : Edge). not (edge_id_of r == e.edge_id)) S.nodes S.edges plain.parts; ids = plain.ids; edge_ids = InOrder-without edge_id_of 0 S.next_ids.edge S.edges e.edge_id plain.edge_ids })
    (λ x c. h.lines.long x (was_edge S.edges e x c).0)

merged_keeps : (S : Drawing) (e : Edge) (gone : List ℕ) (kept : ℕ) (faces : List ℕ) (ids : Counters) → IsBefore S → EdgeMayGo S e → renamed gone kept e.left_face ≡ renamed gone kept e.right_face → AreMerged S gone kept faces
    → HasPlainLines (merged_with S e gone kept faces ids) → AreRinged (merged_with S e gone kept faces ids)
merged_keeps S e gone kept faces ids h k same m more = record {
  one_face = merged_rings S e gone kept faces ids h.lines (less_lines S e h) k.there same (joined_of S h.lines h.ringed.one_face) more;
  known = merged_known S e gone kept faces ids h.lines k.there m h.ringed.known;
}

pub edge_gone : (S : Drawing) (e : Edge) → EdgeMayGo S e → e.left_face ≡ e.right_face → IsBefore S → HasPlainLines (merged_with S e [] e.left_face S.faces S.next_ids) → AreRinged (merged_with S e [] e.left_face S.faces S.next_ids)
edge_gone S e k same h more = merged_keeps S e [] e.left_face S.faces S.next_ids h k same (none_merged S e.left_face h.ringed.known.universe (h.ringed.known.sides e k.there).0) more

-- the face that is kept is the one on one side, and the one that goes is that on the other
pub record AreBeside (S : Drawing) (e : Edge) (kept goes : ℕ) : Type 0 where
  pub listed : has_face S kept ≡ true
  pub differ : goes ≢ kept
  pub same : renamed (goes ∷ []) kept e.left_face ≡ renamed (goes ∷ []) kept e.right_face

pub beside : (S : Drawing) (e : Edge) (kept goes : ℕ) → FacesMayJoin S e → AreSides e kept goes → IsKnown S → AreBeside S e kept goes
beside S e kept goes k sides known =
    let listed = known.sides e k.edge.there in
    let one = one_renamed goes kept in
    let on = λ (g : ℕ). renamed (goes ∷ []) kept g in
    ⊎_elim
    (λ (p : (kept ≡ e.left_face) × (goes ≡ e.right_face)). record {
      listed = subst (λ g. has_face S g ≡ true) (sym p.0) listed.0;
      differ = λ q. k.differ (sym p.0 ∙ sym q ∙ p.1);
      same = subst (λ g. on g ≡ on e.right_face) p.0 (subst (λ g. on kept ≡ on g) p.1 one);
    })
    (λ (p : (kept ≡ e.right_face) × (goes ≡ e.left_face)). record {
      listed = subst (λ g. has_face S g ≡ true) (sym p.0) listed.1;
      differ = λ q. k.differ (sym p.1 ∙ q ∙ p.0);
      same = sym (subst (λ g. on g ≡ on e.left_face) p.0 (subst (λ g. on kept ≡ on g) p.1 one));
    })
    sides

pub faces_joined : (S : Drawing) (e : Edge) (kept goes : ℕ) → FacesMayJoin S e → AreSides e kept goes → goes ≢ 0 → IsBefore S → HasPlainLines (merged_with S e (goes ∷ []) kept (without_faces S (goes ∷ [])) S.next_ids)
    → AreRinged (merged_with S e (goes ∷ []) kept (without_faces S (goes ∷ [])) S.next_ids)
faces_joined S e kept goes k sides some h more =
    let b = beside S e kept goes k sides h.ringed.known in
    merged_keeps S e (goes ∷ []) kept (without_faces S (goes ∷ [])) S.next_ids h k.edge b.same (one_merged S goes kept h.ringed.known.universe b.listed some b.differ) more

pub faces_joined_anew : (S : Drawing) (e : Edge) (ids : Counters) → EdgeMayGo S e → e.left_face ≢ 0 → e.right_face ≢ 0 → IsBefore S
    → HasPlainLines (merged_with S e (e.left_face ∷ e.right_face ∷ []) S.next_ids.face (without_faces S (e.left_face ∷ e.right_face ∷ []) ++ S.next_ids.face ∷ []) ids)
    → AreRinged (merged_with S e (e.left_face ∷ e.right_face ∷ []) S.next_ids.face (without_faces S (e.left_face ∷ e.right_face ∷ []) ++ S.next_ids.face ∷ []) ids)
faces_joined_anew S e ids k left right h more =
    let l = e.left_face in
    let r = e.right_face in
    let new = S.next_ids.face in
    merged_keeps S e (l ∷ r ∷ []) new _ ids h k (both_renamed l r new) (both_merged S l r new h.ringed.known.universe left right) more
