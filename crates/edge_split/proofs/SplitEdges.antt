-- The edges of a drawing in which one is split.
use Rattle.std.proofs.Common.{◌≡◌, ◌+◌, refl, sym, ◌∙◌, ap, subst, true, false, not, cond, [], ◌∷◌, Err, Ok}
use Rattle.std.specs.List.{Contains}
use Rattle.topo_base.specs.Point.{Point}
use Rattle.topo_base.specs.declared.edit.Edit.TheVariants.{ModEdgeSplit, NewEdgesSplit}
use Rattle.topo_base.specs.declared.rule.Rule.TheVariants.{NotOnEdge}
use Rattle.topo_base.specs.declared.rows.EdgeRow.{EdgeRow}
use Rattle.drawing.specs.Drawing.{Drawing, Edge, edge_at}
use Rattle.drawing.specs.HalfEdge.{half_edges}
use Rattle.plane.specs.Line.{is_inside_line}
use Rattle.drawing.specs.Relations.{edge_type, follow}
use Rattle.drawing.specs.Replay.{drawing_of}
use Rattle.drawing.specs.Edits.{split_edge}
use Rattle.drawing.specs.Tables.{drawn_edge, edge_row}
use Rattle.drawing.specs.Apply.{Decision, carried_out}
use Rattle.drawing.specs.Change.{EdgeIsCut, EdgeIsCutAnew}
use Rattle.drawing.proofs.Members.{contains-mapped}
use Rattle.face_rings.proofs.FaceBorders.{has_plain_lines}
use Rattle.ring_laws.specs.Ringed.{IsRinged}
use Rattle.ring_laws.proofs.RingsStaying.{rings_stay}
use Rattle.ring_laws.proofs.EdgesCut.{one_changed, both_new}
use Rattle.ring_laws.proofs.RingedDrawings.{before_of}
use Rattle.drawing.specs.SplitEdge.{split_mod_done, split_new_done}
use Rattle.edge_split.specs.Splitting.{IsCut, mod_edges, new_edges}
use Rattle.edge_split.proofs.SplitLinks.{IsSplitOf}

-- the edge that is split
abbrev pub cut_edge : EdgeRow → Edge
cut_edge r = drawn_edge r

pub cut_there : (S : Drawing) (r : EdgeRow) (p : Point) → IsCut S r p → Contains S.edges (drawn_edge r)
cut_there S r p h = let (e, (c, is)) = contains-mapped (edge_row (half_edges S)) r S.edges h.there in subst (Contains S.edges) (ap drawn_edge is) c

pub cut_row : (S : Drawing) (r : EdgeRow) (p : Point) → IsCut S r p → r ≡ edge_row (half_edges S) (drawn_edge r)
cut_row S r p h = let (e, (c, is)) = contains-mapped (edge_row (half_edges S)) r S.edges h.there in sym is ∙ ap (λ (q : EdgeRow). edge_row (half_edges S) (drawn_edge q)) is

-- ---- the edit is accepted
inside_else : (S : Drawing) (e : Edge) (p : Point) (d : Decision) → is_inside_line p e.geom ≡ true → carried_out S (cond (not (is_inside_line p e.geom)) (Err NotOnEdge) d) ≡ carried_out S d
inside_else S e p d is = ap (λ b. carried_out S (cond (not b) (Err NotOnEdge) d)) is

pub mod_accepted : (S : Drawing) (r : EdgeRow) (p : Point) → IsCut S r p → drawing_of S (split_edge false S (edge_at S r.edge_id) p) ≡ (split_mod_done S (drawn_edge r) p).drawing
mod_accepted S r p h = ap (λ o. drawing_of S (split_edge false S o p)) h.named ∙ ap (drawing_of S) (inside_else S (drawn_edge r) p (Ok (EdgeIsCut (drawn_edge r) p)) h.inside)

pub new_accepted : (S : Drawing) (r : EdgeRow) (p : Point) → IsCut S r p → drawing_of S (split_edge true S (edge_at S r.edge_id) p) ≡ (split_new_done S (drawn_edge r) p).drawing
new_accepted S r p h = ap (λ o. drawing_of S (split_edge true S o p)) h.named ∙ ap (drawing_of S) (inside_else S (drawn_edge r) p (Ok (EdgeIsCutAnew (drawn_edge r) p)) h.inside)

-- ---- both drawings are plain
pub mod_is : (S : Drawing) (r : EdgeRow) (p : Point) → IsRinged S → IsCut S r p
    → IsSplitOf S (drawn_edge r) p r.edge_id S.next_ids.edge (mod_edges S (drawn_edge r) p) (follow S edge_type (r.edge_id ∷ []) (r.edge_id ∷ S.next_ids.edge ∷ [])) (split_mod_done S (drawn_edge r) p).drawing.next_ids
mod_is S r p ringed h =
    let good = has_plain_lines S ringed.rings in
    let after : IsRinged (split_mod_done S (drawn_edge r) p).drawing = subst IsRinged (mod_accepted S r p h) (rings_stay.each_edit S (ModEdgeSplit r.edge_id p) refl ringed) in
    record {
      ordered = ringed.rings.plain;
      lines = good;
      split = one_changed S (drawn_edge r) p (record { there = cut_there S r p h; inside = h.inside }) (before_of S ringed);
      more = has_plain_lines (split_mod_done S (drawn_edge r) p).drawing after.rings;
    }

pub new_is : (S : Drawing) (r : EdgeRow) (p : Point) → IsRinged S → IsCut S r p
    → IsSplitOf S (drawn_edge r) p S.next_ids.edge (S.next_ids.edge + 1) (new_edges S (drawn_edge r) p) (follow S edge_type (r.edge_id ∷ []) (S.next_ids.edge ∷ (S.next_ids.edge + 1) ∷ [])) (split_new_done S (drawn_edge r) p).drawing.next_ids
new_is S r p ringed h =
    let good = has_plain_lines S ringed.rings in
    let after : IsRinged (split_new_done S (drawn_edge r) p).drawing = subst IsRinged (new_accepted S r p h) (rings_stay.each_edit S (NewEdgesSplit r.edge_id p) refl ringed) in
    record {
      ordered = ringed.rings.plain;
      lines = good;
      split = both_new S (drawn_edge r) p (record { there = cut_there S r p h; inside = h.inside }) (before_of S ringed);
      more = has_plain_lines (split_new_done S (drawn_edge r) p).drawing after.rings;
    }
