-- Faces that become one: what the stages of the draft leave.
use Rattle.std.proofs.Common.{◌≡◌, ℕ, List, IsTrue, refl, sym, ap, ◌∙◌, subst}
use Rattle.topo_base.specs.declared.rows.Counters.{Counters}
use Rattle.topo_base.specs.declared.rows.FaceRow.{FaceRow}
use Rattle.drawing.specs.Drawing.{Drawing, Edge}
use Rattle.drawing.specs.Tables.{Tables, drawn, face_box, tables_of}
use Rattle.drawing.specs.Writable.{has_face_row}
use Rattle.drawing.specs.Writes.{all_written}
use Rattle.relation_rows.specs.KnownRows.{KnowsRows}
use Rattle.relation_rows.proofs.MergedInto.{knows_rows}
use Rattle.face_merge.specs.declared.removed.Removed.{Removed}
use Rattle.face_merge.specs.Last.{last_writes}
use Rattle.face_merge.specs.Merge.{IsMerge, MayGo, begun, merged_in}
use Rattle.face_merge.specs.MergedSides.{IsLess, with_renamed}
use Rattle.face_merge.specs.Merging.{with_relations}
use Rattle.face_merge.proofs.MergedBoxes.{rows_written}
use Rattle.face_boxes.proofs.Boxes.{same_box}

-- ---- the edge has gone
pub less_of : (S : Drawing) (e : Edge) (row : ℕ → FaceRow) (fs : List ℕ) (ids : Counters) (r : Removed) (gone : List ℕ) (kept : ℕ) (t : Tables) → IsMerge S e row fs ids r gone kept t → IsLess S e r t
less_of S e row fs ids r gone kept t h = record {
  ids = h.ordered;
  edge = h.edge;
  rows = record { edges = ap (λ (u : Tables). u.edges) h.rows; nodes = ap (λ (u : Tables). u.nodes) h.rows };
}

-- ---- features are known, before and after sides follow
pub knows_renamed : (S : Drawing) (e : Edge) (row : ℕ → FaceRow) (fs : List ℕ) (ids : Counters) (r : Removed) (gone : List ℕ) (kept : ℕ) (t t1 : Tables) → IsMerge S e row fs ids r gone kept t
    → t1 ≡ with_renamed t S e gone kept → KnowsRows t1
knows_renamed S e row fs ids r gone kept t t1 h renamed =
    let is = renamed ∙ ap (λ (u : Tables). with_renamed u S e gone kept) h.rows in
    knows_rows S t1 h.references (ap (λ (u : Tables). u.relations) is) (ap (λ (u : Tables). u.features) is) (ap (λ (u : Tables). u.layers) is)

-- ---- the last writes
-- the tables on which they are made
abbrev pub followed : Tables → Drawing → Edge → List ℕ → ℕ → Tables
followed t S e gone kept = with_relations (with_renamed t S e gone kept) gone kept

pub closed : (S : Drawing) (e : Edge) (row : ℕ → FaceRow) (fs : List ℕ) (ids : Counters) (r : Removed) (gone : List ℕ) (kept : ℕ) (t : Tables) → IsMerge S e row fs ids r gone kept t
    → all_written (followed t S e gone kept).next_ids (followed t S e gone kept) (last_writes (followed t S e gone kept) kept gone) ≡ tables_of (merged_in S e gone kept fs ids)
closed S e row fs ids r gone kept t h =
    let U = merged_in S e gone kept fs ids in
    let u = followed (begun S e row fs ids) S e gone kept in
    ap (λ (v : Tables). all_written (followed v S e gone kept).next_ids (followed v S e gone kept) (last_writes (followed v S e gone kept) kept gone)) h.rows
    ∙ rows_written u.next_ids u U row gone fs kept (face_box (drawn u) kept) h.keeps (same_box U kept) refl

-- ---- the stages by their equations
pub record AreStages (S : Drawing) (e : Edge) (gone : List ℕ) (kept : ℕ) (t t1 t2 : Tables) : Type 0 where
  pub renamed : t1 ≡ with_renamed t S e gone kept
  pub followed : t2 ≡ with_relations t1 gone kept

stages_are : (S : Drawing) (e : Edge) (gone : List ℕ) (kept : ℕ) (t t1 t2 : Tables) → AreStages S e gone kept t t1 t2 → t2 ≡ followed t S e gone kept
stages_are S e gone kept t t1 t2 stages = stages.followed ∙ ap (λ (u : Tables). with_relations u gone kept) stages.renamed

pub closes : (S : Drawing) (e : Edge) (row : ℕ → FaceRow) (fs : List ℕ) (ids : Counters) (r : Removed) (gone : List ℕ) (kept : ℕ) (t t1 t2 t3 : Tables) → IsMerge S e row fs ids r gone kept t → AreStages S e gone kept t t1 t2
    → t3 ≡ all_written t2.next_ids t2 (last_writes t2 kept gone) → t3 ≡ tables_of (merged_in S e gone kept fs ids)
closes S e row fs ids r gone kept t t1 t2 t3 h stages made =
    made ∙ ap (λ (u : Tables). all_written u.next_ids u (last_writes u kept gone)) (stages_are S e gone kept t t1 t2 stages) ∙ closed S e row fs ids r gone kept t h

-- what is there stays there
pub there_still : (S : Drawing) (e : Edge) (row : ℕ → FaceRow) (fs : List ℕ) (ids : Counters) (r : Removed) (gone : List ℕ) (kept : ℕ) (t t1 t2 : Tables) → IsMerge S e row fs ids r gone kept t → AreStages S e gone kept t t1 t2
    → IsTrue (has_face_row t2 kept)
there_still S e row fs ids r gone kept t t1 t2 h stages = subst (λ (u : Tables). IsTrue (has_face_row u kept)) (sym (stages_are S e gone kept t t1 t2 stages)) h.there

pub may_go_still : (S : Drawing) (e : Edge) (row : ℕ → FaceRow) (fs : List ℕ) (ids : Counters) (r : Removed) (gone : List ℕ) (kept : ℕ) (t t1 t2 : Tables) → IsMerge S e row fs ids r gone kept t → AreStages S e gone kept t t1 t2
    → MayGo t2.faces gone
may_go_still S e row fs ids r gone kept t t1 t2 h stages = subst (λ (u : Tables). MayGo u.faces gone) (sym (stages_are S e gone kept t t1 t2 stages)) h.may_go
