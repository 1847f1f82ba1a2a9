-- Features follow faces that become one.
use Rattle.std.proofs.Common.{◌≡◌, ℕ, List, [], ◌∷◌, ◌++◌, append_assoc, append-nil, sym, ap, ◌∙◌}
use Rattle.topo_base.specs.declared.rows.RelationRow.{RelationRow}
use Rattle.drawing.specs.Relations.{face_type}
use Rattle.drawing.specs.Tables.{Tables, drawn}
use Rattle.relation_rows.specs.KnownRows.{KnowsRows}
use Rattle.relation_rows.proofs.MergedInto.{follow_none, follow_onward, knows_followed}
use Rattle.face_merge.specs.Merging.{one_by_one, with_relations}

pub knows_after : (t : Tables) (gone : List ℕ) (kept : ℕ) → KnowsRows t → KnowsRows (with_relations t gone kept)
knows_after t gone kept knows = knows_followed t face_type gone kept knows

-- one face more
one_more : (t : Tables) (done : List ℕ) (f kept : ℕ) → KnowsRows t → with_relations (with_relations t done kept) (f ∷ []) kept ≡ with_relations t (done ++ f ∷ []) kept
one_more t done f kept knows = ap (λ (rows : List RelationRow). record t { relations = rows }) (follow_onward (drawn t) face_type done f kept knows.layer knows.layers)

each_more : (t : Tables) (done gone : List ℕ) (kept : ℕ) → KnowsRows t → one_by_one (with_relations t done kept) gone kept ≡ with_relations t (done ++ gone) kept
each_more t done [] kept knows = ap (λ fs. with_relations t fs kept) (sym (append-nil done))
each_more t done (f ∷ gone) kept knows =
    ap (λ (u : Tables). one_by_one u gone kept) (one_more t done f kept knows)
    ∙ each_more t (done ++ f ∷ []) gone kept knows
    ∙ ap (λ fs. with_relations t fs kept) (append_assoc done (f ∷ []) gone)

none_yet : (t : Tables) (kept : ℕ) → KnowsRows t → t ≡ with_relations t [] kept
none_yet t kept knows = ap (λ (rows : List RelationRow). record t { relations = rows }) (sym (follow_none (drawn t) face_type kept knows.ascend))

-- face by face is all at once
pub all_at_once : (t : Tables) (gone : List ℕ) (kept : ℕ) → KnowsRows t → one_by_one t gone kept ≡ with_relations t gone kept
all_at_once t gone kept knows = ap (λ (u : Tables). one_by_one u gone kept) (none_yet t kept knows) ∙ each_more t [] gone kept knows
