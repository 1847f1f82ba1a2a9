use Rattle.std.proofs.Common.{◌≡◌, drop}
use Rattle.drawing.specs.Drawing.{Drawing}
use Rattle.read_set.specs.Drafted.{IsDraftOf}
use Rattle.relation_rows.specs.KnownRows.{KnowsRows}
use Rattle.face_merge.specs.Merging.{one_by_one}
use Rattle.face_merge.proofs.following.follow_each.Given as goal

-- following the faces to come leaves what following all leaves
abbrev pub invariant-loop-face : goal.invariant-loop-face
invariant-loop-face g l = record {
  rest : one_by_one l.draft.rows (drop l.face-index l.gone) l.kept ≡ one_by_one l.fn.draft.rows l.gone l.kept;
  knows : KnowsRows l.draft.rows;
  drafted : (S : Drawing) → IsDraftOf S l.fn.draft → IsDraftOf S l.draft;
}
