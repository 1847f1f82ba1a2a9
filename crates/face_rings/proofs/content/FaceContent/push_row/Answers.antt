use Rattle.std.proofs.Common.{◌≡◌, sym, subst, true, ◌++◌, List}
use Rattle.std.specs.Prelude.{◌==◌}
use Rattle.std.proofs.lemmas.List.{append_assoc}
use Rattle.face_rings.specs.declared.content.BorderDart.{BorderDart}
use Rattle.face_rings.specs.Border.{darts_ascend}
use Rattle.face_rings.specs.RowBorder.{only_if, forward_dart, backward_dart}
use Rattle.face_rings.proofs.RowBorders.{front_ascends}
use Rattle.face_rings.proofs.content.FaceContent.push_row.Goals as goal

pub push_if-requires : goal.push_if-requires
push_if-requires c =
    let border = c.args.self.now in
    let row = c.args.row.now in
    let first = only_if (row.left_face == c.args.face) (forward_dart row) in
    let second = only_if (row.right_face == c.args.face) (backward_dart row) in
    subst (λ t. darts_ascend (border ++ only_if t (forward_dart row)) ≡ true) (sym c.eq.ensures)
    (front_ascends (border ++ first) second (subst (λ (bs : List BorderDart). darts_ascend bs ≡ true) (sym (append_assoc border first second)) c.requires))
