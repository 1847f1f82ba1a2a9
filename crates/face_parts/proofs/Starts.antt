-- The vertices from which darts leave.
use Rattle.std.proofs.Common.{◌≡◌, ◌-◌, ◌<◌, ◌≤◌, refl, sym, ◌∙◌, ap, arith, List, [], ◌∷◌, length, get_or}
use Rattle.std.specs.Prelude.{reverse}
use Rattle.std.proofs.lemmas.List.{get_or-reverse, length-reverse}
use Rattle.topo_base.specs.Point.{Point}
use Rattle.plane.specs.Line.{first_vertex, last_vertex}
use Rattle.plane.proofs.LineTurns.{first-reverse}

first_read : (l : List Point) (p : Point) → 0 < length l → first_vertex l ≡ get_or l 0 p
first_read [] p h = absurd (omega arith)
first_read (a ∷ l) p h = refl

pub last_read : (l : List Point) (p : Point) → 2 ≤ length l → p ≡ get_or l (length l - 1) p → p ≡ last_vertex l
last_read l p h is =
    is
    ∙ sym (get_or-reverse l 0 p (omega arith) ∙ ap (λ n. get_or l n p) (omega arith))
    ∙ sym (first_read (reverse l) p (omega (arith, length-reverse l)))
    ∙ first-reverse l
