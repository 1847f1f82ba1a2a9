-- The directions at the two ends of a line.
use Rattle.std.proofs.Common.{◌≡◌, ◌-◌, ◌≤◌, refl, sym, ◌∙◌, ap, arith, true, List, [], ◌∷◌, length, get_or, ℤ, pos, ◌-ℤ◌}
use Rattle.std.specs.Prelude.{reverse}
use Rattle.std.specs.List.{list_all}
use Rattle.std.proofs.lemmas.Bool.{and_parts}
use Rattle.std.proofs.lemmas.Bool.Decides.{Decides-not}
use Rattle.std.proofs.lemmas.List.{get_or-reverse, get_or_default, length-reverse}
use Rattle.topo_base.specs.Point.{Point, same_point}
use Rattle.plane.specs.Direction.{first_direction, direction_to, IsNotZero}
use Rattle.plane.specs.Relation.{SameCoordinates}
use Rattle.plane.proofs.Ring.{signed}
use Rattle.plane.specs.Line.{segments_of, is_proper}
use Rattle.plane.proofs.PointTests.{Decides-same_point}
use Rattle.plane.proofs.LineTurns.{reverse_proper}
use Rattle.plane.proofs.SegmentParts.{segment}

-- the first two vertices of a line
first_two : (l : List Point) (d : Point) → 2 ≤ length l → first_direction l ≡ direction_to (get_or l 0 d) (get_or l 1 d)
first_two [] d h = absurd (omega arith)
first_two (p ∷ []) d h = absurd (omega arith)
first_two (p ∷ q ∷ ps) d h = refl

first_differ : (l : List Point) (d : Point) → 2 ≤ length l → list_all is_proper (segments_of l) ≡ true → get_or l 0 d ≡ get_or l 1 d → ⊥
first_differ [] d h proper e = absurd (omega arith)
first_differ (p ∷ []) d h proper e = absurd (omega arith)
first_differ (p ∷ q ∷ ps) d h proper e =
    let here = (and_parts (is_proper (segment p q)) (list_all is_proper (segments_of (q ∷ ps))) proper).0 in
    (Decides-not (same_point p q) (Decides-same_point p q)).0 here (ap (λ (r : Point). r.x) e, ap (λ (r : Point). r.y) e)

-- the last two vertices are those of the line walked back
pub last_two : (l : List Point) (a b : Point) → 2 ≤ length l → a ≡ get_or l (length l - 1) a → b ≡ get_or l (length l - 1 - 1) b → first_direction (reverse l) ≡ direction_to a b
last_two l a b h ea eb =
    let long : 2 ≤ length (reverse l) = omega (arith, length-reverse l) in
    first_two (reverse l) a long
    ∙ ap (λ p. direction_to p (get_or (reverse l) 1 a)) (get_or-reverse l 0 a (omega arith) ∙ ap (λ n. get_or l n a) (omega arith) ∙ sym ea)
    ∙ ap (λ p. direction_to a p) (get_or-reverse l 1 a (omega arith) ∙ get_or_default l (length l - 1 - 1) a b (omega arith) ∙ sym eb)

pub last_differ : (l : List Point) (a b : Point) → 2 ≤ length l → list_all is_proper (segments_of l) ≡ true → a ≡ get_or l (length l - 1) a → b ≡ get_or l (length l - 1 - 1) b → a ≡ b → ⊥
last_differ l a b h proper ea eb e =
    let long : 2 ≤ length (reverse l) = omega (arith, length-reverse l) in
    first_differ (reverse l) a long (reverse_proper l proper)
    (get_or-reverse l 0 a (omega arith) ∙ ap (λ n. get_or l n a) (omega arith) ∙ sym ea ∙ e ∙ eb
    ∙ get_or_default l (length l - 1 - 1) b a (omega arith) ∙ sym (get_or-reverse l 1 a (omega arith)))

-- neither direction of a line is zero
apart_points : (p q : Point) → (SameCoordinates p q → ⊥) → IsNotZero (direction_to p q)
apart_points p q differ ex ey = differ (same p.x q.x ex, same p.y q.y ey)
  where
    same : (a b : ℤ) → b -ℤ a ≡ pos 0 → a ≡ b
    same a b e = omega (arith, signed)

pub first_some : (l : List Point) → 2 ≤ length l → list_all is_proper (segments_of l) ≡ true → IsNotZero (first_direction l)
first_some [] h proper = absurd (omega arith)
first_some (p ∷ []) h proper = absurd (omega arith)
first_some (p ∷ q ∷ ps) h proper =
    let here = (and_parts (is_proper (segment p q)) (list_all is_proper (segments_of (q ∷ ps))) proper).0 in
    apart_points p q ((Decides-not (same_point p q) (Decides-same_point p q)).0 here)

pub last_some : (l : List Point) → 2 ≤ length l → list_all is_proper (segments_of l) ≡ true → IsNotZero (first_direction (reverse l))
last_some l h proper = first_some (reverse l) (omega (arith, length-reverse l)) (reverse_proper l proper)
