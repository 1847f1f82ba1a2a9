-- The directions in which a line leaves its ends.
use Rattle.std.proofs.Common.{◌≡◌, ◌∙◌, ◌-◌, ◌≤◌, ℤ, pos, ◌-ℤ◌, cond, List, [], ◌∷◌, length, get_or, sym, ap, arith, int_eq}
use Rattle.std.specs.Prelude.{reverse}
use Rattle.std.proofs.lemmas.Bool.{and_from}
use Rattle.std.proofs.lemmas.Bool.Decides.{Decides-int_eq}
use Rattle.std.proofs.lemmas.List.{get_or-reverse, length-reverse}
use Rattle.topo_base.specs.Point.{Point}
use Rattle.plane.specs.Direction.{direction_to, first_direction, straight_up}
use Rattle.plane.proofs.Ring.{signed}
use Rattle.validate_topology.specs.Following.{some_direction}

no_way : (a b : ℤ) → a ≡ b → b -ℤ a ≡ pos 0
no_way a b e = omega (arith, signed)

pub same_up : (p q : Point) → p ≡ q → straight_up ≡ some_direction (direction_to p q)
same_up p q e =
    let x = no_way p.x q.x (ap (λ (r : Point). r.x) e) in
    let y = no_way p.y q.y (ap (λ (r : Point). r.y) e) in
    sym (ap (λ b. cond b straight_up (direction_to p q)) (and_from (int_eq (q.x -ℤ p.x) (pos 0)) (int_eq (q.y -ℤ p.y) (pos 0)) ((Decides-int_eq (q.x -ℤ p.x) (pos 0)).1 x) ((Decides-int_eq (q.y -ℤ p.y) (pos 0)).1 y)))

pub first_way : (l : List Point) (a b : Point) → 2 ≤ length l → a ≡ get_or l 0 a → b ≡ get_or l 1 b → direction_to a b ≡ first_direction l
first_way [] a b h ea eb = absurd (omega arith)
first_way (p ∷ []) a b h ea eb = absurd (omega arith)
first_way (p ∷ q ∷ ps) a b h ea eb = λ i. direction_to (ea i) (eb i)

pub last_way : (l : List Point) (a b : Point) → 2 ≤ length l → a ≡ get_or l (length l - 1) a → b ≡ get_or l (length l - 1 - 1) b → direction_to a b ≡ first_direction (reverse l)
last_way l a b h ea eb =
    first_way (reverse l) a b (omega (arith, length-reverse l)) (ea ∙ ap (λ n. get_or l n a) (omega arith) ∙ sym (get_or-reverse l 0 a (omega arith)))
    (eb ∙ sym (get_or-reverse l 1 b (omega arith)))
