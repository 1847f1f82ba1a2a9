-- Lists of vertices without the last, one behind the other.
use Rattle.std.proofs.Common.{◌≡◌, suc, ◌-◌, List, [], ◌∷◌, ◌++◌, length, take, drop, refl, sym, ap, ◌∙◌, arith}
use Rattle.std.specs.Prelude.{reverse}
use Rattle.topo_base.specs.Point.{Point}
use Rattle.plane.specs.Line.{segments_of, last_vertex}
use Rattle.plane.proofs.SegmentParts.{segment}
use Rattle.face_parts.specs.Paths.{without_last}
use Rattle.face_rings.proofs.HalfLines.{reverse_is}

-- all but the last of a line are so many of its first, and of the line walked back all but its first
pub front_is : (l : List Point) → take (length l - 1) l ≡ without_last l
front_is [] = refl
front_is (p ∷ []) = refl
front_is (p ∷ q ∷ ps) =
    let count : length (p ∷ q ∷ ps) - 1 ≡ suc (length (q ∷ ps) - 1) = omega arith in
    ap (λ n. take n (p ∷ q ∷ ps)) count ∙ ap (λ l. p ∷ l) (front_is (q ∷ ps))

without-push : (l : List Point) (a : Point) → without_last (l ++ a ∷ []) ≡ l
without-push [] a = refl
without-push (x ∷ []) a = refl
without-push (x ∷ y ∷ l) a = ap (λ k. x ∷ k) (without-push (y ∷ l) a)

pub back_is : (l : List Point) → reverse (drop 1 l) ≡ without_last (reverse l)
back_is [] = refl
back_is (a ∷ l) = sym (ap without_last (reverse_is a l) ∙ without-push (reverse l) a)

-- the segments of a line, and of what goes on where it ends
pub segments-join : (l : List Point) (q : Point) (rest : List Point) → last_vertex l ≡ q → segments_of (without_last l ++ q ∷ rest) ≡ segments_of l ++ segments_of (q ∷ rest)
segments-join [] q rest e = refl
segments-join (a ∷ []) q rest e = refl
segments-join (a ∷ b ∷ []) q rest e = ap (λ p. segment a p ∷ segments_of (q ∷ rest)) (sym e)
segments-join (a ∷ b ∷ c ∷ l) q rest e = ap (λ ss. segment a b ∷ ss) (segments-join (b ∷ c ∷ l) q rest e)
