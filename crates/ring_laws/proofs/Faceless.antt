-- What follows a half-edge does not depend on faces.
use Rattle.std.proofs.Common.{◌≡◌, Bool, true, false, cond, ◌&&◌, not, List, [], ◌∷◌, map, filter, option_map, Option, Some, None, refl, ap, ◌∙◌}
use Rattle.std.specs.Prelude.{fold}
use Rattle.plane.specs.Direction.{Direction, is_nearer}
use Rattle.drawing.specs.HalfEdge.{HalfEdge, twin, leaves, same_half_edge, dart_of}
use Rattle.drawing.specs.Star.{leaving, nearer_of, first_clockwise, or_twin, next_of}

-- a half-edge without its faces
abbrev pub faceless : HalfEdge → HalfEdge
faceless h = record h { on_left = 0; on_right = 0 }

abbrev may_follow : HalfEdge → HalfEdge → Bool
may_follow h k = leaves h.to_node k && not (same_half_edge k (twin h))

filter_faceless : (h : HalfEdge) (hs : List HalfEdge) → filter (may_follow (faceless h)) (map faceless hs) ≡ map faceless (filter (may_follow h) hs)
filter_faceless h [] = refl
filter_faceless h (k ∷ hs) = step (may_follow h k) (filter (may_follow (faceless h)) (map faceless hs)) (filter (may_follow h) hs) (filter_faceless h hs)
  where
    step : (b : Bool) (xs ys : List HalfEdge) → xs ≡ map faceless ys → cond b (faceless k ∷ xs) xs ≡ map faceless (cond b (k ∷ ys) ys)
    step true xs ys e = ap (λ zs. faceless k ∷ zs) e
    step false xs ys e = e

nearer_faceless : (r : Direction) (h k : HalfEdge) → nearer_of r (faceless h) (faceless k) ≡ faceless (nearer_of r h k)
nearer_faceless r h k = by (is_nearer r (leaving k) (leaving h))
  where
    by : (b : Bool) → cond b (faceless k) (faceless h) ≡ faceless (cond b k h)
    by true = refl
    by false = refl

fold_faceless : (r : Direction) (h : HalfEdge) (hs : List HalfEdge) → fold (nearer_of r) (faceless h) (map faceless hs) ≡ faceless (fold (nearer_of r) h hs)
fold_faceless r h [] = refl
fold_faceless r h (k ∷ hs) = ap (λ x. fold (nearer_of r) x (map faceless hs)) (nearer_faceless r h k) ∙ fold_faceless r (nearer_of r h k) hs

first_faceless : (r : Direction) (hs : List HalfEdge) → first_clockwise r (map faceless hs) ≡ option_map faceless (first_clockwise r hs)
first_faceless r [] = refl
first_faceless r (h ∷ hs) = ap Some (fold_faceless r h hs)

dart_faceless : (h : HalfEdge) (o : Option HalfEdge) → dart_of (or_twin (faceless h) (option_map faceless o)) ≡ dart_of (or_twin h o)
dart_faceless h None = refl
dart_faceless h (Some k) = refl

pub next_faceless : (hs : List HalfEdge) (h : HalfEdge) → dart_of (next_of (map faceless hs) (faceless h)) ≡ dart_of (next_of hs h)
next_faceless hs h =
    ap (λ (ks : List HalfEdge). dart_of (or_twin (faceless h) (first_clockwise (leaving (twin h)) ks))) (filter_faceless h hs)
    ∙ ap (λ (o : Option HalfEdge). dart_of (or_twin (faceless h) o)) (first_faceless (leaving (twin h)) (filter (may_follow h) hs))
    ∙ dart_faceless h (first_clockwise (leaving (twin h)) (filter (may_follow h) hs))
