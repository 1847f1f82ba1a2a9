-- The points of two lines in a row.
use Rattle.std.proofs.Common.{◌≡◌, ◌↔◌, sym, subst, ◌⊎◌, inl, inr, ⊎_elim, List, [], ◌∷◌, ◌++◌, ◌<◌, length, arith}
use Rattle.topo_base.specs.Point.{Point}
use Rattle.topo_base.specs.RationalPoint.{RationalPoint}
use Rattle.plane.specs.Segment.{Segment}
use Rattle.plane.specs.Line.{segments_of, first_vertex, last_vertex, joined}
use Rattle.plane.specs.RationalTests.{IsOn, IsOnLine}
use Rattle.plane.proofs.ListTests.{contains_none}
use Rattle.grid_lines.proofs.LinesMeeting.{on_more, more_on, here_on}

abbrev Both : RationalPoint → List Point → List Point → List Point → Type 0
Both q whole a b = IsOnLine q whole ↔ (IsOnLine q a ⊎ IsOnLine q b)

more_first : (q : RationalPoint) (p r : Point) (whole a b : List Point) → Both q (r ∷ whole) (r ∷ a) b → Both q (p ∷ r ∷ whole) (p ∷ r ∷ a) b
more_first q p r whole a b f =
    let s : Segment = record { a = p; b = r } in
    let S = segments_of (r ∷ whole) in
    let T = segments_of (r ∷ a) in (
      λ (o : IsOnLine q (p ∷ r ∷ whole)).
          ⊎_elim
          (λ (h : IsOn q s). inl (here_on q s T h))
          (λ (h : IsOnLine q (r ∷ whole)). ⊎_elim (λ (g : IsOnLine q (r ∷ a)). inl (more_on q s T g)) (λ (g : IsOnLine q b). inr g) (f.0 h))
          (on_more q s S o),
      λ (w : IsOnLine q (p ∷ r ∷ a) ⊎ IsOnLine q b).
          ⊎_elim
          (λ (h : IsOnLine q (p ∷ r ∷ a)). ⊎_elim (λ (g : IsOn q s). here_on q s S g) (λ (g : IsOnLine q (r ∷ a)). more_on q s S (f.1 (inl g))) (on_more q s T h))
          (λ (h : IsOnLine q b). more_on q s S (f.1 (inr h)))
          w,
    )

-- a line of one vertex has no points
no_points : (q : RationalPoint) (p : Point) (b : List Point) → Both q b (p ∷ []) b
no_points q p b = (
  λ (o : IsOnLine q b). inr o,
  λ (w : IsOnLine q (p ∷ []) ⊎ IsOnLine q b). ⊎_elim (λ (h : IsOnLine q (p ∷ [])). absurd (contains_none h.0 h.1.0)) (λ (h : IsOnLine q b). h) w,
)

pub join_points : (q : RationalPoint) (p : Point) (a : List Point) (r : Point) (b : List Point) → last_vertex (p ∷ a) ≡ r → Both q (joined (p ∷ a) (r ∷ b)) (p ∷ a) (r ∷ b)
join_points q p [] r b e = subst (λ z. Both q (z ∷ b) (p ∷ []) (r ∷ b)) (sym e) (no_points q p (r ∷ b))
join_points q p (n ∷ a) r b e = more_first q p n (a ++ b) a (r ∷ b) (join_points q n a r b e)

-- the same for lines of some vertices
pub join_points_of : (q : RationalPoint) (line a b : List Point) → line ≡ joined a b → 0 < length a → 0 < length b → last_vertex a ≡ first_vertex b → Both q line a b
join_points_of q line [] b is ha hb e = absurd (omega arith)
join_points_of q line (p ∷ a) [] is ha hb e = absurd (omega arith)
join_points_of q line (p ∷ a) (r ∷ b) is ha hb e = subst (λ l. Both q l (p ∷ a) (r ∷ b)) (sym is) (join_points q p a r b e)
