-- Where a line is split, and the points of its parts.
use Rattle.std.proofs.Common.{◌≡◌, ◌↔◌, ℕ, ◌+◌, ◌≤◌, ◌<◌, zero, suc, add-one, refl, sym, ◌∙◌, ap, subst, arith, ◌⊎◌, inl, inr, ⊎_elim, Bool, true, false, ◌||◌, ℤ, List, [], ◌∷◌, ◌++◌, length, take, drop, length-drop}
use Rattle.std.specs.Prelude.{if◌then◌else◌}
use Rattle.std.specs.List.{list_all}
use Rattle.std.proofs.lemmas.Bool.{cases_Bool, and_parts, cases_lt}
use Rattle.std.proofs.lemmas.Bool.Decides.{not_from_Decides}
use Rattle.topo_base.specs.Point.{Point, same_point}
use Rattle.topo_base.specs.RationalPoint.{RationalPoint, rational}
use Rattle.plane.specs.Segment.{Segment, on_segment}
use Rattle.plane.specs.Line.{segments_of, first_vertex, last_vertex, is_proper, on_line, is_line_end, line_up_to, line_from}
use Rattle.plane.specs.RationalTests.{IsOn, IsOnLine}
use Rattle.plane.specs.Relation.{IsProper, SameCoordinates}
use Rattle.plane.proofs.PointTests.{Decides-same_point, Decides-on_segment}
use Rattle.plane.proofs.Relations.{on_end}
use Rattle.plane.proofs.SimpleTests.{Decides-proper}
use Rattle.grid_lines.proofs.Vertices.{ends_at, segments_end}
use Rattle.grid_lines.proofs.LinesMeeting.{on_one, one_on, on_more, more_on, here_on}
use Rattle.grid_lines.proofs.Dividing.{part_on, first_on, second_on}

-- ---- one segment of the walk, from a to b, before the vertices behind b
up_hit : (p : Point) (L M N : List Point) (s : Segment) → L ≡ s.a ∷ M → M ≡ s.b ∷ N → on_segment p s ≡ true → line_up_to p L ≡ s.a ∷ p ∷ []
up_hit p L M N s e f h = rw (e, f, h) refl

up_miss : (p : Point) (L M N : List Point) (s : Segment) → L ≡ s.a ∷ M → M ≡ s.b ∷ N → on_segment p s ≡ false → line_up_to p L ≡ s.a ∷ line_up_to p M
up_miss p L M N s e f h = rw (e, f, h) refl

from_hit : (p : Point) (L M N : List Point) (s : Segment) → L ≡ s.a ∷ M → M ≡ s.b ∷ N → on_segment p s ≡ true
    → line_from p L ≡ (if same_point p (first_vertex M) then M else p ∷ M)
from_hit p L M N s e f h = rw (e, f, h) refl

from_miss : (p : Point) (L M N : List Point) (s : Segment) → L ≡ s.a ∷ M → M ≡ s.b ∷ N → on_segment p s ≡ false → line_from p L ≡ line_from p M
from_miss p L M N s e f h = rw (e, f, h) refl

line_hit : (p : Point) (L M N : List Point) (s : Segment) → L ≡ s.a ∷ M → M ≡ s.b ∷ N → on_segment p s ≡ true → on_line p L ≡ true
line_hit p L M N s e f h = rw (e, f, h) refl

line_miss : (p : Point) (L M N : List Point) (s : Segment) → L ≡ s.a ∷ M → M ≡ s.b ∷ N → on_segment p s ≡ false → on_line p L ≡ on_line p M
line_miss p L M N s e f h = rw (e, f, h) refl

-- ---- the same by the index of the segment
drop_suc : (vs : List Point) (i : ℕ) → i < length vs → drop i vs ≡ first_vertex (drop i vs) ∷ drop (suc i) vs
drop_suc [] i h = absurd (omega arith)
drop_suc (p ∷ ps) zero h = refl
drop_suc (p ∷ ps) (suc i) h = drop_suc ps i (omega arith)

drop_at : (vs : List Point) (i : ℕ) → i < length vs → drop i vs ≡ first_vertex (drop i vs) ∷ drop (i + 1) vs
drop_at vs i h = rw add-one (drop_suc vs i h)

front_suc : (vs : List Point) (i : ℕ) (a : Point) (M X : List Point) → drop i vs ≡ a ∷ M → take i vs ++ (a ∷ X) ≡ take (suc i) vs ++ X
front_suc [] zero a M X e = absurd (none e)
  where
    none : {a : Point} {M : List Point} → [] ≡ a ∷ M → ⊥
    none e = cc
front_suc [] (suc i) a M X e = absurd (none e)
  where
    none : {a : Point} {M : List Point} → [] ≡ a ∷ M → ⊥
    none e = cc
front_suc (p ∷ ps) zero a M X e = cc
front_suc (p ∷ ps) (suc i) a M X e = ap (λ l. p ∷ l) (front_suc ps i a M X e)

front_at : (vs : List Point) (i : ℕ) (a : Point) (M X : List Point) → drop i vs ≡ a ∷ M → take i vs ++ (a ∷ X) ≡ take (i + 1) vs ++ X
front_at vs i a M X e = rw add-one (front_suc vs i a M X e)

-- s is the segment at this index
pub record IsSegmentAt (vs : List Point) (i : ℕ) (s : Segment) : Type 0 where
  pub within : i + 1 < length vs
  pub is : segments_of (drop i vs) ≡ s ∷ segments_of (drop (i + 1) vs)

begins_at : (vs : List Point) (i : ℕ) (s : Segment) → IsSegmentAt vs i s → drop i vs ≡ s.a ∷ drop (i + 1) vs
begins_at vs i s at =
    let k = ends_at vs i s at.within at.is in
    drop_at vs i (omega (arith, at.within)) ∙ ap (λ z. z ∷ drop (i + 1) vs) (sym k.0)

then_ends : (vs : List Point) (i : ℕ) (s : Segment) → IsSegmentAt vs i s → drop (i + 1) vs ≡ s.b ∷ drop (i + 1 + 1) vs
then_ends vs i s at =
    let k = ends_at vs i s at.within at.is in
    drop_at vs (i + 1) at.within ∙ ap (λ z. z ∷ drop (i + 1 + 1) vs) (sym k.1)

pub up_at : (p : Point) (vs : List Point) (i : ℕ) (s : Segment) → IsSegmentAt vs i s → on_segment p s ≡ true
    → line_up_to p vs ≡ take i vs ++ line_up_to p (drop i vs) → line_up_to p vs ≡ take (i + 1) vs ++ p ∷ []
up_at p vs i s at h e =
    e ∙ ap (λ l. take i vs ++ l) (up_hit p (drop i vs) (drop (i + 1) vs) (drop (i + 1 + 1) vs) s (begins_at vs i s at) (then_ends vs i s at) h)
    ∙ front_at vs i s.a (drop (i + 1) vs) (p ∷ []) (begins_at vs i s at)

pub up_past : (p : Point) (vs : List Point) (i : ℕ) (s : Segment) → IsSegmentAt vs i s → on_segment p s ≡ false
    → line_up_to p vs ≡ take i vs ++ line_up_to p (drop i vs) → line_up_to p vs ≡ take (i + 1) vs ++ line_up_to p (drop (i + 1) vs)
up_past p vs i s at h e =
    e ∙ ap (λ l. take i vs ++ l) (up_miss p (drop i vs) (drop (i + 1) vs) (drop (i + 1 + 1) vs) s (begins_at vs i s at) (then_ends vs i s at) h)
    ∙ front_at vs i s.a (drop (i + 1) vs) (line_up_to p (drop (i + 1) vs)) (begins_at vs i s at)

pub from_at : (p : Point) (vs : List Point) (i : ℕ) (s : Segment) → IsSegmentAt vs i s → on_segment p s ≡ true
    → line_from p (drop i vs) ≡ (if same_point p (first_vertex (drop (i + 1) vs)) then drop (i + 1) vs else p ∷ drop (i + 1) vs)
from_at p vs i s at h = from_hit p (drop i vs) (drop (i + 1) vs) (drop (i + 1 + 1) vs) s (begins_at vs i s at) (then_ends vs i s at) h

pub from_past : (p : Point) (vs : List Point) (i : ℕ) (s : Segment) → IsSegmentAt vs i s → on_segment p s ≡ false → line_from p (drop i vs) ≡ line_from p (drop (i + 1) vs)
from_past p vs i s at h = from_miss p (drop i vs) (drop (i + 1) vs) (drop (i + 1 + 1) vs) s (begins_at vs i s at) (then_ends vs i s at) h

pub line_at : (p : Point) (vs : List Point) (i : ℕ) (s : Segment) → IsSegmentAt vs i s → on_segment p s ≡ true → on_line p (drop i vs) ≡ true
line_at p vs i s at h = line_hit p (drop i vs) (drop (i + 1) vs) (drop (i + 1 + 1) vs) s (begins_at vs i s at) (then_ends vs i s at) h

pub line_past : (p : Point) (vs : List Point) (i : ℕ) (s : Segment) → IsSegmentAt vs i s → on_segment p s ≡ false → on_line p (drop i vs) ≡ on_line p (drop (i + 1) vs)
line_past p vs i s at h = line_miss p (drop i vs) (drop (i + 1) vs) (drop (i + 1 + 1) vs) s (begins_at vs i s at) (then_ends vs i s at) h

pub line_end : (p : Point) (vs : List Point) (i : ℕ) → length vs ≤ i + 1 → on_line p (drop i vs) ≡ false
line_end p vs i h = rw (segments_end vs i h) refl

-- ---- the second part has two vertices
last_suc : (vs : List Point) (i : ℕ) → suc i ≡ length vs → first_vertex (drop i vs) ≡ last_vertex vs
last_suc [] i h = absurd (omega arith)
last_suc (p ∷ []) zero h = refl
last_suc (p ∷ []) (suc i) h = absurd (omega arith)
last_suc (p ∷ q ∷ ps) zero h = absurd (omega arith)
last_suc (p ∷ q ∷ ps) (suc i) h = last_suc (q ∷ ps) i (omega arith)

or_other : (b c : Bool) → (b || c) ≡ false → c ≡ true → ⊥
or_other true c h e = cc
or_other false c h e = cc

or_first : (b c : Bool) → (b || c) ≡ false → b ≡ false
or_first true c h = h
or_first false c h = refl

pub two_left : (p : Point) (vs : List Point) (j : ℕ) → is_line_end p vs ≡ false → j < length vs → same_point p (first_vertex (drop j vs)) ≡ true → 1 < length (drop j vs)
two_left p vs j inner h same =
    ⊎_elim
    (λ (g : 1 < length (drop j vs)). g)
    (λ (g : length (drop j vs) ≤ 1).
    let last = last_suc vs j (omega (arith, length-drop j vs)) in
    absurd (or_other (same_point p (first_vertex vs)) (same_point p (last_vertex vs)) inner (ap (same_point p) (sym last) ∙ same)))
    (cases_lt 1 (length (drop j vs)))

pub not_first : (p : Point) (vs : List Point) → is_line_end p vs ≡ false → same_point p (first_vertex vs) ≡ false
not_first p vs h = or_first (same_point p (first_vertex vs)) (same_point p (last_vertex vs)) h

-- ---- the points of the parts
up_begins_by : (p b : Point) (rest : List Point) (t : Bool) → (X : List Point) × ((if t then b ∷ p ∷ [] else b ∷ rest) ≡ b ∷ X)
up_begins_by p b rest true = (p ∷ [], refl)
up_begins_by p b rest false = (rest, refl)

up_begins : (p b : Point) (rest : List Point) → (X : List Point) × (line_up_to p (b ∷ rest) ≡ b ∷ X)
up_begins p b [] = ([], refl)
up_begins p b (c ∷ rest) = up_begins_by p b (line_up_to p (c ∷ rest)) (on_segment p (record { a = b; b = c }))

-- p is the vertex b
at_vertex : (a b : Point) (rest : List Point) (q : RationalPoint) → IsOnLine q (a ∷ b ∷ rest) ↔ (IsOnLine q (a ∷ b ∷ []) ⊎ IsOnLine q (b ∷ rest))
at_vertex a b rest q =
    let s : Segment = record { a = a; b = b } in
    let S = segments_of (b ∷ rest) in (
      λ (o : IsOnLine q (a ∷ b ∷ rest)). ⊎_elim (λ (h : IsOn q s). inl (one_on q s h)) (λ (h : IsOnLine q (b ∷ rest)). inr h) (on_more q s S o),
      λ (w : IsOnLine q (a ∷ b ∷ []) ⊎ IsOnLine q (b ∷ rest)).
          ⊎_elim (λ (h : IsOnLine q (a ∷ b ∷ [])). here_on q s S (on_one q s h)) (λ (h : IsOnLine q (b ∷ rest)). more_on q s S h) w,
    )

-- p is between a and b
between : (a b p : Point) (rest : List Point) (q : RationalPoint) → IsProper (record { a = a; b = b }) → IsProper (record { a = a; b = p }) → IsProper (record { a = p; b = b })
    → IsOn (rational p) (record { a = a; b = b })
    → IsOnLine q (a ∷ b ∷ rest) ↔ (IsOnLine q (a ∷ p ∷ []) ⊎ IsOnLine q (p ∷ b ∷ rest))
between a b p rest q whole first second on =
    let s : Segment = record { a = a; b = b } in
    let t : Segment = record { a = a; b = p } in
    let u : Segment = record { a = p; b = b } in
    let S = segments_of (b ∷ rest) in (
      λ (o : IsOnLine q (a ∷ b ∷ rest)).
          ⊎_elim
          (λ (h : IsOn q s). ⊎_elim (λ (g : IsOn q t). inl (one_on q t g)) (λ (g : IsOn q u). inr (here_on q u S g)) (part_on a b p q whole on h))
          (λ (h : IsOnLine q (b ∷ rest)). inr (more_on q u S h))
          (on_more q s S o),
      λ (w : IsOnLine q (a ∷ p ∷ []) ⊎ IsOnLine q (p ∷ b ∷ rest)).
          ⊎_elim
          (λ (h : IsOnLine q (a ∷ p ∷ [])). here_on q s S (first_on a b p q first on (on_one q t h)))
          (λ (h : IsOnLine q (p ∷ b ∷ rest)).
          ⊎_elim (λ (g : IsOn q u). here_on q s S (second_on a b p q second on g)) (λ (g : IsOnLine q (b ∷ rest)). more_on q s S g) (on_more q u S h))
          w,
    )

-- p is behind b, where X and F are the parts of what follows
behind : (a b : Point) (rest X F : List Point) (q : RationalPoint) → IsOnLine q (b ∷ rest) ↔ (IsOnLine q (b ∷ X) ⊎ IsOnLine q F)
    → IsOnLine q (a ∷ b ∷ rest) ↔ (IsOnLine q (a ∷ b ∷ X) ⊎ IsOnLine q F)
behind a b rest X F q f =
    let s : Segment = record { a = a; b = b } in
    let S = segments_of (b ∷ rest) in
    let T = segments_of (b ∷ X) in (
      λ (o : IsOnLine q (a ∷ b ∷ rest)).
          ⊎_elim
          (λ (h : IsOn q s). inl (here_on q s T h))
          (λ (h : IsOnLine q (b ∷ rest)). ⊎_elim (λ (g : IsOnLine q (b ∷ X)). inl (more_on q s T g)) (λ (g : IsOnLine q F). inr g) (f.0 h))
          (on_more q s S o),
      λ (w : IsOnLine q (a ∷ b ∷ X) ⊎ IsOnLine q F).
          ⊎_elim
          (λ (h : IsOnLine q (a ∷ b ∷ X)). ⊎_elim (λ (g : IsOn q s). here_on q s S g) (λ (g : IsOnLine q (b ∷ X)). more_on q s S (f.1 (inl g))) (on_more q s T h))
          (λ (h : IsOnLine q F). more_on q s S (f.1 (inr h)))
          w,
    )

behind_by : (a b : Point) (rest Y F : List Point) (q : RationalPoint) → ((X : List Point) × (Y ≡ b ∷ X)) → IsOnLine q (b ∷ rest) ↔ (IsOnLine q Y ⊎ IsOnLine q F)
    → IsOnLine q (a ∷ b ∷ rest) ↔ (IsOnLine q (a ∷ Y) ⊎ IsOnLine q F)
behind_by a b rest Y F q (X, e) f =
    let g = subst (λ Z. IsOnLine q (b ∷ rest) ↔ (IsOnLine q Z ⊎ IsOnLine q F)) e f in
    subst (λ Z. IsOnLine q (a ∷ b ∷ rest) ↔ (IsOnLine q (a ∷ Z) ⊎ IsOnLine q F)) (sym e) (behind a b rest X F q g)

no_line : {P : Type 0} → false ≡ true → P
no_line e = cc

point_at : ℤ → ℤ → Point
point_at x y = record { x = x; y = y }

pub same_points : (p r : Point) → SameCoordinates p r → p ≡ r
unfolding point_at
same_points p r e = ap (λ x. point_at x p.y) e.0 ∙ ap (λ y. point_at r.x y) e.1

pub split_points : (p : Point) (line : List Point) (q : RationalPoint) → list_all is_proper (segments_of line) ≡ true → on_line p line ≡ true
    → same_point p (first_vertex line) ≡ false → IsOnLine q line ↔ (IsOnLine q (line_up_to p line) ⊎ IsOnLine q (line_from p line))
split_points p [] q proper on first = no_line on
split_points p (a ∷ []) q proper on first = no_line on
split_points p (a ∷ b ∷ rest) q proper on first =
    let s : Segment = record { a = a; b = b } in
    let parts = and_parts (is_proper s) (list_all is_proper (segments_of (b ∷ rest))) proper in
    ⊎_elim
    (λ (h : on_segment p s ≡ true).
    ⊎_elim
    (λ (g : same_point p b ≡ true).
    let e : p ≡ b = same_points p b ((Decides-same_point p b).0 g) in
    rw (h, g) (subst (λ z. IsOnLine q (a ∷ b ∷ rest) ↔ (IsOnLine q (a ∷ z ∷ []) ⊎ IsOnLine q (b ∷ rest))) (sym e) (at_vertex a b rest q)))
    (λ (g : same_point p b ≡ false).
    let n = not_from_Decides (same_point p b) (Decides-same_point p b) g in
    let m = not_from_Decides (same_point p a) (Decides-same_point p a) first in
    rw (h, g) (between a b p rest q ((Decides-proper s).0 parts.0) (λ e f. m (sym e, sym f)) (λ e f. n (e, f)) ((Decides-on_segment p s).0 h)))
    (cases_Bool (same_point p b)))
    (λ (h : on_segment p s ≡ false).
    let later : on_line p (b ∷ rest) ≡ true = rw h at on in
    let other : same_point p b ≡ false =
    ⊎_elim
    (λ (g : same_point p b ≡ true). absurd (no_line (sym h ∙ (Decides-on_segment p s).1 (on_end s p (inr ((Decides-same_point p b).0 g))))))
    (λ (g : same_point p b ≡ false). g)
    (cases_Bool (same_point p b))
    in
    rw h (behind_by a b rest (line_up_to p (b ∷ rest)) (line_from p (b ∷ rest)) q (up_begins p b rest) (split_points p (b ∷ rest) q parts.1 later other)))
    (cases_Bool (on_segment p s))
