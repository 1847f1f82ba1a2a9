-- How two lines meet, from how their segments do.
use Rattle.std.proofs.Common.{◌≡◌, refl, sym, ◌∙◌, ap, subst, ◌⊎◌, inl, inr, ⊎_elim, true, false, List, [], ◌∷◌}
use Rattle.std.specs.Prelude.{Contains}
use Rattle.std.specs.Bool.{Decides}
use Rattle.std.proofs.lemmas.Bool.Decides.{Decides-and, Decides-or, not_from_Decides}
use Rattle.topo_base.specs.Point.{Point, same_point}
use Rattle.topo_base.specs.RationalPoint.{RationalPoint, rational, IsAt, SamePoint}
use Rattle.topo_base.specs.declared.meeting.Meeting.{Meeting}
use Rattle.topo_base.specs.declared.meeting.Meeting.TheVariants.{Apart, AtEnds, Inside}
use Rattle.plane.specs.Segment.{Segment, on_segment, shares}
use Rattle.plane.specs.Line.{first_vertex, last_vertex, is_line_end}
use Rattle.plane.specs.LinePoints.{IsAtLineEnd, IsAtBothEnds, MeetsAs}
use Rattle.plane.specs.RationalTests.{IsOn}
use Rattle.plane.specs.Relation.{IsShared, IsOnlyShared, AreApart, HaveMore, SameCoordinates}
use Rattle.plane.proofs.Relations.{same_end}
use Rattle.plane.proofs.Collinear.{at_point}
use Rattle.plane.proofs.Middle.{on_at, at_same, another}
use Rattle.plane.proofs.PointTests.{Decides-same_point, Decides-on_segment}
use Rattle.plane.proofs.MeetTests.{same_through}
use Rattle.plane.proofs.ListTests.{contains_here, contains_there, contains_cases, contains_none}
use Rattle.grid_lines.specs.Parts.{IsOnSome, IsOnBothParts, PartsMeet, combined, is_common_end, share_line_end}
use Rattle.grid_lines.proofs.Links.{at_moved}

-- ---- parts of one segment
pub on_one : (q : RationalPoint) (s : Segment) → IsOnSome q (s ∷ []) → IsOn q s
on_one q s (t, (c, on)) =
    ⊎_elim
    (λ (e : s ≡ t). subst (λ w. IsOn q w) (sym e) on)
    (λ (n : Contains [] t). absurd (contains_none t n))
    (contains_cases t s [] c)

pub one_on : (q : RationalPoint) (s : Segment) → IsOn q s → IsOnSome q (s ∷ [])
one_on q s on = (s, (contains_here s [], on))

both_one : (q : RationalPoint) (s t : Segment) → IsOnBothParts q (s ∷ []) (t ∷ []) → IsShared s t q
both_one q s t h = (on_one q s h.0, on_one q t h.1)

one_both : (q : RationalPoint) (s t : Segment) → IsShared s t q → IsOnBothParts q (s ∷ []) (t ∷ [])
one_both q s t h = (one_on q s h.0, one_on q t h.1)

pub apart_meet : (a b : List Point) (s t : Segment) → AreApart s t → PartsMeet Apart a b (s ∷ []) (t ∷ [])
apart_meet a b s t h = λ q on. h q (both_one q s t on)

pub overlap_meet : (a b : List Point) (s t : Segment) → HaveMore s t → PartsMeet Inside a b (s ∷ []) (t ∷ [])
overlap_meet a b s t more =
    let o = another s t (first_vertex a) (last_vertex a) more in
    (o.0, (one_both o.0 s t o.1.0, λ (ends : IsAtBothEnds o.0 a b). ⊎_elim o.1.1 o.1.2 ends.0))

-- ---- an end of both lines on both segments
abbrev IsCommonEnd : Point → List Point → Segment → Segment → Type 0
IsCommonEnd p line s t = (SameCoordinates p (first_vertex line) ⊎ SameCoordinates p (last_vertex line)) × IsShared s t (rational p)

common_test : (p : Point) (line : List Point) (s t : Segment) → Decides (is_common_end p line s t) (IsCommonEnd p line s t)
common_test p line s t =
    Decides-and (is_line_end p line) (shares p s t)
    (Decides-or (same_point p (first_vertex line)) (same_point p (last_vertex line)) (Decides-same_point p (first_vertex line)) (Decides-same_point p (last_vertex line)))
    (Decides-and (on_segment p s) (on_segment p t) (Decides-on_segment p s) (Decides-on_segment p t))

abbrev ShareLineEnd : List Point → List Point → Segment → Segment → Type 0
ShareLineEnd a b s t = IsCommonEnd (first_vertex a) b s t ⊎ IsCommonEnd (last_vertex a) b s t

share_test : (a b : List Point) (s t : Segment) → Decides (share_line_end a b s t) (ShareLineEnd a b s t)
share_test a b s t =
    Decides-or (is_common_end (first_vertex a) b s t) (is_common_end (last_vertex a) b s t) (common_test (first_vertex a) b s t) (common_test (last_vertex a) b s t)

-- the only common point is at a common end
at_common : (p : Point) (line : List Point) (s t : Segment) (q u : RationalPoint) → IsOnlyShared s t q → IsCommonEnd p line s t → IsShared s t u
    → IsAt p u × IsAtLineEnd u line
at_common p line s t q u only end on =
    let same : SamePoint u (rational p) = same_through u (rational p) q (only.1 u on) (only.1 (rational p) end.1) in
    let at : IsAt p u = at_same p u (rational p) same (at_point p) in (
      at,
      ⊎_elim
          (λ (e : SameCoordinates p (first_vertex line)). inl (at_moved (first_vertex line) p u (sym e.0, sym e.1) at))
          (λ (e : SameCoordinates p (last_vertex line)). inr (at_moved (last_vertex line) p u (sym e.0, sym e.1) at))
          end.0,
    )

at_shared : (a b : List Point) (s t : Segment) (q u : RationalPoint) → IsOnlyShared s t q → ShareLineEnd a b s t → IsShared s t u → IsAtBothEnds u a b
at_shared a b s t q u only ends on =
    ⊎_elim
    (λ (e : IsCommonEnd (first_vertex a) b s t). let k = at_common (first_vertex a) b s t q u only e on in (inl k.0, k.1))
    (λ (e : IsCommonEnd (last_vertex a) b s t). let k = at_common (last_vertex a) b s t q u only e on in (inr k.0, k.1))
    ends

pub ends_meet : (a b : List Point) (s t : Segment) → ((q : RationalPoint) × IsOnlyShared s t q) → share_line_end a b s t ≡ true → PartsMeet AtEnds a b (s ∷ []) (t ∷ [])
ends_meet a b s t (q, only) e =
    let ends = (share_test a b s t).0 e in
    ((q, one_both q s t only.0), λ u on. at_shared a b s t q u only ends (both_one u s t on))

common_at : (p : Point) (line : List Point) (s t : Segment) (q : RationalPoint) → IsShared s t q → IsAt p q → IsAtLineEnd q line → IsCommonEnd p line s t
common_at p line s t q on at end = (
  ⊎_elim
      (λ (e : IsAt (first_vertex line) q). inl (same_end q p (first_vertex line) at e))
      (λ (e : IsAt (last_vertex line) q). inr (same_end q p (last_vertex line) at e))
      end,
  (on_at p q s at on.0, on_at p q t at on.1),
)

pub inside_meet : (a b : List Point) (s t : Segment) → ((q : RationalPoint) × IsOnlyShared s t q) → share_line_end a b s t ≡ false → PartsMeet Inside a b (s ∷ []) (t ∷ [])
inside_meet a b s t (q, only) e =
    let none = not_from_Decides (share_line_end a b s t) (share_test a b s t) e in (
      q,
      (
        one_both q s t only.0,
        λ (ends : IsAtBothEnds q a b).
            ⊎_elim
            (λ (h : IsAt (first_vertex a) q). none (inl (common_at (first_vertex a) b s t q only.0 h ends.1)))
            (λ (h : IsAt (last_vertex a) q). none (inr (common_at (last_vertex a) b s t q only.0 h ends.1)))
            ends.0,
      ),
    )

-- ---- a whole of two parts
abbrev IsUnion : (RationalPoint → Type 0) → (RationalPoint → Type 0) → (RationalPoint → Type 0) → Type 0
IsUnion whole first rest = (q : RationalPoint) → (whole q → first q ⊎ rest q) × (first q → whole q) × (rest q → whole q)

united : (m n : Meeting) (whole first rest end : RationalPoint → Type 0) → IsUnion whole first rest → MeetsAs m first end → MeetsAs n rest end → MeetsAs (combined m n) whole end
united Apart Apart whole first rest end u h k = λ q c. ⊎_elim (h q) (k q) ((u q).0 c)
united Apart AtEnds whole first rest end u h k =
    ((k.0.0, (u k.0.0).2 k.0.1), λ q c. ⊎_elim (λ (d : first q). absurd (h q d)) (k.1 q) ((u q).0 c))
united Apart Inside whole first rest end u h k = (k.0, ((u k.0).2 k.1.0, k.1.1))
united Inside n whole first rest end u h k = (h.0, ((u h.0).1 h.1.0, h.1.1))
united AtEnds Apart whole first rest end u h k =
    ((h.0.0, (u h.0.0).1 h.0.1), λ q c. ⊎_elim (h.1 q) (λ (d : rest q). absurd (k q d)) ((u q).0 c))
united AtEnds AtEnds whole first rest end u h k = ((h.0.0, (u h.0.0).1 h.0.1), λ q c. ⊎_elim (h.1 q) (k.1 q) ((u q).0 c))
united AtEnds Inside whole first rest end u h k = (k.0, ((u k.0).2 k.1.0, k.1.1))

pub on_more : (q : RationalPoint) (s : Segment) (S : List Segment) → IsOnSome q (s ∷ S) → IsOn q s ⊎ IsOnSome q S
on_more q s S (t, (c, on)) =
    ⊎_elim
    (λ (e : s ≡ t). inl (subst (λ w. IsOn q w) (sym e) on))
    (λ (d : Contains S t). inr (t, (d, on)))
    (contains_cases t s S c)

pub more_on : (q : RationalPoint) (s : Segment) (S : List Segment) → IsOnSome q S → IsOnSome q (s ∷ S)
more_on q s S (t, (c, on)) = (t, (contains_there t s S c, on))

pub here_on : (q : RationalPoint) (s : Segment) (S : List Segment) → IsOn q s → IsOnSome q (s ∷ S)
here_on q s S on = (s, (contains_here s S, on))

-- one segment more of the second line, or of the first
pub second_more : (m n : Meeting) (a b : List Point) (S : List Segment) (t : Segment) (T : List Segment)
    → PartsMeet m a b S (t ∷ []) → PartsMeet n a b S T → PartsMeet (combined m n) a b S (t ∷ T)
second_more m n a b S t T h k =
    united m n (λ q. IsOnBothParts q S (t ∷ T)) (λ q. IsOnBothParts q S (t ∷ [])) (λ q. IsOnBothParts q S T) (λ q. IsAtBothEnds q a b)
    (λ q. (
      λ (c : IsOnBothParts q S (t ∷ T)). ⊎_elim (λ (o : IsOn q t). inl (c.0, one_on q t o)) (λ (o : IsOnSome q T). inr (c.0, o)) (on_more q t T c.1),
      λ (c : IsOnBothParts q S (t ∷ [])). (c.0, here_on q t T (on_one q t c.1)),
      λ (c : IsOnBothParts q S T). (c.0, more_on q t T c.1),
    )) h k

pub first_more : (m n : Meeting) (a b : List Point) (s : Segment) (S T : List Segment)
    → PartsMeet m a b (s ∷ []) T → PartsMeet n a b S T → PartsMeet (combined m n) a b (s ∷ S) T
first_more m n a b s S T h k =
    united m n (λ q. IsOnBothParts q (s ∷ S) T) (λ q. IsOnBothParts q (s ∷ []) T) (λ q. IsOnBothParts q S T) (λ q. IsAtBothEnds q a b)
    (λ q. (
      λ (c : IsOnBothParts q (s ∷ S) T). ⊎_elim (λ (o : IsOn q s). inl (one_on q s o, c.1)) (λ (o : IsOnSome q S). inr (o, c.1)) (on_more q s S c.0),
      λ (c : IsOnBothParts q (s ∷ []) T). (here_on q s S (on_one q s c.0), c.1),
      λ (c : IsOnBothParts q S T). (more_on q s S c.0, c.1),
    )) h k

-- no segments
pub second_none : (a b : List Point) (S : List Segment) → PartsMeet Apart a b S []
second_none a b S = λ q on. contains_none on.1.0 on.1.1.0

pub first_none : (a b : List Point) (T : List Segment) → PartsMeet Apart a b [] T
first_none a b T = λ q on. contains_none on.0.0 on.0.1.0

pub combined_apart : (m : Meeting) → combined m Apart ≡ m
combined_apart Apart = refl
combined_apart AtEnds = refl
combined_apart Inside = refl

pub combined_assoc : (k m n : Meeting) → combined k (combined m n) ≡ combined (combined k m) n
combined_assoc Apart m n = refl
combined_assoc Inside m n = refl
combined_assoc AtEnds Apart n = refl
combined_assoc AtEnds Inside n = refl
combined_assoc AtEnds AtEnds Apart = refl
combined_assoc AtEnds AtEnds AtEnds = refl
combined_assoc AtEnds AtEnds Inside = refl

-- ---- a walk along the segments of one line: what was met so far, with what the rest meets, is what the whole meets
pub second_step : (k h m now : Meeting) (a b : List Point) (S whole T rest : List Segment) (t : Segment) → now ≡ combined k h → T ≡ t ∷ rest
    → ((n : Meeting) → PartsMeet n a b S T → PartsMeet (combined k n) a b S whole) → PartsMeet h a b S (t ∷ []) → PartsMeet m a b S rest
    → PartsMeet (combined now m) a b S whole
second_step k h m now a b S whole T rest t is e before here after =
    let more = subst (λ X. PartsMeet (combined h m) a b S X) (sym e) (second_more h m a b S t rest here after) in
    subst (λ x. PartsMeet x a b S whole) (combined_assoc k h m ∙ ap (λ x. combined x m) (sym is)) (before (combined h m) more)

pub second_end : (k : Meeting) (a b : List Point) (S whole T : List Segment) → T ≡ []
    → ((n : Meeting) → PartsMeet n a b S T → PartsMeet (combined k n) a b S whole) → PartsMeet k a b S whole
second_end k a b S whole T e before =
    subst (λ x. PartsMeet x a b S whole) (combined_apart k) (before Apart (subst (λ X. PartsMeet Apart a b S X) (sym e) (second_none a b S)))

pub first_step : (k h m now : Meeting) (a b : List Point) (T whole S rest : List Segment) (s : Segment) → now ≡ combined k h → S ≡ s ∷ rest
    → ((n : Meeting) → PartsMeet n a b S T → PartsMeet (combined k n) a b whole T) → PartsMeet h a b (s ∷ []) T → PartsMeet m a b rest T
    → PartsMeet (combined now m) a b whole T
first_step k h m now a b T whole S rest s is e before here after =
    let more = subst (λ X. PartsMeet (combined h m) a b X T) (sym e) (first_more h m a b s rest T here after) in
    subst (λ x. PartsMeet x a b whole T) (combined_assoc k h m ∙ ap (λ x. combined x m) (sym is)) (before (combined h m) more)

pub first_end : (k : Meeting) (a b : List Point) (T whole S : List Segment) → S ≡ []
    → ((n : Meeting) → PartsMeet n a b S T → PartsMeet (combined k n) a b whole T) → PartsMeet k a b whole T
first_end k a b T whole S e before =
    subst (λ x. PartsMeet x a b whole T) (combined_apart k) (before Apart (subst (λ X. PartsMeet Apart a b X T) (sym e) (first_none a b T)))
