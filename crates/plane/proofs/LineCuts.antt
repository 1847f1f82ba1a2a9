-- The two parts of a simple line that is cut at a point inside it are simple, and have that point in common and, where the line is closed, its ends.
use Rattle.std.proofs.Common.{◌≡◌, ℕ, zero, suc, ◌+◌, ◌<◌, refl, sym, ◌∙◌, ap, subst, arith, ◌⊎◌, inl, inr, ⊎_elim, true, List, [], ◌∷◌, ◌++◌, length, length-append, slice_get, Some}
use Rattle.std.specs.List.{list_all, Contains}
use Rattle.std.proofs.lemmas.Bool.{and_from}
use Rattle.std.proofs.lemmas.List.Elements.{Contains-push}
use Rattle.std.proofs.lemmas.Option.{slice_get_within}
use Rattle.topo_base.specs.Point.{Point}
use Rattle.topo_base.specs.RationalPoint.{RationalPoint, rational, IsAt}
use Rattle.plane.specs.Segment.{Segment}
use Rattle.plane.specs.Line.{segments_of, first_vertex, last_vertex, is_proper, line_up_to, line_from}
use Rattle.plane.specs.RationalTests.{IsOn, IsOnLine}
use Rattle.plane.specs.Relation.{SameCoordinates}
use Rattle.plane.specs.SimpleLine.{IsSimpleLine}
use Rattle.plane.proofs.ListTests.{some_same, contains_here, contains_there, contains_cases, contains_none}
use Rattle.plane.proofs.Relations.{on_end, joined}
use Rattle.plane.proofs.Middle.{on_at}
use Rattle.plane.proofs.LineTests.{from_at}
use Rattle.plane.proofs.SimpleTests.{before_it, first_begins, no_element}
use Rattle.plane.proofs.SegmentParts.{segment, in_first, in_second, in_both}
use Rattle.plane.proofs.LineParts.{Cut, differ_proper}

-- ---- places in a list
pub place_of : {X : Type 0} (x : X) (xs : List X) → Contains xs x → (i : ℕ) × (slice_get xs i ≡ Some x)
place_of x [] c = absurd (contains_none x c)
place_of x (y ∷ ys) c = ⊎_elim (λ (e : y ≡ x). (0, ap Some e)) (λ (k : Contains ys x). let r = place_of x ys k in (suc r.0, r.1)) (contains_cases x y ys c)

pub at_place : {X : Type 0} (x : X) (xs : List X) (i : ℕ) → slice_get xs i ≡ Some x → Contains xs x
at_place x [] i e = absurd (no_element x e)
at_place x (y ∷ ys) zero e = subst (λ z. Contains (y ∷ ys) z) (some_same y x e) (contains_here y ys)
at_place x (y ∷ ys) (suc i) e = contains_there x y ys (at_place x ys i e)

pub place_front : {X : Type 0} (xs ys : List X) (i : ℕ) (x : X) → slice_get xs i ≡ Some x → slice_get (xs ++ ys) i ≡ Some x
place_front [] ys i x e = absurd (no_element x e)
place_front (z ∷ zs) ys zero x e = e
place_front (z ∷ zs) ys (suc i) x e = place_front zs ys i x e

pub place_back : {X : Type 0} (xs ys : List X) (i : ℕ) → slice_get (xs ++ ys) (length xs + i) ≡ slice_get ys i
place_back [] ys i = let e : 0 + i ≡ i = omega arith in ap (slice_get ys) e
place_back (z ∷ zs) ys i =
    let e : suc (length zs) + i ≡ suc (length zs + i) = omega arith in
    ap (slice_get (z ∷ (zs ++ ys))) e ∙ place_back zs ys i

pub place_cases : {X : Type 0} (xs ys : List X) (i : ℕ) (x : X) → slice_get (xs ++ ys) i ≡ Some x → (slice_get xs i ≡ Some x) ⊎ ((j : ℕ) × ((i ≡ length xs + j) × (slice_get ys j ≡ Some x)))
place_cases [] ys i x e = inr (i, (omega arith, e))
place_cases (z ∷ zs) ys zero x e = inl e
place_cases (z ∷ zs) ys (suc i) x e =
    ⊎_elim
    (λ (h : slice_get zs i ≡ Some x). inl h)
    (λ (h : (j : ℕ) × ((i ≡ length zs + j) × (slice_get ys j ≡ Some x))). inr (h.0, (omega (arith, h.1.0), h.1.1)))
    (place_cases zs ys i x e)

-- the last segment ends at the last vertex
pub last_ends : (line : List Point) (k : ℕ) (s : Segment) → slice_get (segments_of line) k ≡ Some s → k + 1 ≡ length (segments_of line) → last_vertex line ≡ s.b
last_ends [] k s e last = absurd (no_element s e)
last_ends (a ∷ []) k s e last = absurd (no_element s e)
last_ends (a ∷ b ∷ []) zero s e last = ap (λ (w : Segment). w.b) (some_same (segment a b) s e)
last_ends (a ∷ b ∷ []) (suc k) s e last = absurd (no_element s e)
last_ends (a ∷ b ∷ c ∷ rest) zero s e last = absurd (omega arith)
last_ends (a ∷ b ∷ c ∷ rest) (suc k) s e last = last_ends (b ∷ c ∷ rest) k s e (omega arith)

-- ---- a segment of the first part, and of the second
abbrev InFirst : List Point → ℕ → Segment → Point → ℕ → Segment → Type 0
InFirst line k here p i s = ((i < k) × (slice_get (segments_of line) i ≡ Some s)) ⊎ ((i ≡ k) × (segment here.a p ≡ s))

abbrev InSecond : List Point → ℕ → ℕ → Segment → Point → ℕ → Segment → Type 0
InSecond line k d here p j s = ((0 < d + j) × (slice_get (segments_of line) (k + (d + j)) ≡ Some s)) ⊎ ((d ≡ 0) × (j ≡ 0) × (segment p here.b ≡ s))

pub here_at : (p : Point) (line : List Point) (c : Cut p line) → slice_get (segments_of line) (length c.pre) ≡ Some c.here
here_at p line c =
    let e : length c.pre + 0 ≡ length c.pre = omega arith in
    ap (λ ss. slice_get ss (length c.pre)) c.whole ∙ sym (ap (slice_get (c.pre ++ c.here ∷ c.post)) e) ∙ place_back c.pre (c.here ∷ c.post) 0

in_up_to : (p : Point) (line : List Point) (c : Cut p line) (i : ℕ) (s : Segment) → slice_get (segments_of (line_up_to p line)) i ≡ Some s → InFirst line (length c.pre) c.here p i s
in_up_to p line c i s e =
    ⊎_elim
    (λ (h : slice_get c.pre i ≡ Some s).
    inl (slice_get_within c.pre i s h, ap (λ ss. slice_get ss i) c.whole ∙ place_front c.pre (c.here ∷ c.post) i s h))
    (λ (h : (j : ℕ) × ((i ≡ length c.pre + j) × (slice_get (segment c.here.a p ∷ []) j ≡ Some s))). inr (only (segment c.here.a p) s (length c.pre) i h.0 h.1.0 h.1.1))
    (place_cases c.pre (segment c.here.a p ∷ []) i s (sym (ap (λ ss. slice_get ss i) c.first) ∙ e))
  where
    only : (r s : Segment) (k i j : ℕ) → i ≡ k + j → slice_get (r ∷ []) j ≡ Some s → (i ≡ k) × (r ≡ s)
    only r s k i zero is e = (omega arith, some_same r s e)
    only r s k i (suc j) is e = absurd (no_element s e)

in_post : (p : Point) (line : List Point) (c : Cut p line) (j : ℕ) (s : Segment) → slice_get c.post j ≡ Some s → slice_get (segments_of line) (length c.pre + suc j) ≡ Some s
in_post p line c j s e = ap (λ ss. slice_get ss (length c.pre + suc j)) c.whole ∙ place_back c.pre (c.here ∷ c.post) (suc j) ∙ e

in_from : (p : Point) (line : List Point) (c : Cut p line) (j : ℕ) (s : Segment) → slice_get (segments_of (line_from p line)) j ≡ Some s → InSecond line (length c.pre) c.skipped c.here p j s
in_from p line c j s e =
    ⊎_elim
    (λ (h : (c.skipped ≡ 0) × (segments_of (line_from p line) ≡ segment p c.here.b ∷ c.post) × (SameCoordinates p c.here.b → ⊥)).
    with_here p line c j s h.0 (sym (ap (λ ss. slice_get ss j) h.1) ∙ e))
    (λ (h : (c.skipped ≡ 1) × (segments_of (line_from p line) ≡ c.post) × SameCoordinates p c.here.b).
    let at = in_post p line c j s (sym (ap (λ ss. slice_get ss j) h.1) ∙ e) in
    let k : length c.pre + suc j ≡ length c.pre + (c.skipped + j) = omega (arith, h.0) in
    inl (omega (arith, h.0), subst (λ n. slice_get (segments_of line) n ≡ Some s) k at))
    c.second.is
  where
    with_here : (p : Point) (line : List Point) (c : Cut p line) (j : ℕ) (s : Segment) → c.skipped ≡ 0 → slice_get (segment p c.here.b ∷ c.post) j ≡ Some s → InSecond line (length c.pre) c.skipped c.here p j s
    with_here p line c zero s none e = inr (none, refl, some_same (segment p c.here.b) s e)
    with_here p line c (suc j) s none e =
        let k : length c.pre + suc j ≡ length c.pre + (c.skipped + suc j) = omega (arith, none) in
        inl (omega arith, subst (λ n. slice_get (segments_of line) n ≡ Some s) k (in_post p line c j s e))

-- ---- ends that lie on the other part
end_second : (p a b : Point) (q : RationalPoint) → IsOn (rational p) (segment a b) → IsOn q (segment a p) → IsAt b q → SameCoordinates b p
end_second p a b q on h at = from_at b p (in_both a b p (rational b) on (on_at b q (segment a p) at h) (on_end (segment p b) b (inr (joined b))))

end_first : (p a b : Point) (q : RationalPoint) → IsOn (rational p) (segment a b) → IsOn q (segment p b) → IsAt a q → SameCoordinates a p
end_first p a b q on h at = from_at a p (in_both a b p (rational a) on (on_end (segment a p) a (inl (joined a))) (on_at a q (segment p b) at h))

at_other : (b p : Point) (q : RationalPoint) → SameCoordinates b p → IsAt b q → IsAt p q
at_other b p q h k = (rw (← h.0) k.0, rw (← h.1) k.1)

same_by : (v b p : Point) → v ≡ b → SameCoordinates b p → SameCoordinates p v
same_by v b p e h = rw e (sym h.0, sym h.1)

-- ---- the parts are simple
first_simple : (p : Point) (line : List Point) (c : Cut p line) → IsSimpleLine (segments_of line) → (SameCoordinates p (last_vertex line) → ⊥)
    → (i j : ℕ) (s t : Segment) (q : RationalPoint) → i < j → InFirst line (length c.pre) c.here p i s → InFirst line (length c.pre) c.here p j t → IsOn q s → IsOn q t
    → (j ≡ i + 1) × IsAt s.b q
first_simple p line c simple far i j s t q below (inl (i_in, e)) (inl (j_in, f)) on_s on_t =
    let long : length (segments_of line) ≡ length c.pre + suc (length c.post) = ap length c.whole ∙ length-append c.pre (c.here ∷ c.post) in
    ⊎_elim
    (λ (h : (j ≡ i + 1) × IsAt s.b q). h)
    (λ (h : (i ≡ 0) × (j + 1 ≡ length (segments_of line)) × IsAt s.a q × IsAt t.b q). absurd (let l = h.1 in omega arith))
    (simple i j s t q below e f on_s on_t)
first_simple p line c simple far i j s t q below (inl (i_in, e)) (inr (j_is, g)) on_s on_t =
    let k = length c.pre in
    let here = c.here in
    let on_part : IsOn q (segment here.a p) = subst (λ r. IsOn q r) (sym g) on_t in
    let at_k = here_at p line c in
    ⊎_elim
    (λ (h : (k ≡ i + 1) × IsAt s.b q). (omega (arith, h.0), h.1))
    (λ (h : (i ≡ 0) × (k + 1 ≡ length (segments_of line)) × IsAt s.a q × IsAt here.b q).
    absurd (far (same_by (last_vertex line) here.b p (last_ends line k here at_k h.1) (end_second p here.a here.b q c.on on_part h.3))))
    (simple i k s here q i_in e at_k on_s (in_first here.a here.b p q c.on on_part))
first_simple p line c simple far i j s t q below (inr (i_is, e)) (inl (j_in, f)) on_s on_t = absurd (omega arith)
first_simple p line c simple far i j s t q below (inr (i_is, e)) (inr (j_is, f)) on_s on_t = absurd (omega arith)

second_simple : (p : Point) (line : List Point) (c : Cut p line) → IsSimpleLine (segments_of line) → (SameCoordinates p (first_vertex line) → ⊥)
    → (i j : ℕ) (s t : Segment) (q : RationalPoint) → i < j → InSecond line (length c.pre) c.skipped c.here p i s → InSecond line (length c.pre) c.skipped c.here p j t → IsOn q s → IsOn q t
    → (j ≡ i + 1) × IsAt s.b q
second_simple p line c simple far i j s t q below (inl (i_in, e)) (inl (j_in, f)) on_s on_t =
    let k = length c.pre in
    let d = c.skipped in
    ⊎_elim
    (λ (h : (k + (d + j) ≡ k + (d + i) + 1) × IsAt s.b q). (omega (arith, h.0), h.1))
    (λ (h : (k + (d + i) ≡ 0) × (k + (d + j) + 1 ≡ length (segments_of line)) × IsAt s.a q × IsAt t.b q). absurd (omega (arith, h.0, i_in)))
    (simple (k + (d + i)) (k + (d + j)) s t q (omega arith) e f on_s on_t)
second_simple p line c simple far i j s t q below (inr (none, i_is, g)) (inl (j_in, f)) on_s on_t =
    let k = length c.pre in
    let d = c.skipped in
    let here = c.here in
    let on_part : IsOn q (segment p here.b) = subst (λ r. IsOn q r) (sym g) on_s in
    let at_k = here_at p line c in
    ⊎_elim
    (λ (h : (k + (d + j) ≡ k + 1) × IsAt here.b q). (omega (arith, h.0, none, i_is), subst (λ (r : Segment). IsAt r.b q) g h.1))
    (λ (h : (k ≡ 0) × (k + (d + j) + 1 ≡ length (segments_of line)) × IsAt here.a q × IsAt t.b q).
    let at_0 : slice_get (segments_of line) 0 ≡ Some here = subst (λ n. slice_get (segments_of line) n ≡ Some here) h.0 at_k in
    absurd (far (same_by (first_vertex line) here.a p (first_begins line here at_0) (end_first p here.a here.b q c.on on_part h.2))))
    (simple k (k + (d + j)) here t q (omega arith) at_k f (in_second here.a here.b p q c.on on_part) on_t)
second_simple p line c simple far i j s t q below (inl (i_in, e)) (inr (none, j_is, f)) on_s on_t = absurd (omega arith)
second_simple p line c simple far i j s t q below (inr (none, i_is, e)) (inr (none', j_is, f)) on_s on_t = absurd (omega arith)

pub up_to_simple : (p : Point) (line : List Point) → Cut p line → IsSimpleLine (segments_of line) → (SameCoordinates p (last_vertex line) → ⊥) → IsSimpleLine (segments_of (line_up_to p line))
up_to_simple p line c simple far i j s t q below e f on_s on_t = inl (first_simple p line c simple far i j s t q below (in_up_to p line c i s e) (in_up_to p line c j t f) on_s on_t)

pub from_simple : (p : Point) (line : List Point) → Cut p line → IsSimpleLine (segments_of line) → (SameCoordinates p (first_vertex line) → ⊥) → IsSimpleLine (segments_of (line_from p line))
from_simple p line c simple far i j s t q below e f on_s on_t = inl (second_simple p line c simple far i j s t q below (in_from p line c i s e) (in_from p line c j t f) on_s on_t)

-- ---- and have p in common, and the ends of a closed line
abbrev pub IsAtCut : Point → List Point → RationalPoint → Type 0
IsAtCut p line q = IsAt p q ⊎ (IsAt (first_vertex line) q × IsAt (last_vertex line) q)

closes : (p : Point) (line : List Point) (i j : ℕ) (s t : Segment) (q : RationalPoint) → slice_get (segments_of line) i ≡ Some s → slice_get (segments_of line) j ≡ Some t
    → i ≡ 0 → j + 1 ≡ length (segments_of line) → IsAt s.a q → IsAt t.b q → IsAtCut p line q
closes p line i j s t q e f is last a b =
    let e' : slice_get (segments_of line) 0 ≡ Some s = subst (λ n. slice_get (segments_of line) n ≡ Some s) is e in
    inr (subst (λ v. IsAt v q) (sym (first_begins line s e')) a, subst (λ v. IsAt v q) (sym (last_ends line j t f last)) b)

common : (p : Point) (line : List Point) (c : Cut p line) → IsSimpleLine (segments_of line)
    → (i j : ℕ) (s t : Segment) (q : RationalPoint) → InFirst line (length c.pre) c.here p i s → InSecond line (length c.pre) c.skipped c.here p j t → IsOn q s → IsOn q t → IsAtCut p line q
common p line c simple i j s t q (inl (i_in, e)) (inl (j_in, f)) on_s on_t =
    let k = length c.pre in
    let d = c.skipped in
    ⊎_elim
    (λ (h : (k + (d + j) ≡ i + 1) × IsAt s.b q). absurd (omega (arith, h.0, j_in, i_in)))
    (λ (h : (i ≡ 0) × (k + (d + j) + 1 ≡ length (segments_of line)) × IsAt s.a q × IsAt t.b q). closes p line i (k + (d + j)) s t q e f h.0 h.1 h.2 h.3)
    (simple i (k + (d + j)) s t q (omega arith) e f on_s on_t)
common p line c simple i j s t q (inl (i_in, e)) (inr (none, j_is, g)) on_s on_t =
    let k = length c.pre in
    let here = c.here in
    let on_part : IsOn q (segment p here.b) = subst (λ r. IsOn q r) (sym g) on_t in
    let at_k = here_at p line c in
    ⊎_elim
    (λ (h : (k ≡ i + 1) × IsAt s.b q).
    let e' : k ≡ suc i = omega (arith, h.0) in
    let b = before_it line i here (subst (λ n. slice_get (segments_of line) n ≡ Some here) e' at_k) in
    let same : b.0 ≡ s = some_same b.0 s (sym b.1.0 ∙ e) in
    let at : IsAt here.a q = subst (λ v. IsAt v q) (ap (λ (r : Segment). r.b) (sym same) ∙ b.1.1) h.1 in
    inl (at_other here.a p q (end_first p here.a here.b q c.on on_part at) at))
    (λ (h : (i ≡ 0) × (k + 1 ≡ length (segments_of line)) × IsAt s.a q × IsAt here.b q). closes p line i k s here q e at_k h.0 h.1 h.2 h.3)
    (simple i k s here q i_in e at_k on_s (in_second here.a here.b p q c.on on_part))
common p line c simple i j s t q (inr (i_is, g)) (inl (j_in, f)) on_s on_t =
    let k = length c.pre in
    let d = c.skipped in
    let here = c.here in
    let on_part : IsOn q (segment here.a p) = subst (λ r. IsOn q r) (sym g) on_s in
    let at_k = here_at p line c in
    ⊎_elim
    (λ (h : (k + (d + j) ≡ k + 1) × IsAt here.b q). inl (at_other here.b p q (end_second p here.a here.b q c.on on_part h.1) h.1))
    (λ (h : (k ≡ 0) × (k + (d + j) + 1 ≡ length (segments_of line)) × IsAt here.a q × IsAt t.b q). closes p line k (k + (d + j)) here t q at_k f h.0 h.1 h.2 h.3)
    (simple k (k + (d + j)) here t q (omega arith) at_k f (in_first here.a here.b p q c.on on_part) on_t)
common p line c simple i j s t q (inr (i_is, g)) (inr (none, j_is, g')) on_s on_t =
    inl (in_both c.here.a c.here.b p q c.on (subst (λ r. IsOn q r) (sym g) on_s) (subst (λ r. IsOn q r) (sym g') on_t))

pub cut_common : (p : Point) (line : List Point) → Cut p line → IsSimpleLine (segments_of line) → (q : RationalPoint) → IsOnLine q (line_up_to p line) → IsOnLine q (line_from p line) → IsAtCut p line q
cut_common p line c simple q (s, (cs, on_s)) (t, (ct, on_t)) =
    let i = place_of s (segments_of (line_up_to p line)) cs in
    let j = place_of t (segments_of (line_from p line)) ct in
    common p line c simple i.0 j.0 s t q (in_up_to p line c i.0 s i.1) (in_from p line c j.0 t j.1) on_s on_t

-- ---- each part lies on the line
pub up_to_on : (p : Point) (line : List Point) → Cut p line → (q : RationalPoint) → IsOnLine q (line_up_to p line) → IsOnLine q line
up_to_on p line c q (s, (cs, on_s)) =
    let i = place_of s (segments_of (line_up_to p line)) cs in
    let here = c.here in
    ⊎_elim
    (λ (h : (i.0 < length c.pre) × (slice_get (segments_of line) i.0 ≡ Some s)). (s, (at_place s (segments_of line) i.0 h.1, on_s)))
    (λ (h : (i.0 ≡ length c.pre) × (segment here.a p ≡ s)).
    (here, (at_place here (segments_of line) (length c.pre) (here_at p line c), in_first here.a here.b p q c.on (subst (λ r. IsOn q r) (sym h.1) on_s))))
    (in_up_to p line c i.0 s i.1)

pub from_on : (p : Point) (line : List Point) → Cut p line → (q : RationalPoint) → IsOnLine q (line_from p line) → IsOnLine q line
from_on p line c q (s, (cs, on_s)) =
    let j = place_of s (segments_of (line_from p line)) cs in
    let here = c.here in
    let k = length c.pre + (c.skipped + j.0) in
    ⊎_elim
    (λ (h : (0 < c.skipped + j.0) × (slice_get (segments_of line) k ≡ Some s)). (s, (at_place s (segments_of line) k h.1, on_s)))
    (λ (h : (c.skipped ≡ 0) × (j.0 ≡ 0) × (segment p here.b ≡ s)).
    (here, (at_place here (segments_of line) (length c.pre) (here_at p line c), in_second here.a here.b p q c.on (subst (λ r. IsOn q r) (sym h.2) on_s))))
    (in_from p line c j.0 s j.1)

-- ---- the ends lie on the parts
first_on : (line : List Point) (s : Segment) → Contains (segments_of line) s → IsOnLine (rational (first_vertex line)) line
first_on [] s c = absurd (contains_none s c)
first_on (a ∷ []) s c = absurd (contains_none s c)
first_on (a ∷ b ∷ rest) s c = (segment a b, (contains_here (segment a b) (segments_of (b ∷ rest)), on_end (segment a b) a (inl (joined a))))

last_on : (line : List Point) (s : Segment) → Contains (segments_of line) s → IsOnLine (rational (last_vertex line)) line
last_on [] s c = absurd (contains_none s c)
last_on (a ∷ []) s c = absurd (contains_none s c)
last_on (a ∷ b ∷ []) s c = (segment a b, (contains_here (segment a b) [], on_end (segment a b) b (inr (joined b))))
last_on (a ∷ b ∷ d ∷ rest) s c =
    let r = last_on (b ∷ d ∷ rest) (segment b d) (contains_here (segment b d) (segments_of (d ∷ rest))) in
    (r.0, (contains_there r.0 (segment a b) (segments_of (b ∷ d ∷ rest)) r.1.0, r.1.1))

pub first_on_up_to : (p : Point) (line : List Point) → Cut p line → IsOnLine (rational (first_vertex line)) (line_up_to p line)
first_on_up_to p line c =
    let part = segment c.here.a p in
    subst (λ v. IsOnLine (rational v) (line_up_to p line)) c.up_first
    (first_on (line_up_to p line) part (subst (λ ss. Contains ss part) (sym c.first) (Contains-push c.pre part)))

some_after : (p : Point) (line : List Point) (c : Cut p line) (post : List Segment) → post ≡ c.post → (SameCoordinates p (last_vertex line) → ⊥) → SameCoordinates p c.here.b → (s : Segment) × Contains post s
some_after p line c [] is far at =
    let long : length (segments_of line) ≡ length c.pre + suc (length c.post) = ap length c.whole ∙ length-append c.pre (c.here ∷ c.post) in
    let none : 0 ≡ length c.post = ap length is in
    let e = last_ends line (length c.pre) c.here (here_at p line c) (omega arith) in
    absurd (far (rw e at))
some_after p line c (s ∷ post) is far at = (s, contains_here s post)

pub last_on_from : (p : Point) (line : List Point) → Cut p line → (SameCoordinates p (last_vertex line) → ⊥) → IsOnLine (rational (last_vertex line)) (line_from p line)
last_on_from p line c far =
    let rest = line_from p line in
    let here = c.here in
    let some : (s : Segment) × Contains (segments_of rest) s =
    ⊎_elim
    (λ (h : (c.skipped ≡ 0) × (segments_of rest ≡ segment p here.b ∷ c.post) × (SameCoordinates p here.b → ⊥)).
    (segment p here.b, subst (λ ss. Contains ss (segment p here.b)) (sym h.1) (contains_here (segment p here.b) c.post)))
    (λ (h : (c.skipped ≡ 1) × (segments_of rest ≡ c.post) × SameCoordinates p here.b).
    let r = some_after p line c c.post refl far h.2 in (r.0, subst (λ ss. Contains ss r.0) (sym h.1) r.1))
    c.second.is in
    subst (λ v. IsOnLine (rational v) rest) c.from_last (last_on rest some.0 some.1)

-- ---- neighbouring vertices of the parts differ
pub proper_up_to : (p : Point) (line : List Point) → Cut p line → (SameCoordinates p (first_vertex line) → ⊥) → list_all is_proper (segments_of line) ≡ true → list_all is_proper (segments_of (line_up_to p line)) ≡ true
proper_up_to p line c far h = subst (λ ss. list_all is_proper ss ≡ true) (sym c.first) (c.proper_first far h)

pub proper_from : (p : Point) (line : List Point) → Cut p line → list_all is_proper (segments_of line) ≡ true → list_all is_proper (segments_of (line_from p line)) ≡ true
proper_from p line c h =
    let rest = line_from p line in
    let here = c.here in
    ⊎_elim
    (λ (k : (c.skipped ≡ 0) × (segments_of rest ≡ segment p here.b ∷ c.post) × (SameCoordinates p here.b → ⊥)).
    subst (λ ss. list_all is_proper ss ≡ true) (sym k.1) (and_from (is_proper (segment p here.b)) (list_all is_proper c.post) (differ_proper p here.b k.2) (c.proper_rest h)))
    (λ (k : (c.skipped ≡ 1) × (segments_of rest ≡ c.post) × SameCoordinates p here.b). subst (λ ss. list_all is_proper ss ≡ true) (sym k.1) (c.proper_rest h))
    c.second.is
