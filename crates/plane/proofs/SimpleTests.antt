-- The test that a line is simple says what its name says.
use Rattle.std.proofs.Common.{◌≡◌, ℕ, zero, suc, ◌+◌, ◌<◌, refl, sym, ◌∙◌, ap, subst, arith, ◌⊎◌, inl, inr, ⊎_elim, true, not, ◌&&◌, ◌||◌, List, [], ◌∷◌, length, slice_get, Some, None}
use Rattle.std.specs.List.{list_all, All}
use Rattle.std.specs.Bool.{Decides}
use Rattle.std.proofs.lemmas.Bool.Decides.{Decides-and, Decides-or, Decides-not, Decides-like}
use Rattle.topo_base.specs.Point.{Point, same_point}
use Rattle.topo_base.specs.RationalPoint.{RationalPoint, rational, IsAt}
use Rattle.plane.specs.Segment.{Segment, touches, touches_at}
use Rattle.plane.specs.Line.{first_vertex, segments_of, is_proper, joins, is_apart_from, are_simple, is_simple}
use Rattle.plane.specs.RationalTests.{IsOn}
use Rattle.plane.specs.Relation.{IsShared, IsProper, HaveOne, MeetAt, SameCoordinates}
use Rattle.plane.specs.SimpleLine.{IsSimpleLine}
use Rattle.plane.proofs.PointTests.{Decides-same_point}
use Rattle.plane.proofs.Relations.{on_end, joined, same_end}
use Rattle.plane.proofs.ListTests.{Decides-all, all_at, some_same}
use Rattle.plane.proofs.MeetTests.{Decides-touches_at, alone, at_one, only_two, one_or_none}
use Rattle.plane.proofs.TouchTests.{Decides-touches}

pub Decides-proper : (s : Segment) → Decides (is_proper s) (IsProper s)
Decides-proper s =
    let d = Decides-not (same_point s.a s.b) (Decides-same_point s.a s.b) in
    (λ h. λ e f. d.0 h (e, f), λ (ps : IsProper s). d.1 (λ (e : SameCoordinates s.a s.b). ps e.0 e.1))

-- s begins at p, t ends there, and q is p
pub record Closes (p : Point) (s t : Segment) (q : RationalPoint) : Type 0 where
  pub begins : SameCoordinates s.a p
  pub ends : SameCoordinates t.b p
  pub at : IsAt p q

abbrev OnlyCloses : Point → Segment → Segment → Type 0
OnlyCloses p s t = (q : RationalPoint) → IsShared s t q → Closes p s t q

closing_test : (p : Point) (s t : Segment) → Decides (not (touches s t) || same_point s.a p && same_point t.b p && touches_at p s t) (OnlyCloses p s t)
closing_test p s t =
    let none = Decides-not (touches s t) (Decides-touches s t) in
    let ends = Decides-and (same_point s.a p) (same_point t.b p) (Decides-same_point s.a p) (Decides-same_point t.b p) in
    let closed = Decides-and (same_point s.a p && same_point t.b p) (touches_at p s t) ends (Decides-touches_at p s t) in
    Decides-like (not (touches s t) || same_point s.a p && same_point t.b p && touches_at p s t) to_only from_only
    (Decides-or (not (touches s t)) (same_point s.a p && same_point t.b p && touches_at p s t) none closed)
  where
    to_only : (HaveOne s t → ⊥) ⊎ ((SameCoordinates s.a p × SameCoordinates t.b p) × MeetAt p s t) → OnlyCloses p s t
    to_only w q on =
        ⊎_elim
        (λ (h : HaveOne s t → ⊥). absurd (h (q, on)))
        (λ (h : (SameCoordinates s.a p × SameCoordinates t.b p) × MeetAt p s t). record { begins = h.0.0; ends = h.0.1; at = h.1.1 q on })
        w

    from_only : OnlyCloses p s t → (HaveOne s t → ⊥) ⊎ ((SameCoordinates s.a p × SameCoordinates t.b p) × MeetAt p s t)
    from_only f =
        ⊎_elim
        (λ (h : HaveOne s t).
        let c = f h.0 h.1 in
        inr ((c.begins, c.ends), at_one p p s t h.0 h.1 c.at (only_two p p s t (λ r on. inl (f r on).at))))
        (λ (h : HaveOne s t → ⊥). inl h)
        (one_or_none s t)

pub no_element : {X : Type 0} (x : X) → None ≡ Some x → ⊥
no_element x e = cc

-- s has no point in common with these, but that the last may close the line
abbrev AwayFrom : Point → Segment → List Segment → Type 0
AwayFrom p s ts = (j : ℕ) (t : Segment) (q : RationalPoint) → slice_get ts j ≡ Some t → IsShared s t q → (j + 1 ≡ length ts) × Closes p s t q

away_last : (p : Point) (s u : Segment) → OnlyCloses p s u → AwayFrom p s (u ∷ [])
away_last p s u f zero t q e on = (refl, subst (λ v. Closes p s v q) (some_same u t e) (f q (subst (λ v. IsShared s v q) (sym (some_same u t e)) on)))
away_last p s u f (suc j) t q e on = absurd (no_element t e)

away_more : (p : Point) (s u v : Segment) (ts : List Segment) → (HaveOne s u → ⊥) → AwayFrom p s (v ∷ ts) → AwayFrom p s (u ∷ v ∷ ts)
away_more p s u v ts none f zero t q e on = absurd (none (q, subst (λ w. IsShared s w q) (sym (some_same u t e)) on))
away_more p s u v ts none f (suc j) t q e on = let k = f j t q e on in (omega (arith, k.0), k.1)

away_test : (p : Point) (s : Segment) (ts : List Segment) → Decides (is_apart_from p s ts) (AwayFrom p s ts)
away_test p s [] = (λ h. λ j t q e on. absurd (no_element t e), λ f. refl)
away_test p s (t ∷ []) =
    Decides-like (is_apart_from p s (t ∷ [])) (away_last p s t) (λ (f : AwayFrom p s (t ∷ [])). λ q on. (f 0 t q refl on).1) (closing_test p s t)
away_test p s (t ∷ u ∷ ts) =
    Decides-like (is_apart_from p s (t ∷ u ∷ ts))
    (λ (h : (HaveOne s t → ⊥) × AwayFrom p s (u ∷ ts)). away_more p s t u ts h.0 h.1)
    (λ (f : AwayFrom p s (t ∷ u ∷ ts)). (
      λ (h : HaveOne s t). not_last (length ts) (f 0 t h.0 refl h.1).0,
      λ j v q e on. let k = f (suc j) v q e on in (omega (arith, k.0), k.1),
    ))
    (Decides-and (not (touches s t)) (is_apart_from p s (u ∷ ts)) (Decides-not (touches s t) (Decides-touches s t)) (away_test p s (u ∷ ts)))
  where
    not_last : (n : ℕ) → 0 + 1 ≡ suc (suc n) → ⊥
    not_last n e = omega (arith, e)

-- each two that have a common point are neighbours with the vertex between them, or close the line
abbrev Pairwise : Point → List Segment → Type 0
Pairwise p ss =
    (i j : ℕ) (s t : Segment) (q : RationalPoint) → i < j → slice_get ss i ≡ Some s → slice_get ss j ≡ Some t → IsShared s t q
    → ((j ≡ i + 1) × IsAt s.b q) ⊎ ((j + 1 ≡ length ss) × Closes p s t q)

pairwise_one : (p : Point) (r : Segment) → Pairwise p (r ∷ [])
pairwise_one p r i zero s t q below e f on = absurd (omega arith)
pairwise_one p r i (suc j) s t q below e f on = absurd (no_element t f)

pairwise_more : (p : Point) (u v : Segment) (ts : List Segment) → MeetAt u.b u v → AwayFrom p u ts → Pairwise p (v ∷ ts) → Pairwise p (u ∷ v ∷ ts)
pairwise_more p u v ts meet away rest i zero s t q below e f on = absurd (omega arith)
pairwise_more p u v ts meet away rest zero (suc zero) s t q below e f on =
    let e' = some_same u s e in
    let f' = some_same v t f in
    inl (refl, subst (λ w. IsAt w.b q) e' (meet.1 q (subst (λ w. IsOn q w) (sym e') on.0, subst (λ w. IsOn q w) (sym f') on.1)))
pairwise_more p u v ts meet away rest zero (suc (suc j)) s t q below e f on =
    let e' = some_same u s e in
    let k = away j t q f (subst (λ w. IsOn q w) (sym e') on.0, on.1) in
    inr (omega (arith, k.0), subst (λ w. Closes p w t q) e' k.1)
pairwise_more p u v ts meet away rest (suc i) (suc j) s t q below e f on =
    ⊎_elim
    (λ (h : (j ≡ i + 1) × IsAt s.b q). inl (omega (arith, h.0), h.1))
    (λ (h : (j + 1 ≡ length (v ∷ ts)) × Closes p s t q). inr (omega (arith, h.0), h.1))
    (rest i j s t q (omega arith) e f on)

pairwise_meet : (p : Point) (u v : Segment) (ts : List Segment) → SameCoordinates u.b v.a → Pairwise p (u ∷ v ∷ ts) → MeetAt u.b u v
pairwise_meet p u v ts next f =
    alone u.b u v
    (on_end u u.b (inr (joined u.b)), on_end v u.b (inl next))
    (only_two u.b p u v
    (λ q on.
    ⊎_elim
    (λ (h : (1 ≡ 0 + 1) × IsAt u.b q). inl h.1)
    (λ (h : (1 + 1 ≡ length (u ∷ v ∷ ts)) × Closes p u v q). inr h.1.at)
    (f 0 1 u v q (omega arith) refl refl on)))

pairwise_away : (p : Point) (u v : Segment) (ts : List Segment) → Pairwise p (u ∷ v ∷ ts) → AwayFrom p u ts
pairwise_away p u v ts f j t q e on =
    ⊎_elim
    (λ (h : (suc (suc j) ≡ 0 + 1) × IsAt u.b q). absurd (omega (arith, h.0)))
    (λ (h : (suc (suc j) + 1 ≡ length (u ∷ v ∷ ts)) × Closes p u t q). (omega (arith, h.0), h.1))
    (f 0 (suc (suc j)) u t q (omega arith) refl e on)

pairwise_rest : (p : Point) (u v : Segment) (ts : List Segment) → Pairwise p (u ∷ v ∷ ts) → Pairwise p (v ∷ ts)
pairwise_rest p u v ts f i j s t q below e g on =
    ⊎_elim
    (λ (h : (suc j ≡ suc i + 1) × IsAt s.b q). inl (omega (arith, h.0), h.1))
    (λ (h : (suc j + 1 ≡ length (u ∷ v ∷ ts)) × Closes p s t q). inr (omega (arith, h.0), h.1))
    (f (suc i) (suc j) s t q (omega arith) e g on)

pairwise_test : (p : Point) (line : List Point) → Decides (are_simple p (segments_of line)) (Pairwise p (segments_of line))
pairwise_test p [] = (λ h. λ i j s t q below e f on. absurd (no_element s e), λ f. refl)
pairwise_test p (a ∷ []) = (λ h. λ i j s t q below e f on. absurd (no_element s e), λ f. refl)
pairwise_test p (a ∷ b ∷ []) = (λ h. pairwise_one p (record { a = a; b = b }), λ f. refl)
pairwise_test p (a ∷ b ∷ c ∷ ps) =
    let u : Segment = record { a = a; b = b } in
    let v : Segment = record { a = b; b = c } in
    let ts = segments_of (c ∷ ps) in
    let first = Decides-and (joins u v) (is_apart_from p u ts) (Decides-touches_at b u v) (away_test p u ts) in
    let all = Decides-and (joins u v && is_apart_from p u ts) (are_simple p (v ∷ ts)) first (pairwise_test p (b ∷ c ∷ ps)) in
    Decides-like (are_simple p (u ∷ v ∷ ts))
    (λ (h : (MeetAt b u v × AwayFrom p u ts) × Pairwise p (v ∷ ts)). pairwise_more p u v ts h.0.0 h.0.1 h.1)
    (λ (f : Pairwise p (u ∷ v ∷ ts)). ((pairwise_meet p u v ts (joined b) f, pairwise_away p u v ts f), pairwise_rest p u v ts f))
    all

-- ---- the closing pair is the first segment and the last
-- the segment before one ends where that begins
pub before_it : (line : List Point) (k : ℕ) (s : Segment) → slice_get (segments_of line) (suc k) ≡ Some s → (r : Segment) × ((slice_get (segments_of line) k ≡ Some r) × (r.b ≡ s.a))
before_it [] k s e = absurd (no_element s e)
before_it (a ∷ []) k s e = absurd (no_element s e)
before_it (a ∷ b ∷ []) k s e = absurd (no_element s e)
before_it (a ∷ b ∷ c ∷ ps) zero s e = (record { a = a; b = b }, (refl, ap (λ (w : Segment). w.a) (some_same (record { a = b; b = c }) s e)))
before_it (a ∷ b ∷ c ∷ ps) (suc k) s e = before_it (b ∷ c ∷ ps) k s e

-- the first one begins at the first vertex
pub first_begins : (line : List Point) (s : Segment) → slice_get (segments_of line) 0 ≡ Some s → first_vertex line ≡ s.a
first_begins [] s e = absurd (no_element s e)
first_begins (a ∷ []) s e = absurd (no_element s e)
first_begins (a ∷ b ∷ ps) s e = ap (λ (w : Segment). w.a) (some_same (record { a = a; b = b }) s e)

place_by : (p r : Point) (q : RationalPoint) → SameCoordinates r p → IsAt p q → IsAt r q
place_by p r q h k = (rw h.0 k.0, rw h.1 k.1)

through : (p r u : Point) → SameCoordinates p r → SameCoordinates r u → SameCoordinates p u
through p r u h k = (h.0 ∙ k.0, h.1 ∙ k.1)

round_about : (p r : Point) → SameCoordinates p r → SameCoordinates r p
round_about p r h = (sym h.0, sym h.1)

equal_points : (p r : Point) → p ≡ r → SameCoordinates p r
equal_points p r e = (ap (λ (w : Point). w.x) e, ap (λ (w : Point). w.y) e)

-- a segment that is not the first cannot begin where the last ends, at the first vertex
not_later : (line : List Point) (p : Point) (k j : ℕ) (s t : Segment) → list_all is_proper (segments_of line) ≡ true → Pairwise p (segments_of line)
    → suc k < j → slice_get (segments_of line) (suc k) ≡ Some s → slice_get (segments_of line) j ≡ Some t → SameCoordinates s.a p → SameCoordinates t.b p → ⊥
not_later line p k j s t proper pairs below e f begins ends =
    let b = before_it line k s e in
    let r = b.0 in
    let turn : SameCoordinates r.b p = through r.b s.a p (equal_points r.b s.a b.1.1) begins in
    ⊎_elim
    (λ (h : (j ≡ k + 1) × IsAt r.b (rational p)). absurd (omega (arith, h.0)))
    (λ (h : (j + 1 ≡ length (segments_of line)) × Closes p r t (rational p)).
    let back = through r.a p r.b h.1.begins (round_about r.b p turn) in
    (Decides-proper r).0 (all_at is_proper (segments_of line) k r proper b.1.0) back.0 back.1)
    (pairs k j r t (rational p) (omega arith) b.1.0 f (on_end r p (inr (round_about r.b p turn)), on_end t p (inr (round_about t.b p ends))))

closing_pair : (line : List Point) (i j : ℕ) (s t : Segment) (q : RationalPoint) → list_all is_proper (segments_of line) ≡ true → Pairwise (first_vertex line) (segments_of line)
    → i < j → slice_get (segments_of line) i ≡ Some s → slice_get (segments_of line) j ≡ Some t → j + 1 ≡ length (segments_of line) → Closes (first_vertex line) s t q
    → (i ≡ 0) × (j + 1 ≡ length (segments_of line)) × IsAt s.a q × IsAt t.b q
closing_pair line zero j s t q proper pairs below e f last c =
    (refl, last, place_by (first_vertex line) s.a q c.begins c.at, place_by (first_vertex line) t.b q c.ends c.at)
closing_pair line (suc k) j s t q proper pairs below e f last c = absurd (not_later line (first_vertex line) k j s t proper pairs below e f c.begins c.ends)

pairwise_simple : (line : List Point) → list_all is_proper (segments_of line) ≡ true → Pairwise (first_vertex line) (segments_of line) → IsSimpleLine (segments_of line)
pairwise_simple line proper pairs i j s t q below e f hs ht =
    ⊎_elim
    (λ (h : (j ≡ i + 1) × IsAt s.b q). inl h)
    (λ (h : (j + 1 ≡ length (segments_of line)) × Closes (first_vertex line) s t q). inr (closing_pair line i j s t q proper pairs below e f h.0 h.1))
    (pairs i j s t q below e f (hs, ht))

simple_pairwise : (line : List Point) → IsSimpleLine (segments_of line) → Pairwise (first_vertex line) (segments_of line)
simple_pairwise line simple i j s t q below e f on =
    ⊎_elim
    (λ (h : (j ≡ i + 1) × IsAt s.b q). inl h)
    (λ (h : (i ≡ 0) × (j + 1 ≡ length (segments_of line)) × IsAt s.a q × IsAt t.b q).
    let first = subst (λ k. slice_get (segments_of line) k ≡ Some s) h.0 e in
    let begins = round_about (first_vertex line) s.a (equal_points (first_vertex line) s.a (first_begins line s first)) in
    inr (
      h.1,
      record {
        begins = begins;
        ends = through t.b s.a (first_vertex line) (same_end q t.b s.a h.3 h.2) begins;
        at = place_by s.a (first_vertex line) q (round_about s.a (first_vertex line) begins) h.2;
      },
    ))
    (simple i j s t q below e f on.0 on.1)

-- neighbouring vertices differ, and the line does not touch itself
abbrev pub SimplySo : List Point → Type 0
SimplySo line = All IsProper (segments_of line) × IsSimpleLine (segments_of line)

pub Decides-simple : (line : List Point) → Decides (is_simple line) (SimplySo line)
Decides-simple line =
    let proper = Decides-all is_proper IsProper Decides-proper (segments_of line) in
    let pairs = pairwise_test (first_vertex line) line in
    let all = Decides-and (list_all is_proper (segments_of line)) (are_simple (first_vertex line) (segments_of line)) proper pairs in (
      λ h. let k = all.0 h in (k.0, pairwise_simple line (proper.1 k.0) k.1),
      λ (k : SimplySo line). all.1 (k.0, simple_pairwise line k.1),
    )
