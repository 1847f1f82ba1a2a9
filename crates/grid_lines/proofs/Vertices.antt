-- The segments of a line from one of its vertices on.
use Rattle.std.proofs.Common.{◌≡◌, ◌≢◌, ℕ, ◌+◌, ◌<◌, ◌≤◌, refl, sym, ◌∙◌, ap, arith, List, [], ◌∷◌, length, drop, get_or, ⊎_elim, true, false, not, ◌&&◌, zero, suc, add-one}
use Rattle.std.specs.List.{list_all}
use Rattle.std.proofs.lemmas.Bool.{and_parts, cases_lt}
use Rattle.topo_base.specs.Point.{Point, same_point}
use Rattle.plane.specs.Segment.{Segment, touches}
use Rattle.plane.specs.Line.{segments_of, first_vertex, last_vertex, is_proper, joins, is_apart_from, are_simple}
use Rattle.grid_lines.proofs.Links.{is_apart_or_closes}
use Rattle.plane.proofs.PointTests.{Decides-same_point}

segments_suc : (vs : List Point) (i : ℕ) → suc i < length vs
    → segments_of (drop i vs) ≡ record { a = first_vertex (drop i vs); b = first_vertex (drop (suc i) vs) } ∷ segments_of (drop (suc i) vs)
segments_suc [] i h = absurd (omega arith)
segments_suc (p ∷ []) i h = absurd (omega arith)
segments_suc (p ∷ q ∷ ps) zero h = refl
segments_suc (p ∷ q ∷ ps) (suc i) h = segments_suc (q ∷ ps) i (omega arith)

-- the first of them, and the others
pub segments_at : (vs : List Point) (i : ℕ) → i + 1 < length vs
    → segments_of (drop i vs) ≡ record { a = first_vertex (drop i vs); b = first_vertex (drop (i + 1) vs) } ∷ segments_of (drop (i + 1) vs)
segments_at vs i h = rw add-one (segments_suc vs i (omega arith))

-- a vertex by its index
pub vertex_at : (vs : List Point) (i : ℕ) (r : Point) → i < length vs → r ≡ get_or vs i r → r ≡ first_vertex (drop i vs)
vertex_at [] i r h e = absurd (omega arith)
vertex_at (p ∷ ps) zero r h e = e
vertex_at (p ∷ ps) (suc i) r h e = vertex_at ps i r (omega arith) e

pub vertex_last : (vs : List Point) (i : ℕ) (r : Point) → i + 1 ≡ length vs → r ≡ get_or vs i r → r ≡ last_vertex vs
vertex_last [] i r h e = absurd (omega arith)
vertex_last (p ∷ []) zero r h e = e
vertex_last (p ∷ []) (suc i) r h e = absurd (omega arith)
vertex_last (p ∷ q ∷ ps) zero r h e = absurd (omega arith)
vertex_last (p ∷ q ∷ ps) (suc i) r h e = vertex_last (q ∷ ps) i r (omega arith) e

-- the segment from the vertex u to v, where these are neighbours, is the next
pub segment_is : (vs : List Point) (i : ℕ) (u v : Point) → i + 1 < length vs → u ≡ get_or vs i u → v ≡ get_or vs (i + 1) v
    → segments_of (drop i vs) ≡ record { a = u; b = v } ∷ segments_of (drop (i + 1) vs)
segment_is vs i u v h e f =
    let a : u ≡ first_vertex (drop i vs) = vertex_at vs i u (omega arith) e in
    let b : v ≡ first_vertex (drop (i + 1) vs) = vertex_at vs (i + 1) v h f in
    segments_at vs i h ∙ ap (λ s. s ∷ segments_of (drop (i + 1) vs)) (cc (a, b))

-- segments that are all proper are so from a vertex on
pub proper_from : (vs : List Point) (i : ℕ) → list_all is_proper (segments_of vs) ≡ true → list_all is_proper (segments_of (drop i vs)) ≡ true
proper_from [] zero h = h
proper_from [] (suc i) h = h
proper_from (p ∷ []) zero h = h
proper_from (p ∷ []) (suc i) h = proper_from [] i refl
proper_from (p ∷ q ∷ ps) zero h = h
proper_from (p ∷ q ∷ ps) (suc i) h = proper_from (q ∷ ps) i (and_parts (is_proper (record { a = p; b = q })) (list_all is_proper (segments_of (q ∷ ps))) h).1

-- none from the last vertex on
pub segments_end : (vs : List Point) (i : ℕ) → length vs ≤ i + 1 → segments_of (drop i vs) ≡ []
segments_end [] zero h = refl
segments_end [] (suc i) h = refl
segments_end (p ∷ []) zero h = refl
segments_end (p ∷ []) (suc i) h = segments_end [] i (omega arith)
segments_end (p ∷ q ∷ ps) zero h = absurd (omega arith)
segments_end (p ∷ q ∷ ps) (suc i) h = segments_end (q ∷ ps) i (omega arith)

-- and where they are all proper, it is
pub proper_at : (vs : List Point) (i : ℕ) (u v : Point) → i + 1 < length vs → u ≡ get_or vs i u → v ≡ get_or vs (i + 1) v
    → list_all is_proper (segments_of vs) ≡ true → is_proper (record { a = u; b = v }) ≡ true
proper_at vs i u v h e f all =
    let k = rw (segment_is vs i u v h e f) at (proper_from vs i all) in
    (and_parts (is_proper (record { a = u; b = v })) (list_all is_proper (segments_of (drop (i + 1) vs))) k).0

-- so they differ
pub differ_at : (vs : List Point) (i : ℕ) (u v : Point) → i + 1 < length vs → u ≡ get_or vs i u → v ≡ get_or vs (i + 1) v
    → list_all is_proper (segments_of vs) ≡ true → u ≢ v
differ_at vs i u v h e f all same =
    let k : not (same_point u v) ≡ true = proper_at vs i u v h e f all in
    let l : same_point u v ≡ true = (Decides-same_point u v).1 (cc, cc) in
    cc

-- a point that is one with its neighbour
pub not_proper_at : (vs : List Point) (i : ℕ) (u v : Point) → i + 1 < length vs → u ≡ get_or vs i u → v ≡ get_or vs (i + 1) v
    → same_point u v ≡ true → list_all is_proper (segments_of (drop i vs)) ≡ false
not_proper_at vs i u v h e f same = rw (segment_is vs i u v h e f, same) refl

pub proper_on : (vs : List Point) (i : ℕ) (u v : Point) → i + 1 < length vs → u ≡ get_or vs i u → v ≡ get_or vs (i + 1) v
    → same_point u v ≡ false → list_all is_proper (segments_of (drop i vs)) ≡ list_all is_proper (segments_of (drop (i + 1) vs))
proper_on vs i u v h e f other = rw (segment_is vs i u v h e f, other) refl

pub proper_end : (vs : List Point) (i : ℕ) → length vs ≤ i + 1 → list_all is_proper (segments_of (drop i vs)) ≡ true
proper_end vs i h = rw (segments_end vs i h) refl

-- where a segment begins and ends
pub ends_at : (vs : List Point) (i : ℕ) (s : Segment) → i + 1 < length vs → segments_of (drop i vs) ≡ s ∷ segments_of (drop (i + 1) vs)
    → (s.a ≡ first_vertex (drop i vs)) × (s.b ≡ first_vertex (drop (i + 1) vs))
ends_at vs i s h e =
    let k = sym e ∙ segments_at vs i h in
    let is : s ≡ record { a = first_vertex (drop i vs); b = first_vertex (drop (i + 1) vs) } = cc in
    (ap (λ t. t.a) is, ap (λ t. t.b) is)

-- ---- the tests of a simple line, segment by segment
pub apart_none : (p : Point) (s : Segment) (vs : List Point) → length vs < 2 → is_apart_from p s (segments_of vs) ≡ true
apart_none p s vs h = rw (segments_end vs 0 (omega arith)) refl

apart_step : (p : Point) (s : Segment) (vs : List Point) (i : ℕ) (t : Segment) → i + 2 < length vs → segments_of (drop i vs) ≡ t ∷ segments_of (drop (i + 1) vs)
    → is_apart_from p s (segments_of (drop i vs)) ≡ (not (touches s t) && is_apart_from p s (segments_of (drop (i + 1) vs)))
apart_step p s vs i t h e =
    let k = segments_at vs (i + 1) (omega arith) in
    rw (e, k) refl

pub apart_on : (p : Point) (s : Segment) (vs : List Point) (i : ℕ) (t : Segment) → i + 2 < length vs → segments_of (drop i vs) ≡ t ∷ segments_of (drop (i + 1) vs)
    → not (touches s t) ≡ true → is_apart_from p s (segments_of (drop i vs)) ≡ is_apart_from p s (segments_of (drop (i + 1) vs))
apart_on p s vs i t h e far = apart_step p s vs i t h e ∙ ap (λ b. b && is_apart_from p s (segments_of (drop (i + 1) vs))) far

pub apart_off : (p : Point) (s : Segment) (vs : List Point) (i : ℕ) (t : Segment) → i + 2 < length vs → segments_of (drop i vs) ≡ t ∷ segments_of (drop (i + 1) vs)
    → not (touches s t) ≡ false → is_apart_from p s (segments_of (drop i vs)) ≡ false
apart_off p s vs i t h e near = apart_step p s vs i t h e ∙ ap (λ b. b && is_apart_from p s (segments_of (drop (i + 1) vs))) near

pub apart_last : (p : Point) (s : Segment) (vs : List Point) (i : ℕ) (t : Segment) → i + 2 ≡ length vs → segments_of (drop i vs) ≡ t ∷ segments_of (drop (i + 1) vs)
    → is_apart_from p s (segments_of (drop i vs)) ≡ is_apart_or_closes p s t
apart_last p s vs i t h e =
    let k = segments_end vs (i + 1) (omega arith) in
    rw (e, k) refl

pub simple_on : (p : Point) (vs : List Point) (i : ℕ) (s t : Segment) → segments_of (drop i vs) ≡ s ∷ segments_of (drop (i + 1) vs)
    → segments_of (drop (i + 1) vs) ≡ t ∷ segments_of (drop (i + 1 + 1) vs)
    → are_simple p (segments_of (drop i vs)) ≡ (joins s t && is_apart_from p s (segments_of (drop (i + 2) vs)) && are_simple p (segments_of (drop (i + 1) vs)))
simple_on p vs i s t e f =
    let two : i + 1 + 1 ≡ i + 2 = omega arith in
    let f' = rw two at f in
    rw (e, f') refl

pub simple_end : (p : Point) (vs : List Point) (i : ℕ) → length vs ≤ i + 2 → are_simple p (segments_of (drop i vs)) ≡ true
simple_end p vs i h =
    ⊎_elim
    (λ (g : i + 1 < length vs). let k = segments_at vs i g in let l = segments_end vs (i + 1) (omega arith) in rw (k, l) refl)
    (λ (g : length vs ≤ i + 1). rw (segments_end vs i g) refl)
    (cases_lt (i + 1) (length vs))
