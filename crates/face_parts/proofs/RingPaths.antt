-- The vertices of a ring of half-edges make a closed walk along their segments.
use Rattle.std.proofs.Common.{◌≡◌, ℕ, zero, suc, ◌<◌, ◌≤◌, Bool, true, false, cond, not, List, [], ◌∷◌, ◌++◌, length, filter, refl, sym, ap, ◌∙◌, subst, arith, append_assoc}
use Rattle.std.specs.Prelude.{flat_map}
use Rattle.std.specs.List.{Contains, list_all}
use Rattle.std.proofs.lemmas.Bool.{and_parts, false≢true}
use Rattle.std.proofs.lemmas.Bool.Decides.{Decides-not}
use Rattle.std.proofs.lemmas.List.{length-append, length-map}
use Rattle.topo_base.specs.Point.{Point, same_point}
use Rattle.drawing.specs.Drawing.{Drawing}
use Rattle.drawing.specs.HalfEdge.{HalfEdge, half_edges, twin, same_half_edge, dart_of}
use Rattle.plane.specs.Line.{segments_of, first_vertex, last_vertex, is_proper}
use Rattle.drawing.specs.Ring.{walk, ring_of, ring_segments}
use Rattle.plane.specs.ClosedWalk.{closed_segments}
use Rattle.drawing.specs.Star.{next_of}
use Rattle.plane.proofs.LineTurns.{first-reverse}
use Rattle.plane.proofs.PointTests.{Decides-same_point}
use Rattle.face_rings.specs.declared.content.BorderDart.{BorderDart}
use Rattle.face_rings.specs.FaceBorder.{is_beside, beside, border_dart, face_border, HasRings}
use Rattle.face_rings.proofs.FaceBorders.{has_plain_lines, half_by_dart, in_beside, has_half, border_linked}
use Rattle.face_rings.proofs.HalfLines.{HasPlainLines}
use Rattle.face_rings.proofs.HalvesApart.{half_of, line_of, one_start, twin_there}
use Rattle.face_rings.proofs.NextApart.{next_from, next_there}
use Rattle.face_rings.proofs.Orbits.{after, ComesBack, comes_back, linked_of}
use Rattle.face_rings.proofs.Ranks.{same_out, same_in}
use Rattle.face_rings.proofs.Reaching.{after_inner}
use Rattle.ring_laws.proofs.RingParts.{IsStep, step_on, next_half}
use Rattle.face_parts.specs.Paths.{without_last}
use Rattle.face_parts.proofs.Vertices.{segments-join}

-- ---- half-edges of which each begins where the one before it ends
abbrev pub points_of : List HalfEdge → List Point
points_of ks = flat_map (λ (k : HalfEdge). without_last k.points) ks

-- where they begin, if they lead to p
abbrev start_of : List HalfEdge → Point → Point
start_of [] p = p
start_of (k ∷ ks) p = first_vertex k.points

abbrev Leads : List HalfEdge → Point → Type 0
Leads [] p = Unit {0}
Leads (k ∷ ks) p = (2 ≤ length k.points) × (last_vertex k.points ≡ start_of ks p) × Leads ks p

-- the walk through their vertices to p has their segments
front : (l more : List Point) → 2 ≤ length l → (rest : List Point) × (without_last l ++ more ≡ first_vertex l ∷ rest)
front [] more h = absurd (omega arith)
front (a ∷ []) more h = absurd (omega arith)
front (a ∷ b ∷ l) more h = (without_last (b ∷ l) ++ more, refl)

front_of : (ks : List HalfEdge) (p : Point) → Leads ks p → (rest : List Point) × (points_of ks ++ p ∷ [] ≡ start_of ks p ∷ rest)
front_of [] p h = ([], refl)
front_of (k ∷ ks) p h =
    let (rest, e) = front k.points (points_of ks) h.0 in
    (rest ++ p ∷ [], ap (λ l. l ++ p ∷ []) e)

segments_are : (ks : List HalfEdge) (p : Point) → Leads ks p → segments_of (points_of ks ++ p ∷ []) ≡ ring_segments ks
segments_are [] p h = refl
segments_are (k ∷ ks) p h =
    let (rest, e) = front_of ks p h.2 in
    ap segments_of (append_assoc (without_last k.points) (points_of ks) (p ∷ []) ∙ ap (λ l. without_last k.points ++ l) e)
    ∙ segments-join k.points (start_of ks p) rest h.1
    ∙ ap (λ l. segments_of k.points ++ segments_of l) (sym e)
    ∙ ap (λ ss. segments_of k.points ++ ss) (segments_are ks p h.2)

closes : (l : List Point) (p : Point) (rest : List Point) → l ≡ p ∷ rest → closed_segments l ≡ segments_of (l ++ p ∷ [])
closes l p rest e = ap closed_segments e ∙ ap (λ k. segments_of (k ++ p ∷ [])) (sym e)

closed_are : (h : HalfEdge) (ks : List HalfEdge) → Leads (h ∷ ks) (first_vertex h.points) → closed_segments (points_of (h ∷ ks)) ≡ ring_segments (h ∷ ks)
closed_are h ks leads =
    let (rest, e) = front h.points (points_of ks) leads.0 in
    closes (points_of (h ∷ ks)) (first_vertex h.points) rest e ∙ segments_are (h ∷ ks) (first_vertex h.points) leads

-- they have two vertices or more
some_front : (l : List Point) → 2 ≤ length l → 1 ≤ length (without_last l)
some_front [] h = absurd (omega arith)
some_front (a ∷ []) h = absurd (omega arith)
some_front (a ∷ b ∷ l) h = omega arith

one_front : (l : List Point) → 2 ≤ length l → list_all is_proper (segments_of l) ≡ true → last_vertex l ≡ first_vertex l → 2 ≤ length (without_last l)
one_front [] h proper e = absurd (omega arith)
one_front (a ∷ []) h proper e = absurd (omega arith)
one_front (a ∷ b ∷ []) h proper e =
    let here = (and_parts (not (same_point a b)) true proper).0 in
    absurd ((Decides-not (same_point a b) (Decides-same_point a b)).0 here (ap (λ (p : Point). p.x) (sym e), ap (λ (p : Point). p.y) (sym e)))
one_front (a ∷ b ∷ c ∷ l) h proper e = omega arith

two_vertices : (h : HalfEdge) (ks : List HalfEdge) → list_all is_proper (segments_of h.points) ≡ true → Leads (h ∷ ks) (first_vertex h.points) → 2 ≤ length (points_of (h ∷ ks))
two_vertices h [] proper leads =
    let one = one_front h.points leads.0 proper leads.1 in
    let whole = length-append (without_last h.points) [] in
    omega arith
two_vertices h (k ∷ ks) proper leads =
    let first = some_front h.points leads.0 in
    let second = some_front k.points leads.2.0 in
    let whole = length-append (without_last h.points) (points_of (k ∷ ks)) in
    let behind = length-append (without_last k.points) (points_of ks) in
    omega arith

-- ---- the next half-edge begins where one ends
joins_next : (T : Drawing) (h : HalfEdge) → HasPlainLines T → Contains (half_edges T) h → last_vertex h.points ≡ first_vertex (next_of (half_edges T) h).points
joins_next T h good c =
    let next = next_of (half_edges T) h in
    let back = twin_there T.edges h c in
    let there = next_there T h good c in
    let line = line_of T (twin h) good (half_of T.edges (twin h) back) in
    let other = line_of T next good (half_of T.edges next there) in
    sym (first-reverse h.points) ∙ one_start T h.to_node next.from_node (first_vertex (twin h).points) (first_vertex next.points) good (sym (next_from T h good c)) line.starts other.starts

-- ---- a walk that comes back
walk_start : (hs : List HalfEdge) (first : HalfEdge) (n : ℕ) (h : HalfEdge) → (rest : List HalfEdge) × (walk hs first n h ≡ h ∷ rest)
walk_start hs first zero h = ([], refl)
walk_start hs first (suc n) h = by (same_half_edge (next_of hs h) first) (walk hs first n (next_of hs h))
  where
    by : (t : Bool) (on : List HalfEdge) → (rest : List HalfEdge) × (cond t (h ∷ []) (h ∷ on) ≡ h ∷ rest)
    by true on = ([], refl)
    by false on = (on, refl)

walk_leads : (T : Drawing) (f : ℕ) (first : HalfEdge) (n j : ℕ) (h : HalfEdge) → IsStep T f first → IsStep T f h → j < n → after (face_border (half_edges T) f) (suc j) (dart_of h) ≡ dart_of first
    → Leads (walk (half_edges T) first n h) (first_vertex first.points)
walk_leads T f first zero j h sf sh less back = absurd (omega arith)
walk_leads T f first (suc n) j h sf sh less back =
    by_test (same_half_edge on first) refl j less back (λ i l b. walk_leads T f first n i on sf (step_on T f h sh) l b)
  where
    hs : List HalfEdge
    hs = half_edges T

    on : HalfEdge
    on = next_of (half_edges T) h

    good : HasPlainLines T
    good = has_plain_lines T sh.rings

    joins : last_vertex h.points ≡ first_vertex (next_of (half_edges T) h).points
    joins = joins_next T h (has_plain_lines T sh.rings) sh.there

    long : 2 ≤ length h.points
    long = (line_of T h (has_plain_lines T sh.rings) (half_of T.edges h sh.there)).long

    one : same_half_edge (next_of (half_edges T) h) first ≡ true → next_of (half_edges T) h ≡ first
    one t = half_by_dart T (next_of (half_edges T) h) first (has_plain_lines T sh.rings) (step_on T f h sh).there sf.there (same_out (dart_of (next_of (half_edges T) h)) (dart_of first) t)

    by_test : (t : Bool) → same_half_edge (next_of (half_edges T) h) first ≡ t → (j : ℕ) → j < suc n → after (face_border (half_edges T) f) (suc j) (dart_of h) ≡ dart_of first
        → ((i : ℕ) → i < n → after (face_border (half_edges T) f) (suc i) (dart_of (next_of (half_edges T) h)) ≡ dart_of first → Leads (walk (half_edges T) first n (next_of (half_edges T) h)) (first_vertex first.points))
        → Leads (cond t (h ∷ []) (h ∷ walk (half_edges T) first n (next_of (half_edges T) h))) (first_vertex first.points)
    by_test true t j l b rest = (long, joins ∙ ap (λ (x : HalfEdge). first_vertex x.points) (one t), tt)
    by_test false t zero l b rest = absurd (false≢true (sym t ∙ same_in (dart_of (next_of (half_edges T) h)) (dart_of first) (sym (next_half T f h sh) ∙ b)))
    by_test false t (suc j) l b rest =
        let border = face_border (half_edges T) f in
        let onward = ap (after border (suc j)) (sym (next_half T f h sh)) ∙ after_inner border (suc j) (dart_of h) ∙ b in
        let (more, e) = walk_start (half_edges T) first n (next_of (half_edges T) h) in
        (long, joins ∙ ap (λ ks. start_of ks (first_vertex first.points)) (sym e), rest j (omega arith) onward)

length-fewer : (p : HalfEdge → Bool) (hs : List HalfEdge) → length (filter p hs) ≤ length hs
length-fewer p [] = omega arith
length-fewer p (h ∷ hs) = by (p h) (length-fewer p hs)
  where
    by : (b : Bool) → length (filter p hs) ≤ length hs → length (cond b (h ∷ filter p hs) (filter p hs)) ≤ length (h ∷ hs)
    by true few = omega arith
    by false few = omega arith

ring_leads : (T : Drawing) (h : HalfEdge) → HasRings T → Contains (half_edges T) h → Leads (ring_of (half_edges T) h) (first_vertex h.points)
ring_leads T h has c = by_steps back.steps back.some back.few back.is
  where
    border : List BorderDart
    border = face_border (half_edges T) h.on_left

    step : IsStep T h.on_left h
    step = record { rings = has; there = c; left = refl }

    back : ComesBack (face_border (half_edges T) h.on_left) (dart_of h)
    back = comes_back (face_border (half_edges T) h.on_left) (dart_of h) (linked_of (face_border (half_edges T) h.on_left) (border_linked T h.on_left has)) (has_half T h.on_left h (in_beside T h.on_left h c refl))

    by_steps : (n : ℕ) → 0 < n → n ≤ length (face_border (half_edges T) h.on_left) → after (face_border (half_edges T) h.on_left) n (dart_of h) ≡ dart_of h
        → Leads (ring_of (half_edges T) h) (first_vertex h.points)
    by_steps zero some few is = absurd (omega arith)
    by_steps (suc n) some few is =
        let long = length-map (beside (half_edges T) h.on_left) (border_dart (half_edges T)) in
        let short = length-fewer (is_beside h.on_left) (half_edges T) in
        walk_leads T h.on_left h (length (half_edges T)) n h step step (omega arith) is

-- ---- the ring of a half-edge
pub record RingPath (ring : List HalfEdge) : Type 0 where
  pub segments : closed_segments (points_of ring) ≡ ring_segments ring
  pub long : 2 ≤ length (points_of ring)

pub ring_path_is : (T : Drawing) (h : HalfEdge) → HasRings T → Contains (half_edges T) h → RingPath (ring_of (half_edges T) h)
ring_path_is T h has c =
    let (rest, e) = walk_start (half_edges T) h (length (half_edges T)) h in
    let leads = subst (λ ks. Leads ks (first_vertex h.points)) e (ring_leads T h has c) in
    let line = line_of T h (has_plain_lines T has) (half_of T.edges h c) in
    subst RingPath (sym e) (record { segments = closed_are h rest leads; long = two_vertices h rest line.proper leads })

-- its half-edges are those of the drawing
abbrev pub AreIn : List HalfEdge → List HalfEdge → Type 0
AreIn hs [] = Unit {0}
AreIn hs (k ∷ ks) = Contains hs k × AreIn hs ks

walk_in : (T : Drawing) (first : HalfEdge) (n : ℕ) (h : HalfEdge) → HasPlainLines T → Contains (half_edges T) h → AreIn (half_edges T) (walk (half_edges T) first n h)
walk_in T first zero h good c = (c, tt)
walk_in T first (suc n) h good c = by (same_half_edge (next_of (half_edges T) h) first) (walk_in T first n (next_of (half_edges T) h) good (next_there T h good c))
  where
    by : (t : Bool) → AreIn (half_edges T) (walk (half_edges T) first n (next_of (half_edges T) h)) → AreIn (half_edges T) (cond t (h ∷ []) (h ∷ walk (half_edges T) first n (next_of (half_edges T) h)))
    by true rest = (c, tt)
    by false rest = (c, rest)

pub ring_in : (T : Drawing) (h : HalfEdge) → HasRings T → Contains (half_edges T) h → AreIn (half_edges T) (ring_of (half_edges T) h)
ring_in T h has c = walk_in T h (length (half_edges T)) h (has_plain_lines T has) c
