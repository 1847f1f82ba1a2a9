-- Rings of half-edges that follow each other: they have the same half-edges and the same least vertex.
use Rattle.std.proofs.Common.{◌≡◌, ℕ, zero, suc, ◌<◌, ◌≤◌, refl, sym, ◌∙◌, ap, subst, arith, ⊎_elim, Bool, true, false, cond, ◌||◌, List, [], ◌∷◌, length, map}
use Rattle.std.specs.Prelude.{fold}
use Rattle.std.specs.List.{Contains}
use Rattle.std.proofs.lemmas.Bool.{false≢true, cases_lt}
use Rattle.topo_base.specs.Darts.{same_dart}
use Rattle.topo_base.specs.declared.ids.Dart.{Dart}
use Rattle.drawing.specs.Drawing.{Drawing}
use Rattle.drawing.specs.HalfEdge.{HalfEdge, half_edges, same_half_edge, comes_before, dart_of}
use Rattle.plane.specs.Line.{first_vertex}
use Rattle.drawing.specs.Ring.{walk, ring_of, contains_half_edge, earlier_of, least_vertex}
use Rattle.drawing.specs.Star.{next_of}
use Rattle.plane.proofs.ListTests.{contains_here, contains_there, contains_cases, contains_none, Decides-any}
use Rattle.drawing.proofs.Members.{contains-map, contains-mapped}
use Rattle.face_rings.specs.declared.content.BorderDart.{BorderDart}
use Rattle.face_rings.specs.Border.{has_dart, next_dart}
use Rattle.face_rings.specs.Rings.{ring_of as ring_of_dart}
use Rattle.face_rings.specs.FaceBorder.{beside, border_dart, face_border, HasRings}
use Rattle.face_rings.proofs.FaceBorders.{has_plain_lines, half_by_dart, in_beside, from_beside, has_half, border_linked, ring_is}
use Rattle.face_rings.proofs.HalfLines.{HasPlainLines}
use Rattle.face_rings.proofs.NextApart.{next_there}
use Rattle.face_rings.proofs.Orbits.{Has, IsLinkedBorder, linked_of, next_found}
use Rattle.face_rings.proofs.Ranks.{Decides-same_dart, rank, before_out, before_in, rank_same}
use Rattle.face_rings.proofs.Reaching.{Reaches, reaches_on, reaches_back, ring_closed, in_ring, from_ring}
use Rattle.ring_laws.proofs.Turning.{same_test, left_stays}

-- ---- half-edges with one face, of which one follows the other
pub record IsStep (T : Drawing) (f : ℕ) (h : HalfEdge) : Type 0 where
  pub rings : HasRings T
  pub there : Contains (half_edges T) h
  pub left : h.on_left ≡ f

pub step_on : (T : Drawing) (f : ℕ) (h : HalfEdge) → IsStep T f h → IsStep T f (next_of (half_edges T) h)
step_on T f h s = record {
  rings = s.rings;
  there = next_there T h (has_plain_lines T s.rings) s.there;
  left = sym (left_stays T h s.rings.one_face s.there) ∙ s.left;
}

in_border : (T : Drawing) (f : ℕ) (h : HalfEdge) → IsStep T f h → Has (face_border (half_edges T) f) (dart_of h)
in_border T f h s = has_half T f h (in_beside T f h s.there s.left)

links : (T : Drawing) (f : ℕ) (h : HalfEdge) → IsStep T f h → IsLinkedBorder (face_border (half_edges T) f)
links T f h s = linked_of (face_border (half_edges T) f) (border_linked T f s.rings)

pub next_half : (T : Drawing) (f : ℕ) (h : HalfEdge) → IsStep T f h → next_dart (face_border (half_edges T) f) (dart_of h) ≡ dart_of (next_of (half_edges T) h)
next_half T f h s =
    let found = next_found (face_border (half_edges T) f) (dart_of h) (in_border T f h s) in
    let (k, (d, p)) = contains-mapped (border_dart (half_edges T)) found.one (beside (half_edges T) f) found.there in
    let same : k ≡ h = half_by_dart T k h (has_plain_lines T s.rings) (from_beside T f k d).0 s.there (ap (λ (b : BorderDart). b.dart) p ∙ found.dart) in
    found.next ∙ sym (ap (λ (b : BorderDart). b.next) p) ∙ ap (λ (x : HalfEdge). dart_of (next_of (half_edges T) x)) same

onward : (T : Drawing) (f : ℕ) (h : HalfEdge) → IsStep T f h → Reaches (face_border (half_edges T) f) (dart_of h) (dart_of (next_of (half_edges T) h))
onward T f h s = (1, next_half T f h s)

backward : (T : Drawing) (f : ℕ) (h : HalfEdge) → IsStep T f h → Reaches (face_border (half_edges T) f) (dart_of (next_of (half_edges T) h)) (dart_of h)
backward T f h s = reaches_back (face_border (half_edges T) f) (dart_of h) (dart_of (next_of (half_edges T) h)) (links T f h s) (in_border T f h s) (onward T f h s)

-- ---- a ring has both or neither
pub contains_darts : (ring : List HalfEdge) (h : HalfEdge) → has_dart (map dart_of ring) (dart_of h) ≡ contains_half_edge ring h
contains_darts [] h = refl
contains_darts (k ∷ ring) h = ap (λ t. same_half_edge h k || t) (contains_darts ring h)

pub ring_has : (T : Drawing) (f : ℕ) (g h : HalfEdge) → IsStep T f g → contains_half_edge (ring_of (half_edges T) g) h ≡ has_dart (ring_of_dart (face_border (half_edges T) f) (dart_of g)) (dart_of h)
ring_has T f g h s = sym (contains_darts (ring_of (half_edges T) g) h) ∙ ap (λ ds. has_dart ds (dart_of h)) (sym (ring_is T f g s.rings s.there s.left))

pub contains_same : (T : Drawing) (f : ℕ) (g h : HalfEdge) → IsStep T f g → IsStep T f h
    → contains_half_edge (ring_of (half_edges T) g) h ≡ contains_half_edge (ring_of (half_edges T) g) (next_of (half_edges T) h)
contains_same T f g h sg sh =
    let border = face_border (half_edges T) f in
    let next = next_of (half_edges T) h in
    let linked = links T f g sg in
    let known = in_border T f g sg in
    ring_has T f g h sg
    ∙ same_test (has_dart (ring_of_dart border (dart_of g)) (dart_of h)) (has_dart (ring_of_dart border (dart_of g)) (dart_of next))
    (λ t. subst (λ (d : Dart). has_dart (ring_of_dart border (dart_of g)) d ≡ true) (next_half T f h sh) (ring_closed border (dart_of g) (dart_of h) linked known t))
    (λ t. in_ring border (dart_of g) (dart_of h) linked known (reaches_on border (dart_of g) (dart_of next) (dart_of h) (from_ring border (dart_of g) (dart_of next) t) (backward T f h sh)))
    ∙ sym (ring_has T f g next sg)

-- ---- the least half-edge of a ring
record IsLeast (h : HalfEdge) (ring : List HalfEdge) (m : HalfEdge) : Type 0 where
  there : Contains (h ∷ ring) m
  below : rank (dart_of m) ≤ rank (dart_of h)
  each : (x : HalfEdge) → Contains ring x → rank (dart_of m) ≤ rank (dart_of x)

least_is : (h : HalfEdge) (ring : List HalfEdge) → IsLeast h ring (fold earlier_of h ring)
least_is h [] = record { there = contains_here h []; below = omega arith; each = λ x c. absurd (contains_none x c) }
least_is h (k ∷ ring) = by_test (comes_before k h) refl (least_is k ring) (least_is h ring)
  where
    by_test : (t : Bool) → comes_before k h ≡ t → IsLeast k ring (fold earlier_of k ring) → IsLeast h ring (fold earlier_of h ring) → IsLeast h (k ∷ ring) (fold earlier_of (cond t k h) ring)
    by_test true e on off =
        let less = before_out (dart_of k) (dart_of h) e in
        let below = on.below in
        record {
          there = contains_there (fold earlier_of k ring) h (k ∷ ring) on.there;
          below = omega arith;
          each = λ x c. ⊎_elim (λ (p : k ≡ x). subst (λ (z : HalfEdge). rank (dart_of (fold earlier_of k ring)) ≤ rank (dart_of z)) p on.below) (λ (d : Contains ring x). on.each x d) (contains_cases x k ring c);
        }
    by_test false e on off =
        let up : rank (dart_of h) ≤ rank (dart_of k) = ⊎_elim (λ (l : rank (dart_of k) < rank (dart_of h)). absurd (false≢true (sym e ∙ before_in (dart_of k) (dart_of h) l))) (λ (l : rank (dart_of h) ≤ rank (dart_of k)). l) (cases_lt (rank (dart_of k)) (rank (dart_of h))) in
        let below = off.below in
        record {
          there = ⊎_elim (λ (p : h ≡ fold earlier_of h ring). subst (Contains (h ∷ k ∷ ring)) p (contains_here h (k ∷ ring)))
              (λ (d : Contains ring (fold earlier_of h ring)). contains_there (fold earlier_of h ring) h (k ∷ ring) (contains_there (fold earlier_of h ring) k ring d))
              (contains_cases (fold earlier_of h ring) h ring off.there);
          below = off.below;
          each = λ x c. ⊎_elim (λ (p : k ≡ x). subst (λ (z : HalfEdge). rank (dart_of (fold earlier_of h ring)) ≤ rank (dart_of z)) p (omega arith)) (λ (d : Contains ring x). off.each x d) (contains_cases x k ring c);
        }

pub record LeastOf (ring : List HalfEdge) : Type 0 where
  pub half : HalfEdge
  pub there : Contains ring half
  pub each : (x : HalfEdge) → Contains ring x → rank (dart_of half) ≤ rank (dart_of x)
  pub vertex : least_vertex ring ≡ first_vertex half.points

least_of_some : (h : HalfEdge) (ring : List HalfEdge) → LeastOf (h ∷ ring)
least_of_some h ring =
    let l = least_is h ring in
    record {
      half = fold earlier_of h ring;
      there = l.there;
      each = λ x c. ⊎_elim (λ (p : h ≡ x). subst (λ (z : HalfEdge). rank (dart_of (fold earlier_of h ring)) ≤ rank (dart_of z)) p l.below) (λ (d : Contains ring x). l.each x d) (contains_cases x h ring c);
      vertex = refl;
    }

pub walk_begins : (hs : List HalfEdge) (first h : HalfEdge) (n : ℕ) → (rest : List HalfEdge) × (walk hs first n h ≡ h ∷ rest)
walk_begins hs first h zero = ([], refl)
walk_begins hs first h (suc n) = by_test (same_half_edge (next_of hs h) first)
  where
    by_test : (t : Bool) → (rest : List HalfEdge) × (cond t (h ∷ []) (h ∷ walk hs first n (next_of hs h)) ≡ h ∷ rest)
    by_test true = ([], refl)
    by_test false = (walk hs first n (next_of hs h), refl)

least_of : (hs : List HalfEdge) (h : HalfEdge) → LeastOf (ring_of hs h)
least_of hs h = let (rest, is) = walk_begins hs h h (length hs) in subst LeastOf (sym is) (least_of_some h rest)

-- whatever is in a ring is one of the half-edges
walk_there : (T : Drawing) (first h m : HalfEdge) (n : ℕ) → HasPlainLines T → Contains (half_edges T) h → Contains (walk (half_edges T) first n h) m → Contains (half_edges T) m
walk_there T first h m zero good c w = ⊎_elim (λ (p : h ≡ m). subst (Contains (half_edges T)) p c) (λ (d : Contains [] m). absurd (contains_none m d)) (contains_cases m h [] w)
walk_there T first h m (suc n) good c w = by_test (same_half_edge (next_of (half_edges T) h) first) (λ k. walk_there T first (next_of (half_edges T) h) m n good (next_there T h good c) k) w
  where
    by_test : (t : Bool) → (Contains (walk (half_edges T) first n (next_of (half_edges T) h)) m → Contains (half_edges T) m) → Contains (cond t (h ∷ []) (h ∷ walk (half_edges T) first n (next_of (half_edges T) h))) m → Contains (half_edges T) m
    by_test true rest w = ⊎_elim (λ (p : h ≡ m). subst (Contains (half_edges T)) p c) (λ (d : Contains [] m). absurd (contains_none m d)) (contains_cases m h [] w)
    by_test false rest w = ⊎_elim (λ (p : h ≡ m). subst (Contains (half_edges T)) p c) (λ (d : Contains (walk (half_edges T) first n (next_of (half_edges T) h)) m). rest d) (contains_cases m h (walk (half_edges T) first n (next_of (half_edges T) h)) w)

-- where what one ring has the other has too, its least is no less
no_less : (T : Drawing) (f : ℕ) (g h : HalfEdge) (a : LeastOf (ring_of (half_edges T) g)) (b : LeastOf (ring_of (half_edges T) h)) → IsStep T f g → IsStep T f h
    → Reaches (face_border (half_edges T) f) (dart_of h) (dart_of g) → rank (dart_of b.half) ≤ rank (dart_of a.half)
no_less T f g h a b sg sh reach =
    let border = face_border (half_edges T) f in
    let ring_g = ring_is T f g sg.rings sg.there sg.left in
    let ring_h = ring_is T f h sh.rings sh.there sh.left in
    let decides = λ (ring : List HalfEdge) (d : Dart). Decides-any (same_dart d) (λ e. d ≡ e) (Decides-same_dart d) (map dart_of ring) in
    let in_g : has_dart (ring_of_dart border (dart_of g)) (dart_of a.half) ≡ true =
    subst (λ ds. has_dart ds (dart_of a.half) ≡ true) (sym ring_g) ((decides (ring_of (half_edges T) g) (dart_of a.half)).1 (dart_of a.half, (contains-map dart_of a.half (ring_of (half_edges T) g) a.there, refl))) in
    let in_h = in_ring border (dart_of h) (dart_of a.half) (links T f h sh) (in_border T f h sh) (reaches_on border (dart_of h) (dart_of g) (dart_of a.half) reach (from_ring border (dart_of g) (dart_of a.half) in_g)) in
    let (d, (c, e)) = (decides (ring_of (half_edges T) h) (dart_of a.half)).0 (subst (λ ds. has_dart ds (dart_of a.half) ≡ true) ring_h in_h) in
    let (x, (cx, ex)) = contains-mapped dart_of d (ring_of (half_edges T) h) c in
    as_low (dart_of x) d (dart_of a.half) (b.each x cx) ex e
  where
    as_low : (c d e : Dart) → rank (dart_of b.half) ≤ rank c → c ≡ d → e ≡ d → rank (dart_of b.half) ≤ rank e
    as_low c d e low p q = subst (λ (z : Dart). rank (dart_of b.half) ≤ rank z) (p ∙ sym q) low

both_least : (a b : Dart) → rank a ≤ rank b → rank b ≤ rank a → a ≡ b
both_least a b h k = rank_same a b (omega arith)

pub least_same : (T : Drawing) (f : ℕ) (h : HalfEdge) → IsStep T f h → least_vertex (ring_of (half_edges T) h) ≡ least_vertex (ring_of (half_edges T) (next_of (half_edges T) h))
least_same T f h s =
    let next = next_of (half_edges T) h in
    let on = step_on T f h s in
    let good = has_plain_lines T s.rings in
    let a = least_of (half_edges T) h in
    let b = least_of (half_edges T) next in
    let darts = both_least (dart_of a.half) (dart_of b.half) (no_less T f next h b a on s (onward T f h s)) (no_less T f h next a b s on (backward T f h s)) in
    let one = half_by_dart T a.half b.half good (walk_there T h h a.half (length (half_edges T)) good s.there a.there) (walk_there T next next b.half (length (half_edges T)) good on.there b.there) darts in
    a.vertex ∙ ap (λ (x : HalfEdge). first_vertex x.points) one ∙ sym b.vertex
