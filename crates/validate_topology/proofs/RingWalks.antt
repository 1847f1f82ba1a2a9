-- The walk along the darts of a ring, place by place.
use Rattle.std.proofs.Common.{◌≡◌, ◌∙◌, ℕ, zero, suc, ◌+◌, ◌<◌, ⊎_elim, Bool, true, false, cond, List, [], ◌∷◌, ◌++◌, length, map, get_or, set, refl, sym, ap, subst, arith}
use Rattle.std.specs.Prelude.{Contains}
use Rattle.std.proofs.Math.Seq.{get_or-append_seam}
use Rattle.std.proofs.lemmas.List.{get_or-map, get_or_default, length-map, map_push, take_all, take_at, length_push}
use Rattle.std.proofs.lemmas.List.Elements.{Contains-get_or}
use Rattle.topo_base.specs.Darts.{same_dart}
use Rattle.topo_base.specs.declared.ids.Dart.{Dart}
use Rattle.plane.proofs.ListTests.{contains_here, contains_there, contains_cases, contains_none}
use Rattle.drawing.specs.HalfEdge.{HalfEdge, half_edges, same_half_edge, dart_of}
use Rattle.drawing.specs.Ring.{walk, ring_of}
use Rattle.drawing.specs.Star.{next_of}
use Rattle.drawing.specs.Subdivision.{begins_ring}
use Rattle.drawing.proofs.Members.{contains-map}
use Rattle.face_rings.specs.Border.{darts_ascend, next_dart}
use Rattle.face_rings.specs.FaceBorder.{border_dart}
use Rattle.face_rings.specs.Rings.{Marks, ring_of as ring_of_darts, begins_ring as dart_begins}
use Rattle.face_rings.specs.declared.content.BorderDart.{BorderDart}
use Rattle.face_rings.proofs.FaceBorders.{half_by_dart}
use Rattle.face_rings.proofs.Marking.{marks_none, marks_more}
use Rattle.face_rings.proofs.NextApart.{next_there}
use Rattle.face_rings.proofs.Orbits.{Has, IsLinkedBorder, linked_of}
use Rattle.face_rings.proofs.Ranks.{place_same, same_in, not_same}
use Rattle.face_rings.proofs.Walking.{IsWalked, started, walk_few, walk_end, walk_on}
use Rattle.face_parts.proofs.RingPaths.{RingPath}
use Rattle.validate_topology.specs.Following.{half_edge}
use Rattle.validate_topology.specs.Walks.{ArePlainHalves, AreFollowed, IsRingAt, MarksRing, border_of, halves_of}
use Rattle.validate_topology.specs.declared.sides.Side.{Side}
use Rattle.validate_topology.proofs.AllRings.{IsLongPlain, plain_lines, all_ascend, all_linked, all_next, all_ring, all_paths, begins_so}

-- ---- half-edges of a plain drawing
long_plain : (hs : List HalfEdge) (p : ArePlainHalves hs) → IsLongPlain p.of
long_plain hs p = record { plain = p.plain; long = p.long }

pub ascending : (hs : List HalfEdge) → ArePlainHalves hs → darts_ascend (border_of hs) ≡ true
ascending hs p = subst (λ (ks : List HalfEdge). darts_ascend (border_of ks) ≡ true) p.halves (all_ascend p.of (long_plain hs p))

pub linked : (hs : List HalfEdge) → ArePlainHalves hs → IsLinkedBorder (border_of hs)
linked hs p = subst (λ (ks : List HalfEdge). IsLinkedBorder (border_of ks)) p.halves (linked_of (border_of (half_edges p.of)) (all_linked p.of (long_plain hs p)))

next_named : (hs : List HalfEdge) (h : HalfEdge) → ArePlainHalves hs → Contains hs h → next_dart (border_of hs) (dart_of h) ≡ dart_of (next_of hs h)
next_named hs h p c =
    subst (λ (ks : List HalfEdge). Contains ks h → next_dart (border_of ks) (dart_of h) ≡ dart_of (next_of ks h)) p.halves (all_next p.of h (long_plain hs p)) c

pub ring_named : (hs : List HalfEdge) (h : HalfEdge) → ArePlainHalves hs → Contains hs h → ring_of_darts (border_of hs) (dart_of h) ≡ map dart_of (ring_of hs h)
ring_named hs h p c =
    subst (λ (ks : List HalfEdge). Contains ks h → ring_of_darts (border_of ks) (dart_of h) ≡ map dart_of (ring_of ks h)) p.halves (all_ring p.of h (long_plain hs p)) c

pub begins_named : (hs : List HalfEdge) (h : HalfEdge) → ArePlainHalves hs → Contains hs h → dart_begins (border_of hs) (dart_of h) ≡ begins_ring hs h
begins_named hs h p c =
    subst (λ (ks : List HalfEdge). Contains ks h → dart_begins (border_of ks) (dart_of h) ≡ begins_ring ks h) p.halves (begins_so p.of h (long_plain hs p)) c

pub ring_paths : (hs : List HalfEdge) (h : HalfEdge) → ArePlainHalves hs → Contains hs h → RingPath (ring_of hs h)
ring_paths hs h p c = subst (λ (ks : List HalfEdge). Contains ks h → RingPath (ring_of ks h)) p.halves (all_paths p.of h (long_plain hs p)) c

one_named : (hs : List HalfEdge) (h k : HalfEdge) → ArePlainHalves hs → Contains hs h → Contains hs k → dart_of h ≡ dart_of k → h ≡ k
one_named hs h k p c d =
    subst (λ (ks : List HalfEdge). Contains ks h → Contains ks k → dart_of h ≡ dart_of k → h ≡ k) p.halves
    (λ c d. half_by_dart p.of h k (plain_lines p.of (long_plain hs p)) c d) c d

next_within : (hs : List HalfEdge) (h : HalfEdge) → ArePlainHalves hs → Contains hs h → Contains hs (next_of hs h)
next_within hs h p c = subst (λ (ks : List HalfEdge). Contains ks h → Contains ks (next_of ks h)) p.halves (next_there p.of h (plain_lines p.of (long_plain hs p))) c

-- ---- a ring has half-edges of these
walk_within : (hs : List HalfEdge) (first h m : HalfEdge) (n : ℕ) → ArePlainHalves hs → Contains hs h → Contains (walk hs first n h) m → Contains hs m
walk_within hs first h m zero p c w = ⊎_elim (λ (e : h ≡ m). subst (Contains hs) e c) (λ (d : Contains [] m). absurd (contains_none m d)) (contains_cases m h [] w)
walk_within hs first h m (suc n) p c w = by_test (same_half_edge (next_of hs h) first) (walk_within hs first (next_of hs h) m n p (next_within hs h p c)) w
  where
    by_test : (t : Bool) → (Contains (walk hs first n (next_of hs h)) m → Contains hs m) → Contains (cond t (h ∷ []) (h ∷ walk hs first n (next_of hs h))) m → Contains hs m
    by_test true rest w = ⊎_elim (λ (e : h ≡ m). subst (Contains hs) e c) (λ (d : Contains [] m). absurd (contains_none m d)) (contains_cases m h [] w)
    by_test false rest w = ⊎_elim (λ (e : h ≡ m). subst (Contains hs) e c) rest (contains_cases m h (walk hs first n (next_of hs h)) w)

-- half-edges are known by their names
all_named : (hs ks ls : List HalfEdge) → ArePlainHalves hs → ((h : HalfEdge) → Contains ks h → Contains hs h) → ((h : HalfEdge) → Contains ls h → Contains hs h) → map dart_of ks ≡ map dart_of ls → ks ≡ ls
all_named hs [] [] p a b e = refl
all_named hs [] (l ∷ ls) p a b e = absurd cc
all_named hs (k ∷ ks) [] p a b e = absurd cc
all_named hs (k ∷ ks) (l ∷ ls) p a b e =
    let first = one_named hs k l p (a k (contains_here k ks)) (b l (contains_here l ls)) (ap (λ (ds : List Dart). get_or ds 0 (dart_of k)) e) in
    let rest = all_named hs ks ls p (λ h c. a h (contains_there h k ks c)) (λ h c. b h (contains_there h l ls c)) (ap tail e) in
    λ i. first i ∷ rest i
  where
    tail : List Dart → List Dart
    tail [] = []
    tail (d ∷ ds) = ds

-- ---- by places
pub nothing : HalfEdge
nothing = record { edge_id = 0; is_forward = true; from_node = 0; to_node = 0; on_left = 0; on_right = 0; points = [] }

abbrev pub at : List HalfEdge → ℕ → HalfEdge
at hs place = get_or hs place nothing

pub at_has : (hs : List HalfEdge) (place : ℕ) → place < length hs → Contains hs (at hs place)
at_has hs place w = Contains-get_or hs place nothing w

pub border_at : (hs : List HalfEdge) (place : ℕ) (b : BorderDart) → place < length hs → (get_or (border_of hs) place b).dart ≡ dart_of (at hs place)
border_at hs place b w = ap (λ (x : BorderDart). x.dart) (get_or-map (border_dart hs) hs place nothing b w)

pub has_at : (hs : List HalfEdge) (place : ℕ) → place < length hs → Has (border_of hs) (dart_of (at hs place))
has_at hs place w = contains-map (λ (b : BorderDart). b.dart) (border_dart hs (at hs place)) (border_of hs) (contains-map (border_dart hs) (at hs place) hs (at_has hs place w))

pub side_at : (sides : List Side) (place : ℕ) (s : Side) → place < length sides → s ≡ get_or sides place s → half_edge s ≡ at (halves_of sides) place
side_at sides place s w e = ap half_edge e ∙ sym (get_or-map half_edge sides place s nothing w)

-- ---- a ring that is walked
pub record IsRounding (sides : List Side) (first here : ℕ) (ring : List Side) (old seen : List Bool) : Type 0 where
  pub within : here < length sides
  pub walked : IsWalked (border_of (halves_of sides)) (dart_of (at (halves_of sides) first)) (map dart_of (halves_of ring)) (dart_of (at (halves_of sides) here))
  pub known : (h : HalfEdge) → Contains (halves_of ring) h → Contains (halves_of sides) h
  pub marks : MarksRing (halves_of sides) ring old seen

pub rounding_begins : (sides : List Side) (first : ℕ) (seen : List Bool) → first < length sides → IsRounding sides first first [] seen seen
rounding_begins sides first seen w =
    let hs = halves_of sides in
    let long = length-map sides half_edge in
    record {
      within = w;
      walked = started (border_of hs) (dart_of (at hs first)) (has_at hs first (omega arith));
      known = λ h c. absurd (contains_none h c);
      marks = marks_none (border_of hs) [] seen;
    }

-- one dart more
names-push : (ring : List Side) (s : Side) → map dart_of (halves_of (ring ++ s ∷ [])) ≡ map dart_of (halves_of ring) ++ dart_of (half_edge s) ∷ []
names-push ring s = ap (map dart_of) (map_push half_edge ring s) ∙ map_push dart_of (halves_of ring) (half_edge s)

marked_more : (hs : List HalfEdge) (names : List Dart) (old seen : List Bool) (place : ℕ) → darts_ascend (border_of hs) ≡ true → length old ≡ length hs → place < length hs → Marks (border_of hs) names old seen
    → Marks (border_of hs) (names ++ dart_of (at hs place) ∷ []) old (set seen place true)
marked_more hs names old seen place up long w m =
    let d = dart_of (at hs place) in
    let ring = names ++ d ∷ [] in
    let border = border_of hs in
    let wide = length-map hs (border_dart hs) in
    let pushed = length_push names d in
    subst (λ ds. Marks border ds old (set seen place true)) (take_all (length names + 1) ring (omega arith))
    (marks_more border ring old seen (length names) place d up (omega arith) (omega arith) (sym (get_or-append_seam names d [] d)) (omega arith) (λ b. border_at hs place b w)
    (subst (λ ds. Marks border ds old seen) (sym (take_at names (d ∷ []) (length names) refl)) m))

known_more : (hs ks : List HalfEdge) (k h : HalfEdge) → ((x : HalfEdge) → Contains ks x → Contains hs x) → Contains hs k → Contains (ks ++ k ∷ []) h → Contains hs h
known_more hs [] k h each c w = ⊎_elim (λ (e : k ≡ h). subst (Contains hs) e c) (λ (d : Contains [] h). absurd (contains_none h d)) (contains_cases h k [] w)
known_more hs (x ∷ ks) k h each c w =
    ⊎_elim (λ (e : x ≡ h). each h (subst (Contains (x ∷ ks)) e (contains_here x ks))) (λ (d : Contains (ks ++ k ∷ []) h). known_more hs ks k h (λ y v. each y (contains_there y x ks v)) c d) (contains_cases h x (ks ++ k ∷ []) w)

on_named : (hs : List HalfEdge) (places : List ℕ) (here : ℕ) → AreFollowed hs places → here < length hs → dart_of (at hs (get_or places here 0)) ≡ next_dart (border_of hs) (dart_of (at hs here))
on_named hs places here f w = ap dart_of (f.next here nothing w) ∙ sym (next_named hs (at hs here) f.plain (at_has hs here w))

pub rounding_few : (sides : List Side) (places : List ℕ) (first here : ℕ) (ring : List Side) (old seen : List Bool) → AreFollowed (halves_of sides) places → first < length sides → IsRounding sides first here ring old seen
    → length ring < length sides
rounding_few sides places first here ring old seen f w r =
    let hs = halves_of sides in
    let long = length-map sides half_edge in
    let few = walk_few (border_of hs) (dart_of (at hs first)) (map dart_of (halves_of ring)) (dart_of (at hs here)) (linked hs f.plain) (has_at hs first (omega arith)) r.walked in
    let one = length-map hs (border_dart hs) in
    let two = length-map (halves_of ring) dart_of in
    let three = length-map ring half_edge in
    omega arith

pub rounding_more : (sides : List Side) (places : List ℕ) (first here on : ℕ) (ring : List Side) (s : Side) (old seen : List Bool) → AreFollowed (halves_of sides) places → first < length sides → length old ≡ length sides
    → on < length sides → s ≡ get_or sides here s → on ≡ get_or places here 0 → (on ≡ first → ⊥) → IsRounding sides first here ring old seen → IsRounding sides first on (ring ++ s ∷ []) old (set seen here true)
rounding_more sides places first here on ring s old seen f w wide v is next other r =
    let hs = halves_of sides in
    let border = border_of hs in
    let long = length-map sides half_edge in
    let all = length-map hs (border_dart hs) in
    let half = side_at sides here s r.within is in
    let names = names-push ring s ∙ ap (λ (h : HalfEdge). map dart_of (halves_of ring) ++ dart_of h ∷ []) half in
    let step : dart_of (at hs on) ≡ next_dart border (dart_of (at hs here)) = ap (λ n. dart_of (at hs n)) next ∙ on_named hs places here f (omega (arith, r.within)) in
    let far : same_dart (dart_of (at hs on)) (dart_of (at hs first)) ≡ false =
    not_same (dart_of (at hs on)) (dart_of (at hs first)) (λ e.
    let b = border_dart hs (at hs first) in
    other (place_same border on first b (ascending hs f.plain) (omega arith) (omega arith) (border_at hs on b (omega arith) ∙ e ∙ sym (border_at hs first b (omega arith))))) in
    record {
      within = v;
      walked = subst (λ ds. IsWalked border (dart_of (at hs first)) ds (dart_of (at hs on))) (sym names)
          (walk_on border (dart_of (at hs first)) (map dart_of (halves_of ring)) (dart_of (at hs here)) (dart_of (at hs on)) (linked hs f.plain) (has_at hs first (omega arith)) r.walked step far);
      known = λ h c. known_more hs (halves_of ring) (half_edge s) h r.known (subst (Contains hs) (sym half) (at_has hs here (omega (arith, r.within)))) (subst (λ (ks : List HalfEdge). Contains ks h) (map_push half_edge ring s) c);
      marks = subst (λ ds. Marks border ds old (set seen here true)) (sym names) (marked_more hs (map dart_of (halves_of ring)) old seen here (ascending hs f.plain) (omega arith) (omega (arith, r.within)) r.marks);
    }

-- the first comes back
pub record IsRounded (sides : List Side) (first : ℕ) (walked : List Side) (old seen : List Bool) : Type 0 where
  pub ring : IsRingAt (halves_of sides) first walked
  pub marks : MarksRing (halves_of sides) walked old seen

pub rounding_ends : (sides : List Side) (places : List ℕ) (first here on : ℕ) (ring : List Side) (s : Side) (old seen : List Bool) → AreFollowed (halves_of sides) places → first < length sides → length old ≡ length sides
    → s ≡ get_or sides here s → on ≡ get_or places here 0 → on ≡ first → IsRounding sides first here ring old seen → IsRounded sides first (ring ++ s ∷ []) old (set seen here true)
rounding_ends sides places first here on ring s old seen f w wide is next same r =
    let hs = halves_of sides in
    let border = border_of hs in
    let long = length-map sides half_edge in
    let half = side_at sides here s r.within is in
    let names = names-push ring s ∙ ap (λ (h : HalfEdge). map dart_of (halves_of ring) ++ dart_of h ∷ []) half in
    let step : dart_of (at hs on) ≡ next_dart border (dart_of (at hs here)) = ap (λ n. dart_of (at hs n)) next ∙ on_named hs places here f (omega (arith, r.within)) in
    let back : same_dart (dart_of (at hs on)) (dart_of (at hs first)) ≡ true = same_in (dart_of (at hs on)) (dart_of (at hs first)) (ap (λ n. dart_of (at hs n)) same) in
    let whole = walk_end border (dart_of (at hs first)) (map dart_of (halves_of ring)) (dart_of (at hs here)) (dart_of (at hs on)) (linked hs f.plain) (has_at hs first (omega arith)) r.walked step back in
    let there = at_has hs first (omega arith) in
    let one = all_named hs (halves_of (ring ++ s ∷ [])) (ring_of hs (at hs first)) f.plain
    (λ h c. known_more hs (halves_of ring) (half_edge s) h r.known (subst (Contains hs) (sym half) (at_has hs here (omega (arith, r.within)))) (subst (λ (ks : List HalfEdge). Contains ks h) (map_push half_edge ring s) c))
    (λ h c. walk_within hs (at hs first) (at hs first) h (length hs) f.plain there c)
    (names ∙ whole ∙ ring_named hs (at hs first) f.plain there) in
    record {
      ring = λ d. one ∙ ap (ring_of hs) (get_or_default hs first nothing d (omega arith));
      marks = subst (λ ds. Marks border ds old (set seen here true)) (sym names) (marked_more hs (map dart_of (halves_of ring)) old seen here (ascending hs f.plain) (omega arith) (omega (arith, r.within)) r.marks);
    }
