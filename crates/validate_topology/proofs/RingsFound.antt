-- The rings that are found, one after another.
use Rattle.std.proofs.Common.{◌≡◌, ◌∙◌, ℕ, ◌+◌, ◌<◌, ◌≤◌, Bool, true, false, cond, not, List, [], ◌∷◌, ◌++◌, length, map, filter, get_or, take, replicate, refl, sym, ap, subst, arith}
use Rattle.std.specs.Prelude.{All}
use Rattle.std.proofs.lemmas.List.{append-nil, get_or-map, get_or_default, length-append, length-map, map-append, map_push, take_all}
use Rattle.std.proofs.lemmas.List.Elements.{All-append, All-cons, All-nil, filter_more}
use Rattle.topo_base.specs.declared.ids.Dart.{Dart}
use Rattle.plane.specs.ClosedWalk.{closed_segments, is_hole_walk, top_of}
use Rattle.drawing.specs.HalfEdge.{HalfEdge, dart_of}
use Rattle.drawing.specs.Ring.{ring_of, ring_segments}
use Rattle.drawing.specs.Subdivision.{begins_ring}
use Rattle.face_rings.specs.Border.{darts_of}
use Rattle.face_rings.specs.FaceBorder.{border_dart}
use Rattle.face_rings.specs.Rings.{ring_of as ring_of_darts, begins_ring as dart_begins}
use Rattle.face_rings.specs.declared.content.BorderDart.{BorderDart}
use Rattle.face_rings.proofs.Marking.{IsSeen, dart_at, rings_kept, rings_more, rings_to, seen_kept, seen_more, seen_none}
use Rattle.face_parts.proofs.RingPaths.{RingPath}
use Rattle.validate_topology.specs.Following.{half_edge}
use Rattle.validate_topology.specs.Walks.{ArePlainHalves, AreWalks, IsRingAt, IsWalk, MarksRing, border_of, halves_of, path_along, ring_in}
use Rattle.validate_topology.specs.declared.sides.Side.{Side}
use Rattle.validate_topology.specs.declared.walks.Walk.{Walk}
use Rattle.validate_topology.proofs.RingWalks.{ascending, at, at_has, begins_named, border_at, linked, nothing, ring_named, ring_paths}

-- ---- by how many more there are
more_of : {X Y : Type 0} (f : X → Y) (p : X → Bool) (xs : List X) (n : ℕ) (x : X) → n < length xs → get_or xs n x ≡ x
    → map f (filter p (take (n + 1) xs)) ≡ map f (filter p (take n xs)) ++ map f (cond (p x) (x ∷ []) [])
more_of f p xs n x w is =
    ap (map f) (filter_more p xs n x w ∙ (λ i. filter p (take n xs) ++ cond (p (is i)) (is i ∷ []) []))
    ∙ map-append f (filter p (take n xs)) (cond (p x) (x ∷ []) [])

counted : {Y : Type 0} (b : Bool) (xs ys zs : List Y) → ys ≡ xs ++ cond b zs [] → length ys ≡ length xs → 0 < length zs → b ≡ false
counted true xs ys zs e same some = let long = ap length e ∙ length-append xs zs in absurd (omega arith)
counted false xs ys zs e same some = refl

counted_more : {Y : Type 0} (b : Bool) (xs ys zs : List Y) → ys ≡ xs ++ cond b zs [] → length xs < length ys → b ≡ true
counted_more true xs ys zs e more = refl
counted_more false xs ys zs e more = let long = ap length (e ∙ append-nil xs) in absurd (omega arith)

map_if : {X Y : Type 0} (f : X → Y) (b : Bool) (xs : List X) → map f (cond b xs []) ≡ cond b (map f xs) []
map_if f true xs = refl
map_if f false xs = refl

darts_step : (border : List BorderDart) (n : ℕ) (d : Dart) → n < length border → ((b : BorderDart) → dart_at border n b ≡ d) → rings_to border (n + 1) ≡ rings_to border n ++ cond (dart_begins border d) (ring_of_darts border d ∷ []) []
darts_step border n d w is =
    let long = length-map border (λ (c : BorderDart). c.dart) in
    let b : BorderDart = record { dart = d; next = d } in
    more_of (ring_of_darts border) (dart_begins border) (darts_of border) n d (omega arith) (get_or-map (λ (c : BorderDart). c.dart) border n b d w ∙ is b)
    ∙ ap (λ rs. rings_to border n ++ rs) (map_if (ring_of_darts border) (dart_begins border d) (d ∷ []))

-- ---- the rings of the first half-edges
abbrev pub rings_from : List HalfEdge → ℕ → List (List HalfEdge)
rings_from hs n = map (ring_of hs) (filter (begins_ring hs) (take n hs))

rings_step : (hs : List HalfEdge) (n : ℕ) → n < length hs → rings_from hs (n + 1) ≡ rings_from hs n ++ cond (begins_ring hs (at hs n)) (ring_of hs (at hs n) ∷ []) []
rings_step hs n w =
    more_of (ring_of hs) (begins_ring hs) hs n (at hs n) w (get_or_default hs n (at hs n) nothing w)
    ∙ ap (λ rs. rings_from hs n ++ rs) (map_if (ring_of hs) (begins_ring hs (at hs n)) (at hs n ∷ []))

abbrev IsAt : List HalfEdge → ℕ → Type 0
IsAt hs n = (b : BorderDart) → dart_at (border_of hs) n b ≡ dart_of (at hs n)

halves_kept : (hs : List HalfEdge) (n : ℕ) (seen : List Bool) → ArePlainHalves hs → IsSeen (border_of hs) n seen → n < length hs → get_or seen n false ≡ true → rings_from hs (n + 1) ≡ rings_from hs n
halves_kept hs n seen p s w on =
    let border = border_of hs in
    let h = at hs n in
    let d = dart_of h in
    let wide = length-map hs (border_dart hs) in
    let is : IsAt hs n = λ b. border_at hs n b w in
    let same = rings_kept border n seen d (linked hs p) (ascending hs p) s (omega arith) is on in
    let none = counted (dart_begins border d) (rings_to border n) (rings_to border (n + 1)) (ring_of_darts border d ∷ []) (darts_step border n d (omega arith) is) (ap length same) (omega arith) in
    rings_step hs n w ∙ ap (λ b. rings_from hs n ++ cond b (ring_of hs h ∷ []) []) (sym (begins_named hs h p (at_has hs n w)) ∙ none) ∙ append-nil (rings_from hs n)

halves_more : (hs : List HalfEdge) (n : ℕ) (seen : List Bool) → ArePlainHalves hs → IsSeen (border_of hs) n seen → n < length hs → get_or seen n false ≡ false → rings_from hs (n + 1) ≡ rings_from hs n ++ ring_of hs (at hs n) ∷ []
halves_more hs n seen p s w off =
    let border = border_of hs in
    let h = at hs n in
    let d = dart_of h in
    let wide = length-map hs (border_dart hs) in
    let is : IsAt hs n = λ b. border_at hs n b w in
    let same = rings_more border n seen d (linked hs p) (ascending hs p) s (omega arith) is off in
    let pushed = ap length same ∙ length-append (rings_to border n) (ring_of_darts border d ∷ []) in
    let some = counted_more (dart_begins border d) (rings_to border n) (rings_to border (n + 1)) (ring_of_darts border d ∷ []) (darts_step border n d (omega arith) is) (omega arith) in
    rings_step hs n w ∙ ap (λ b. rings_from hs n ++ cond b (ring_of hs h ∷ []) []) (sym (begins_named hs h p (at_has hs n w)) ∙ some)

-- ---- as the loop has it
pub record AreFound (sides : List Side) (n : ℕ) (walks : List Walk) (seen : List Bool) : Type 0 where
  pub marked : IsSeen (border_of (halves_of sides)) n seen
  pub all : map ring_in walks ≡ rings_from (halves_of sides) n
  pub each : All IsWalk walks

pub none_found : (sides : List Side) (walks : List Walk) (seen : List Bool) → seen ≡ replicate (length sides) false → walks ≡ [] → AreFound sides 0 walks seen
none_found sides walks seen is none =
    let hs = halves_of sides in
    let long = length-map hs (border_dart hs) ∙ length-map sides half_edge in
    record {
      marked = seen_none (border_of hs) seen (is ∙ ap (λ n. replicate n false) (sym long));
      all = ap (map ring_in) none;
      each = subst (All IsWalk) (sym none) (All-nil IsWalk);
    }

pub found_kept : (sides : List Side) (n : ℕ) (walks : List Walk) (seen : List Bool) → ArePlainHalves (halves_of sides) → n < length sides → get_or seen n false ≡ true → AreFound sides n walks seen → AreFound sides (n + 1) walks seen
found_kept sides n walks seen p w on f =
    let hs = halves_of sides in
    let wide = length-map hs (border_dart hs) in
    let long = length-map sides half_edge in
    record {
      marked = seen_kept (border_of hs) n seen f.marked (omega arith) on;
      all = f.all ∙ sym (halves_kept hs n seen p f.marked (omega arith) on);
      each = f.each;
    }

-- what a walk is made of
pub record IsMade (w : Walk) (ring : List Side) : Type 0 where
  pub sides : w.sides.items ≡ ring
  pub shell : w.is_shell ≡ not (is_hole_walk (closed_segments (path_along (halves_of ring))))
  pub top : w.top ≡ top_of (closed_segments (path_along (halves_of ring)))

made_walk : (hs : List HalfEdge) (n : ℕ) (w : Walk) (ring : List Side) → ArePlainHalves hs → n < length hs → IsRingAt hs n ring → IsMade w ring → IsWalk w
made_walk hs n w ring p below is made =
    let path = subst RingPath (sym (is nothing)) (ring_paths hs (at hs n) p (at_has hs n below)) in
    record {
      shell = made.shell ∙ ap (λ ss. not (is_hole_walk ss)) path.segments ∙ ap (λ (s : List Side). not (is_hole_walk (ring_segments (halves_of s)))) (sym made.sides);
      top = made.top ∙ ap top_of path.segments ∙ ap (λ (s : List Side). top_of (ring_segments (halves_of s))) (sym made.sides);
    }

pub found_more : (sides : List Side) (n : ℕ) (walks : List Walk) (seen new : List Bool) (ring : List Side) (walk : Walk) → ArePlainHalves (halves_of sides) → n < length sides → get_or seen n false ≡ false
    → IsRingAt (halves_of sides) n ring → MarksRing (halves_of sides) ring seen new → IsMade walk ring → AreFound sides n walks seen → AreFound sides (n + 1) (walks ++ walk ∷ []) new
found_more sides n walks seen new ring walk p w off is marks made f =
    let hs = halves_of sides in
    let wide = length-map hs (border_dart hs) in
    let long = length-map sides half_edge in
    let below : n < length hs = omega arith in
    let h = at hs n in
    let named = ap (map dart_of) (is nothing) ∙ sym (ring_named hs h p (at_has hs n below)) in
    record {
      marked = seen_more (border_of hs) n seen new (map dart_of (halves_of ring)) (dart_of h) (linked hs p) f.marked (omega arith) (λ b. border_at hs n b below) named marks;
      all = map_push ring_in walks walk ∙ (λ i. f.all i ++ (ap halves_of made.sides ∙ is nothing) i ∷ []) ∙ sym (halves_more hs n seen p f.marked below off);
      each = All-append IsWalk walks (walk ∷ []) f.each (All-cons IsWalk walk [] (made_walk hs n walk ring p below is made) (All-nil IsWalk));
    }

pub all_found : (sides : List Side) (n : ℕ) (walks : List Walk) (seen : List Bool) → length sides ≤ n → AreFound sides n walks seen → AreWalks (halves_of sides) walks
all_found sides n walks seen w f =
    let hs = halves_of sides in
    let long = length-map sides half_edge in
    record { all = f.all ∙ ap (λ ks. map (ring_of hs) (filter (begins_ring hs) ks)) (take_all n hs (omega arith)); each = f.each }

pub ring_long : (sides : List Side) (n : ℕ) (ring : List Side) → ArePlainHalves (halves_of sides) → n < length sides → IsRingAt (halves_of sides) n ring → 2 ≤ length (path_along (halves_of ring))
ring_long sides n ring p w is =
    let hs = halves_of sides in
    let long = length-map sides half_edge in
    (subst RingPath (sym (is nothing)) (ring_paths hs (at hs n) p (at_has hs n (omega arith)))).long
