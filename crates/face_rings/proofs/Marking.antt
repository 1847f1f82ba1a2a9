-- The places that were seen, as one ring after another is found.
use Rattle.std.proofs.Common.{◌≡◌, ℕ, ◌+◌, ◌<◌, ◌≤◌, refl, sym, ◌∙◌, ap, subst, arith, ◌⊎◌, inl, inr, ⊎_elim, Bool, true, false, ◌||◌, List, [], ◌∷◌, ◌++◌, length, map, take, drop, get_or, set, cond, replicate}
use Rattle.std.specs.Prelude.{filter}
use Rattle.std.proofs.Math.Bool.{or-false, or-true}
use Rattle.std.proofs.lemmas.Bool.{or_cases, or_left, or_right, false≢true, false_from_ne_true, cases_eq}
use Rattle.std.proofs.lemmas.List.{length-map, length-set, length-replicate, get_or-replicate, get_or-map, get_or-set_same, get_or-set_other, map-append, append-nil, get_or_default, take_all, take_at}
use Rattle.std.proofs.lemmas.List.Elements.{filter_more, Contains-get_or}
use Rattle.std.proofs.lemmas.List.Folds.{list_any_more}
use Rattle.topo_base.specs.Darts.{same_dart}
use Rattle.topo_base.specs.declared.ids.Dart.{Dart}
use Rattle.drawing.proofs.Members.{contains-mapped}
use Rattle.face_rings.specs.declared.content.BorderDart.{BorderDart}
use Rattle.face_rings.specs.Border.{dart_before, darts_ascend, darts_of, has_dart}
use Rattle.face_rings.specs.Rings.{ring_of, begins_ring, rings, Marks}
use Rattle.face_rings.proofs.Ranks.{rank, same_in, not_same, before_out, before_in, ranks_ascend, place_less, place_same}
use Rattle.face_rings.proofs.Orbits.{Has, IsLinkedBorder}
use Rattle.face_rings.proofs.Reaching.{Reaches, reaches_on, reaches_back, reaches_known, in_ring, from_ring, begins, begins_not}

-- ---- marking the darts of one ring
pub marks_none : (border : List BorderDart) (ring : List Dart) (seen : List Bool) → Marks border (take 0 ring) seen seen
marks_none border ring seen = record { long = refl; marked = λ i b w. sym (or-false (get_or seen i false)) }

-- the place of the dart at index k of the ring is marked next
pub marks_more : (border : List BorderDart) (ring : List Dart) (old seen : List Bool) (k place : ℕ) (d : Dart) → darts_ascend border ≡ true → length old ≡ length border → k < length ring → d ≡ get_or ring k d
    → place < length border → ((b : BorderDart) → (get_or border place b).dart ≡ d) → Marks border (take k ring) old seen → Marks border (take (k + 1) ring) old (set seen place true)
marks_more border ring old seen k place d up full within is there at m =
    record { long = length-set seen place true ∙ m.long; marked = λ i b w. ⊎_elim (λ (e : i ≡ place). here i b e) (λ (far : i ≡ place → ⊥). other i b w far) (cases_eq i place) }
  where
    more : (e : Dart) → has_dart (take (k + 1) ring) e ≡ (has_dart (take k ring) e || same_dart e d)
    more e = list_any_more (same_dart e) ring k d within ∙ ap (λ (x : Dart). has_dart (take k ring) e || same_dart e x) (sym is)

    here : (i : ℕ) (b : BorderDart) → i ≡ place → get_or (set seen place true) i false ≡ (get_or old i false || has_dart (take (k + 1) ring) ((get_or border i b).dart))
    here i b e =
        let e1 = get_or-set_same seen place true false (omega (arith, m.long)) in
        let e2 = ap (λ (n : ℕ). get_or (set seen place true) n false) e in
        let dart : (get_or border i b).dart ≡ d = ap (λ (n : ℕ). (get_or border n b).dart) e ∙ at b in
        let has : has_dart (take (k + 1) ring) ((get_or border i b).dart) ≡ true = more ((get_or border i b).dart) ∙ ap (λ (t : Bool). has_dart (take k ring) ((get_or border i b).dart) || t) (same_in ((get_or border i b).dart) d dart) ∙ or-true (has_dart (take k ring) ((get_or border i b).dart)) in
        e2 ∙ e1 ∙ sym (ap (λ (t : Bool). get_or old i false || t) has ∙ or-true (get_or old i false))

    other : (i : ℕ) (b : BorderDart) → i < length border → (i ≡ place → ⊥) → get_or (set seen place true) i false ≡ (get_or old i false || has_dart (take (k + 1) ring) ((get_or border i b).dart))
    other i b w far =
        let dart = (get_or border i b).dart in
        let differ : same_dart dart d ≡ false = not_same dart d (λ e. far (place_same border i place b up w there (e ∙ sym (at b)))) in
        let has : has_dart (take (k + 1) ring) dart ≡ has_dart (take k ring) dart = more dart ∙ ap (λ (t : Bool). has_dart (take k ring) dart || t) differ ∙ or-false (has_dart (take k ring) dart) in
        get_or-set_other seen place i true false far ∙ m.marked i b w ∙ ap (λ (t : Bool). get_or old i false || t) (sym has)

-- ---- the rings found so far
abbrev pub dart_at : List BorderDart → ℕ → BorderDart → Dart
dart_at border i b = (get_or border i b).dart

-- marked are the darts that one of the first n reaches
pub record IsSeen (border : List BorderDart) (n : ℕ) (seen : List Bool) : Type 0 where
  pub long : length seen ≡ length border
  pub only : (i : ℕ) (b : BorderDart) → i < length border → get_or seen i false ≡ true → (j : ℕ) × ((j < n) × Reaches border (dart_at border j b) (dart_at border i b))
  pub all : (i j : ℕ) (b : BorderDart) → i < length border → j < n → Reaches border (dart_at border j b) (dart_at border i b) → get_or seen i false ≡ true

pub seen_none : (border : List BorderDart) (seen : List Bool) → seen ≡ replicate (length border) false → IsSeen border 0 seen
seen_none border seen is = record {
  long = ap length is ∙ length-replicate (length border) false;
  only = λ i b w on. absurd (false≢true (sym (ap (λ (s : List Bool). get_or s i false) is ∙ get_or-replicate (length border) i false false w) ∙ on));
  all = λ i j b w l reach. absurd (omega arith);
}

has_at : (border : List BorderDart) (i : ℕ) (b : BorderDart) → i < length border → Has border (dart_at border i b)
has_at border i b w =
    let long = length-map border (λ (c : BorderDart). c.dart) in
    subst (Has border) (get_or-map (λ (c : BorderDart). c.dart) border i b b.dart w) (Contains-get_or (darts_of border) i b.dart (omega arith))

-- a dart whose place is marked begins no ring
seen_begins : (border : List BorderDart) (n : ℕ) (seen : List Bool) (b : BorderDart) → IsLinkedBorder border → darts_ascend border ≡ true → IsSeen border n seen → n < length border → get_or seen n false ≡ true → begins_ring border (dart_at border n b) ≡ false
seen_begins border n seen b linked up s w on =
    let one = s.only n b w on in
    let j = one.0 in
    let less = ranks_ascend border j n b up one.1.0 w in
    begins_not border (dart_at border n b) (dart_at border j b) linked (has_at border n b w)
    (reaches_back border (dart_at border j b) (dart_at border n b) linked (has_at border j b (omega arith)) one.1.1)
    (before_in (dart_at border j b) (dart_at border n b) less)

-- a dart whose place is not marked begins one
new_begins : (border : List BorderDart) (n : ℕ) (seen : List Bool) (b : BorderDart) → IsLinkedBorder border → darts_ascend border ≡ true → IsSeen border n seen → n < length border → get_or seen n false ≡ false → begins_ring border (dart_at border n b) ≡ true
new_begins border n seen b linked up s w off = begins border here (λ e reach. before_none e reach)
  where
    here : Dart
    here = dart_at border n b

    lower : (e : Dart) → Reaches border here e → dart_before e here ≡ true → ⊥
    lower e reach less =
        let known = reaches_known border here e linked (has_at border n b w) reach in
        let one = contains-mapped (λ (c : BorderDart). c.dart) e border known in
        let i = one.1.0.0 in
        let there : i < length border = one.1.0.1 in
        let is : get_or border i (one.0) ≡ one.0 = one.1.0.2 in
        let same : dart_at border i b ≡ e = ap (λ (c : BorderDart). c.dart) (get_or_default border i b (one.0) there ∙ is) ∙ one.1.1 in
        let first : i < n = place_less border i n b up there (subst (λ (x : Dart). rank x < rank here) (sym same) (before_out e here less)) in
        let back : Reaches border (dart_at border i b) here = subst (λ (x : Dart). Reaches border x here) (sym same) (reaches_back border here e linked (has_at border n b w) reach) in
        false≢true (sym off ∙ s.all n i b w first back)

    before_none : (e : Dart) → Reaches border here e → dart_before e here ≡ false
    before_none e reach = false_from_ne_true (dart_before e here) (lower e reach)

-- ---- one place on
one_on : (j n : ℕ) → j < n + 1 → (j ≡ n) ⊎ (j < n)
one_on j n h = grind arith

pub seen_kept : (border : List BorderDart) (n : ℕ) (seen : List Bool) → IsSeen border n seen → n < length border → get_or seen n false ≡ true → IsSeen border (n + 1) seen
seen_kept border n seen s w on = record {
  long = s.long;
  only = λ i b v marked. let one = s.only i b v marked in let less = one.1.0 in (one.0, (omega arith, one.1.1));
  all = λ i j b v l reach. ⊎_elim (λ (e : j ≡ n). by_earlier i b v (subst (λ (k : ℕ). Reaches border (dart_at border k b) (dart_at border i b)) e reach)) (λ (k : j < n). s.all i j b v k reach) (one_on j n l);
}
  where
    by_earlier : (i : ℕ) (b : BorderDart) → i < length border → Reaches border (dart_at border n b) (dart_at border i b) → get_or seen i false ≡ true
    by_earlier i b v reach =
        let one = s.only n b w on in
        s.all i one.0 b v one.1.0 (reaches_on border (dart_at border one.0 b) (dart_at border n b) (dart_at border i b) one.1.1 reach)

pub seen_more : (border : List BorderDart) (n : ℕ) (seen new : List Bool) (ring : List Dart) (d : Dart) → IsLinkedBorder border → IsSeen border n seen → n < length border → ((b : BorderDart) → dart_at border n b ≡ d) → ring ≡ ring_of border d → Marks border ring seen new → IsSeen border (n + 1) new
seen_more border n seen new ring d linked s w at is m = record {
  long = m.long ∙ s.long;
  only = λ i b v marked. by_mark i b v (or_cases (get_or seen i false) (has_dart ring (dart_at border i b)) (sym (m.marked i b v) ∙ marked));
  all = λ i j b v l reach.
      ⊎_elim
      (λ (e : j ≡ n).
      m.marked i b v
      ∙ or_right (get_or seen i false) (has_dart ring (dart_at border i b))
      (subst (λ ds. has_dart ds (dart_at border i b) ≡ true) (sym is)
      (in_ring border d (dart_at border i b) linked (subst (Has border) (at b) (has_at border n b w))
      (subst (λ (x : Dart). Reaches border x (dart_at border i b)) (ap (λ (k : ℕ). dart_at border k b) e ∙ at b) reach))))
      (λ (k : j < n). m.marked i b v ∙ or_left (get_or seen i false) (has_dart ring (dart_at border i b)) (s.all i j b v k reach))
      (one_on j n l);
}
  where
    by_mark : (i : ℕ) (b : BorderDart) → i < length border → (get_or seen i false ≡ true) ⊎ (has_dart ring (dart_at border i b) ≡ true) → (j : ℕ) × ((j < n + 1) × Reaches border (dart_at border j b) (dart_at border i b))
    by_mark i b v (inl marked) = let one = s.only i b v marked in let less = one.1.0 in (one.0, (omega arith, one.1.1))
    by_mark i b v (inr has) =
        let reach = from_ring border d (dart_at border i b) (subst (λ ds. has_dart ds (dart_at border i b) ≡ true) is has) in
        (n, (omega arith, subst (λ (x : Dart). Reaches border x (dart_at border i b)) (sym (at b)) reach))

-- ---- the rings of the first n darts
abbrev pub rings_to : List BorderDart → ℕ → List (List Dart)
rings_to border n = map (ring_of border) (filter (begins_ring border) (take n (darts_of border)))

rings_step : (border : List BorderDart) (n : ℕ) (d : Dart) → n < length border → ((b : BorderDart) → dart_at border n b ≡ d) → rings_to border (n + 1) ≡ rings_to border n ++ map (ring_of border) (cond (begins_ring border d) (d ∷ []) [])
rings_step border n d w at =
    let long = length-map border (λ (c : BorderDart). c.dart) in
    let b : BorderDart = record { dart = d; next = d } in
    let read : get_or (darts_of border) n d ≡ d = get_or-map (λ (c : BorderDart). c.dart) border n b d w ∙ at b in
    ap (map (ring_of border))
    (filter_more (begins_ring border) (darts_of border) n d (omega arith)
    ∙ ap (λ (x : Dart). filter (begins_ring border) (take n (darts_of border)) ++ cond (begins_ring border x) (x ∷ []) []) read)
    ∙ map-append (ring_of border) (filter (begins_ring border) (take n (darts_of border))) (cond (begins_ring border d) (d ∷ []) [])

pub rings_kept : (border : List BorderDart) (n : ℕ) (seen : List Bool) (d : Dart) → IsLinkedBorder border → darts_ascend border ≡ true → IsSeen border n seen → n < length border → ((b : BorderDart) → dart_at border n b ≡ d) → get_or seen n false ≡ true → rings_to border (n + 1) ≡ rings_to border n
rings_kept border n seen d linked up s w at on =
    let b : BorderDart = record { dart = d; next = d } in
    let none : begins_ring border d ≡ false = ap (begins_ring border) (sym (at b)) ∙ seen_begins border n seen b linked up s w on in
    rings_step border n d w at ∙ ap (λ (t : Bool). rings_to border n ++ map (ring_of border) (cond t (d ∷ []) [])) none ∙ append-nil (rings_to border n)

pub rings_more : (border : List BorderDart) (n : ℕ) (seen : List Bool) (d : Dart) → IsLinkedBorder border → darts_ascend border ≡ true → IsSeen border n seen → n < length border → ((b : BorderDart) → dart_at border n b ≡ d) → get_or seen n false ≡ false → rings_to border (n + 1) ≡ rings_to border n ++ ring_of border d ∷ []
rings_more border n seen d linked up s w at off =
    let b : BorderDart = record { dart = d; next = d } in
    let some : begins_ring border d ≡ true = ap (begins_ring border) (sym (at b)) ∙ new_begins border n seen b linked up s w off in
    rings_step border n d w at ∙ ap (λ (t : Bool). rings_to border n ++ map (ring_of border) (cond t (d ∷ []) [])) some

pub rings_all : (border : List BorderDart) (n : ℕ) → length border ≤ n → rings_to border n ≡ rings border
rings_all border n h =
    let long = length-map border (λ (c : BorderDart). c.dart) in
    ap (λ (ds : List Dart). map (ring_of border) (filter (begins_ring border) ds)) (take_all n (darts_of border) (omega arith))

-- ---- as the loop has it
pub dart_read : (border bs : List BorderDart) (n : ℕ) (x : BorderDart) → bs ≡ border → n < length bs → (b : BorderDart) → dart_at border n b ≡ dart_at bs n x
dart_read border bs n x same w b = ap (λ (ys : List BorderDart). dart_at ys n b) (sym same) ∙ ap (λ (c : BorderDart). c.dart) (get_or_default bs n b x w)

pub known_read : (border bs : List BorderDart) (n : ℕ) (x : BorderDart) → bs ≡ border → n < length bs → Has border (dart_at bs n x)
known_read border bs n x same w = subst (λ (ys : List BorderDart). Has ys (dart_at bs n x)) same (has_at bs n x w)

no_dart : BorderDart
no_dart = let d : Dart = record { edge = 0; forward = true } in record { dart = d; next = d }

pub kept_at : (border : List BorderDart) (n : ℕ) (seen : List Bool) → IsLinkedBorder border → darts_ascend border ≡ true → IsSeen border n seen → n < length border → get_or seen n false ≡ true → rings_to border (n + 1) ≡ rings_to border n
kept_at border n seen linked up s w on =
    rings_kept border n seen (dart_at border n no_dart) linked up s w (λ b. ap (λ (c : BorderDart). c.dart) (get_or_default border n b no_dart w)) on

pub written : (n : ℕ) (marks seen : List Bool) → length marks ≡ n → take n (marks ++ drop (length marks) seen) ≡ marks
written n marks seen h = take_at marks (drop (length marks) seen) n h
