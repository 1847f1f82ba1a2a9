-- The rings of a border divide its darts.
use Rattle.std.proofs.Common.{◌≡◌, ℕ, zero, suc, ◌+◌, ◌-◌, ◌<◌, ◌≤◌, refl, sym, ◌∙◌, ap, subst, arith, ◌⊎◌, ⊎_elim, true, false, IsTrue, List, [], ◌∷◌, length, get_or}
use Rattle.std.specs.Prelude.{filter}
use Rattle.std.specs.List.{Contains}
use Rattle.std.proofs.lemmas.Bool.{cases_order, cases_lt, false≢true, or_left, or_right}
use Rattle.topo_base.specs.Darts.{same_dart}
use Rattle.topo_base.specs.declared.ids.Dart.{Dart}
use Rattle.plane.proofs.ListTests.{Decides-any}
use Rattle.drawing.proofs.Members.{contains-map, contains-mapped, contains-filter, contains-filtered}
use Rattle.face_rings.specs.declared.content.BorderDart.{BorderDart}
use Rattle.face_rings.specs.Border.{darts_of, has_dart, next_dart, are_linked}
use Rattle.face_rings.specs.Rings.{walk, ring_of, begins_ring, rings}
use Rattle.face_rings.specs.RingLaw.{IsRingFrom, IsInOne, RingsDivide}
use Rattle.face_rings.proofs.Ranks.{by_bool, rank, before_in, before_no, rank_same, same_out, same_in, same_self, Decides-same_dart}
use Rattle.face_rings.proofs.Orbits.{Has, IsLinkedBorder, linked_of, after, cancel, ComesBack, comes_back}
use Rattle.face_rings.proofs.Reaching.{Reaches, reaches_self, reaches_on, reaches_back, reaches_known, after_inner, walk_last, walk_more, has_cases, in_ring, from_ring, begins, begins_not}

-- ---- the places of a walk
-- it comes back after one step more than this, and not before
pub record Returns (border : List BorderDart) (first d : Dart) (j : ℕ) : Type 0 where
  pub back : after border (suc j) d ≡ first
  pub away : (i : ℕ) → i < j → after border (suc i) d ≡ first → ⊥

pub record HasPlaces (border : List BorderDart) (d : Dart) (j : ℕ) (ds : List Dart) : Type 0 where
  pub long : length ds ≡ suc j
  pub at : (i : ℕ) (x : Dart) → i < suc j → get_or ds i x ≡ after border i d

places_last : (border : List BorderDart) (d : Dart) → HasPlaces border d 0 (d ∷ [])
places_last border d = record { long = refl; at = at }
  where
    at : (i : ℕ) (x : Dart) → i < 1 → get_or (d ∷ []) i x ≡ after border i d
    at zero x h = refl
    at (suc i) x h = absurd (omega arith)

places_more : (border : List BorderDart) (d : Dart) (j : ℕ) (ds : List Dart) → HasPlaces border (next_dart border d) j ds → HasPlaces border d (suc j) (d ∷ ds)
places_more border d j ds p = record { long = ap suc p.long; at = at }
  where
    at : (i : ℕ) (x : Dart) → i < suc (suc j) → get_or (d ∷ ds) i x ≡ after border i d
    at zero x h = refl
    at (suc i) x h = p.at i x (omega arith) ∙ after_inner border i d

walk_places : (border : List BorderDart) (first d : Dart) (n j : ℕ) → j < n → Returns border first d j → HasPlaces border d j (walk border first n d)
walk_places border first d zero j w r = absurd (omega arith)
walk_places border first d (suc n) zero w r = subst (HasPlaces border d 0) (sym (walk_last border first d n (same_in (next_dart border d) first r.back))) (places_last border d)
walk_places border first d (suc n) (suc j) w r =
    ⊎_elim
    (λ (t : same_dart (next_dart border d) first ≡ true). absurd (r.away 0 (omega arith) (same_out (next_dart border d) first t)))
    (λ (t : same_dart (next_dart border d) first ≡ false).
    subst (HasPlaces border d (suc j)) (sym (walk_more border first d n t))
    (places_more border d j (walk border first n (next_dart border d))
    (walk_places border first (next_dart border d) n j (omega arith) (record {
      back = after_inner border (suc j) d ∙ r.back;
      away = λ i l e. r.away (suc i) (omega arith) (sym (after_inner border (suc i) d) ∙ e);
    }))))
    (by_bool (same_dart (next_dart border d) first))

ring_places : (border : List BorderDart) (d : Dart) (j : ℕ) (ring : List Dart) → IsLinkedBorder border → Has border d → Returns border d d j → HasPlaces border d j ring → IsRingFrom border d ring
ring_places border d j ring linked h r p =
    let long = p.long in
    record {
      some = omega arith;
      begins = λ x. p.at 0 x (omega arith);
      follows = λ i x l.
          let e : i + 1 ≡ suc i = omega arith in
          p.at (i + 1) x (omega arith) ∙ ap (λ (k : ℕ). after border k d) e ∙ sym (ap (next_dart border) (p.at i x (omega arith)));
      closes = λ x.
          let e : length ring - 1 ≡ j = omega arith in
          ap (next_dart border) (p.at (length ring - 1) x (omega arith) ∙ ap (λ (k : ℕ). after border k d) e) ∙ r.back;
      once = λ i k x l w same. apart i k l (omega arith) (sym (p.at i x (omega arith)) ∙ same ∙ p.at k x (omega arith));
    }
  where
    away : (m : ℕ) → 0 < m → m < suc j → after border m d ≡ d → ⊥
    away zero some l e = omega arith
    away (suc m) some l e = r.away m (omega arith) e

    apart : (i k : ℕ) → i < k → k < suc j → after border i d ≡ after border k d → ⊥
    apart i k l w e =
        let m : k ≡ i + (k - i) = omega arith in
        away (k - i) (omega arith) (omega arith) (sym (cancel border i (k - i) d linked h (e ∙ ap (λ (n : ℕ). after border n d) m)))

pub ring_is_ring : (border : List BorderDart) (d : Dart) → IsTrue (are_linked border) → Has border d → IsRingFrom border d (ring_of border d)
ring_is_ring border d links h = by_steps back.steps back.some back.few back.is back.first
  where
    linked : IsLinkedBorder border
    linked = linked_of border links

    back : ComesBack border d
    back = comes_back border d (linked_of border links) h

    by_steps : (n : ℕ) → 0 < n → n ≤ length border → after border n d ≡ d → ((j : ℕ) → 0 < j → j < n → after border j d ≡ d → ⊥) → IsRingFrom border d (ring_of border d)
    by_steps zero some few is first = absurd (omega arith)
    by_steps (suc j) some few is first =
        let r : Returns border d d j = record { back = is; away = λ i l e. first (suc i) (omega arith) (omega arith) e } in
        ring_places border d j (ring_of border d) (linked_of border links) h r (walk_places border d d (length border) j (omega arith) r)

-- ---- the least dart of a ring
pub record IsLeast (ds : List Dart) (e : Dart) : Type 0 where
  pub there : has_dart ds e ≡ true
  pub least : (x : Dart) → has_dart ds x ≡ true → rank e ≤ rank x

least_of : (d : Dart) (ds : List Dart) → (e : Dart) × IsLeast (d ∷ ds) e
least_of d [] = (
  d,
  record {
    there = or_left (same_dart d d) false (same_self d);
    least = λ x h. ⊎_elim (λ (p : x ≡ d). let e = ap rank p in omega arith) (λ (k : has_dart [] x ≡ true). absurd (false≢true k)) (has_cases d x [] h);
  },
)
least_of d (c ∷ ds) =
    let (e, l) = least_of c ds in
    ⊎_elim
    (λ (less : rank d < rank e). (
      d,
      record {
        there = or_left (same_dart d d) (has_dart (c ∷ ds) d) (same_self d);
        least = λ x h. ⊎_elim (λ (p : x ≡ d). let q = ap rank p in omega arith) (λ (k : has_dart (c ∷ ds) x ≡ true). let q = l.least x k in omega arith) (has_cases d x (c ∷ ds) h);
      },
    ))
    (λ (more : rank e ≤ rank d). (
      e,
      record {
        there = or_right (same_dart e d) (has_dart (c ∷ ds) e) l.there;
        least = λ x h. ⊎_elim (λ (p : x ≡ d). let q = ap rank p in omega arith) (λ (k : has_dart (c ∷ ds) x ≡ true). l.least x k) (has_cases d x (c ∷ ds) h);
      },
    ))
    (cases_lt (rank d) (rank e))

least_among : (ds : List Dart) (d : Dart) → has_dart ds d ≡ true → (e : Dart) × IsLeast ds e
least_among [] d h = absurd (false≢true h)
least_among (c ∷ ds) d h = least_of c ds

pub contains_has : (ds : List Dart) (d : Dart) → has_dart ds d ≡ true → Contains ds d
contains_has ds d h = let f = (Decides-any (same_dart d) (λ x. d ≡ x) (Decides-same_dart d) ds).0 h in subst (Contains ds) (sym f.1.1) f.1.0

pub has_contains : (ds : List Dart) (d : Dart) → Contains ds d → has_dart ds d ≡ true
has_contains ds d c = (Decides-any (same_dart d) (λ x. d ≡ x) (Decides-same_dart d) ds).1 (d, (c, refl))

-- two that reach one another and begin rings are one
one_beginning : (border : List BorderDart) (c e : Dart) → IsLinkedBorder border → Has border c → Has border e → Reaches border c e → begins_ring border c ≡ true → begins_ring border e ≡ true → c ≡ e
one_beginning border c e linked hc he reach bc be =
    ⊎_elim
    (λ (p : rank c ≡ rank e). rank_same c e p)
    (λ (k : (rank c < rank e) ⊎ (rank e < rank c)).
    ⊎_elim
    (λ (l : rank c < rank e). absurd (false≢true (sym (begins_not border e c linked he (reaches_back border c e linked hc reach) (before_in c e l)) ∙ be)))
    (λ (l : rank e < rank c). absurd (false≢true (sym (begins_not border c e linked hc reach (before_in e c l)) ∙ bc)))
    k)
    (cases_order (rank c) (rank e))

pub in_one : (border : List BorderDart) (d : Dart) → IsTrue (are_linked border) → Has border d → IsInOne (rings border) d
in_one border d links h =
    let linked = linked_of border links in
    let (e, l) = least_among (ring_of border d) d (in_ring border d d linked h (reaches_self border d)) in
    let reach : Reaches border d e = from_ring border d e l.there in
    let known : Has border e = reaches_known border d e linked h reach in
    let starts : begins_ring border e ≡ true = begins border e (λ x to. before_no x e (l.least x (in_ring border d x linked h (reaches_on border d e x reach to)))) in (
      ring_of border e,
      (
        contains-map (ring_of border) e (filter (begins_ring border) (darts_of border)) (contains-filter (begins_ring border) e (darts_of border) known starts),
        contains_has (ring_of border e) d (in_ring border e d linked known (reaches_back border d e linked h reach)),
        λ other c in_it.
            let (b, (there, is)) = contains-mapped (ring_of border) other (filter (begins_ring border) (darts_of border)) c in
            let p = contains-filtered (begins_ring border) b (darts_of border) there in
            let to_d : Reaches border b d = from_ring border b d (has_contains (ring_of border b) d (subst (λ (ds : List Dart). Contains ds d) (sym is) in_it)) in
            sym is ∙ ap (ring_of border) (one_beginning border b e linked p.0 known (reaches_on border b d e to_d reach) p.1 starts),
      ),
    )

pub rings_divide : RingsDivide
rings_divide = record { ring = ring_is_ring; one = in_one }
