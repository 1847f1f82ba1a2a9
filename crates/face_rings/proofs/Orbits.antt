-- The darts that follow a dart, one after another, come back to it.
use Rattle.std.proofs.Common.{◌≡◌, ℕ, zero, suc, ◌+◌, ◌-◌, ◌<◌, ◌≤◌, refl, sym, ◌∙◌, ap, subst, arith, ◌⊎◌, inl, inr, ⊎_elim, Bool, true, false, not, IsTrue, List, [], ◌∷◌, length}
use Rattle.std.specs.Prelude.{if◌then◌else◌}
use Rattle.std.specs.Bool.{Decides}
use Rattle.std.specs.List.{Contains, IsDistinct, AllByRecursion, list_all, list_any}
use Rattle.std.proofs.lemmas.Bool.{and_parts, or_cases, false≢true}
use Rattle.std.proofs.lemmas.Bool.Decides.{Decides-and, Decides-not, Decides-like}
use Rattle.std.proofs.lemmas.List.Elements.{All-contains}
use Rattle.std.proofs.lemmas.List.{length-map}
use Rattle.std.proofs.lemmas.Map.Made.{length-le_from_is_member}
use Rattle.topo_base.specs.Darts.{same_dart}
use Rattle.topo_base.specs.declared.ids.Dart.{Dart}
use Rattle.plane.proofs.ListTests.{contains_here, contains_there, contains_cases, contains_none, Decides-any, Decides-all}
use Rattle.drawing.proofs.Members.{Pairwise, pairwise-same}
use Rattle.face_rings.specs.declared.content.BorderDart.{BorderDart}
use Rattle.face_rings.specs.Border.{has_dart, darts_of, next_dart, nexts_differ, are_linked}
use Rattle.face_rings.proofs.Ranks.{by_bool, same_out, same_in, not_same, Decides-same_dart, same_dart_laws}

abbrev pub Has : List BorderDart → Dart → Type 0
Has border d = Contains (darts_of border) d

-- ---- the condition
pub record IsLinkedBorder (border : List BorderDart) : Type 0 where
  -- each next dart is one of the border
  pub known : (b : BorderDart) → Contains border b → Has border b.next
  -- no two darts have the same next dart
  pub apart : (b c : BorderDart) → Contains border b → Contains border c → b.next ≡ c.next → b.dart ≡ c.dart

abbrev pub NextsDiffer : BorderDart → BorderDart → Type 0
NextsDiffer b c = c.next ≡ b.next → ⊥

pub Decides-has : (border : List BorderDart) (d : Dart) → Decides (has_dart (darts_of border) d) (Has border d)
Decides-has border d =
    Decides-like (has_dart (darts_of border) d) (λ f. subst (Contains (darts_of border)) (sym f.1.1) f.1.0) (λ c. (d, (c, refl)))
    (Decides-any (same_dart d) (λ x. d ≡ x) (Decides-same_dart d) (darts_of border))

pub Decides-differ : (border : List BorderDart) → Decides (nexts_differ border) (Pairwise NextsDiffer border)
Decides-differ [] = (λ h. tt, λ h. refl)
Decides-differ (b ∷ border) =
    let test = λ (c : BorderDart). same_dart c.next b.next in
    let any = Decides-any test (λ (c : BorderDart). c.next ≡ b.next) (λ c. Decides-same_dart c.next b.next) border in
    let none = Decides-not (list_any test border) any in
    let each : Decides (not (list_any test border)) ((c : BorderDart) → Contains border c → NextsDiffer b c) =
    Decides-like (not (list_any test border)) (λ f. λ c k s. f (c, (k, s))) (λ f. λ s. f s.0 s.1.0 s.1.1) none in
    Decides-and (not (list_any test border)) (nexts_differ border) each (Decides-differ border)

pub linked_of : (border : List BorderDart) → IsTrue (are_linked border) → IsLinkedBorder border
linked_of border h =
    let parts = and_parts (list_all (λ (b : BorderDart). has_dart (darts_of border) b.next) border) (nexts_differ border) h in
    let known = (Decides-all (λ (b : BorderDart). has_dart (darts_of border) b.next) (λ (b : BorderDart). Has border b.next) (λ b. Decides-has border b.next) border).0 parts.0 in
    let apart = (Decides-differ border).0 parts.1 in
    record {
      known = λ b c. All-contains (λ (x : BorderDart). Has border x.next) border b known c;
      apart = λ b c k l e. ap (λ (x : BorderDart). x.dart) (pairwise-same NextsDiffer border b c apart k l (λ far. far (sym e)) (λ far. far e));
    }

-- ---- next
pub record IsFound (border : List BorderDart) (d : Dart) : Type 0 where
  pub one : BorderDart
  pub there : Contains border one
  pub dart : one.dart ≡ d
  pub next : next_dart border d ≡ one.next

next_here : (b : BorderDart) (border : List BorderDart) (d : Dart) → same_dart b.dart d ≡ true → next_dart (b ∷ border) d ≡ b.next
next_here b border d e = ap (λ (t : Bool). if t then b.next else next_dart border d) e

next_there : (b : BorderDart) (border : List BorderDart) (d : Dart) → same_dart b.dart d ≡ false → next_dart (b ∷ border) d ≡ next_dart border d
next_there b border d e = ap (λ (t : Bool). if t then b.next else next_dart border d) e

pub next_found : (border : List BorderDart) (d : Dart) → Has border d → IsFound border d
next_found [] d h = absurd (contains_none d h)
next_found (b ∷ border) d h =
    ⊎_elim
    (λ (e : same_dart b.dart d ≡ true). record { one = b; there = contains_here b border; dart = same_out b.dart d e; next = next_here b border d e })
    (λ (e : same_dart b.dart d ≡ false).
    let rest = next_found border d (⊎_elim (λ (p : b.dart ≡ d). absurd (false≢true (sym e ∙ same_in b.dart d p))) (λ (c : Has border d). c) (contains_cases d b.dart (darts_of border) h)) in
    record { one = rest.one; there = contains_there rest.one b border rest.there; dart = rest.dart; next = next_there b border d e ∙ rest.next })
    (by_bool (same_dart b.dart d))

pub next_known : (border : List BorderDart) (d : Dart) → IsLinkedBorder border → Has border d → Has border (next_dart border d)
next_known border d linked h =
    let f = next_found border d h in
    subst (Has border) (sym f.next) (linked.known f.one f.there)

pub next_apart : (border : List BorderDart) (d e : Dart) → IsLinkedBorder border → Has border d → Has border e → next_dart border d ≡ next_dart border e → d ≡ e
next_apart border d e linked h k same =
    let f = next_found border d h in
    let g = next_found border e k in
    sym f.dart ∙ linked.apart f.one g.one f.there g.there (sym f.next ∙ same ∙ g.next) ∙ g.dart

-- ---- so many steps on
abbrev pub after : List BorderDart → ℕ → Dart → Dart
after border zero d = d
after border (suc k) d = next_dart border (after border k d)

pub after_known : (border : List BorderDart) (k : ℕ) (d : Dart) → IsLinkedBorder border → Has border d → Has border (after border k d)
after_known border zero d linked h = h
after_known border (suc k) d linked h = next_known border (after border k d) linked (after_known border k d linked h)

pub after-add : (border : List BorderDart) (j k : ℕ) (d : Dart) → after border (j + k) d ≡ after border j (after border k d)
after-add border zero k d = let e : zero + k ≡ k = omega arith in ap (λ (n : ℕ). after border n d) e
after-add border (suc j) k d =
    let e : suc j + k ≡ suc (j + k) = omega arith in
    ap (λ (n : ℕ). after border n d) e ∙ ap (next_dart border) (after-add border j k d)

-- where two are the same, so is the first with one
pub cancel : (border : List BorderDart) (i m : ℕ) (d : Dart) → IsLinkedBorder border → Has border d → after border i d ≡ after border (i + m) d → d ≡ after border m d
cancel border zero m d linked h e = let n : zero + m ≡ m = omega arith in e ∙ ap (λ (k : ℕ). after border k d) n
cancel border (suc i) m d linked h e =
    let n : suc i + m ≡ suc (i + m) = omega arith in
    cancel border i m d linked h
    (next_apart border (after border i d) (after border (i + m) d) linked (after_known border i d linked h) (after_known border (i + m) d linked h) (e ∙ ap (λ (k : ℕ). after border k d) n))

-- ---- the first so many, the last of them first
abbrev orbit : List BorderDart → ℕ → Dart → List Dart
orbit border zero d = []
orbit border (suc n) d = after border n d ∷ orbit border n d

length-orbit : (border : List BorderDart) (n : ℕ) (d : Dart) → length (orbit border n d) ≡ n
length-orbit border zero d = refl
length-orbit border (suc n) d = ap suc (length-orbit border n d)

all_in_orbit : (border : List BorderDart) (n : ℕ) (d : Dart) (P : Dart → Type 0) → ((i : ℕ) → i < n → P (after border i d)) → AllByRecursion P (orbit border n d)
all_in_orbit border zero d P each = tt
all_in_orbit border (suc n) d P each = (each n (omega arith), all_in_orbit border n d P (λ i w. each i (omega arith)))

orbit_distinct : (border : List BorderDart) (n : ℕ) (d : Dart) → ((i j : ℕ) → i < j → j < n → after border i d ≡ after border j d → ⊥) → IsDistinct same_dart (orbit border n d)
unfolding IsDistinct
orbit_distinct border zero d apart = tt
orbit_distinct border (suc n) d apart = (
  all_in_orbit border n d (λ y. same_dart (after border n d) y ≡ false) (λ i w. not_same (after border n d) (after border i d) (λ e. apart i n w (omega arith) (sym e))),
  orbit_distinct border n d (λ i j l w. apart i j l (omega arith)),
)

orbit_known : (border : List BorderDart) (n : ℕ) (d q : Dart) → IsLinkedBorder border → Has border d → list_any (same_dart q) (orbit border n d) ≡ true → list_any (same_dart q) (darts_of border) ≡ true
orbit_known border zero d q linked h m = absurd (false≢true m)
orbit_known border (suc n) d q linked h m =
    ⊎_elim
    (λ (e : same_dart q (after border n d) ≡ true).
    (Decides-any (same_dart q) (λ x. q ≡ x) (Decides-same_dart q) (darts_of border)).1 (after border n d, (after_known border n d linked h, same_out q (after border n d) e)))
    (λ (e : list_any (same_dart q) (orbit border n d) ≡ true). orbit_known border n d q linked h e)
    (or_cases (same_dart q (after border n d)) (list_any (same_dart q) (orbit border n d)) m)

-- as many darts as the border has come before the first comes back
pub bounded : (border : List BorderDart) (n : ℕ) (d : Dart) → IsLinkedBorder border → Has border d → ((j : ℕ) → 0 < j → j < n → after border j d ≡ d → ⊥) → n ≤ length border
bounded border n d linked h away =
    let few = length-le_from_is_member same_dart_laws (orbit border n d) (darts_of border)
    (orbit_distinct border n d
    (λ i j l w e. let m : j ≡ i + (j - i) = omega arith in
    away (j - i) (omega arith) (omega arith) (sym (cancel border i (j - i) d linked h (e ∙ ap (λ (k : ℕ). after border k d) m)))))
    (λ q m. orbit_known border n d q linked h m) in
    let one = length-orbit border n d in
    let two = length-map border (λ (b : BorderDart). b.dart) in
    omega arith

-- ---- the first comes back
pub record ComesBack (border : List BorderDart) (d : Dart) : Type 0 where
  pub steps : ℕ
  pub some : 0 < steps
  pub few : steps ≤ length border
  pub is : after border steps d ≡ d
  pub first : (j : ℕ) → 0 < j → j < steps → after border j d ≡ d → ⊥

seek : (border : List BorderDart) (n : ℕ) (d : Dart) → n ≤ length border → ComesBack border d ⊎ ((j : ℕ) → 0 < j → j < suc n → after border j d ≡ d → ⊥)
seek border zero d w = inr (λ j some less e. absurd (omega arith))
seek border (suc n) d w =
    ⊎_elim
    (λ (back : ComesBack border d). inl back)
    (λ (away : (j : ℕ) → 0 < j → j < suc n → after border j d ≡ d → ⊥).
    ⊎_elim
    (λ (e : same_dart (after border (suc n) d) d ≡ true). inl (record { steps = suc n; some = omega arith; few = w; is = same_out (after border (suc n) d) d e; first = away }))
    (λ (e : same_dart (after border (suc n) d) d ≡ false).
    inr (λ j some less back.
    ⊎_elim
    (λ (same : j ≡ suc n). false≢true (sym e ∙ same_in (after border (suc n) d) d (ap (λ (k : ℕ). after border k d) (sym same) ∙ back)))
    (λ (l : j < suc n). away j some l back)
    (last j (suc n) less)))
    (by_bool (same_dart (after border (suc n) d) d)))
    (seek border n d (omega arith))
  where
    last : (j n : ℕ) → j < suc n → (j ≡ n) ⊎ (j < n)
    last j n h = grind arith

pub comes_back : (border : List BorderDart) (d : Dart) → IsLinkedBorder border → Has border d → ComesBack border d
comes_back border d linked h =
    ⊎_elim
    (λ (back : ComesBack border d). back)
    (λ (away : (j : ℕ) → 0 < j → j < suc (length border) → after border j d ≡ d → ⊥). let few = bounded border (suc (length border)) d linked h away in absurd (omega arith))
    (seek border (length border) d (omega arith))
