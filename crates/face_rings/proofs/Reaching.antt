-- A ring has the darts that its first one reaches, and each of them reaches the first.
use Rattle.std.proofs.Common.{◌≡◌, ℕ, zero, suc, ◌+◌, ◌<◌, ◌≤◌, refl, sym, ◌∙◌, ap, subst, arith, ◌⊎◌, inl, inr, ⊎_elim, Bool, true, false, not, List, [], ◌∷◌, length}
use Rattle.std.specs.Prelude.{if◌then◌else◌}
use Rattle.std.specs.List.{All, list_all}
use Rattle.std.proofs.lemmas.Bool.{and_parts, and_from, or_cases, or_left, or_right, false≢true, false_from_ne_true, not_from_false, not_from_true}
use Rattle.std.proofs.lemmas.List.Elements.{All-nil, All-cons}
use Rattle.topo_base.specs.Darts.{same_dart}
use Rattle.topo_base.specs.declared.ids.Dart.{Dart}
use Rattle.face_rings.specs.declared.content.BorderDart.{BorderDart}
use Rattle.face_rings.specs.Border.{dart_before, has_dart, next_dart}
use Rattle.face_rings.specs.Rings.{walk, ring_of, begins_ring}
use Rattle.face_rings.proofs.Ranks.{by_bool, same_out, same_in, same_self}
use Rattle.face_rings.proofs.Orbits.{Has, IsLinkedBorder, next_known, after, after-add, after_known, ComesBack, comes_back}

-- ---- reaching
abbrev pub Reaches : List BorderDart → Dart → Dart → Type 0
Reaches border d e = (k : ℕ) × (after border k d ≡ e)

pub reaches_self : (border : List BorderDart) (d : Dart) → Reaches border d d
reaches_self border d = (0, refl)

pub reaches_on : (border : List BorderDart) (d e f : Dart) → Reaches border d e → Reaches border e f → Reaches border d f
reaches_on border d e f (j, p) (k, q) = (k + j, after-add border k j d ∙ ap (after border k) p ∙ q)

pub after_inner : (border : List BorderDart) (k : ℕ) (d : Dart) → after border k (next_dart border d) ≡ next_dart border (after border k d)
after_inner border zero d = refl
after_inner border (suc k) d = ap (next_dart border) (after_inner border k d)

back_one : (border : List BorderDart) (d : Dart) → IsLinkedBorder border → Has border d → Reaches border (next_dart border d) d
back_one border d linked h = by_steps (back.steps) back.some back.is
  where
    back : ComesBack border d
    back = comes_back border d linked h

    by_steps : (n : ℕ) → 0 < n → after border n d ≡ d → Reaches border (next_dart border d) d
    by_steps zero some is = absurd (omega arith)
    by_steps (suc n) some is = (n, after_inner border n d ∙ is)

after_back : (border : List BorderDart) (k : ℕ) (d : Dart) → IsLinkedBorder border → Has border d → Reaches border (after border k d) d
after_back border zero d linked h = (0, refl)
after_back border (suc k) d linked h =
    reaches_on border (next_dart border (after border k d)) (after border k d) d
    (back_one border (after border k d) linked (after_known border k d linked h)) (after_back border k d linked h)

pub reaches_back : (border : List BorderDart) (d e : Dart) → IsLinkedBorder border → Has border d → Reaches border d e → Reaches border e d
reaches_back border d e linked h (k, p) = subst (λ (x : Dart). Reaches border x d) p (after_back border k d linked h)

-- ---- a walk, by its first dart and the rest
pub walk_last : (border : List BorderDart) (first d : Dart) (n : ℕ) → same_dart (next_dart border d) first ≡ true → walk border first (suc n) d ≡ d ∷ []
walk_last border first d n e = ap (λ (t : Bool). if t then d ∷ [] else d ∷ walk border first n (next_dart border d)) e

pub walk_more : (border : List BorderDart) (first d : Dart) (n : ℕ) → same_dart (next_dart border d) first ≡ false → walk border first (suc n) d ≡ d ∷ walk border first n (next_dart border d)
walk_more border first d n e = ap (λ (t : Bool). if t then d ∷ [] else d ∷ walk border first n (next_dart border d)) e

-- the first dart is in it
walk_head : (border : List BorderDart) (first d : Dart) (n : ℕ) → has_dart (walk border first n d) d ≡ true
walk_head border first d zero = or_left (same_dart d d) false (same_self d)
walk_head border first d (suc n) =
    ⊎_elim
    (λ (e : same_dart (next_dart border d) first ≡ true). subst (λ ds. has_dart ds d ≡ true) (sym (walk_last border first d n e)) (or_left (same_dart d d) false (same_self d)))
    (λ (e : same_dart (next_dart border d) first ≡ false).
    subst (λ ds. has_dart ds d ≡ true) (sym (walk_more border first d n e)) (or_left (same_dart d d) (has_dart (walk border first n (next_dart border d)) d) (same_self d)))
    (by_bool (same_dart (next_dart border d) first))

pub has_cases : (d e : Dart) (ds : List Dart) → has_dart (d ∷ ds) e ≡ true → (e ≡ d) ⊎ (has_dart ds e ≡ true)
has_cases d e ds h = ⊎_elim (λ (k : same_dart e d ≡ true). inl (same_out e d k)) (λ (k : has_dart ds e ≡ true). inr k) (or_cases (same_dart e d) (has_dart ds e) h)

-- whatever is in it is reached
walk_reaches : (border : List BorderDart) (first d e : Dart) (n : ℕ) → has_dart (walk border first n d) e ≡ true → Reaches border d e
walk_reaches border first d e zero h = ⊎_elim (λ (p : e ≡ d). (0, sym p)) (λ (k : has_dart [] e ≡ true). absurd (false≢true k)) (has_cases d e [] h)
walk_reaches border first d e (suc n) h =
    ⊎_elim
    (λ (t : same_dart (next_dart border d) first ≡ true).
    ⊎_elim (λ (p : e ≡ d). (0, sym p)) (λ (k : has_dart [] e ≡ true). absurd (false≢true k))
    (has_cases d e [] (subst (λ ds. has_dart ds e ≡ true) (walk_last border first d n t) h)))
    (λ (t : same_dart (next_dart border d) first ≡ false).
    ⊎_elim (λ (p : e ≡ d). (0, sym p))
    (λ (k : has_dart (walk border first n (next_dart border d)) e ≡ true). reaches_on border d (next_dart border d) e (1, refl) (walk_reaches border first (next_dart border d) e n k))
    (has_cases d e (walk border first n (next_dart border d)) (subst (λ ds. has_dart ds e ≡ true) (walk_more border first d n t) h)))
    (by_bool (same_dart (next_dart border d) first))

-- next of what is in it is in it too, or is the first dart, where the walk is long enough
walk_closed : (border : List BorderDart) (first d e : Dart) (n j : ℕ) → j < n → after border (suc j) d ≡ first → has_dart (walk border first n d) e ≡ true →
    (has_dart (walk border first n d) (next_dart border e) ≡ true) ⊎ (next_dart border e ≡ first)
walk_closed border first d e zero j w back h = absurd (omega arith)
walk_closed border first d e (suc n) j w back h =
    ⊎_elim
    (λ (t : same_dart (next_dart border d) first ≡ true).
    ⊎_elim (λ (p : e ≡ d). inr (ap (next_dart border) p ∙ same_out (next_dart border d) first t)) (λ (k : has_dart [] e ≡ true). absurd (false≢true k))
    (has_cases d e [] (subst (λ ds. has_dart ds e ≡ true) (walk_last border first d n t) h)))
    (λ (t : same_dart (next_dart border d) first ≡ false).
    let onward = λ (ok : has_dart (walk border first n (next_dart border d)) (next_dart border e) ≡ true).
    subst (λ ds. has_dart ds (next_dart border e) ≡ true) (sym (walk_more border first d n t))
    (or_right (same_dart (next_dart border e) d) (has_dart (walk border first n (next_dart border d)) (next_dart border e)) ok) in
    ⊎_elim
    (λ (p : e ≡ d). inl (onward (subst (λ (x : Dart). has_dart (walk border first n (next_dart border d)) (next_dart border x) ≡ true) (sym p) (walk_head border first (next_dart border d) n))))
    (λ (k : has_dart (walk border first n (next_dart border d)) e ≡ true).
    ⊎_elim (λ (ok : has_dart (walk border first n (next_dart border d)) (next_dart border e) ≡ true). inl (onward ok)) (λ (p : next_dart border e ≡ first). inr p)
    (rest j w back t k (λ i l b. walk_closed border first (next_dart border d) e n i l b k)))
    (has_cases d e (walk border first n (next_dart border d)) (subst (λ ds. has_dart ds e ≡ true) (walk_more border first d n t) h)))
    (by_bool (same_dart (next_dart border d) first))
  where
    rest : (j : ℕ) → j < suc n → after border (suc j) d ≡ first → same_dart (next_dart border d) first ≡ false → has_dart (walk border first n (next_dart border d)) e ≡ true →
        ((i : ℕ) → i < n → after border (suc i) (next_dart border d) ≡ first → (has_dart (walk border first n (next_dart border d)) (next_dart border e) ≡ true) ⊎ (next_dart border e ≡ first)) →
        (has_dart (walk border first n (next_dart border d)) (next_dart border e) ≡ true) ⊎ (next_dart border e ≡ first)
    rest zero w back t k onward = absurd (false≢true (sym t ∙ same_in (next_dart border d) first back))
    rest (suc j) w back t k onward = onward j (omega arith) (after_inner border (suc j) d ∙ back)

-- ---- the ring
pub ring_closed : (border : List BorderDart) (d e : Dart) → IsLinkedBorder border → Has border d → has_dart (ring_of border d) e ≡ true → has_dart (ring_of border d) (next_dart border e) ≡ true
ring_closed border d e linked h there = by_steps back.steps back.some back.few back.is
  where
    back : ComesBack border d
    back = comes_back border d linked h

    by_steps : (n : ℕ) → 0 < n → n ≤ length border → after border n d ≡ d → has_dart (ring_of border d) (next_dart border e) ≡ true
    by_steps zero some few is = absurd (omega arith)
    by_steps (suc n) some few is =
        ⊎_elim
        (λ (ok : has_dart (ring_of border d) (next_dart border e) ≡ true). ok)
        (λ (p : next_dart border e ≡ d). subst (λ (x : Dart). has_dart (ring_of border d) x ≡ true) (sym p) (walk_head border d d (length border)))
        (walk_closed border d d e (length border) n (omega arith) is there)

after_in_ring : (border : List BorderDart) (k : ℕ) (d : Dart) → IsLinkedBorder border → Has border d → has_dart (ring_of border d) (after border k d) ≡ true
after_in_ring border zero d linked h = walk_head border d d (length border)
after_in_ring border (suc k) d linked h = ring_closed border d (after border k d) linked h (after_in_ring border k d linked h)

pub in_ring : (border : List BorderDart) (d e : Dart) → IsLinkedBorder border → Has border d → Reaches border d e → has_dart (ring_of border d) e ≡ true
in_ring border d e linked h (k, p) = subst (λ (x : Dart). has_dart (ring_of border d) x ≡ true) p (after_in_ring border k d linked h)

pub from_ring : (border : List BorderDart) (d e : Dart) → has_dart (ring_of border d) e ≡ true → Reaches border d e
from_ring border d e h = walk_reaches border d d e (length border) h

pub reaches_known : (border : List BorderDart) (d e : Dart) → IsLinkedBorder border → Has border d → Reaches border d e → Has border e
reaches_known border d e linked h (k, p) = subst (Has border) p (after_known border k d linked h)

-- all of it is in the border
walk_known : (border : List BorderDart) (first d : Dart) (n : ℕ) → IsLinkedBorder border → Has border d → All (Has border) (walk border first n d)
walk_known border first d zero linked h = All-cons (Has border) d [] h (All-nil (Has border))
walk_known border first d (suc n) linked h =
    ⊎_elim
    (λ (t : same_dart (next_dart border d) first ≡ true). subst (All (Has border)) (sym (walk_last border first d n t)) (All-cons (Has border) d [] h (All-nil (Has border))))
    (λ (t : same_dart (next_dart border d) first ≡ false).
    subst (All (Has border)) (sym (walk_more border first d n t))
    (All-cons (Has border) d (walk border first n (next_dart border d)) h (walk_known border first (next_dart border d) n linked (next_known border d linked h))))
    (by_bool (same_dart (next_dart border d) first))

pub ring_known : (border : List BorderDart) (d : Dart) → IsLinkedBorder border → Has border d → All (Has border) (ring_of border d)
ring_known border d linked h = walk_known border d d (length border) linked h

-- ---- its least dart
all_out : (p : Dart → Bool) (ds : List Dart) (e : Dart) → list_all p ds ≡ true → has_dart ds e ≡ true → p e ≡ true
all_out p [] e all h = absurd (false≢true h)
all_out p (d ∷ ds) e all h =
    let parts = and_parts (p d) (list_all p ds) all in
    ⊎_elim (λ (q : e ≡ d). subst (λ (x : Dart). p x ≡ true) (sym q) parts.0) (λ (k : has_dart ds e ≡ true). all_out p ds e parts.1 k) (has_cases d e ds h)

all_in : (p : Dart → Bool) (ds : List Dart) → ((e : Dart) → has_dart ds e ≡ true → p e ≡ true) → list_all p ds ≡ true
all_in p [] each = refl
all_in p (d ∷ ds) each =
    and_from (p d) (list_all p ds) (each d (or_left (same_dart d d) (has_dart ds d) (same_self d)))
    (all_in p ds (λ e h. each e (or_right (same_dart e d) (has_dart ds e) h)))

pub begins : (border : List BorderDart) (d : Dart) → ((e : Dart) → Reaches border d e → dart_before e d ≡ false) → begins_ring border d ≡ true
begins border d least = all_in (λ (e : Dart). not (dart_before e d)) (ring_of border d) (λ e h. not_from_false (dart_before e d) (least e (from_ring border d e h)))

pub begins_not : (border : List BorderDart) (d e : Dart) → IsLinkedBorder border → Has border d → Reaches border d e → dart_before e d ≡ true → begins_ring border d ≡ false
begins_not border d e linked h reach less =
    false_from_ne_true (begins_ring border d)
    (λ all. false≢true (sym (not_from_true (dart_before e d) less) ∙ all_out (λ (x : Dart). not (dart_before x d)) (ring_of border d) e all (in_ring border d e linked h reach)))
