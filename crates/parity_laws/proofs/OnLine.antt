-- The steps of a line that comes: where they meet each other and the old steps, and labels along it.
use Rattle.std.proofs.Common.{◌≡◌, ◌≢◌, refl, sym, ◌∙◌, ap, subst, ◌⊎◌, inl, inr, ⊎_elim, Bool, true, false, ◌&&◌, List, [], ◌∷◌, ◌++◌}
use Rattle.std.specs.Prelude.{◌||◌}
use Rattle.std.proofs.lemmas.Bool.{or_left, or_right}
use Rattle.topo_base.specs.Point.{Point, same_point}
use Rattle.plane.specs.Segment.{Segment}
use Rattle.plane.specs.Parity.{xor}
use Rattle.plane.specs.Crossings.{back}
use Rattle.parity_laws.specs.Steps.{Even, direction, twin, times, left}
use Rattle.parity_laws.specs.Ways.{inside}
use Rattle.parity_laws.specs.Walks.{Chained}
use Rattle.parity_laws.specs.Rings.{In, Next, Plain, Within, Once, Ringwise}
use Rattle.parity_laws.proofs.Sums.{odd_none}
use Rattle.parity_laws.proofs.Ringwise.{in_each, side_next}
use Rattle.parity_laws.proofs.Tests.{exact_is, exact_self}
use Rattle.parity_laws.proofs.Lists.{in_left, in_right, in_cases}
use Rattle.parity_laws.specs.Coming.{walked_back, both_ways_of, with_line, Strung, LineComes}
use Rattle.parity_laws.proofs.Wedges.{next_from, side_outside}

-- ---- lists
pub in_walked : (s : Segment) (L : List Segment) → In s L → In (back s) (walked_back L)
in_walked s [] i = absurd i
in_walked s (t ∷ L) i =
    ⊎_elim
    (λ (e : s ≡ t). in_right (back s) (walked_back L) (back t ∷ []) (inl (ap back e)))
    (λ (j : In s L). in_left (back s) (walked_back L) (back t ∷ []) (in_walked s L j))
    i

pub walked_in : (s : Segment) (L : List Segment) → In s (walked_back L) → In (back s) L
walked_in s [] i = absurd i
walked_in s (t ∷ L) i =
    ⊎_elim
    (λ (j : In s (walked_back L)). inr (walked_in s L j))
    (λ (j : In s (back t ∷ [])). ⊎_elim (λ (e : s ≡ back t). inl (ap back e)) (λ (k : ⊥). absurd k) j)
    (in_cases s (walked_back L) (back t ∷ []) i)

pub once_apart : (X Y : List Segment) → Once (X ++ Y) → (s : Segment) → In s X → In s Y → ⊥
once_apart [] Y once s i j = i
once_apart (t ∷ X) Y once s i j =
    ⊎_elim
    (λ (e : s ≡ t). once.0 (in_right t X Y (subst (λ z. In z Y) e j)))
    (λ (k : In s X). once_apart X Y once.1 s k j)
    i

pub once_right : (X Y : List Segment) → Once (X ++ Y) → Once Y
once_right [] Y once = once
once_right (t ∷ X) Y once = once_right X Y once.1

-- whether s is one of the list
abbrev pub among : List Segment → Segment → Bool
among [] s = false
among (t ∷ X) s = same_point t.a s.a && same_point t.b s.b || among X s

pub in_among : (X : List Segment) (s : Segment) → In s X → among X s ≡ true
in_among [] s i = absurd i
in_among (t ∷ X) s i =
    ⊎_elim
    (λ (e : s ≡ t). or_left (same_point t.a s.a && same_point t.b s.b) (among X s) (subst (λ z. same_point z.a s.a && same_point z.b s.b ≡ true) e (exact_self s)))
    (λ (j : In s X). or_right (same_point t.a s.a && same_point t.b s.b) (among X s) (in_among X s j))
    i

pub among_in : (X : List Segment) (s : Segment) → among X s ≡ true → In s X
among_in [] s e = absurd cc
among_in (t ∷ X) s e = by_test (same_point t.a s.a && same_point t.b s.b) refl e (λ g. among_in X s g)
  where
    by_test : (b : Bool) → same_point t.a s.a && same_point t.b s.b ≡ b → (b || among X s) ≡ true → (among X s ≡ true → In s X) → In s (t ∷ X)
    by_test true f g h = inl (exact_is s t f)
    by_test false f g h = inr (h g)

pub not_among : (X : List Segment) (s : Segment) → (In s X → ⊥) → among X s ≡ false
not_among X s n = by_test (among X s) refl
  where
    by_test : (b : Bool) → among X s ≡ b → b ≡ false
    by_test false e = refl
    by_test true e = absurd (n (among_in X s e))

pub times_none : (X : List Segment) (s : Segment) → (In s X → ⊥) → (In (back s) X → ⊥) → times X s ≡ false
times_none X s n m = odd_none (twin s) X (in_each (λ t. twin s t ≡ false) X (λ t i. by_tests t i (same_point t.a s.a && same_point t.b s.b) (same_point t.a s.b && same_point t.b s.a) refl refl))
  where
    by_tests : (t : Segment) → In t X → (a b : Bool) → same_point t.a s.a && same_point t.b s.b ≡ a → same_point t.a s.b && same_point t.b s.a ≡ b → xor a b ≡ false
    by_tests t i true b e f = absurd (n (subst (λ z. In z X) (sym (exact_is s t e)) i))
    by_tests t i false true e f = absurd (m (subst (λ z. In z X) (sym (exact_is (back s) t f)) i))
    by_tests t i false false e f = refl

-- ---- inner vertices
-- n follows m, and no other step begins between them
pub record LineJoint (T : List Segment) (m n : Segment) : Type 0 where
  pub meets : n.a ≡ m.b
  pub alone : (t : Segment) → In t T → t.a ≡ m.b → (t ≡ n) ⊎ (t ≡ back m)

pub joint_before : (T : List Segment) (d : Segment) (X : List Segment) (z n : Segment) → Strung T d X z → In n (d ∷ X) → (n ≡ d) ⊎ ((m : Segment) × (In m (d ∷ X) × LineJoint T m n))
joint_before T d [] z n h i = ⊎_elim (λ (e : n ≡ d). inl e) (λ (k : ⊥). absurd k) i
joint_before T d (k ∷ X) z n h i =
    ⊎_elim
    (λ (e : n ≡ d). inl e)
    (λ (j : In n (k ∷ X)).
    ⊎_elim
    (λ (e : n ≡ k). inr (d, (inl refl, subst (λ q. LineJoint T d q) (sym e) (record { meets = h.0; alone = h.1 }))))
    (λ (g : (m : Segment) × (In m (k ∷ X) × LineJoint T m n)). inr (g.0, (inr g.1.0, g.1.1)))
    (joint_before T k X z n h.2 j))
    i

pub joint_after : (T : List Segment) (d : Segment) (X : List Segment) (z m : Segment) → Strung T d X z → In m (d ∷ X) → (m ≡ z) ⊎ ((n : Segment) × (In n (d ∷ X) × LineJoint T m n))
joint_after T d [] z m h i = ⊎_elim (λ (e : m ≡ d). inl (e ∙ h)) (λ (k : ⊥). absurd k) i
joint_after T d (k ∷ X) z m h i =
    ⊎_elim
    (λ (e : m ≡ d). inr (k, (inr (inl refl), subst (λ q. LineJoint T q k) (sym e) (record { meets = h.0; alone = h.1 }))))
    (λ (j : In m (k ∷ X)).
    ⊎_elim
    (λ (e : m ≡ z). inl e)
    (λ (g : (n : Segment) × (In n (k ∷ X) × LineJoint T m n)). inr (g.0, (inr g.1.0, g.1.1)))
    (joint_after T k X z m h.2 j))
    i

last_of_strung : (T : List Segment) (d : Segment) (X : List Segment) (z : Segment) → Strung T d X z → In z (d ∷ X)
last_of_strung T d [] z h = inl (sym h)
last_of_strung T d (n ∷ X) z h = inr (last_of_strung T n X z h.2)

joint_next : (T : List Segment) (m n : Segment) → Plain T → LineJoint T m n → Next T m n
joint_next T m n plain h = next_from T m n plain h.meets (λ t i e.
    ⊎_elim
    (λ (f : t ≡ n). subst (λ z. inside (direction (back m)) (direction n) (direction z) ≡ false) (sym f) (side_outside (direction (back m)) (direction n)).1)
    (λ (f : t ≡ back m). subst (λ z. inside (direction (back m)) (direction n) (direction z) ≡ false) (sym f) (side_outside (direction (back m)) (direction n)).0)
    (h.alone t i e))

joint_back : (T : List Segment) (m n : Segment) → Plain T → LineJoint T m n → Next T (back n) (back m)
joint_back T m n plain h = next_from T (back n) (back m) plain (sym h.meets) (λ t i e.
    ⊎_elim
    (λ (f : t ≡ n). subst (λ z. inside (direction n) (direction (back m)) (direction z) ≡ false) (sym f) (side_outside (direction n) (direction (back m))).0)
    (λ (f : t ≡ back m). subst (λ z. inside (direction n) (direction (back m)) (direction z) ≡ false) (sym f) (side_outside (direction n) (direction (back m))).1)
    (h.alone t i (e ∙ h.meets)))

-- what goes round corners is one value along the line, and one along the line walked back
strung_label : (T : List Segment) (d : Segment) (X : List Segment) (z : Segment) (h : Segment → Bool) → Plain T → Ringwise T h → Within (d ∷ X) T → Strung T d X z →
    (t : Segment) → In t (d ∷ X) → (h t ≡ h d) × (h (back t) ≡ h (back d))
strung_label T d [] z h plain rw' w s t i = ⊎_elim (λ (e : t ≡ d). (ap h e, ap (λ k. h (back k)) e)) (λ (k : ⊥). absurd k) i
strung_label T d (n ∷ X) z h plain rw' w s t i =
    ⊎_elim
    (λ (e : t ≡ d). (ap h e, ap (λ k. h (back k)) e))
    (λ (j : In t (n ∷ X)).
    let rest = strung_label T n X z h plain rw' (λ q k. w q (inr k)) s.2 t j in
    let joint : LineJoint T d n = record { meets = s.0; alone = s.1 } in (
      rest.0 ∙ sym (rw' d n (w d (inl refl)) (w n (inr (inl refl))) (joint_next T d n plain joint)),
      rest.1 ∙ rw' (back n) (back d) (plain.both n (w n (inr (inl refl)))) (plain.both d (w d (inl refl))) (joint_back T d n plain joint),
    ))
    i

-- ---- a line that meets itself and old steps at its ends alone
abbrev pub last_step : Segment → List Segment → Segment
last_step d [] = d
last_step d (n ∷ X) = last_step n X

-- no two steps of L begin at one point, nor end at one, and no old step begins at an inner vertex
pub strung : (T L : List Segment) (d : Segment) (X : List Segment) (e : Point) → Within (d ∷ X) L → Chained d.b X e → ((s t : Segment) → In s L → In t L → s.a ≡ t.a → s ≡ t) → ((s t : Segment) → In s L → In t L → s.b ≡ t.b → s ≡ t) →
    ((n t : Segment) → In n X → In t T → t.a ≢ n.a) → Strung (with_line T L) d X (last_step d X)
strung T L d [] e w chain starts ends off = refl
strung T L d (n ∷ X) e w chain starts ends off = (
  chain.0,
  (λ t i g. ⊎_elim (λ (j : In t T). absurd (off n t (inl refl) j (g ∙ sym chain.0))) (λ (j : In t (both_ways_of L)). on_line t g j) (in_cases t T (both_ways_of L) i)),
  strung T L n X e (λ s j. w s (inr j)) chain.1 starts ends (λ m t j k. off m t (inr j) k),
)
  where
    on_line : (t : Segment) → t.a ≡ d.b → In t (both_ways_of L) → (t ≡ n) ⊎ (t ≡ back d)
    on_line t g j =
        ⊎_elim
        (λ (k : In t L). inl (starts t n k (w n (inr (inl refl))) (g ∙ sym chain.0)))
        (λ (k : In t (walked_back L)). inr (ap back (ends (back t) d (walked_in t L k) (w d (inl refl)) g)))
        (in_cases t L (walked_back L) j)

-- ---- the line that comes
pub old_in : (T L : List Segment) → Within T (with_line T L)
old_in T L s i = in_left s T (both_ways_of L) i

pub way_in : (T L : List Segment) → Within (both_ways_of L) (with_line T L)
way_in T L s i = in_right s T (both_ways_of L) i

pub forth_in : (L : List Segment) (s : Segment) → In s L → In s (both_ways_of L)
forth_in L s i = in_left s L (walked_back L) i

pub back_in : (L : List Segment) (s : Segment) → In s L → In (back s) (both_ways_of L)
back_in L s i = in_right (back s) L (walked_back L) (in_walked s L i)

pub way_cases : (L : List Segment) (s : Segment) → In s (both_ways_of L) → In s L ⊎ In (back s) L
way_cases L s i = ⊎_elim (λ (j : In s L). inl j) (λ (j : In s (walked_back L)). inr (walked_in s L j)) (in_cases s L (walked_back L) i)

pub way_turned : (L : List Segment) (s : Segment) → In s (both_ways_of L) → In (back s) (both_ways_of L)
way_turned L s i = ⊎_elim (λ (j : In s L). back_in L s j) (λ (j : In (back s) L). forth_in L (back s) j) (way_cases L s i)

pub last_in : (T : List Segment) (first : Segment) (rest : List Segment) (last : Segment) → LineComes T first rest last → In last (first ∷ rest)
last_in T first rest last c = last_of_strung (with_line T (first ∷ rest)) first rest last c.strung

pub old_or_way : (T L : List Segment) (s : Segment) → In s (with_line T L) → In s T ⊎ In s (both_ways_of L)
old_or_way T L s i = in_cases s T (both_ways_of L) i

pub not_both : (T : List Segment) (first : Segment) (rest : List Segment) (last : Segment) → LineComes T first rest last → (s : Segment) → In s T → In s (both_ways_of (first ∷ rest)) → ⊥
not_both T first rest last c s i j = once_apart T (both_ways_of (first ∷ rest)) c.new.once s i j

-- its two ends
pub ends_apart : (T : List Segment) (first : Segment) (rest : List Segment) (last : Segment) → LineComes T first rest last → first ≢ back last
ends_apart T first rest last c e =
    once_apart (first ∷ rest) (walked_back (first ∷ rest)) (once_right T (both_ways_of (first ∷ rest)) c.new.once) first (inl refl)
    (subst (λ z. In z (walked_back (first ∷ rest))) (sym e) (in_walked last (first ∷ rest) (last_in T first rest last c)))

pub line_label : (T : List Segment) (first : Segment) (rest : List Segment) (last : Segment) (h : Segment → Bool) → LineComes T first rest last → Ringwise (with_line T (first ∷ rest)) h →
    (t : Segment) → In t (first ∷ rest) → (h t ≡ h first) × (h (back t) ≡ h (back first))
line_label T first rest last h c rw' t i =
    strung_label (with_line T (first ∷ rest)) first rest last h c.new.plain rw' (λ s j. way_in T (first ∷ rest) s (forth_in (first ∷ rest) s j)) c.strung t i

-- where the label is v on both directions of the first step, it is on the whole line
pub way_label : (T : List Segment) (first : Segment) (rest : List Segment) (last : Segment) (h : Segment → Bool) (v : Bool) → LineComes T first rest last → Ringwise (with_line T (first ∷ rest)) h →
    h first ≡ v → h (back first) ≡ v → (t : Segment) → In t (both_ways_of (first ∷ rest)) → h t ≡ v
way_label T first rest last h v c rw' e f t i =
    ⊎_elim
    (λ (j : In t (first ∷ rest)). (line_label T first rest last h c rw' t j).0 ∙ e)
    (λ (j : In (back t) (first ∷ rest)). (line_label T first rest last h c rw' (back t) j).1 ∙ f)
    (way_cases (first ∷ rest) t i)

-- an old step that a step of the line follows leads to an end of the line
pub enters_line : (T : List Segment) (first : Segment) (rest : List Segment) (last : Segment) → LineComes T first rest last →
    (d n : Segment) → In d T → In n (both_ways_of (first ∷ rest)) → n.a ≡ d.b → (n ≡ first) ⊎ (n ≡ back last)
enters_line T first rest last c d n i j e = ⊎_elim forth walked (way_cases (first ∷ rest) n j)
  where
    turned_there : In (back d) T
    turned_there = c.old.plain.both d i

    no_joint : (t : Segment) → In t (both_ways_of (first ∷ rest)) → back d ≡ t → ⊥
    no_joint t k f = not_both T first rest last c (back d) turned_there (subst (λ z. In z (both_ways_of (first ∷ rest))) (sym f) k)

    not_inner : (m k : Segment) → In m (first ∷ rest) → In k (first ∷ rest) → LineJoint (with_line T (first ∷ rest)) m k → d.b ≡ m.b → ⊥
    not_inner m k p q joint f =
        ⊎_elim
        (λ (g : back d ≡ k). no_joint k (forth_in (first ∷ rest) k q) g)
        (λ (g : back d ≡ back m). no_joint (back m) (back_in (first ∷ rest) m p) g)
        (joint.alone (back d) (old_in T (first ∷ rest) (back d) turned_there) f)

    forth : In n (first ∷ rest) → (n ≡ first) ⊎ (n ≡ back last)
    forth k =
        ⊎_elim
        (λ (f : n ≡ first). inl f)
        (λ (g : (m : Segment) × (In m (first ∷ rest) × LineJoint (with_line T (first ∷ rest)) m n)). absurd (not_inner g.0 n g.1.0 k g.1.1 (sym e ∙ g.1.1.meets)))
        (joint_before (with_line T (first ∷ rest)) first rest last n c.strung k)

    walked : In (back n) (first ∷ rest) → (n ≡ first) ⊎ (n ≡ back last)
    walked k =
        ⊎_elim
        (λ (f : back n ≡ last). inr (ap back f))
        (λ (g : (m : Segment) × (In m (first ∷ rest) × LineJoint (with_line T (first ∷ rest)) (back n) m)). absurd (not_inner (back n) g.0 k g.1.0 g.1.1 (sym e)))
        (joint_after (with_line T (first ∷ rest)) first rest last (back n) c.strung k)

-- left of an even list a label goes round corners
pub left_ringwise : (T X : List Segment) → Plain T → Even X → Within X T → Ringwise T (left X)
left_ringwise T X plain even w d n i j next = side_next T X d n plain even w i next
