-- The parity left of a step stays round a corner.
use Rattle.std.proofs.Common.{◌≡◌, ◌≢◌, refl, sym, ◌∙◌, ap, subst, subst₂, arith, ◌<ℤ◌, ◌≤ℤ◌, ◌⊎◌, inl, inr, ⊎_elim, Bool, true, false, not, cond, ◌&&◌, List, [], ◌∷◌}
use Rattle.std.specs.Prelude.{◌||◌}
use Rattle.plane.proofs.Ring.{signed}
use Rattle.plane.proofs.Signs.{order}
use Rattle.plane.proofs.Collinear.{on_round}
use Rattle.topo_base.specs.Point.{Point, same_point}
use Rattle.plane.specs.Segment.{Segment}
use Rattle.plane.specs.Relation.{AreApart}
use Rattle.plane.specs.Parity.{xor}
use Rattle.plane.specs.Crossings.{back}
use Rattle.plane.specs.Direction.{Direction}
use Rattle.parity_laws.specs.Steps.{direction, before, leaves_before, twin, odd, Each, Even, above, turned, times, left}
use Rattle.parity_laws.specs.Ways.{Onward, Fork, MeetsAtEnds, Tied, inside, Outside}
use Rattle.parity_laws.proofs.Sums.{xor_comm, odd_both, odd_each, each_map, summing}
use Rattle.parity_laws.proofs.Tests.{same_self, same_not, one_first}
use Rattle.parity_laws.proofs.Gap.{seg, before_self, leaves_none, leaves_start, leaves_end, twin_yes, twin_no}
use Rattle.parity_laws.proofs.Across.{across_onward, ends_differ, start_on, end_on, leaves_back, twin_back}
use Rattle.parity_laws.proofs.Clockwise.{before_onward}

-- ---- the two sides of any step
pub clear_turned : (t s : Segment) → AreApart t s → AreApart t (back s)
clear_turned t s clear = λ q h. clear q (h.0, on_round (back s) q h.1)

pub tied_back : (s t : Segment) → Tied s t → Tied (back s) t
tied_back s t h =
    ⊎_elim
    (λ (g : AreApart t s). inl (clear_turned t s g))
    (λ (g : MeetsAtEnds s t ⊎ MeetsAtEnds s (back t)).
    ⊎_elim (λ (f : MeetsAtEnds s t). inr (turn t f)) (λ (f : MeetsAtEnds s (back t)). inr (swap (turn (back t) f))) g)
    h
  where
    turn : (r : Segment) → MeetsAtEnds s r → MeetsAtEnds (back s) r ⊎ MeetsAtEnds (back s) (back r)
    turn r f =
        ⊎_elim
        (λ (g : (r.a ≡ s.a) × (r.b ≡ s.b)). inr (inl (g.1, g.0)))
        (λ (g : Fork s r ⊎ Fork (back s) r). ⊎_elim (λ (k : Fork s r). inl (inr (inr k))) (λ (k : Fork (back s) r). inl (inr (inl k))) g)
        f

    swap : {A B : Type 0} → A ⊎ B → B ⊎ A
    swap {A} {B} h = ⊎_elim (λ (a : A). inr a) (λ (b : B). inl b) h

pub times_back : (s : Segment) (X : List Segment) → times X (back s) ≡ times X s
times_back s [] = refl
times_back s (t ∷ X) = cc (xor_comm (same_point t.a s.b && same_point t.b s.a) (same_point t.a s.a && same_point t.b s.b), times_back s X)

pub onward_or_back : (v w : Point) → v ≢ w → Onward v w ⊎ Onward w v
onward_or_back v w n =
    ⊎_elim
    (λ (h : v.x <ℤ w.x). inl (record { along = omega (arith, signed); down = λ k. absurd (omega (arith, signed)) }))
    (λ (h : w.x ≤ℤ v.x).
    ⊎_elim
    (λ (g : w.x <ℤ v.x). inr (record { along = omega (arith, signed); down = λ k. absurd (omega (arith, signed)) }))
    (λ (g : v.x ≤ℤ w.x).
    ⊎_elim
    (λ (f : w.y <ℤ v.y). inl (record { along = g; down = λ k. f }))
    (λ (f : v.y ≤ℤ w.y).
    ⊎_elim
    (λ (e : v.y <ℤ w.y). inr (record { along = h; down = λ k. e }))
    (λ (e : w.y ≤ℤ v.y).
    let ex : v.x ≡ w.x = omega (arith, signed) in
    let ey : v.y ≡ w.y = omega (arith, signed) in
    absurd (n (λ i. record { x = ex i; y = ey i })))
    (order v.y w.y))
    (order w.y v.y))
    (order w.x v.x))
    (order v.x w.x)

-- from one side of a step to the other the parity changes as often as the list has the step
pub across : (s : Segment) (X : List Segment) → Even X → Each (Tied s) X → s.a ≢ s.b → left X s ≡ xor (left X (back s)) (times X s)
across s X even tied n =
    ⊎_elim
    (λ (h : Onward s.a s.b). across_onward s X even tied h n)
    (λ (h : Onward s.b s.a).
    let e = across_onward (back s) X even (each_map (Tied s) (Tied (back s)) (tied_back s) X tied) h (λ k. n (sym k)) in
    three (left X s) (left X (back s)) (times X s) (times X (back s)) e (times_back s X))
    (onward_or_back s.a s.b n)
  where
    three : (a b c d : Bool) → b ≡ xor a d → d ≡ c → a ≡ xor b c
    three a b c d e f = rw (e, f) (sym (last a c))
      where
        last : (a c : Bool) → xor (xor a c) c ≡ a
        last a c = simp summing

-- ---- round a corner

-- the way from u straight to w, or over straight up
abbrev pub touches : Point → Segment → Bool
touches v t = xor (same_point t.a v) (same_point t.b v)

abbrev pub Round : Segment → Direction → Bool → Segment → Type 0
Round d w over t = leaves_before d.b w t ≡ xor (xor (leaves_before d.b (direction (back d)) t) (twin d t)) (over && touches d.b t)

away : (d t : Segment) (w : Direction) (o : Bool) → same_point t.a d.b ≡ false → same_point t.b d.b ≡ false → twin d t ≡ false → Round d w o t
away d t w o e f g = rw (leaves_none d.b w t e f, leaves_none d.b (direction (back d)) t e f, g, e, f) (last o)
  where
    last : (o : Bool) → false ≡ xor (xor false false) (o && false)
    last true = refl
    last false = refl

itself : (d t : Segment) (w : Direction) → d.a ≢ d.b → t.a ≡ d.a → t.b ≡ d.b → Round d w (not (before (direction (back d)) w)) t
itself d t w n ea eb = subst₂ (λ p q. Round d w (not (before (direction (back d)) w)) (seg p q)) (sym ea) (sym eb) here
  where
    here : Round d w (not (before (direction (back d)) w)) d
    here =
        let ab = same_not d.a d.b n in
        last (leaves_before d.b w d) (leaves_before d.b (direction (back d)) d) (twin d d) (same_point d.a d.b) (same_point d.b d.b) (before (direction (back d)) w)
        (leaves_end d.b w d ab (same_self d.b)) (leaves_end d.b (direction (back d)) d ab (same_self d.b) ∙ before_self (direction (back d))) (twin_yes d d (same_self d.a) (same_self d.b) ab) ab (same_self d.b)
      where
        last : (l m t a b c : Bool) → l ≡ c → m ≡ false → t ≡ true → a ≡ false → b ≡ true → l ≡ xor (xor m t) (not c && xor a b)
        last l m t a b true e f g h i = rw (e, f, g)
        last l m t a b false e f g h i = rw (e, f, g, h, i)

forked : (d t : Segment) (w : Direction) → Fork (back d) t → inside (direction (back d)) w (direction t) ≡ false → Round d w (not (before (direction (back d)) w)) t
forked d t w f out =
    let u = direction (back d) in
    let e = direction t in
    let sa = subst (λ p. same_point p d.b ≡ true) (sym f.start) (same_self d.b) in
    let sb = same_not t.b d.b f.not_start in
    last (leaves_before d.b w t) (leaves_before d.b u t) (twin d t) (same_point t.a d.b) (same_point t.b d.b) (before u w) (before u e) (before e w) (before e u)
    (leaves_start d.b w t sa sb) (leaves_start d.b u t sa sb) (twin_no d t (same_not t.b d.a f.not_end) sb) sa sb out
    (one_first e u f.apart) (λ k m. before_onward e u w k m)
  where
    last : (l m t a b uw ue ew eu : Bool) → l ≡ ew → m ≡ eu → t ≡ false → a ≡ true → b ≡ false → cond uw (ue && ew) (ue || ew) ≡ false → eu ≡ not ue → (eu ≡ true → uw ≡ true → ew ≡ true) →
        l ≡ xor (xor m t) (not uw && xor a b)
    last l m t a b true true true eu f g h i j o p q = cc
    last l m t a b true true false eu f g h i j o p q = rw (f, g, h, p)
    last l m t a b true false ew eu f g h i j o p q = rw (f, g, h, p, q p refl)
    last l m t a b false true ew eu f g h i j o p q = cc
    last l m t a b false false true eu f g h i j o p q = cc
    last l m t a b false false false eu f g h i j o p q = rw (f, g, h, i, j, p)

rounds : (d t : Segment) (w : Direction) → d.a ≢ d.b → Tied d t → Outside d w t → Round d w (not (before (direction (back d)) w)) t
rounds d t w n tied out =
    ⊎_elim
    (λ (g : AreApart t d). away d t w o (same_not t.a d.b (ends_differ t d t.a d.b g (start_on t) (end_on d))) (same_not t.b d.b (ends_differ t d t.b d.b g (end_on t) (end_on d)))
    (twin_no d t (same_not t.b d.a (ends_differ t d t.b d.a g (end_on t) (start_on d))) (same_not t.b d.b (ends_differ t d t.b d.b g (end_on t) (end_on d)))))
    (λ (g : MeetsAtEnds d t ⊎ MeetsAtEnds d (back t)).
    ⊎_elim
    (λ (f : MeetsAtEnds d t). meets t f out.start)
    (λ (f : MeetsAtEnds d (back t)). turned_round (meets (back t) f out.end))
    g)
    tied
  where
    o : Bool
    o = not (before (direction (back d)) w)

    meets : (r : Segment) → MeetsAtEnds d r → (r.a ≡ d.b → inside (direction (back d)) w (direction r) ≡ false) → Round d w o r
    meets r h out =
        ⊎_elim
        (λ (g : (r.a ≡ d.a) × (r.b ≡ d.b)). itself d r w n g.0 g.1)
        (λ (g : Fork d r ⊎ Fork (back d) r).
        ⊎_elim
        (λ (f : Fork d r).
        let rb = same_not r.b d.b f.not_end in
        away d r w o (subst (λ p. same_point p d.b ≡ false) (sym f.start) (same_not d.a d.b n)) rb (twin_no d r (same_not r.b d.a f.not_start) rb))
        (λ (f : Fork (back d) r). forked d r w f (out f.start))
        g)
        h

    turned_round : Round d w o (back t) → Round d w o t
    turned_round e =
        five (leaves_before d.b w (back t)) (leaves_before d.b (direction (back d)) (back t)) (twin d (back t)) (touches d.b (back t)) o
        (leaves_before d.b w t) (leaves_before d.b (direction (back d)) t) (twin d t) (touches d.b t)
        (leaves_back d.b w t) (leaves_back d.b (direction (back d)) t) (twin_back d t) (xor_comm (same_point t.b d.b) (same_point t.a d.b)) e
      where
        five : (a b c e o a' b' c' e' : Bool) → a ≡ a' → b ≡ b' → c ≡ c' → e ≡ e' → a ≡ xor (xor b c) (o && e) → a' ≡ xor (xor b' c') (o && e')
        five a b c e o a' b' c' e' fa fb fc fe h = cc

odd_and : {A : Type 0} (o : Bool) (f : A → Bool) (xs : List A) → odd f xs ≡ false → odd (λ x. o && f x) xs ≡ false
odd_and true f xs e = e
odd_and false f [] e = refl
odd_and false f (x ∷ xs) e = never f xs
  where
    never : {A : Type 0} (f : A → Bool) (xs : List A) → odd (λ x. false && f x) xs ≡ false
    never f [] = refl
    never f (x ∷ xs) = never f xs

-- the parity left of d is that of the wedge from d, reversed, clockwise to w
pub corner : (d : Segment) (w : Direction) (X : List Segment) → Even X → Each (Tied d) X → Each (Outside d w) X → d.a ≢ d.b →
    left X d ≡ xor (above X d.b) (turned X d.b w)
corner d w X even tied out n =
    let o = not (before (direction (back d)) w) in
    let e = odd_each (leaves_before d.b w) (λ t. xor (xor (leaves_before d.b (direction (back d)) t) (twin d t)) (o && touches d.b t)) X (both X tied out) in
    let f = odd_both (λ t. xor (leaves_before d.b (direction (back d)) t) (twin d t)) (λ t. o && touches d.b t) X in
    let g = odd_both (leaves_before d.b (direction (back d))) (twin d) X in
    let h = odd_and o (touches d.b) X (even (λ p. same_point p d.b)) in
    last (left X d) (above X d.b) (turned X d.b w) (turned X d.b (direction (back d))) (times X d) _ _ (across d X even tied n) (e ∙ f) g h
  where
    both : (Y : List Segment) → Each (Tied d) Y → Each (Outside d w) Y → Each (λ t. Round d w (not (before (direction (back d)) w)) t) Y
    both [] h k = tt
    both (t ∷ Y) h k = (rounds d t w n h.0 k.0, both Y h.1 k.1)

    last : (l a w u m x y : Bool) → l ≡ xor (xor a u) m → w ≡ xor x y → x ≡ xor u m → y ≡ false → l ≡ xor a w
    last l a w u m x y e f g h = rw (e, f, g, h) (order_of a u m)
      where
        order_of : (a u m : Bool) → xor (xor a u) m ≡ xor a (xor (xor u m) false)
        order_of a u m = simp summing

-- round a corner: n is the next step clockwise after d
pub next_left : (d n : Segment) (X : List Segment) → Even X → Each (Tied d) X → d.a ≢ d.b → n.a ≡ d.b → Each (Outside d (direction n)) X → left X d ≡ left X n
next_left d n X even tied apart e out = corner d (direction n) X even tied out apart ∙ ap (λ p. xor (above X p) (turned X p (direction n))) (sym e)
