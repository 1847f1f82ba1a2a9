-- One half-edge more about a node, with the face in which it comes on both sides.
use Rattle.std.proofs.Common.{◌≡◌, ℕ, refl, sym, ◌∙◌, ap, subst, ◌⊎◌, inl, inr, ⊎_elim, Bool, true, false, cond, List, [], ◌∷◌}
use Rattle.std.specs.Prelude.{fold}
use Rattle.std.specs.List.{Contains}
use Rattle.std.proofs.lemmas.Bool.{false≢true, false_from_ne_true, cases_eq}
use Rattle.plane.specs.Direction.{Direction, is_nearer, same_direction, IsNotZero}
use Rattle.drawing.specs.HalfEdge.{HalfEdge}
use Rattle.drawing.specs.Star.{leaving, farther_of}
use Rattle.plane.proofs.Directions.{nearer_self, nearer_onward, nearer_cyclic}
use Rattle.plane.proofs.ListTests.{contains_here, contains_there, contains_cases, contains_none}
use Rattle.face_rings.proofs.Ranks.{by_bool}
use Rattle.ring_laws.proofs.Turning.{AreSpread, apart_at, one_of_equals, Turns, FacesAgree, turns_within}

-- ---- the last one clockwise from a direction
pub record IsFarthest (r : Direction) (h : HalfEdge) (hs : List HalfEdge) (m : HalfEdge) : Type 0 where
  pub there : Contains (h ∷ hs) m
  -- what is no farther than the first is no farther than the last
  pub beyond : (u : Direction) → is_nearer r (leaving h) u ≡ false → is_nearer r (leaving m) u ≡ false
  pub last : (k : HalfEdge) → Contains hs k → is_nearer r (leaving m) (leaving k) ≡ false

pub farthest_is : (r : Direction) (h : HalfEdge) (hs : List HalfEdge) → IsFarthest r h hs (fold (farther_of r) h hs)
farthest_is r h [] = record { there = contains_here h []; beyond = λ u e. e; last = λ k c. absurd (contains_none k c) }
farthest_is r h (k ∷ hs) = by_test (is_nearer r (leaving h) (leaving k)) refl (farthest_is r k hs) (farthest_is r h hs)
  where
    by_test : (t : Bool) → is_nearer r (leaving h) (leaving k) ≡ t → IsFarthest r k hs (fold (farther_of r) k hs) → IsFarthest r h hs (fold (farther_of r) h hs)
        → IsFarthest r h (k ∷ hs) (fold (farther_of r) (cond t k h) hs)
    by_test true e on off = record {
      there = contains_there (fold (farther_of r) k hs) h (k ∷ hs) on.there;
      beyond = λ u near. on.beyond u (false_from_ne_true (is_nearer r (leaving k) u) (λ t. false≢true (sym near ∙ nearer_onward r (leaving h) (leaving k) u e t)));
      last = λ j c. ⊎_elim
          (λ (p : k ≡ j). subst (λ (x : HalfEdge). is_nearer r (leaving (fold (farther_of r) k hs)) (leaving x) ≡ false) p (on.beyond (leaving k) (nearer_self r (leaving k))))
          (λ (d : Contains hs j). on.last j d)
          (contains_cases j k hs c);
    }
    by_test false e on off = record {
      there = ⊎_elim (λ (p : h ≡ fold (farther_of r) h hs). subst (Contains (h ∷ k ∷ hs)) p (contains_here h (k ∷ hs)))
          (λ (d : Contains hs (fold (farther_of r) h hs)). contains_there (fold (farther_of r) h hs) h (k ∷ hs) (contains_there (fold (farther_of r) h hs) k hs d))
          (contains_cases (fold (farther_of r) h hs) h hs off.there);
      beyond = off.beyond;
      last = λ j c. ⊎_elim
          (λ (p : k ≡ j). subst (λ (x : HalfEdge). is_nearer r (leaving (fold (farther_of r) h hs)) (leaving x) ≡ false) p (off.beyond (leaving k) e))
          (λ (d : Contains hs j). off.last j d)
          (contains_cases j k hs c);
    }

-- ---- the face into which x comes
-- p is the last clockwise from x of those that leave its node
pub record IsLast (hs : List HalfEdge) (x p : HalfEdge) : Type 0 where
  pub there : Contains hs p
  pub one_node : p.from_node ≡ x.from_node
  pub last : (k : HalfEdge) → Contains hs k → k.from_node ≡ x.from_node → is_nearer (leaving x) (leaving p) (leaving k) ≡ false

abbrev pub NoneLeaves : List HalfEdge → ℕ → Type 0
NoneLeaves hs n = (k : HalfEdge) → Contains hs k → k.from_node ≡ n → ⊥

-- nothing else leaves its node, or the last of them has the face on its right
abbrev pub ComesInto : List HalfEdge → HalfEdge → ℕ → Type 0
ComesInto hs x f = NoneLeaves hs x.from_node ⊎ ((p : HalfEdge) × (IsLast hs x p × (p.on_right ≡ f)))

-- it does so too where one with the face on its right has come before it
pub comes_after : (hs : List HalfEdge) (x y : HalfEdge) (f : ℕ) → x.on_right ≡ f → ComesInto hs y f → ComesInto (x ∷ hs) y f
comes_after hs x y f right into = ⊎_elim (λ (e : x.from_node ≡ y.from_node). at_node e into) (λ (e : x.from_node ≡ y.from_node → ⊥). elsewhere e into) (cases_eq x.from_node y.from_node)
  where
    elsewhere : (x.from_node ≡ y.from_node → ⊥) → ComesInto hs y f → ComesInto (x ∷ hs) y f
    elsewhere far (inl none) = inl (λ k c from. ⊎_elim (λ (p : x ≡ k). far (ap (λ (z : HalfEdge). z.from_node) p ∙ from)) (λ (d : Contains hs k). none k d from) (contains_cases k x hs c))
    elsewhere far (inr (p, (l, e))) = inr (
      p,
      (
        record {
          there = contains_there p x hs l.there;
          one_node = l.one_node;
          last = λ k c from. ⊎_elim (λ (q : x ≡ k). absurd (far (ap (λ (z : HalfEdge). z.from_node) q ∙ from))) (λ (d : Contains hs k). l.last k d from) (contains_cases k x hs c);
        },
        e,
      ),
    )

    here : x.from_node ≡ y.from_node → ((k : HalfEdge) → Contains hs k → k.from_node ≡ y.from_node → is_nearer (leaving y) (leaving x) (leaving k) ≡ false) → ComesInto (x ∷ hs) y f
    here node each = inr (
      x,
      (
        record {
          there = contains_here x hs;
          one_node = node;
          last = λ k c from. ⊎_elim (λ (q : x ≡ k). subst (λ (z : HalfEdge). is_nearer (leaving y) (leaving x) (leaving z) ≡ false) q (nearer_self (leaving y) (leaving x))) (λ (d : Contains hs k). each k d from) (contains_cases k x hs c);
        },
        right,
      ),
    )

    at_node : x.from_node ≡ y.from_node → ComesInto hs y f → ComesInto (x ∷ hs) y f
    at_node node (inl none) = here node (λ k c from. absurd (none k c from))
    at_node node (inr (p, (l, e))) =
        ⊎_elim
        (λ (t : is_nearer (leaving y) (leaving p) (leaving x) ≡ true).
        here node (λ k c from. false_from_ne_true (is_nearer (leaving y) (leaving x) (leaving k)) (λ u. false≢true (sym (l.last k c from) ∙ nearer_onward (leaving y) (leaving p) (leaving x) (leaving k) t u))))
        (λ (t : is_nearer (leaving y) (leaving p) (leaving x) ≡ false).
        inr (
          p,
          (
            record {
              there = contains_there p x hs l.there;
              one_node = l.one_node;
              last = λ k c from. ⊎_elim (λ (q : x ≡ k). subst (λ (z : HalfEdge). is_nearer (leaving y) (leaving p) (leaving z) ≡ false) q t) (λ (d : Contains hs k). l.last k d from) (contains_cases k x hs c);
            },
            e,
          ),
        ))
        (by_bool (is_nearer (leaving y) (leaving p) (leaving x)))

-- ---- directions about one node
-- from x the directions s, k and p come in this order, so from p the direction s comes before k
pub round_about : (X S K P : Direction) → IsNotZero X → IsNotZero S → IsNotZero K → IsNotZero P → is_nearer X S K ≡ true → is_nearer X K P ≡ true
    → same_direction X S ≡ false → same_direction X K ≡ false → same_direction S K ≡ false → same_direction K P ≡ false → is_nearer P S K ≡ true
round_about X S K P x s k p first second xs xk sk kp =
    let back : is_nearer K P X ≡ true = nearer_cyclic X K P x k second xk in
    let on : is_nearer S K X ≡ true = nearer_cyclic X S K x s first xs in
    let round : is_nearer K X S ≡ true = nearer_cyclic S K X s k on sk in
    nearer_cyclic K P S k p (nearer_onward K P X S back round) kp

pub not_both : (r u v : Direction) → is_nearer r u v ≡ true → is_nearer r v u ≡ true → ⊥
not_both r u v e f = false≢true (sym (nearer_self r u) ∙ nearer_onward r u v u e f)

-- ---- all stay joined
-- x comes between the last one and the one that is next after it
pub record Insertion (hs : List HalfEdge) (x : HalfEdge) (f : ℕ) : Type 0 where
  pub spread : AreSpread (x ∷ hs)
  pub fresh : Contains hs x → ⊥
  pub left : x.on_left ≡ f
  pub right : x.on_right ≡ f
  pub into : ComesInto hs x f

-- what was there is another than what comes
pub not_fresh : (hs : List HalfEdge) (x : HalfEdge) → (Contains hs x → ⊥) → (k : HalfEdge) → Contains hs k → k ≡ x → ⊥
not_fresh hs x fresh k c e = fresh (subst (Contains hs) e c)

-- what is next after x was next after the last one
next_after_last : (hs : List HalfEdge) (x s p : HalfEdge) → AreSpread (x ∷ hs) → (Contains hs x → ⊥) → Turns (x ∷ hs) x s → Contains hs s → IsLast hs x p → Turns hs p s
next_after_last hs x s p a fresh h cs l = record {
  first = l.there;
  second = cs;
  one_node = h.one_node ∙ sym l.one_node;
  none_between = λ k c from other. false_from_ne_true (is_nearer (leaving p) (leaving k) (leaving s)) (λ t. between k c (from ∙ l.one_node) other t);
  alone = λ e k c from.
      let at_x = from ∙ l.one_node in
      one_of_equals (x ∷ hs) (leaving x) k p a (a.some x here) (in_all k c) (in_all p l.there) from
      (subst (λ (z : HalfEdge). is_nearer (leaving x) (leaving k) (leaving z) ≡ false) e (h.none_between k (in_all k c) at_x (not_fresh hs x fresh k c)))
      (l.last k c at_x);
}
  where
    here : Contains (x ∷ hs) x
    here = contains_here x hs

    in_all : (k : HalfEdge) → Contains hs k → Contains (x ∷ hs) k
    in_all k c = contains_there k x hs c

    between : (k : HalfEdge) → Contains hs k → k.from_node ≡ x.from_node → (k ≡ p → ⊥) → is_nearer (leaving p) (leaving k) (leaving s) ≡ true → ⊥
    between k c from other t =
        ⊎_elim
        (λ (e : k ≡ s). false≢true (sym (subst (λ (z : HalfEdge). is_nearer (leaving p) (leaving k) (leaving z) ≡ false) e (nearer_self (leaving p) (leaving k))) ∙ t))
        (λ (e : k ≡ s → ⊥).
        let some_x = a.some x here in
        let after_s : is_nearer (leaving x) (leaving k) (leaving s) ≡ false = h.none_between k (in_all k c) from (not_fresh hs x fresh k c) in
        let before_p : is_nearer (leaving x) (leaving p) (leaving k) ≡ false = l.last k c from in
        let first : is_nearer (leaving x) (leaving s) (leaving k) ≡ true =
        ⊎_elim (λ (u : is_nearer (leaving x) (leaving s) (leaving k) ≡ true). u)
        (λ (u : is_nearer (leaving x) (leaving s) (leaving k) ≡ false). absurd (e (one_of_equals (x ∷ hs) (leaving x) k s a some_x (in_all k c) (in_all s cs) (from ∙ sym h.one_node) after_s u)))
        (by_bool (is_nearer (leaving x) (leaving s) (leaving k))) in
        let second : is_nearer (leaving x) (leaving k) (leaving p) ≡ true =
        ⊎_elim (λ (u : is_nearer (leaving x) (leaving k) (leaving p) ≡ true). u)
        (λ (u : is_nearer (leaving x) (leaving k) (leaving p) ≡ false). absurd (other (one_of_equals (x ∷ hs) (leaving x) k p a some_x (in_all k c) (in_all p l.there) (from ∙ sym l.one_node) u before_p)))
        (by_bool (is_nearer (leaving x) (leaving k) (leaving p))) in
        not_both (leaving p) (leaving k) (leaving s) t
        (round_about (leaving x) (leaving s) (leaving k) (leaving p) some_x (a.some s (in_all s cs)) (a.some k (in_all k c)) (a.some p (in_all p l.there)) first second
        (apart_at (x ∷ hs) x s a here (in_all s cs) (sym h.one_node) (λ q. not_fresh hs x fresh s cs (sym q)))
        (apart_at (x ∷ hs) x k a here (in_all k c) (sym from) (λ q. not_fresh hs x fresh k c (sym q)))
        (apart_at (x ∷ hs) s k a (in_all s cs) (in_all k c) (h.one_node ∙ sym from) (λ q. e (sym q)))
        (apart_at (x ∷ hs) k p a (in_all k c) (in_all p l.there) (from ∙ sym l.one_node) other)))
        (a.same k s (in_all k c) (in_all s cs))

-- that after which x is next is the last one
last_before : (hs : List HalfEdge) (x t p : HalfEdge) → AreSpread (x ∷ hs) → (Contains hs x → ⊥) → Turns (x ∷ hs) t x → Contains hs t → IsLast hs x p → p ≡ t
last_before hs x t p a fresh h ct l =
    ⊎_elim
    (λ (e : p ≡ t). e)
    (λ (e : p ≡ t → ⊥).
    let some_x = a.some x here in
    let before_x : is_nearer (leaving t) (leaving p) (leaving x) ≡ false = h.none_between p in_p (l.one_node ∙ h.one_node) e in
    let not_after : is_nearer (leaving x) (leaving p) (leaving t) ≡ false = l.last t ct (sym h.one_node) in
    let near : is_nearer (leaving x) (leaving t) (leaving p) ≡ true =
    ⊎_elim (λ (u : is_nearer (leaving x) (leaving t) (leaving p) ≡ true). u)
    (λ (u : is_nearer (leaving x) (leaving t) (leaving p) ≡ false). absurd (e (one_of_equals (x ∷ hs) (leaving x) p t a some_x in_p in_t (l.one_node ∙ h.one_node) not_after u)))
    (by_bool (is_nearer (leaving x) (leaving t) (leaving p))) in
    absurd (false≢true (sym before_x ∙ nearer_cyclic (leaving x) (leaving t) (leaving p) some_x (a.some t in_t) near (apart_at (x ∷ hs) x t a here in_t h.one_node (λ q. fresh (subst (Contains hs) (sym q) ct))))))
    (a.same p t in_p in_t)
  where
    here : Contains (x ∷ hs) x
    here = contains_here x hs

    in_p : Contains (x ∷ hs) p
    in_p = contains_there p x hs l.there

    in_t : Contains (x ∷ hs) t
    in_t = contains_there t x hs ct

pub joined_more : (hs : List HalfEdge) (x : HalfEdge) (f : ℕ) → Insertion hs x f → FacesAgree hs → FacesAgree (x ∷ hs)
joined_more hs x f i joined t s h =
    ⊎_elim
    (λ (p : x ≡ t). ⊎_elim (λ (q : x ≡ s). own p q) (λ (cs : Contains hs s). from_x p cs i.into) (contains_cases s x hs h.second))
    (λ (ct : Contains hs t). ⊎_elim (λ (q : x ≡ s). to_x q ct i.into) (λ (cs : Contains hs s). joined t s (turns_within hs (x ∷ hs) t s (λ k c. contains_there k x hs c) ct cs h)) (contains_cases s x hs h.second))
    (contains_cases t x hs h.first)
  where
    own : x ≡ t → x ≡ s → t.on_right ≡ s.on_left
    own p q = ap (λ (z : HalfEdge). z.on_right) (sym p) ∙ i.right ∙ sym i.left ∙ ap (λ (z : HalfEdge). z.on_left) q

    from_x : x ≡ t → Contains hs s → ComesInto hs x f → t.on_right ≡ s.on_left
    from_x p cs (inl none) = absurd (none s cs (h.one_node ∙ ap (λ (z : HalfEdge). z.from_node) (sym p)))
    from_x p cs (inr (l, (last, e))) =
        let turned : Turns (x ∷ hs) x s = subst (λ (z : HalfEdge). Turns (x ∷ hs) z s) (sym p) h in
        ap (λ (z : HalfEdge). z.on_right) (sym p) ∙ i.right ∙ sym e ∙ joined l s (next_after_last hs x s l i.spread i.fresh turned cs last)

    to_x : x ≡ s → Contains hs t → ComesInto hs x f → t.on_right ≡ s.on_left
    to_x q ct (inl none) = absurd (none t ct (sym h.one_node ∙ ap (λ (z : HalfEdge). z.from_node) (sym q)))
    to_x q ct (inr (l, (last, e))) =
        let turned : Turns (x ∷ hs) t x = subst (Turns (x ∷ hs) t) (sym q) h in
        ap (λ (z : HalfEdge). z.on_right) (sym (last_before hs x t l i.spread i.fresh turned ct last)) ∙ e ∙ sym i.left ∙ ap (λ (z : HalfEdge). z.on_left) q
