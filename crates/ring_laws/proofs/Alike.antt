-- Directions that point the same way, and half-edges that stand for others about their nodes.
use Rattle.std.proofs.Common.{◌≡◌, ℕ, refl, sym, ◌∙◌, ap, subst, arith, ℤ, pos, ◌+ℤ◌, ◌-ℤ◌, ◌*ℤ◌, ◌<ℤ◌, ◌≤ℤ◌, inl, inr, ⊎_elim, Bool, true, false, cond, ◌&&◌, ◌||◌, List}
use Rattle.std.specs.Prelude.{◌==◌, nat_lt, int_lt}
use Rattle.std.specs.List.{Contains}
use Rattle.topo_base.specs.Point.{Point}
use Rattle.topo_base.specs.RationalPoint.{IsBetween}
use Rattle.plane.specs.Direction.{Direction, direction_to, cross, dot, quarter, is_nearer, same_direction, IsNotZero, OneDirection}
use Rattle.drawing.specs.HalfEdge.{HalfEdge}
use Rattle.plane.specs.Orientation.{area}
use Rattle.plane.specs.Relation.{SameCoordinates}
use Rattle.drawing.specs.Star.{leaving}
use Rattle.plane.proofs.Directions.{nearer_self, nearer_total, one_quarter, quarter_of_one, same_in, same_out}
use Rattle.plane.proofs.Ring.{multiplied, signed}
use Rattle.plane.proofs.Signs.{mul_not_negative, mul_positive, order}
use Rattle.ring_laws.proofs.Turning.{AreSpread, Turns, FacesAgree}

-- ---- a point on a segment is in its direction
axis_some : (a m b : ℤ) → IsBetween a m b → pos 0 ≤ℤ ((b -ℤ a) *ℤ (m -ℤ a))
axis_some a m b (inl (l, h)) = mul_not_negative (b -ℤ a) (m -ℤ a) (omega (arith, signed)) (omega (arith, signed))
axis_some a m b (inr (l, h)) =
    let one = simp multiplied at (mul_not_negative (a -ℤ b) (a -ℤ m) (omega (arith, signed)) (omega (arith, signed))) in
    simp multiplied (omega (arith, signed))

axis_above : (a m b : ℤ) → IsBetween a m b → a <ℤ m → pos 0 <ℤ ((b -ℤ a) *ℤ (m -ℤ a))
axis_above a m b (inl (l, h)) more = mul_positive (b -ℤ a) (m -ℤ a) (omega (arith, signed)) (omega (arith, signed))
axis_above a m b (inr (l, h)) more = absurd (omega (arith, signed))

axis_below : (a m b : ℤ) → IsBetween a m b → m <ℤ a → pos 0 <ℤ ((b -ℤ a) *ℤ (m -ℤ a))
axis_below a m b (inl (l, h)) less = absurd (omega (arith, signed))
axis_below a m b (inr (l, h)) less =
    let one = simp multiplied at (mul_positive (a -ℤ b) (a -ℤ m) (omega (arith, signed)) (omega (arith, signed))) in
    simp multiplied (omega (arith, signed))

first_more : (m k : ℤ) → pos 0 <ℤ m → pos 0 ≤ℤ k → pos 0 <ℤ (m +ℤ k)
first_more m k h g = omega (arith, signed)

second_more : (m k : ℤ) → pos 0 ≤ℤ m → pos 0 <ℤ k → pos 0 <ℤ (m +ℤ k)
second_more m k h g = omega (arith, signed)

one_number : (a b : ℤ) → a ≤ℤ b → b ≤ℤ a → b ≡ a
one_number a b h k = omega (arith, signed)

ahead_of : (a b p : Point) → IsBetween a.x p.x b.x → IsBetween a.y p.y b.y → (SameCoordinates p a → ⊥) → pos 0 <ℤ dot (direction_to a b) (direction_to a p)
ahead_of a b p across upward far =
    let x = axis_some a.x p.x b.x across in
    let y = axis_some a.y p.y b.y upward in
    let mx = (b.x -ℤ a.x) *ℤ (p.x -ℤ a.x) in
    let my = (b.y -ℤ a.y) *ℤ (p.y -ℤ a.y) in
    ⊎_elim
    (λ (h : a.x <ℤ p.x). first_more mx my (axis_above a.x p.x b.x across h) y)
    (λ (h : p.x ≤ℤ a.x).
    ⊎_elim
    (λ (k : p.x <ℤ a.x). first_more mx my (axis_below a.x p.x b.x across k) y)
    (λ (k : a.x ≤ℤ p.x).
    ⊎_elim
    (λ (u : a.y <ℤ p.y). second_more mx my x (axis_above a.y p.y b.y upward u))
    (λ (u : p.y ≤ℤ a.y).
    ⊎_elim
    (λ (v : p.y <ℤ a.y). second_more mx my x (axis_below a.y p.y b.y upward v))
    (λ (v : a.y ≤ℤ p.y). absurd (far (one_number a.x p.x k h, one_number a.y p.y v u)))
    (order p.y a.y))
    (order a.y p.y))
    (order p.x a.x))
    (order a.x p.x)

pub one_way : (a b p : Point) → area a b p ≡ pos 0 → IsBetween a.x p.x b.x → IsBetween a.y p.y b.y → (SameCoordinates p a → ⊥) → OneDirection (direction_to a b) (direction_to a p)
one_way a b p straight across upward far = record { straight = straight; ahead = ahead_of a b p across upward far }

turned_area : (ax ay bx by px py : ℤ) → (bx -ℤ ax) *ℤ (py -ℤ ay) -ℤ (by -ℤ ay) *ℤ (px -ℤ ax) ≡ pos 0 → (ax -ℤ bx) *ℤ (py -ℤ by) -ℤ (ay -ℤ by) *ℤ (px -ℤ bx) ≡ pos 0
turned_area ax ay bx by px py e = let f = simp multiplied at e in simp multiplied (omega (arith, signed))

turned_between : (a m b : ℤ) → IsBetween a m b → IsBetween b m a
turned_between a m b (inl h) = inr h
turned_between a m b (inr h) = inl h

-- seen from the other end
pub other_way : (a b p : Point) → area a b p ≡ pos 0 → IsBetween a.x p.x b.x → IsBetween a.y p.y b.y → (SameCoordinates p b → ⊥) → OneDirection (direction_to b a) (direction_to b p)
other_way a b p straight across upward far =
    one_way b a p (turned_area a.x a.y b.x b.y p.x p.y straight) (turned_between a.x p.x b.x across) (turned_between a.y p.y b.y upward) far

-- ---- directions in one quarter of any other
abbrev pub Alike : Direction → Direction → Type 0
Alike u v = ((r : Direction) → quarter r u ≡ quarter r v) × ((r : Direction) → quarter u r ≡ quarter v r)

pub alike_one : (u v : Direction) → OneDirection u v → Alike u v
alike_one u v one = (λ r. one_quarter r u v one, λ r. quarter_of_one r u v one)

pub alike_same : (u v : Direction) → u ≡ v → Alike u v
alike_same u v e = (λ r. ap (quarter r) e, λ r. ap (λ w. quarter w r) e)

turn_is : (u v : Direction) → int_lt (cross u v) (pos 0) ≡ (quarter u v == 1)
turn_is u v = by_tests (int_lt (cross u v) (pos 0)) (int_lt (pos 0) (cross u v)) (int_lt (dot u v) (pos 0))
  where
    by_tests : (a b c : Bool) → a ≡ (cond a 1 (cond b 3 (cond c 2 0)) == 1)
    by_tests true b c = refl
    by_tests false true c = refl
    by_tests false false true = refl
    by_tests false false false = refl

near_by : ℕ → ℕ → ℕ → Bool
near_by q p k = nat_lt q p || q == p && (k == 1) && (q == 1 || q == 3)

nearer_is : (r u v : Direction) → is_nearer r u v ≡ near_by (quarter r u) (quarter r v) (quarter u v)
unfolding near_by
nearer_is r u v = ap (λ t. nat_lt (quarter r u) (quarter r v) || quarter r u == quarter r v && t && (quarter r u == 1 || quarter r u == 3)) (turn_is u v)

same_quarter : (r r' u u' : Direction) → Alike r r' → Alike u u' → quarter r u ≡ quarter r' u'
same_quarter r r' u u' a b = b.0 r ∙ a.1 u'

pub near_alike : (r r' u u' v v' : Direction) → Alike r r' → Alike u u' → Alike v v' → is_nearer r u v ≡ is_nearer r' u' v'
near_alike r r' u u' v v' a b c =
    let p = same_quarter r r' u u' a b in
    let q = same_quarter r r' v v' a c in
    let k = same_quarter u u' v v' b c in
    nearer_is r u v ∙ (λ i. near_by (p i) (q i) (k i)) ∙ sym (nearer_is r' u' v')

-- two that are like one have one direction
own_way : (u : Direction) → IsNotZero u → same_direction u u ≡ true
own_way u some = same_in u u (nearer_total u u u some some some (nearer_self u u) (nearer_self u u))

pub like_one : (u v w : Direction) → IsNotZero u → IsNotZero v → Alike u w → Alike v w → OneDirection u v
like_one u v w some other a b =
    let e : quarter u v ≡ quarter u u = a.1 v ∙ b.0 w ∙ sym (a.1 u ∙ a.0 w) in
    same_out u v some other (ap (λ q. q == 0) e ∙ own_way u some)

pub turned_like : (u v : Direction) → Alike u v → Alike v u
turned_like u v a = (λ r. sym (a.0 r), λ r. sym (a.1 r))

-- ---- half-edges that stand for others
-- k leaves its node as h does
pub record LeavesAs (h k : HalfEdge) : Type 0 where
  pub node : h.from_node ≡ k.from_node
  pub way : Alike (leaving h) (leaving k)

-- one of the one list leaves as one of the other does
pub one_leaves : (hs : List HalfEdge) (h g k : HalfEdge) → AreSpread hs → Contains hs h → Contains hs g → LeavesAs h k → LeavesAs g k → h ≡ g
one_leaves hs h g k a ch cg l m = a.differ h g ch cg (l.node ∙ sym m.node) (like_one (leaving h) (leaving g) (leaving k) (a.some h ch) (a.some g cg) l.way m.way)

pub leaves_back : (h k : HalfEdge) → LeavesAs h k → LeavesAs k h
leaves_back h k l = record { node = sym l.node; way = turned_like (leaving h) (leaving k) l.way }

-- what is next stays next, where each at the node stands for one
pub turns_over : (hs ks : List HalfEdge) (t s t' s' : HalfEdge) → AreSpread hs → AreSpread ks → Turns hs t s → Contains ks t' → Contains ks s' → LeavesAs t t' → LeavesAs s s'
    → ((k : HalfEdge) → Contains ks k → k.from_node ≡ t'.from_node → (g : HalfEdge) × (Contains hs g × LeavesAs g k)) → Turns ks t' s'
turns_over hs ks t s t' s' before after turn ct cs a b stood = record {
  first = ct;
  second = cs;
  one_node = sym b.node ∙ turn.one_node ∙ a.node;
  none_between = λ k ck from other.
      let (g, (cg, c)) = stood k ck from in
      sym (near_alike (leaving t) (leaving t') (leaving g) (leaving k) (leaving s) (leaving s') a.way c.way b.way)
      ∙ turn.none_between g cg (c.node ∙ from ∙ sym a.node) (λ q. other (same_new k ck (subst (λ (z : HalfEdge). LeavesAs z k) q c)));
  alone = λ q k ck from.
      let (g, (cg, c)) = stood k ck from in
      let same : s ≡ t = one_leaves hs s t t' before turn.second turn.first (subst (LeavesAs s) q b) a in
      let is : g ≡ t = turn.alone same g cg (c.node ∙ from ∙ sym a.node) in
      same_new k ck (subst (λ (z : HalfEdge). LeavesAs z k) is c);
}
  where
    same_new : (k : HalfEdge) → Contains ks k → LeavesAs t k → k ≡ t'
    same_new k ck l = one_leaves ks k t' t after ck ct (leaves_back t k l) (leaves_back t t' a)

-- and with the same faces beside it
pub record IsLike (h k : HalfEdge) : Type 0 where
  pub node : h.from_node ≡ k.from_node
  pub way : Alike (leaving h) (leaving k)
  pub left : h.on_left ≡ k.on_left
  pub right : h.on_right ≡ k.on_right

pub like_self : (h : HalfEdge) → IsLike h h
like_self h = record { node = refl; way = alike_same (leaving h) (leaving h) refl; left = refl; right = refl }

pub like_leaves : (h k : HalfEdge) → IsLike h k → LeavesAs h k
like_leaves h k l = record { node = l.node; way = l.way }

-- at each node but n, those of the one list stand for those of the other
pub record Correspond (hs ks : List HalfEdge) (n : ℕ) : Type 0 where
  pub found : (k : HalfEdge) → Contains ks k → (k.from_node ≡ n → ⊥) → (h : HalfEdge) × (Contains hs h × IsLike h k)
  pub back : (h : HalfEdge) → Contains hs h → (h.from_node ≡ n → ⊥) → (k : HalfEdge) × (Contains ks k × IsLike h k)

pub joined_like : (hs ks : List HalfEdge) (n : ℕ) → AreSpread hs → AreSpread ks → Correspond hs ks n → FacesAgree hs → (t s : HalfEdge) → Turns ks t s → (t.from_node ≡ n → ⊥) → t.on_right ≡ s.on_left
joined_like hs ks n a b both joined t s h far =
    let (t0, (ct, lt)) = both.found t h.first far in
    let (s0, (cs, ls)) = both.found s h.second (λ e. far (sym h.one_node ∙ e)) in
    sym lt.right
    ∙ joined t0 s0
    (turns_over ks hs t s t0 s0 b a h ct cs (leaves_back t0 t (like_leaves t0 t lt)) (leaves_back s0 s (like_leaves s0 s ls)) (λ g cg from.
    let (k, (ck, lk)) = both.back g cg (λ e. far (sym lt.node ∙ sym from ∙ e)) in
    (k, (ck, leaves_back g k (like_leaves g k lk)))))
    ∙ ls.left
