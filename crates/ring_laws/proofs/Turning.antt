-- The half-edge that stands next clockwise about a node, and faces that agree between the two.
use Rattle.std.proofs.Common.{◌≡◌, refl, sym, ◌∙◌, ap, subst, ◌⊎◌, inl, inr, ⊎_elim, Bool, true, false, not, List}
use Rattle.std.specs.Prelude.{◌==◌, filter}
use Rattle.std.specs.List.{Contains}
use Rattle.std.proofs.Math.Bool.{not-not}
use Rattle.std.proofs.lemmas.Bool.{and_parts, and_from, eqb-true, eq-eqb, false≢true, false_from_ne_true, not-true}
use Rattle.std.proofs.lemmas.List.{reverse-reverse}
use Rattle.std.proofs.lemmas.List.Elements.{All-contains}
use Rattle.plane.specs.Direction.{Direction, is_nearer, same_direction, IsNotZero, OneDirection}
use Rattle.drawing.specs.Drawing.{Drawing}
use Rattle.drawing.specs.HalfEdge.{HalfEdge, half_edges, twin, leaves, same_half_edge, dart_of}
use Rattle.drawing.specs.Star.{leaving, next_of}
use Rattle.drawing.specs.Subdivision.{rings_have_one_face}
use Rattle.plane.proofs.LineTests.{all_from}
use Rattle.plane.proofs.Directions.{nearer_total, same_out}
use Rattle.plane.proofs.ListTests.{Decides-all}
use Rattle.drawing.proofs.Members.{contains-filter, contains-filtered}
use Rattle.face_rings.proofs.FaceBorders.{half_by_dart}
use Rattle.face_rings.proofs.HalfLines.{HasPlainLines}
use Rattle.face_rings.proofs.HalvesApart.{twin_there, directions_differ}
use Rattle.face_rings.proofs.NextApart.{IsNext, may_follow, next_is, leaving_not_zero}
use Rattle.face_rings.proofs.Ranks.{by_bool, same_out as same_dart_out, same_self}

-- two tests that imply each other are one
pub same_test : (a b : Bool) → (a ≡ true → b ≡ true) → (b ≡ true → a ≡ true) → a ≡ b
same_test true b on back = sym (on refl)
same_test false true on back = back refl
same_test false false on back = refl

-- ---- half-edges that leave each node in different directions
pub record AreSpread (hs : List HalfEdge) : Type 0 where
  pub some : (k : HalfEdge) → Contains hs k → IsNotZero (leaving k)
  pub differ : (k m : HalfEdge) → Contains hs k → Contains hs m → k.from_node ≡ m.from_node → OneDirection (leaving k) (leaving m) → k ≡ m
  pub same : (k m : HalfEdge) → Contains hs k → Contains hs m → (k ≡ m) ⊎ (k ≡ m → ⊥)

-- two half-edges of a drawing are one by their darts
pub other_dart : (S : Drawing) (k m : HalfEdge) → HasPlainLines S → Contains (half_edges S) k → Contains (half_edges S) m → (k ≡ m → ⊥) → same_half_edge k m ≡ false
other_dart S k m good ck cm other = false_from_ne_true (same_half_edge k m) (λ t. other (half_by_dart S k m good ck cm (same_dart_out (dart_of k) (dart_of m) t)))

pub one_or_other : (S : Drawing) (k m : HalfEdge) → HasPlainLines S → Contains (half_edges S) k → Contains (half_edges S) m → (k ≡ m) ⊎ (k ≡ m → ⊥)
one_or_other S k m good ck cm =
    ⊎_elim
    (λ (t : same_half_edge k m ≡ true). inl (half_by_dart S k m good ck cm (same_dart_out (dart_of k) (dart_of m) t)))
    (λ (t : same_half_edge k m ≡ false). inr (λ e. false≢true (sym t ∙ subst (λ (x : HalfEdge). same_half_edge k x ≡ true) e (same_self (dart_of k)))))
    (by_bool (same_half_edge k m))

pub spread_of : (S : Drawing) → HasPlainLines S → AreSpread (half_edges S)
spread_of S good = record {
  some = λ k c. leaving_not_zero S k good c;
  differ = λ k m ck cm from one. directions_differ S k m good ck cm from one;
  same = λ k m ck cm. one_or_other S k m good ck cm;
}

pub spread_within : (ks ls : List HalfEdge) → ((k : HalfEdge) → Contains ks k → Contains ls k) → AreSpread ls → AreSpread ks
spread_within ks ls sub a = record {
  some = λ k c. a.some k (sub k c);
  differ = λ k m ck cm from one. a.differ k m (sub k ck) (sub m cm) from one;
  same = λ k m ck cm. a.same k m (sub k ck) (sub m cm);
}

-- different ones at one node have different directions
pub apart_at : (hs : List HalfEdge) (k m : HalfEdge) → AreSpread hs → Contains hs k → Contains hs m → k.from_node ≡ m.from_node → (k ≡ m → ⊥) → same_direction (leaving k) (leaving m) ≡ false
apart_at hs k m a ck cm from other =
    false_from_ne_true (same_direction (leaving k) (leaving m)) (λ t. other (a.differ k m ck cm from (same_out (leaving k) (leaving m) (a.some k ck) (a.some m cm) t)))

-- of two that are not nearer than each other one is the other
pub one_of_equals : (hs : List HalfEdge) (r : Direction) (k m : HalfEdge) → AreSpread hs → IsNotZero r → Contains hs k → Contains hs m → k.from_node ≡ m.from_node
    → is_nearer r (leaving k) (leaving m) ≡ false → is_nearer r (leaving m) (leaving k) ≡ false → k ≡ m
one_of_equals hs r k m a some ck cm from e f = a.differ k m ck cm from (nearer_total r (leaving k) (leaving m) some (a.some k ck) (a.some m cm) e f)

-- ---- s is next clockwise after t among those that leave its node
pub record Turns (hs : List HalfEdge) (t s : HalfEdge) : Type 0 where
  pub first : Contains hs t
  pub second : Contains hs s
  pub one_node : s.from_node ≡ t.from_node
  pub none_between : (k : HalfEdge) → Contains hs k → k.from_node ≡ t.from_node → (k ≡ t → ⊥) → is_nearer (leaving t) (leaving k) (leaving s) ≡ false
  pub alone : s ≡ t → (k : HalfEdge) → Contains hs k → k.from_node ≡ t.from_node → k ≡ t

-- the face on the right of each is that on the left of the next
abbrev pub FacesAgree : List HalfEdge → Type 0
FacesAgree hs = (t s : HalfEdge) → Turns hs t s → t.on_right ≡ s.on_left

-- both depend on what the list contains alone
pub turns_within : (ks ls : List HalfEdge) (t s : HalfEdge) → ((k : HalfEdge) → Contains ks k → Contains ls k) → Contains ks t → Contains ks s → Turns ls t s → Turns ks t s
turns_within ks ls t s sub ct cs h = record {
  first = ct;
  second = cs;
  one_node = h.one_node;
  none_between = λ k c from other. h.none_between k (sub k c) from other;
  alone = λ e k c from. h.alone e k (sub k c) from;
}

pub joined_same : (ks ls : List HalfEdge) → ((k : HalfEdge) → Contains ks k → Contains ls k) → ((k : HalfEdge) → Contains ls k → Contains ks k) → FacesAgree ks → FacesAgree ls
joined_same ks ls into back joined t s h = joined t s (turns_within ks ls t s into (back t h.first) (back s h.second) h)

-- at most one is next
pub turns_one : (hs : List HalfEdge) (t s m : HalfEdge) → AreSpread hs → Turns hs t s → Turns hs t m → s ≡ m
turns_one hs t s m a h g =
    ⊎_elim
    (λ (p : s ≡ t). p ∙ sym (h.alone p m g.second g.one_node))
    (λ (p : s ≡ t → ⊥).
    ⊎_elim
    (λ (q : m ≡ t). absurd (p (g.alone q s h.second h.one_node)))
    (λ (q : m ≡ t → ⊥).
    one_of_equals hs (leaving t) s m a (a.some t h.first) h.second g.second (h.one_node ∙ sym g.one_node) (g.none_between s h.second h.one_node p) (h.none_between m g.second g.one_node q))
    (a.same m t g.second h.first))
    (a.same s t h.second h.first)

-- ---- what follows a half-edge is next after it, walked back
pub twin_twin : (h : HalfEdge) → twin (twin h) ≡ h
twin_twin h = let a = not-not h.is_forward in let b = reverse-reverse h.points in λ i. record h { is_forward = a i; points = b i }

follows : (S : Drawing) (h k : HalfEdge) → HasPlainLines S → Contains (half_edges S) h → Contains (half_edges S) k → k.from_node ≡ h.to_node → (k ≡ twin h → ⊥) → Contains (filter (may_follow h) (half_edges S)) k
follows S h k good ch ck from other =
    contains-filter (may_follow h) k (half_edges S) ck
    (and_from (leaves h.to_node k) (not (same_half_edge k (twin h))) (eq-eqb k.from_node h.to_node from) (ap not (other_dart S k (twin h) good ck (twin_there S.edges h ch) other)))

pub next_turns : (S : Drawing) (h : HalfEdge) → HasPlainLines S → Contains (half_edges S) h → Turns (half_edges S) (twin h) (next_of (half_edges S) h)
next_turns S h good c = by_next (next_of (half_edges S) h) (next_is S h good c)
  where
    back : Contains (half_edges S) (twin h)
    back = twin_there S.edges h c

    by_next : (m : HalfEdge) → IsNext h (filter (may_follow h) (half_edges S)) m → Turns (half_edges S) (twin h) m
    by_next m (inl p) = record {
      first = back;
      second = subst (Contains (half_edges S)) (sym p.0) back;
      one_node = ap (λ (x : HalfEdge). x.from_node) p.0;
      none_between = λ k ck from other. absurd (p.1 k (follows S h k good c ck from other));
      alone = λ e k ck from. ⊎_elim (λ (q : k ≡ twin h). q) (λ (q : k ≡ twin h → ⊥). absurd (p.1 k (follows S h k good c ck from q))) (one_or_other S k (twin h) good ck back);
    }
    by_next m (inr f) =
        let there = contains-filtered (may_follow h) m (half_edges S) f.there in
        let parts = and_parts (leaves h.to_node m) (not (same_half_edge m (twin h))) there.1 in
        record {
          first = back;
          second = there.0;
          one_node = eqb-true m.from_node h.to_node parts.0;
          none_between = λ k ck from other. f.first k (follows S h k good c ck from other);
          alone = λ e. absurd (false≢true (sym (not-true (same_half_edge m (twin h)) parts.1) ∙ subst (λ (x : HalfEdge). same_half_edge m x ≡ true) e (same_self (dart_of m))));
        }

-- what is next after t follows t walked back
pub turns_next : (S : Drawing) (t s : HalfEdge) → HasPlainLines S → Turns (half_edges S) t s → next_of (half_edges S) (twin t) ≡ s
turns_next S t s good h =
    let back = next_turns S (twin t) good (twin_there S.edges t h.first) in
    let on : Turns (half_edges S) t (next_of (half_edges S) (twin t)) = subst (λ (x : HalfEdge). Turns (half_edges S) x (next_of (half_edges S) (twin t))) (twin_twin t) back in
    turns_one (half_edges S) t (next_of (half_edges S) (twin t)) s (spread_of S good) on h

-- ---- the test
pub left_stays : (S : Drawing) (h : HalfEdge) → rings_have_one_face S ≡ true → Contains (half_edges S) h → h.on_left ≡ (next_of (half_edges S) h).on_left
left_stays S h one c =
    let test = λ (x : HalfEdge). x.on_left == (next_of (half_edges S) x).on_left in
    let all = (Decides-all test (λ x. test x ≡ true) (λ x. (λ t. t, λ t. t)) (half_edges S)).0 one in
    eqb-true h.on_left (next_of (half_edges S) h).on_left (All-contains (λ (x : HalfEdge). test x ≡ true) (half_edges S) h all c)

pub lefts_stay : (S : Drawing) → ((h : HalfEdge) → Contains (half_edges S) h → h.on_left ≡ (next_of (half_edges S) h).on_left) → rings_have_one_face S ≡ true
lefts_stay S each =
    let test = λ (x : HalfEdge). x.on_left == (next_of (half_edges S) x).on_left in
    (Decides-all test (λ x. test x ≡ true) (λ x. (λ t. t, λ t. t)) (half_edges S)).1
    (all_from (λ (x : HalfEdge). test x ≡ true) (half_edges S) (λ h c. eq-eqb h.on_left (next_of (half_edges S) h).on_left (each h c)))

pub joined_of : (S : Drawing) → HasPlainLines S → rings_have_one_face S ≡ true → FacesAgree (half_edges S)
joined_of S good one t s h = left_stays S (twin t) one (twin_there S.edges t h.first) ∙ ap (λ (x : HalfEdge). x.on_left) (turns_next S t s good h)

pub rings_of : (S : Drawing) → HasPlainLines S → FacesAgree (half_edges S) → rings_have_one_face S ≡ true
rings_of S good joined = lefts_stay S (λ h c. joined (twin h) (next_of (half_edges S) h) (next_turns S h good c))
