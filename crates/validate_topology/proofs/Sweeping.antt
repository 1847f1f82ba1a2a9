-- What a sweep over pieces has found.
use Rattle.std.proofs.Common.{◌≡◌, ◌≢◌, ◌∙◌, ◌⊎◌, inl, inr, ⊎_elim, ℕ, zero, suc, min, max, ℤ, ◌≤ℤ◌, ◌<ℤ◌, Bool, true, false, not, ◌&&◌, ◌==◌, if◌then◌else◌, IsTrue, List, [], ◌∷◌, drop, Option, Some, None, MatchOption, refl, sym, subst, arith}
use Rattle.std.specs.Prelude.{Contains}
use Rattle.std.proofs.lemmas.Bool.{and_parts, and_from, false≢true}
use Rattle.std.proofs.lemmas.Bool.Decides.{Decides-eqb, Decides-not}
use Rattle.topo_base.specs.Point.{Point, same_point}
use Rattle.topo_base.specs.RationalPoint.{rational}
use Rattle.plane.specs.Segment.{Segment}
use Rattle.plane.specs.Relation.{HaveOne}
use Rattle.plane.proofs.ListTests.{contains_cases, contains_none}
use Rattle.plane.proofs.PointTests.{Decides-same_point}
use Rattle.plane.proofs.Relations.{on_end, joined}
use Rattle.plane.proofs.Ring.{signed}
use Rattle.validate_topology.specs.Pieces.{AreAmong, AreFound, AreFoundOf, AreInOrder, Conflicts, Cross, IsConflict, IsInside, IsOfOne, IsOfTwo, IsTheConflict, left_of, right_of, bottom_of, top_of, pair_of, way_of}
use Rattle.validate_topology.specs.declared.conflicts.Conflict.{Conflict}
use Rattle.validate_topology.specs.declared.conflicts.ConflictKind.TheVariants.{Coincident, Inside, Crossing}
use Rattle.validate_topology.specs.declared.pieces.Ends.{Ends}
use Rattle.validate_topology.specs.declared.pieces.Owner.{Owner}
use Rattle.validate_topology.specs.declared.pieces.Owner.TheVariants.{Node, Edge}
use Rattle.validate_topology.specs.declared.pieces.Piece.{Piece}
use Rattle.validate_topology.proofs.Crossings.{Reach, reach_of}

-- ---- the conflict of two pieces
abbrev pub Answers : Piece → Piece → Option Conflict → Type 0
Answers one other r = MatchOption r ((c : Conflict) → Conflicts one other c → ⊥) (IsTheConflict one other)

abbrev AnswersBy : Owner → Owner → Segment → Segment → Option Conflict → Type 0
AnswersBy o p s t r =
    MatchOption r ((c : Conflict) → IsConflict o p s t c → ⊥) (λ (d : Conflict). IsConflict o p s t d × ((c : Conflict) → IsConflict o p s t c → c ≡ d))

answered : (b : Bool) (d : Conflict) (P : Conflict → Type 0) → ((c : Conflict) → P c → IsTrue b × (c ≡ d)) → (IsTrue b → P d)
    → MatchOption (if b then Some d else None) ((c : Conflict) → P c → ⊥) (λ (e : Conflict). P e × ((c : Conflict) → P c → c ≡ e))
answered true d P only is = (is refl, λ c h. (only c h).1)
answered false d P only is = λ c h. false≢true (only c h).0

owned : (one other : Piece) (o p : Owner) (r : Option Conflict) → one.owner ≡ o → other.owner ≡ p → AnswersBy o p (way_of one) (way_of other) r → Answers one other r
owned one other o p r e f h =
    subst (λ x. AnswersBy x other.owner (way_of one) (way_of other) r) (sym e) (subst (λ x. AnswersBy o x (way_of one) (way_of other) r) (sym f) h)

differ : (a b : ℕ) → a ≢ b → not (a == b) ≡ true
differ a b = (Decides-not (a == b) (Decides-eqb a b)).1

differ_from : (a b : ℕ) → not (a == b) ≡ true → a ≢ b
differ_from a b = (Decides-not (a == b) (Decides-eqb a b)).0

pub nodes_answer : (one other : Piece) (a b : ℕ) (same : Bool) (r : Option Conflict) → one.owner ≡ Node a → other.owner ≡ Node b → same ≡ same_point one.from other.from
    → r ≡ (if not (a == b) && same then Some (record { kind = Coincident; pair = pair_of a b }) else None) → Answers one other r
nodes_answer one other a b same r e f test is =
    owned one other (Node a) (Node b) r e f (subst (AnswersBy (Node a) (Node b) (way_of one) (way_of other)) (sym is)
    (answered (not (a == b) && same) (record { kind = Coincident; pair = pair_of a b }) (IsConflict (Node a) (Node b) (way_of one) (way_of other))
    (λ c h. (and_from (not (a == b)) same (differ a b h.0) (test ∙ h.1), h.2))
    (λ h. let both = and_parts (not (a == b)) same h in (differ_from a b both.0, sym test ∙ both.1, refl))))

pub node_edge_answer : (one other : Piece) (n e : ℕ) (ends : Ends) (inside : Bool) (r : Option Conflict) → one.owner ≡ Node n → other.owner ≡ Edge e ends
    → (IsTrue inside → IsInside one.from ends (way_of other)) × (IsInside one.from ends (way_of other) → IsTrue inside)
    → r ≡ (if inside then Some (record { kind = Inside; pair = record { first = e; second = n } }) else None) → Answers one other r
node_edge_answer one other n e ends inside r f g test is =
    owned one other (Node n) (Edge e ends) r f g (subst (AnswersBy (Node n) (Edge e ends) (way_of one) (way_of other)) (sym is)
    (answered inside (record { kind = Inside; pair = record { first = e; second = n } }) (IsConflict (Node n) (Edge e ends) (way_of one) (way_of other))
    (λ c h. (test.1 h.0, h.1)) (λ h. (test.0 h, refl))))

pub edge_node_answer : (one other : Piece) (e n : ℕ) (ends : Ends) (inside : Bool) (r : Option Conflict) → one.owner ≡ Edge e ends → other.owner ≡ Node n
    → (IsTrue inside → IsInside other.from ends (way_of one)) × (IsInside other.from ends (way_of one) → IsTrue inside)
    → r ≡ (if inside then Some (record { kind = Inside; pair = record { first = e; second = n } }) else None) → Answers one other r
edge_node_answer one other e n ends inside r f g test is =
    owned one other (Edge e ends) (Node n) r f g (subst (AnswersBy (Edge e ends) (Node n) (way_of one) (way_of other)) (sym is)
    (answered inside (record { kind = Inside; pair = record { first = e; second = n } }) (IsConflict (Edge e ends) (Node n) (way_of one) (way_of other))
    (λ c h. (test.1 h.0, h.1)) (λ h. (test.0 h, refl))))

pub edges_answer : (one other : Piece) (a b : ℕ) (ends others : Ends) (crossed : Bool) (r : Option Conflict) → one.owner ≡ Edge a ends → other.owner ≡ Edge b others
    → (IsTrue crossed → Cross ends others (way_of one) (way_of other)) × (Cross ends others (way_of one) (way_of other) → IsTrue crossed)
    → r ≡ (if not (a == b) && crossed then Some (record { kind = Crossing; pair = pair_of a b }) else None) → Answers one other r
edges_answer one other a b ends others crossed r e f test is =
    owned one other (Edge a ends) (Edge b others) r e f (subst (AnswersBy (Edge a ends) (Edge b others) (way_of one) (way_of other)) (sym is)
    (answered (not (a == b) && crossed) (record { kind = Crossing; pair = pair_of a b }) (IsConflict (Edge a ends) (Edge b others) (way_of one) (way_of other))
    (λ c h. (and_from (not (a == b)) crossed (differ a b h.0) (test.1 h.1), h.2))
    (λ h. let both = and_parts (not (a == b)) crossed h in (differ_from a b both.0, test.0 both.1, refl))))

-- ---- pieces with a conflict have a common point
shared_by : (o p : Owner) (s t : Segment) (c : Conflict) → IsConflict o p s t c → HaveOne s t
shared_by (Node a) (Node b) s t c h = (rational s.a, (on_end s s.a (inl (joined s.a)), on_end t s.a (inl ((Decides-same_point s.a t.a).0 h.1))))
shared_by (Node a) (Edge b ends) s t c h = (rational s.a, (on_end s s.a (inl (joined s.a)), h.0.0))
shared_by (Edge a ends) (Node b) s t c h = (rational t.a, (h.0.0, on_end t t.a (inl (joined t.a))))
shared_by (Edge a ends) (Edge b others) s t c h = (h.1.0, (h.1.1.0, h.1.1.1))

pub reach : (one other : Piece) (c : Conflict) → Conflicts one other c → Reach (way_of one) (way_of other)
reach one other c h = reach_of (way_of one) (way_of other) (shared_by one.owner other.owner (way_of one) (way_of other) c h)

-- so pieces without a common height have none
pub level : (one other : Piece) (r : Bool) → (IsTrue r → (bottom_of one ≤ℤ top_of other) × (bottom_of other ≤ℤ top_of one)) × ((bottom_of one ≤ℤ top_of other) × (bottom_of other ≤ℤ top_of one) → IsTrue r)
    → r ≡ false → (c : Conflict) → Conflicts one other c → ⊥
level one other r test e c h = let k = reach one other c h in false≢true (sym e ∙ test.1 (k.below, k.above))

-- ---- the other way round
pub same_turned : (p q : Point) → IsTrue (same_point p q) → IsTrue (same_point q p)
same_turned p q h = let e = (Decides-same_point p q).0 h in (Decides-same_point q p).1 (sym e.0, sym e.1)

pub pair_turned : (a b : ℕ) → pair_of a b ≡ pair_of b a
pair_turned a b = λ i. record { first = low i; second = high i }
  where
    low : min a b ≡ min b a
    low = omega arith

    high : max a b ≡ max b a
    high = omega arith

turned_by : (o p : Owner) (s t : Segment) (c : Conflict) → IsConflict o p s t c → IsConflict p o t s c
turned_by (Node a) (Node b) s t c h = (λ e. h.0 (sym e), same_turned s.a t.a h.1, h.2 ∙ (λ i. record { kind = Coincident; pair = pair_turned a b i }))
turned_by (Node a) (Edge b ends) s t c h = h
turned_by (Edge a ends) (Node b) s t c h = h
turned_by (Edge a ends) (Edge b others) s t c h =
    (λ e. h.0 (sym e), (h.1.0, (h.1.1.1, h.1.1.0, λ both. h.1.1.2 (both.1, both.0))), h.2 ∙ (λ i. record { kind = Crossing; pair = pair_turned a b i }))

pub turned : (one other : Piece) (c : Conflict) → Conflicts one other c → Conflicts other one c
turned one other c h = turned_by one.owner other.owner (way_of one) (way_of other) c h

-- ---- a piece and those behind it
pub order_drop : (k : ℕ) (ps : List Piece) → AreInOrder ps → AreInOrder (drop k ps)
order_drop zero ps h = h
order_drop (suc k) [] h = h
order_drop (suc k) (p ∷ ps) h = order_drop k ps h.1

-- what the rest gives, with what was found so far, the whole gives
abbrev pub StillFound : Piece → List Piece → List Piece → List Conflict → Type 0
StillFound one rest whole found = (later : List Conflict) → AreAmong found later → AreFoundOf one rest later → AreFoundOf one whole later

pub one_more : (one x : Piece) (rest whole T : List Piece) (found new : List Conflict) → T ≡ x ∷ rest → StillFound one T whole found → AreAmong found new
    → ((c : Conflict) → Conflicts one x c → Contains new c) → StillFound one rest whole new
one_more one x rest whole T found new e before kept here later among behind =
    before later (λ c h. among c (kept c h)) (subst (λ ps. AreFoundOf one ps later) (sym e) of_all)
  where
    of_all : AreFoundOf one (x ∷ rest) later
    of_all other c in_all h =
        ⊎_elim
        (λ (same : x ≡ other). among c (here c (subst (λ y. Conflicts one y c) (sym same) h)))
        (λ (there : Contains rest other). behind other c there h)
        (contains_cases other x rest in_all)

pub all_met : (one : Piece) (whole T : List Piece) (found : List Conflict) → T ≡ [] → StillFound one T whole found → AreFoundOf one whole found
all_met one whole T found e before =
    before found (λ c h. h) (subst (λ ps. AreFoundOf one ps found) (sym e) (λ other c in_none h. absurd (contains_none other in_none)))

pub rest_beyond : (one x : Piece) (rest whole T : List Piece) (found : List Conflict) → T ≡ x ∷ rest → AreInOrder T → right_of one <ℤ left_of x
    → StillFound one T whole found → AreFoundOf one whole found
rest_beyond one x rest whole T found e order beyond before =
    before found (λ c h. h) (subst (λ ps. AreFoundOf one ps found) (sym e) (λ other c in_rest h. absurd (far other in_rest (reach one other c h).across)))
  where
    order_here : AreInOrder (x ∷ rest)
    order_here = subst AreInOrder e order

    past : (u v w : ℤ) → u <ℤ v → v ≤ℤ w → w ≤ℤ u → ⊥
    past u v w h k l = omega (arith, signed)

    far : (other : Piece) → Contains (x ∷ rest) other → left_of other ≤ℤ right_of one → ⊥
    far other in_rest near =
        ⊎_elim
        (λ (same : x ≡ other). past (right_of one) (left_of x) (left_of other) beyond (subst (λ y. left_of x ≤ℤ left_of y) same (omega (arith, signed))) near)
        (λ (there : Contains rest other). past (right_of one) (left_of x) (left_of other) beyond (order_here.0 other there) near)
        (contains_cases other x rest in_rest)

pub only_more : (one x : Piece) (whole : List Piece) (before found new : List Conflict)
    → Contains whole x → ((c : Conflict) → Contains found c → Contains before c ⊎ IsOfOne one whole c)
    → ((c : Conflict) → Contains new c → Contains found c ⊎ Conflicts one x c) → (c : Conflict) → Contains new c → Contains before c ⊎ IsOfOne one whole c
only_more one x whole before found new in_whole so_far last c h =
    ⊎_elim (so_far c) (λ (k : Conflicts one x c). inr (x, (in_whole, k))) (last c h)

-- ---- each piece and those behind it
abbrev pub StillAllFound : List Piece → List Piece → List Conflict → Type 0
StillAllFound rest whole found = (later : List Conflict) → AreAmong found later → AreFound rest later → AreFound whole later

pub each_more : (x : Piece) (rest whole T : List Piece) (found new : List Conflict) → T ≡ x ∷ rest → StillAllFound T whole found → AreAmong found new → AreFoundOf x rest new
    → StillAllFound rest whole new
each_more x rest whole T found new e before kept here later among behind =
    before later (λ c h. among c (kept c h)) (subst (λ ps. AreFound ps later) (sym e) (λ other c in_rest h. among c (here other c in_rest h), behind))

pub each_only : (whole rest : List Piece) (x : Piece) (found new : List Conflict) → Contains whole x → ((q : Piece) → Contains rest q → Contains whole q)
    → ((c : Conflict) → Contains found c → IsOfTwo whole c) → ((c : Conflict) → Contains new c → Contains found c ⊎ IsOfOne x rest c) → (c : Conflict) → Contains new c → IsOfTwo whole c
each_only whole rest x found new there in_whole so_far last c h =
    ⊎_elim (so_far c) (λ (k : IsOfOne x rest c). (x, (there, (k.0, (in_whole k.0 k.1.0, k.1.1))))) (last c h)

pub each_met : (whole T : List Piece) (found : List Conflict) → T ≡ [] → StillAllFound T whole found → AreFound whole found
each_met whole T found e before = before found (λ c h. h) (subst (λ ps. AreFound ps found) (sym e) tt)

pub found_of : (ps : List Piece) (found : List Conflict) (one other : Piece) (c : Conflict) → AreFound ps found → Contains ps one → Contains ps other → one ≢ other
    → Conflicts one other c → Contains found c
found_of [] found one other c all in_one in_other apart h = absurd (contains_none one in_one)
found_of (p ∷ ps) found one other c all in_one in_other apart h =
    ⊎_elim
    (λ (e : p ≡ one).
    ⊎_elim
    (λ (f : p ≡ other). absurd (apart (sym e ∙ f)))
    (λ (there : Contains ps other). all.0 other c there (subst (λ x. Conflicts x other c) (sym e) h))
    (contains_cases other p ps in_other))
    (λ (here : Contains ps one).
    ⊎_elim
    (λ (f : p ≡ other). all.0 one c here (subst (λ x. Conflicts x one c) (sym f) (turned one other c h)))
    (λ (there : Contains ps other). found_of ps found one other c all.1 here there apart h)
    (contains_cases other p ps in_other))
    (contains_cases one p ps in_one)
