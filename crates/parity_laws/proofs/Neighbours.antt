-- Two rings of one face are not linked: they have no common vertex, and no way from one to the other along steps.
use Rattle.std.proofs.Common.{◌≡◌, refl, sym, ◌∙◌, subst, Bool, true, false, List}
use Rattle.std.proofs.lemmas.Bool.{both_ways}
use Rattle.topo_base.specs.Point.{Point}
use Rattle.plane.specs.Segment.{Segment}
use Rattle.plane.specs.Parity.{xor}
use Rattle.plane.specs.Crossings.{back}
use Rattle.parity_laws.specs.Steps.{Each, left}
use Rattle.parity_laws.specs.Walks.{NoHigher}
use Rattle.parity_laws.specs.Rings.{In, Plain, those, First, Drawn, Ringwise, Sided, OneRing}
use Rattle.parity_laws.proofs.Walking.{nothing_above}
use Rattle.parity_laws.proofs.Ringwise.{in_each, each_in}
use Rattle.parity_laws.proofs.Star.{star, those_in, in_those, those_within}
use Rattle.parity_laws.proofs.Shells.{World, inside_out, io_next, io_back, io_star, first_left}
use Rattle.parity_laws.proofs.Climbing.{first_at}
use Rattle.parity_laws.proofs.Splitting.{world, Top, highest}

-- a and b are joined by steps: whatever goes round corners and over to the other side is one on both
abbrev pub Linked : List Segment → Segment → Segment → Type 0
Linked T a b = (E : Segment → Bool) → Ringwise T E → ((d : Segment) → In d T → E (back d) ≡ E d) → E a ≡ E b

pub linked_onward : (T : List Segment) (a b c : Segment) → Linked T a b → Linked T b c → Linked T a c
linked_onward T a b c f g E h over = f E h over ∙ g E h over

pub linked_turned : (T : List Segment) (a b : Segment) → Linked T a b → Linked T b a
linked_turned T a b f E h over = sym (f E h over)

-- two steps with one start
pub vertex_linked : (T : List Segment) (a b : Segment) → Plain T → In a T → In b T → a.a ≡ b.a → Linked T a b
vertex_linked T a b plain i j e E h over =
    let k = first_at T a i in
    star T E k.0 plain k.1.0 h over a i k.1.1 ∙ sym (star T E k.0 plain k.1.0 h over b j (sym e ∙ k.1.1))

-- two steps of one ring
pub ring_linked : (T : List Segment) (p : Segment → Bool) (a b : Segment) → OneRing T p → In a T → In b T → p a ≡ true → p b ≡ true → Linked T a b
ring_linked T p a b op i j pa pb E h over = op E h a b i j pa pb

-- the two directions of an edge
pub edge_linked : (T : List Segment) (d : Segment) → In d T → Linked T d (back d)
edge_linked T d i E h over = sym (over d i)

one_value : (T : List Segment) (p : Segment → Bool) → World T p → Ringwise T (inside_out T p)
one_value T p w d n i j next = io_next T p w d n i j next

linked_value : (T : List Segment) (p : Segment → Bool) (a b : Segment) → World T p → Linked T a b → inside_out T p a ≡ inside_out T p b
linked_value T p a b w link = link (inside_out T p) (one_value T p w) (λ d i. io_back T p w d i)

of_hole : (T : List Segment) (p : Segment → Bool) (a : Segment) → left (those p T) a ≡ false → p a ≡ true → inside_out T p a ≡ true
of_hole T p a e f = sum_of (left (those p T) a) (p a) e f
  where
    sum_of : (l q : Bool) → l ≡ false → q ≡ true → xor l q ≡ true
    sum_of l q e f = rw (e, f)

-- where nothing of p is above n and the value is that of a hole of p, n is in p
in_hole : (T : List Segment) (p : Segment → Bool) (n : Segment) → World T p → First T n → Each (NoHigher n.a) (those p T) → inside_out T p n ≡ true → p n ≡ true
in_hole T p n w first top e =
    last (left (those p T) n) (p n) (first_left T (those p T) n w.plain (those_within p T) first ∙ nothing_above (those p T) n.a top) e
  where
    last : (l q : Bool) → l ≡ false → xor l q ≡ true → q ≡ true
    last true q e f = cc
    last false q e f = f

narrower : (T : List Segment) (p h : Segment → Bool) (v : Point) → ((s : Segment) → In s T → p s ≡ true → h s ≡ true) → Each (NoHigher v) (those h T) → Each (NoHigher v) (those p T)
narrower T p h v part top =
    in_each (NoHigher v) (those p T) (λ s i. let m = those_in p T s i in each_in (NoHigher v) (those h T) top s (in_those h T s m.0 (part s m.0 m.1)))

-- two holes are not linked
pub no_linked_holes : (T : List Segment) (p q : Segment → Bool) (a b : Segment) → Drawn T → Ringwise T p → Ringwise T q → OneRing T p → OneRing T q →
    ((s : Segment) → In s T → p s ≡ true → q s ≡ false) → In a T → In b T → p a ≡ true → q b ≡ true → Linked T a b →
    left (those p T) a ≡ false → left (those q T) b ≡ false → ⊥
no_linked_holes T p q a b drawn hp hq op oq apart i j pa qb link la lb = by_top (highest T both a drawn joined_rings i (here (p a) (q a) pa (apart a i pa)))
  where
    both : Segment → Bool
    both s = xor (p s) (q s)

    wp : World T p
    wp = world T p drawn hp

    wq : World T q
    wq = world T q drawn hq

    joined_rings : Ringwise T both
    joined_rings d n k l next = cc (hp d n k l next, hq d n k l next)

    here : (x y : Bool) → x ≡ true → y ≡ false → xor x y ≡ true
    here x y f g = rw (f, g)

    part_q : (x y : Bool) → (x ≡ true → y ≡ false) → y ≡ true → xor x y ≡ true
    part_q true y f g = let k = f refl in cc
    part_q false y f g = g

    ep : inside_out T p a ≡ true
    ep = of_hole T p a la pa

    eq : inside_out T q b ≡ true
    eq = of_hole T q b lb qb

    on : (s : Segment) → In s T → both s ≡ true → (inside_out T p s ≡ true) × (inside_out T q s ≡ true)
    on s k f = by_value (p s) refl
      where
        in_p : p s ≡ true → (inside_out T p s ≡ true) × (inside_out T q s ≡ true)
        in_p g = (op (inside_out T p) (one_value T p wp) s a k i g pa ∙ ep, op (inside_out T q) (one_value T q wq) s a k i g pa ∙ linked_value T q a b wq link ∙ eq)

        in_q : q s ≡ true → (inside_out T p s ≡ true) × (inside_out T q s ≡ true)
        in_q g = (oq (inside_out T p) (one_value T p wp) s b k j g qb ∙ sym (linked_value T p a b wp link) ∙ ep, oq (inside_out T q) (one_value T q wq) s b k j g qb ∙ eq)

        by_value : (x : Bool) → p s ≡ x → (inside_out T p s ≡ true) × (inside_out T q s ≡ true)
        by_value true g = in_p g
        by_value false g = in_q (subst (λ z. xor z (q s) ≡ true) g f)

    by_top : Top T both → ⊥
    by_top t =
        let v = on t.r t.there t.mine in
        let np = in_hole T p t.n wp t.first (narrower T p both t.n.a (λ s k f. here (p s) (q s) f (apart s k f)) t.top) (sym (io_star T p wp t.n t.r t.first t.there t.start) ∙ v.0) in
        let nq = in_hole T q t.n wq t.first (narrower T q both t.n.a (λ s k f. part_q (p s) (q s) (λ g. apart s k g) f) t.top) (sym (io_star T q wq t.n t.r t.first t.there t.start) ∙ v.1) in
        both_ways (q t.n) (apart t.n t.first.there np) nq

-- nor a hole of a face and the ring at the highest vertex of that face
pub no_hole_linked_to_shell : (T : List Segment) (face p q : Segment → Bool) (a b : Segment) → Drawn T → Ringwise T face → Ringwise T p → OneRing T q → Sided T face →
    ((s : Segment) → In s T → p s ≡ true → face s ≡ true) → (t : Top T face) → q t.r ≡ true → In a T → In b T → p a ≡ true → q b ≡ true → Linked T a b →
    left (those p T) a ≡ false → ⊥
no_hole_linked_to_shell T face p q a b drawn hf hp oq sided part t qt i j pa qb link la =
    let wp = world T p drawn hp in
    let wf = world T face drawn hf in
    let v = io_star T p wp t.n t.r t.first t.there t.start in
    let value : inside_out T p t.n ≡ true = sym v ∙ oq (inside_out T p) (one_value T p wp) t.r b t.there j qt qb ∙ sym (linked_value T p a b wp link) ∙ of_hole T p a la pa in
    let n_in = in_hole T p t.n wp t.first (narrower T p face t.n.a part t.top) value in
    let n_out : face t.n ≡ false = sym (sided t.n t.first.there) ∙ first_left T (those face T) t.n drawn.plain (those_within face T) t.first ∙ nothing_above (those face T) t.n.a t.top in
    both_ways (face t.n) n_out (part t.n t.first.there n_in)

-- a vertex is not on two holes
pub no_two_holes : (T : List Segment) (p q : Segment → Bool) (a b : Segment) → Drawn T → Ringwise T p → Ringwise T q → OneRing T p → OneRing T q →
    ((s : Segment) → In s T → p s ≡ true → q s ≡ false) → In a T → In b T → p a ≡ true → q b ≡ true → a.a ≡ b.a →
    left (those p T) a ≡ false → left (those q T) b ≡ false → ⊥
no_two_holes T p q a b drawn hp hq op oq apart i j pa qb e la lb =
    no_linked_holes T p q a b drawn hp hq op oq apart i j pa qb (vertex_linked T a b drawn.plain i j e) la lb
