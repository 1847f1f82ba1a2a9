-- Lines of two vertices or more: lists of edges, and parts of lines.
use Rattle.std.proofs.Common.{◌≡◌, ℕ, ◌≤◌, refl, sym, ◌∙◌, subst, arith, ⊎_elim, Bool, true, false, cond, not, ◌||◌, List, [], ◌∷◌, ◌++◌, length, map, filter}
use Rattle.std.specs.Prelude.{◌==◌, nat_le, reverse}
use Rattle.std.specs.List.{Contains}
use Rattle.std.proofs.lemmas.Bool.{and_parts, false≢true, eqb-true, leb-true, le-leb, not-true}
use Rattle.std.proofs.lemmas.List.{length-append, length-reverse}
use Rattle.std.proofs.lemmas.List.Elements.{All-contains, Contains-append_cases, Contains-push_cases}
use Rattle.topo_base.specs.Point.{Point, same_point}
use Rattle.plane.specs.Segment.{on_segment}
use Rattle.plane.specs.Line.{first_vertex, last_vertex, on_line, is_line_end, is_inside_line, line_up_to, line_from, without_first, joined}
use Rattle.drawing.specs.Drawing.{Edge, edge_id_of}
use Rattle.drawing.specs.Rows.{with_change}
use Rattle.drawing.specs.HalfEdge.{HalfEdge, forward_of, backward_of}
use Rattle.drawing.specs.HealEdges.{away_from, joined_edge}
use Rattle.plane.proofs.ListTests.{contains_cases, contains_none, Decides-all}
use Rattle.drawing.proofs.Members.{contains-mapped, contains-filtered}
use Rattle.plane.proofs.LineTests.{all_from}
use Rattle.drawing.specs.Vertices.{have_segments}

pub record AreLong (edges : List Edge) : Type 0 where
  pub each : (e : Edge) → Contains edges e → 2 ≤ length e.geom

-- ---- lists of edges
pub push_long : (edges : List Edge) (e : Edge) → AreLong edges → 2 ≤ length e.geom → AreLong (edges ++ e ∷ [])
push_long edges e h l = record { each = λ x c. ⊎_elim (λ (d : Contains edges x). h.each x d) (λ (p : e ≡ x). subst (λ (y : Edge). 2 ≤ length y.geom) p l) (Contains-push_cases edges e x c) }

pub two_long : (edges : List Edge) (e f : Edge) → AreLong edges → 2 ≤ length e.geom → 2 ≤ length f.geom → AreLong (edges ++ e ∷ f ∷ [])
two_long edges e f h l m = record {
  each = λ x c. ⊎_elim (λ (d : Contains edges x). h.each x d)
      (λ (d : Contains (e ∷ f ∷ []) x).
      ⊎_elim (λ (p : e ≡ x). subst (λ (y : Edge). 2 ≤ length y.geom) p l)
      (λ (k : Contains (f ∷ []) x). ⊎_elim (λ (p : f ≡ x). subst (λ (y : Edge). 2 ≤ length y.geom) p m) (λ (n : Contains [] x). absurd (contains_none x n)) (contains_cases x f [] k))
      (contains_cases x e (f ∷ []) d))
      (Contains-append_cases edges (e ∷ f ∷ []) x c);
}

pub filter_long : (p : Edge → Bool) (edges : List Edge) → AreLong edges → AreLong (filter p edges)
filter_long p edges h = record { each = λ x c. h.each x (contains-filtered p x edges c).0 }

pub map_long : (f : Edge → Edge) (edges : List Edge) → ((e : Edge) → 2 ≤ length e.geom → 2 ≤ length ((f e).geom)) → AreLong edges → AreLong (map f edges)
map_long f edges keeps h = record { each = λ x c. let (e, (d, p)) = contains-mapped f x edges c in subst (λ (y : Edge). 2 ≤ length y.geom) p (keeps e (h.each e d)) }

pub change_long : (edges : List Edge) (n : ℕ) (change : Edge → Edge) → ((e : Edge) → Contains edges e → edge_id_of e ≡ n → 2 ≤ length ((change e).geom)) → AreLong edges → AreLong (with_change edge_id_of edges n change)
change_long edges n change keeps h = record {
  each = λ x c. let (e, (d, p)) = contains-mapped (λ r. cond (edge_id_of r == n) (change r) r) x edges c in
      subst (λ (y : Edge). 2 ≤ length y.geom) p (chosen e d (edge_id_of e == n) refl);
}
  where
    chosen : (e : Edge) → Contains edges e → (t : Bool) → (edge_id_of e == n) ≡ t → 2 ≤ length ((cond t (change e) e).geom)
    chosen e d true t = keeps e d (eqb-true (edge_id_of e) n t)
    chosen e d false t = h.each e d

-- ---- parts of lines
up_to_some : (p a : Point) (rest : List Point) → 1 ≤ length (line_up_to p (a ∷ rest))
up_to_some p a [] = omega arith
up_to_some p a (b ∷ rest) = by_test (on_segment p (record { a = a; b = b }))
  where
    by_test : (t : Bool) → 1 ≤ length (cond t (a ∷ p ∷ []) (a ∷ line_up_to p (b ∷ rest)))
    by_test true = omega arith
    by_test false = omega arith

pub up_to_long : (p : Point) (line : List Point) → 2 ≤ length line → 2 ≤ length (line_up_to p line)
up_to_long p [] h = absurd (omega arith)
up_to_long p (a ∷ []) h = absurd (omega arith)
up_to_long p (a ∷ b ∷ rest) h = by_test (on_segment p (record { a = a; b = b })) (up_to_some p b rest)
  where
    by_test : (t : Bool) → 1 ≤ length (line_up_to p (b ∷ rest)) → 2 ≤ length (cond t (a ∷ p ∷ []) (a ∷ line_up_to p (b ∷ rest)))
    by_test true k = omega arith
    by_test false k = omega arith

from_long : (p : Point) (line : List Point) → on_line p line ≡ true → same_point p (last_vertex line) ≡ false → 2 ≤ length (line_from p line)
from_long p [] on off = absurd (false≢true on)
from_long p (a ∷ []) on off = absurd (false≢true on)
from_long p (a ∷ b ∷ rest) on off = by_test (on_segment p (record { a = a; b = b })) on (λ on_rest. from_long p (b ∷ rest) on_rest off)
  where
    more : (rest : List Point) → same_point p b ≡ true → same_point p (last_vertex (a ∷ b ∷ rest)) ≡ false → 2 ≤ length (b ∷ rest)
    more [] same off = absurd (false≢true (sym off ∙ same))
    more (c ∷ rest) same off = omega arith

    by_end : (t : Bool) → same_point p b ≡ t → 2 ≤ length (cond t (b ∷ rest) (p ∷ b ∷ rest))
    by_end true t = more rest t off
    by_end false t = omega arith

    by_test : (t : Bool) → (t || on_line p (b ∷ rest)) ≡ true → (on_line p (b ∷ rest) ≡ true → 2 ≤ length (line_from p (b ∷ rest))) →
        2 ≤ length (cond t (cond (same_point p b) (b ∷ rest) (p ∷ b ∷ rest)) (line_from p (b ∷ rest)))
    by_test true on onward = by_end (same_point p b) refl
    by_test false on onward = onward on

pub inside_from_long : (p : Point) (line : List Point) → is_inside_line p line ≡ true → 2 ≤ length (line_from p line)
inside_from_long p line h =
    let parts = and_parts (on_line p line) (not (is_line_end p line)) h in
    from_long p line parts.0 (second_false (same_point p (first_vertex line)) (same_point p (last_vertex line)) (not-true (is_line_end p line) parts.1))
  where
    second_false : (b c : Bool) → (b || c) ≡ false → c ≡ false
    second_false true c e = absurd (false≢true (sym e))
    second_false false c e = e

joined_long : (a b : List Point) → 2 ≤ length a → 2 ≤ length (joined a b)
joined_long a b h = let e = length-append a (without_first b) in omega arith

far_long : (n : ℕ) (f : Edge) → 2 ≤ length f.geom → 2 ≤ length ((away_from n f).points)
far_long n f h = by_test (f.start_node == n)
  where
    by_test : (t : Bool) → 2 ≤ length ((cond t (forward_of f) (backward_of f)).points)
    by_test true = h
    by_test false = subst (λ k. 2 ≤ k) (sym (length-reverse f.geom)) h

pub healed_long : (n : ℕ) (e f : Edge) (id : ℕ) → 2 ≤ length e.geom → 2 ≤ length f.geom → 2 ≤ length ((joined_edge n e f id).geom)
healed_long n e f id h k = by_test (n == e.end_node)
  where
    far : HalfEdge
    far = away_from n f

    by_test : (t : Bool) → 2 ≤ length ((cond t (record e { edge_id = id; end_node = (away_from n f).to_node; geom = joined e.geom (away_from n f).points }) (record e { edge_id = id; start_node = (away_from n f).to_node; geom = joined (reverse ((away_from n f).points)) e.geom })).geom)
    by_test true = joined_long e.geom ((away_from n f).points) h
    by_test false = joined_long (reverse ((away_from n f).points)) e.geom (subst (λ m. 2 ≤ m) (sym (length-reverse ((away_from n f).points))) (far_long n f k))

-- ---- the test
pub to_long : (edges : List Edge) → have_segments edges ≡ true → AreLong edges
to_long edges h = record {
  each = λ e c.
      let test = λ (x : Edge). nat_le 2 (length x.geom) in
      let all = (Decides-all test (λ x. test x ≡ true) (λ x. (λ t. t, λ t. t)) edges).0 h in
      leb-true 2 (length e.geom) (All-contains (λ (x : Edge). test x ≡ true) edges e all c);
}

pub from_all : (edges : List Edge) → AreLong edges → have_segments edges ≡ true
from_all edges h =
    let test = λ (x : Edge). nat_le 2 (length x.geom) in
    (Decides-all test (λ x. test x ≡ true) (λ x. (λ t. t, λ t. t)) edges).1 (all_from (λ (x : Edge). test x ≡ true) edges (λ e c. le-leb 2 (length e.geom) (h.each e c)))
