-- The least edge on which a point lies is found by seeing one segment after another.
use Rattle.std.proofs.Common.{◌≡◌, ℕ, ◌≤◌, refl, sym, ap, subst, arith, ⊎_elim, Bool, true, false, IsTrue, List, [], ◌∷◌, ◌++◌, append_assoc, Option, Some, None}
use Rattle.std.specs.Prelude.{fold, nat_lt, Contains, if◌then◌else◌}
use Rattle.std.proofs.lemmas.Bool.{and_parts}
use Rattle.std.proofs.lemmas.List.{append-nil}
use Rattle.std.proofs.lemmas.List.Elements.{Contains-append_left, Contains-push, Contains-push_cases}
use Rattle.topo_base.specs.Point.{Point}
use Rattle.plane.specs.Segment.{on_segment}
use Rattle.slab_index.specs.declared.piece.Piece.{Piece}
use Rattle.slab_index.specs.Above.{segment_of}
use Rattle.slab_index.specs.On.{IsLeastOn, IsEdgeOn, is_found_less, with_less}
use Rattle.slab_index.proofs.Paths.{both_ways, second_no}

lt_less : (m n : ℕ) → nat_lt m n ≡ true → m ≤ n
lt_less m n e = grind arith

lt_more : (m n : ℕ) → nat_lt m n ≡ false → n ≤ m
lt_more m n e = grind arith

-- the new one is the least
new_least : (p : Point) (done : List Piece) (x : Piece) → on_segment p (segment_of x) ≡ true → ((f : Piece) → Contains done f → IsTrue (on_segment p (segment_of f)) → x.edge ≤ f.edge) → IsLeastOn p (done ++ x ∷ []) x.edge
new_least p done x e before = record {
  one = x;
  kept = Contains-push done x;
  own = refl;
  on = e;
  least = λ f c on.
      ⊎_elim
      (λ (k : Contains done f). before f k on)
      (λ (k : x ≡ f). (let i = ap (λ (z : Piece). z.edge) k in omega arith))
      (Contains-push_cases done x f c);
}

one_more : (p : Point) (done : List Piece) (x : Piece) (o : Option ℕ) (found : Bool) → is_found_less p o x ≡ found → IsEdgeOn p done o → IsEdgeOn p (done ++ x ∷ []) (if found then Some x.edge else o)
one_more p done x None true e h = new_least p done x e (λ f c on. absurd (both_ways _ (h f c) on))
one_more p done x None false e h = λ f c.
    ⊎_elim
    (λ (k : Contains done f). h f k)
    (λ (k : x ≡ f). subst (λ g. on_segment p (segment_of g) ≡ false) k e)
    (Contains-push_cases done x f c)
one_more p done x (Some n) true e h =
    let i = and_parts (on_segment p (segment_of x)) (nat_lt x.edge n) e in
    let l = lt_less x.edge n i.1 in
    new_least p done x i.0 (λ f c on. let k = h.least f c on in omega arith)
one_more p done x (Some n) false e h = record {
  one = h.one;
  kept = Contains-append_left done (x ∷ []) h.one h.kept;
  own = h.own;
  on = h.on;
  least = λ f c on.
      ⊎_elim
      (λ (k : Contains done f). h.least f k on)
      (λ (k : x ≡ f). not_found f k on)
      (Contains-push_cases done x f c);
}
  where
    not_found : (f : Piece) → x ≡ f → IsTrue (on_segment p (segment_of f)) → n ≤ f.edge
    not_found f k on = lt_more f.edge n (second_no (on_segment p (segment_of f)) (nat_lt f.edge n) on (subst (λ z. is_found_less p (Some n) z ≡ false) k e))

pub all_found : (p : Point) (rest done : List Piece) (o : Option ℕ) → IsEdgeOn p done o → IsEdgeOn p (done ++ rest) (fold (with_less p) o rest)
all_found p [] done o h = subst (λ l. IsEdgeOn p l o) (sym (append-nil done)) h
all_found p (x ∷ xs) done o h =
    subst (λ l. IsEdgeOn p l (fold (with_less p) (with_less p o x) xs)) (append_assoc done (x ∷ []) xs)
    (all_found p xs (done ++ x ∷ []) (with_less p o x) (one_more p done x o (is_found_less p o x) refl h))
