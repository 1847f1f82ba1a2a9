-- A line taken from the middle of a drawing's steps.
use Rattle.std.proofs.Common.{◌≡◌, sym, ◌∙◌, ap, ◌⊎◌, ⊎_elim, Bool, List, [], ◌∷◌, ◌++◌}
use Rattle.plane.specs.Segment.{Segment}
use Rattle.plane.specs.Parity.{xor}
use Rattle.plane.specs.Crossings.{back}
use Rattle.parity_laws.specs.Steps.{odd}
use Rattle.parity_laws.specs.Ways.{Tied}
use Rattle.parity_laws.specs.Rings.{In, Within, Once, Drawn, those}
use Rattle.parity_laws.proofs.Sums.{odd_append, summing}
use Rattle.parity_laws.proofs.Lists.{in_left, in_right, those_append, in_cases, once_append}
use Rattle.parity_laws.proofs.Ringwise.{each_within}
use Rattle.parity_laws.proofs.Rearranging.{Rearranged}
use Rattle.parity_laws.specs.Coming.{both_ways_of, Strung}
use Rattle.parity_laws.proofs.OnLine.{once_apart, once_right, way_turned}
use Rattle.parity_laws.proofs.LineGoes.{LineGoes, line_goes}

-- ---- lists without repeats
once_left : (X Y : List Segment) → Once (X ++ Y) → Once X
once_left [] Y once = tt
once_left (t ∷ X) Y once = (λ i. once.0 (in_left t X Y i), once_left X Y once.1)

-- ---- the middle of a list moved to its end
moved_there : (A W B : List Segment) → Within (A ++ (W ++ B)) ((A ++ B) ++ W)
moved_there A W B s i =
    ⊎_elim
    (λ (j : In s A). in_left s (A ++ B) W (in_left s A B j))
    (λ (j : In s (W ++ B)). ⊎_elim (λ (k : In s W). in_right s (A ++ B) W k) (λ (k : In s B). in_left s (A ++ B) W (in_right s A B k)) (in_cases s W B j))
    (in_cases s A (W ++ B) i)

rest_there : (A W B : List Segment) → Within (A ++ B) (A ++ (W ++ B))
rest_there A W B s i = ⊎_elim (λ (j : In s A). in_left s A (W ++ B) j) (λ (j : In s B). in_right s A (W ++ B) (in_right s W B j)) (in_cases s A B i)

moved_back : (A W B : List Segment) → Within ((A ++ B) ++ W) (A ++ (W ++ B))
moved_back A W B s i =
    ⊎_elim
    (λ (j : In s (A ++ B)). rest_there A W B s j)
    (λ (j : In s W). in_right s A (W ++ B) (in_left s W B j))
    (in_cases s (A ++ B) W i)

pub moved_steps : (A W B : List Segment) → Rearranged (A ++ (W ++ B)) ((A ++ B) ++ W)
moved_steps A W B = record { there = moved_there A W B; back = moved_back A W B; sums = sums }
  where
    three : (label g : Segment → Bool) (X Y : List Segment) → odd g (those label (X ++ Y)) ≡ xor (odd g (those label X)) (odd g (those label Y))
    three label g X Y = ap (odd g) (those_append label X Y) ∙ odd_append g (those label X) (those label Y)

    order : (a w b x y u v : Bool) → x ≡ xor a u → u ≡ xor w b → y ≡ xor v w → v ≡ xor a b → x ≡ y
    order a w b x y u v e f g h = e ∙ ap (xor a) f ∙ plain a w b ∙ ap (λ z. xor z w) (sym h) ∙ sym g
      where
        plain : (a w b : Bool) → xor a (xor w b) ≡ xor (xor a b) w
        plain a w b = simp summing

    sums : (label g : Segment → Bool) → odd g (those label (A ++ (W ++ B))) ≡ odd g (those label ((A ++ B) ++ W))
    sums label g =
        order (odd g (those label A)) (odd g (those label W)) (odd g (those label B)) (odd g (those label (A ++ (W ++ B)))) (odd g (those label ((A ++ B) ++ W))) (odd g (those label (W ++ B))) (odd g (those label (A ++ B)))
        (three label g A (W ++ B)) (three label g W B) (three label g (A ++ B) W) (three label g A B)

pub moved_once : (A W B : List Segment) → Once (A ++ (W ++ B)) → Once ((A ++ B) ++ W)
moved_once A W B once =
    once_append (A ++ B) W
    (once_append A B (once_left A (W ++ B) once) (once_right W B (once_right A (W ++ B) once)) (λ s i j. once_apart A (W ++ B) once s i (in_right s W B j)))
    (once_left W B (once_right A (W ++ B) once))
    (λ s i j. apart s (in_cases s A B i) j)
  where
    apart : (s : Segment) → In s A ⊎ In s B → In s W → ⊥
    apart s i j =
        ⊎_elim
        (λ (k : In s A). once_apart A (W ++ B) once s k (in_left s W B j))
        (λ (k : In s B). once_apart W B (once_right A (W ++ B) once) s j k)
        i

-- ---- the line in the middle
-- what is left is a drawing's steps
pub drawn_without : (A L B : List Segment) → Drawn (A ++ (both_ways_of L ++ B)) → Drawn (A ++ B)
drawn_without A L B drawn = record {
  plain = record {
    proper = λ s i. drawn.plain.proper s (there s i);
    tied = λ s i. each_within (Tied s) (A ++ B) (A ++ (both_ways_of L ++ B)) there (drawn.plain.tied s (there s i));
    both = λ s i. turned s i (in_cases (back s) (A ++ B) (both_ways_of L) (moved_there A (both_ways_of L) B (back s) (drawn.plain.both s (there s i))));
  };
  once = once_left (A ++ B) (both_ways_of L) once;
}
  where
    there : Within (A ++ B) (A ++ (both_ways_of L ++ B))
    there = rest_there A (both_ways_of L) B

    once : Once ((A ++ B) ++ both_ways_of L)
    once = moved_once A (both_ways_of L) B drawn.once

    turned : (s : Segment) → In s (A ++ B) → In (back s) (A ++ B) ⊎ In (back s) (both_ways_of L) → In (back s) (A ++ B)
    turned s i h = ⊎_elim (λ (j : In (back s) (A ++ B)). j) (λ (j : In (back s) (both_ways_of L)). absurd (once_apart (A ++ B) (both_ways_of L) once s i (way_turned L (back s) j))) h

pub line_taken : (A : List Segment) (first : Segment) (rest : List Segment) (last : Segment) (B : List Segment) → Drawn (A ++ (both_ways_of (first ∷ rest) ++ B)) → Strung (A ++ (both_ways_of (first ∷ rest) ++ B)) first rest last →
    LineGoes (A ++ (both_ways_of (first ∷ rest) ++ B)) (A ++ B) first rest last
line_taken A first rest last B drawn strung =
    line_goes (A ++ (both_ways_of (first ∷ rest) ++ B)) (A ++ B) first rest last drawn (drawn_without A (first ∷ rest) B drawn)
    (moved_once A (both_ways_of (first ∷ rest)) B drawn.once) (moved_steps A (both_ways_of (first ∷ rest)) B) strung
