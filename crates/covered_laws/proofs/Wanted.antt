-- Two drawings without segments that are subdivisions by the definition alone.
use Rattle.std.proofs.Common.{◌≡◌, ℕ, refl, sym, ◌∙◌, ap, subst, arith, ⊎_elim, true, false, ◌||◌, ◌==◌, [], ◌∷◌, eqb-true, Some, None}
use Rattle.std.specs.Prelude.{IsTrue}
use Rattle.std.specs.List.{Contains}
use Rattle.std.proofs.lemmas.Bool.{false≢true, or_cases, and_parts}
use Rattle.topo_base.specs.RationalPoint.{RationalPoint}
use Rattle.topo_base.specs.declared.rows.NodeRow.{NodeRow}
use Rattle.plane.specs.Line.{segments_of}
use Rattle.plane.specs.Segment.{Segment}
use Rattle.plane.proofs.LineCuts.{at_place}
use Rattle.plane.proofs.ListTests.{contains_cases, contains_none}
use Rattle.drawing.specs.Drawing.{Edge, has_face}
use Rattle.drawing.specs.Faced.{IsFaced, is_in}
use Rattle.drawing.specs.Plain.{IsPlain}
use Rattle.drawing.specs.Subdivision.{IsSubdivision}
use Rattle.drawing.specs.Vertices.{have_segments}
use Rattle.reference_laws.specs.Referenced.{StartsAtOne}
use Rattle.covered_laws.specs.Definition.{from_zero, one_vertex}

only_one : {A : Type 0} (x y : A) → Contains (x ∷ []) y → x ≡ y
only_one x y c = ⊎_elim (λ (e : x ≡ y). e) (λ (d : Contains [] y). absurd (contains_none y d)) (contains_cases y x [] c)

-- ---- nothing drawn
first_plain : IsPlain from_zero
first_plain = record {
  nodes_apart = refl;
  lines_fit = refl;
  lines_simple = λ e c. absurd (contains_none e c);
  edges_meet_at_nodes = λ e f q c. absurd (contains_none e c);
  nodes_off_edges = λ n e c. absurd (contains_none n c);
}

universe_alone : (f : ℕ) (q : RationalPoint) → IsTrue (is_in from_zero f q) → f ≡ 0
universe_alone f q h = ⊎_elim (λ (e : (0 == f) ≡ true). sym (eqb-true 0 f e)) (λ (e : false ≡ true). absurd (false≢true e)) (or_cases (0 == f) false (and_parts (has_face from_zero f) _ h).0)

first_faced : IsFaced from_zero
first_faced = record {
  in_some = λ q off. (0, refl);
  in_one = λ q f g off a b. universe_alone f q a ∙ sym (universe_alone g q b);
  left = λ e s m q c. absurd (contains_none e c);
  right = λ e s m q c. absurd (contains_none e c);
  isolated = λ n f c. absurd (contains_none n c);
}

pub ids_wanted : IsSubdivision from_zero × IsTrue (have_segments from_zero.edges) × (StartsAtOne from_zero.next_ids → ⊥)
ids_wanted = (
  record { ids = refl; references = refl; plain = first_plain; rings = refl; faced = first_faced; shells = refl },
  refl,
  λ starts. let one = starts.node in omega (arith, one),
)

-- ---- one line of one vertex
no_segment : (e : Edge) (s : Segment) → Contains one_vertex.edges e → Contains (segments_of e.geom) s → ⊥
no_segment e s c i = contains_none s (subst (λ d. Contains (segments_of d.geom) s) (sym (only_one _ e c)) i)

second_plain : IsPlain one_vertex
second_plain = record {
  nodes_apart = refl;
  lines_fit = refl;
  lines_simple = λ e c i j s t q before at. absurd (no_segment e s c (at_place s (segments_of e.geom) i at));
  edges_meet_at_nodes = λ e f q c d differ. absurd (differ (ap (λ (x : Edge). x.edge_id) (sym (only_one _ e c) ∙ only_one _ f d)));
  nodes_off_edges = λ n e c d (s, (i, on)). absurd (no_segment e s d i);
}

outside_alone : (f : ℕ) (q : RationalPoint) → IsTrue (is_in one_vertex f q) → f ≡ 0
outside_alone f q h =
    ⊎_elim
    (λ (e : (0 == f) ≡ true). sym (eqb-true 0 f e))
    (λ (e : (1 == f || (2 == f || false)) ≡ true).
    ⊎_elim
    (λ (g : (1 == f) ≡ true). absurd (outside 1 (eqb-true 1 f g) refl))
    (λ (g : (2 == f || false) ≡ true).
    ⊎_elim
    (λ (k : (2 == f) ≡ true). absurd (outside 2 (eqb-true 2 f k) refl))
    (λ (k : false ≡ true). absurd (false≢true k))
    (or_cases (2 == f) false g))
    (or_cases (1 == f) (2 == f || false) e))
    (or_cases (0 == f) (1 == f || (2 == f || false)) (and_parts (has_face one_vertex f) _ h).0)
  where
    outside : (k : ℕ) → k ≡ f → is_in one_vertex k q ≡ false → ⊥
    outside k e none = false≢true (sym none ∙ subst (λ g. is_in one_vertex g q ≡ true) (sym e) h)

second_faced : IsFaced one_vertex
second_faced = record {
  in_some = λ q off. (0, refl);
  in_one = λ q f g off a b. outside_alone f q a ∙ sym (outside_alone g q b);
  left = λ e s m q c i. absurd (no_segment e s c i);
  right = λ e s m q c i. absurd (no_segment e s c i);
  isolated = λ n f c e. absurd (never (ap (λ (x : NodeRow). x.containing_face) (only_one _ n c) ∙ e));
}
  where
    never : {f : ℕ} → None ≡ Some f → ⊥
    never e = cc

pub lines_wanted : IsSubdivision one_vertex × StartsAtOne one_vertex.next_ids × (IsTrue (have_segments one_vertex.edges) → ⊥)
lines_wanted = (
  record { ids = refl; references = refl; plain = second_plain; rings = refl; faced = second_faced; shells = refl },
  record { node = omega arith; edge = omega arith; layer = omega arith; feature = omega arith },
  λ long. false≢true long,
)
