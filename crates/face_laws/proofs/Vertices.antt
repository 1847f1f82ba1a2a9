-- The segments of a simple line at its inner vertices and at its ends.
use Rattle.std.proofs.Common.{◌≡◌, ℕ, zero, suc, ◌+◌, ◌-◌, ◌<◌, refl, sym, ◌∙◌, ap, subst, arith, ◌⊎◌, inl, inr, ⊎_elim, true, List, [], ◌∷◌, length, slice_get, get_or, Some}
use Rattle.std.specs.Prelude.{reverse}
use Rattle.std.specs.List.{list_all}
use Rattle.std.proofs.lemmas.Bool.{cases_order}
use Rattle.std.proofs.lemmas.Option.{slice_get_within, slice_get-get_or}
use Rattle.topo_base.specs.Point.{Point}
use Rattle.topo_base.specs.RationalPoint.{rational, IsAt}
use Rattle.plane.specs.Direction.{first_direction}
use Rattle.plane.specs.Line.{segments_of, first_vertex, last_vertex, is_proper}
use Rattle.plane.specs.SimpleLine.{IsSimpleLine}
use Rattle.plane.specs.RationalTests.{IsOn}
use Rattle.plane.specs.Segment.{Segment}
use Rattle.plane.proofs.Collinear.{at_point}
use Rattle.plane.specs.Crossings.{back}
use Rattle.plane.proofs.LineCuts.{last_ends, place_front}
use Rattle.plane.proofs.ListTests.{some_same}
use Rattle.plane.proofs.SimpleTests.{before_it, first_begins, no_element}
use Rattle.parity_laws.specs.Steps.{direction}
use Rattle.parity_laws.proofs.Across.{start_on, end_on}
use Rattle.face_laws.proofs.LineSteps.{proper_at, segments-reverse}
use Rattle.face_laws.proofs.Tying.{one_end}
use Rattle.parity_laws.specs.Coming.{walked_back}

-- a line that is simple and proper
pub record IsWellMade (l : List Point) : Type 0 where
  pub proper : list_all is_proper (segments_of l) ≡ true
  pub simple : IsSimpleLine (segments_of l)

-- t follows s on the line
pub record Follows (l : List Point) (k : ℕ) (s t : Segment) : Type 0 where
  pub first : slice_get (segments_of l) k ≡ Some s
  pub second : slice_get (segments_of l) (suc k) ≡ Some t

pub follows_meet : (l : List Point) (k : ℕ) (s t : Segment) → Follows l k s t → t.a ≡ s.b
follows_meet l k s t h =
    let b = before_it l k t h.second in
    sym (ap (λ (r : Segment). r.b) (some_same s b.0 (sym h.first ∙ b.1.0)) ∙ b.1.1)

is_same : (p r : Point) → IsAt p (rational r) → p ≡ r
is_same p r h = one_end (rational r) p r h (at_point r)

-- the vertex between two segments is on no others
pub between_only : (l : List Point) (k j : ℕ) (s t r : Segment) → IsWellMade l → Follows l k s t → slice_get (segments_of l) j ≡ Some r → IsOn (rational s.b) r → (j ≡ k) ⊎ (j ≡ suc k)
between_only l k j s t r made two e on =
    ⊎_elim
    (λ (same : j ≡ k). inl same)
    (⊎_elim
    (λ (h : j < k). absurd (too_low h))
    (λ (h : k < j).
    ⊎_elim
    (λ (same : j ≡ suc k). inr same)
    (⊎_elim
    (λ (g : j < suc k). absurd (omega arith))
    (λ (g : suc k < j). absurd (too_high g)))
    (cases_order j (suc k))))
    (cases_order j k)
  where
    within : suc k < length (segments_of l)
    within = slice_get_within (segments_of l) (suc k) t two.second

    too_low : j < k → ⊥
    too_low h =
        ⊎_elim
        (λ (g : (k ≡ j + 1) × IsAt r.b (rational s.b)).
        let next : k ≡ suc j = omega (arith, g.0) in
        let b = before_it l j s (subst (λ n. slice_get (segments_of l) n ≡ Some s) next two.first) in
        let same : r ≡ b.0 = some_same r b.0 (sym e ∙ b.1.0) in
        proper_at l k s made.proper two.first (sym b.1.1 ∙ ap (λ (z : Segment). z.b) (sym same) ∙ is_same r.b s.b g.1))
        (λ (g : (j ≡ 0) × (k + 1 ≡ length (segments_of l)) × IsAt r.a (rational s.b) × IsAt s.b (rational s.b)). let w = within in let m = g.1 in omega arith)
        (made.simple j k r s (rational s.b) h e two.first on (end_on s))

    too_high : suc k < j → ⊥
    too_high h =
        ⊎_elim
        (λ (g : (j ≡ suc k + 1) × IsAt t.b (rational s.b)). proper_at l (suc k) t made.proper two.second (follows_meet l k s t two ∙ sym (is_same t.b s.b g.1)))
        (λ (g : (suc k ≡ 0) × (j + 1 ≡ length (segments_of l)) × IsAt t.a (rational s.b) × IsAt r.b (rational s.b)). let m = g.0 in omega arith)
        (made.simple (suc k) j t r (rational s.b) h two.second e (subst (λ (p : Point). IsOn (rational p) t) (follows_meet l k s t two) (start_on t)) on)

-- nor is it the first vertex or the last
pub between_no_end : (l : List Point) (k : ℕ) (s t : Segment) → IsWellMade l → Follows l k s t → (s.b ≡ first_vertex l) ⊎ (s.b ≡ last_vertex l) → ⊥
between_no_end l k s t made two ends =
    ⊎_elim
    (λ (e : s.b ≡ first_vertex l).
    let f = slice_get-get_or (segments_of l) 0 s (omega (arith, within)) in
    let r = get_or (segments_of l) 0 s in
    let at : s.b ≡ r.a = e ∙ first_begins l r f in
    at_first r f at (between_only l k 0 s t r made two f (subst (λ (p : Point). IsOn (rational p) r) (sym at) (start_on r))))
    (λ (e : s.b ≡ last_vertex l).
    let m = length (segments_of l) - 1 in
    let f = slice_get-get_or (segments_of l) m s (omega (arith, within)) in
    let r = get_or (segments_of l) m s in
    let at : s.b ≡ r.b = e ∙ last_ends l m r f (omega (arith, within)) in
    at_last m r (omega (arith, within)) f at (between_only l k m s t r made two f (subst (λ (p : Point). IsOn (rational p) r) (sym at) (end_on r))))
    ends
  where
    within : suc k < length (segments_of l)
    within = slice_get_within (segments_of l) (suc k) t two.second

    at_first : (r : Segment) → slice_get (segments_of l) 0 ≡ Some r → s.b ≡ r.a → (0 ≡ k) ⊎ (0 ≡ suc k) → ⊥
    at_first r f at =
        ⊎_elim
        (λ (same : 0 ≡ k).
        let one : s ≡ r = some_same s r (sym two.first ∙ subst (λ n. slice_get (segments_of l) n ≡ Some r) same f) in
        proper_at l k s made.proper two.first (ap (λ (z : Segment). z.a) one ∙ sym at))
        (λ (same : 0 ≡ suc k). omega arith)

    at_last : (m : ℕ) (r : Segment) → m + 1 ≡ length (segments_of l) → slice_get (segments_of l) m ≡ Some r → s.b ≡ r.b → (m ≡ k) ⊎ (m ≡ suc k) → ⊥
    at_last m r last f at =
        ⊎_elim
        (λ (same : m ≡ k). let w = within in omega arith)
        (λ (same : m ≡ suc k).
        let one : t ≡ r = some_same t r (sym two.second ∙ subst (λ n. slice_get (segments_of l) n ≡ Some r) same f) in
        proper_at l (suc k) t made.proper two.second (follows_meet l k s t two ∙ at ∙ ap (λ (z : Segment). z.b) (sym one)))

-- the segment that begins at an end of the line is the first
pub begins_at_end : (l : List Point) (j : ℕ) (r : Segment) → IsWellMade l → slice_get (segments_of l) j ≡ Some r → (r.a ≡ first_vertex l) ⊎ (r.a ≡ last_vertex l) → j ≡ 0
begins_at_end l zero r made e ends = refl
begins_at_end l (suc j) r made e ends =
    ⊎_elim
    (λ (f : r.a ≡ first_vertex l).
    let g = slice_get-get_or (segments_of l) 0 r (omega (arith, within)) in
    absurd (at_first (get_or (segments_of l) 0 r) g (f ∙ first_begins l (get_or (segments_of l) 0 r) g)))
    (λ (f : r.a ≡ last_vertex l).
    let m = length (segments_of l) - 1 in
    let g = slice_get-get_or (segments_of l) m r (omega (arith, within)) in
    at_last m (get_or (segments_of l) m r) (omega (arith, within)) g (f ∙ last_ends l m (get_or (segments_of l) m r) g (omega (arith, within))))
    ends
  where
    within : suc j < length (segments_of l)
    within = slice_get_within (segments_of l) (suc j) r e

    at_first : (o : Segment) → slice_get (segments_of l) 0 ≡ Some o → r.a ≡ o.a → ⊥
    at_first o g at =
        ⊎_elim
        (λ (h : (suc j ≡ 0 + 1) × IsAt o.b (rational r.a)). proper_at l 0 o made.proper g (sym at ∙ sym (is_same o.b r.a h.1)))
        (λ (h : (0 ≡ 0) × (suc j + 1 ≡ length (segments_of l)) × IsAt o.a (rational r.a) × IsAt r.b (rational r.a)). proper_at l (suc j) r made.proper e (sym (is_same r.b r.a h.3)))
        (made.simple 0 (suc j) o r (rational r.a) (omega arith) g e (subst (λ (p : Point). IsOn (rational p) o) (sym at) (start_on o)) (start_on r))

    at_last : (m : ℕ) (o : Segment) → m + 1 ≡ length (segments_of l) → slice_get (segments_of l) m ≡ Some o → r.a ≡ o.b → suc j ≡ 0
    at_last m o last g at =
        ⊎_elim
        (λ (same : suc j ≡ m).
        let one : r ≡ o = some_same r o (sym e ∙ subst (λ n. slice_get (segments_of l) n ≡ Some o) (sym same) g) in
        absurd (proper_at l (suc j) r made.proper e (at ∙ ap (λ (z : Segment). z.b) (sym one))))
        (⊎_elim
        (λ (below : suc j < m).
        ⊎_elim
        (λ (h : (m ≡ suc j + 1) × IsAt r.b (rational r.a)). absurd (proper_at l (suc j) r made.proper e (sym (is_same r.b r.a h.1))))
        (λ (h : (suc j ≡ 0) × (m + 1 ≡ length (segments_of l)) × IsAt r.a (rational r.a) × IsAt o.b (rational r.a)). h.0)
        (made.simple (suc j) m r o (rational r.a) below e g (start_on r) (subst (λ (p : Point). IsOn (rational p) o) (sym at) (end_on o))))
        (λ (above : m < suc j). let w = within in absurd (omega arith)))
        (cases_order (suc j) m)

-- ---- directions at the ends
pub first_way : (l : List Point) (n : Segment) → slice_get (segments_of l) 0 ≡ Some n → direction n ≡ first_direction l
first_way [] n e = absurd (no_element n e)
first_way (a ∷ []) n e = absurd (no_element n e)
first_way (a ∷ b ∷ l) n e = ap direction (sym (some_same (record { a = a; b = b }) n e))

walked_last : (ss : List Segment) (k : ℕ) (d : Segment) → slice_get ss k ≡ Some d → k + 1 ≡ length ss → slice_get (walked_back ss) 0 ≡ Some (back d)
walked_last [] k d e last = absurd (no_element d e)
walked_last (s ∷ []) zero d e last = ap (λ (r : Segment). Some (back r)) (some_same s d e)
walked_last (s ∷ t ∷ ss) zero d e last = absurd (omega arith)
walked_last (s ∷ ss) (suc k) d e last = place_front (walked_back ss) (back s ∷ []) 0 (back d) (walked_last ss k d e (omega (arith, last)))

pub last_way : (l : List Point) (k : ℕ) (d : Segment) → slice_get (segments_of l) k ≡ Some d → k + 1 ≡ length (segments_of l) → direction (back d) ≡ first_direction (reverse l)
last_way l k d e last = first_way (reverse l) (back d) (ap (λ ss. slice_get ss 0) (segments-reverse l) ∙ walked_last (segments_of l) k d e last)
