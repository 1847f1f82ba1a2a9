-- The parity over a point is the same where a line is cut in two.
use Rattle.std.proofs.Common.{◌≡◌, ◌≢◌, ◌∙◌, ℕ, refl, sym, ap, ℤ, pos, ◌*ℤ◌, ◌<ℤ◌, inl, inr, ⊎_elim, Bool, true, false, cond, not, ◌==◌, eq-eqb, List, [], ◌∷◌, ◌++◌, filter}
use Rattle.std.specs.Prelude.{flat_map}
use Rattle.std.specs.List.{Contains}
use Rattle.std.proofs.lemmas.Bool.{ne_eqb}
use Rattle.std.proofs.Math.IntN.{*ℤ-zero}
use Rattle.topo_base.specs.Point.{Point}
use Rattle.topo_base.specs.RationalPoint.{RationalPoint, rational, IsBetween}
use Rattle.drawing.specs.Drawing.{Edge, edge_id_of}
use Rattle.plane.specs.Parity.{xor}
use Rattle.drawing.specs.Faces.{is_border}
use Rattle.plane.specs.Line.{segments_of, line_from, line_up_to}
use Rattle.plane.specs.RationalTests.{IsOn, is_over_at, is_odd_over_at}
use Rattle.plane.specs.Relation.{SameCoordinates}
use Rattle.drawing.specs.Rows.{with_change, without_row}
use Rattle.plane.specs.Segment.{Segment}
use Rattle.drawing.specs.SplitEdge.{first_part, second_part}
use Rattle.plane.specs.Crossings.{crosses_at, larger, larger_segment}
use Rattle.plane.proofs.LineParts.{Cut}
use Rattle.plane.proofs.ListTests.{contains_cases, contains_here, contains_none, contains_there}
use Rattle.drawing.proofs.Members.{Pairwise}
use Rattle.plane.proofs.ParityStaying.{over_is}
use Rattle.drawing.proofs.PlainSplits.{EdgeIdsDiffer, one_point}
use Rattle.plane.proofs.Points.{point_across, point_straight}
use Rattle.plane.proofs.Scale.{crosses_larger, times_point}
use Rattle.plane.proofs.SegmentParts.{segment}
use Rattle.plane.proofs.Signs.{mul_positive}
use Rattle.parity_laws.proofs.Cutting.{cut_crosses}
use Rattle.parity_laws.proofs.Sums.{summing, xor_assoc, xor_self}
use Rattle.parity_laws.proofs.Scaling.{area_larger}
use Rattle.parity_laws.proofs.Footing.{times_le}

-- ---- a segment that is cut
between_larger : (k a m b : ℤ) → pos 0 <ℤ k → IsBetween a m b → IsBetween (k *ℤ a) (k *ℤ m) (k *ℤ b)
between_larger k a m b h (inl p) = inl (times_le k a m h p.0, times_le k m b h p.1)
between_larger k a m b h (inr p) = inr (times_le k b m h p.0, times_le k m a h p.1)

one_positive : pos 0 <ℤ pos 1
one_positive = record { lt = tt }

cut_at : (s : Segment) (m : Point) (q : RationalPoint) → IsOn (rational m) s → crosses_at s q ≡ xor (crosses_at (segment s.a m) q) (crosses_at (segment m s.b) q)
cut_at s m q on =
    let k = q.d *ℤ pos 1 in
    let positive : pos 0 <ℤ (q.d *ℤ pos 1) = mul_positive q.d (pos 1) q.whole one_positive in
    sym (crosses_larger (pos 1) one_positive s q)
    ∙ cut_crosses (larger_segment k s) (larger k m) (times_point q (pos 1))
    (area_larger k s.a s.b m ∙ ap (λ z. k *ℤ (k *ℤ z)) (point_straight s m on) ∙ ap (λ z. k *ℤ z) (*ℤ-zero k) ∙ *ℤ-zero k)
    (between_larger k s.a.x m.x s.b.x positive (point_across s m on))
    ∙ (λ i. xor (crosses_larger (pos 1) one_positive (segment s.a m) q i) (crosses_larger (pos 1) one_positive (segment m s.b) q i))

over_cut : (s : Segment) (m : Point) (q : RationalPoint) → IsOn (rational m) s → is_over_at q s ≡ xor (is_over_at q (segment s.a m)) (is_over_at q (segment m s.b))
over_cut s m q on = sym (over_is s q) ∙ cut_at s m q on ∙ (λ i. xor (over_is (segment s.a m) q i) (over_is (segment m s.b) q i))

-- ---- a line that is cut
odd_append : (q : RationalPoint) (X Y : List Segment) → is_odd_over_at q (X ++ Y) ≡ xor (is_odd_over_at q X) (is_odd_over_at q Y)
odd_append q [] Y = refl
odd_append q (s ∷ X) Y = ap (xor (is_over_at q s)) (odd_append q X Y) ∙ sym (xor_assoc (is_over_at q s) (is_odd_over_at q X) (is_odd_over_at q Y))

pub line_odd : (p : Point) (line : List Point) (q : RationalPoint) → Cut p line → is_odd_over_at q (segments_of line) ≡ xor (is_odd_over_at q (segments_of (line_up_to p line))) (is_odd_over_at q (segments_of (line_from p line)))
line_odd p line q c =
    ap (is_odd_over_at q) c.whole ∙ odd_append q c.pre (c.here ∷ c.post)
    ∙ ⊎_elim
    (λ (e : (c.skipped ≡ 0) × (segments_of (line_from p line) ≡ segment p c.here.b ∷ c.post) × (SameCoordinates p c.here.b → ⊥)).
    ap (λ b. xor (is_odd_over_at q c.pre) (xor b (is_odd_over_at q c.post))) (over_cut c.here p q c.on)
    ∙ inner (is_odd_over_at q c.pre) (is_over_at q (segment c.here.a p)) (is_over_at q (segment p c.here.b)) (is_odd_over_at q c.post)
    ∙ (λ i. xor (sym first i) (is_odd_over_at q (sym e.1 i))))
    (λ (e : (c.skipped ≡ 1) × (segments_of (line_from p line) ≡ c.post) × SameCoordinates p c.here.b).
    ap (λ v. xor (is_odd_over_at q c.pre) (xor (is_over_at q (segment c.here.a v)) (is_odd_over_at q c.post))) (sym (one_point p c.here.b e.2))
    ∙ at_end (is_odd_over_at q c.pre) (is_over_at q (segment c.here.a p)) (is_odd_over_at q c.post)
    ∙ (λ i. xor (sym first i) (is_odd_over_at q (sym e.1 i))))
    c.second.is
  where
    first : is_odd_over_at q (segments_of (line_up_to p line)) ≡ xor (is_odd_over_at q c.pre) (xor (is_over_at q (segment c.here.a p)) false)
    first = ap (is_odd_over_at q) c.first ∙ odd_append q c.pre (segment c.here.a p ∷ [])

    inner : (a b d e : Bool) → xor a (xor (xor b d) e) ≡ xor (xor a (xor b false)) (xor d e)
    inner a b d e = simp summing

    at_end : (a b d : Bool) → xor a (xor b d) ≡ xor (xor a (xor b false)) d
    at_end a b d = simp summing

-- ---- the borders, edge by edge
unfoldable pub weight : ℕ → RationalPoint → Edge → Bool
weight g q e = cond (is_border g e) (is_odd_over_at q (segments_of e.geom)) false

unfoldable pub total : ℕ → RationalPoint → List Edge → Bool
total g q [] = false
total g q (e ∷ es) = xor (weight g q e) (total g q es)

pub border_total : (g : ℕ) (q : RationalPoint) (es : List Edge) → is_odd_over_at q (flat_map (λ (e : Edge). segments_of e.geom) (filter (is_border g) es)) ≡ total g q es
unfolding weight total
border_total g q [] = refl
border_total g q (e ∷ es) = by (is_border g e) (border_total g q es)
  where
    by : (b : Bool) → is_odd_over_at q (flat_map (λ (e : Edge). segments_of e.geom) (filter (is_border g) es)) ≡ total g q es
        → is_odd_over_at q (flat_map (λ (e : Edge). segments_of e.geom) (cond b (e ∷ filter (is_border g) es) (filter (is_border g) es))) ≡ xor (cond b (is_odd_over_at q (segments_of e.geom)) false) (total g q es)
    by true rest = odd_append q (segments_of e.geom) (flat_map (λ (e : Edge). segments_of e.geom) (filter (is_border g) es)) ∙ ap (xor (is_odd_over_at q (segments_of e.geom))) rest
    by false rest = rest

pub total_append : (g : ℕ) (q : RationalPoint) (es fs : List Edge) → total g q (es ++ fs) ≡ xor (total g q es) (total g q fs)
unfolding total
total_append g q [] fs = refl
total_append g q (e ∷ es) fs = ap (xor (weight g q e)) (total_append g q es fs) ∙ sym (xor_assoc (weight g q e) (total g q es) (total g q fs))

-- ---- one edge that goes or changes
no_other : (es : List Edge) (n : ℕ) → ((y : Edge) → Contains es y → y.edge_id ≢ n) → without_row edge_id_of es n ≡ es
no_other [] n far = refl
no_other (x ∷ es) n far =
    ap (λ b. cond (not b) (x ∷ without_row edge_id_of es n) (without_row edge_id_of es n)) (ne_eqb x.edge_id n (far x (contains_here x es)))
    ∙ ap (λ ys. x ∷ ys) (no_other es n (λ y c. far y (contains_there y x es c)))

none_changes : (es : List Edge) (n : ℕ) (change : Edge → Edge) → ((y : Edge) → Contains es y → y.edge_id ≢ n) → with_change edge_id_of es n change ≡ es
none_changes [] n change far = refl
none_changes (x ∷ es) n change far =
    (λ i. cond (ne_eqb x.edge_id n (far x (contains_here x es)) i) (change x) x ∷ none_changes es n change (λ y c. far y (contains_there y x es c)) i)

twice : (a b : Bool) → b ≡ xor (xor a b) a
twice a b = simp summing

pub total_without : (g : ℕ) (q : RationalPoint) (es : List Edge) (e : Edge) → Pairwise EdgeIdsDiffer es → Contains es e → total g q (without_row edge_id_of es e.edge_id) ≡ xor (total g q es) (weight g q e)
unfolding total
total_without g q [] e h c = absurd (contains_none e c)
total_without g q (x ∷ es) e h c =
    ⊎_elim
    (λ (is : x ≡ e).
    ap (λ b. total g q (cond (not b) (x ∷ without_row edge_id_of es e.edge_id) (without_row edge_id_of es e.edge_id))) (eq-eqb x.edge_id e.edge_id (ap (λ (y : Edge). y.edge_id) is))
    ∙ ap (total g q) (no_other es e.edge_id (λ y d same. h.0 y d (ap (λ (z : Edge). z.edge_id) is ∙ sym same)))
    ∙ twice (weight g q x) (total g q es)
    ∙ ap (λ z. xor (xor (weight g q x) (total g q es)) (weight g q z)) is)
    (λ (d : Contains es e).
    ap (λ b. total g q (cond (not b) (x ∷ without_row edge_id_of es e.edge_id) (without_row edge_id_of es e.edge_id))) (ne_eqb x.edge_id e.edge_id (h.0 e d))
    ∙ ap (xor (weight g q x)) (total_without g q es e h.1 d)
    ∙ sym (xor_assoc (weight g q x) (total g q es) (weight g q e)))
    (contains_cases e x es c)

pub total_changed : (g : ℕ) (q : RationalPoint) (es : List Edge) (e : Edge) (change : Edge → Edge) → Pairwise EdgeIdsDiffer es → Contains es e
    → total g q (with_change edge_id_of es e.edge_id change) ≡ xor (total g q es) (xor (weight g q e) (weight g q (change e)))
unfolding total
total_changed g q [] e change h c = absurd (contains_none e c)
total_changed g q (x ∷ es) e change h c =
    ⊎_elim
    (λ (is : x ≡ e).
    (λ i. xor (weight g q (cond (eq-eqb x.edge_id e.edge_id (ap (λ (y : Edge). y.edge_id) is) i) (change x) x)) (total g q (none_changes es e.edge_id change (λ y d same. h.0 y d (ap (λ (z : Edge). z.edge_id) is ∙ sym same)) i)))
    ∙ other (weight g q x) (total g q es) (weight g q (change x))
    ∙ ap (λ z. xor (xor (weight g q x) (total g q es)) (xor (weight g q z) (weight g q (change z)))) is)
    (λ (d : Contains es e).
    ap (λ b. xor (weight g q (cond b (change x) x)) (total g q (with_change edge_id_of es e.edge_id change))) (ne_eqb x.edge_id e.edge_id (h.0 e d))
    ∙ ap (xor (weight g q x)) (total_changed g q es e change h.1 d)
    ∙ sym (xor_assoc (weight g q x) (total g q es) (xor (weight g q e) (weight g q (change e)))))
    (contains_cases e x es c)
  where
    other : (a b d : Bool) → xor d b ≡ xor (xor a b) (xor a d)
    other a b d = simp summing

-- ---- the two parts of an edge
parts_weigh : (g : ℕ) (q : RationalPoint) (e : Edge) (p : Point) (n id id' : ℕ) → Cut p e.geom → weight g q e ≡ xor (weight g q (first_part e n p id)) (weight g q (second_part e n p id'))
unfolding weight
parts_weigh g q e p n id id' c = by (is_border g e)
  where
    by : (b : Bool) → cond b (is_odd_over_at q (segments_of e.geom)) false
        ≡ xor (cond b (is_odd_over_at q (segments_of (line_up_to p e.geom))) false) (cond b (is_odd_over_at q (segments_of (line_from p e.geom))) false)
    by true = line_odd p e.geom q c
    by false = refl

two_total : (g : ℕ) (q : RationalPoint) (a b : Edge) → total g q (a ∷ b ∷ []) ≡ xor (weight g q a) (xor (weight g q b) false)
unfolding total
two_total g q a b = refl

pub one_total : (g : ℕ) (q : RationalPoint) (b : Edge) → total g q (b ∷ []) ≡ xor (weight g q b) false
unfolding total
one_total g q b = refl

pub both_same : (g : ℕ) (q : RationalPoint) (es : List Edge) (e : Edge) (p : Point) (n id id' : ℕ) → Pairwise EdgeIdsDiffer es → Contains es e → Cut p e.geom
    → is_odd_over_at q (flat_map (λ (e : Edge). segments_of e.geom) (filter (is_border g) (without_row edge_id_of es e.edge_id ++ first_part e n p id ∷ second_part e n p id' ∷ [])))
    ≡ is_odd_over_at q (flat_map (λ (e : Edge). segments_of e.geom) (filter (is_border g) es))
both_same g q es e p n id id' h i c =
    let one = first_part e n p id in
    let two = second_part e n p id' in
    border_total g q (without_row edge_id_of es e.edge_id ++ one ∷ two ∷ [])
    ∙ total_append g q (without_row edge_id_of es e.edge_id) (one ∷ two ∷ [])
    ∙ (λ j. xor (total_without g q es e h i j) (two_total g q one two j))
    ∙ ap (λ w. xor (xor (total g q es) w) (xor (weight g q one) (xor (weight g q two) false))) (parts_weigh g q e p n id id' c)
    ∙ gone (total g q es) (weight g q one) (weight g q two)
    ∙ sym (border_total g q es)
  where
    gone : (t a b : Bool) → xor (xor t (xor a b)) (xor a (xor b false)) ≡ t
    gone t a b = simp summing

pub changed_same : (g : ℕ) (q : RationalPoint) (es : List Edge) (e : Edge) (p : Point) (n id' : ℕ) → Pairwise EdgeIdsDiffer es → Contains es e → Cut p e.geom
    → is_odd_over_at q (flat_map (λ (e : Edge). segments_of e.geom) (filter (is_border g) (with_change edge_id_of es e.edge_id (λ x. first_part x n p x.edge_id) ++ second_part e n p id' ∷ [])))
    ≡ is_odd_over_at q (flat_map (λ (e : Edge). segments_of e.geom) (filter (is_border g) es))
changed_same g q es e p n id' h i c =
    let change = λ (x : Edge). first_part x n p x.edge_id in
    let two = second_part e n p id' in
    border_total g q (with_change edge_id_of es e.edge_id change ++ two ∷ [])
    ∙ total_append g q (with_change edge_id_of es e.edge_id change) (two ∷ [])
    ∙ (λ j. xor (total_changed g q es e change h i j) (one_total g q two j))
    ∙ ap (λ w. xor (xor (total g q es) (xor w (weight g q (change e)))) (xor (weight g q two) false)) (parts_weigh g q e p n e.edge_id id' c)
    ∙ gone (total g q es) (weight g q (change e)) (weight g q two)
    ∙ sym (border_total g q es)
  where
    gone : (t a b : Bool) → xor (xor t (xor (xor a b) a)) (xor b false) ≡ t
    gone t a b = simp summing

pub no_weight : (g : ℕ) (q : RationalPoint) (e : Edge) → e.left_face ≡ e.right_face → weight g q e ≡ false
unfolding weight
no_weight g q e same = ap (λ b. cond b (is_odd_over_at q (segments_of e.geom)) false) (ap (λ m. xor (m == g) (e.right_face == g)) same ∙ xor_self (e.right_face == g))

-- an edge with one face on both sides is on no border
pub total_more : (g : ℕ) (q : RationalPoint) (es : List Edge) (e : Edge) → e.left_face ≡ e.right_face → total g q (es ++ e ∷ []) ≡ total g q es
total_more g q es e same = total_append g q es (e ∷ []) ∙ ap (xor (total g q es)) (one_total g q e ∙ ap (λ t. xor t false) (no_weight g q e same)) ∙ nothing (total g q es)
  where
    nothing : (b : Bool) → xor b (xor false false) ≡ b
    nothing true = refl
    nothing false = refl
