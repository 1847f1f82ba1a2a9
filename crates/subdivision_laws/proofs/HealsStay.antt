-- Edges that are healed: the steps are the same, with the same faces beside them.
use Rattle.std.proofs.Common.{◌≡◌, ℕ, ◌≤◌, sym, ◌∙◌, ap, subst, refl, ◌⊎◌, inl, inr, ⊎_elim, not, ◌==◌, List, ◌∷◌, ◌++◌, length}
use Rattle.std.specs.Prelude.{reverse}
use Rattle.std.specs.List.{Contains}
use Rattle.std.proofs.lemmas.List.{length-reverse}
use Rattle.topo_base.specs.Point.{Point}
use Rattle.topo_base.specs.declared.rows.NodeRow.{NodeRow}
use Rattle.topo_base.specs.declared.rows.RelationRow.{RelationRow}
use Rattle.topo_base.specs.declared.rows.Counters.{Counters}
use Rattle.drawing.specs.Drawing.{Drawing, Edge, node_id_of}
use Rattle.drawing.specs.HalfEdge.{HalfEdge, forward_of, backward_of, half_edges, twin}
use Rattle.drawing.specs.HealEdges.{joined_edge}
use Rattle.plane.specs.Line.{segments_of, first_vertex, last_vertex, joined}
use Rattle.plane.specs.Segment.{Segment}
use Rattle.plane.specs.Crossings.{back}
use Rattle.plane.proofs.LineTurns.{first-reverse, last-reverse, segments-joined}
use Rattle.drawing.proofs.Members.{contains-filtered}
use Rattle.face_rings.specs.FaceBorder.{HasRings}
use Rattle.face_rings.proofs.FaceBorders.{has_plain_lines}
use Rattle.face_rings.proofs.HalfLines.{HasPlainLines, begins}
use Rattle.face_rings.proofs.HalvesApart.{half_of, line_of}
use Rattle.ring_laws.specs.Ringed.{IsRinged}
use Rattle.ring_laws.proofs.HealedSides.{healed_with}
use Rattle.ring_laws.proofs.Joint.{IsHealed, AreBoth, first_there, Joint, make_joint, edge_cases, joint_sides}
use Rattle.ring_laws.proofs.Turning.{joined_of}
use Rattle.parity_laws.specs.Rings.{In}
use Rattle.face_laws.specs.Walked.{steps_along}
use Rattle.face_laws.specs.Covered.{IsCovered}
use Rattle.face_laws.proofs.LineSteps.{in_reverse, from_reverse}
use Rattle.subdivision_laws.proofs.Covers.{Covers}
use Rattle.subdivision_laws.proofs.SameSteps.{CarriesOver, covers_after, AreStepsOf, own_steps, steps_forward, LiesAlong, same_steps}
use Rattle.parity_laws.proofs.Lists.{in_left, in_right, in_cases}

-- ---- the steps of a joined line
joined_segments : (a b : List Point) → 2 ≤ length a → 2 ≤ length b → last_vertex a ≡ first_vertex b → segments_of (joined a b) ≡ segments_of a ++ segments_of b
joined_segments a b h k e =
    let p = begins a h in
    let q = begins b k in
    segments-joined a b p.first q.first (p.second ∷ p.rest) (q.second ∷ q.rest) p.is q.is e

-- the steps of a half-edge are those of two others
pub record IsAlong (whole first second : HalfEdge) : Type 0 where
  pub steps : (s : Segment) → In s (steps_along whole) → In s (steps_along first) ⊎ In s (steps_along second)
  pub of_first : (s : Segment) → In s (steps_along first) → In s (steps_along whole)
  pub of_second : (s : Segment) → In s (steps_along second) → In s (steps_along whole)

along_both : (a b c : HalfEdge) → 2 ≤ length b.points → 2 ≤ length c.points → last_vertex b.points ≡ first_vertex c.points → a.points ≡ joined b.points c.points → IsAlong a b c
along_both a b c h k e is =
    let whole : segments_of a.points ≡ segments_of b.points ++ segments_of c.points = ap segments_of is ∙ joined_segments b.points c.points h k e in
    record {
      steps = λ s i. in_cases s (segments_of b.points) (segments_of c.points) (subst (In s) whole i);
      of_first = λ s i. subst (In s) (sym whole) (in_left s (segments_of b.points) (segments_of c.points) i);
      of_second = λ s i. subst (In s) (sym whole) (in_right s (segments_of b.points) (segments_of c.points) i);
    }

-- a step of one of the two half-edges of x, walked back, is one of the other
other_step : (x : Edge) (h k : HalfEdge) (s : Segment) → AreBoth x h k → In s (steps_along h) → In (back s) (steps_along k)
other_step x h k s (inl b) i = subst (λ (z : HalfEdge). In (back s) (steps_along z)) b.1 (in_reverse s x.geom (subst (λ (z : HalfEdge). In s (steps_along z)) (sym b.0) i))
other_step x h k s (inr b) i = subst (λ (z : HalfEdge). In (back s) (steps_along z)) b.1 (from_reverse s x.geom (subst (λ (z : HalfEdge). In s (steps_along z)) (sym b.0) i))

both_turned : (x : Edge) (h k : HalfEdge) → AreBoth x h k → AreBoth x k h
both_turned x h k (inl b) = inr (b.1, b.0)
both_turned x h k (inr b) = inl (b.1, b.0)

-- the joined edge lies along both
pub joint_along : (S : Drawing) (n : ℕ) (e f : Edge) (id : ℕ) (J : Edge) (j : Joint S n e f id J) → 2 ≤ length j.up.points → 2 ≤ length j.on.points → IsAlong j.start j.up j.on
joint_along S n e f id J j h k =
    ⊎_elim
    (λ (is : j.start.points ≡ joined j.up.points j.on.points). along_both j.start j.up j.on h k j.meets is)
    (λ (is : j.end.points ≡ joined (reverse j.on.points) (reverse j.up.points)).
    round (along_both j.end (twin j.on) (twin j.up) (turned_long j.on.points k) (turned_long j.up.points h) (last-reverse j.on.points ∙ sym j.meets ∙ sym (first-reverse j.up.points)) is))
    j.line
  where
    turned_long : (l : List Point) → 2 ≤ length l → 2 ≤ length (reverse l)
    turned_long l m = subst (λ d. 2 ≤ d) (sym (length-reverse l)) m

    round : IsAlong j.end (twin j.on) (twin j.up) → IsAlong j.start j.up j.on
    round a = record {
      steps = λ s i.
          ⊎_elim
          (λ (m : In (back s) (steps_along (twin j.on))). inr (from_reverse (back s) j.on.points m))
          (λ (m : In (back s) (steps_along (twin j.up))). inl (from_reverse (back s) j.up.points m))
          (a.steps (back s) (other_step J j.start j.end s j.of_joined i));
      of_first = λ s i. other_step J j.end j.start (back s) (both_turned J j.start j.end j.of_joined) (a.of_second (back s) (in_reverse s j.up.points i));
      of_second = λ s i. other_step J j.end j.start (back s) (both_turned J j.start j.end j.of_joined) (a.of_first (back s) (in_reverse s j.on.points i));
    }

-- ---- the drawing after it
way_of : (x : Edge) (h k : HalfEdge) → AreBoth x h k → (forward_of x ≡ h) ⊎ (backward_of x ≡ h)
way_of x h k (inl b) = inl b.0
way_of x h k (inr b) = inr b.0

-- each drawing lies along the other
pub healed_along : (S : Drawing) (n : ℕ) (e f : Edge) (id : ℕ) (fs : List Edge) (rows : List RelationRow) (ids : Counters) → HasRings S → IsHealed S n e f id fs
    → LiesAlong S (healed_with S n fs rows ids) × LiesAlong (healed_with S n fs rows ids) S
healed_along S n e f id fs rows ids rings h = (along, back_along)
  where
    T : Drawing
    T = healed_with S n fs rows ids

    good : HasPlainLines S
    good = has_plain_lines S rings

    j : Joint S n e f id (joined_edge n e f id)
    j = make_joint S n e f id fs good h

    sides : (j.up.on_left ≡ j.on.on_left) × (j.on.on_right ≡ j.up.on_right)
    sides = joint_sides S n e f id fs good (joined_of S good rings.one_face) h j

    up_there : Contains (half_edges S) j.up
    up_there = first_there S.edges e j.up (twin j.up) h.e_there j.of_e

    on_there : Contains (half_edges S) j.on
    on_there = first_there S.edges f j.on (twin j.on) h.f_there j.of_f

    both : IsAlong j.start j.up j.on
    both = joint_along S n e f id (joined_edge n e f id) j (line_of S j.up good (half_of S.edges j.up up_there)).long (line_of S j.on good (half_of S.edges j.on on_there)).long

    along : LiesAlong S T
    along x c =
        ⊎_elim
        (λ (old : Contains S.edges x × (x.edge_id ≡ e.edge_id → ⊥) × (x.edge_id ≡ f.edge_id → ⊥)). own_steps S x old.0)
        (λ (is : joined_edge n e f id ≡ x).
        subst (λ (y : Edge). AreStepsOf S (forward_of y)) is
        (steps_forward S (joined_edge n e f id) j.start (way_of (joined_edge n e f id) j.start j.end j.of_joined) (λ s i.
        ⊎_elim
        (λ (k : In s (steps_along j.up)). record { half = j.up; there = up_there; on = k; left = j.start_left; right = j.start_right })
        (λ (k : In s (steps_along j.on)). record { half = j.on; there = on_there; on = k; left = sym sides.0 ∙ j.start_left; right = sides.1 ∙ j.start_right })
        (both.steps s i))))
        (h.from x c)

    start_there : Contains (half_edges T) j.start
    start_there = first_there fs (joined_edge n e f id) j.start j.end h.made j.of_joined

    back_along : LiesAlong T S
    back_along x c =
        ⊎_elim
        (λ (p : x ≡ e).
        subst (λ (y : Edge). AreStepsOf T (forward_of y)) (sym p)
        (steps_forward T e j.up (way_of e j.up (twin j.up) j.of_e) (λ s i. record { half = j.start; there = start_there; on = both.of_first s i; left = sym j.start_left; right = sym j.start_right })))
        (λ (o : (x ≡ f) ⊎ ((x.edge_id ≡ e.edge_id → ⊥) × (x.edge_id ≡ f.edge_id → ⊥))).
        ⊎_elim
        (λ (p : x ≡ f).
        subst (λ (y : Edge). AreStepsOf T (forward_of y)) (sym p)
        (steps_forward T f j.on (way_of f j.on (twin j.on) j.of_f)
        (λ s i. record { half = j.start; there = start_there; on = both.of_second s i; left = sym j.start_left ∙ sides.0; right = sym j.start_right ∙ sym sides.1 })))
        (λ (p : (x.edge_id ≡ e.edge_id → ⊥) × (x.edge_id ≡ f.edge_id → ⊥)). own_steps T x (h.old x c p.0 p.1))
        o)
        (edge_cases S n e f id fs x good h c)

healed_carries : (S : Drawing) (n : ℕ) (e f : Edge) (id : ℕ) (fs : List Edge) (rows : List RelationRow) (ids : Counters) → HasRings S → IsHealed S n e f id fs → HasPlainLines (healed_with S n fs rows ids)
    → CarriesOver S (healed_with S n fs rows ids)
healed_carries S n e f id fs rows ids rings h more =
    let both = healed_along S n e f id fs rows ids rings h in
    same_steps S (healed_with S n fs rows ids) (has_plain_lines S rings) more both.0 both.1

pub healed_covers : (S : Drawing) (n : ℕ) (e f : Edge) (id : ℕ) (fs : List Edge) (rows : List RelationRow) (ids : Counters) → IsCovered S → IsHealed S n e f id fs → IsRinged (healed_with S n fs rows ids) → Covers (healed_with S n fs rows ids)
healed_covers S n e f id fs rows ids c h ringed =
    let T = healed_with S n fs rows ids in
    covers_after S T c (healed_carries S n e f id fs rows ids c.ringed.rings h (has_plain_lines T ringed.rings)) refl
    (λ m k i e'. (contains-filtered (λ (r : NodeRow). not (node_id_of r == n)) m S.nodes i).0)
