-- Edges that are split: the steps are the same, or one of them is cut.
use Rattle.std.proofs.Common.{◌≡◌, ℕ, refl, sym, ◌∙◌, ap, subst, append_assoc, ◌⊎◌, ⊎_elim, List, [], ◌∷◌, ◌++◌}
use Rattle.std.specs.List.{Contains}
use Rattle.std.proofs.lemmas.Bool.Decides.{Decides-not}
use Rattle.std.proofs.lemmas.List.Elements.{Contains-push, Contains-push_cases}
use Rattle.topo_base.specs.Point.{Point, same_point}
use Rattle.topo_base.specs.declared.rows.NodeRow.{NodeRow}
use Rattle.topo_base.specs.declared.rows.RelationRow.{RelationRow}
use Rattle.topo_base.specs.declared.rows.Counters.{Counters}
use Rattle.drawing.specs.Drawing.{Drawing, Edge}
use Rattle.drawing.specs.HalfEdge.{forward_of}
use Rattle.plane.specs.Line.{segments_of, is_proper, line_up_to, line_from}
use Rattle.plane.specs.Relation.{SameCoordinates}
use Rattle.plane.specs.Segment.{Segment}
use Rattle.drawing.specs.SplitEdge.{first_part, second_part}
use Rattle.plane.proofs.LineParts.{Cut, cut as cut_line}
use Rattle.drawing.proofs.PlainSplits.{new_node, one_point}
use Rattle.plane.proofs.PointTests.{Decides-same_point}
use Rattle.plane.proofs.Points.{point_straight, point_across, point_upward}
use Rattle.plane.proofs.SegmentParts.{segment}
use Rattle.plane.proofs.SimpleTests.{no_element}
use Rattle.face_rings.specs.FaceBorder.{HasRings}
use Rattle.face_rings.proofs.FaceBorders.{has_plain_lines}
use Rattle.face_rings.proofs.HalfLines.{HasPlainLines}
use Rattle.ring_laws.specs.Ringed.{IsRinged}
use Rattle.ring_laws.proofs.Known.{all_out}
use Rattle.ring_laws.proofs.SplitSides.{IsSplitInto, split_with}
use Rattle.parity_laws.specs.Cuts.{Inner}
use Rattle.parity_laws.specs.Rings.{In}
use Rattle.face_laws.specs.Covered.{IsCovered}
use Rattle.subdivision_laws.proofs.Covers.{Covers}
use Rattle.subdivision_laws.proofs.SameSteps.{CarriesOver, covers_after, own_steps, AreStepsOf, LiesAlong, same_steps}
use Rattle.subdivision_laws.proofs.CutEdges.{edge_or_not, inside_segment}
use Rattle.parity_laws.proofs.Lists.{in_left, in_right, in_cases}

-- ---- the point is a vertex of the line
record AtVertex (e : Edge) (p : Point) : Type 0 where
  pre : List Segment
  post : List Segment
  whole : segments_of e.geom ≡ pre ++ post
  first : segments_of (line_up_to p e.geom) ≡ pre
  second : segments_of (line_from p e.geom) ≡ post

at_vertex : (S : Drawing) (e : Edge) (p : Point) (id id' : ℕ) (fs : List Edge) (rows : List RelationRow) (ids : Counters) → HasPlainLines S → IsSplitInto S e p id id' fs → HasPlainLines (split_with S p fs rows ids)
    → AtVertex e p → CarriesOver S (split_with S p fs rows ids)
at_vertex S e p id id' fs rows ids good split more v = same_steps S T good more along back_along
  where
    T : Drawing
    T = split_with S p fs rows ids

    along : LiesAlong S T
    along x c =
        ⊎_elim
        (λ (old : Contains S.edges x × (x.edge_id ≡ e.edge_id → ⊥)). own_steps S x old.0)
        (λ (part : (first_part e S.next_ids.node p id ≡ x) ⊎ (second_part e S.next_ids.node p id' ≡ x)).
        ⊎_elim
        (λ (is : first_part e S.next_ids.node p id ≡ x).
        subst (λ (y : Edge). AreStepsOf S (forward_of y)) is
        (λ s i. own_steps S e split.there s (subst (In s) (sym v.whole) (in_left s v.pre v.post (subst (In s) v.first i)))))
        (λ (is : second_part e S.next_ids.node p id' ≡ x).
        subst (λ (y : Edge). AreStepsOf S (forward_of y)) is
        (λ s i. own_steps S e split.there s (subst (In s) (sym v.whole) (in_right s v.pre v.post (subst (In s) v.second i)))))
        part)
        (split.from x c)

    of_e : AreStepsOf T (forward_of e)
    of_e s i =
        ⊎_elim
        (λ (k : In s v.pre). own_steps T (first_part e S.next_ids.node p id) split.first s (subst (In s) (sym v.first) k))
        (λ (k : In s v.post). own_steps T (second_part e S.next_ids.node p id') split.second s (subst (In s) (sym v.second) k))
        (in_cases s v.pre v.post (subst (In s) v.whole i))

    back_along : LiesAlong T S
    back_along x c =
        ⊎_elim
        (λ (q : x ≡ e). subst (λ (y : Edge). AreStepsOf T (forward_of y)) (sym q) of_e)
        (λ (far : x.edge_id ≡ e.edge_id → ⊥). own_steps T x (split.old x c far))
        (edge_or_not S e x good split.there c)

-- ---- which of both it is
parts_carry : (S : Drawing) (e : Edge) (p : Point) (id id' : ℕ) (fs : List Edge) (rows : List RelationRow) (ids : Counters) → HasRings S → IsSplitInto S e p id id' fs → HasPlainLines (split_with S p fs rows ids)
    → CarriesOver S (split_with S p fs rows ids)
parts_carry S e p id id' fs rows ids rings split more =
    ⊎_elim
    (λ (k : (c.skipped ≡ 0) × (segments_of (line_from p e.geom) ≡ segment p c.here.b ∷ c.post) × (SameCoordinates p c.here.b → ⊥)).
    inside_segment S e p id id' fs rows ids rings split more c.here
    (record { pre = c.pre; post = c.post; whole = c.whole; first = c.first; second = k.1; inner = inner k.2; on = c.on }))
    (λ (k : (c.skipped ≡ 1) × (segments_of (line_from p e.geom) ≡ c.post) × SameCoordinates p c.here.b).
    at_vertex S e p id id' fs rows ids good split more
    (record {
      pre = c.pre ++ c.here ∷ [];
      post = c.post;
      whole = c.whole ∙ sym (append_assoc c.pre (c.here ∷ []) c.post);
      first = c.first ∙ ap (λ s. c.pre ++ s ∷ []) (ends_here (one_point p c.here.b k.2));
      second = k.1;
    }))
    c.second.is
  where
    good : HasPlainLines S
    good = has_plain_lines S rings

    c : Cut p e.geom
    c = cut_line p e.geom split.on

    ends_here : p ≡ c.here.b → segment c.here.a p ≡ c.here
    ends_here q = λ i. record { a = c.here.a; b = q i }

    begins_before : SameCoordinates c.here.a p → ⊥
    begins_before =
        (Decides-not (same_point c.here.a p) (Decides-same_point c.here.a p)).0
        (all_out is_proper (c.pre ++ segment c.here.a p ∷ []) (segment c.here.a p) (c.proper_first split.not_first (good.plain.fit e split.there).proper) (Contains-push c.pre (segment c.here.a p)))

    inner : (SameCoordinates p c.here.b → ⊥) → Inner p c.here
    inner far = record {
      straight = point_straight c.here p c.on;
      across = point_across c.here p c.on;
      upward = point_upward c.here p c.on;
      not_start = λ q. begins_before (ap (λ (z : Point). z.x) (sym q), ap (λ (z : Point). z.y) (sym q));
      not_end = λ q. far (ap (λ (z : Point). z.x) q, ap (λ (z : Point). z.y) q);
    }

pub split_covers : (S : Drawing) (e : Edge) (p : Point) (id id' : ℕ) (fs : List Edge) (rows : List RelationRow) (ids : Counters) → IsCovered S → IsSplitInto S e p id id' fs → IsRinged (split_with S p fs rows ids) → Covers (split_with S p fs rows ids)
split_covers S e p id id' fs rows ids c split ringed =
    let T = split_with S p fs rows ids in
    covers_after S T c (parts_carry S e p id id' fs rows ids c.ringed.rings split (has_plain_lines T ringed.rings)) refl
    (λ n f i given.
    ⊎_elim
    (λ (old : Contains S.nodes n). old)
    (λ (new : new_node S.next_ids.node p ≡ n). absurd (no_element f (ap (λ (m : NodeRow). m.containing_face) new ∙ given)))
    (Contains-push_cases S.nodes (new_node S.next_ids.node p) n i))
