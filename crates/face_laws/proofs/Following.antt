-- Each step is followed by one step, and what is one on half-edges that follow each other is one for each ring.
use Rattle.std.proofs.Common.{◌≡◌, suc, ◌<◌, refl, sym, ◌∙◌, ap, arith, ◌⊎◌, inl, inr, ⊎_elim, Bool, List, [], ◌∷◌, length, get_or, ◌≤◌}
use Rattle.std.specs.List.{Contains}
use Rattle.std.proofs.lemmas.Bool.{cases_lt}
use Rattle.std.proofs.lemmas.Option.{slice_get_within, slice_get-get_or}
use Rattle.topo_base.specs.Point.{Point}
use Rattle.drawing.specs.Drawing.{Drawing}
use Rattle.drawing.specs.HalfEdge.{HalfEdge, half_edges}
use Rattle.plane.specs.Line.{segments_of}
use Rattle.plane.specs.Segment.{Segment}
use Rattle.drawing.specs.Star.{next_of}
use Rattle.face_rings.proofs.HalfLines.{HasPlainLines}
use Rattle.face_rings.proofs.HalvesApart.{half_of, line_of}
use Rattle.face_rings.proofs.NextApart.{next_there}
use Rattle.parity_laws.specs.Rings.{In, Next, Ringwise}
use Rattle.face_laws.specs.Walked.{steps_along, steps_of}
use Rattle.face_laws.proofs.InnerTurns.{inner_next}
use Rattle.face_laws.proofs.Lists.{place_in, in_place}
use Rattle.face_laws.proofs.NextTurns.{half_next}
use Rattle.face_laws.proofs.PlainSteps.{half_with, step_there, steps_plain}
use Rattle.parity_laws.proofs.Following.{next_same}

-- ---- the step that follows
pub has_segment : (l : List Point) → 2 ≤ length l → 0 < length (segments_of l)
has_segment [] h = absurd (omega arith)
has_segment (a ∷ []) h = absurd (omega arith)
has_segment (a ∷ b ∷ l) h = omega arith

-- it is of the same half-edge, or of the next one
pub record IsFollowed (S : Drawing) (h : HalfEdge) (d : Segment) : Type 0 where
  pub step : Segment
  pub half : HalfEdge
  pub there : Contains (half_edges S) half
  pub on : In step (steps_along half)
  pub next : Next (steps_of S) d step
  pub way : (half ≡ h) ⊎ (half ≡ next_of (half_edges S) h)

pub has_steps : (S : Drawing) (h : HalfEdge) → HasPlainLines S → Contains (half_edges S) h → 0 < length (segments_of h.points)
has_steps S h good c = has_segment h.points (line_of S h good (half_of S.edges h c)).long

pub followed : (S : Drawing) (h : HalfEdge) (d : Segment) → HasPlainLines S → Contains (half_edges S) h → In d (steps_along h) → IsFollowed S h d
followed S h d good c i =
    let (k, e) = place_in d (segments_of h.points) i in
    let within = slice_get_within (segments_of h.points) k d e in
    ⊎_elim
    (λ (more : suc k < length (segments_of h.points)).
    let t = get_or (segments_of h.points) (suc k) d in
    let f = slice_get-get_or (segments_of h.points) (suc k) d more in
    record {
      step = t;
      half = h;
      there = c;
      on = in_place t (segments_of h.points) (suc k) f;
      next = inner_next S h k d t (record { good = good; there = c; two = record { first = e; second = f } });
      way = inl refl;
    })
    (λ (less : length (segments_of h.points) ≤ suc k).
    let next = next_of (half_edges S) h in
    let some = has_steps S next good (next_there S h good c) in
    let n = get_or (segments_of next.points) 0 d in
    let f = slice_get-get_or (segments_of next.points) 0 d some in
    record {
      step = n;
      half = next;
      there = next_there S h good c;
      on = in_place n (segments_of next.points) 0 f;
      next = half_next S h d n good c (record { place = k; there = e; last = omega (arith, within, less) }) f;
      way = inr refl;
    })
    (cases_lt (suc k) (length (segments_of h.points)))

-- ---- labels of half-edges
pub record Labels (S : Drawing) (label : Segment → Bool) (mark : HalfEdge → Bool) : Type 0 where
  -- a step has the label of its half-edge
  pub each : (h : HalfEdge) (s : Segment) → Contains (half_edges S) h → In s (steps_along h) → label s ≡ mark h
  -- which that half-edge has in common with the next one
  pub next : (h : HalfEdge) → Contains (half_edges S) h → mark h ≡ mark (next_of (half_edges S) h)

pub labels_ringwise : (S : Drawing) (label : Segment → Bool) (mark : HalfEdge → Bool) → HasPlainLines S → Labels S label mark → Ringwise (steps_of S) label
labels_ringwise S label mark good labels d n i j next =
    let (h, (c, on)) = half_with S d i in
    let f = followed S h d good c on in
    let same = sym (next_same (steps_of S) d f.step n (steps_plain S good) (step_there S f.half f.step f.there f.on) j f.next next) in
    labels.each h d c on
    ∙ ⊎_elim (λ (p : f.half ≡ h). ap mark (sym p)) (λ (p : f.half ≡ next_of (half_edges S) h). labels.next h c ∙ ap mark (sym p)) f.way
    ∙ sym (labels.each f.half f.step f.there f.on) ∙ ap label (sym same)
