-- The lines on the sides of darts, place by place.
use Rattle.std.proofs.Common.{◌≡◌, ◌∙◌, ℕ, suc, ◌+◌, ◌-◌, ◌<◌, ◌≤◌, Bool, true, false, cond, not, List, [], ◌∷◌, ◌++◌, append_assoc, append-nil, drop, take, filter, flat_map, get_or, length, refl, sym, ap, arith}
use Rattle.std.specs.Prelude.{reverse}
use Rattle.std.proofs.Math.Seq.{drop-cons}
use Rattle.std.proofs.lemmas.Grind.{flat_map-append}
use Rattle.std.proofs.lemmas.List.{length-map, reverse-append, take_more}
use Rattle.std.proofs.lemmas.List.Elements.{filter-append}
use Rattle.drawing.specs.Drawing.{Edge}
use Rattle.drawing.specs.HalfEdge.{HalfEdge, forward_of, backward_of}
use Rattle.drawing.specs.Tables.{drawn_edge}
use Rattle.validate_topology.specs.Following.{half_edge}
use Rattle.validate_topology.specs.RingLines.{side_line, sides_differ, walked_back, walked_forward}
use Rattle.validate_topology.specs.Walks.{halves_of}
use Rattle.validate_topology.specs.declared.lines.ReportLine.{ReportLine}
use Rattle.validate_topology.specs.declared.sides.Side.{Side}
use Rattle.validate_topology.proofs.RingWalks.{at, side_at}

-- ---- one more of those that pass a test
one_more : (f : HalfEdge → List ReportLine) (p : HalfEdge → Bool) (hs : List HalfEdge) (h : HalfEdge) → flat_map f (filter p (hs ++ h ∷ [])) ≡ flat_map f (filter p hs) ++ cond (p h) (f h) []
one_more f p hs h =
    ap (flat_map f) (filter-append p hs (h ∷ [])) ∙ flat_map-append f (filter p hs) (cond (p h) (h ∷ []) []) ∙ ap (λ ls. flat_map f (filter p hs) ++ ls) (by (p h))
  where
    by : (b : Bool) → flat_map f (cond b (h ∷ []) []) ≡ cond b (f h) []
    by true = append-nil (f h)
    by false = refl

way_of : (s : Side) → (half_edge s).is_forward ≡ s.is_forward
way_of s = by (drawn_edge (s.row.now)) s.is_forward
  where
    by : (e : Edge) (b : Bool) → (cond b (forward_of e) (backward_of e)).is_forward ≡ b
    by e true = refl
    by e false = refl

pushed : (old so_far now before more : List ReportLine) → so_far ≡ old ++ before → now ≡ so_far ++ more → now ≡ old ++ (before ++ more)
pushed old so_far now before more e f = f ∙ ap (λ ls. ls ++ more) e ∙ append_assoc old before more

-- ---- from the last to the first
pub back_pushed : (sides : List Side) (left : ℕ) (s : Side) (old so_far now : List ReportLine) → 0 < left → left ≤ length sides → s ≡ get_or sides (left - 1) s
    → so_far ≡ old ++ sides_differ (halves_of sides) (walked_back (drop left (halves_of sides))) → now ≡ so_far ++ cond (not s.is_forward) (side_line (halves_of sides) (at (halves_of sides) (left - 1))) []
    → now ≡ old ++ sides_differ (halves_of sides) (walked_back (drop (left - 1) (halves_of sides)))
back_pushed sides left s old so_far now some w is before more =
    let hs = halves_of sides in
    let n = left - 1 in
    let h = at hs n in
    let long = length-map sides half_edge in
    let count : suc n ≡ left = omega arith in
    let way : not s.is_forward ≡ not h.is_forward = ap not (sym (way_of s) ∙ ap (λ (k : HalfEdge). k.is_forward) (side_at sides n s (omega arith) is)) in
    let whole : drop n hs ≡ h ∷ drop left hs = drop-cons hs n _ (omega arith) ∙ ap (λ k. h ∷ drop k hs) count in
    let rest = reverse (drop left hs) in
    let turned : reverse (drop n hs) ≡ rest ++ h ∷ [] = ap reverse whole ∙ reverse-append (h ∷ []) (drop left hs) in
    pushed old so_far now (sides_differ hs (walked_back (drop left hs))) (cond (not h.is_forward) (side_line hs h) []) before (more ∙ ap (λ b. so_far ++ cond b (side_line hs h) []) way)
    ∙ ap (λ ls. old ++ ls) (sym (ap (λ (ks : List HalfEdge). flat_map (side_line hs) (filter (λ (k : HalfEdge). not k.is_forward) ks)) turned ∙ one_more (side_line hs) (λ (k : HalfEdge). not k.is_forward) rest h))

-- ---- from the first to the last
pub forward_pushed : (sides : List Side) (n : ℕ) (s : Side) (old so_far now : List ReportLine) → n < length sides → s ≡ get_or sides n s
    → so_far ≡ old ++ sides_differ (halves_of sides) (walked_forward (take n (halves_of sides))) → now ≡ so_far ++ cond s.is_forward (side_line (halves_of sides) (at (halves_of sides) n)) []
    → now ≡ old ++ sides_differ (halves_of sides) (walked_forward (take (n + 1) (halves_of sides)))
forward_pushed sides n s old so_far now w is before more =
    let hs = halves_of sides in
    let h = at hs n in
    let long = length-map sides half_edge in
    let way : s.is_forward ≡ h.is_forward = sym (way_of s) ∙ ap (λ (k : HalfEdge). k.is_forward) (side_at sides n s w is) in
    let whole : take (n + 1) hs ≡ take n hs ++ h ∷ [] = take_more hs n _ (omega arith) in
    pushed old so_far now (sides_differ hs (walked_forward (take n hs))) (cond h.is_forward (side_line hs h) []) before (more ∙ ap (λ b. so_far ++ cond b (side_line hs h) []) way)
    ∙ ap (λ ls. old ++ ls) (sym (ap (λ (ks : List HalfEdge). flat_map (side_line hs) (filter (λ (k : HalfEdge). k.is_forward) ks)) whole ∙ one_more (side_line hs) (λ (k : HalfEdge). k.is_forward) (take n hs) h))
