-- The lines on holes, ring by ring.
use Rattle.std.proofs.Common.{◌≡◌, ◌∙◌, ℕ, suc, ◌+◌, ◌-◌, ◌<◌, ◌≤◌, Bool, true, false, cond, not, ◌&&◌, ◌==◌, Option, Some, List, [], ◌∷◌, ◌++◌, append_assoc, append-nil, drop, take, flat_map, get_or, length, map, refl, sym, ap, subst, arith}
use Rattle.std.specs.Prelude.{reverse}
use Rattle.std.proofs.Math.ListN.{get_or-map}
use Rattle.std.proofs.Math.Seq.{drop-cons}
use Rattle.std.proofs.lemmas.Grind.{flat_map-append}
use Rattle.std.proofs.lemmas.List.{length-map, map_push, reverse-append, take_more}
use Rattle.topo_base.specs.Darts.{same_way}
use Rattle.topo_base.specs.Point.{Point}
use Rattle.topo_base.specs.declared.rows.NodeRow.{NodeRow}
use Rattle.plane.specs.ClosedWalk.{top_of}
use Rattle.drawing.specs.HalfEdge.{HalfEdge}
use Rattle.drawing.specs.Ring.{is_hole, ring_segments}
use Rattle.validate_topology.specs.Following.{half_edge}
use Rattle.validate_topology.specs.OnlyIf.{only_if}
use Rattle.validate_topology.specs.PlaceLines.{hole_elsewhere, hole_line, node_line}
use Rattle.validate_topology.specs.Walks.{halves_of, ring_in}
use Rattle.validate_topology.specs.declared.lines.ReportLine.{ReportLine}
use Rattle.validate_topology.specs.declared.lines.ReportLine.TheVariants.{NodeInOtherFace}
use Rattle.validate_topology.specs.declared.sides.Side.{Side}
use Rattle.validate_topology.specs.declared.walks.Walk.{Walk}

-- ---- the line of one ring
abbrev pub told : (Point → ℕ) → Bool → List Side → Side → List ReportLine
told above forward items s =
    cond (is_hole (halves_of items) && same_way (half_edge s).is_forward forward) (hole_elsewhere (half_edge s) (above (top_of (ring_segments (halves_of items))))) []

ring_at : (above : Point → ℕ) (forward : Bool) (items : List Side) (s : Side) → 0 < length items → s ≡ get_or items 0 s → hole_line above forward (halves_of items) ≡ told above forward items s
ring_at above forward [] s some is = absurd (omega arith)
ring_at above forward (x ∷ items) s some is = subst (λ (z : Side). hole_line above forward (halves_of (x ∷ items)) ≡ told above forward (x ∷ items) z) (sym is) refl

pub no_hole : (above : Point → ℕ) (forward : Bool) (ring : List HalfEdge) → is_hole ring ≡ false → hole_line above forward ring ≡ []
no_hole above forward [] e = refl
no_hole above forward (h ∷ ring) e = ap (λ b. cond (b && same_way h.is_forward forward) (hole_elsewhere h (above (top_of (ring_segments (h ∷ ring))))) []) e

pub no_ring : (above : Point → ℕ) (forward : Bool) (items : List Side) → length items ≡ 0 → hole_line above forward (halves_of items) ≡ []
no_ring above forward [] e = refl
no_ring above forward (x ∷ items) e = absurd (omega arith)

pub other_way : (above : Point → ℕ) (forward : Bool) (items : List Side) (s : Side) → 0 < length items → s ≡ get_or items 0 s → same_way (half_edge s).is_forward forward ≡ false → hole_line above forward (halves_of items) ≡ []
other_way above forward items s some is e =
    ring_at above forward items s some is ∙ ap (λ b. cond (is_hole (halves_of items) && b) (hole_elsewhere (half_edge s) (above (top_of (ring_segments (halves_of items))))) []) e ∙ neither (is_hole (halves_of items)) _
  where
    neither : (a : Bool) (line : List ReportLine) → cond (a && false) line [] ≡ []
    neither true line = refl
    neither false line = refl

pub hole_told : (above : Point → ℕ) (forward : Bool) (items : List Side) (s : Side) (face : ℕ) → 0 < length items → s ≡ get_or items 0 s → is_hole (halves_of items) ≡ true → same_way (half_edge s).is_forward forward ≡ true
    → face ≡ above (top_of (ring_segments (halves_of items))) → hole_line above forward (halves_of items) ≡ hole_elsewhere (half_edge s) face
hole_told above forward items s face some is hole way told_face =
    ring_at above forward items s some is
    ∙ (λ i. cond (hole i && way i) (hole_elsewhere (half_edge s) (above (top_of (ring_segments (halves_of items))))) [])
    ∙ ap (hole_elsewhere (half_edge s)) (sym told_face)

pub hole_by : (shell hole : Bool) → shell ≡ not hole → shell ≡ true → hole ≡ false
hole_by true true e f = absurd cc
hole_by true false e f = refl
hole_by false hole e f = absurd cc

pub no_shell_by : (shell hole : Bool) → shell ≡ not hole → shell ≡ false → hole ≡ true
no_shell_by false true e f = refl
no_shell_by false false e f = absurd cc
no_shell_by true hole e f = absurd cc

-- ---- one ring more, from the last to the first, and from the first to the last
pub back_more : {X : Type 0} (f : X → List ReportLine) (xs : List X) (left : ℕ) (x : X) → 0 < left → left ≤ length xs → x ≡ get_or xs (left - 1) x → flat_map f (reverse (drop (left - 1) xs)) ≡ flat_map f (reverse (drop left xs)) ++ f x
back_more f xs left x some w is =
    let n = left - 1 in
    let count : suc n ≡ left = omega arith in
    let whole : drop n xs ≡ x ∷ drop left xs = drop-cons xs n x (omega arith) ∙ (λ i. sym is i ∷ drop (count i) xs) in
    let rest = reverse (drop left xs) in
    ap (λ ys. flat_map f (reverse ys)) whole ∙ ap (flat_map f) (reverse-append (x ∷ []) (drop left xs)) ∙ flat_map-append f rest (x ∷ []) ∙ ap (λ ls. flat_map f rest ++ ls) (append-nil (f x))

pub back_pushed : (f : List HalfEdge → List ReportLine) (walks : List Walk) (left : ℕ) (w : Walk) (old so_far now : List ReportLine) → 0 < left → left ≤ length walks → w ≡ get_or walks (left - 1) w
    → so_far ≡ old ++ flat_map f (reverse (drop left (map ring_in walks))) → now ≡ so_far ++ f (ring_in w) → now ≡ old ++ flat_map f (reverse (drop (left - 1) (map ring_in walks)))
back_pushed f walks left w old so_far now some within is before more =
    let long = length-map walks ring_in in
    let ring = ap ring_in is ∙ sym (get_or-map ring_in walks (left - 1) w) in
    let lines = flat_map f (reverse (drop left (map ring_in walks))) in
    more ∙ ap (λ ls. ls ++ f (ring_in w)) before ∙ append_assoc old lines (f (ring_in w)) ∙ ap (λ ls. old ++ ls) (sym (back_more f (map ring_in walks) left (ring_in w) some (omega arith) ring))

pub forward_pushed : (f : List HalfEdge → List ReportLine) (walks : List Walk) (n : ℕ) (w : Walk) (old so_far now : List ReportLine) → n < length walks → w ≡ get_or walks n w
    → so_far ≡ old ++ flat_map f (map ring_in (take n walks)) → now ≡ so_far ++ f (ring_in w) → now ≡ old ++ flat_map f (map ring_in (take (n + 1) walks))
forward_pushed f walks n w old so_far now within is before more =
    let whole : map ring_in (take (n + 1) walks) ≡ map ring_in (take n walks) ++ ring_in w ∷ [] = ap (map ring_in) (take_more walks n w within ∙ ap (λ (x : Walk). take n walks ++ x ∷ []) (sym is)) ∙ map_push ring_in (take n walks) w in
    let lines = flat_map f (map ring_in (take n walks)) in
    more ∙ ap (λ ls. ls ++ f (ring_in w)) before ∙ append_assoc old lines (f (ring_in w))
    ∙ ap (λ ls. old ++ ls) (sym (ap (flat_map f) whole ∙ flat_map-append f (map ring_in (take n walks)) (ring_in w ∷ []) ∙ ap (λ ls. lines ++ ls) (append-nil (f (ring_in w)))))

-- ---- the line of a node
pub node_told : (above : Point → ℕ) (n : NodeRow) (containing : Option ℕ) (own face : ℕ) (wrong : Bool) (old now : List ReportLine) → containing ≡ Some own → face ≡ above n.geom → wrong ≡ not (own == face) → now ≡ old ++ only_if wrong (NodeInOtherFace n.node_id face)
    → now ≡ old ++ node_line above n containing
node_told above n containing own face wrong old now some told tested is =
    is ∙ ap (λ b. old ++ only_if b (NodeInOtherFace n.node_id face)) tested ∙ ap (λ f. old ++ only_if (not (own == f)) (NodeInOtherFace n.node_id f)) told ∙ ap (λ o. old ++ node_line above n o) (sym some)
