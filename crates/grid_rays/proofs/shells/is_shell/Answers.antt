use Rattle.std.proofs.Common.{◌≡◌, ℕ, ◌+◌, ◌-◌, ◌<◌, ◌≤◌, sym, ◌∙◌, ap, subst, arith, ◌⊎◌, inl, inr, length, drop, Bool, true, false, List}
use Rattle.std.specs.Prelude.{◌||◌, not, slice_index_or}
use Rattle.topo_base.specs.Point.{Point}
use Rattle.plane.proofs.Walks.{any_turn, turn_at, turn_is, rest_turns, no_turns, hole_is, hole_by, shell_by, point_index}
use Rattle.plane.specs.ClosedWalk.{closed_segments, turns_below, is_hole_walk, IsTopVertex}
use Rattle.grid_rays.proofs.shells.is_shell.Goals as goal

-- the walk is a hole where it turns below on the way, at the last vertex or at the first
hole_parts : (ps ring : List Point) (top : Point) (k : ℕ) → ps ≡ ring → 2 ≤ length ps → IsTopVertex ring k → top ≡ slice_index_or ps k top →
    is_hole_walk (closed_segments ring)
    ≡ ((any_turn (turns_below top) ps || turns_below top (turn_at ps (length ps - 1 - 1) (length ps - 1) 0)) || turns_below top (turn_at ps (length ps - 1) 0 1))
hole_parts ps ring top k e some is at =
    let h = subst (λ z. IsTopVertex z k) (sym e) is in
    ap (λ z. is_hole_walk (closed_segments z)) (sym e)
    ∙ hole_is ps top (length ps - 1 - 1) (length ps - 1) (omega arith) (omega arith) (point_index ps k top h.within at ∙ h.top)

hole_at : (ps ring : List Point) (top : Point) (k : ℕ) → ps ≡ ring → 2 ≤ length ps → IsTopVertex ring k → top ≡ slice_index_or ps k top →
    (any_turn (turns_below top) ps ≡ true) ⊎ ((turns_below top (turn_at ps (length ps - 1 - 1) (length ps - 1) 0) ≡ true) ⊎ (turns_below top (turn_at ps (length ps - 1) 0 1) ≡ true)) →
    false ≡ not (is_hole_walk (closed_segments ring))
hole_at ps ring top k e some is at =
    hole_by (is_hole_walk (closed_segments ring)) (any_turn (turns_below top) ps) (turns_below top (turn_at ps (length ps - 1 - 1) (length ps - 1) 0)) (turns_below top (turn_at ps (length ps - 1) 0 1))
    (hole_parts ps ring top k e some is at)

shell_at : (ps ring : List Point) (top : Point) (k : ℕ) → ps ≡ ring → 2 ≤ length ps → IsTopVertex ring k → top ≡ slice_index_or ps k top →
    any_turn (turns_below top) ps ≡ false → turns_below top (turn_at ps (length ps - 1 - 1) (length ps - 1) 0) ≡ false → turns_below top (turn_at ps (length ps - 1) 0 1) ≡ false →
    true ≡ not (is_hole_walk (closed_segments ring))
shell_at ps ring top k e some is at =
    shell_by (is_hole_walk (closed_segments ring)) (any_turn (turns_below top) ps) (turns_below top (turn_at ps (length ps - 1 - 1) (length ps - 1) 0)) (turns_below top (turn_at ps (length ps - 1) 0 1))
    (hole_parts ps ring top k e some is at)

many : (ps ring : List Point) → ps ≡ ring → 2 ≤ length ring → 2 ≤ length ps
many ps ring e h = subst (λ z. 2 ≤ length z) (sym e) h

turn_first : (ps : List Point) (top p q r : Point) → 2 ≤ length ps → p ≡ slice_index_or ps (length ps - 1) p → q ≡ slice_index_or ps 0 q → r ≡ slice_index_or ps 1 r →
    turns_below top (record { a = p; b = q }, record { a = q; b = r }) ≡ turns_below top (turn_at ps (length ps - 1) 0 1)
turn_first ps top p q r some e f g =
    turn_is (turns_below top) ps (length ps - 1) 0 1 p q r (point_index ps (length ps - 1) p (omega arith) e) (point_index ps 0 q (omega arith) f) (point_index ps 1 r (omega arith) g)

turn_last : (ps : List Point) (top p q r : Point) → 2 ≤ length ps → p ≡ slice_index_or ps (length ps - 1 - 1) p → q ≡ slice_index_or ps (length ps - 1) q → r ≡ slice_index_or ps 0 r →
    turns_below top (record { a = p; b = q }, record { a = q; b = r }) ≡ turns_below top (turn_at ps (length ps - 1 - 1) (length ps - 1) 0)
turn_last ps top p q r some e f g =
    turn_is (turns_below top) ps (length ps - 1 - 1) (length ps - 1) 0 p q r (point_index ps (length ps - 1 - 1) p (omega arith) e) (point_index ps (length ps - 1) q (omega arith) f) (point_index ps 0 r (omega arith) g)

turn_between : (ps : List Point) (top p q r : Point) (i : ℕ) → i < length ps - 1 - 1 → p ≡ slice_index_or ps i p → q ≡ slice_index_or ps (i + 1) q → r ≡ slice_index_or ps (i + 2) r →
    turns_below top (record { a = p; b = q }, record { a = q; b = r }) ≡ turns_below top (turn_at ps i (i + 1) (i + 2))
turn_between ps top p q r i h e f g =
    turn_is (turns_below top) ps i (i + 1) (i + 2) p q r (point_index ps i p (omega arith) e) (point_index ps (i + 1) q (omega arith) f) (point_index ps (i + 2) r (omega arith) g)

pub returns-then-turns_below : goal.returns-then-turns_below
returns-then-turns_below c =
    let ps = c.vertices-vertices.result.now in
    let some = many ps c.args.ring.now c.vertices-vertices.ensures.vertices c.vertices-vertices.ensures.some in
    hole_at ps c.args.ring.now c.index-vertices-top_vertex.result c.top_vertex.result c.vertices-vertices.ensures.vertices some c.top_vertex.ensures c.index-vertices-top_vertex.is
    (inr (inr (sym (turn_first ps c.index-vertices-top_vertex.result c.index-vertices-last.result c.index-vertices-0.result c.index-vertices-1.result some c.index-vertices-last.is c.index-vertices-0.is c.index-vertices-1.is)
    ∙ sym c.turns_below.ensures ∙ c.if-turns_below.true)))

pub returns-then-turns_below-2 : goal.returns-then-turns_below-2
returns-then-turns_below-2 c =
    let ps = c.vertices-vertices.result.now in
    let some = many ps c.args.ring.now c.vertices-vertices.ensures.vertices c.vertices-vertices.ensures.some in
    hole_at ps c.args.ring.now c.index-vertices-top_vertex.result c.top_vertex.result c.vertices-vertices.ensures.vertices some c.top_vertex.ensures c.index-vertices-top_vertex.is
    (inr (inl (sym (turn_last ps c.index-vertices-top_vertex.result c.index-vertices-last-2.result c.index-vertices-last-3.result c.index-vertices-0-2.result some c.index-vertices-last-2.is c.index-vertices-last-3.is c.index-vertices-0-2.is)
    ∙ sym c.turns_below-2.ensures ∙ c.if-turns_below-2.true)))

found : (t any rest all : Bool) → any ≡ (t || rest) → any ≡ all → t ≡ true → all ≡ true
found t any rest all e f g = sym f ∙ e ∙ ap (λ z. z || rest) g

passed : (t any rest all : Bool) → any ≡ (t || rest) → any ≡ all → t ≡ false → rest ≡ all
passed t any rest all e f g = sym (ap (λ z. z || rest) g) ∙ sym e ∙ f

pub returns-then-turns_below-3 : goal.returns-then-turns_below-3
returns-then-turns_below-3 c =
    let ps = c.vertices-vertices.result.now in
    let top = c.index-vertices-top_vertex.result in
    let some = many ps c.args.ring.now c.vertices-vertices.ensures.vertices c.vertices-vertices.ensures.some in
    let h = c.loop-i-test.true in
    hole_at ps c.args.ring.now top c.top_vertex.result c.vertices-vertices.ensures.vertices some c.top_vertex.ensures c.index-vertices-top_vertex.is
    (inl (found (turns_below top (turn_at ps c.loop-i.i (c.loop-i.i + 1) (c.loop-i.i + 2))) (any_turn (turns_below top) (drop c.loop-i.i ps)) (any_turn (turns_below top) (drop (c.loop-i.i + 1) ps)) (any_turn (turns_below top) ps) (rest_turns (turns_below top) ps c.loop-i.i (omega arith)) c.loop-i.invariant
    (sym (turn_between ps top c.index-vertices-i.result c.index-vertices-i-in-loop-i.result c.index-vertices-i-in-loop-i-2.result c.loop-i.i h c.index-vertices-i.is c.index-vertices-i-in-loop-i.is c.index-vertices-i-in-loop-i-2.is)
    ∙ sym c.turns_below-in-loop-i.ensures ∙ c.if-turns_below-3.true)))

pub loop-i-preserved : goal.loop-i-preserved
loop-i-preserved c =
    let ps = c.vertices-vertices.result.now in
    let top = c.index-vertices-top_vertex.result in
    let h = c.loop-i-test.true in
    passed (turns_below top (turn_at ps c.loop-i.i (c.loop-i.i + 1) (c.loop-i.i + 2))) (any_turn (turns_below top) (drop c.loop-i.i ps)) (any_turn (turns_below top) (drop (c.loop-i.i + 1) ps)) (any_turn (turns_below top) ps)
    (rest_turns (turns_below top) ps c.loop-i.i (omega arith)) c.loop-i.invariant
    (sym (turn_between ps top c.index-vertices-i.result c.index-vertices-i-in-loop-i.result c.index-vertices-i-in-loop-i-2.result c.loop-i.i h c.index-vertices-i.is c.index-vertices-i-in-loop-i.is c.index-vertices-i-in-loop-i-2.is)
    ∙ sym c.turns_below-in-loop-i.ensures ∙ c.if-turns_below-3.false)

pub returns : goal.returns
returns c =
    let ps = c.vertices-vertices.result.now in
    let top = c.index-vertices-top_vertex.result in
    let some = many ps c.args.ring.now c.vertices-vertices.ensures.vertices c.vertices-vertices.ensures.some in
    let h = c.loop-i-test.false in
    shell_at ps c.args.ring.now top c.top_vertex.result c.vertices-vertices.ensures.vertices some c.top_vertex.ensures c.index-vertices-top_vertex.is
    (sym c.loop-i.invariant ∙ no_turns (turns_below top) ps c.loop-i.i (omega arith))
    (sym (turn_last ps top c.index-vertices-last-2.result c.index-vertices-last-3.result c.index-vertices-0-2.result some c.index-vertices-last-2.is c.index-vertices-last-3.is c.index-vertices-0-2.is)
    ∙ sym c.turns_below-2.ensures ∙ c.if-turns_below-2.false)
    (sym (turn_first ps top c.index-vertices-last.result c.index-vertices-0.result c.index-vertices-1.result some c.index-vertices-last.is c.index-vertices-0.is c.index-vertices-1.is)
    ∙ sym c.turns_below.ensures ∙ c.if-turns_below.false)
