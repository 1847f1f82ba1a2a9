use Rattle.std.proofs.Common.{◌≡◌, ◌+◌, ◌<◌, List, arith, cond, length, map, rules, subst, sym, vec_len}
use Rattle.std.proofs.lemmas.List.Elements.{All-set}
use Rattle.drawing.specs.Drawing.{Drawing}
use Rattle.drawing.specs.Tables.{drawn_edge}
use Rattle.validate_topology.specs.Following.{goes_on, half_edges_of}
use Rattle.validate_topology.specs.declared.stars.Spoke.{Spoke}
use Rattle.validate_topology.proofs.AllRings.{long_lines}
use Rattle.validate_topology.proofs.NextPlaces.{IsBegun, all_next, begun_next, has_lines, next_first, no_spoke, right_step, spoke_at, spokes_long}
use Rattle.validate_topology.proofs.SpokePlaces.{halves_length}
use Rattle.validate_topology.proofs.stars.followers_of.Goals as goal

pub index_mut-requires : goal.index_mut-requires
index_mut-requires c =
    let ss = c.in_ok-spokes.spokes.items in
    let rows = c.args.edges.now in
    let hs = half_edges_of rows in
    let i = c.loop-index.index in
    let here = c.index-in-loop-index.result.now in
    let size = c.in_ok-spokes.ensures.len in
    let wide = halves_length rows in
    let long = spokes_long hs ss c.in_ok-spokes.ensures.spokes in
    let below : i < length ss = omega (arith, c.loop-index-test.true, c.len-index-end.ensures, size, wide, long) in
    let fits : here.twin < length hs = subst (λ (x : Spoke). x.twin < length hs) (sym c.index-in-loop-index.ensures) ((spoke_at hs ss i here c.in_ok-spokes.ensures.spokes below).twin_within) in
    omega (arith, fits, c.loop-index.invariant.len, size, wide)

pub loop-index-preserved : goal.loop-index-preserved
loop-index-preserved c =
    let ss = c.in_ok-spokes.spokes.items in
    let rows = c.args.edges.now in
    let hs = half_edges_of rows in
    let i = c.loop-index.index in
    let here = c.index-in-loop-index.result.now in
    let there = c.index.result.now in
    let first = c.index_of_first-first.result in
    let f = c.index_after-next.result in
    let places = c.loop-index.places in
    let a = c.in_ok-spokes.ensures.spokes in
    let size = c.in_ok-spokes.ensures.len in
    let wide = halves_length rows in
    let long = spokes_long hs ss a in
    let room : length (places.items) ≡ vec_len places = search rules in
    let below : i < length ss = omega (arith, c.loop-index-test.true, c.len-index-end.ensures, size, wide, long) in
    let f_below : f < length ss = subst (λ (xs : List Spoke). f < length xs) c.deref-in-loop-index.ensures.value c.index_after-next.ensures.within in
    let fits : here.twin < length hs = subst (λ (x : Spoke). x.twin < length hs) (sym c.index-in-loop-index.ensures) ((spoke_at hs ss i here a below).twin_within) in
    let there_fits : there.place < length hs = subst (λ (x : Spoke). x.place < length hs) (sym c.index.ensures) ((spoke_at hs ss f there a f_below).within) in
    let begun : (s : Spoke) → IsBegun ss s first i = λ s.
    subst (λ n. IsBegun ss s n i) (sym (subst (λ (xs : List Spoke). first ≡ next_first xs s c.loop-index.first i) c.deref.ensures.value (c.index_of_first-first.ensures.begins s)))
    (begun_next hs ss s c.loop-index.first i a below c.loop-index.invariant.first (c.loop-index.invariant.begun s)) in
    let of = c.requires.of in
    let S : Drawing = record of { edges = map drawn_edge rows } in
    record {
      first = let le = c.index_of_first-first.ensures.within in omega (arith, le);
      len = c.loop-index.invariant.len;
      within = All-set (λ n. n < vec_len c.in_ok-spokes.spokes) places.items here.twin there.place (omega (arith, there_fits, size, wide)) c.loop-index.invariant.within;
      begun = λ s k e. let one : i ≡ k = omega (arith, e) in subst (λ n. IsBegun ss s first n) one (begun s);
      right = right_step S ss places.items here there first i f c.requires.plain a below f_below begun
          (λ s. subst (λ (xs : List Spoke). f ≡ cond (goes_on xs i s) (i + 1) first) c.deref-in-loop-index.ensures.value (c.index_after-next.ensures.after s))
          c.index-in-loop-index.ensures c.index.ensures (omega (arith, fits, c.loop-index.invariant.len, size, wide, room)) c.loop-index.invariant.right;
    }

pub returns-clause-next : goal.returns-clause-next
returns-clause-next c =
    let ss = c.in_ok-spokes.spokes.items in
    let rows = c.args.edges.now in
    let hs = half_edges_of rows in
    let a = c.in_ok-spokes.ensures.spokes in
    let of = c.requires.of in
    let S : Drawing = record of { edges = map drawn_edge rows } in
    let size = c.in_ok-spokes.ensures.len in
    let wide = halves_length rows in
    let long = spokes_long hs ss a in
    all_next S ss no_spoke c.loop-index.places.items c.requires.plain a
    (λ j d below. c.loop-index.invariant.right no_spoke j d (omega (arith, below, c.loop-index-test.false, c.len-index-end.ensures, size, wide, long)))

pub returns-clause-long : goal.returns-clause-long
returns-clause-long c =
    let of = c.requires.of in
    let S : Drawing = record of { edges = map drawn_edge c.args.edges.now } in
    long_lines S (has_lines S c.in_ok-spokes.spokes.items c.requires.plain c.in_ok-spokes.ensures.spokes)
