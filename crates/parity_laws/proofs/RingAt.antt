-- Each step is on a ring.
use Rattle.std.specs.Prelude.{List}
use Rattle.plane.specs.Segment.{Segment}
use Rattle.parity_laws.specs.Rings.{Drawn}
use Rattle.parity_laws.proofs.Orbits.{ring_label}
use Rattle.parity_laws.specs.Shelling.{HasRingLabels}

pub rings_there : (T : List Segment) → Drawn T → HasRingLabels T
rings_there T drawn s i =
    let r = ring_label T drawn.plain s i in
    (r.0, (record { ringwise = r.1.0; one = r.1.1; step = s; there = i; mine = r.1.2 }, r.1.2))
