use Rattle.std.proofs.Common.{◌≡◌, sym, ◌∙◌, ap, ◌&&◌, Bool, true, false}
use Rattle.std.specs.Bool.{Decides}
use Rattle.std.proofs.lemmas.Bool.Decides.{Decides-at}
use Rattle.plane.specs.Line.{is_simple, are_simple, first_vertex, segments_of}
use Rattle.plane.specs.LinePoints.{IsPlainLine, has_proper_segments}
use Rattle.topo_base.specs.Point.{Point}
use Rattle.std.proofs.Common.{List}
use Rattle.plane.proofs.SimpleTests.{Decides-simple}
use Rattle.grid_lines.proofs.simple.is_simple.Goals as goal

tells : (line : List Point) (r : Bool) → r ≡ is_simple line → Decides r (IsPlainLine line)
tells line r e = Decides-at r (is_simple line) e (Decides-simple line)

pub returns-then-is_proper-clause-plain : goal.returns-then-is_proper-clause-plain
returns-then-is_proper-clause-plain g c =
    let line = c.args.line.now in
    let proper : has_proper_segments line ≡ true = sym c.is_proper.ensures ∙ c.if-is_proper.true in
    tells line c.are_simple.result (c.are_simple.ensures.test ∙ sym (ap (λ b. b && are_simple (first_vertex line) (segments_of line)) proper))

pub returns-else-is_proper-clause-plain : goal.returns-else-is_proper-clause-plain
returns-else-is_proper-clause-plain g c =
    let line = c.args.line.now in
    let proper : has_proper_segments line ≡ false = sym c.is_proper.ensures ∙ c.if-is_proper.false in
    tells line c.is_proper.result (c.if-is_proper.false ∙ sym (ap (λ b. b && are_simple (first_vertex line) (segments_of line)) proper))
