use Rattle.std.proofs.Common.{◌≡◌, ◌<◌, ◌∷◌, length, take, drop, sym, ◌∙◌, ap, arith}
use Rattle.topo_journal.specs.Plain.{has_name}
use Rattle.topo_recover.proofs.Heads.{is_one, name_read, read_first}
use Rattle.topo_recover.proofs.header.read_header.Goals as goal

pub returns-then-is_named-clause-header : goal.returns-then-is_named-clause-header
returns-then-is_named-clause-header g c told m =
    let bytes = g.D.Disk.seen c.args.begun.now.disk in
    let long : 7 < length bytes = omega (arith, c.if-size-lt8.false, c.requires told) in
    let one = is_one _ (sym (c.in_ok-opened.ensures.opened told) ∙ c.if-not-opened.false) in
    let name : c.read_at.new.into ≡ take 6 (drop 1 bytes) = c.in_ok-read_at.ensures.bytes told ∙ ap (λ l. take 6 (drop 1 l)) (c.in_ok-opened.ensures.seen told) in
    read_first m bytes long one (sym (name_read bytes long) ∙ ap (λ l. has_name (0 ∷ l)) (sym name) ∙ sym c.is_named.ensures ∙ c.if-is_named.true)
