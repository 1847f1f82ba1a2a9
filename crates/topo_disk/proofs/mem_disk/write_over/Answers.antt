use Rattle.std.proofs.Common.{◌≡◌, rules}
use Rattle.topo_disk.proofs.mem_disk.write_over.Goals as goal

pub returns-clause-went : goal.returns-clause-went
returns-clause-went c =
    let same : c.in-Ok.copy.items ≡ c.args.new.now = search rules in
    (c.in-Ok.copy, same, c.in_ok-add.ensures.went)
