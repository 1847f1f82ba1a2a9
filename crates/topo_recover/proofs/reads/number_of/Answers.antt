use Rattle.std.proofs.Common.{rules, arith}
use Rattle.std.proofs.lemmas.Nat.{be_bytes_4}
use Rattle.topo_recover.proofs.reads.number_of.Goals as goal

pub returns : goal.returns
returns c = be_bytes_4 c.args.bytes.now c.from_be_bytes.result c.requires (λ i. let fits = c.type_inv.bytes i in omega arith) (search rules)
