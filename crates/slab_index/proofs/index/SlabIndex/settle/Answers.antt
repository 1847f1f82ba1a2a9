use Rattle.std.proofs.Common.{subst}
use Rattle.slab_index.specs.Index.{Index}
use Rattle.slab_index.specs.Pieces.{AreChanged}
use Rattle.slab_index.proofs.index.SlabIndex.settle.Goals as goal

pub returns-clause-kept : goal.returns-clause-kept
returns-clause-kept c =
    subst (λ (v : Index). AreChanged c.settle.new.self.kept v.kept v.gone v.coming) c.self.view_is
    (subst (λ gone. AreChanged c.settle.new.self.kept c.self.inside.slabs.kept gone c.self.inside.slabs.coming) c.deref.ensures.value c.settle.ensures.kept)
