-- Where no edit reads anything, two editors put a node at one point.
use Rattle.std.proofs.Common.{◌≡◌, refl, false, true, pos, [], ◌∷◌, List, None}
use Rattle.topo_base.specs.declared.edit.Edit.{Edit}
use Rattle.topo_base.specs.declared.edit.Edit.TheVariants.{AddIsoNode}
use Rattle.history_model.specs.Answers.{Bounds}
use Rattle.core_law.specs.Reading.{nothing_read}
use Rattle.core_law.specs.Core.{Event, Commit}
use Rattle.core_law.specs.CoreLaw.{IsCoreRight}

abbrev bounds : Bounds
bounds = record { max_id = 10; max_journal = 1000 }

abbrev at_origin : Edit
at_origin = AddIsoNode None (record { x = pos 0; y = pos 0 })

-- both were planned on the empty drawing
abbrev both : List Event
both = Commit 1 at_origin 0 ∷ Commit 2 at_origin 0 ∷ []

pub unread_wrong : IsCoreRight nothing_read → ⊥
unread_wrong right = no ((right bounds [] both refl refl).legal)
  where
    no : false ≡ true → ⊥
    no e = cc
