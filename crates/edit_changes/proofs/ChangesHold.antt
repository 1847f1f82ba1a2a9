-- The law of changes.
use Rattle.std.proofs.Common.{◌≡◌, true}
use Rattle.edit_changes.specs.ChangeLaw.{ChangesAreSteps}
use Rattle.edit_changes.proofs.Evidence.{decided, within}
use Rattle.edit_changes.proofs.Histories.{accepted_histories}

pub changes_are_steps : ChangesAreSteps
changes_are_steps = record { each_decision = decided; each_within = within; each_history = λ max_id test. accepted_histories max_id (λ S. test S ≡ true) }
