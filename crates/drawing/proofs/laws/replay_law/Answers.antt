use Rattle.drawing.proofs.Replaying.{after_all-append}
use Rattle.drawing.proofs.laws.replay_law.Goals as goal

pub returns : goal.returns
returns c = after_all-append
