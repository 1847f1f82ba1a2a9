use Rattle.parity_laws.proofs.Seeing as See
use Rattle.parity_laws.proofs.laws.face_divided.Goals as goal

pub returns-clause-inner : goal.returns-clause-inner
returns-clause-inner c = λ T face ring b d h k s. See.face_divided T face ring b d h k s

pub returns-clause-outer : goal.returns-clause-outer
returns-clause-outer c = λ T face ring d h k s. See.outer_divided T face ring d h k s
