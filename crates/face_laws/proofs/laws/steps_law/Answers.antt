use Rattle.face_rings.proofs.FaceBorders.{has_plain_lines}
use Rattle.face_laws.proofs.FaceOnLeft.{left_is}
use Rattle.face_laws.proofs.PlainSteps.{steps_plain, steps_once}
use Rattle.face_laws.proofs.RingLabels.{ring_ringwise, ring_is_one}
use Rattle.face_laws.proofs.laws.steps_law.Goals as goal

pub returns-clause-drawn : goal.returns-clause-drawn
returns-clause-drawn c = λ S has. let good = has_plain_lines S has in record { plain = steps_plain S good; once = steps_once S good }

pub returns-clause-faces : goal.returns-clause-faces
returns-clause-faces c = λ S h s has there i. left_is S h s (has_plain_lines S has) there i

pub returns-clause-ringwise : goal.returns-clause-ringwise
returns-clause-ringwise c = λ S h has there. ring_ringwise S h has there

pub returns-clause-ring : goal.returns-clause-ring
returns-clause-ring c = λ S h has there. ring_is_one S h has there
