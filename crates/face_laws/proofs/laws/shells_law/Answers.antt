use Rattle.face_laws.proofs.RingSums.{ring_over}
use Rattle.face_laws.proofs.ShellTests.{shell_is}
use Rattle.face_laws.proofs.ShellsListed.{shells_listed}
use Rattle.face_laws.proofs.laws.shells_law.Goals as goal

pub returns-clause-shell : goal.returns-clause-shell
returns-clause-shell c = λ S h s has there i. shell_is S h s has there i

pub returns-clause-over : goal.returns-clause-over
returns-clause-over c = λ S h q has there. ring_over S h q has there

pub returns-clause-listed : goal.returns-clause-listed
returns-clause-listed c = λ S covered. shells_listed S covered.ringed.rings covered.shells covered.outer
