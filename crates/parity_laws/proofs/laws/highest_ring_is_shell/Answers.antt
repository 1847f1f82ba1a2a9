use Rattle.parity_laws.proofs.Splitting.{highest_is_shell}
use Rattle.parity_laws.proofs.laws.highest_ring_is_shell.Goals as goal

pub returns : goal.returns
returns c = λ T face ring d h k s part n r f i e m top. highest_is_shell T face ring d h k s part (record { n = n; r = r; first = f; there = i; start = e; mine = part r i m; top = top }) m
