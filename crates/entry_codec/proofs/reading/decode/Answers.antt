use Rattle.entry_codec.proofs.Decoded.{left_fits, in_front, exactly, not_there, nothing_read}
use Rattle.entry_codec.proofs.reading.decode.Goals as goal

pub overflow_sub-result : goal.overflow_sub-result
overflow_sub-result c = left_fits c.args.bytes.now c.in-Ok.entry c.in-Ok.rest.now c.in-Ok.ensures

pub returns-in-Ok-clause-found : goal.returns-in-Ok-clause-found
returns-in-Ok-clause-found c = in_front c.args.bytes.now c.in-Ok.entry c.in-Ok.rest.now c.in-Ok.ensures

pub returns-in-Ok-clause-exact : goal.returns-in-Ok-clause-exact
returns-in-Ok-clause-exact c = exactly c.args.bytes.now c.in-Ok.entry c.in-Ok.rest.now c.in-Ok.ensures

pub returns-in-Err-clause-none : goal.returns-in-Err-clause-none
returns-in-Err-clause-none c = λ same x rest spelled laid. not_there c.args.bytes.now (nothing_read c.in-Err.end c.args.bytes.now c.in-Err.ensures same) x rest spelled laid
