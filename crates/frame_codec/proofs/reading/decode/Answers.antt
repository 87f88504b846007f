use Rattle.std.proofs.Common.{arith}
use Rattle.frame_codec.proofs.Decoding.{is_found, is_refused}
use Rattle.frame_codec.proofs.reading.decode.Goals as goal

pub returns-clause-found : goal.returns-clause-found
returns-clause-found c = is_found c.args.bytes.now c.read.result (λ i. omega (arith, c.type_inv.bytes i)) c.read.ensures

pub returns-clause-refused : goal.returns-clause-refused
returns-clause-refused c = is_refused c.args.bytes.now c.read.result c.read.ensures
