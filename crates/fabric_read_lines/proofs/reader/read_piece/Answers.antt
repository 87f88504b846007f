use Rattle.std.proofs.Common.{arith, length, ◌-◌}
use Rattle.std.proofs.lemmas.Slice.{take-put_mid_below}
use Rattle.fabric_read_lines.proofs.ReadLemmas.{piece_given}
use Rattle.fabric_read_lines.proofs.reader.read_piece.Goals as goal

pub returns-clause-part : goal.returns-clause-part
returns-clause-part g c = piece_given c.read.result (g.S.Source.seen c.args.source.now) (g.S.Source.seen c.read.new.self) c.args.held.now c.read.new.buf c.args.count c.requires (omega (arith, c.read.auto.buf)) c.read.ensures.count c.read.ensures.part

pub returns-clause-front : goal.returns-clause-front
returns-clause-front g c = take-put_mid_below c.args.count (length c.args.held.now - c.args.count) c.args.held.now c.read.new.buf c.args.count (omega arith) (omega (arith, c.requires))
