use Rattle.std.proofs.Common.{arith}
use Rattle.ordered_link.specs.Sending.{acknowledge, sent_by_ack}
use Rattle.switch_core.proofs.SessionLemmas.{sends_at, out_at}
use Rattle.switch_core.proofs.session.Sessions.on_ack.Goals as goal

pub returns-clause-sent : goal.returns-clause-sent
returns-clause-sent c = sends_at c.args.self.now.items c.args.self.now.unacked c.from.result c.from-2.result c.args.port c.index-self-from.result c.on_ack-number.new.self c.is_unacked.result c.on_ack-number.result (acknowledge c.args.n c.args.now) (sent_by_ack c.args.n) (omega arith) (omega arith) c.requires.least c.requires.most c.from.ensures c.from-2.ensures c.on_ack-number.ensures.sent c.is_unacked.ensures

pub returns-clause-out : goal.returns-clause-out
returns-clause-out c = out_at c.on_ack-number.result c.args.self.now.items c.args.self.now.unacked c.from.result c.args.port c.on_ack-number.new.self (omega arith) c.requires.least c.requires.most c.from.ensures c.on_ack-number.ensures.out
