use Rattle.std.proofs.Common.{ap₂, arith, length, nat_lt}
use Rattle.ordered_link.proofs.SessionLemmas.{sent_acked, sent_pushed}
use Rattle.ordered_link.specs.Sending.{send_next, next_to_send}
use Rattle.switch_core.proofs.SessionLemmas.{sends_on_at, out_at}
use Rattle.switch_core.proofs.session.Sessions.more.Goals as goal

pub returns-clause-sent : goal.returns-clause-sent
returns-clause-sent c = sends_on_at c.args.self.now.items c.args.self.now.unacked c.from.result c.args.port c.index-self-from.result c.more.new.self c.more.result (send_next c.args.now) next_to_send (omega arith) (omega arith) c.requires.least c.requires.most c.from.ensures c.more.ensures.sent (λ t. ap₂ (λ a bodies. nat_lt a (length bodies)) (sent_acked c.args.now t) (sent_pushed c.args.now t))

pub returns-clause-out : goal.returns-clause-out
returns-clause-out c = out_at c.more.result c.args.self.now.items c.args.self.now.unacked c.from.result c.args.port c.more.new.self (omega arith) c.requires.least c.requires.most c.from.ensures c.more.ensures.out
