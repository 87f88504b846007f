use Rattle.std.proofs.Common.{arith}
use Rattle.ordered_link.specs.Sending.{push, sent_by_push}
use Rattle.switch_core.proofs.SessionLemmas.{sends_at, out_at}
use Rattle.switch_core.proofs.session.Sessions.push.Goals as goal

pub returns-clause-ok : goal.returns-clause-ok
returns-clause-ok c = sends_at c.args.self.now.items c.args.self.now.unacked c.from.result c.from-2.result c.args.port c.index-self-from.result c.push.new.self c.is_unacked.result c.in_ok-number.number (push c.args.body c.args.now) (sent_by_push c.args.body) (omega arith) (omega arith) c.requires.least c.requires.most c.from.ensures c.from-2.ensures c.in_ok-number.ensures.ok c.is_unacked.ensures

pub returns-clause-out : goal.returns-clause-out
returns-clause-out c = out_at c.in_ok-number.number c.args.self.now.items c.args.self.now.unacked c.from.result c.args.port c.push.new.self (omega arith) c.requires.least c.requires.most c.from.ensures c.in_ok-number.ensures.out
