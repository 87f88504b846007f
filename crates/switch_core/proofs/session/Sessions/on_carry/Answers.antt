use Rattle.std.proofs.Common.{arith}
use Rattle.ordered_link.specs.Receiving.{come, verdict}
use Rattle.switch_core.proofs.SessionLemmas.{receives_at}
use Rattle.switch_core.proofs.session.Sessions.on_carry.Goals as goal

pub returns : goal.returns
returns c = receives_at c.args.self.now.items c.args.self.now.unacked c.from.result c.args.port c.index-self-from.result c.on_carry.new.self c.on_carry.result (come c.args.k c.args.body) (verdict c.args.k c.args.body) (omega arith) (omega arith) c.requires.least c.requires.most c.from.ensures c.on_carry.ensures
