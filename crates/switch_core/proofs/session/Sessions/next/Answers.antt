use Rattle.std.proofs.Common.{arith}
use Rattle.ordered_link.specs.Receiving.{follow}
use Rattle.switch_core.specs.Sessions.{wanted}
use Rattle.switch_core.proofs.SessionLemmas.{receives_at}
use Rattle.switch_core.proofs.session.Sessions.next.Goals as goal

pub returns : goal.returns
returns c = receives_at c.args.self.now.items c.args.self.now.unacked c.from.result c.args.port c.index-self-from.result c.next.new.self c.next.result follow wanted (omega arith) (omega arith) c.requires.least c.requires.most c.from.ensures c.next.ensures
