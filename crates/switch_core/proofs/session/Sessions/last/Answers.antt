use Rattle.std.proofs.Common.{arith}
use Rattle.switch_core.proofs.SessionLemmas.{each_of, found_at, session_at}
use Rattle.switch_core.proofs.session.Sessions.last.Goals as goal

pub returns : goal.returns
returns c t r are = c.last.ensures.stands (r c.args.port) (session_at c.args.self.now.items t r c.args.port _ c.requires.least (found_at c.args.self.now.items c.from.result c.args.port c.index-self-from.result (omega arith) c.requires.least c.requires.most c.from.ensures) (each_of c.args.self.now t r are)).1
