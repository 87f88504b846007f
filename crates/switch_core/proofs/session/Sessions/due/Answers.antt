use Rattle.std.proofs.Common.{arith}
use Rattle.switch_core.proofs.SessionLemmas.{each_of, found_at, session_at, read_out_at}
use Rattle.switch_core.proofs.session.Sessions.due.Goals as goal

pub returns-clause-first : goal.returns-clause-first
returns-clause-first c t r are = c.due.ensures.first (t c.args.port) (r c.args.port) (session_at c.args.self.now.items t r c.args.port _ c.requires.least (found_at c.args.self.now.items c.from.result c.args.port c.index-self-from.result (omega arith) c.requires.least c.requires.most c.from.ensures) (each_of c.args.self.now t r are))

pub returns-clause-out : goal.returns-clause-out
returns-clause-out c = read_out_at c.due.result c.args.self.now.items c.args.self.now.unacked c.from.result c.args.port c.index-self-from.result (omega arith) c.requires.least c.requires.most c.from.ensures c.due.ensures.out
