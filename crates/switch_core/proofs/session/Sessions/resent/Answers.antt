use Rattle.std.proofs.Common.{arith, refl}
use Rattle.ordered_link.specs.Sending.{send_again}
use Rattle.switch_core.proofs.SessionLemmas.{found_at, sends_again_at}
use Rattle.switch_core.proofs.session.Sessions.resent.Goals as goal

pub resent-requires : goal.resent-requires
resent-requires c = c.requires.out.1 _ (found_at c.args.self.now.items c.from.result c.args.port c.index-self-from.result (omega arith) c.requires.least c.requires.most c.from.ensures)

pub returns : goal.returns
returns c = sends_again_at c.args.self.now.items c.args.self.now.unacked c.from.result c.args.port c.index-self-from.result c.resent.new.self (send_again c.args.k c.args.now) (omega arith) (omega arith) c.requires.least c.requires.most c.from.ensures c.resent.ensures (λ t. refl)
