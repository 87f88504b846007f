use Rattle.check_text.specs.Check.{port_ranks}
use Rattle.check_text.proofs.PieceLemmas.{numbers_next}
use Rattle.check_text.proofs.check.Naming.push_ranks_at.Goals as goal

pub ports-preserved : goal.ports-preserved
ports-preserved c = numbers_next (port_ranks c.args.self.now.script.now c.args.self.now.entries.now c.args.self.now.numbers.now c.args.ranks.now c.args.number) c.args.text.now.items c.ports.text.items c.push_port.new.text.items c.ports.port c.ports.invariant c.in_ok-push_port.ensures
