use Rattle.std.proofs.Common.{◌≡◌, ◌++◌}
use Rattle.std.specs.List.{flat_map, range_with_len}
use Rattle.check_text.specs.Check.{port_ranks}
use Rattle.check_text.proofs.check.Naming.push_ranks_at.Given as goal

-- the ports so far
abbrev pub invariant-ports : goal.invariant-ports
invariant-ports l = l.text.items ≡ l.fn.text.items ++ flat_map (port_ranks l.self.script.now l.self.entries.now l.self.numbers.now l.ranks l.number) (range_with_len 0 l.port)
