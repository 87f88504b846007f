use Rattle.std.proofs.Common.{◌≡◌, take}
use Rattle.fabric_between_command.specs.Judged.{switches_of}
use Rattle.fabric_between_command.proofs.answer.switches_of.Given as goal

-- the switches so far
abbrev pub invariant-turns : goal.invariant-turns
invariant-turns l = l.switches.keys ≡ switches_of (take l.turn-index l.cycle)
