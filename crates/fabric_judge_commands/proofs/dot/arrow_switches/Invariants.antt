use Rattle.std.proofs.Common.{◌≡◌, take}
use Rattle.fabric_judge_commands.specs.Drawn.{arrow_switches}
use Rattle.fabric_judge_commands.proofs.dot.arrow_switches.Given as goal

-- the switches so far
abbrev pub invariant-arrows : goal.invariant-arrows
invariant-arrows l = l.switches.keys ≡ arrow_switches (take l.arrow-index l.arrows)
