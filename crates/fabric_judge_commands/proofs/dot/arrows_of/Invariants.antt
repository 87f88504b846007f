use Rattle.std.proofs.Common.{◌≡◌, take}
use Rattle.fabric_judge_commands.specs.Drawn.{arrows_of}
use Rattle.fabric_judge_commands.proofs.dot.arrows_of.Given as goal

-- the arrows so far
abbrev pub invariant-channels : goal.invariant-channels
invariant-channels l = l.arrows.items ≡ arrows_of l.fabric (take l.one-index l.cycle)
