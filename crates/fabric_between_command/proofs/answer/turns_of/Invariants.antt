use Rattle.std.proofs.Common.{◌≡◌, map, take}
use Rattle.fabric_between_command.specs.Judged.{turn_of}
use Rattle.fabric_between_command.proofs.answer.turns_of.Given as goal

-- the channels so far
abbrev pub invariant-channels : goal.invariant-channels
invariant-channels l = l.turns.items ≡ map (turn_of l.fabric) (take l.one-index l.cycle)
