use Rattle.std.proofs.Common.{◌≡◌, take}
use Rattle.fabric_judge_commands.specs.Names.{names_for}
use Rattle.fabric_judge_commands.proofs.names.names_for.Given as goal

-- the names so far
abbrev pub invariant-guids : goal.invariant-guids
invariant-guids l = l.names.items ≡ names_for l.text (take l.guid-index l.guid-items)
