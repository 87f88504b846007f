use Rattle.std.proofs.Common.{◌≡◌, drop}
use Rattle.fabric_judge_call.specs.Steps.{nothing_said, say}
use Rattle.fabric_judge_call.proofs.said.said_by.Given as goal

-- all words say what those that are left say after the others
abbrev pub invariant-words : goal.invariant-words
invariant-words l = say nothing_said 1 (drop 1 l.words) ≡ say l.said l.place (drop l.place l.words)
