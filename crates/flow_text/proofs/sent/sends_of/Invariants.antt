use Rattle.std.proofs.Common.{◌≡◌, take}
use Rattle.flow_text.specs.Sends.{sends_after}
use Rattle.flow_text.proofs.sent.sends_of.Given as goal

-- the packets so far
abbrev pub invariant-commands : goal.invariant-commands
invariant-commands l = l.sends.items ≡ sends_after l.script (take l.command-index l.script.commands)
