use Rattle.std.proofs.Common.{◌≡◌, ◌++◌, take}
use Rattle.std.specs.Prelude.{codes}
use Rattle.std.specs.List.{flat_map}
use Rattle.check_text.specs.Check.{channel_text}
use Rattle.check_text.proofs.check.Naming.push_cycle.Given as goal

-- the channels so far
abbrev pub invariant-channels : goal.invariant-channels
invariant-channels l = l.text.items ≡ (l.fn.text.items ++ codes "refused cycle") ++ flat_map (channel_text l.self.script.now l.self.entries.now l.self.numbers.now) (take l.channel-index l.channel-items)
