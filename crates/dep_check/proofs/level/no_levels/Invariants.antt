use Rattle.std.proofs.Common.{◌≡◌, None, length}
use Rattle.dep_check.specs.declared.channel.Channel.{Channel}
use Rattle.dep_check.specs.Tables.{level_at}
use Rattle.dep_check.proofs.level.no_levels.Given as goal

-- no levels so far
abbrev pub invariant-spots : goal.invariant-spots
invariant-spots l = record { none : (s : Channel) → level_at l.levels.items s ≡ None; count : length l.levels.items ≡ l.counter }
