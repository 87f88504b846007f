use Rattle.std.proofs.Common.{◌≡◌, ◌<◌, ℕ, Some}
use Rattle.dep_check.specs.declared.channel.Channel.{Channel}
use Rattle.dep_check.specs.Tables.{level_at}
use Rattle.dep_check.specs.Search.{IsStep}
use Rattle.dep_check.proofs.cycle.next_at.Given as goal

-- no step by the exits so far leads to the level
abbrev pub invariant-exits : goal.invariant-exits
invariant-exits l = (e : ℕ) (b : Channel) → e < l.exit → IsStep l.steps l.channel e b → level_at l.levels b ≡ Some l.level → ⊥
