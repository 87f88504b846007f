use Rattle.std.proofs.Common.{◌≡◌, ◌<◌, ℕ, true}
use Rattle.dep_check.specs.declared.channel.Channel.{Channel}
use Rattle.dep_check.specs.Tables.{IsSpot, has_at, place_of}
use Rattle.dep_check.specs.Worst.{IsBadExit, up_at}
use Rattle.dep_check.proofs.illegal.are_all_legal.Given as goal

-- no exit at the spots so far is bad
abbrev pub invariant-spots : goal.invariant-spots
invariant-spots l = (s : Channel) (p : ℕ) → IsSpot s → place_of s < l.place → p < 13 → has_at l.exits s p ≡ true → IsBadExit l.sides.wires.now l.sides.up.now s.at (up_at l.sides.up.now s) p → ⊥
