-- Levels by either rule, round by round.
use Rattle.std.proofs.Common.{◌≡◌, ℕ, ◌+◌, ◌<◌, ◌≤◌, List, [], Option, Some, arith, length}
use Rattle.std.specs.Prelude.{Contains}
use Rattle.dep_check.specs.declared.channel.Channel.{Channel}
use Rattle.dep_check.specs.declared.steps.Steps.{Steps}
use Rattle.dep_check.specs.declared.level.Rule.{Rule}
use Rattle.dep_check.specs.declared.level.Rule.TheVariants.{Nearest, Rank}
use Rattle.dep_check.specs.Tables.{IsSpot, level_at}
use Rattle.dep_check.specs.Search.{AreRaised}
use Rattle.dep_check.specs.Rounds.{AddsDue, LeadsToOne, AreDue, IsRaisedTo, AreLevels, AreLevelsBelow}
use Rattle.dep_check.proofs.LevelLemmas.{nearest_more, nearest_done, nearest_few}
use Rattle.dep_check.proofs.RankLemmas.{rank_more, rank_done, rank_few}
use Rattle.dep_check.proofs.RoundLemmas.{due_nearest, due_rank, raised_all, raised_full, none_raised, some_raised}

-- no level is as great as the round
levels_low : (rule : Rule) (steps : Steps) (r : ℕ) (levels : List (Option ℕ)) → AreLevelsBelow rule steps r levels → (s : Channel) (n : ℕ) → IsSpot s → level_at levels s ≡ Some n → n < r
levels_low (Nearest goal) steps r levels so_far = λ s n spot e. (so_far.reached s n spot e).1
levels_low Rank steps r levels so_far = λ s n spot e. (so_far.ranked s n spot e).1

-- nor as great as the number of spots
pub levels_few : (rule : Rule) (steps : Steps) (r : ℕ) (levels : List (Option ℕ)) → AreLevelsBelow rule steps r levels → 1652 ≤ r → ⊥
levels_few (Nearest goal) steps r levels so_far many = nearest_few steps (λ s. s ≡ goal) r levels so_far many
levels_few Rank steps r levels so_far many = rank_few steps r levels so_far many

levels_end : (rule : Rule) (steps : Steps) (r : ℕ) (old new : List (Option ℕ)) → AreLevelsBelow rule steps r old → AreRaised rule steps old r 1651 new → ((s : Channel) → IsSpot s → level_at new s ≡ Some r → ⊥) → AreLevels rule steps new
levels_end (Nearest goal) steps r old new so_far raised still = nearest_done goal steps (λ s. s ≡ goal) r old new so_far raised still
levels_end Rank steps r old new so_far raised still = rank_done steps r old new so_far raised still

levels_next : (rule : Rule) (steps : Steps) (r : ℕ) (old new : List (Option ℕ)) → AreLevelsBelow rule steps r old → AreRaised rule steps old r 1651 new → (s : Channel) → IsSpot s → level_at new s ≡ Some r → AreLevelsBelow rule steps (r + 1) new
levels_next (Nearest goal) steps r old new so_far raised s spot e = nearest_more goal steps (λ s. s ≡ goal) r old new so_far raised s spot e
levels_next Rank steps r old new so_far raised s spot e = rank_more steps r old new so_far raised s spot e

due_by : (rule : Rule) (steps : Steps) (r : ℕ) (levels : List (Option ℕ)) (last due : List Channel) → 1 ≤ r → AreLevelsBelow rule steps r levels → ((s : Channel) (n : ℕ) → IsSpot s → level_at levels s ≡ Some n → n + 1 ≡ r → Contains last s) → AddsDue rule steps levels (LeadsToOne steps last) [] due → AreDue rule steps levels due
due_by (Nearest goal) steps r levels last due some so_far full adds = due_nearest goal steps (λ s. s ≡ goal) r levels last due so_far full adds
due_by Rank steps r levels last due some so_far full adds = due_rank steps r levels last due some so_far full adds

-- a round: those that are due have been raised
module _ (rule : Rule) (steps : Steps) (r : ℕ) (old new : List (Option ℕ)) (due raised : List Channel) (so_far : AreLevelsBelow rule steps r old) (are : AreDue rule steps old due) (up : IsRaisedTo r old due new raised) where
  -- where these are none it was the last
  pub levels_done : length raised ≡ 0 → AreLevels rule steps new
  levels_done empty = levels_end rule steps r old new so_far (raised_all rule steps r old new due raised are up) (none_raised r old new due raised empty (levels_low rule steps r old so_far) up)

  -- else there is one more, for those that are due next
  pub levels_more : (length raised ≡ 0 → ⊥) → AreLevelsBelow rule steps (r + 1) new
  levels_more some = let s = some_raised r old new due raised some up in levels_next rule steps r old new so_far (raised_all rule steps r old new due raised are up) s.0 s.1 s.2

  pub due_more : (next : List Channel) → (length raised ≡ 0 → ⊥) → AddsDue rule steps new (LeadsToOne steps raised) [] next → AreDue rule steps new next
  due_more next some adds = due_by rule steps (r + 1) new raised next (omega arith) (levels_more some) (raised_full r old new due raised (levels_low rule steps r old so_far) up) adds
