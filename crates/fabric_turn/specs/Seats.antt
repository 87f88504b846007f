-- What seats know after they were split and joined.
use Rattle.std.specs.Prelude.{◌≡◌, ℕ, zero, suc, ◌+◌, ◌-◌, List, [], ◌∷◌, ◌++◌, length, None, nat_lt, if◌then◌else◌}
use Rattle.fabric_turn.specs.declared.view.View.{View}
use Rattle.fabric_turn.specs.declared.view.Ended.{Ended}
use Rattle.fabric_turn.specs.declared.view.Stage.TheVariants.{Spent, Idle}

module _ {E : Type 0} where
  -- the longer of two histories
  abbrev pub longer_of : List E → List E → List E
  longer_of one other = if nat_lt (length one) (length other) then other else one

  -- a caller whose number was ended, with its entries
  abbrev pub ended_caller : ℕ → List E → Ended E
  ended_caller number mine = record { number = number; mine = mine }

  -- n numbers from `one` on, which no caller had
  abbrev pub unused_callers : ℕ → ℕ → List (Ended E)
  unused_callers from zero = []
  unused_callers from (suc count) = ended_caller from [] ∷ unused_callers (suc from) count

module _ {E D : Type 0} where
  -- the view with which the given seat of a split continues: it has given its next number
  abbrev pub remaining_view : View E D → View E D
  remaining_view view = record view { next = view.next + 1 }

  -- what the new caller of a split knows: it has that number, no entry of its own and no number to give, and has
  -- seen what the given seat has
  abbrev pub new_view : View E D → View E D
  new_view view = record {
    stage = Idle;
    number = view.next;
    next = view.callers;
    callers = view.callers;
    start = view.start;
    seen = view.seen;
    mine = [];
    ended = [];
    heard = [];
  }

  -- the callers that the first view of a join has ended after it: those that it had, the caller of the second,
  -- those that the second had, and the numbers that it never gave
  abbrev pub ended_after_join : View E D → View E D → List (Ended E)
  ended_after_join one other =
      one.ended ++ ended_caller other.number other.mine
      ∷ (other.ended ++ unused_callers other.next (other.callers - other.next))

  -- what the seat to which another was joined knows
  abbrev pub joined_view : View E D → View E D → View E D
  joined_view one other =
      record one { seen = longer_of one.seen other.seen; ended = ended_after_join one other }

  -- what that seat knows before the two histories are compared
  abbrev pub merged_view : View E D → View E D → View E D
  merged_view one other = record one { ended = ended_after_join one other; heard = other.seen }

  -- what that seat knows after the comparison
  abbrev pub compared_view : View E D → View E D
  compared_view view = record view { seen = longer_of view.seen view.heard; heard = [] }

  -- what a join leaves of the second seat
  abbrev pub spent_view : View E D
  spent_view = record {
    stage = Spent;
    number = 0;
    next = 0;
    callers = 0;
    start = None;
    seen = [];
    mine = [];
    ended = [];
    heard = [];
  }

  -- every caller number is the view's own, one that it can give, or an ended caller's
  abbrev pub HasAllNumbers : View E D → Type 0
  HasAllNumbers view = 1 + (view.callers - view.next) + length view.ended ≡ view.callers

  -- the view has its own number and no other, of n numbers
  abbrev pub HasOneNumber : ℕ → View E D → Type 0
  HasOneNumber callers view = (view.callers ≡ callers) × (view.next ≡ callers) × (view.ended ≡ [])
