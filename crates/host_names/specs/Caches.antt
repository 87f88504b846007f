-- What a host remembers of those that sent to it.
use Rattle.std.specs.Prelude.{◌==◌, ◌+◌, ℕ, Bool, not, nat_lt, if◌then◌else◌}
use Rattle.std.specs.Prelude.{List, [], ◌∷◌, Option, Some, None, filter, find, take}
use Rattle.host_names.specs.declared.cache.TheConstants.{PLACES, TICKS}
use Rattle.host_names.specs.declared.choice.Choice.{Choice}
use Rattle.host_names.specs.declared.choice.Choice.TheVariants.{Known, Broadcast}

-- A packet arrived: the identifier of its sender, the address that it came from, and the tick. A list of
-- arrivals has the newest first.
pub record ArrivalOf : Type 0 where
  pub uid : ℕ
  pub address : ℕ
  pub tick : ℕ

-- the arrival is from the sender `uid`
abbrev pub is_from : ℕ → ArrivalOf → Bool
is_from uid arrival = arrival.uid == uid

-- the arrivals from other senders
abbrev pub others : ℕ → List ArrivalOf → List ArrivalOf
others uid arrivals = filter (λ arrival. not (is_from uid arrival)) arrivals

-- the last arrival of each sender, the newest first
abbrev pub last_of_each : List ArrivalOf → List ArrivalOf
last_of_each [] = []
last_of_each (arrival ∷ arrivals) = arrival ∷ others arrival.uid (last_of_each arrivals)

-- what is kept after a list of arrivals: the last arrivals of the 16 senders that were heard last
abbrev pub kept_of : List ArrivalOf → List ArrivalOf
kept_of arrivals = take PLACES (last_of_each arrivals)

-- what is kept after one more arrival: its sender comes first, and of 16 others the one that was heard longest ago
-- is dropped
abbrev pub with_arrival : ArrivalOf → List ArrivalOf → List ArrivalOf
with_arrival arrival kept = take PLACES (arrival ∷ others arrival.uid kept)

-- what is kept if nothing is kept at first, and then one packet after another arrives
abbrev pub after_arrivals : List ArrivalOf → List ArrivalOf
after_arrivals [] = []
after_arrivals (arrival ∷ arrivals) = with_arrival arrival (after_arrivals arrivals)

-- where a host sends, given the last arrival of the receiver, whose address is known for 64 ticks
abbrev pub choice_by : ℕ → Option ArrivalOf → Choice
choice_by now None = Broadcast
choice_by now (Some last) = if nat_lt now (last.tick + TICKS) then Known last.address else Broadcast

-- where a host sends, given what it keeps
abbrev pub choice_of : List ArrivalOf → ℕ → ℕ → Choice
choice_of kept uid now = choice_by now (find (is_from uid) kept)
