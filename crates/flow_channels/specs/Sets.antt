-- The sets by number that an exit table keeps, and where the sets of a spot start.
use Rattle.std.specs.Prelude.{◌≡◌, ◌+◌, ◌*◌, ◌<◌, ◌≤◌, ◌↔◌, ℕ, List, Bool, All, Any, Contains, length, map, slice_index, if◌then◌else◌}
use Rattle.std.specs.Int.{bit_at}
use Rattle.std.specs.List.{flat_map, range_with_len}
use Rattle.an_base.specs.Values.{EntryOf}
use Rattle.table_build.specs.declared.way.Way.{Way}
use Rattle.table_build.specs.Exits.{IsEntry, may_go_up}
use Rattle.dep_check.specs.declared.channel.Channel.{Channel}
use Rattle.dep_check.specs.Tables.{IsSpot, place_of}

-- the sets of a spot: those from `start` on
abbrev pub sets_from : List ℕ → ℕ → List ℕ
sets_from sets start = map (λ to. slice_index sets (start + to)) (range_with_len 0 127)

-- the sets of all spots
unfoldable pub all_sets : List ℕ → List ℕ → List ℕ
all_sets starts sets = flat_map (sets_from sets) starts

-- `starts` has a start for each spot, with sets for all numbers from there on
pub record AreStarts (starts sets : List ℕ) : Type 0 where
  pub count : length starts ≡ 1651
  pub within : All (λ start. start + 127 ≤ length sets) starts

-- for the spots before the index `end`, the sets of each spot come after the sets of the one before
pub record AreInTurn (end : ℕ) (starts : List ℕ) : Type 0 where
  pub count : length starts ≡ end
  pub each : (place : ℕ) → place < end → slice_index starts place ≡ place * 127

-- one of `ways` leads to the number `to` by `port`
abbrev pub WaysHave : List Way → Bool → ℕ → ℕ → Type 0
WaysHave ways up to port =
    Any (λ way. (way.number ≡ to) × Contains (if up then way.up else way.down) port) ways

-- the sets by number have the ports of `ways`
pub record AreSetsOf (ways : List Way) (up : Bool) (sets : List ℕ) : Type 0 where
  pub count : length sets ≡ 127
  pub each : (to port : ℕ) → to < 127 → ((bit_at (slice_index sets to) port ≡ 1) ↔ WaysHave ways up to port)

-- the ingress ports below `end` of the member at index `place` have their starts, and all other spots are unchanged
pub record AreStartsBelow (entries : List EntryOf) (place at up down end : ℕ) (old new : List ℕ)
    : Type 0 where
  pub count : length new ≡ length old
  pub here :
      (entry : ℕ) → entry < end → IsEntry entries place entry
      → slice_index new (place_of (record { at = at; port = entry }))
      ≡ (if may_go_up entries place entry then up else down)
  pub others :
      (came : Channel) → IsSpot came
      → (came.at ≡ at → came.port < end → IsEntry entries place came.port → ⊥)
      → slice_index new (place_of came) ≡ slice_index old (place_of came)
