-- The stations of switches, and the number of each kind.

use Rattle.std.specs.Prelude.{◌≡◌, ◌+◌, ◌≤◌, ℕ, List, All, length, count_by, slice_index_or, slice_set, Bool, if◌then◌else◌}
use Rattle.an_base.specs.Ports.{NoteOf}
use Rattle.net_state.specs.declared.stations.Tally.{Tally}
use Rattle.net_state.specs.declared.stations.TheConstants.{MOST_TICK}
use Rattle.net_state.specs.Fabric.{StationOf, full_among, is_due_at, vacant}

-- the tick of the network, and the stations of its switches
pub record StationsOf : Type 0 where
  pub tick : ℕ
  pub items : List StationOf

-- the station at index `place`, `vacant` past the last
abbrev pub station_in : StationsOf → ℕ → StationOf
station_in stations place = slice_index_or stations.items place vacant

-- the stations with another one at index `place`
abbrev pub with_station_in : ℕ → StationOf → StationsOf → StationsOf
with_station_in place new stations = record stations { items = slice_set stations.items place new }

-- 1 if this holds, 0 otherwise
abbrev pub one_if : Bool → ℕ
one_if test = if test then 1 else 0

-- each count of `tally` is right, and each clock event is due at the next tick or before, so that all are due then
pub record IsTally (tick : ℕ) (stations : List StationOf) (tally : Tally) : Type 0 where
  pub full : tally.full ≡ full_among stations
  pub clocks : tally.clocks ≡ count_by (is_due_at tick) stations
  pub loads : tally.loads ≡ count_by (λ at. at.note.load_due) stations
  pub unacked : tally.unacked ≡ count_by (λ at. at.note.unacked) stations
  pub spent : tally.spent ≡ count_by (λ at. at.spent) stations
  pub few : length stations ≤ 126
  pub tick_most : tick ≤ MOST_TICK
  pub next : All (λ at. at.clock ≤ tick + 1) stations

-- the station is included in the counts of `tally`
pub record IsCounted (tally : Tally) (at : StationOf) : Type 0 where
  pub load : one_if at.note.load_due ≤ tally.loads
  pub body : one_if at.note.unacked ≤ tally.unacked
  pub spent : one_if at.spent ≤ tally.spent
  pub few : (tally.loads ≤ 126) × (tally.unacked ≤ 126) × (tally.spent ≤ 126)

-- `new` is the tally after the switch of station `at` shows this instead
pub record IsCountedAnew (old new : Tally) (at : StationOf) (note : NoteOf) (spent : Bool) : Type 0 where
  pub full : new.full ≡ old.full
  pub clocks : new.clocks ≡ old.clocks
  pub loads : new.loads + one_if at.note.load_due ≡ old.loads + one_if note.load_due
  pub unacked : new.unacked + one_if at.note.unacked ≡ old.unacked + one_if note.unacked
  pub spends : new.spent + one_if at.spent ≡ old.spent + one_if spent
