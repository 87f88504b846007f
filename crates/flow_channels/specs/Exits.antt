-- The exits of rows in a table.
use Rattle.std.specs.Prelude.{◌≡◌, ◌<◌, ◌↔◌, ℕ, List, Bool, All, length, slice_index}
use Rattle.std.specs.Int.{bit_at}
use Rattle.an_base.specs.Rows.{ArePorts, RowOf}
use Rattle.an_base.specs.Values.{EntryOf}
use Rattle.table_build.specs.Exits.{Begins, IsEntry, may_go_up}
use Rattle.dep_check.specs.declared.channel.Channel.{Channel}
use Rattle.dep_check.specs.Channels.{HasExit}
use Rattle.dep_check.specs.Tables.{IsSpot}
use Rattle.flow_channels.specs.Board.{exit_set}

-- the ports of each of `sets` are the exits of `rows`
abbrev pub AreSets : List RowOf → List ℕ → Type 0
AreSets rows sets = (came : Channel) (to port : ℕ) → IsSpot came → to < 127
    → ((bit_at (exit_set sets came to) port ≡ 1) ↔ HasExit rows came.at came.port to port)

-- the ports of each of `sets` are the exits of `rows`, which are all valid ports
pub record AreExitsOf (rows : List RowOf) (sets : List ℕ) : Type 0 where
  pub each : AreSets rows sets
  pub ports : All (λ row. ArePorts row.exits) rows

-- Only private functions cite the definitions that follow, which give the exits by members.

-- the member at index `place` has the exit `port` for packets that arrive at `came` and go to `to`: `came` is one of
-- its ingress ports, `to` is the number of another member, and the exit begins a path there
pub record LeadsOut (entries : List EntryOf) (numbers : List ℕ) (any : Bool) (place : ℕ) (came : Channel)
    (to port : ℕ)
    : Type 0 where
  pub at : came.at ≡ slice_index numbers place
  pub entry : IsEntry entries place came.port
  pub target : ℕ
  pub low : target < length entries
  pub number : to ≡ slice_index numbers target
  pub begins : Begins entries any (may_go_up entries place came.port) place target port

-- `sets` have the exits of the members below `end`
abbrev pub AreSetsBelow : List EntryOf → List ℕ → Bool → ℕ → List ℕ → Type 0
AreSetsBelow entries numbers any end sets = (came : Channel) (to port : ℕ) → IsSpot came → to < 127
    → ((bit_at (exit_set sets came to) port ≡ 1)
    ↔ ((place : ℕ) × (place < end) × LeadsOut entries numbers any place came to port))
