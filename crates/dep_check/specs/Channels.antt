-- Channels of a topology whose switches have numbers, and the channels that rows lead to from a channel.
use Rattle.std.specs.Prelude.{◌≡◌, ◌==◌, ℕ, List, Option, Some, Any, Contains, position, slice_index}
use Rattle.std.specs.Option.{option_and_then, option_map}
use Rattle.std.specs.Ordering.{nat_cmp, ordering_then}
use Rattle.std.specs.declared.cmp.Ordering.{Ordering}
use Rattle.an_base.specs.Values.{EntryOf}
use Rattle.an_base.specs.Rows.{RowOf}
use Rattle.topo_graph.specs.Topology.{far_of}
use Rattle.dep_check.specs.declared.channel.Channel.{Channel}

-- the order of channels: by number, then by port
abbrev pub channel_cmp : Channel → Channel → Ordering
channel_cmp one other = ordering_then (nat_cmp one.at other.at) (nat_cmp one.port other.port)

-- the index of the switch with the number `number`
abbrev pub place_in : List ℕ → ℕ → Option ℕ
place_in numbers number = position (λ other. other == number) numbers

-- an index and a port, with the number instead of the index
abbrev pub by_number : List ℕ → (ℕ × ℕ) → Channel
by_number numbers far = record { at = slice_index numbers far.0; port = far.1 }

-- the number and the port at the far side of `channel`, if the graph has a link there
abbrev pub far_at : List EntryOf → List ℕ → Channel → Option Channel
far_at entries numbers channel =
    option_and_then
    (λ place. option_map (by_number numbers) (far_of entries place channel.port))
    (place_in numbers channel.at)

-- `channel` is a channel: a switch, by its number, and a port that has a link. This and the definitions that follow are
-- for arbitrary far sides of ports.
abbrev pub IsChannel : (Channel → Option Channel) → Channel → Type 0
IsChannel far channel = (end : Channel) × (far channel ≡ Some end)

-- some row of the switch `at`, for packets to `to` that arrive at the port `entry`, has the exit `exit`
abbrev pub HasExit : List RowOf → ℕ → ℕ → ℕ → ℕ → Type 0
HasExit rows at entry to exit =
    Any (λ row. (row.at ≡ at) × (row.entry ≡ entry) × (row.to ≡ to) × Contains row.exits exit) rows

-- `channel` leads to `next` if some row for the switch and port where `channel` arrives has the port of `next` as an
-- exit, whatever the row's number.
pub record LeadsTo (far : Channel → Option Channel) (rows : List RowOf) (channel next : Channel)
    : Type 0 where
  pub entry : ℕ
  pub arrives : far channel ≡ Some (record { at = next.at; port = entry })
  pub to : ℕ
  pub exit : HasExit rows next.at entry to next.port
  pub link : IsChannel far next
