-- The channels that packets wait in, and the exits that they may leave by.
use Rattle.std.specs.Prelude.{◌≡◌, ◌==◌, ◌&&◌, ◌<◌, ◌≤◌, ℕ, List, Option, Some, None, Bool, Contains, filter}
use Rattle.std.specs.List.{list_any, range_with_len}
use Rattle.an_base.specs.Values.{EntryOf}
use Rattle.an_base.specs.Rows.{RowOf}
use Rattle.dep_check.specs.declared.channel.Channel.{Channel}
use Rattle.dep_check.specs.Channels.{far_at, IsChannel, LeadsTo}
use Rattle.common_graph.specs.Cycles.{AreRanks}
use Rattle.dep_check.specs.Packets.{AllAreJoined}
use Rattle.dep_check.specs.Tables.{IsSpot, rank_at}

-- the far side of each port, by the number of its switch; the numbers of the switches; the rows; and the number of
-- packets that a channel holds
pub record LayoutOf : Type 0 where
  pub far : Channel → Option Channel
  pub numbers : List ℕ
  pub rows : List RowOf
  pub most : ℕ

-- the layout of a topology
abbrev pub layout_of : List EntryOf → List ℕ → List RowOf → ℕ → LayoutOf
layout_of entries numbers rows most =
    record { far = far_at entries numbers; numbers = numbers; rows = rows; most = most }

-- the spot of the switch `at` and one of its ports, or 0
abbrev pub spot : ℕ → ℕ → Channel
spot at port = record { at = at; port = port }

-- whether `row` is for packets that arrive at `came` and go to `to`, and has the exit `exit`
abbrev pub has_exit : Channel → ℕ → ℕ → RowOf → Bool
has_exit came to exit row =
    (row.at == came.at)
    && ((row.entry == came.port) && ((row.to == to) && list_any (λ port. port == exit) row.exits))

-- the exits, in ascending order, for packets that arrive at `came` and go to `to`
abbrev pub exits_of : LayoutOf → Channel → ℕ → List ℕ
exits_of layout came to = filter (λ exit. list_any (has_exit came to exit) layout.rows) (range_with_len 0 13)

-- The channels are valid, as those of a topology are: each is a spot, none is at port 0, the far side of a far side is
-- the port itself, and a channel has space for a packet
pub record IsWired (layout : LayoutOf) : Type 0 where
  pub near : (channel end : Channel) → layout.far channel ≡ Some end → IsSpot channel
  pub back : (channel end : Channel) → layout.far channel ≡ Some end → layout.far end ≡ Some channel
  pub start : (at : ℕ) → layout.far (spot at 0) ≡ None
  pub low : (at : ℕ) → Contains layout.numbers at → at < 127
  pub room : 1 ≤ layout.most

-- the rows join all switches of `layout`
abbrev pub JoinsAll : LayoutOf → Type 0
JoinsAll layout = AllAreJoined layout.far layout.numbers layout.rows

-- `ranks` are the ranks of the channels of `layout`
abbrev pub HasRanks : LayoutOf → List (Option ℕ) → Type 0
HasRanks layout ranks = AreRanks (IsChannel layout.far) (LeadsTo layout.far layout.rows) (rank_at ranks)
