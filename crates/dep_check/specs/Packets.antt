-- Packets that follow the rows towards a number, and the gaps that they meet.
use Rattle.std.specs.declared.cmp.Ordering.{Ordering}
use Rattle.std.specs.Ordering.{nat_cmp, ordering_then, is_le}
use Rattle.std.specs.Prelude.{◌≡◌, ◌≢◌, ◌⊎◌, ℕ, List, Option, Some, None, Contains, IsTrue}
use Rattle.an_base.specs.Rows.{RowOf}
use Rattle.dep_check.specs.declared.channel.Channel.{Channel}
use Rattle.dep_check.specs.Channels.{HasExit}
use Rattle.common_graph.specs.Cycles.{Walk}

-- A packet to `to` that arrived at `here`, which is not its target, leaves by an exit of the row and its link, and
-- arrives at `next`.
pub record GoesOn (far : Channel → Option Channel) (rows : List RowOf) (to : ℕ) (here next : Channel)
    : Type 0 where
  pub before : here.at ≢ to
  pub exit : ℕ
  pub has : HasExit rows here.at here.port to exit
  pub link : far (record { at = here.at; port = exit }) ≡ Some next

-- some exit of the rows for packets to `to` at `here` has no link
abbrev pub HasLooseExit : (Channel → Option Channel) → List RowOf → ℕ → Channel → Type 0
HasLooseExit far rows to here =
    (exit : ℕ) × HasExit rows here.at here.port to exit × (far (record { at = here.at; port = exit }) ≡ None)

-- `here` is not at the target `to`, and its rows have no exits, or an exit without a link
pub record IsGap (far : Channel → Option Channel) (rows : List RowOf) (to : ℕ) (here : Channel) : Type 0 where
  pub before : here.at ≢ to
  pub gap : ((exit : ℕ) → HasExit rows here.at here.port to exit → ⊥) ⊎ HasLooseExit far rows to here

-- some packet that follows the rows from port 0 of the switch `from` towards `to` meets a gap at `end`
pub record MeetsGap (far : Channel → Option Channel) (rows : List RowOf) (from to : ℕ) (end : Channel)
    : Type 0 where
  pub steps : ℕ
  pub walk : Walk (GoesOn far rows to) steps (record { at = from; port = 0 }) end
  pub gap : IsGap far rows to end

-- some packet from `from` to `to`, two different switches of the topology, meets a gap at the port `entry` of `at`
pub record Meets (far : Channel → Option Channel) (numbers : List ℕ) (rows : List RowOf)
    (from to at entry : ℕ) : Type 0 where
  pub from_in : Contains numbers from
  pub to_in : Contains numbers to
  pub apart : from ≢ to
  pub meets : MeetsGap far rows from to (record { at = at; port = entry })

abbrev pub AllAreJoined : (Channel → Option Channel) → List ℕ → List RowOf → Type 0
AllAreJoined far numbers rows = (from to at entry : ℕ) → Meets far numbers rows from to at entry → ⊥

-- the order of four numbers: by the first, then by the second, and so on
abbrev pub four_cmp : ℕ × ℕ × ℕ × ℕ → ℕ × ℕ × ℕ × ℕ → Ordering
four_cmp one other =
    ordering_then (nat_cmp one.0 other.0) (ordering_then (nat_cmp one.1 other.1)
    (ordering_then (nat_cmp one.2 other.2) (nat_cmp one.3 other.3)))

-- `one` is not after `other`
abbrev pub IsUpTo : ℕ × ℕ × ℕ × ℕ → ℕ × ℕ × ℕ × ℕ → Type 0
IsUpTo one other = IsTrue (is_le (four_cmp one other))

-- `from` and `to` are the least pair that is not joined, and `at` and `entry` the least place where its packets meet a
-- gap
pub record IsLeastGap (far : Channel → Option Channel) (numbers : List ℕ) (rows : List RowOf)
    (from to at entry : ℕ) : Type 0 where
  pub meets : Meets far numbers rows from to at entry
  pub least :
      (start target place came : ℕ) → Meets far numbers rows start target place came
      → IsUpTo (from, to, at, entry) (start, target, place, came)
