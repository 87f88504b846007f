-- How callers see a flow.
use Rattle.std.specs.Prelude.{◌≡◌, ◌≤◌, ℕ, List, [], Option, Some, None, length, map}
use Rattle.dep_check.specs.declared.channel.Channel.{Channel}
use Rattle.flow_channels.specs.declared.board.Board.{Board}
use Rattle.flow_channels.specs.declared.tables.Tables.{Tables}
use Rattle.flow_channels.specs.declared.went.Went.{Went}
use Rattle.flow_channels.specs.Board.{AreTablesOf, flow_of, IsKept}
use Rattle.flow_channels.specs.Flows.{FlowOf, empty_flow, left_of}
use Rattle.flow_channels.specs.Layout.{HasRanks, IsWired, JoinsAll, LayoutOf}
use Rattle.flow_channels.specs.Moves.{IsPossible, IsTurn, Move}
use Rattle.flow_channels.specs.Runs.{MayEnter}
use Rattle.flow_channels.specs.Sound.{IsSound}

-- the far side of each spot and the exits as the flow keeps them, the number of packets that a channel holds, the
-- number that may enter, the packets that entered, in order, and where they are
pub record FlowView : Type 0 where
  pub wires : List (Option Channel)
  pub sets : List ℕ
  pub room : ℕ
  pub limit : ℕ
  pub known : List ℕ
  pub flow : FlowOf

abbrev pub view_of : Tables → Board → FlowView
view_of tables board = record {
  wires = tables.wires.items;
  sets = tables.exits;
  room = tables.room;
  limit = tables.limit;
  known = map (λ packet. packet.packet) board.packets.items;
  flow = flow_of board;
}

-- `view` is a sound flow over `layout`, whose rows join all switches and have ranks.
pub record IsOver (layout : LayoutOf) (view : FlowView) : Type 0 where
  pub tables_are : AreTablesOf layout view.wires view.sets view.room
  pub wired : IsWired layout
  pub joined : JoinsAll layout
  pub ranks : List (Option ℕ)
  pub ranked : HasRanks layout ranks
  pub sound : IsSound layout view.known view.flow

-- no packet has entered `view`, which is over `layout`
pub record IsFresh (layout : LayoutOf) (most : ℕ) (view : FlowView) : Type 0 where
  pub over : IsOver layout view
  pub limit_is : view.limit ≡ most
  pub known_is : view.known ≡ []
  pub flow_is : view.flow ≡ empty_flow

-- `packet` may enter now, from `from` to `to`
pub record MayEnterNow (view : FlowView) (packet from to : ℕ) : Type 0 where
  pub layout : LayoutOf
  pub over : IsOver layout view
  pub may : MayEnter layout view.limit view.known packet from to

-- a turn leads from `old` to `new`: it makes the next move, or nothing changes
abbrev pub TurnsTo : LayoutOf → FlowView → FlowView → Option Went → Type 0
TurnsTo layout old new None = new ≡ old
TurnsTo layout old new (Some went) =
    IsTurn layout old.flow went new.flow × (new ≡ record old { flow = new.flow })

-- the invariant of a flow in the program
pub record IsRunning (tables : Tables) (board : Board) : Type 0 where
  pub kept : IsKept tables board
  pub least : 1 ≤ tables.limit
  pub limit : tables.limit ≤ 10000
  pub layout : LayoutOf
  pub over : IsOver layout (view_of tables board)

-- `left` of the packets that entered are still on their way
pub record HasLeft (tables : Tables) (board : Board) (left : ℕ) : Type 0 where
  pub running : IsRunning tables board
  pub left_is : left ≡ left_of (flow_of board)
  pub few : left ≤ length board.packets.items

-- the next move leads from `old` to `new`
pub record HasTurned (tables : Tables) (old new : Board) (went : Went) : Type 0 where
  pub turn :
      (layout : LayoutOf) → IsOver layout (view_of tables old)
      → IsTurn layout (flow_of old) went (flow_of new)
  pub packets : new.packets.items ≡ old.packets.items
  pub kept : IsKept tables new

-- no move is possible
abbrev pub IsStill : Tables → Board → Type 0
IsStill tables board =
    (layout : LayoutOf) (move : Move) → IsOver layout (view_of tables board)
    → IsPossible layout (flow_of board) move → ⊥
