use Rattle.std.specs.Prelude.{◌≡◌, ◌+◌, ◌<◌, ◌≤◌, ◌++◌, ℕ, Bool, List, [], ◌∷◌, Option, count_by, length, map, slice_index_or}
use Rattle.an_base.specs.Values.{EntryOf}
use Rattle.an_base.specs.Numbers.{AreNumbers}
use Rattle.an_base.specs.Rows.{RowOf}
use Rattle.net_script.specs.Scripts.{ScriptOf}
use Rattle.switch_numbering.specs.Numbering.{numbering}
use Rattle.topo_graph.specs.Topology.{IsGraph, IsTree}
use Rattle.dep_check.specs.Laws.{AreTables as AllTables}
use Rattle.flow_channels.specs.declared.went.Went.{Went}
use Rattle.flow_channels.specs.Exits.{AreExitsOf}
use Rattle.flow_channels.specs.Flows.{FlowOf, empty_flow, left_of}
use Rattle.flow_channels.specs.Layout.{HasRanks, LayoutOf, layout_of}
use Rattle.flow_channels.specs.Moves.{Turns}
use Rattle.flow_channels.specs.View.{FlowView, IsOver}
use Rattle.flow_text.specs.declared.sent.Sent.{Sent}
use Rattle.row_text.specs.Names.{name_of}
use Rattle.flow_text.specs.Flows.{entered_flow, entries_of, flow_told, FlowPart, IsFlowPart, is_out, part_lines, went_line}

-- A run of the packets that enter a component, used only by private functions.

-- `entries` are the graph of a component, and `numbers` the numbers of its members
pub record IsNumbered (entries : List EntryOf) (numbers : List ℕ) : Type 0 where
  pub graph : IsGraph entries
  pub tree : IsTree entries
  pub named : AreNumbers numbers
  pub count : length numbers ≡ length entries

-- `rows` are those of the tables of all members of a component, so they are never rejected
pub record AreOwnRows (any : Bool) (entries : List EntryOf) (numbers : List ℕ) (rows : List RowOf)
    : Type 0 where
  pub numbered : IsNumbered entries numbers
  pub tables : AllTables entries numbers any rows

-- `graph` is the graph of a component, `numbers` are those of its members, and `sets` are the exits of their tables
pub record AreTabled (any : Bool) (entries graph : List EntryOf) (numbers sets : List ℕ) : Type 0 where
  pub graph_is : graph ≡ entries
  pub numbers_are : numbers ≡ numbering graph
  pub exits : (rows : List RowOf) → AllTables graph numbers any rows → AreExitsOf rows sets

-- a layout of a component, by the rows of its members' tables, whose exits are `sets`
pub record IsOwnLayout (entries : List EntryOf) (numbers sets : List ℕ) (room : ℕ) (layout : LayoutOf)
    : Type 0 where
  pub any : Bool
  pub own : AreOwnRows any entries numbers layout.rows
  pub exits : AreExitsOf layout.rows sets
  pub is : layout ≡ layout_of entries numbers layout.rows room

-- a flow that no packet has entered, with room for the packets in `sends`
pub record IsReady (layout : LayoutOf) (sends : List Sent) (view : FlowView) : Type 0 where
  pub over : IsOver layout view
  pub known_is : view.known ≡ []
  pub flow_is : view.flow ≡ empty_flow
  pub room : length sends ≤ view.limit

-- the flow after the packets in `sends` have entered it
pub record HasEntered (home : List ℕ) (sends : List Sent) (old new : FlowView) : Type 0 where
  pub known_is : new.known ≡ map (λ sent. sent.packet) sends
  pub flow_is : new.flow ≡ entered_flow home sends
  pub limit_is : new.limit ≡ old.limit

-- a flow over rows whose channels have ranks `ranks`
pub record IsRanked (ranks : List (Option ℕ)) (view : FlowView) : Type 0 where
  pub layout : LayoutOf
  pub over : IsOver layout view
  pub ranked : HasRanks layout ranks

-- `moves` are turns from the flow `start` on, until no packet is left
pub record IsRunFrom (layout : LayoutOf) (start : FlowOf) (moves : List Went) : Type 0 where
  pub end : FlowOf
  pub turns : Turns layout start moves end
  pub done : left_of end ≡ 0

-- for each number below `end`, a space and the name of the switch that has it
pub record AreNames (script : ScriptOf) (entries : List EntryOf) (numbers : List ℕ) (end : ℕ)
    (names : List (List ℕ))
    : Type 0 where
  pub count : length names ≡ end
  pub each :
      (number : ℕ) → number < end
      → slice_index_or names number [] ≡ 32 ∷ name_of script entries numbers number

-- a flow over a layout, which the packets in `sends` have entered
pub record IsBegun (layout : LayoutOf) (home : List ℕ) (sends : List Sent) (view : FlowView) : Type 0 where
  pub over : IsOver layout view
  pub flow_is : view.flow ≡ entered_flow home sends

-- the turns from the flow `start` on until no packet is left: `text` is `base` and their lines, and `out` is
-- `before` plus the number of moves out of a switch
pub record IsToldRun (layout : LayoutOf) (script : ScriptOf) (entries : List EntryOf) (start : FlowOf)
    (base text : List ℕ) (before out : ℕ)
    : Type 0 where
  pub moves : List Went
  pub run : IsRunFrom layout start moves
  pub text_is : text ≡ base ++ flow_told (map (went_line script entries) moves)
  pub out_is : out ≡ before + count_by is_out moves

-- the moves of the packets that enter a component: `text` is `base` and their lines, and `out` is `before` plus
-- the number of moves out of a switch
pub record IsToldPart (script : ScriptOf) (room : ℕ) (entries : List EntryOf) (base text : List ℕ)
    (before out : ℕ)
    : Type 0 where
  pub part : FlowPart
  pub entries_are : entries_of part ≡ entries
  pub is_part : IsFlowPart script room part
  pub text_is : text ≡ base ++ flow_told (part_lines script part)
  pub out_is : out ≡ before + count_by is_out part.moves
