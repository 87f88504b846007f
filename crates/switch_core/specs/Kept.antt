-- What callers see of a switch: the switch of the definition that it represents, and the results of clock events,
-- frames and loads.

use Rattle.std.specs.Prelude.{◌≡◌, ℕ, ◌-◌, ◌≤◌, List, [], length, Some, Bool, true, false}
use Rattle.an_base.specs.Numbers.{AreNumbers}
use Rattle.an_base.specs.Values.{TopoOf}
use Rattle.an_base.specs.declared.frame.Frame.{Frame}
use Rattle.an_base.specs.declared.port.Sample.{Sample}
use Rattle.an_base.specs.declared.limits.TheConstants.{MOST_NUMBER}
use Rattle.frame_codec.specs.Frames.{IsFrame, IsNoFrame}
use Rattle.frame_codec.specs.Spelling.{spelling}
use Rattle.topo_graph.specs.Topology.{IsGraph}
use Rattle.table_build.specs.Tables.{TableOf, IsTableOf}
use Rattle.switch_core.specs.declared.control.Control.{Control}
use Rattle.switch_core.specs.declared.control.Arrival.{Arrival}
use Rattle.switch_core.specs.declared.control.Arrival.TheVariants.{NoFrame, Bodiless, Body}
use Rattle.switch_core.specs.Bytes.{OutOf, all_spelled}
use Rattle.switch_core.specs.Switch.{StartOf, SwitchOf, finish_of}
use Rattle.switch_core.specs.Steps.{clocked, framed, is_spent_by, loaded, sampled_by}
use Rattle.switch_core.specs.Sound.{carries, counted}
use Rattle.switch_core.specs.Stands.{Stands}

-- what it was started with, what is kept of its history, the number of clock events and frames, and the number of
-- those that were not frames with a body in its epoch
pub record KeptOf : Type 0 where
  pub start : StartOf
  pub control : Control
  pub works : ℕ
  pub others : ℕ

-- the number of frames with a body in its epoch
abbrev pub carried : KeptOf → ℕ
carried kept = kept.works - kept.others

-- the epoch that it is in
abbrev pub epoch_of : KeptOf → ℕ
epoch_of kept = kept.control.epoch

-- `kept` represents a switch of the definition: it has what is kept of that switch's history
abbrev pub StandsFor : KeptOf → SwitchOf → Type 0
StandsFor kept = Stands kept.control

-- whether a clock event has returned that the epochs are spent
abbrev pub is_spent : KeptOf → Bool
is_spent kept = kept.control.spent

-- the epochs are not spent, so the switch takes clock events and frames
abbrev pub IsWorking : KeptOf → Type 0
IsWorking kept = is_spent kept ≡ false

-- whether a load of the table is due
abbrev pub load_due : KeptOf → Bool
load_due kept = kept.control.load_due

-- a load of the table is due
abbrev pub IsLoadDue : KeptOf → Type 0
IsLoadDue kept = load_due kept ≡ true

-- bytes came on `port` to `switch`, which then is one for which `Is` holds: the bytes of a frame are processed as that
-- frame, and others change nothing, which `out` says
pub record Handles (port : ℕ) (bytes : List ℕ) (switch : SwitchOf) (Is : SwitchOf → Type 0)
    (out : OutOf) : Type 0 where
  pub frame : (frame : Frame) → IsFrame frame → bytes ≡ spelling frame
      → Is (framed port frame switch).switch
      × (out ≡ record { frames = all_spelled (framed port frame switch).frames; noframe = false })
  pub no_frame : IsNoFrame bytes → Is switch × (out ≡ record { frames = []; noframe = true })

-- whether bytes of this kind are no frame
abbrev pub is_noframe : Arrival → Bool
is_noframe NoFrame = true
is_noframe Bodiless = false
is_noframe Body = false

-- the number of bodies in bytes of this kind
abbrev pub bodies : Arrival → ℕ
bodies NoFrame = 0
bodies Bodiless = 0
bodies Body = 1

-- bytes came, and the body of the frame that they are, if it has one, was counted
pub record Counts (bytes : List ℕ) (old_epoch new_epoch before after : ℕ) : Type 0 where
  pub frame : (frame : Frame) → IsFrame frame → bytes ≡ spelling frame
      → after ≡ counted old_epoch new_epoch before (carries frame)
  pub no_frame : IsNoFrame bytes → after ≡ before

-- a clock event came to `switch`, which then is one for which `Is` holds; `spent` says whether a change is due for
-- which no epoch is left
pub record Ticks (now : ℕ) (samples : List Sample) (switch : SwitchOf) (Is : SwitchOf → Type 0) (out : OutOf)
    (spent : Bool) : Type 0 where
  pub spends : spent ≡ is_spent_by switch (sampled_by now samples switch)
  pub stands : Is (clocked now samples switch).switch
  pub frames : out ≡ record { frames = all_spelled (clocked now samples switch).frames; noframe = false }

-- the table was loaded: that of the topology that the switch has finished with, which is a graph, with a different
-- number from 1 to 126 for each member
pub record Loads (switch : SwitchOf) (Is : SwitchOf → Type 0) (table : TableOf) : Type 0 where
  pub topo : TopoOf
  pub finished : finish_of switch ≡ Some topo
  pub graph : IsGraph topo.entries
  pub numbers : AreNumbers topo.numbers
  pub as_many : length topo.entries ≡ length topo.numbers
  pub is_table : IsTableOf topo.entries topo.numbers switch.any switch.life table
  pub stands : Is (loaded table.number switch)
  pub least : 1 ≤ table.number
  pub most : table.number ≤ MOST_NUMBER
