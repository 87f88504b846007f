-- What can happen to one switch in the world, and its effect on the switch.

use Rattle.std.specs.Prelude.{ℕ, List, Option, Some, None}
use Rattle.an_base.specs.declared.frame.Frame.{Frame}
use Rattle.an_base.specs.declared.port.Sample.{Sample}
use Rattle.switch_core.specs.Switch.{SwitchOf}
use Rattle.switch_core.specs.Steps.{Step, still, framed, clocked, loaded}

-- a switch starts its next life, handles a clock event, a frame or bytes that are no frame, or loads a table
pub data Act : Type 0 where
  Starts : (next : SwitchOf) → Act
  Clocks : (now : ℕ) (samples : List Sample) → Act
  Hears : (port : ℕ) (frame : Frame) → Act
  HearsNothing : Act
  Loads : (number : ℕ) → Act

-- the step of the switch for this act: what it becomes, and the frames that go out
abbrev pub acted : Act → SwitchOf → Step
acted (Starts next) switch = still next
acted (Clocks now samples) switch = clocked now samples switch
acted (Hears port frame) switch = framed port frame switch
acted HearsNothing switch = still switch
acted (Loads number) switch = still (loaded number switch)

-- the act of a switch that handles bytes that came in on `port`, by the frame that they are, if they are one
abbrev pub hears : ℕ → Option Frame → Act
hears port None = HearsNothing
hears port (Some frame) = Hears port frame
