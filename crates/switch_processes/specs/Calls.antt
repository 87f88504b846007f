-- What the calls of a program make of its switch, by the contracts of these calls.

use Rattle.std.specs.Prelude.{◌≡◌, ◌≤◌, ℕ, List, [], ◌∷◌, Bool}
use Rattle.an_base.specs.Values.{LifeId}
use Rattle.an_base.specs.declared.frame.Frame.{Frame}
use Rattle.an_base.specs.declared.port.Sample.{Sample}
use Rattle.frame_codec.specs.Frames.{IsFrame, IsNoFrame}
use Rattle.frame_codec.specs.Spelling.{spelling}
use Rattle.table_build.specs.Tables.{TableOf}
use Rattle.switch_core.specs.Bytes.{OutOf}
use Rattle.switch_core.specs.Kept.{Handles, IsLoadDue, IsWorking, KeptOf, Loads as LoadsTable, StandsFor, Ticks}
use Rattle.switch_core.specs.Switch.{SwitchOf}
use Rattle.switch_game.specs.Network.{PowerOn}
use Rattle.switch_processes.specs.Processes.{Call, Clocks, Hears, Loads, switch_after}

-- What is kept of the switch of `life`, which a program started, after these calls. Bytes that do not form a frame
-- can come in between.
pub data HasCalled (on : PowerOn) (life : LifeId) : KeptOf → List Call → Type 0 where
  starts : (kept : KeptOf) → StandsFor kept (switch_after on life []) → HasCalled on life kept []
  clocks : (old new : KeptOf) (before : List Call) (now : ℕ) (samples : List Sample) (out : OutOf)
      (spent : Bool) → HasCalled on life old before → IsWorking old
      → ((switch : SwitchOf) → StandsFor old switch → Ticks now samples switch (StandsFor new) out spent)
      → HasCalled on life new (Clocks now samples ∷ before)
  hears : (old new : KeptOf) (before : List Call) (port : ℕ) (bytes : List ℕ) (frame : Frame) (out : OutOf)
      → HasCalled on life old before → IsWorking old → 1 ≤ port → port ≤ 12
      → IsFrame frame → bytes ≡ spelling frame
      → ((switch : SwitchOf) → StandsFor old switch → Handles port bytes switch (StandsFor new) out)
      → HasCalled on life new (Hears port frame ∷ before)
  hears_nothing : (old new : KeptOf) (before : List Call) (port : ℕ) (bytes : List ℕ) (out : OutOf)
      → HasCalled on life old before → IsNoFrame bytes
      → ((switch : SwitchOf) → StandsFor old switch → Handles port bytes switch (StandsFor new) out)
      → HasCalled on life new before
  loads : (old new : KeptOf) (before : List Call) (table : TableOf)
      → HasCalled on life old before → IsLoadDue old
      → ((switch : SwitchOf) → StandsFor old switch → LoadsTable switch (StandsFor new) table)
      → HasCalled on life new (Loads table.number ∷ before)
