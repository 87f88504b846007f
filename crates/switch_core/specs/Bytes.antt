-- The bytes of the frames that go out.

use Rattle.std.specs.Prelude.{◌≡◌, ℕ, ◌≤◌, List, map, Bool}
use Rattle.an_base.specs.declared.frame.Frame.{Frame}
use Rattle.an_base.specs.declared.limits.TheConstants.{LAST_PORT}
use Rattle.frame_codec.specs.Frames.{IsFrame}
use Rattle.frame_codec.specs.Spelling.{spelling}
use Rattle.switch_core.specs.Steps.{Sent}

-- the bytes of a frame, and the port on which it goes out
pub record BytesOut : Type 0 where
  pub port : ℕ
  pub bytes : List ℕ

-- `out` has the bytes of a frame, and goes out on an external port
pub record IsFrameOut (out : BytesOut) : Type 0 where
  pub least : 1 ≤ out.port
  pub most : out.port ≤ LAST_PORT
  pub frame : Frame
  pub is_frame : IsFrame frame
  pub spelled : out.bytes ≡ spelling frame

-- a frame that goes out, as bytes
abbrev pub spelled_out : Sent → BytesOut
spelled_out sent = record { port = sent.port; bytes = spelling sent.frame }

-- frames that go out, as bytes
abbrev pub all_spelled : List Sent → List BytesOut
all_spelled frames = map spelled_out frames

-- the result of a call: the frames that go out, in order, and whether the bytes that came in are no frame
pub record OutOf : Type 0 where
  pub frames : List BytesOut
  pub noframe : Bool
