-- How contracts see the ports and the public state of a switch.
use Rattle.std.specs.Prelude.{ℕ, Bool, List, Option}
use Rattle.an_base.specs.Values.{LifeId, EndId}
use Rattle.an_base.specs.declared.port.PortState.{PortState}

-- the state of a port, and the other end if it is known
pub record PortViewOf : Type 0 where
  pub state : PortState
  pub peer : Option EndId

-- the public state of a switch: its life and epoch, its external ports from port 1, whether it must load a table, and
-- whether some body that it pushed is not acknowledged
pub record NoteOf : Type 0 where
  pub life : LifeId
  pub epoch : ℕ
  pub ports : List PortViewOf
  pub load_due : Bool
  pub unacked : Bool
