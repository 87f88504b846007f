-- What is kept of the bodies on each port.

use Rattle.std.specs.Prelude.{◌≡◌, ℕ, List, [], None, is_some, slice_index_or}
use Rattle.an_base.specs.declared.body.Body.{Body}
use Rattle.epoch_core.specs.declared.ports.Heard.{Heard}
use Rattle.epoch_core.specs.declared.ports.Ports.{Ports}
use Rattle.epoch_core.specs.Log.{Log, on_port, is_claimed, answered, last_report, fresh_report}

-- what is kept of the bodies on a port, the newest first, except for the last report
abbrev pub heard_of : List Body → Heard
heard_of bodies = record {
  answered = answered bodies;
  is_claimed = is_claimed bodies;
  is_fresh = is_some (fresh_report bodies);
}

-- `ports` has, for each port, what is kept of the bodies that the log has there
pub record HasHeard (ports : Ports) (log : Log) : Type 0 where
  pub heard : (port : ℕ) → slice_index_or ports.heard port (heard_of []) ≡ heard_of (on_port port log)
  pub reports : (port : ℕ) → slice_index_or ports.reports port None ≡ last_report (on_port port log)
