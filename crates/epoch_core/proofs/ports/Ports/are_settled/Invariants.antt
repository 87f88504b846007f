use Rattle.std.proofs.Common.{◌≡◌, true, take}
use Rattle.std.specs.List.{list_all}
use Rattle.epoch_core.specs.Log.{Log}
use Rattle.epoch_core.specs.Epoch.{is_settled}
use Rattle.epoch_core.specs.Heard.{HasHeard}
use Rattle.epoch_core.proofs.ports.Ports.are_settled.Given as goal

-- the links so far are settled
abbrev pub invariant-links : goal.invariant-links
invariant-links l = (log : Log) → HasHeard l.self log → list_all (is_settled l.version log) (take l.link-index l.link-items) ≡ true
