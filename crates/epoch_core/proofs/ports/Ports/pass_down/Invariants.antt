use Rattle.std.proofs.Common.{◌≡◌, ◌++◌, map, take}
use Rattle.epoch_core.specs.Log.{Log}
use Rattle.epoch_core.specs.Epoch.{passed_on, claiming_among}
use Rattle.epoch_core.specs.Heard.{HasHeard}
use Rattle.epoch_core.proofs.ports.Ports.pass_down.Given as goal

-- the topology on the claiming links so far
abbrev pub invariant-links : goal.invariant-links
invariant-links l = (log : Log) → HasHeard l.self log → l.sends ≡ l.fn.sends ++ map (passed_on l.topo) (claiming_among (take l.link-index l.link-items) log)
