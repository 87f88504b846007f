use Rattle.std.proofs.Common.{◌≡◌, ◌∷◌, take}
use Rattle.std.specs.List.{flat_map}
use Rattle.topo_report.specs.Report.{report_of}
use Rattle.epoch_core.specs.Log.{Log}
use Rattle.epoch_core.specs.Epoch.{reported_on, claiming_among}
use Rattle.epoch_core.specs.Heard.{HasHeard}
use Rattle.epoch_core.proofs.ports.Ports.report.Given as goal

-- the report of the entry and what the claiming links so far reported
abbrev pub invariant-links : goal.invariant-links
invariant-links l = (log : Log) → HasHeard l.self log → l.report ≡ record { me = l.fn.own.life; entries = report_of l.fn.own.life (l.fn.own ∷ flat_map (reported_on log) (claiming_among (take l.link-index l.link-items) log)) }
