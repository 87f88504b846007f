use Rattle.std.proofs.Common.{◌≡◌, map}
use Rattle.std.specs.List.{range_with_len}
use Rattle.net_state.specs.Starts.{begun_station}
use Rattle.net_state.proofs.stations.begun.Given as goal

-- the stations so far
abbrev pub invariant-switches : goal.invariant-switches
invariant-switches l = l.stations.items ≡ map (begun_station l.wiring l.epoch) (range_with_len 0 l.s)
