use Rattle.std.proofs.Common.{◌≡◌, ◌+◌, ◌-◌, ◌<◌, ℕ, length, slice_index_or}
use Rattle.an_base.specs.declared.port.Sample.TheVariants as sample
use Rattle.wire_set.specs.WireState.{place, side_at}
use Rattle.net_state.specs.Fabric.{sample_of}
use Rattle.net_state.proofs.ports.samples.Given as goal

-- the samples of the ports so far
abbrev pub invariant-ports : goal.invariant-ports
invariant-ports l = record {
  size : length l.samples ≡ 12;
  each : (k : ℕ) → k < l.port - 1 → slice_index_or l.samples k sample.Down ≡ sample_of (side_at l.wires (place l.s (k + 1)));
}
