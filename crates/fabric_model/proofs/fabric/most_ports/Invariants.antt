use Rattle.std.proofs.Common.{◌≡◌, ◌⊎◌, Contains, ◌<◌, ◌≤◌, ℕ}
use Rattle.std.specs.Prelude.{slice_index_or}
use Rattle.fabric_model.specs.declared.node.Switch.{Switch}
use Rattle.fabric_model.proofs.fabric.most_ports.Given as goal

abbrev pub invariant-switches : goal.invariant-switches
invariant-switches l = record {
  all : (k : ℕ) (default : ℕ × Switch) → k < l.place → (slice_index_or l.switches.entries k default).1.ports ≤ l.most;
  some : (l.most ≡ 0) ⊎ ((node : ℕ × Switch) × Contains l.switches.entries node × (node.1.ports ≡ l.most));
  low : l.most < 255;
}
