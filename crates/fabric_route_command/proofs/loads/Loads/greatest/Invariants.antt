use Rattle.std.proofs.Common.{◌≡◌, ◌≢◌, ◌<◌, ◌≤◌, ℕ, get_or}
use Rattle.fabric_route_command.proofs.loads.Loads.greatest.Given as goal

abbrev pub invariant-loads : goal.invariant-loads
invariant-loads l = record {
  most : (at : ℕ) → at < l.load-index → get_or l.self.each.items at 0 ≤ l.greatest;
  some : l.greatest ≢ 0 → (at : ℕ) × (at < l.load-index) × (get_or l.self.each.items at 0 ≡ l.greatest);
}
