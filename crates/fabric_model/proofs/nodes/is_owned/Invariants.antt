use Rattle.std.proofs.Common.{◌≡◌, ◌<◌, ◌≤◌, ℕ, false, get_or}
use Rattle.fabric_model.proofs.nodes.is_owned.Given as goal

-- none of the LIDs so far is flagged
abbrev pub invariant-lids : goal.invariant-lids
invariant-lids l = (k : ℕ) → l.first ≤ k → k < l.lid → get_or l.owned k false ≡ false
