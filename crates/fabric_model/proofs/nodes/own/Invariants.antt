use Rattle.std.proofs.Common.{◌≡◌, ◌<◌, ◌≤◌, ℕ, true, false, length, get_or}
use Rattle.fabric_model.proofs.nodes.own.Given as goal

-- the LIDs from the first up to this one are flagged, and all others as before
abbrev pub invariant-lids : goal.invariant-lids
invariant-lids l = record {
  count : length l.owned ≡ 49152;
  inside : (k : ℕ) → l.first ≤ k → k < l.lid → get_or l.owned k false ≡ true;
  before : (k : ℕ) → k < l.first → get_or l.owned k false ≡ get_or l.fn.owned k false;
  after : (k : ℕ) → l.lid ≤ k → get_or l.owned k false ≡ get_or l.fn.owned k false;
}
