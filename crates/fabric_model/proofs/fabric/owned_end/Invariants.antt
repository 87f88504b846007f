use Rattle.std.proofs.Common.{◌≡◌, ◌≤◌, ℕ, None, length}
use Rattle.std.specs.Prelude.{slice_index_or}
use Rattle.fabric_model.proofs.fabric.owned_end.Given as goal

abbrev pub invariant-lids : goal.invariant-lids
invariant-lids l = record {
  low : l.end ≤ length l.owners;
  none : (lid : ℕ) → l.end ≤ lid → slice_index_or l.owners lid None ≡ None;
}

abbrev pub decreases-lids : goal.decreases-lids
decreases-lids l = l.end
