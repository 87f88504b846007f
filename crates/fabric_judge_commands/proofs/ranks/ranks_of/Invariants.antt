use Rattle.std.proofs.Common.{◌≡◌, ℕ, ◌<◌, ◌/◌, ◌^◌, Some}
use Rattle.std.specs.List.{flat_map, range_with_len}
use Rattle.fabric_model.specs.declared.node.EndPort.TheVariants.{Switch}
use Rattle.fabric_model.specs.Fabric.{guid_of}
use Rattle.fabric_routes.specs.Found.{channel_of}
use Rattle.fabric_verdict.specs.Verdict.{rank_in, spot_at}
use Rattle.fabric_judge_commands.specs.Certified.{rank_at}
use Rattle.fabric_judge_commands.proofs.ranks.ranks_of.Given as goal

-- the ranks so far, and that their numbers are small
abbrev pub invariant-places : goal.invariant-places
invariant-places l = record {
  told : l.told.items ≡ flat_map (λ place. rank_at l.fabric l.ranks (spot_at l.fabric.most place)) (range_with_len 0 l.place);
  small : (place rank : ℕ) → place < l.place → rank_in l.fabric l.ranks (channel_of (spot_at l.fabric.most place)) ≡ Some rank → (guid_of l.fabric (Switch (place / l.fabric.most)) < 2 ^ 64) × (rank < 2 ^ 32);
}
