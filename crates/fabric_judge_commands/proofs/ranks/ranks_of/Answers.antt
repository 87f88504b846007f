use Rattle.std.proofs.Common.{◌≡◌, ◌∙◌, sym, ap, subst, ℕ, ◌<◌, ◌/◌, ◌^◌, ◌++◌, List, Some, inl, inr, arith}
use Rattle.std.proofs.lemmas.Bool.{cases_eq}
use Rattle.fabric_model.specs.declared.node.EndPort.TheVariants.{Switch}
use Rattle.fabric_model.specs.Fabric.{guid_of}
use Rattle.fabric_routes.specs.Found.{channel_of}
use Rattle.fabric_print.specs.declared.ranks.Rank.{Rank}
use Rattle.fabric_verdict.specs.Verdict.{rank_in, spot_at}
use Rattle.fabric_judge_commands.specs.Certified.{rank_at}
use Rattle.fabric_judge_commands.proofs.RankLemmas.{flat_range_more}
use Rattle.fabric_judge_commands.proofs.ranks.ranks_of.Goals as goal

pub places-preserved : goal.places-preserved
places-preserved c =
    let fabric = c.args.fabric.now in
    let ranks = c.args.ranks.now in
    record {
      told =
          c.in_ok-push_rank.ensures.told
          ∙ ap (λ (told : List Rank). told ++ rank_at fabric ranks (spot_at fabric.most c.places.place)) c.places.invariant.told
          ∙ sym (flat_range_more (λ place. rank_at fabric ranks (spot_at fabric.most place)) c.places.place);
      small = λ place rank low has. elim (cases_eq place c.places.place) [
        | inl same ↦ subst (λ (p : ℕ). (guid_of fabric (Switch (p / fabric.most)) < 2 ^ 64) × (rank < 2 ^ 32)) (sym same) (c.in_ok-push_rank.ensures.small rank (subst (λ (p : ℕ). rank_in fabric ranks (channel_of (spot_at fabric.most p)) ≡ Some rank) same has))
        | inr differs ↦ c.places.invariant.small place rank (omega arith) has
      ];
    }
