-- Ranks of channels as numbers that fall along each dependency.
use Rattle.std.proofs.Common.{◌≡◌, ◌∙◌, refl, ap, sym, ℕ, ◌<◌, ◌≤◌, List, Option, Some, None, arith}
use Rattle.std.specs.Prelude.{MatchOption, slice_get}
use Rattle.std.proofs.lemmas.Option.{get_or_from_slice_get}
use Rattle.fabric_tables.specs.Cells.{TablesOf}
use Rattle.fabric_model.specs.declared.node.Side.{Side}
use Rattle.fabric_model.specs.Fabric.{FabricOf}
use Rattle.fabric_model.specs.declared.traffic.Traffic.{Traffic}
use Rattle.fabric_routes.specs.Found.{IsChannel, channel_of, number}
use Rattle.fabric_routes.specs.Routes.{Channel, DependsOn}
use Rattle.fabric_routes.proofs.ChannelLemmas.{first_is, second_is}
use Rattle.fabric_verdict.specs.declared.verify.Rise.{Rise}
use Rattle.fabric_verdict.specs.Verdict.{HasRanks, AreAtMost, rank_in, rank_over}
use Rattle.fabric_verdict.specs.Verified.{Fall, IsFirstRise, told_rank}

-- the number of a rank, 0 where there is none
abbrev pub value : Option ℕ → ℕ
value None = 0
value (Some rank) = rank

abbrev pub rank_of : FabricOf → List ℕ → Channel → ℕ
rank_of fabric ranks channel = value (rank_in fabric ranks channel)

pub ranks_fall : (fabric : FabricOf) (tables : TablesOf) (traffic : Traffic) (ranks : List ℕ) → HasRanks fabric tables traffic ranks → (channel next : Channel) → DependsOn fabric tables traffic channel next → rank_of fabric ranks next < rank_of fabric ranks channel
ranks_fall fabric tables traffic ranks has channel next depends =
    let own = has.ranked.nodes channel (first_is fabric tables traffic depends.0 depends.1 channel next depends.2) in
    let below = own.2.above next depends in
    let here : rank_of fabric ranks channel ≡ own.0 = ap value own.1 in
    let there : rank_of fabric ranks next ≡ below.0 = ap value below.1 in
    let less = below.2 in
    omega arith

value_low : (rank : Option ℕ) (most : ℕ) → ((own : ℕ) → rank ≡ Some own → own ≤ most) → value rank ≤ most
value_low None most low = omega arith
value_low (Some own) most low = low own refl

pub ranks_low : (fabric : FabricOf) (ranks : List ℕ) (most : ℕ) → AreAtMost fabric ranks most → (channel : Channel) → rank_of fabric ranks channel ≤ most
ranks_low fabric ranks most low channel = value_low (rank_in fabric ranks channel) most (λ own has. low channel own has)

-- the rank that a list has for a channel, as the number that it tells
told_is : (fabric : FabricOf) (ranks : List ℕ) (channel : Channel) → IsChannel fabric channel → (own : ℕ) → rank_in fabric ranks channel ≡ Some own → told_rank fabric ranks channel ≡ own
told_is fabric ranks channel is own has =
    let there : slice_get ranks (number fabric channel) ≡ Some own = sym (ap (λ (side : Side). rank_over side (slice_get ranks (number fabric channel))) is.leads) ∙ has in
    get_or_from_slice_get ranks (number fabric channel) own 0 there

module _ (fabric : FabricOf) (tables : TablesOf) (traffic : Traffic) (ranks : List ℕ) where
  pub told_fall : HasRanks fabric tables traffic ranks → Fall fabric tables traffic ranks
  told_fall has channel next depends =
      let is = first_is fabric tables traffic depends.0 depends.1 channel next depends.2 in
      let is_next = second_is fabric tables traffic depends.0 depends.1 channel next depends.2 in
      let own = has.ranked.nodes channel is in
      let below = own.2.above next depends in
      let here = told_is fabric ranks channel is own.0 own.1 in
      let there = told_is fabric ranks next is_next below.0 below.1 in
      let less = below.2 in
      omega arith

  -- none of ranks that fall is told to rise
  pub none_rises : (rise : Option Rise) → Fall fabric tables traffic ranks → MatchOption rise (Fall fabric tables traffic ranks) (IsFirstRise fabric tables traffic ranks) → rise ≡ None
  none_rises None falls is = refl
  none_rises (Some rise) falls is = absurd (let less = falls (channel_of rise.channel) (channel_of rise.next) is.rises.depends in let up = is.rises.rises in omega arith)

  -- what tells the same of each channel falls too
  pub same_fall : (other : List ℕ) → Fall fabric tables traffic ranks → ((channel : Channel) → IsChannel fabric channel → told_rank fabric other channel ≡ told_rank fabric ranks channel) → Fall fabric tables traffic other
  same_fall other falls same channel next depends =
      let own = same channel (first_is fabric tables traffic depends.0 depends.1 channel next depends.2) in
      let below = same next (second_is fabric tables traffic depends.0 depends.1 channel next depends.2) in
      let less = falls channel next depends in
      omega arith
