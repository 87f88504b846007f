-- Channels on lanes by their numbers, and the verdict on their graph.
use Rattle.std.proofs.Common.{◌≡◌, ◌∙◌, sym, ap, subst, refl, ℕ, ◌+◌, ◌*◌, ◌/◌, ◌%◌, ◌<◌, Bool, true, false, cond, max, List, [], ◌∷◌, None, map, mul_comm, arith}
use Rattle.std.specs.Prelude.{nat_lt, slice_get}
use Rattle.std.specs.declared.cmp.Ordering.{Ordering}
use Rattle.std.specs.Ordering.{nat_cmp, ordering_then}
use Rattle.std.proofs.lemmas.Bool.Decides.{nat_tests}
use Rattle.std.proofs.lemmas.Nat.{div-mul-add, mod-mul-add, mul-add-lt}
use Rattle.std.proofs.Math.Nat.{div-add-mod}
use Rattle.common_graph.specs.Graph.{GraphOf, IsNode, LeadsTo}
use Rattle.common_graph.specs.Cycles.{IsLeastCycle}
use Rattle.common_graph.specs.Verdict as graph
use Rattle.common_graph.proofs.NumberLemmas.{least_cycle, no_cycle, ranks}
use Rattle.fabric_tables.specs.Cells.{TablesOf}
use Rattle.fabric_model.specs.declared.node.Side.{Side}
use Rattle.fabric_model.specs.declared.node.Side.TheVariants.{Bare, To, End}
use Rattle.fabric_model.specs.Fabric.{FabricOf, IsFabric, side_of, switch_count}
use Rattle.fabric_lane_tables.specs.Lanes.{IsLaneCount, LanesOf}
use Rattle.fabric_lane_tables.specs.PathLevels.{LevelsOf}
use Rattle.fabric_model.specs.declared.traffic.Traffic.{Traffic}
use Rattle.fabric_routes.specs.Counting.{IsCountOf}
use Rattle.fabric_routes.specs.Found.{number}
use Rattle.fabric_routes.proofs.ChannelLemmas.{channel_low, channel_place}
use Rattle.fabric_verdict.specs.Steps.{IsStep}
use Rattle.fabric_verdict.specs.Verdict.{rank_over}
use Rattle.fabric_verdict.proofs.CountLemmas.{count_of_steps}
use Rattle.fabric_verdict.proofs.CountLemmas as one
use Rattle.fabric_verdict.proofs.NumberLemmas.{channel_at, place_cmp}
use Rattle.fabric_verdict.proofs.NumberLemmas as link
use Rattle.fabric_lane_routes.specs.LaneFound.{IsLaneChannel, lane_number, link_of}
use Rattle.fabric_lane_routes.specs.LaneRoutes.{LaneChannel, LaneDependsOn}
use Rattle.fabric_lane_waves.specs.LaneBlocks.{AreLaneDependencies}
use Rattle.fabric_lane_waves.proofs.FindLemmas.{first_is, second_is}
use Rattle.fabric_lane_witness.specs.Witness.{lane_channel_of}
use Rattle.fabric_lane_witness.specs.declared.witness.LaneSpot.{LaneSpot}
use Rattle.fabric_lane_verdict.specs.LaneJudgements.{IsLaneDependencyCount}
use Rattle.fabric_lane_verdict.specs.LaneVerdict.{IsLeastLaneLoop, LaneHasRanks, lane_channel_cmp, lane_rank_in, lane_spot_at}
use Rattle.fabric_lane_verdict.proofs.ChannelLemmas.{link_is, on}

abbrev pub lane_channel_at : ℕ → ℕ → ℕ → LaneChannel
lane_channel_at most count place = lane_channel_of (lane_spot_at most count place)

module _ (fabric : FabricOf) (count : ℕ) where
  -- the channel of its number
  pub channel_back : (channel : LaneChannel) → IsLaneChannel fabric count channel → lane_channel_at fabric.most count (lane_number fabric count channel) ≡ channel
  channel_back channel is =
      let place = number fabric (link_of channel) in
      let outer : (place * count + channel.lane) / count ≡ place = div-mul-add place count channel.lane is.low in
      let inner : (place * count + channel.lane) % count ≡ channel.lane = mod-mul-add place count channel.lane is.low in
      ap (λ (n : ℕ). on ((place * count + channel.lane) % count) (channel_at fabric.most n)) outer
      ∙ ap (on ((place * count + channel.lane) % count)) (link.channel_back fabric (link_of channel) (link_is fabric count channel is))
      ∙ ap (λ (lane : ℕ). on lane (link_of channel)) inner

  pub number_back : (place : ℕ) → lane_number fabric count (lane_channel_at fabric.most count place) ≡ place
  number_back place =
      let whole = div-add-mod place count in
      let turn = mul_comm count (place / count) in
      ap (λ (n : ℕ). n * count + place % count) (one.number_back fabric (place / count)) ∙ (omega arith)

  pub in_order : (one other : LaneChannel) → IsLaneChannel fabric count one → IsLaneChannel fabric count other → lane_channel_cmp one other ≡ nat_cmp (lane_number fabric count one) (lane_number fabric count other)
  in_order one other is too =
      ap (λ (o : Ordering). ordering_then o (nat_cmp one.lane other.lane)) (link.in_order fabric (link_of one) (link_of other) (link_is fabric count one is) (link_is fabric count other too))
      ∙ place_cmp (number fabric (link_of one)) (number fabric (link_of other)) count one.lane other.lane is.low too.low

  -- the channels of places
  maps : (most : ℕ) (places : List ℕ) → map lane_channel_of (map (lane_spot_at most count) places) ≡ map (lane_channel_at most count) places
  maps most [] = refl
  maps most (place ∷ places) = ap (λ (xs : List LaneChannel). lane_channel_at most count place ∷ xs) (maps most places)

  -- the number of a channel is one of all
  pub number_low : IsFabric fabric → (channel : LaneChannel) → IsLaneChannel fabric count channel → lane_number fabric count channel < switch_count fabric * fabric.most * count
  number_low fits channel is =
      let place = channel_place fabric fits (link_of channel) (link_is fabric count channel is) in
      let low = mul-add-lt (number fabric (link_of channel)) count channel.lane (switch_count fabric * fabric.most) place is.low in
      let turn = mul_comm count (switch_count fabric * fabric.most) in
      omega arith

  -- on a lane that there is a channel has the rank of its number, and on others none
  rank_on : (list : List ℕ) (channel : LaneChannel) → channel.lane < count → lane_rank_in fabric count list channel ≡ rank_over (side_of fabric channel.switch channel.port) (slice_get list (lane_number fabric count channel))
  rank_on list channel low = let test : nat_lt channel.lane count ≡ true = grind (arith, nat_tests) in ap (λ (b : Bool). rank_over (side_of fabric channel.switch channel.port) (cond b (slice_get list (lane_number fabric count channel)) None)) test

  rank_off : (side : Side) → rank_over side None ≡ None
  rank_off (To to entry) = refl
  rank_off Bare = refl
  rank_off (End end) = refl

  rank_none : (list : List ℕ) (channel : LaneChannel) → (IsLaneChannel fabric count channel → ⊥) → lane_rank_in fabric count list channel ≡ None
  rank_none list channel other = by (nat_lt channel.lane count) refl
    where
      by : (b : Bool) → nat_lt channel.lane count ≡ b → rank_over (side_of fabric channel.switch channel.port) (cond b (slice_get list (lane_number fabric count channel)) None) ≡ None
      by false test = rank_off (side_of fabric channel.switch channel.port)
      by true test =
          let low : channel.lane < count = grind (arith, nat_tests) in
          link.rank_none fabric (side_of fabric channel.switch channel.port) (slice_get list (lane_number fabric count channel)) (λ to entry leads. other (record { to = to; entry = entry; leads = leads; low = low }))

  module _ (tables : TablesOf) (lanes : LanesOf) (traffic : Traffic) (levels : LevelsOf) (counted : IsLaneCount lanes count) (g : GraphOf) (are : AreLaneDependencies fabric tables lanes count traffic levels g) where
    abbrev Depends : LaneChannel → LaneChannel → Type 0
    Depends = LaneDependsOn fabric tables lanes traffic levels

    pub both : (one other : LaneChannel) → Depends one other → IsLaneChannel fabric count one × IsLaneChannel fabric count other
    both one other (lid, source, level, takes) = (
      first_is fabric tables lanes count traffic levels counted lid source level one other takes,
      second_is fabric tables lanes count traffic levels counted lid source level one other takes,
    )

    some : (one other : ℕ) → LeadsTo g one other → (0 < fabric.most) × (0 < count)
    some one other leads =
        let found = are.only one other leads in
        let (used, low) = channel_low fabric (link_of found.0) (link_is fabric count found.0 found.2) in
        let lane = found.2.low in
        (omega arith, omega arith)

    loop_some : (places : List ℕ) → IsLeastCycle nat_cmp (LeadsTo g) places → (0 < fabric.most) × (0 < count)
    loop_some [] least = absurd least
    loop_some (n ∷ []) least = some n n least.from.closed
    loop_some (n ∷ k ∷ ks) least = some n k least.from.closed.0

    loop_as : (places : List ℕ) → IsLeastCycle nat_cmp (LeadsTo g) places → IsLeastLaneLoop fabric tables lanes traffic levels (map (lane_spot_at fabric.most count) places)
    loop_as places least =
        let cycle = least_cycle (IsLaneChannel fabric count) (lane_number fabric count) (lane_channel_at fabric.most count) channel_back Depends both (LeadsTo g) are.exact are.only lane_channel_cmp in_order places least in
        subst (λ (xs : List LaneChannel). IsLeastCycle lane_channel_cmp Depends xs) (sym (maps fabric.most places)) cycle

    pub loop : (most n : ℕ) (places : List ℕ) (spots : List LaneSpot) → most ≡ max fabric.most 1 → n ≡ max count 1 → spots ≡ map (lane_spot_at most n) places → IsLeastCycle nat_cmp (LeadsTo g) places → IsLeastLaneLoop fabric tables lanes traffic levels spots
    loop most n places spots is_most is_count is least =
        let (ports, lane) = loop_some places least in
        let same : most ≡ fabric.most = omega arith in
        let as_many : n ≡ count = omega arith in
        subst (λ (xs : List LaneSpot). IsLeastLaneLoop fabric tables lanes traffic levels xs) (sym (is ∙ ap (λ (m : ℕ). map (lane_spot_at m n) places) same ∙ ap (λ (k : ℕ). map (lane_spot_at fabric.most k) places) as_many)) (loop_as places least)

    pub ranked : IsFabric fabric → (list : List ℕ) → graph.Passes g list → LaneHasRanks fabric tables lanes traffic levels count list
    ranked fits list passes = record {
      no_cycle = no_cycle (IsLaneChannel fabric count) (lane_number fabric count) (lane_channel_at fabric.most count) channel_back Depends both (LeadsTo g) are.exact are.only passes.no_cycle;
      ranked = ranks (IsLaneChannel fabric count) (lane_number fabric count) (lane_channel_at fabric.most count) channel_back Depends both (LeadsTo g) are.exact are.only (IsNode g) (slice_get list) (lane_rank_in fabric count list) inside same (rank_none list) passes.ranked;
    }
      where
        inside : (channel : LaneChannel) → IsLaneChannel fabric count channel → IsNode g (lane_number fabric count channel)
        inside channel is = let low = number_low fits channel is in let nodes = are.nodes in omega arith

        same : (channel : LaneChannel) → IsLaneChannel fabric count channel → lane_rank_in fabric count list channel ≡ slice_get list (lane_number fabric count channel)
        same channel is = rank_on list channel is.low ∙ ap (λ (side : Side). rank_over side (slice_get list (lane_number fabric count channel))) is.leads

    pub dependencies : (n : ℕ) → IsCountOf (IsStep g) n → IsLaneDependencyCount fabric tables lanes traffic levels n
    dependencies n is = count_of_steps (IsLaneChannel fabric count) (lane_number fabric count) (lane_channel_at fabric.most count) channel_back number_back Depends both g are.exact are.only n is
