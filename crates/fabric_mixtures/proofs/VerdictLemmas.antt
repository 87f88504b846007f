-- The verdict on the graph, of the channels.
use Rattle.std.proofs.Common.{◌≡◌, ◌∙◌, sym, ap, subst, refl, ℕ, ◌<◌, max, List, [], ◌∷◌, None, Bool, true, false, map, arith}
use Rattle.std.specs.Prelude.{slice_get}
use Rattle.std.specs.Bool.{OnFalse, OnTrue}
use Rattle.std.specs.Ordering.{nat_cmp}
use Rattle.common_graph.specs.Cycles.{AreRanks, HasNoCycle, IsCycle, IsLeastCycle}
use Rattle.common_graph.specs.Graph.{GraphOf, IsNode, LeadsTo}
use Rattle.common_graph.specs.Verdict.{Passes}
use Rattle.common_graph.proofs.NumberLemmas.{least_cycle, no_cycle, ranks}
use Rattle.fabric_tables.specs.Cells.{TablesOf}
use Rattle.fabric_model.specs.declared.node.Side.{Side}
use Rattle.fabric_model.specs.declared.node.Spot.{Spot}
use Rattle.fabric_model.specs.Fabric.{FabricOf, IsFabric, side_of}
use Rattle.fabric_routes.specs.Counting.{IsCountOf}
use Rattle.fabric_routes.specs.Found.{IsChannel, channel_of, number}
use Rattle.fabric_routes.specs.Routes.{Channel}
use Rattle.fabric_routes.proofs.ChannelLemmas.{channel_low, channel_place}
use Rattle.fabric_verdict.specs.Steps.{IsStep}
use Rattle.fabric_verdict.specs.Verdict.{channel_cmp, rank_in, rank_over, spot_at}
use Rattle.fabric_verdict.proofs.NumberLemmas.{channel_at, channel_back, in_order, rank_none}
use Rattle.fabric_mixtures.specs.declared.judge.LoopChannel.{LoopChannel}
use Rattle.fabric_mixtures.specs.Steps.{AreSteps, looped_by}
use Rattle.fabric_mixtures.specs.Verdict.{HasLoop, HasNoLoop, IsLeastTurn, IsLooped}
use Rattle.fabric_verdict.proofs.CountLemmas.{count_of_steps, number_back}

-- a channel that is told, and what is told with it and the next one
abbrev pub channel_in : LoopChannel → Spot
channel_in one = one.channel

abbrev pub Fits : FabricOf → (old new : TablesOf) → LoopChannel → Spot → Type 0
Fits fabric old new one next = IsLeastTurn fabric old new (channel_of one.channel) (channel_of next) one.turn

-- the channels of ports of places
maps : (most : ℕ) (places : List ℕ) → map channel_of (map (spot_at most) places) ≡ map (channel_at most) places
maps most [] = refl
maps most (place ∷ places) = ap (λ (xs : List Channel). channel_at most place ∷ xs) (maps most places)

module _ (fabric : FabricOf) (Step : Channel → Channel → Type 0) (both : (one other : Channel) → Step one other → IsChannel fabric one × IsChannel fabric other) (g : GraphOf) (are : AreSteps fabric Step g) where
  some_most : (one other : ℕ) → LeadsTo g one other → 0 < fabric.most
  some_most one other leads =
      let found = are.only one other leads in
      let low = channel_low fabric found.0 found.2 in
      let port = low.0 in
      let most = low.1 in
      omega arith

  loop_most : (places : List ℕ) → IsLeastCycle nat_cmp (LeadsTo g) places → 0 < fabric.most
  loop_most [] least = absurd least
  loop_most (n ∷ []) least = some_most n n least.from.closed
  loop_most (n ∷ k ∷ ks) least = some_most n k least.from.closed.0

  pub least_loop : (most : ℕ) (places : List ℕ) (spots : List Spot) → most ≡ max fabric.most 1 → spots ≡ map (spot_at most) places → IsLeastCycle nat_cmp (LeadsTo g) places → IsLeastCycle channel_cmp Step (map channel_of spots)
  least_loop most places spots is_most is least =
      let some = loop_most places least in
      let same : most ≡ fabric.most = omega arith in
      let cycle = least_cycle (IsChannel fabric) (number fabric) (channel_at fabric.most) (channel_back fabric) Step both (LeadsTo g) are.exact are.only channel_cmp (in_order fabric) places least in
      subst (λ (xs : List Spot). IsLeastCycle channel_cmp Step (map channel_of xs)) (sym (is ∙ ap (λ (m : ℕ). map (spot_at m) places) same)) (subst (λ (xs : List Channel). IsLeastCycle channel_cmp Step xs) (sym (maps fabric.most places)) cycle)

  -- a closed walk, if the graph has one
  pub leads_round : (places : List ℕ) → IsLeastCycle nat_cmp (LeadsTo g) places → (start : Channel) × (rest : List Channel) × IsCycle Step start rest
  leads_round places least =
      let most = max fabric.most 1 in
      closed (map channel_of (map (spot_at most) places)) (least_loop most places (map (spot_at most) places) refl refl least)
    where
      closed : (channels : List Channel) → IsLeastCycle channel_cmp Step channels → (start : Channel) × (rest : List Channel) × IsCycle Step start rest
      closed [] none = absurd none
      closed (start ∷ rest) is = (start, rest, is.from.closed)

  pub none_round : (list : List ℕ) → Passes g list → HasNoCycle Step
  none_round list passes = no_cycle (IsChannel fabric) (number fabric) (channel_at fabric.most) (channel_back fabric) Step both (LeadsTo g) are.exact are.only passes.no_cycle

  pub all_ranked : IsFabric fabric → (list : List ℕ) → Passes g list → AreRanks (IsChannel fabric) Step (rank_in fabric list)
  all_ranked is_fabric list passes = ranks (IsChannel fabric) (number fabric) (channel_at fabric.most) (channel_back fabric) Step both (LeadsTo g) are.exact are.only (IsNode g) (slice_get list) (rank_in fabric list) inside same none passes.ranked
    where
      inside : (channel : Channel) → IsChannel fabric channel → IsNode g (number fabric channel)
      inside channel is = let low = channel_place fabric is_fabric channel is in let count = are.count in omega arith

      same : (channel : Channel) → IsChannel fabric channel → rank_in fabric list channel ≡ slice_get list (number fabric channel)
      same channel is = ap (λ (side : Side). rank_over side (slice_get list (number fabric channel))) is.leads

      none : (channel : Channel) → (IsChannel fabric channel → ⊥) → rank_in fabric list channel ≡ None
      none channel other = rank_none fabric (side_of fabric channel.switch channel.port) (slice_get list (number fabric channel)) (λ to entry leads. other (record { to = to; entry = entry; leads = leads }))

  -- as many steps of the graph as there are pairs of channels
  pub pairs : (count : ℕ) → IsCountOf (IsStep g) count → IsCountOf (λ (pair : Channel × Channel). Step pair.0 pair.1) count
  pairs count is = count_of_steps (IsChannel fabric) (number fabric) (channel_at fabric.most) (channel_back fabric) (number_back fabric) Step both g are.exact are.only count is

-- which of two tables have a loop
pub looped_is : (fabric : FabricOf) (old new : TablesOf) (is_old is_new : Bool) → OnTrue is_old (HasLoop fabric old) → OnFalse is_old (HasNoLoop fabric old) → OnTrue is_new (HasLoop fabric new) → OnFalse is_new (HasNoLoop fabric new) → IsLooped fabric old new (looped_by is_old is_new)
looped_is fabric old new true true has none has_new none_new = (has, has_new)
looped_is fabric old new true false has none has_new none_new = (has, none_new)
looped_is fabric old new false true has none has_new none_new = (none, has_new)
looped_is fabric old new false false has none has_new none_new = (none, none_new)
