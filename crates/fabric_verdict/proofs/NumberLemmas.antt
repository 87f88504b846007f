-- Channels by their numbers, and the verdict on their graph.
use Rattle.std.proofs.Common.{◌≡◌, ◌∙◌, sym, ap, subst, refl, ℕ, ◌+◌, ◌-◌, ◌*◌, ◌<◌, max, List, [], ◌∷◌, Option, None, Less, Equal, Greater, map, mul_comm, inl, inr, arith}
use Rattle.std.specs.Prelude.{slice_get}
use Rattle.std.specs.declared.cmp.Ordering.{Ordering}
use Rattle.std.specs.Ordering.{nat_cmp, ordering_then}
use Rattle.std.proofs.lemmas.Bool.{cases_eq, cases_lt}
use Rattle.std.proofs.lemmas.Bool.Decides.{nat_tests}
use Rattle.std.proofs.lemmas.Nat.{div-mul-add, mod-mul-add, mul-add-lt}
use Rattle.common_graph.specs.Graph.{GraphOf, IsNode, LeadsTo}
use Rattle.common_graph.specs.Cycles.{IsLeastCycle}
use Rattle.common_graph.specs.Verdict as graph
use Rattle.common_graph.proofs.NumberLemmas.{least_cycle, no_cycle, ranks}
use Rattle.fabric_tables.specs.Cells.{TablesOf}
use Rattle.fabric_model.specs.declared.node.Side.{Side}
use Rattle.fabric_model.specs.declared.node.Side.TheVariants.{Bare, To, End}
use Rattle.fabric_model.specs.declared.node.Spot.{Spot}
use Rattle.fabric_model.specs.Fabric.{FabricOf, IsFabric, side_of}
use Rattle.fabric_model.specs.declared.traffic.Traffic.{Traffic}
use Rattle.fabric_routes.specs.Found.{IsChannel, channel_of, number}
use Rattle.fabric_routes.specs.Finding.{AreDependencies}
use Rattle.fabric_routes.specs.Routes.{Channel, DependsOn}
use Rattle.fabric_routes.proofs.ChannelLemmas.{channel_low, channel_place, first_is, second_is}
use Rattle.fabric_verdict.specs.Verdict.{HasRanks, IsLeastLoop, channel_cmp, rank_in, rank_over, spot_at}
use Rattle.fabric_verdict.proofs.OneAnswer.{same_parts}

cmp_less : (m n : ℕ) → m < n → nat_cmp m n ≡ Less
cmp_less m n less = grind (arith, nat_tests)

cmp_greater : (m n : ℕ) → n < m → nat_cmp m n ≡ Greater
cmp_greater m n less = grind (arith, nat_tests)

cmp_equal : (m n : ℕ) → m ≡ n → nat_cmp m n ≡ Equal
cmp_equal m n same = grind (arith, nat_tests)

-- numbers that are as far apart are in the same order
cmp_same : (m n k l : ℕ) → m + l ≡ n + k → nat_cmp m n ≡ nat_cmp k l
cmp_same m n k l far = elim (cases_lt m n) [
  | inl less ↦ cmp_less m n less ∙ sym (cmp_less k l (omega arith))
  | inr more ↦ elim (cases_eq m n) [
    | inl equal ↦ cmp_equal m n equal ∙ sym (cmp_equal k l (omega arith))
    | inr away ↦ cmp_greater m n (omega arith) ∙ sym (cmp_greater k l (omega arith))
  ]
]

-- places are in the order of what they are places of
places_less : (a b most c d : ℕ) → a < b → c < most → a * most + c < b * most + d
places_less a b most c d less low = let h : a * most + c < b * most = subst (λ (n : ℕ). a * most + c < n) (mul_comm most b) (mul-add-lt a most c b less low) in omega arith

pub place_cmp : (a b most c d : ℕ) → c < most → d < most → ordering_then (nat_cmp a b) (nat_cmp c d) ≡ nat_cmp (a * most + c) (b * most + d)
place_cmp a b most c d low too = elim (cases_lt a b) [
  | inl less ↦ ap (λ (o : Ordering). ordering_then o (nat_cmp c d)) (cmp_less a b less) ∙ sym (cmp_less (a * most + c) (b * most + d) (places_less a b most c d less low))
  | inr more ↦ elim (cases_eq a b) [
    | inr away ↦ ap (λ (o : Ordering). ordering_then o (nat_cmp c d)) (cmp_greater a b (omega arith)) ∙ sym (cmp_greater (a * most + c) (b * most + d) (places_less b a most d c (omega arith) too))
    | inl same ↦ ap (λ (o : Ordering). ordering_then o (nat_cmp c d)) (cmp_equal a b same) ∙ cmp_same c d (a * most + c) (b * most + d) (let e : a * most ≡ b * most = ap (λ (x : ℕ). x * most) same in omega arith)
  ]
]

abbrev pub channel_at : ℕ → ℕ → Channel
channel_at most place = channel_of (spot_at most place)

module _ (fabric : FabricOf) where
  -- the channel of its number
  pub channel_back : (channel : Channel) → IsChannel fabric channel → channel_at fabric.most (number fabric channel) ≡ channel
  channel_back channel is =
      let low = channel_low fabric channel is in
      let port = low.0 in
      let most = low.1 in
      same_parts (channel_at fabric.most (number fabric channel)) channel (div-mul-add channel.switch fabric.most (channel.port - 1) (omega arith)) (let e = mod-mul-add channel.switch fabric.most (channel.port - 1) (omega arith) in omega arith)

  pub in_order : (one other : Channel) → IsChannel fabric one → IsChannel fabric other → channel_cmp one other ≡ nat_cmp (number fabric one) (number fabric other)
  in_order one other is too =
      let (used, low) = channel_low fabric one is in
      let (used_too, low_too) = channel_low fabric other too in
      ap (λ (o : Ordering). ordering_then (nat_cmp one.switch other.switch) o) (cmp_same one.port other.port (one.port - 1) (other.port - 1) (omega arith))
      ∙ place_cmp one.switch other.switch fabric.most (one.port - 1) (other.port - 1) (omega arith) (omega arith)

  -- the channels of ports of places
  maps : (most : ℕ) (places : List ℕ) → map channel_of (map (spot_at most) places) ≡ map (channel_at most) places
  maps most [] = refl
  maps most (place ∷ places) = ap (λ (xs : List Channel). channel_at most place ∷ xs) (maps most places)

  pub rank_none : (side : Side) (rank : Option ℕ) → ((to entry : ℕ) → side ≡ To to entry → ⊥) → rank_over side rank ≡ None
  rank_none (To to entry) rank other = absurd (other to entry refl)
  rank_none Bare rank other = refl
  rank_none (End end) rank other = refl

  module _ (tables : TablesOf) (traffic : Traffic) (g : GraphOf) (are : AreDependencies fabric tables traffic g) where
    pub both : (one other : Channel) → DependsOn fabric tables traffic one other → IsChannel fabric one × IsChannel fabric other
    both one other (lid, source, takes) = (first_is fabric tables traffic lid source one other takes, second_is fabric tables traffic lid source one other takes)

    some_most : (one other : ℕ) → LeadsTo g one other → 0 < fabric.most
    some_most one other leads =
        let found = are.only one other leads in
        let low = channel_low fabric found.0 found.2 in
        let port = low.0 in
        let most = low.1 in
        omega arith

    loop_most : (places : List ℕ) → IsLeastCycle nat_cmp (LeadsTo g) places → 0 < fabric.most
    loop_most [] least = absurd least
    loop_most (n ∷ []) least = some_most n n least.from.closed
    loop_most (n ∷ k ∷ ks) least = some_most n k least.from.closed.0

    pub loop : (most : ℕ) (places : List ℕ) (spots : List Spot) → most ≡ max fabric.most 1 → spots ≡ map (spot_at most) places → IsLeastCycle nat_cmp (LeadsTo g) places → IsLeastLoop fabric tables traffic spots
    loop most places spots is_most is least =
        let some = loop_most places least in
        let same : most ≡ fabric.most = omega arith in
        let cycle = least_cycle (IsChannel fabric) (number fabric) (channel_at fabric.most) channel_back (DependsOn fabric tables traffic) both (LeadsTo g) are.exact are.only channel_cmp in_order places least in
        subst (λ (xs : List Spot). IsLeastLoop fabric tables traffic xs) (sym (is ∙ ap (λ (m : ℕ). map (spot_at m) places) same)) (subst (λ (xs : List Channel). IsLeastCycle channel_cmp (DependsOn fabric tables traffic) xs) (sym (maps fabric.most places)) cycle)

    pub ranked : IsFabric fabric → (list : List ℕ) → graph.Passes g list → HasRanks fabric tables traffic list
    ranked is_fabric list passes = record {
      no_cycle = no_cycle (IsChannel fabric) (number fabric) (channel_at fabric.most) channel_back (DependsOn fabric tables traffic) both (LeadsTo g) are.exact are.only passes.no_cycle;
      ranked = ranks (IsChannel fabric) (number fabric) (channel_at fabric.most) channel_back (DependsOn fabric tables traffic) both (LeadsTo g) are.exact are.only (IsNode g) (slice_get list) (rank_in fabric list) inside same none passes.ranked;
    }
      where
        inside : (channel : Channel) → IsChannel fabric channel → IsNode g (number fabric channel)
        inside channel is = let low = channel_place fabric is_fabric channel is in let count = are.count in omega arith

        same : (channel : Channel) → IsChannel fabric channel → rank_in fabric list channel ≡ slice_get list (number fabric channel)
        same channel is = ap (λ (side : Side). rank_over side (slice_get list (number fabric channel))) is.leads

        none : (channel : Channel) → (IsChannel fabric channel → ⊥) → rank_in fabric list channel ≡ None
        none channel other = rank_none (side_of fabric channel.switch channel.port) (slice_get list (number fabric channel)) (λ to entry leads. other (record { to = to; entry = entry; leads = leads }))
