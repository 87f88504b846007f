-- The verdict is one.
use Rattle.std.proofs.Common.{◌≡◌, ◌∙◌, sym, ap, subst, refl, ℕ, ◌⊎◌, List, [], ◌∷◌, Equal, map, inl, inr, arith}
use Rattle.common_values.proofs.OrderingLemmas.{nat_apart}
use Rattle.std.specs.Ordering.{nat_cmp}
use Rattle.std.specs.Cmp.{IsTotalOrder, then_total, on_total, nat_cmp_total}
use Rattle.common_values.proofs.OrderingLemmas.{then_equal}
use Rattle.common_graph.proofs.OneAnswer.{no_both, one_cycle, one_rank}
use Rattle.fabric_tables.specs.Cells.{TablesOf}
use Rattle.fabric_model.specs.declared.node.Side.{Side}
use Rattle.fabric_model.specs.declared.node.Side.TheVariants.{Bare, To, End}
use Rattle.fabric_model.specs.declared.node.Spot.{Spot}
use Rattle.fabric_model.specs.declared.node.EndPort.{EndPort}
use Rattle.fabric_model.specs.Fabric.{FabricOf, guid_of, side_of}
use Rattle.fabric_model.specs.declared.traffic.Traffic.{Traffic}
use Rattle.fabric_routes.specs.Found.{IsChannel, IsLeastWitness, channel_of}
use Rattle.fabric_routes.specs.Routes.{Channel, DependsOn, Takes}
use Rattle.fabric_verdict.specs.Verdict.{HasRanks, IsLeastLoop, channel_cmp, rank_in}

channel_total : IsTotalOrder channel_cmp
channel_total = then_total (on_total (λ c. c.switch) nat_cmp_total) (on_total (λ c. c.port) nat_cmp_total)

pub same_parts : (one other : Channel) → one.switch ≡ other.switch → one.port ≡ other.port → one ≡ other
same_parts one other switch port = ap (λ (s : ℕ). let c : Channel = record { switch = s; port = one.port } in c) switch ∙ ap (λ (p : ℕ). let c : Channel = record { switch = other.switch; port = p } in c) port

channel_same : (one other : Channel) → channel_cmp one other ≡ Equal → one ≡ other
channel_same one other e =
    let parts = then_equal (nat_cmp one.switch other.switch) (nat_cmp one.port other.port) e in
    same_parts one other (nat_apart one.switch other.switch parts.0) (nat_apart one.port other.port parts.1)

-- a port leads to a switch or does not
to_switch : (side : Side) → ((to entry : ℕ) × (side ≡ To to entry)) ⊎ ((to entry : ℕ) → side ≡ To to entry → ⊥)
to_switch (To to entry) = inl (to, entry, refl)
to_switch Bare = inr (λ to entry is. absurd (cc))
to_switch (End end) = inr (λ to entry is. absurd (cc))

pub is_channel : (fabric : FabricOf) (channel : Channel) → IsChannel fabric channel ⊎ (IsChannel fabric channel → ⊥)
is_channel fabric channel = elim (to_switch (side_of fabric channel.switch channel.port)) [
  | inl (to, entry, leads) ↦ inl (record { to = to; entry = entry; leads = leads })
  | inr other ↦ inr (λ is. other is.to is.entry is.leads)
]

pub one_ranks : (fabric : FabricOf) (tables : TablesOf) (traffic : Traffic) (one other : List ℕ) (channel : Channel) → HasRanks fabric tables traffic one → HasRanks fabric tables traffic other → rank_in fabric one channel ≡ rank_in fabric other channel
one_ranks fabric tables traffic one other channel has too = one_rank (IsChannel fabric) (is_channel fabric) (DependsOn fabric tables traffic) (rank_in fabric one) (rank_in fabric other) has.ranked too.ranked channel

-- ports by their channels
spot_of : Channel → Spot
spot_of channel = record { switch = channel.switch; port = channel.port }

spots_back : (spots : List Spot) → map spot_of (map channel_of spots) ≡ spots
unfolding spot_of
spots_back [] = refl
spots_back (spot ∷ spots) = ap (λ (xs : List Spot). spot ∷ xs) (spots_back spots)

pub one_loop : (fabric : FabricOf) (tables : TablesOf) (traffic : Traffic) (one other : List Spot) → IsLeastLoop fabric tables traffic one → IsLeastLoop fabric tables traffic other → one ≡ other
one_loop fabric tables traffic one other least too =
    let same = one_cycle channel_cmp channel_total channel_same (DependsOn fabric tables traffic) (map channel_of one) (map channel_of other) least too in
    sym (spots_back one) ∙ ap (λ (xs : List Channel). map spot_of xs) same ∙ spots_back other

pub not_both : (fabric : FabricOf) (tables : TablesOf) (traffic : Traffic) (ranks : List ℕ) (spots : List Spot) → HasRanks fabric tables traffic ranks → IsLeastLoop fabric tables traffic spots → ⊥
not_both fabric tables traffic ranks spots has least = no_both channel_cmp (DependsOn fabric tables traffic) (map channel_of spots) least has.no_cycle

module _ (fabric : FabricOf) (tables : TablesOf) (traffic : Traffic) (channel next : Channel) (lid other_lid : ℕ) (source other : EndPort) (is : IsLeastWitness fabric tables traffic channel next lid source) (too : IsLeastWitness fabric tables traffic channel next other_lid other) where
  same_lid : lid ≡ other_lid
  same_lid = let a = is.least other_lid other too.takes in let b = too.least lid source is.takes in omega arith

  pub one_witness : (lid ≡ other_lid) × (guid_of fabric source ≡ guid_of fabric other)
  one_witness =
      let a = is.first other (subst (λ (d : ℕ). Takes fabric tables traffic d other channel next) (sym same_lid) too.takes) in
      let b = too.first source (subst (λ (d : ℕ). Takes fabric tables traffic d source channel next) same_lid is.takes) in
      (same_lid, omega arith)
