-- The least route that makes a dependency.
use Rattle.std.proofs.Common.{◌≡◌, sym, subst, ℕ, ◌+◌, ◌*◌, ◌/◌, ◌%◌, ◌<◌, ◌≤◌, Option, None, Some, arith, length, inl, inr}
use Rattle.std.specs.Prelude.{MatchOption}
use Rattle.std.proofs.lemmas.Bool.{cases_lt}
use Rattle.fabric_model.specs.declared.node.EndPort.{EndPort}
use Rattle.fabric_model.specs.declared.node.EndPort.TheVariants.{Host, Switch}
use Rattle.fabric_model.specs.Fabric.{FabricOf, IsFabric, guid_of, start_of, switch_count}
use Rattle.fabric_model.proofs.FabricLemmas.{host_guids, switch_guids}
use Rattle.fabric_tables.specs.Cells.{TablesOf}
use Rattle.fabric_routes.specs.declared.hop.Cause.{Cause}
use Rattle.fabric_routes.specs.declared.hop.Outcome.TheVariants.{Arrives, Stops, Loops}
use Rattle.fabric_model.specs.declared.traffic.Traffic.{Traffic}
use Rattle.fabric_routes.specs.declared.audience.Audience.{Audience}
use Rattle.fabric_model.specs.declared.traffic.Traffic.TheVariants.{All}
use Rattle.fabric_routes.specs.Audience.{IsAudience, IsHeard}
use Rattle.fabric_routes.specs.Routes.{Channel, ComesBy, EndsAs, Takes}
use Rattle.fabric_routes.specs.Found.{IsLeastWitness}
use Rattle.fabric_routes.specs.Trace.{hop_to, way}
use Rattle.fabric_routes.specs.Witness.{ComesFor, GoesBy, IsFirst, IsFirstSource, IsLeastAt, IsLesser, NoSourceTakes}
use Rattle.fabric_routes.proofs.AudienceLemmas.{heard_is}
use Rattle.fabric_routes.proofs.StartLemmas.{cabled_low, source_low}
use Rattle.fabric_routes.proofs.UntilLemmas.{arrives_alone, arrives_comes, arrives_soon, comes_arrives}

module _ (fabric : FabricOf) (tables : TablesOf) (audience : Audience) (lid via : ℕ) where
  same_lid : 64 * (lid / 64) + lid % 64 ≡ lid
  same_lid = omega arith

  pub arrives_to : (source : EndPort) (start switches : ℕ) → IsHeard fabric audience lid source → start_of fabric source ≡ Some start → EndsAs (hop_to fabric tables (way lid via)) start (Arrives switches) → ComesFor fabric tables audience lid via source
  arrives_to source start switches heard begins ends =
      let walk = arrives_comes fabric tables (lid / 64) (lid % 64) via start switches ends in
      record { heard = heard; start = start; begins = begins; hops = walk.0; comes = subst (λ (d : ℕ). ComesBy fabric tables d walk.0 start via) same_lid walk.1 }

  would_arrive : (source : EndPort) (start : ℕ) → start_of fabric source ≡ Some start → ComesFor fabric tables audience lid via source → (switches : ℕ) × EndsAs (hop_to fabric tables (way lid via)) start (Arrives switches)
  would_arrive source start begins comes =
      let other = comes.begins in
      let same : comes.start ≡ start = cc in
      comes_arrives fabric tables (lid / 64) (lid % 64) via comes.hops start
      (subst (λ (d : ℕ). ComesBy fabric tables d comes.hops start via) (sym same_lid) (subst (λ (s : ℕ). ComesBy fabric tables lid comes.hops s via) same comes.comes))

  pub no_stop : (source : EndPort) (start : ℕ) (cause : Cause) → start_of fabric source ≡ Some start → EndsAs (hop_to fabric tables (way lid via)) start (Stops cause) → ComesFor fabric tables audience lid via source → ⊥
  no_stop source start cause begins ends comes = let arrives = would_arrive source start begins comes in arrives_alone (hop_to fabric tables (way lid via)) start arrives.0 cause arrives.1 ends

  pub no_loop : (source : EndPort) (start : ℕ) → start_of fabric source ≡ Some start → EndsAs (hop_to fabric tables (way lid via)) start Loops → ComesFor fabric tables audience lid via source → ⊥
  no_loop source start begins ends comes = let arrives = would_arrive source start begins comes in arrives_soon (hop_to fabric tables (way lid via)) start arrives.0 arrives.1 ends

  -- who comes is one of the fabric
  pub host_low : (end : ℕ) → ComesFor fabric tables audience lid via (Host end) → end < length fabric.cables
  host_low end comes = cabled_low fabric end comes.start comes.begins

  pub switch_low : (switch : ℕ) → ComesFor fabric tables audience lid via (Switch switch) → switch < switch_count fabric
  switch_low switch comes = source_low fabric All switch (heard_is fabric audience (Switch switch) comes.heard.is_from)

-- the first of hosts and the first of switches
module _ (fabric : FabricOf) (fits : IsFabric fabric) (Is : EndPort → Type 0) (host_is : (end : ℕ) → Is (Host end) → end < length fabric.cables) (switch_is : (switch : ℕ) → Is (Switch switch) → switch < switch_count fabric) where
  abbrev IsHost : ℕ → Type 0
  IsHost end = Is (Host end)

  abbrev IsSwitch : ℕ → Type 0
  IsSwitch switch = Is (Switch switch)

  first_host : (end : ℕ) → IsFirst IsHost end → (other : ℕ) → Is (Host other) → guid_of fabric (Host end) ≤ guid_of fabric (Host other)
  first_host end has other is = elim (cases_lt other end) [
    | inl before ↦ absurd (has.first other before is)
    | inr after ↦ (let low = host_is other is in let same = fits.cables in host_guids fabric fits end other after (omega arith))
  ]

  first_switch : (switch : ℕ) → IsFirst IsSwitch switch → (other : ℕ) → Is (Switch other) → guid_of fabric (Switch switch) ≤ guid_of fabric (Switch other)
  first_switch switch has other is = elim (cases_lt other switch) [
    | inl before ↦ absurd (has.first other before is)
    | inr after ↦ switch_guids fabric fits switch other after (switch_is other is)
  ]

  none_is : ((end : ℕ) → Is (Host end) → ⊥) → ((switch : ℕ) → Is (Switch switch) → ⊥) → (source : EndPort) → Is source → ⊥
  none_is hosts switches (Host end) is = hosts end is
  none_is hosts switches (Switch switch) is = switches switch is

  is_host : (end : ℕ) → IsFirst IsHost end → ((other : ℕ) → Is (Switch other) → guid_of fabric (Host end) ≤ guid_of fabric (Switch other)) → IsFirstSource fabric Is (Host end)
  is_host end has switches = record { is = has.is; first = go }
    where
      go : (other : EndPort) → Is other → guid_of fabric (Host end) ≤ guid_of fabric other
      go (Host other) is = first_host end has other is
      go (Switch other) is = switches other is

  is_switch : (switch : ℕ) → IsFirst IsSwitch switch → ((other : ℕ) → Is (Host other) → guid_of fabric (Switch switch) ≤ guid_of fabric (Host other)) → IsFirstSource fabric Is (Switch switch)
  is_switch switch has hosts = record { is = has.is; first = go }
    where
      go : (other : EndPort) → Is other → guid_of fabric (Switch switch) ≤ guid_of fabric other
      go (Host other) is = hosts other is
      go (Switch other) is = first_switch switch has other is

  abbrev IsFound : Option EndPort → Type 0
  IsFound found = MatchOption found ((source : EndPort) → Is source → ⊥) (IsFirstSource fabric Is)

  pub first_of : (host switch : Option ℕ) (found : Option EndPort) → MatchOption host ((end : ℕ) → Is (Host end) → ⊥) (IsFirst IsHost) → MatchOption switch ((at : ℕ) → Is (Switch at) → ⊥) (IsFirst IsSwitch) → IsLesser fabric host switch found → IsFound found
  first_of None None found hosts switches is = subst IsFound (sym is) (none_is hosts switches)
  first_of (Some end) None found hosts switches is = subst IsFound (sym is) (is_host end hosts (λ other there. absurd (switches other there)))
  first_of None (Some switch) found hosts switches is = subst IsFound (sym is) (is_switch switch switches (λ other there. absurd (hosts other there)))
  first_of (Some end) (Some switch) found hosts switches (inl (is, le)) = subst IsFound (sym is) (is_host end hosts (λ other there. (let more = first_switch switch switches other there in omega arith)))
  first_of (Some end) (Some switch) found hosts switches (inr (is, le)) = subst IsFound (sym is) (is_switch switch switches (λ other there. (let more = first_host end hosts other there in omega arith)))

-- who comes to the switch of a channel takes it and the next
module _ (fabric : FabricOf) (tables : TablesOf) (traffic : Traffic) (lid : ℕ) (channel next : Channel) where
  pub goes_of : (source : EndPort) → Takes fabric tables traffic lid source channel next → GoesBy fabric tables lid channel next
  goes_of source takes = (takes.first, (takes.after, takes.second))

  -- by the audience of the LID
  module _ (audience : Audience) (is : IsAudience fabric tables traffic lid audience) where
    abbrev pub Comes : EndPort → Type 0
    Comes source = ComesFor fabric tables audience lid channel.switch source

    pub comes_of : (source : EndPort) → Takes fabric tables traffic lid source channel next → Comes source
    comes_of source takes = record {
      heard = (is source).0 takes.comes.sends;
      start = takes.comes.start;
      begins = takes.comes.begins;
      hops = takes.comes.hops;
      comes = takes.comes.comes;
    }

    takes_of : GoesBy fabric tables lid channel next → (source : EndPort) → Comes source → Takes fabric tables traffic lid source channel next
    takes_of goes source comes = record {
      comes = record {
        sends = (is source).1 comes.heard;
        start = comes.start;
        begins = comes.begins;
        hops = comes.hops;
        comes = comes.comes;
      };
      first = goes.0;
      after = goes.1.0;
      second = goes.1.1;
    }

    pub least_at : GoesBy fabric tables lid channel next → (found : Option EndPort) → MatchOption found ((source : EndPort) → Comes source → ⊥) (IsFirstSource fabric Comes) → MatchOption found (NoSourceTakes fabric tables traffic lid channel next) (IsLeastAt fabric tables traffic lid channel next)
    least_at goes None none = λ source takes. none source (comes_of source takes)
    least_at goes (Some source) has = record { takes = takes_of goes source has.is; first = λ other takes. has.first other (comes_of other takes) }

-- the least LID
pub least_witness : (fabric : FabricOf) (tables : TablesOf) (traffic : Traffic) (lid : ℕ) (channel next : Channel) (source : EndPort) → ((other : ℕ) → other < lid → NoSourceTakes fabric tables traffic other channel next) → IsLeastAt fabric tables traffic lid channel next source → IsLeastWitness fabric tables traffic channel next lid source
least_witness fabric tables traffic lid channel next source none is = record {
  takes = is.takes;
  least = λ other_lid other takes. elim (cases_lt other_lid lid) [
    | inl before ↦ absurd (none other_lid before other takes)
    | inr after ↦ after
  ];
  first = is.first;
}
