-- Routes that arrive are along links.
use Rattle.std.proofs.Common.{◌≡◌, ◌∙◌, sym, ap, subst, refl, ℕ, zero, suc, ◌<◌, inl, Bool, true, false, cond, eqb, Option, Some, None, arith}
use Rattle.std.proofs.lemmas.Bool.Decides.{nat_tests}
use Rattle.fabric_tables.specs.Cells.{TablesOf}
use Rattle.fabric_model.specs.declared.node.EndPort.{EndPort}
use Rattle.fabric_model.specs.declared.node.EndPort.TheVariants.{Host, Switch}
use Rattle.fabric_model.specs.declared.node.Side.{Side}
use Rattle.fabric_model.specs.declared.node.Side.TheVariants.{Bare, To, End}
use Rattle.fabric_model.specs.declared.node.Spot.{Spot}
use Rattle.fabric_model.specs.Fabric.{FabricOf, IsFabric, cable_of, owner_of, side_of, start_of, switch_at, switch_count}
use Rattle.fabric_routes.specs.declared.hop.Hop.{Hop}
use Rattle.fabric_routes.specs.declared.hop.Hop.TheVariants.{Arrive}
use Rattle.fabric_model.specs.declared.traffic.Traffic.{Traffic}
use Rattle.fabric_routes.specs.Routes.{ComesBy, end_if, hop, hop_by, hop_over, ends_at_host, ends_at_switch}
use Rattle.fabric_routes.proofs.ChannelLemmas.{hop_within, on_link}
use Rattle.fabric_routes.proofs.StartLemmas.{start_low}
use Rattle.fabric_verdict.specs.Verdict.{AllArrive}
use Rattle.fabric_route_command.specs.Joined.{AllJoined, AreJoined}
use Rattle.fabric_route_command.proofs.JoinLemmas.{joined_by, joined_on}

-- a hop arrives only at the owner
own : (is_own : Bool) → end_if is_own ≡ Arrive → is_own ≡ true
own true is = refl
own false is = absurd (cc)

switch_is : (owner : EndPort) (at : ℕ) → ends_at_switch (Some owner) at ≡ true → owner ≡ Switch at
switch_is (Host end) at is = absurd (cc)
switch_is (Switch switch) at is = let e : switch ≡ at = grind (arith, nat_tests) in ap (λ (s : ℕ). let p : EndPort = Switch s in p) e

host_is : (owner : EndPort) (end : ℕ) → ends_at_host (Some owner) end ≡ true → owner ≡ Host end
host_is (Host own) end is = let e : own ≡ end = grind (arith, nat_tests) in ap (λ (s : ℕ). let p : EndPort = Host s in p) e
host_is (Switch switch) end is = absurd (cc)

module _ (fabric : FabricOf) (cables : (spot : Spot) (end : ℕ) → side_of fabric spot.switch spot.port ≡ End end → cable_of fabric end ≡ Some spot) where
  at_host : (owner : EndPort) (at port end : ℕ) → side_of fabric at port ≡ End end → ends_at_host (Some owner) end ≡ true → start_of fabric owner ≡ Some at
  at_host owner at port end leads is =
      ap (start_of fabric) (host_is owner end is)
      ∙ ap switch_at (cables (let s : Spot = record { switch = at; port = port } in s) end leads)

  over_side : (owner : EndPort) (at port : ℕ) (side : Side) → side_of fabric at port ≡ side → hop_over (Some owner) port side ≡ Arrive → start_of fabric owner ≡ Some at
  over_side owner at port Bare leads is = absurd (cc)
  over_side owner at port (To next entry) leads is = absurd (cc)
  over_side owner at port (End end) leads is = at_host owner at port end leads (own (ends_at_host (Some owner) end) is)

  by_port : (owner : EndPort) (at port : ℕ) (is_zero : Bool) → (let h : Hop = cond is_zero (end_if (ends_at_switch (Some owner) at)) (hop_over (Some owner) port (side_of fabric at port)) in h) ≡ Arrive → start_of fabric owner ≡ Some at
  by_port owner at port true is = ap (start_of fabric) (switch_is owner at (own (ends_at_switch (Some owner) at) is))
  by_port owner at port false is = over_side owner at port (side_of fabric at port) refl is

  by_table : (lid at : ℕ) (owner : EndPort) (told : Option ℕ) → owner_of fabric lid ≡ Some owner → hop_by fabric at lid told ≡ Arrive → start_of fabric owner ≡ Some at
  by_table lid at owner None owns is = absurd (cc)
  by_table lid at owner (Some port) owns is =
      by_port owner at port (eqb port 0) (ap (λ (o : Option EndPort). let h : Hop = cond (eqb port 0) (end_if (ends_at_switch o at)) (hop_over o port (side_of fabric at port)) in h) (sym owns) ∙ is)

  arrives_at : (tables : TablesOf) (lid at : ℕ) (owner : EndPort) → owner_of fabric lid ≡ Some owner → hop fabric tables at lid ≡ Arrive → start_of fabric owner ≡ Some at
  unfolding hop
  arrives_at tables lid at owner owns is = by_table lid at owner (tables at lid) owns is

  module _ (fits : IsFabric fabric) (tables : TablesOf) where
    comes_along : (lid hops start at : ℕ) → start < switch_count fabric → ComesBy fabric tables lid hops start at → (at < switch_count fabric) × AreJoined fabric start at
    comes_along lid zero start at low same = (subst (λ (s : ℕ). s < switch_count fabric) same low, (zero, same))
    comes_along lid (suc hops) start at low (before, port, walk, goes) =
        let so_far = comes_along lid hops start before low walk in
        let link = on_link fabric tables before lid port at goes in (
          hop_within fabric fits tables before lid port at goes,
          joined_on fabric start before at so_far.1 (joined_by fabric before at (inl (so_far.0, (port, link.0, link.1)))),
        )

    pub arrived_joined : (traffic : Traffic) → AllArrive fabric tables traffic → AllJoined fabric traffic
    arrived_joined traffic all lid source sends =
        let route = (all lid source (inl sends)).1 in
        let low = start_low fabric fits traffic source route.start sends.is_source route.begins in
        let along = comes_along lid (all lid source (inl sends)).0 route.start route.at low route.comes in
        (route.start, route.at, route.begins, arrives_at tables lid route.at sends.owner sends.owns route.arrives, along.1)
