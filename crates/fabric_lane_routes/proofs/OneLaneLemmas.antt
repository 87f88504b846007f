-- Routes on lanes as routes on one lane.
use Rattle.std.proofs.Common.{◌≡◌, ◌∙◌, sym, ap, refl, subst, ℕ, zero, suc, Bool, true, false, cond, eqb, Option, Some, None, inl, inr, ◌⊎◌}
use Rattle.fabric_tables.specs.Cells.{TablesOf}
use Rattle.fabric_lane_tables.specs.Lanes.{LanesOf}
use Rattle.fabric_lane_tables.specs.PathLevels.{LevelsOf}
use Rattle.fabric_model.specs.declared.node.Side.{Side}
use Rattle.fabric_model.specs.declared.node.Side.TheVariants.{Bare, To, End}
use Rattle.fabric_model.specs.declared.node.Spot.{Spot}
use Rattle.fabric_model.specs.declared.node.EndPort.{EndPort}
use Rattle.fabric_model.specs.declared.node.EndPort.TheVariants as end
use Rattle.fabric_model.specs.Fabric.{FabricOf, cable_of, owner_of, side_of, start_of, switch_at}
use Rattle.fabric_routes.specs.declared.hop.Hop.{Hop}
use Rattle.fabric_routes.specs.declared.hop.Hop.TheVariants as one
use Rattle.fabric_model.specs.declared.traffic.Traffic.{Traffic}
use Rattle.fabric_routes.specs.Routes.{ComesBy, Takes, end_if, hop, hop_by, hop_over, ends_at_host, ends_at_switch}
use Rattle.fabric_lane_routes.specs.declared.hop.LaneHop.{LaneHop}
use Rattle.fabric_lane_routes.specs.declared.hop.LaneHop.TheVariants.{On, Arrive, Stop, Discard}
use Rattle.fabric_lane_routes.specs.LaneFound.{link_of}
use Rattle.fabric_lane_routes.specs.LaneRoutes.{LaneChannel, LaneTakes, LaneWalksBy, begin_of, lane_end_if, lane_hop, lane_hop_by, lane_hop_over}

-- a hop on lanes is that on one lane, or discards
abbrev pub Like : Hop → LaneHop → Type 0
Like (one.On port next) (On by lane to) = (port ≡ by) × (next ≡ to.switch)
Like (one.On port next) Arrive = ⊥
Like (one.On port next) (Stop cause) = ⊥
Like (one.On port next) Discard = Unit {0}
Like one.Arrive (On by lane to) = ⊥
Like one.Arrive Arrive = Unit {0}
Like one.Arrive (Stop cause) = ⊥
Like one.Arrive Discard = Unit {0}
Like (one.Stop cause) (On by lane to) = ⊥
Like (one.Stop cause) Arrive = ⊥
Like (one.Stop cause) (Stop other) = cause ≡ other
Like (one.Stop cause) Discard = Unit {0}

end_like : (b : Bool) → Like (end_if b) (lane_end_if b)
end_like true = tt
end_like false = refl

end_on : (b c : Bool) → Like (end_if b) (cond c Discard (lane_end_if b))
end_on true true = tt
end_on false true = tt
end_on b false = end_like b

to_on : (c : Bool) (port lane next entry : ℕ) → Like (one.On port next) (cond c Discard (On port lane (record { switch = next; port = entry })))
to_on true port lane next entry = tt
to_on false port lane next entry = (refl, refl)

over_like : (owner : Option EndPort) (port lane : ℕ) (side : Side) → Like (hop_over owner port side) (lane_hop_over owner port lane side)
over_like owner port lane Bare = refl
over_like owner port lane (To next entry) = to_on (eqb lane 15) port lane next entry
over_like owner port lane (End to) = end_on (ends_at_host owner to) (eqb lane 15)

cond_like : (b c : Bool) (owner : Option EndPort) (port lane : ℕ) (side : Side) → Like (cond b (end_if c) (hop_over owner port side)) (cond b (lane_end_if c) (lane_hop_over owner port lane side))
cond_like true c owner port lane side = end_like c
cond_like false c owner port lane side = over_like owner port lane side

by_like : (fabric : FabricOf) (lane_of : ℕ → ℕ) (switch lid : ℕ) (told : Option ℕ) → Like (hop_by fabric switch lid told) (lane_hop_by fabric lane_of switch lid told)
by_like fabric lane_of switch lid None = refl
by_like fabric lane_of switch lid (Some port) = cond_like (eqb port 0) (ends_at_switch (owner_of fabric lid) switch) (owner_of fabric lid) port (lane_of port) (side_of fabric switch port)

pub hop_like : (fabric : FabricOf) (tables : TablesOf) (lanes : LanesOf) (level lid : ℕ) (at : Spot) → Like (hop fabric tables at.switch lid) (lane_hop fabric tables lanes level lid at)
unfolding hop lane_hop
hop_like fabric tables lanes level lid at = by_like fabric (λ port. lanes at.switch at.port port level) at.switch lid (tables at.switch lid)

-- what goes on by the one goes on by the other
like_on : (does : Hop) (port lane : ℕ) (to : Spot) → Like does (On port lane to) → does ≡ one.On port to.switch
like_on (one.On by next) port lane to like = ap (λ (p : ℕ). one.On p next) like.0 ∙ ap (λ (n : ℕ). one.On port n) like.1
like_on one.Arrive port lane to like = absurd like
like_on (one.Stop cause) port lane to like = absurd like

pub on_like : (port next : ℕ) (does : LaneHop) → Like (one.On port next) does → (does ≡ Discard) ⊎ ((lane : ℕ) × (to : Spot) × (does ≡ On port lane to) × (to.switch ≡ next))
on_like port next (On by lane to) like = inr (lane, to, ap (λ (p : ℕ). On p lane to) (sym like.0), sym like.1)
on_like port next Arrive like = absurd like
on_like port next (Stop cause) like = absurd like
on_like port next Discard like = inl refl

pub arrive_like : (does : LaneHop) → Like one.Arrive does → (does ≡ Discard) ⊎ (does ≡ Arrive)
arrive_like (On by lane to) like = absurd like
arrive_like Arrive like = inr refl
arrive_like (Stop cause) like = absurd like
arrive_like Discard like = inl refl

pub begin_start : (fabric : FabricOf) (source : EndPort) (start : Spot) → begin_of fabric source ≡ Some start → start_of fabric source ≡ Some start.switch
begin_start fabric (end.Host host) start is = ap switch_at is
begin_start fabric (end.Switch switch) start is = ap switch_at is

-- .. and back
some_spot : (cable : Option Spot) (switch : ℕ) → switch_at cable ≡ Some switch → (start : Spot) × (cable ≡ Some start) × (start.switch ≡ switch)
some_spot None switch is = absurd (cc)
some_spot (Some spot) switch is = (spot, refl, (cc))

pub start_begin : (fabric : FabricOf) (source : EndPort) (switch : ℕ) → start_of fabric source ≡ Some switch → (start : Spot) × (begin_of fabric source ≡ Some start) × (start.switch ≡ switch)
start_begin fabric (end.Host host) switch is = some_spot (cable_of fabric host) switch is
start_begin fabric (end.Switch at) switch is = (record { switch = at; port = 0 }, refl, (cc))

module _ (fabric : FabricOf) (tables : TablesOf) (lanes : LanesOf) where
  pub on_one : (level lid : ℕ) (at : Spot) (port lane : ℕ) (to : Spot) → lane_hop fabric tables lanes level lid at ≡ On port lane to → hop fabric tables at.switch lid ≡ one.On port to.switch
  on_one level lid at port lane to is = like_on (hop fabric tables at.switch lid) port lane to (subst (Like (hop fabric tables at.switch lid)) is (hop_like fabric tables lanes level lid at))

  pub walk_one : (level lid hops : ℕ) (start at : Spot) → LaneWalksBy (lane_hop fabric tables lanes level lid) hops start at → ComesBy fabric tables lid hops start.switch at.switch
  walk_one level lid zero start at walk = ap (λ (s : Spot). s.switch) walk
  walk_one level lid (suc hops) start at (before, port, lane, walk, on) = (before.switch, port, walk_one level lid hops start before walk, on_one level lid before port lane at on)

  -- a route that takes two channels takes their links
  pub takes_one : (traffic : Traffic) (levels : LevelsOf) (lid : ℕ) (source : EndPort) (level : ℕ) (channel next : LaneChannel) → LaneTakes fabric tables lanes traffic levels lid source level channel next → Takes fabric tables traffic lid source (link_of channel) (link_of next)
  takes_one traffic levels lid source level channel next takes =
      let comes = takes.comes in
      let here : Spot = record { switch = channel.switch; port = takes.entry } in
      let there : Spot = record { switch = next.switch; port = takes.next_entry } in
      record {
        comes = record {
          sends = comes.sends.sends;
          start = comes.start.switch;
          begins = begin_start fabric source comes.start comes.begins;
          hops = comes.hops;
          comes = walk_one level lid comes.hops comes.start here comes.comes;
        };
        first = on_one level lid here channel.port channel.lane there takes.first;
        after = takes.after.switch;
        second = on_one level lid there next.port next.lane takes.after takes.second;
      }
