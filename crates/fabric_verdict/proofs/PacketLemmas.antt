-- Where numbers fall along each dependency, waiting leads to a packet that can go.
use Rattle.std.proofs.Common.{◌≡◌, ◌≢◌, sym, ap, subst, refl, ℕ, zero, suc, ◌<◌, ◌≤◌, List, [], ◌∷◌, length, inl, inr, arith}
use Rattle.std.specs.Prelude.{Contains}
use Rattle.std.proofs.lemmas.Bool.{cases_lt}
use Rattle.fabric_tables.specs.Cells.{TablesOf}
use Rattle.fabric_model.specs.declared.node.EndPort.{EndPort}
use Rattle.fabric_model.specs.Fabric.{FabricOf}
use Rattle.fabric_routes.specs.declared.hop.Hop.{Hop}
use Rattle.fabric_routes.specs.declared.hop.Hop.TheVariants.{On, Arrive, Stop}
use Rattle.fabric_model.specs.declared.traffic.Traffic.{Traffic}
use Rattle.fabric_routes.specs.Routes.{Channel, ComesTo, DependsOn, IsStopped, IsStop, hop}
use Rattle.fabric_verdict.specs.Packets.{AllStand, ComesFree, FirstCanGo, Leaves, Packet, QueuesOf, StandsIn, WaitsFor}

-- a packet comes to the switch at the far side of its channel
comes_far : (fabric : FabricOf) (tables : TablesOf) (traffic : Traffic) (channel : Channel) (packet : Packet) (stands : StandsIn fabric tables traffic channel packet) → ComesTo fabric tables traffic packet.lid packet.source stands.far
comes_far fabric tables traffic channel packet stands =
    let comes = stands.comes in
    record { sends = comes.sends; start = comes.start; begins = comes.begins; hops = suc comes.hops; comes = (channel.switch, channel.port, comes.comes, stands.takes) }

-- where no route stops, it leaves there only to arrive
pub arrives : (fabric : FabricOf) (tables : TablesOf) (traffic : Traffic) (kept : (lid : ℕ) (source : EndPort) → IsStopped fabric tables traffic lid source → ⊥) (channel : Channel) (packet : Packet) (stands : StandsIn fabric tables traffic channel packet) → Leaves (hop fabric tables stands.far packet.lid) → hop fabric tables stands.far packet.lid ≡ Arrive
arrives fabric tables traffic kept channel packet stands leaves = by_hop (hop fabric tables stands.far packet.lid) refl
  where
    by_hop : (does : Hop) → hop fabric tables stands.far packet.lid ≡ does → hop fabric tables stands.far packet.lid ≡ Arrive
    by_hop Arrive is = is
    by_hop (Stop cause) is = absurd (kept packet.lid packet.source (stands.far, comes_far fabric tables traffic channel packet stands, subst IsStop (sym is) tt))
    by_hop (On port next) is = absurd (subst Leaves is leaves)

module _ (fabric : FabricOf) (tables : TablesOf) (traffic : Traffic) (rank : Channel → ℕ) (fall : (channel next : Channel) → DependsOn fabric tables traffic channel next → rank next < rank channel) (room : Channel → ℕ) (queue : QueuesOf) (some : (each : Channel) → 1 ≤ room each) (stand : AllStand fabric tables traffic queue) where
  -- the channel that it takes next, on which its own depends
  depends : (channel : Channel) (packet : Packet) (stands : StandsIn fabric tables traffic channel packet) (out after : ℕ) → hop fabric tables stands.far packet.lid ≡ On out after → DependsOn fabric tables traffic channel (record { switch = stands.far; port = out })
  depends channel packet stands out after on = (packet.lid, packet.source, record { comes = stands.comes; first = stands.takes; after = after; second = on })

  module _ (channel : Channel) (first : Packet) (rest : List Packet) (is : queue channel ≡ first ∷ rest) (stands : StandsIn fabric tables traffic channel first) where
    abbrev ahead_of : ℕ → Channel
    ahead_of out = record { switch = stands.far; port = out }

    -- where that has room
    goes : (out after : ℕ) → hop fabric tables stands.far first.lid ≡ On out after → length (queue (ahead_of out)) < room (ahead_of out) → FirstCanGo fabric tables room queue channel
    goes out after on less = record {
      first = first;
      rest = rest;
      stand = is;
      can = record { far = stands.far; takes = stands.takes; goes = inr (ahead_of out, after, refl, on, less) };
    }

    -- and where it has none
    waits : (out after : ℕ) → hop fabric tables stands.far first.lid ≡ On out after → room (ahead_of out) ≤ length (queue (ahead_of out)) → WaitsFor fabric tables room queue channel (ahead_of out)
    waits out after on full = record { first = first; rest = rest; stand = is; takes = stands.takes; after = after; wants = on; full = full }

    at_once : FirstCanGo fabric tables room queue channel → ComesFree fabric tables room queue channel
    at_once can = record { steps = 0; free = channel; walk = refl; goes = can }

    onward : (out after : ℕ) → hop fabric tables stands.far first.lid ≡ On out after → (queue (ahead_of out) ≢ [] → ComesFree fabric tables room queue (ahead_of out)) → ComesFree fabric tables room queue channel
    onward out after on again = elim (cases_lt (length (queue (ahead_of out))) (room (ahead_of out))) [
      | inl less ↦ at_once (goes out after on less)
      | inr full ↦ (let later = again (λ empty. absurd (let least = some (ahead_of out) in let none : length (queue (ahead_of out)) ≡ 0 = ap (λ (xs : List Packet). length xs) empty in omega arith)) in record {
        steps = suc later.steps;
        free = later.free;
        walk = (ahead_of out, waits out after on full, later.walk);
        goes = later.goes;
      })
    ]

    by_hop : ((next : Channel) → DependsOn fabric tables traffic channel next → queue next ≢ [] → ComesFree fabric tables room queue next) → (does : Hop) → hop fabric tables stands.far first.lid ≡ does → ComesFree fabric tables room queue channel
    by_hop again Arrive does = at_once (record { first = first; rest = rest; stand = is; can = record { far = stands.far; takes = stands.takes; goes = inl (subst Leaves (sym does) tt) } })
    by_hop again (Stop cause) does = at_once (record { first = first; rest = rest; stand = is; can = record { far = stands.far; takes = stands.takes; goes = inl (subst Leaves (sym does) tt) } })
    by_hop again (On out after) does = onward out after does (again (ahead_of out) (depends channel first stands out after does))

  here : (first : Packet) (rest : List Packet) → Contains (first ∷ rest) first
  here first rest = (0, omega arith, refl)

  by_queue : (channel : Channel) → ((next : Channel) → DependsOn fabric tables traffic channel next → queue next ≢ [] → ComesFree fabric tables room queue next) → queue channel ≢ [] → (stood : List Packet) → queue channel ≡ stood → ComesFree fabric tables room queue channel
  by_queue channel again full [] is = absurd (full is)
  by_queue channel again full (first ∷ rest) is =
      let stands = stand channel first (subst (λ (xs : List Packet). Contains xs first) (sym is) (here first rest)) in
      by_hop channel first rest is stands again (hop fabric tables stands.far first.lid) refl

  pub comes_free : (fuel : ℕ) (channel : Channel) → rank channel < fuel → queue channel ≢ [] → ComesFree fabric tables room queue channel
  comes_free zero channel low full = absurd (omega arith)
  comes_free (suc fuel) channel low full = by_queue channel (λ next leads more. comes_free fuel next (let less = fall channel next leads in omega arith) more) full (queue channel) refl
