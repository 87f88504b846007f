-- Where numbers fall from each channel to all by which it may be followed, as ranks do, waiting leads to a packet that can
-- go.
use Rattle.std.proofs.Common.{◌≡◌, ◌≢◌, sym, ap, subst, refl, ℕ, zero, suc, ◌<◌, ◌≤◌, List, [], ◌∷◌, length, inl, inr, arith}
use Rattle.std.specs.Prelude.{Contains}
use Rattle.std.proofs.lemmas.Bool.{cases_lt}
use Rattle.fabric_tables.specs.Cells.{TablesOf}
use Rattle.fabric_model.specs.declared.node.Side.TheVariants.{To}
use Rattle.fabric_model.specs.Fabric.{FabricOf, side_of}
use Rattle.fabric_routes.specs.declared.hop.Hop.{Hop}
use Rattle.fabric_routes.specs.declared.hop.Hop.TheVariants.{On, Arrive, Stop}
use Rattle.fabric_routes.specs.Routes.{Channel, hop}
use Rattle.fabric_routes.proofs.ChannelLemmas.{on_link}
use Rattle.fabric_verdict.specs.Packets.{Leaves, Packet, QueuesOf}
use Rattle.fabric_verdict.proofs.RankLemmas.{rank_of, value}
use Rattle.fabric_mixtures.specs.Mixtures.{IsMixture, MayBeFollowed, MayTake}
use Rattle.fabric_mixtures.specs.Packets.{AllStandWhile, ComesFree, FirstCanGo, StandsWhile, WaitsFor}
use Rattle.fabric_mixtures.specs.Verdict.{HasRanks}
use Rattle.fabric_mixtures.proofs.MixtureLemmas.{may_take}
use Rattle.fabric_mixtures.proofs.TurnLemmas.{are_channels}

module _ (fabric : FabricOf) (old new : TablesOf) where
  -- a channel that may be taken leads to the switch
  leads_to : (lid switch port next : ℕ) → MayTake fabric old new lid switch port next → (entry : ℕ) × (side_of fabric switch port ≡ To next entry)
  leads_to lid switch port next (inl on) = on_link fabric old switch lid port next on
  leads_to lid switch port next (inr on) = on_link fabric new switch lid port next on

  module _ (rank : Channel → ℕ) (fall : (channel next : Channel) → MayBeFollowed fabric old new channel next → rank next < rank channel) (looked_up : Channel → TablesOf) (mixed : (channel : Channel) → IsMixture old new (looked_up channel)) (room : Channel → ℕ) (queue : QueuesOf) (some : (each : Channel) → 1 ≤ room each) (stand : AllStandWhile fabric old new queue) where
    module _ (channel : Channel) (first : Packet) (rest : List Packet) (is : queue channel ≡ first ∷ rest) (stands : StandsWhile fabric old new channel first) where
      link : (entry : ℕ) × (side_of fabric channel.switch channel.port ≡ To stands.far entry)
      link = leads_to first.lid channel.switch channel.port stands.far stands.took

      abbrev ahead_of : ℕ → Channel
      ahead_of out = record { switch = stands.far; port = out }

      -- the channel that it takes next may follow its own
      follows : (out after : ℕ) → hop fabric (looked_up channel) stands.far first.lid ≡ On out after → MayBeFollowed fabric old new channel (ahead_of out)
      follows out after on = (
        first.lid,
        record {
          first = stands.took;
          after = after;
          second = may_take fabric old new (looked_up channel) (mixed channel) first.lid stands.far out after on;
        },
      )

      -- where that has room
      goes : (out after : ℕ) → hop fabric (looked_up channel) stands.far first.lid ≡ On out after → length (queue (ahead_of out)) < room (ahead_of out) → FirstCanGo fabric looked_up room queue channel
      goes out after on less = record {
        first = first;
        rest = rest;
        stand = is;
        far = stands.far;
        entry = link.0;
        leads = link.1;
        goes = inr (ahead_of out, after, refl, on, less);
      }

      -- and where it has none
      waits : (out after : ℕ) → hop fabric (looked_up channel) stands.far first.lid ≡ On out after → room (ahead_of out) ≤ length (queue (ahead_of out)) → WaitsFor fabric looked_up room queue channel (ahead_of out)
      waits out after on full = record { first = first; rest = rest; stand = is; entry = link.0; leads = link.1; after = after; wants = on; full = full }

      at_once : FirstCanGo fabric looked_up room queue channel → ComesFree fabric looked_up room queue channel
      at_once can = record { steps = 0; free = channel; walk = refl; goes = can }

      leaves : Leaves (hop fabric (looked_up channel) stands.far first.lid) → ComesFree fabric looked_up room queue channel
      leaves out = at_once (record { first = first; rest = rest; stand = is; far = stands.far; entry = link.0; leads = link.1; goes = inl out })

      onward : (out after : ℕ) → hop fabric (looked_up channel) stands.far first.lid ≡ On out after → (queue (ahead_of out) ≢ [] → ComesFree fabric looked_up room queue (ahead_of out)) → ComesFree fabric looked_up room queue channel
      onward out after on again = elim (cases_lt (length (queue (ahead_of out))) (room (ahead_of out))) [
        | inl less ↦ at_once (goes out after on less)
        | inr full ↦ (let later = again (λ empty. absurd (let least = some (ahead_of out) in let none : length (queue (ahead_of out)) ≡ 0 = ap (λ (xs : List Packet). length xs) empty in omega arith)) in record {
          steps = suc later.steps;
          free = later.free;
          walk = (ahead_of out, waits out after on full, later.walk);
          goes = later.goes;
        })
      ]

      by_hop : ((next : Channel) → MayBeFollowed fabric old new channel next → queue next ≢ [] → ComesFree fabric looked_up room queue next) → (does : Hop) → hop fabric (looked_up channel) stands.far first.lid ≡ does → ComesFree fabric looked_up room queue channel
      by_hop again Arrive does = leaves (subst Leaves (sym does) tt)
      by_hop again (Stop cause) does = leaves (subst Leaves (sym does) tt)
      by_hop again (On out after) does = onward out after does (again (ahead_of out) (follows out after does))

    here : (first : Packet) (rest : List Packet) → Contains (first ∷ rest) first
    here first rest = (0, omega arith, refl)

    by_queue : (channel : Channel) → ((next : Channel) → MayBeFollowed fabric old new channel next → queue next ≢ [] → ComesFree fabric looked_up room queue next) → queue channel ≢ [] → (stood : List Packet) → queue channel ≡ stood → ComesFree fabric looked_up room queue channel
    by_queue channel again full [] is = absurd (full is)
    by_queue channel again full (first ∷ rest) is =
        let stands = stand channel first (subst (λ (xs : List Packet). Contains xs first) (sym is) (here first rest)) in
        by_hop channel first rest is stands again (hop fabric (looked_up channel) stands.far first.lid) refl

    pub comes_free : (fuel : ℕ) (channel : Channel) → rank channel < fuel → queue channel ≢ [] → ComesFree fabric looked_up room queue channel
    comes_free zero channel low full = absurd (omega arith)
    comes_free (suc fuel) channel low full = by_queue channel (λ next follows more. comes_free fuel next (let less = fall channel next follows in omega arith) more) full (queue channel) refl

-- ranks are such numbers
pub ranks_fall : (fabric : FabricOf) (old new : TablesOf) (ranks : List ℕ) → HasRanks fabric old new ranks → (channel next : Channel) → MayBeFollowed fabric old new channel next → rank_of fabric ranks next < rank_of fabric ranks channel
ranks_fall fabric old new ranks has channel next follows =
    let own = has.ranked.nodes channel (are_channels fabric old new channel next follows).0 in
    let below = own.2.above next follows in
    let here : rank_of fabric ranks channel ≡ own.0 = ap value own.1 in
    let there : rank_of fabric ranks next ≡ below.0 = ap value below.1 in
    let less = below.2 in
    omega arith
