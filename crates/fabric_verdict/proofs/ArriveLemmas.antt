-- Where numbers fall along each dependency and no route stops, each route arrives, and soon.
use Rattle.std.proofs.Common.{◌≡◌, sym, subst, refl, ℕ, zero, suc, ◌+◌, ◌<◌, ◌≤◌, Some, arith}
use Rattle.fabric_tables.specs.Cells.{TablesOf}
use Rattle.fabric_model.specs.declared.node.EndPort.{EndPort}
use Rattle.fabric_model.specs.Fabric.{FabricOf, start_of}
use Rattle.fabric_routes.specs.declared.hop.Hop.{Hop}
use Rattle.fabric_routes.specs.declared.hop.Hop.TheVariants.{On, Arrive, Stop}
use Rattle.fabric_model.specs.declared.traffic.Traffic.{Traffic}
use Rattle.fabric_routes.specs.Routes.{Channel, ComesBy, ComesTo, DependsOn, IsStopped, IsStop, Sends, hop}
use Rattle.fabric_routes.proofs.StartLemmas.{sender_is, source_starts}
use Rattle.fabric_verdict.specs.Verdict.{ArrivesBy}

module _ (fabric : FabricOf) (tables : TablesOf) (traffic : Traffic) (rank : Channel → ℕ) (fall : (channel next : Channel) → DependsOn fabric tables traffic channel next → rank next < rank channel) (kept : (lid : ℕ) (source : EndPort) → IsStopped fabric tables traffic lid source → ⊥) where
  module _ (lid : ℕ) (source : EndPort) (sends : Sends fabric tables traffic lid source) (start : ℕ) (begins : start_of fabric source ≡ Some start) where
    comes_to : (links at : ℕ) → ComesBy fabric tables lid links start at → ComesTo fabric tables traffic lid source at
    comes_to links at comes = record { sends = sends; start = start; begins = begins; hops = links; comes = comes }

    stops : (links at : ℕ) → ComesBy fabric tables lid links start at → (does : Hop) → hop fabric tables at lid ≡ does → IsStop does → ⊥
    stops links at comes does is stop = kept lid source (at, comes_to links at comes, subst IsStop (sym is) stop)

    abbrev Within : ℕ → Type 0
    Within most = (links : ℕ) × (links ≤ most) × ArrivesBy fabric tables lid source links

    arrives : (links at : ℕ) → ComesBy fabric tables lid links start at → hop fabric tables at lid ≡ Arrive → ArrivesBy fabric tables lid source links
    arrives links at comes is = record { start = start; begins = begins; at = at; comes = comes; arrives = is }

    -- from a channel that it takes
    by_channel : (fuel links at out next : ℕ) → ComesBy fabric tables lid links start at → hop fabric tables at lid ≡ On out next → rank (record { switch = at; port = out }) < fuel → Within (links + fuel)
    by_channel zero links at out next comes on low = absurd (omega arith)
    by_channel (suc fuel) links at out next comes on low = ahead (hop fabric tables next lid) refl (λ more after is less. by_channel fuel (suc links) next more after there is less)
      where
        there : ComesBy fabric tables lid (suc links) start next
        there = (at, out, comes, on)

        ahead : (does : Hop) → hop fabric tables next lid ≡ does → ((more after : ℕ) → hop fabric tables next lid ≡ On more after → rank (record { switch = next; port = more }) < fuel → Within (suc links + fuel)) → Within (links + suc fuel)
        ahead Arrive is again = (suc links, omega arith, arrives (suc links) next there is)
        ahead (Stop cause) is again = absurd (stops (suc links) next there (Stop cause) is tt)
        ahead (On more after) is again =
            let less = fall (record { switch = at; port = out }) (record { switch = next; port = more }) (lid, source, record { comes = comes_to links at comes; first = on; after = after; second = is }) in
            let rest = again more after is (omega arith) in
            (rest.0, (let low = rest.1 in omega arith), rest.2)

    by_start : (most : ℕ) → ((channel : Channel) → rank channel ≤ most) → (does : Hop) → hop fabric tables start lid ≡ does → Within (most + 1)
    by_start most low Arrive is = (0, omega arith, arrives 0 start refl is)
    by_start most low (Stop cause) is = absurd (stops 0 start refl (Stop cause) is tt)
    by_start most low (On out next) is =
        let here = low (record { switch = start; port = out }) in
        let rest = by_channel (most + 1) 0 start out next refl is (omega arith) in
        (rest.0, (let low = rest.1 in omega arith), rest.2)

  pub arrive_soon : (most : ℕ) → ((channel : Channel) → rank channel ≤ most) → (lid : ℕ) (source : EndPort) → Sends fabric tables traffic lid source → (links : ℕ) × (links ≤ most + 1) × ArrivesBy fabric tables lid source links
  arrive_soon most low lid source sends =
      let start = source_starts fabric traffic source (sender_is fabric tables traffic lid source sends) in
      by_start lid source sends start.0 start.1 most low (hop fabric tables start.0 lid) refl

  -- with no bound of the ranks
  pub arrive : (lid : ℕ) (source : EndPort) → Sends fabric tables traffic lid source → (links : ℕ) × ArrivesBy fabric tables lid source links
  arrive lid source sends =
      let start = source_starts fabric traffic source (sender_is fabric tables traffic lid source sends) in
      first start.0 start.1 (hop fabric tables start.0 lid) refl
    where
      first : (start : ℕ) → start_of fabric source ≡ Some start → (does : Hop) → hop fabric tables start lid ≡ does → (links : ℕ) × ArrivesBy fabric tables lid source links
      first start begins Arrive is = (0, arrives lid source sends start begins 0 start refl is)
      first start begins (Stop cause) is = absurd (stops lid source sends start begins 0 start refl (Stop cause) is tt)
      first start begins (On out next) is =
          let rest = by_channel lid source sends start begins (suc (rank (record { switch = start; port = out }))) 0 start out next refl is (omega arith) in
          (rest.0, rest.2)
