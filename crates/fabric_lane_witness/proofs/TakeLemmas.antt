-- What goes to a LID by the link of a channel, and which routes take a channel and then another.
use Rattle.std.proofs.Common.{◌≡◌, ◌∙◌, sym, ap, subst, refl, ℕ, ◌+◌, ◌*◌, ◌/◌, ◌%◌, ◌<◌, ◌≤◌, ◌↔◌, Option, Some, arith, inl, inr, ◌⊎◌}
use Rattle.std.specs.Int.{bit_at}
use Rattle.std.specs.Prelude.{MatchOption}
use Rattle.std.proofs.lemmas.Bool.{cases_eq, cases_lt}
use Rattle.std.proofs.lemmas.Nat.Bits.{bit_at-zero}
use Rattle.fabric_model.specs.declared.node.EndPort.{EndPort}
use Rattle.fabric_model.specs.declared.node.Side.TheVariants.{To}
use Rattle.fabric_model.specs.declared.node.Spot.{Spot}
use Rattle.fabric_model.specs.Fabric.{FabricOf, IsFabric, side_of}
use Rattle.fabric_tables.specs.Cells.{TablesOf}
use Rattle.fabric_lane_tables.specs.Lanes.{LanesOf}
use Rattle.fabric_lane_tables.specs.PathLevels.{LevelsOf}
use Rattle.fabric_model.specs.declared.traffic.Traffic.{Traffic}
use Rattle.fabric_routes.specs.Witness.{IsFirst, IsFirstSource, IsLesser}
use Rattle.fabric_routes.proofs.StartLemmas.{cabled_low, sender_is, source_low}
use Rattle.fabric_routes.proofs.WitnessLemmas.{first_of}
use Rattle.fabric_lane_routes.specs.declared.hop.LaneHop.TheVariants.{On}
use Rattle.fabric_lane_routes.specs.LaneFound.{IsLeastLaneWitness}
use Rattle.fabric_lane_routes.specs.LaneRoutes.{LaneChannel, LaneSends, LaneTakes, LaneWalksBy, begin_of, lane_hop}
use Rattle.fabric_lane_routes.specs.LaneWays.{HasNoWay, IsWay}
use Rattle.fabric_lane_routes.proofs.OnLemmas.{on_way}
use Rattle.fabric_lane_witness.specs.declared.witness.Kind.{Kind}
use Rattle.fabric_lane_witness.specs.declared.witness.Kind.TheVariants.{Hosts, Switches}
use Rattle.fabric_lane_witness.specs.Search.{AreOn, GoesBy, GoesOn, IsLeastAt, Takes, count_of, end_at}

same_spot : (a b : Spot) → a.switch ≡ b.switch → a.port ≡ b.port → a ≡ b
same_spot a b switch port = ap (λ (s : ℕ). let spot : Spot = record { switch = s; port = a.port } in spot) switch ∙ ap (λ (p : ℕ). let spot : Spot = record { switch = b.switch; port = p } in spot) port

-- the ways of a switch for a LID
module _ (fabric : FabricOf) (tables : TablesOf) (lid switch : ℕ) where
  abbrev Way : ℕ → Spot → Type 0
  Way = IsWay fabric tables lid switch

  one_port : (port out : ℕ) (next to : Spot) → Way port next → Way out to → port ≡ out
  one_port port out next to way other = let a = way.told in let b = other.told in cc

  -- lead to one place
  pub one_way : (port out : ℕ) (next to : Spot) → Way port next → Way out to → next ≡ to
  one_way port out next to way other =
      let sides : To next.switch next.port ≡ To to.switch to.port = sym way.leads ∙ ap (λ (p : ℕ). side_of fabric switch p) (one_port port out next to way other) ∙ other.leads in
      same_spot next to (cc) (cc)

  -- and are told by block and bit
  same_lid : 64 * (lid / 64) + lid % 64 ≡ lid
  same_lid = omega arith

  pub way_of : (port out : ℕ) (next : Spot) → IsWay fabric tables (64 * (lid / 64) + lid % 64) switch port next → port ≡ out → Way out next
  way_of port out next way same = subst (λ (p : ℕ). Way p next) same (subst (λ (d : ℕ). IsWay fabric tables d switch port next) same_lid way)

  pub none_of : HasNoWay fabric tables (64 * (lid / 64) + lid % 64) switch → (port : ℕ) (next : Spot) → Way port next → ⊥
  none_of none port next way = none port next (subst (λ (d : ℕ). IsWay fabric tables d switch port next) (sym same_lid) way)

  pub other_of : (port out : ℕ) (next to : Spot) → IsWay fabric tables (64 * (lid / 64) + lid % 64) switch port next → (port ≡ out → ⊥) → Way out to → ⊥
  other_of port out next to way away other = away (one_port port out next to (way_of port port next way refl) other)

module _ (fabric : FabricOf) (tables : TablesOf) (lanes : LanesOf) (lid : ℕ) where
  -- whichever port it came in by, what goes on from a switch goes on to one place
  pub same_next : (level : ℕ) (one other to beyond : Spot) (out way exit by : ℕ) → one.switch ≡ other.switch → lane_hop fabric tables lanes level lid one ≡ On out way to → lane_hop fabric tables lanes level lid other ≡ On exit by beyond → to ≡ beyond
  same_next level one other to beyond out way exit by same goes goes_too =
      one_way fabric tables lid other.switch out exit to beyond (subst (λ (s : ℕ). IsWay fabric tables lid s out to) same (on_way fabric tables lanes level lid one out way to goes)) (on_way fabric tables lanes level lid other exit by beyond goes_too)

  -- what goes by a channel goes on by the next one exactly if it does so from where the channel leads
  module _ (channel next : LaneChannel) where
    abbrev GoesFrom : ℕ → Spot → Type 0
    GoesFrom level spot = (after : Spot) × (lane_hop fabric tables lanes level lid spot ≡ On next.port next.lane after)

    pub goes_on : (level : ℕ) (spot : Spot) → IsWay fabric tables lid channel.switch channel.port spot → spot.switch ≡ next.switch → GoesFrom level spot → GoesOn fabric tables lanes lid level channel next
    goes_on level spot leads same (after, goes) = record {
      entry = spot.port;
      leads = subst (IsWay fabric tables lid channel.switch channel.port) here leads;
      after = after;
      goes = ap (lane_hop fabric tables lanes level lid) (sym here) ∙ goes;
    }
      where
        here : spot ≡ record { switch = next.switch; port = spot.port }
        here = same_spot spot (record { switch = next.switch; port = spot.port }) same refl

    pub on_here : (level : ℕ) (spot : Spot) → IsWay fabric tables lid channel.switch channel.port spot → GoesOn fabric tables lanes lid level channel next → (spot.switch ≡ next.switch) × GoesFrom level spot
    on_here level spot leads on =
        let there : Spot = record { switch = next.switch; port = on.entry } in
        let here = one_way fabric tables lid channel.switch channel.port channel.port spot there leads on.leads in
        (ap (λ (s : Spot). s.switch) here, (on.after, ap (lane_hop fabric tables lanes level lid) here ∙ on.goes))

    pub none_on : ((level : ℕ) → GoesOn fabric tables lanes lid level channel next → ⊥) → AreOn fabric tables lanes lid channel next 0
    none_on none level low = (λ has. absurd (let zero = bit_at-zero level in omega arith), λ on. absurd (none level on))

  module _ (traffic : Traffic) (levels : LevelsOf) (channel next : LaneChannel) where
    abbrev TakesBy : EndPort → ℕ → Type 0
    TakesBy source level = LaneTakes fabric tables lanes traffic levels lid source level channel next

    -- a route that goes by the channel, and what goes by it goes on by the next one
    pub takes_of : (source : EndPort) (level : ℕ) (start : Spot) → LaneSends fabric tables traffic levels lid source level → begin_of fabric source ≡ Some start → GoesBy (lane_hop fabric tables lanes level lid) start channel → GoesOn fabric tables lanes lid level channel next → TakesBy source level
    takes_of source level start sends begins by on = record {
      entry = by.entry;
      comes = record { sends = sends; start = start; begins = begins; hops = by.hops; comes = by.comes };
      next_entry = on.entry;
      first = by.goes ∙ ap (On channel.port channel.lane) to;
      after = on.after;
      second = on.goes;
    }
      where
        to : by.next ≡ record { switch = next.switch; port = on.entry }
        to = one_way fabric tables lid channel.switch channel.port channel.port by.next (record { switch = next.switch; port = on.entry }) (on_way fabric tables lanes level lid (record { switch = channel.switch; port = by.entry }) channel.port channel.lane by.next by.goes) on.leads

    pub goes_of : (source : EndPort) (level : ℕ) (start : Spot) → begin_of fabric source ≡ Some start → TakesBy source level → GoesBy (lane_hop fabric tables lanes level lid) start channel
    goes_of source level start begins takes = record {
      hops = takes.comes.hops;
      entry = takes.entry;
      comes = (
          let other = takes.comes.begins in
          let same : takes.comes.start ≡ start = cc in
          subst (λ (s : Spot). LaneWalksBy (lane_hop fabric tables lanes level lid) takes.comes.hops s (record { switch = channel.switch; port = takes.entry })) same takes.comes.comes);
      next = record { switch = next.switch; port = takes.next_entry };
      goes = takes.first;
    }

    pub on_of : (source : EndPort) (level : ℕ) → TakesBy source level → GoesOn fabric tables lanes lid level channel next
    on_of source level takes = record {
      entry = takes.next_entry;
      leads = on_way fabric tables lanes level lid (record { switch = channel.switch; port = takes.entry }) channel.port channel.lane (record { switch = next.switch; port = takes.next_entry }) takes.first;
      after = takes.after;
      goes = takes.second;
    }

    -- who takes is one of the fabric
    pub takes_low : (kind : Kind) (place : ℕ) → Takes fabric tables lanes traffic levels lid channel next (end_at kind place) → place < count_of fabric kind
    takes_low Hosts end (level, takes) = let source = sender_is fabric tables traffic lid (end_at Hosts end) takes.comes.sends.sends in cabled_low fabric end source.0 source.1
    takes_low Switches switch (level, takes) = source_low fabric traffic switch (sender_is fabric tables traffic lid (end_at Switches switch) takes.comes.sends.sends)

    -- the end port of least GUID, of those of both kinds
    pub first_takes : IsFabric fabric → (host switch : Option ℕ) (found : Option EndPort) → MatchOption host ((end : ℕ) → Takes fabric tables lanes traffic levels lid channel next (end_at Hosts end) → ⊥) (IsFirst (λ end. Takes fabric tables lanes traffic levels lid channel next (end_at Hosts end))) → MatchOption switch ((at : ℕ) → Takes fabric tables lanes traffic levels lid channel next (end_at Switches at) → ⊥) (IsFirst (λ at. Takes fabric tables lanes traffic levels lid channel next (end_at Switches at))) → IsLesser fabric host switch found → MatchOption found ((source : EndPort) → Takes fabric tables lanes traffic levels lid channel next source → ⊥) (IsFirstSource fabric (Takes fabric tables lanes traffic levels lid channel next))
    first_takes fits host switch found hosts switches lesser = first_of fabric fits (Takes fabric tables lanes traffic levels lid channel next) (takes_low Hosts) (takes_low Switches) host switch found hosts switches lesser

-- the least LID
pub least_witness : (fabric : FabricOf) (tables : TablesOf) (lanes : LanesOf) (traffic : Traffic) (levels : LevelsOf) (lid : ℕ) (channel next : LaneChannel) (source : EndPort) (level : ℕ) → ((other : ℕ) → other < lid → (source : EndPort) → Takes fabric tables lanes traffic levels other channel next source → ⊥) → IsLeastAt fabric tables lanes traffic levels lid channel next source level → IsLeastLaneWitness fabric tables lanes traffic levels channel next lid source level
least_witness fabric tables lanes traffic levels lid channel next source level none is = record {
  takes = is.lowest.is;
  least = λ other_lid other other_level takes. elim (cases_lt other_lid lid) [
    | inl before ↦ absurd (none other_lid before other (other_level, takes))
    | inr after ↦ after
  ];
  first = λ other other_level takes. is.first.first other (other_level, takes);
  lowest = λ other_level takes. elim (cases_lt other_level level) [
    | inl before ↦ absurd (is.lowest.first other_level before takes)
    | inr after ↦ after
  ];
}

-- the numbers below an end of a kind, as bits
module _ (Is : ℕ → Type 0) where
  abbrev pub AreBelow : ℕ → ℕ → Type 0
  AreBelow end word = (k : ℕ) → k < 16 → ((bit_at word k ≡ 1) ↔ ((k < end) × Is k))

  pub below_none : AreBelow 0 0
  below_none k low = (λ has. absurd (let none = bit_at-zero k in omega arith), λ is. absurd (let less = is.0 in omega arith))

  pub below_with : (end word new : ℕ) → AreBelow end word → Is end → ((k : ℕ) → ((bit_at new k ≡ 1) ↔ ((bit_at word k ≡ 1) ⊎ (k ≡ end)))) → AreBelow (end + 1) new
  below_with end word new are is with k low = (
    λ has. elim ((with k).0 has) [
      | inl had ↦ (let old = (are k low).0 had in ((let less = old.0 in omega arith), old.1))
      | inr here ↦ ((omega arith), subst Is (sym here) is)
    ],
    λ both. elim (cases_eq k end) [
      | inl here ↦ (with k).1 (inr here)
      | inr other ↦ (with k).1 (inl ((are k low).1 ((let less = both.0 in omega arith), both.1)))
    ],
  )

  pub below_without : (end word : ℕ) → AreBelow end word → (Is end → ⊥) → AreBelow (end + 1) word
  below_without end word are else k low = (
    λ has. (let old = (are k low).0 has in ((let less = old.0 in omega arith), old.1)),
    λ both. elim (cases_eq k end) [
      | inl here ↦ absurd (else (subst Is here both.1))
      | inr other ↦ (are k low).1 ((let less = both.0 in omega arith), both.1)
    ],
  )

  pub below_all : (end word : ℕ) → 16 ≤ end → AreBelow end word → (k : ℕ) → k < 16 → ((bit_at word k ≡ 1) ↔ Is k)
  below_all end word all are k low = (λ has. ((are k low).0 has).1, λ is. (are k low).1 ((omega arith), is))
