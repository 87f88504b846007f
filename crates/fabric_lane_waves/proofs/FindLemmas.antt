-- Block after block, and the graph of all.
use Rattle.std.proofs.Common.{◌≡◌, ◌∙◌, sym, ap, subst, refl, ℕ, ◌+◌, ◌-◌, ◌*◌, ◌<◌, ◌≤◌, Bool, true, false, List, None, arith, length, inl, inr, ◌⊎◌, ◌↔◌}
use Rattle.std.proofs.lemmas.Bool.{cases_lt}
use Rattle.std.proofs.lemmas.List.{get_or_past}
use Rattle.std.proofs.lemmas.Nat.{same_from_place}
use Rattle.common_graph.specs.Graph.{GraphOf, LeadsTo}
use Rattle.fabric_tables.specs.Cells.{TablesOf}
use Rattle.fabric_lane_tables.specs.Lanes.{IsLaneCount, LanesOf}
use Rattle.fabric_lane_tables.specs.PathLevels.{LevelsOf}
use Rattle.fabric_model.specs.declared.node.EndPort.{EndPort}
use Rattle.fabric_model.specs.declared.node.Spot.{Spot}
use Rattle.fabric_model.specs.Fabric.{FabricOf}
use Rattle.fabric_model.specs.declared.traffic.Traffic.{Traffic}
use Rattle.fabric_routes.specs.Routes.{Sends}
use Rattle.fabric_routes.proofs.ChannelLemmas.{channel_low}
use Rattle.fabric_lane_routes.specs.LaneFound.{IsLaneChannel, SomeIsLaneStopped, lane_number}
use Rattle.fabric_lane_routes.specs.LaneRoutes.{LaneChannel, LaneTakes}
use Rattle.fabric_lane_waves.specs.LaneBlocks.{AreLaneDependencies, AreLaneFoundBelow, IsLaneWaved, SomeIsLaneStoppedTo, TakesLaneNumbers}
use Rattle.fabric_lane_waves.specs.LaneSteps.{IsLaneGraphOf}
use Rattle.fabric_lane_routes.proofs.OnLemmas.{lane_on}
use Rattle.fabric_lane_waves.proofs.OnLemmas.{lane_low}
use Rattle.fabric_lane_waves.proofs.StepLemmas.{same_channel}

module _ (fabric : FabricOf) (tables : TablesOf) (lanes : LanesOf) (count : ℕ) (traffic : Traffic) (levels : LevelsOf) where
  pub found_none : (graph : GraphOf) → AreLaneFoundBelow fabric tables lanes count traffic levels 0 graph graph false
  found_none graph = record {
    leads = λ one other. (
      λ has. inl has,
      λ either. elim either [
        | inl had ↦ had
        | inr (lid, low, takes) ↦ absurd (omega arith)
      ],
    );
    stopped = (λ e. absurd (cc), λ (lid, low, stopped). absurd (omega arith));
    wide = refl;
    bases = refl;
  }

  module _ (block : ℕ) where
    -- a LID below the next block is below this one, or of it
    place : (P : ℕ → Type 0) (lid : ℕ) → lid < 64 * (block + 1) → P lid → ((l : ℕ) × (l < 64 * block) × P l) ⊎ ((bit : ℕ) × (bit < 64) × P (64 * block + bit))
    place P lid low is = elim (cases_lt lid (64 * block)) [
      | inl before ↦ inl (lid, before, is)
      | inr here ↦ inr (lid - 64 * block, omega arith, (let e : lid ≡ 64 * block + (lid - 64 * block) = omega arith in subst P e is))
    ]

    pub found_more : (old now new : GraphOf) (before told : Bool) → AreLaneFoundBelow fabric tables lanes count traffic levels (64 * block) old now before → IsLaneWaved fabric tables lanes count traffic levels block now new before told → AreLaneFoundBelow fabric tables lanes count traffic levels (64 * (block + 1)) old new told
    found_more old now new before told found waved = record {
      leads = λ one other. (
        λ has. elim ((waved.leads one other).0 has) [
          | inl had ↦ elim ((found.leads one other).0 had) [
            | inl first ↦ inl first
            | inr (lid, low, takes) ↦ inr (lid, omega arith, takes)
          ]
          | inr (bit, low, takes) ↦ inr (64 * block + bit, omega arith, takes)
        ],
        λ either. elim either [
          | inl first ↦ (waved.leads one other).1 (inl ((found.leads one other).1 (inl first)))
          | inr (lid, low, takes) ↦ elim (place (λ l. TakesLaneNumbers fabric tables lanes count traffic levels l one other) lid low takes) [
            | inl below ↦ (waved.leads one other).1 (inl ((found.leads one other).1 (inr below)))
            | inr here ↦ (waved.leads one other).1 (inr here)
          ]
        ],
      );
      stopped = (
        λ is. elim (waved.stopped.0 is) [
          | inl had ↦ (let l = found.stopped.0 had in let low = l.1 in (l.0, omega arith, l.2))
          | inr (bit, low, stopped) ↦ (64 * block + bit, omega arith, stopped)
        ],
        λ (lid, low, stopped). elim (place (λ l. SomeIsLaneStoppedTo fabric tables lanes count traffic levels l) lid low stopped) [
          | inl below ↦ waved.stopped.1 (inl (found.stopped.1 below))
          | inr here ↦ waved.stopped.1 (inr here)
        ],
      );
      wide = waved.wide ∙ found.wide;
      bases = waved.bases ∙ found.bases;
    }

  pub all_stopped : (blocks : ℕ) → ((lid : ℕ) (source : EndPort) → Sends fabric tables traffic lid source → lid < 64 * blocks) → (old new : GraphOf) (told : Bool) → AreLaneFoundBelow fabric tables lanes count traffic levels (64 * blocks) old new told → ((told ≡ true) ↔ SomeIsLaneStopped fabric tables lanes traffic levels)
  all_stopped blocks low_of old new told found = (
    λ is. (let (lid, low, some) = found.stopped.0 is in (lid, some)),
    λ (lid, (source, (level, stopped))). found.stopped.1 (lid, low_of lid source stopped.1.sends.sends, (source, (level, stopped))),
  )

  -- the two channels that a route takes are channels
  module _ (counted : IsLaneCount lanes count) where
    pub first_is : (lid : ℕ) (source : EndPort) (level : ℕ) (channel next : LaneChannel) → LaneTakes fabric tables lanes traffic levels lid source level channel next → IsLaneChannel fabric count channel
    first_is lid source level channel next takes =
        let here : Spot = record { switch = channel.switch; port = takes.entry } in
        let there : Spot = record { switch = next.switch; port = takes.next_entry } in
        let on = lane_on fabric tables lanes level lid here channel.port channel.lane there takes.first in
        record { to = next.switch; entry = takes.next_entry; leads = on.3; low = lane_low lanes count counted channel.switch takes.entry channel.port level channel.lane on.1 on.2 }

    pub second_is : (lid : ℕ) (source : EndPort) (level : ℕ) (channel next : LaneChannel) → LaneTakes fabric tables lanes traffic levels lid source level channel next → IsLaneChannel fabric count next
    second_is lid source level channel next takes =
        let there : Spot = record { switch = next.switch; port = takes.next_entry } in
        let on = lane_on fabric tables lanes level lid there next.port next.lane takes.after takes.second in
        record { to = takes.after.switch; entry = takes.after.port; leads = on.3; low = lane_low lanes count counted next.switch takes.next_entry next.port level next.lane on.1 on.2 }

    pub one_channel : (a b : LaneChannel) → IsLaneChannel fabric count a → IsLaneChannel fabric count b → lane_number fabric count a ≡ lane_number fabric count b → a ≡ b
    one_channel a b is_a is_b same =
        let low_a = channel_low fabric (record { switch = a.switch; port = a.port }) (record { to = is_a.to; entry = is_a.entry; leads = is_a.leads }) in
        let low_b = channel_low fabric (record { switch = b.switch; port = b.port }) (record { to = is_b.to; entry = is_b.entry; leads = is_b.leads }) in
        let outer = same_from_place (a.switch * fabric.most + (a.port - 1)) a.lane (b.switch * fabric.most + (b.port - 1)) b.lane count is_a.low is_b.low same in
        let inner = same_from_place a.switch (a.port - 1) b.switch (b.port - 1) fabric.most (omega arith) (omega arith) outer.0 in
        same_channel a b inner.0 (let p = inner.1 in omega arith) outer.1

    pub all_found : (blocks : ℕ) → ((lid : ℕ) (source : EndPort) → Sends fabric tables traffic lid source → lid < 64 * blocks) → (old new : GraphOf) (told : Bool) → IsLaneGraphOf fabric count old → ((one other : ℕ) → LeadsTo old one other → ⊥) → AreLaneFoundBelow fabric tables lanes count traffic levels (64 * blocks) old new told → AreLaneDependencies fabric tables lanes count traffic levels new
    all_found blocks low_of old new told rows none found = record {
      nodes = ap (λ (xs : List ℕ). length xs) found.bases ∙ rows.nodes;
      exact = λ channel next is_channel is_next. (
        λ leads. elim ((found.leads (lane_number fabric count channel) (lane_number fabric count next)).0 leads) [
          | inl had ↦ absurd (none (lane_number fabric count channel) (lane_number fabric count next) had)
          | inr (lid, low, by) ↦ (
            lid,
            by.source,
            by.level,
            (
                let one = one_channel channel by.channel is_channel (first_is lid by.source by.level by.channel by.next by.takes) by.is_one in
                let other = one_channel next by.next is_next (second_is lid by.source by.level by.channel by.next by.takes) by.is_other in
                subst (λ (a : LaneChannel). LaneTakes fabric tables lanes traffic levels lid by.source by.level a next) (sym one) (subst (λ (b : LaneChannel). LaneTakes fabric tables lanes traffic levels lid by.source by.level by.channel b) (sym other) by.takes)),
          )
        ],
        λ (lid, source, level, takes). (found.leads (lane_number fabric count channel) (lane_number fabric count next)).1 (inr (
          lid,
          low_of lid source takes.comes.sends.sends,
          record { source = source; level = level; channel = channel; next = next; takes = takes; is_one = refl; is_other = refl },
        )),
      );
      only = λ one other leads. elim ((found.leads one other).0 leads) [
        | inl had ↦ absurd (none one other had)
        | inr (lid, low, by) ↦ (by.channel, by.next, first_is lid by.source by.level by.channel by.next by.takes, second_is lid by.source by.level by.channel by.next by.takes, by.is_one, by.is_other)
      ];
    }
