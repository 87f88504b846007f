-- First hops that are taken one after another, and the routes that they begin.
use Rattle.std.proofs.Common.{◌≡◌, ◌∙◌, sym, ap, subst, refl, ℕ, ◌+◌, ◌*◌, ◌<◌, List, Bool, true, Option, Some, None, length, arith, inl, inr, ◌⊎◌, ◌↔◌}
use Rattle.std.specs.Prelude.{MatchOption, slice_get, slice_index_or}
use Rattle.std.proofs.lemmas.Option.{slice_get_within}
use Rattle.fabric_tables.specs.Cells.{TablesOf, tables_of}
use Rattle.fabric_lane_tables.specs.Lanes.{LanesOf, lanes_of}
use Rattle.fabric_lane_tables.specs.PathLevels.{HasLevel, LevelsOf}
use Rattle.fabric_model.specs.declared.node.EndPort.{EndPort}
use Rattle.fabric_model.specs.declared.node.Spot.{Spot}
use Rattle.fabric_model.specs.Fabric.{FabricOf, switch_count}
use Rattle.fabric_model.specs.declared.traffic.Traffic.{Traffic}
use Rattle.fabric_routes.specs.Routes.{IsSource}
use Rattle.fabric_routes.specs.Waves.{HasBit}
use Rattle.fabric_routes.proofs.StartLemmas.{sender_is}
use Rattle.fabric_lane_routes.specs.declared.hop.LaneHop.{LaneHop}
use Rattle.fabric_lane_routes.specs.declared.hop.LaneHop.TheVariants.{On}
use Rattle.fabric_lane_routes.specs.LaneRoutes.{IsLaneStop, LaneSends, begin_of, lane_hop}
use Rattle.fabric_lane_waves.specs.declared.block.BlockRoutes.{BlockRoutes}
use Rattle.fabric_lane_waves.specs.LaneBlocks.{AreBegun, AreBegunOf, AreSent, IsFirstHop, IsOfGates, IsSentFrom}
use Rattle.fabric_lane_waves.specs.LaneGates.{AreAlike, AreGates, IsGateOf, source_at}
use Rattle.fabric_lane_waves.specs.LaneSteps.{departure_place}
use Rattle.fabric_lane_waves.proofs.GateLemmas.{source_place}
use Rattle.fabric_lane_waves.proofs.OnLemmas.{alike_hop}
use Rattle.fabric_lane_routes.proofs.OnLemmas.{on_parts}

some_spot : (a b : Spot) → Some a ≡ Some b → a ≡ b
some_spot a b same = cc

gate_there_of : (fabric : FabricOf) (lanes : LanesOf) (traffic : Traffic) (spots : List Spot) (source : EndPort) (o : Option ℕ) → MatchOption o (IsSource fabric traffic source → ⊥) (IsGateOf fabric lanes traffic spots source) → IsSource fabric traffic source → (gate : ℕ) × (o ≡ Some gate) × IsGateOf fabric lanes traffic spots source gate
gate_there_of fabric lanes traffic spots source None none is = absurd (none is)
gate_there_of fabric lanes traffic spots source (Some gate) of is = (gate, refl, of)

module _ (routes : BlockRoutes) where
  abbrev fabric : FabricOf
  fabric = routes.routing.fabric.now

  abbrev tables : TablesOf
  tables = tables_of routes.routing.cells.now

  abbrev lanes : LanesOf
  lanes = lanes_of routes.routing.lanes.now

  abbrev count : ℕ
  count = routes.routing.lanes.now.count

  abbrev pub Begun : (Spot → ℕ → ℕ → Type 0) → List ℕ → List ℕ → Bool → Bool → Type 0
  Begun = AreBegunOf routes

  pub begun_none : (Kind : Spot → ℕ → ℕ → Type 0) (words : List ℕ) (told : Bool) → ((spot : Spot) (level bit : ℕ) → Kind spot level bit → ⊥) → Begun Kind words words told told
  begun_none Kind words told none = record {
    seen = λ place bit. (
      λ has. inl has,
      λ either. elim either [
        | inl had ↦ had
        | inr (spot, level, port, lane, next, kind, goes, is) ↦ absurd (none spot level bit kind)
      ],
    );
    stopped = (
      λ is. inl is,
      λ either. elim either [
        | inl is ↦ is
        | inr (spot, level, bit, kind, stops) ↦ absurd (none spot level bit kind)
      ],
    );
    size = refl;
  }

  pub begun_more : (P Q R : Spot → ℕ → ℕ → Type 0) (a b c : List ℕ) (x y z : Bool) → ((spot : Spot) (level bit : ℕ) → R spot level bit → P spot level bit ⊎ Q spot level bit) → ((spot : Spot) (level bit : ℕ) → P spot level bit → R spot level bit) → ((spot : Spot) (level bit : ℕ) → Q spot level bit → R spot level bit) → Begun P a b x y → Begun Q b c y z → Begun R a c x z
  begun_more P Q R a b c x y z split left right first second = record {
    seen = λ place bit. (
      λ has. elim ((second.seen place bit).0 has) [
        | inl before ↦ elim ((first.seen place bit).0 before) [
          | inl had ↦ inl had
          | inr (spot, level, port, lane, next, kind, goes, is) ↦ inr (spot, level, port, lane, next, left spot level bit kind, goes, is)
        ]
        | inr (spot, level, port, lane, next, kind, goes, is) ↦ inr (spot, level, port, lane, next, right spot level bit kind, goes, is)
      ],
      λ either. elim either [
        | inl had ↦ (second.seen place bit).1 (inl ((first.seen place bit).1 (inl had)))
        | inr (spot, level, port, lane, next, kind, goes, is) ↦ elim (split spot level bit kind) [
          | inl p ↦ (second.seen place bit).1 (inl ((first.seen place bit).1 (inr (spot, level, port, lane, next, p, goes, is))))
          | inr q ↦ (second.seen place bit).1 (inr (spot, level, port, lane, next, q, goes, is))
        ]
      ],
    );
    stopped = (
      λ told. elim (second.stopped.0 told) [
        | inl before ↦ elim (first.stopped.0 before) [
          | inl had ↦ inl had
          | inr (spot, level, bit, kind, stops) ↦ inr (spot, level, bit, left spot level bit kind, stops)
        ]
        | inr (spot, level, bit, kind, stops) ↦ inr (spot, level, bit, right spot level bit kind, stops)
      ],
      λ either. elim either [
        | inl had ↦ second.stopped.1 (inl (first.stopped.1 (inl had)))
        | inr (spot, level, bit, kind, stops) ↦ elim (split spot level bit kind) [
          | inl p ↦ second.stopped.1 (inl (first.stopped.1 (inr (spot, level, bit, p, stops))))
          | inr q ↦ second.stopped.1 (inr (spot, level, bit, q, stops))
        ]
      ],
    );
    size = second.size ∙ first.size;
  }

  pub begun_same : (P : Spot → ℕ → ℕ → Type 0) (a b c : List ℕ) (x y z : Bool) → c ≡ b → z ≡ y → Begun P a b x y → Begun P a c x z
  begun_same P a b c x y z words told are = subst (λ (v : Bool). Begun P a c x v) (sym told) (subst (λ (ws : List ℕ). Begun P a ws x y) (sym words) are)

  pub begun_as : (P R : Spot → ℕ → ℕ → Type 0) (a b : List ℕ) (x y : Bool) → ((spot : Spot) (level bit : ℕ) → P spot level bit → R spot level bit) → ((spot : Spot) (level bit : ℕ) → R spot level bit → P spot level bit) → Begun P a b x y → Begun R a b x y
  begun_as P R a b x y to from are = record {
    seen = λ place bit. (
      λ has. elim ((are.seen place bit).0 has) [
        | inl had ↦ inl had
        | inr (spot, level, port, lane, next, kind, goes, is) ↦ inr (spot, level, port, lane, next, to spot level bit kind, goes, is)
      ],
      λ either. elim either [
        | inl had ↦ (are.seen place bit).1 (inl had)
        | inr (spot, level, port, lane, next, kind, goes, is) ↦ (are.seen place bit).1 (inr (spot, level, port, lane, next, from spot level bit kind, goes, is))
      ],
    );
    stopped = (
      λ told. elim (are.stopped.0 told) [
        | inl had ↦ inl had
        | inr (spot, level, bit, kind, stops) ↦ inr (spot, level, bit, to spot level bit kind, stops)
      ],
      λ either. elim either [
        | inl had ↦ are.stopped.1 (inl had)
        | inr (spot, level, bit, kind, stops) ↦ are.stopped.1 (inr (spot, level, bit, from spot level bit kind, stops))
      ],
    );
    size = are.size;
  }

  -- one first hop
  module _ (spot : Spot) (level bit : ℕ) where
    abbrev First : Spot → ℕ → ℕ → Type 0
    First = IsFirstHop spot level bit

    first_hop : (at : Spot) (with other : ℕ) → First at with other → lane_hop fabric tables lanes with (64 * routes.block + other) at ≡ lane_hop fabric tables lanes level (64 * routes.block + bit) spot
    first_hop at with other is = ap (λ (l : ℕ). lane_hop fabric tables lanes l (64 * routes.block + other) at) is.1 ∙ ap (λ (b : ℕ). lane_hop fabric tables lanes level (64 * routes.block + b) at) is.2 ∙ ap (lane_hop fabric tables lanes level (64 * routes.block + bit)) is.0

    module _ (does : LaneHop) (is : lane_hop fabric tables lanes level (64 * routes.block + bit) spot ≡ does) (old : List ℕ) where
      -- it goes on
      pub begun_on : (port lane : ℕ) (next : Spot) → does ≡ On port lane next → (IsLaneStop does → ⊥) → (new : List ℕ) → ((place other : ℕ) → (HasBit new place other ↔ (HasBit old place other ⊎ ((place ≡ departure_place (switch_count fabric) count level spot.switch lane) × (other ≡ bit))))) → length new ≡ length old → (told : Bool) → Begun First old new told told
      begun_on port lane next on stops_not new more size told = record {
        seen = λ place other. (
          λ has. elim ((more place other).0 has) [
            | inl had ↦ inl had
            | inr (there, put_in) ↦ inr (spot, level, port, lane, next, (refl, refl, put_in), ap (λ (b : ℕ). lane_hop fabric tables lanes level (64 * routes.block + b) spot) put_in ∙ is ∙ on, there)
          ],
          λ either. elim either [
            | inl had ↦ (more place other).1 (inl had)
            | inr (at, with, p, v, n, kind, goes, there) ↦ (
                let parts = on_parts p v port lane n next (sym goes ∙ first_hop at with other kind ∙ is ∙ on) in
                let same : departure_place (switch_count fabric) count with at.switch v ≡ departure_place (switch_count fabric) count level spot.switch lane =
                ap (λ (l : ℕ). departure_place (switch_count fabric) count l at.switch v) kind.1 ∙ ap (λ (s : Spot). departure_place (switch_count fabric) count level s.switch v) kind.0 ∙ ap (λ (w : ℕ). departure_place (switch_count fabric) count level spot.switch w) parts.1 in
                (more place other).1 (inr (there ∙ same, kind.2)))
          ],
        );
        stopped = (
          λ told_it. inl told_it,
          λ either. elim either [
            | inl had ↦ had
            | inr (at, with, other, kind, stops) ↦ absurd (stops_not (subst IsLaneStop (first_hop at with other kind ∙ is) stops))
          ],
        );
        size = size;
      }

      -- it does not
      pub begun_end : ((port lane : ℕ) (next : Spot) → does ≡ On port lane next → ⊥) → (had told : Bool) → ((told ≡ true) ↔ ((had ≡ true) ⊎ IsLaneStop does)) → Begun First old old had told
      begun_end ends had told tells = record {
        seen = λ place other. (
          λ has. inl has,
          λ either. elim either [
            | inl it ↦ it
            | inr (at, with, p, v, n, kind, goes, there) ↦ absurd (ends p v n (sym is ∙ sym (first_hop at with other kind) ∙ goes))
          ],
        );
        stopped = (
          λ told_it. elim (tells.0 told_it) [
            | inl it ↦ inl it
            | inr stops ↦ inr (spot, level, bit, (refl, refl, refl), subst IsLaneStop (sym is) stops)
          ],
          λ either. elim either [
            | inl it ↦ tells.1 (inl it)
            | inr (at, with, other, kind, stops) ↦ tells.1 (inr (subst IsLaneStop (first_hop at with other kind ∙ is) stops))
          ],
        );
        size = refl;
      }

  -- of all gates: just the routes of the traffic have begun
  module _ (traffic : Traffic) (levels : LevelsOf) (spots : List Spot) (gates : List (Option ℕ)) (are : AreGates fabric lanes traffic spots gates) (top : ℕ) (sent : List ℕ) (sends : AreSent fabric tables traffic levels gates (length spots) routes.block top sent) where
    abbrev OfGates : Spot → ℕ → ℕ → Type 0
    OfGates = IsOfGates spots sent top

    module _ (top_is : (source : EndPort) (lid level : ℕ) → HasLevel levels source lid level → level < top) (old new : List ℕ) (none : (place bit : ℕ) → HasBit old place bit → ⊥) (had told : Bool) (begun : Begun OfGates old new had told) where
      -- what a gate begins, an end port begins
      gate_source : (gate lid level : ℕ) (spot : Spot) → slice_get spots gate ≡ Some spot → IsSentFrom fabric tables traffic levels gates gate lid level → (source : EndPort) × (start : Spot) × LaneSends fabric tables traffic levels lid source level × (begin_of fabric source ≡ Some start) × AreAlike lanes spot start
      gate_source gate lid level spot stands from =
          let of : IsGateOf fabric lanes traffic spots (source_at fabric from.place) gate = subst (λ (o : Option ℕ). MatchOption o (IsSource fabric traffic (source_at fabric from.place) → ⊥) (IsGateOf fabric lanes traffic spots (source_at fabric from.place))) from.is (are.all.each from.place (let size = are.size in let low = from.low in omega arith)) in
          let same = some_spot of.serves.spot spot (sym of.serves.stands ∙ stands) in
          (source_at fabric from.place, of.start, from.sends, of.begins, subst (λ (x : Spot). AreAlike lanes x of.start) same of.serves.alike)

      -- and what an end port begins, its gate does
      source_gate : (source : EndPort) (lid level : ℕ) (start : Spot) → LaneSends fabric tables traffic levels lid source level → begin_of fabric source ≡ Some start → (gate : ℕ) × (spot : Spot) × (slice_get spots gate ≡ Some spot) × AreAlike lanes spot start × IsSentFrom fabric tables traffic levels gates gate lid level
      source_gate source lid level start sends begins =
          let from = sender_is fabric tables traffic lid source sends.sends in
          let (place, low, at) = source_place fabric traffic source from in
          let within : place < length gates = (let size = are.size in omega arith) in
          let is_source : IsSource fabric traffic (source_at fabric place) = subst (IsSource fabric traffic) (sym at) from in
          let (gate, is, of) = gate_there_of fabric lanes traffic spots (source_at fabric place) (slice_index_or gates place None) (are.all.each place low) is_source in
          let same = some_spot of.start start (sym of.begins ∙ ap (begin_of fabric) at ∙ begins) in (
            gate,
            of.serves.spot,
            of.serves.stands,
            subst (AreAlike lanes of.serves.spot) same of.serves.alike,
            record { place = place; low = within; is = is; sends = subst (λ (s : EndPort). LaneSends fabric tables traffic levels lid s level) (sym at) sends },
          )

      pub all_begun : AreBegun fabric tables lanes count traffic levels routes.block new had told
      all_begun = record {
        seen = λ place bit low. (
          λ has. elim ((begun.seen place bit).0 has) [
            | inl was ↦ absurd (none place bit was)
            | inr (spot, level, port, lane, next, (gate, stands, below, fits, in_sent), goes, there) ↦ (
                let from = (sends gate level bit (slice_get_within spots gate spot stands) below low).0 in_sent in
                let (source, start, sent_it, begins, alike) = gate_source gate (64 * routes.block + bit) level spot stands from in
                record {
                  source = source;
                  level = level;
                  sends = sent_it;
                  start = start;
                  begins = begins;
                  port = port;
                  lane = lane;
                  next = next;
                  goes = sym (alike_hop fabric tables lanes level (64 * routes.block + bit) spot start alike) ∙ goes;
                  is_at = there ∙ ap (λ (s : ℕ). departure_place (switch_count fabric) count level s lane) alike.0;
                })
          ],
          λ b. (
              let (gate, spot, stands, alike, from) = source_gate b.source (64 * routes.block + bit) b.level b.start b.sends b.begins in
              let below = top_is b.source (64 * routes.block + bit) b.level b.sends.has in
              (begun.seen place bit).1 (inr (
                spot,
                b.level,
                b.port,
                b.lane,
                b.next,
                (gate, stands, below, low, (sends gate b.level bit (slice_get_within spots gate spot stands) below low).1 from),
                alike_hop fabric tables lanes b.level (64 * routes.block + bit) spot b.start alike ∙ b.goes,
                b.is_at ∙ ap (λ (s : ℕ). departure_place (switch_count fabric) count b.level s b.lane) (sym alike.0),
              ))),
        );
        stopped = (
          λ told_it. elim (begun.stopped.0 told_it) [
            | inl it ↦ inl it
            | inr (spot, level, bit, (gate, stands, below, low, in_sent), stops) ↦ (
                let from = (sends gate level bit (slice_get_within spots gate spot stands) below low).0 in_sent in
                let (source, start, sent_it, begins, alike) = gate_source gate (64 * routes.block + bit) level spot stands from in
                inr (
                  bit,
                  low,
                  record {
                    source = source;
                    level = level;
                    sends = sent_it;
                    start = start;
                    begins = begins;
                    stops = subst IsLaneStop (alike_hop fabric tables lanes level (64 * routes.block + bit) spot start alike) stops;
                  },
                ))
          ],
          λ either. elim either [
            | inl it ↦ begun.stopped.1 (inl it)
            | inr (bit, low, b) ↦ (
                let (gate, spot, stands, alike, from) = source_gate b.source (64 * routes.block + bit) b.level b.start b.sends b.begins in
                let below = top_is b.source (64 * routes.block + bit) b.level b.sends.has in
                begun.stopped.1 (inr (
                  spot,
                  b.level,
                  bit,
                  (gate, stands, below, low, (sends gate b.level bit (slice_get_within spots gate spot stands) below low).1 from),
                  subst IsLaneStop (sym (alike_hop fabric tables lanes b.level (64 * routes.block + bit) spot b.start alike)) b.stops,
                )))
          ],
        );
      }
