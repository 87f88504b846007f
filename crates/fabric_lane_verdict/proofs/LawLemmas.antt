-- Routes on lanes as routes on one lane, and with more levels.
use Rattle.std.proofs.Common.{◌≡◌, ◌∙◌, sym, ap, refl, subst, ℕ, zero, suc, Some, List, [], ◌∷◌, map, inl, inr}
use Rattle.std.proofs.lemmas.Nat.Bits.{bit_at_ones}
use Rattle.common_graph.specs.Cycles.{HasNoCycle, Path}
use Rattle.common_graph.proofs.PathLemmas.{more_steps}
use Rattle.fabric_tables.specs.Cells.{TablesOf}
use Rattle.fabric_lane_tables.specs.Lanes.{LanesOf}
use Rattle.fabric_lane_tables.specs.PathLevels.{AreLevelsAmong, LevelsOf}
use Rattle.fabric_model.specs.declared.node.Spot.{Spot}
use Rattle.fabric_model.specs.declared.node.EndPort.{EndPort}
use Rattle.fabric_model.specs.Fabric.{FabricOf}
use Rattle.fabric_routes.specs.declared.hop.Hop.{Hop}
use Rattle.fabric_routes.specs.declared.hop.Hop.TheVariants as one
use Rattle.fabric_model.specs.declared.traffic.Traffic.{Traffic}
use Rattle.fabric_routes.specs.Routes.{Channel, ComesBy, DependsOn, Sends, hop}
use Rattle.fabric_verdict.specs.Verdict.{AllArrive}
use Rattle.fabric_lane_routes.specs.declared.hop.LaneHop.TheVariants.{Discard}
use Rattle.fabric_lane_routes.specs.LaneFound.{link_of}
use Rattle.fabric_lane_routes.specs.LaneRoutes.{LaneChannel, LaneDependsOn, LaneSends, LaneWalksBy, begin_of, lane_hop}
use Rattle.fabric_lane_routes.proofs.OneLaneLemmas.{Like, arrive_like, hop_like, on_like, start_begin, takes_one}
use Rattle.fabric_lane_verdict.specs.LaneVerdict.{LaneAllArrive, LaneArrivesBy, NoneIsDiscarded, any_level}

module _ (fabric : FabricOf) (tables : TablesOf) (lanes : LanesOf) where
  module _ (traffic : Traffic) (levels : LevelsOf) where
    pub one_lane : (channel next : LaneChannel) → LaneDependsOn fabric tables lanes traffic levels channel next → DependsOn fabric tables traffic (link_of channel) (link_of next)
    one_lane channel next (lid, source, level, takes) = (lid, source, takes_one fabric tables lanes traffic levels lid source level channel next takes)

    links : List LaneChannel → List Channel
    links = map link_of

    path_one : (start : LaneChannel) (rest : List LaneChannel) (last : LaneChannel) → Path (LaneDependsOn fabric tables lanes traffic levels) start rest last → Path (DependsOn fabric tables traffic) (link_of start) (map link_of rest) (link_of last)
    path_one start [] last step = one_lane start last step
    path_one start (next ∷ rest) last (step, path) = (one_lane start next step, path_one next rest last path)

    pub no_lane_cycle : HasNoCycle (DependsOn fabric tables traffic) → HasNoCycle (LaneDependsOn fabric tables lanes traffic levels)
    no_lane_cycle none start rest cycle = none (link_of start) (map link_of rest) (path_one start rest start cycle)

    module _ (none : NoneIsDiscarded fabric tables lanes traffic levels) (lid : ℕ) (source : EndPort) (level : ℕ) (sends : LaneSends fabric tables traffic levels lid source level) (start : Spot) (begins : begin_of fabric source ≡ Some start) where
      kept : (hops : ℕ) (at : Spot) → LaneWalksBy (lane_hop fabric tables lanes level lid) hops start at → lane_hop fabric tables lanes level lid at ≡ Discard → ⊥
      kept hops at walk = none lid source level at (record { sends = sends; start = start; begins = begins; hops = hops; comes = walk })

      like_at : (at : Spot) (switch : ℕ) (does : Hop) → at.switch ≡ switch → hop fabric tables switch lid ≡ does → Like does (lane_hop fabric tables lanes level lid at)
      like_at at switch does same is = subst (λ (h : Hop). Like h (lane_hop fabric tables lanes level lid at)) (ap (λ (s : ℕ). hop fabric tables s lid) same ∙ is) (hop_like fabric tables lanes level lid at)

      walk_lanes : (hops at : ℕ) → ComesBy fabric tables lid hops start.switch at → (spot : Spot) × (spot.switch ≡ at) × LaneWalksBy (lane_hop fabric tables lanes level lid) hops start spot
      walk_lanes zero at walk = (start, walk, refl)
      walk_lanes (suc hops) at (before, port, walk, on) =
          let (spot, same, lane_walk) = walk_lanes hops before walk in
          elim (on_like port at (lane_hop fabric tables lanes level lid spot) (like_at spot before (one.On port at) same on)) [
            | inl gone ↦ absurd (kept hops spot lane_walk gone)
            | inr (lane, to, goes, there) ↦ (to, there, (spot, port, lane, lane_walk, goes))
          ]

      ends_so : (hops at : ℕ) → ComesBy fabric tables lid hops start.switch at → hop fabric tables at lid ≡ one.Arrive → LaneArrivesBy fabric tables lanes lid source level hops
      ends_so hops at walk arrives =
          let (spot, same, lane_walk) = walk_lanes hops at walk in
          record {
            start = start;
            begins = begins;
            at = spot;
            comes = lane_walk;
            arrives = elim (arrive_like (lane_hop fabric tables lanes level lid spot) (like_at spot at one.Arrive same arrives)) [
              | inl gone ↦ absurd (kept hops spot lane_walk gone)
              | inr is ↦ is
            ];
          }

    pub all_arrive : AllArrive fabric tables traffic → NoneIsDiscarded fabric tables lanes traffic levels → LaneAllArrive fabric tables lanes traffic levels
    all_arrive arrive none lid source level sends =
        let (hops, by) = arrive lid source sends.sends in
        let (start, begins, same) = start_begin fabric source by.start by.begins in
        (hops, ends_so none lid source level sends start begins hops by.at (subst (λ (s : ℕ). ComesBy fabric tables lid hops s by.at) (sym same) by.comes) by.arrives)

  -- what sends with levels sends with more
  pub sends_among : (traffic : Traffic) (levels others : LevelsOf) → AreLevelsAmong levels others → (lid : ℕ) (source : EndPort) (level : ℕ) → LaneSends fabric tables traffic levels lid source level → LaneSends fabric tables traffic others lid source level
  sends_among traffic levels others among lid source level sends = record { sends = sends.sends; has = among source lid level sends.has }

  -- .. and what sends by a traffic does so by a greater one
  pub sends_greater : (traffic greater : Traffic) (levels : LevelsOf) → ((lid : ℕ) (source : EndPort) → Sends fabric tables traffic lid source → Sends fabric tables greater lid source) → (lid : ℕ) (source : EndPort) (level : ℕ) → LaneSends fabric tables traffic levels lid source level → LaneSends fabric tables greater levels lid source level
  sends_greater traffic greater levels more lid source level sends = record { sends = more lid source sends.sends; has = sends.has }

  -- more routes, more dependencies
  module _ (traffic greater : Traffic) (levels others : LevelsOf) (more : (lid : ℕ) (source : EndPort) (level : ℕ) → LaneSends fabric tables traffic levels lid source level → LaneSends fabric tables greater others lid source level) where
    pub depends_more : (channel next : LaneChannel) → LaneDependsOn fabric tables lanes traffic levels channel next → LaneDependsOn fabric tables lanes greater others channel next
    depends_more channel next (lid, source, level, takes) =
        let comes = takes.comes in (
          lid,
          source,
          level,
          record {
            entry = takes.entry;
            comes = record { sends = more lid source level comes.sends; start = comes.start; begins = comes.begins; hops = comes.hops; comes = comes.comes };
            next_entry = takes.next_entry;
            first = takes.first;
            after = takes.after;
            second = takes.second;
          },
        )

    pub passes_more : HasNoCycle (LaneDependsOn fabric tables lanes greater others) → LaneAllArrive fabric tables lanes greater others → HasNoCycle (LaneDependsOn fabric tables lanes traffic levels) × LaneAllArrive fabric tables lanes traffic levels
    passes_more none arrive = (
      more_steps (LaneDependsOn fabric tables lanes traffic levels) (LaneDependsOn fabric tables lanes greater others) depends_more none,
      λ lid source level sends. arrive lid source level (more lid source level sends),
    )

-- all sixteen
pub among_any : (levels : LevelsOf) → AreLevelsAmong levels any_level
among_any levels source lid level has = (has.0, bit_at_ones 16 level has.0)
