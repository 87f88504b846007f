-- What `lanes` gives for what was read.

use Rattle.std.specs.Prelude.{◌≡◌, ℕ, List, [], ◌∷◌, ◌++◌, Option, Some, None, map, nat_eq}
use Rattle.std.specs.List.{flat_map}
use Rattle.std.specs.Option.{option_map, option_to_list}
use Rattle.indexmap.specs.IndexSet.{insert_all}
use Rattle.common_graph.specs.Cycles.{HasNoCycle, IsCycle}
use Rattle.fabric_model.specs.declared.node.EndPort.TheVariants.{Switch}
use Rattle.fabric_model.specs.Fabric.{FabricOf, guid_of}
use Rattle.fabric_topology.specs.Unset.{unset_of}
use Rattle.fabric_tables.specs.Cells.{TablesOf, tables_of}
use Rattle.fabric_routes.specs.Counting.{IsCountOf}
use Rattle.fabric_model.specs.declared.traffic.Traffic.{Traffic}
use Rattle.fabric_lane_tables.specs.Lanes.{IsLaneCount, LanesOf, lanes_of}
use Rattle.fabric_lane_tables.specs.PathLevels.{LevelsOf}
use Rattle.fabric_lane_routes.specs.LaneFound.{SomeIsLaneStopped}
use Rattle.fabric_lane_routes.specs.LaneRoutes.{LaneChannel, LaneDependsOn}
use Rattle.fabric_verdict.specs.declared.verdict.LoopChannel.{LoopChannel}
use Rattle.fabric_lane_verdict.specs.declared.verdict.LaneLoopChannel.{LaneLoopChannel}
use Rattle.fabric_lane_verdict.specs.LaneJudgements.{IsLaneChannelCount, IsLaneDependencyCount}
use Rattle.fabric_lane_verdict.specs.LaneVerdict.{LaneCycleIs, LaneHasRanks, LanePasses}
use Rattle.fabric_print_lanes.specs.declared.answer.LaneAnswer.{LaneAnswer}
use Rattle.fabric_lane_counts.specs.declared.counts.LaneCounts.{LaneCounts}
use Rattle.fabric_lane_counts.specs.declared.counts.LaneLoss.{LaneLoss}
use Rattle.fabric_lane_counts.specs.declared.counts.LaneLosses.{LaneLosses as Counted}
use Rattle.fabric_lane_counts.specs.declared.counts.LostLaneRoute.{LostLaneRoute}
use Rattle.fabric_lane_counts.specs.LaneCounts.{AreLaneCounts, IsSilent, lane_sum_of}
use Rattle.fabric_print_lanes.specs.declared.answer.LaneLosses.{LaneLosses}
use Rattle.fabric_print_lanes.specs.declared.answer.LaneLost.{LaneLost}
use Rattle.fabric_print_lanes.specs.declared.answer.LaneStep.{LaneStep}
use Rattle.fabric_print_lanes.specs.declared.answer.Asked.{Asked}
use Rattle.fabric_print_lanes.specs.declared.answer.Mute.{Mute}
use Rattle.fabric_print_lanes.specs.declared.answer.LossCause.{LossCause}
use Rattle.fabric_print_lanes.specs.declared.answer.LossCause.TheVariants.{Missing, Dead, Wrong, Discard, Loop}
use Rattle.fabric_print_lanes.specs.LaneAnswers.{lane_answer_text}
use Rattle.fabric_print.specs.declared.answer.Routes.{Routes}
use Rattle.fabric_call.specs.declared.status.Status.{Status}
use Rattle.fabric_call.specs.declared.status.Status.TheVariants.{Ok, Undecided, RoutesLost, Cycle}
use Rattle.fabric_judge_commands.specs.Judged.{IsRead, step_of, unowned_told}
use Rattle.fabric_judge_commands.specs.Names.{names_for}
use Rattle.fabric_judge_commands.specs.Words.{traffic_word}
use Rattle.fabric_lane_commands.specs.Inputs.{Told}
use Rattle.fabric_lane_commands.specs.Silence.{IsMute, NoneIsSilent, SomeIsSilent}

module _ (fabric : FabricOf) (tables : TablesOf) (lanes : LanesOf) (traffic : Traffic) (levels : LevelsOf) where
  -- What the statuses 0, 6, 7 and 8 mean, by the levels that are given and so many lanes: there is no credit loop, as ranks
  -- of the channels show, each route of the traffic arrives, and each pair is given a level; the same, but some are given
  -- none; there is no credit loop, but a route stops or is discarded; there is one.
  abbrev pub IsLaneEndOf : (given : LevelsOf) → ℕ → Status → Type 0
  IsLaneEndOf given count Ok =
      (ranks : List ℕ) × LanePasses fabric tables lanes traffic levels count ranks
      × NoneIsSilent fabric tables traffic given
  IsLaneEndOf given count Undecided =
      (ranks : List ℕ) × LanePasses fabric tables lanes traffic levels count ranks
      × SomeIsSilent fabric tables traffic given
  IsLaneEndOf given count RoutesLost =
      (ranks : List ℕ) × LaneHasRanks fabric tables lanes traffic levels count ranks
      × SomeIsLaneStopped fabric tables lanes traffic levels
  IsLaneEndOf given count Cycle =
      (channel : LaneChannel) × (rest : List LaneChannel)
      × IsCycle (LaneDependsOn fabric tables lanes traffic levels) channel rest
  IsLaneEndOf given count status = ⊥

  -- the least credit loop, or no channels if there is none
  abbrev pub IsLaneLoop : List LaneLoopChannel → Type 0
  IsLaneLoop [] = HasNoCycle (LaneDependsOn fabric tables lanes traffic levels)
  IsLaneLoop (one ∷ rest) = LaneCycleIs fabric tables lanes traffic levels (one ∷ rest)

-- the link of a channel, and the route without its service level
abbrev pub without_lane : LaneLoopChannel → LoopChannel
without_lane one =
    record {
      channel = record { switch = one.channel.switch; port = one.channel.port };
      witness = record { lid = one.witness.lid; source = one.witness.source };
    }

-- a channel of a credit loop, with the route that takes it and the next one
abbrev pub lane_step_of : FabricOf → LaneLoopChannel → LaneStep
lane_step_of fabric one =
    record { step = step_of fabric (without_lane one); lane = one.channel.lane; level = one.witness.level }

-- the GUIDs in a silent pair, in steps of a cycle and in lost routes, each once, at its first place
abbrev pub mute_guids : Option Mute → List ℕ
mute_guids None = []
mute_guids (Some mute) = mute.source ∷ []

abbrev pub lane_mentioned : Option Mute → List LaneStep → List LaneLost → List ℕ
lane_mentioned mute cycle lost =
    insert_all nat_eq (mute_guids mute) (flat_map (λ one. one.step.guid ∷ one.step.source ∷ []) cycle
    ++ flat_map (λ route. route.source ∷ route.at ∷ []) lost)

abbrev pub lane_routes_of : Traffic → LaneCounts → Routes
lane_routes_of traffic counts =
    record {
      routes = counts.routes;
      arrived = counts.arrived;
      hops = counts.hops;
      unowned = unowned_told traffic counts.unowned;
    }

-- how many routes are lost, by cause
abbrev pub lane_losses_of : Counted → LaneLosses
lane_losses_of lost =
    record {
      all = lane_sum_of lost;
      missing = lost.missing.count;
      dead = lost.dead.count;
      wrong = lost.wrong.count;
      discard = lost.discard.count;
      looping = lost.looping.count;
    }

-- the least route that is lost by a cause, as an answer tells it
abbrev pub lane_lost_route : FabricOf → LossCause → LostLaneRoute → LaneLost
lane_lost_route fabric cause route =
    record {
      cause = cause;
      lid = route.lid;
      source = guid_of fabric route.source;
      level = route.level;
      at = guid_of fabric (Switch route.at);
    }

-- none if no route is lost by it
abbrev pub lane_lost_by : FabricOf → LossCause → LaneLoss → List LaneLost
lane_lost_by fabric cause loss = option_to_list (option_map (lane_lost_route fabric cause) loss.least)

-- those of all causes, in this order
abbrev pub lane_lost_of : FabricOf → Counted → List LaneLost
lane_lost_of fabric lost =
    lane_lost_by fabric Missing lost.missing ++ lane_lost_by fabric Dead lost.dead
    ++ lane_lost_by fabric Wrong lost.wrong ++ lane_lost_by fabric Discard lost.discard
    ++ lane_lost_by fabric Loop lost.looping

-- each part of the answer
pub record IsLaneAnswerFor (traffic : Traffic) (asked : Asked) (told : Told) (answer : LaneAnswer) : Type 0 where
  pub read : IsRead told.fabric told.found answer.read
  pub traffic_is : answer.traffic.now ≡ traffic_word traffic
  pub lanes : IsLaneCount (lanes_of told.lanes) answer.lanes
  pub asked_is : answer.asked ≡ asked
  pub counts : LaneCounts
  pub counted :
      AreLaneCounts told.fabric (tables_of told.found.cells) (lanes_of told.lanes) traffic told.levels counts
  pub routes : answer.routes ≡ lane_routes_of traffic counts
  pub silent : IsCountOf (IsSilent told.fabric (tables_of told.found.cells) traffic told.given) answer.silent
  pub mute : IsMute told.fabric (tables_of told.found.cells) traffic told.given answer.mute
  pub channels : IsLaneChannelCount told.fabric answer.lanes answer.channels
  pub dependencies :
      IsLaneDependencyCount told.fabric (tables_of told.found.cells) (lanes_of told.lanes) traffic told.levels
      answer.dependencies
  pub loop : List LaneLoopChannel
  pub is_loop :
      IsLaneLoop told.fabric (tables_of told.found.cells) (lanes_of told.lanes) traffic told.levels loop
  pub cycle : answer.cycle.items ≡ map (lane_step_of told.fabric) loop
  pub losses : answer.losses ≡ lane_losses_of counts.lost
  pub lost : answer.lost.items ≡ lane_lost_of told.fabric counts.lost
  pub unset : answer.unset ≡ unset_of told.text
  pub names :
      answer.names.items ≡ names_for told.text (lane_mentioned answer.mute answer.cycle.items answer.lost.items)

-- the status means what is so of the tables, and what is written is the text of their answer
pub record IsLaneJudged (traffic : Traffic) (asked : Asked) (told : Told) (status : Status) (written : List ℕ)
    : Type 0 where
  pub answer : LaneAnswer
  pub is_answer : IsLaneAnswerFor traffic asked told answer
  pub ends :
      IsLaneEndOf told.fabric (tables_of told.found.cells) (lanes_of told.lanes) traffic told.levels told.given answer.lanes
      status
  pub says : written ≡ lane_answer_text answer
