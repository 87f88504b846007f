-- What `judge` gives for the text of a topology, its fabric and tables.

use Rattle.std.specs.Prelude.{◌≡◌, ℕ, List, [], ◌∷◌, ◌++◌, Option, Some, None, length, map}
use Rattle.std.specs.Option.{option_map, option_to_list}
use Rattle.common_graph.specs.Cycles.{HasNoCycle, IsCycle}
use Rattle.fabric_model.specs.declared.node.EndPort.TheVariants.{Switch}
use Rattle.fabric_model.specs.Fabric.{FabricOf, guid_of, switch_count}
use Rattle.fabric_tables.specs.Cells.{TablesOf, tables_of}
use Rattle.fabric_counts.specs.declared.counts.Counts.{Counts}
use Rattle.fabric_counts.specs.declared.counts.Loss.{Loss}
use Rattle.fabric_counts.specs.declared.counts.Losses.{Losses}
use Rattle.fabric_counts.specs.declared.counts.LostRoute.{LostRoute}
use Rattle.fabric_counts.specs.Counts.{AreCounts, sum_of}
use Rattle.fabric_model.specs.declared.traffic.Traffic.{Traffic}
use Rattle.fabric_model.specs.declared.traffic.Traffic.TheVariants.{Hosts, Lids, Managed, All, Rows}
use Rattle.fabric_routes.specs.Found.{SomeIsStopped}
use Rattle.fabric_routes.specs.Routes.{Channel, DependsOn}
use Rattle.fabric_read_tables.specs.declared.reader.Tables.{Tables}
use Rattle.fabric_topology.specs.Unset.{unset_of}
use Rattle.fabric_verdict.specs.Count.{IsChannelCount, IsDependencyCount, IsLinkCount}
use Rattle.fabric_verdict.specs.declared.verdict.LoopChannel.{LoopChannel}
use Rattle.fabric_verdict.specs.Verdict.{CycleIs, HasRanks, Passes}
use Rattle.fabric_print.specs.declared.answer.Answer.{Answer}
use Rattle.fabric_print.specs.declared.answer.LoopStep.{LoopStep}
use Rattle.fabric_print.specs.declared.answer.Lost.{Lost}
use Rattle.fabric_print.specs.declared.answer.LostCounts.{LostCounts}
use Rattle.fabric_print.specs.declared.answer.Read.{Read}
use Rattle.fabric_print.specs.declared.answer.Routes.{Routes}
use Rattle.fabric_print.specs.declared.answer.WhyLost.{WhyLost}
use Rattle.fabric_print.specs.declared.answer.WhyLost.TheVariants.{Missing, Dead, Wrong, Loop}
use Rattle.fabric_print.specs.Answers.{answer_text}
use Rattle.fabric_call.specs.declared.status.Status.{Status}
use Rattle.fabric_call.specs.declared.status.Status.TheVariants.{Ok, RoutesLost, Cycle}
use Rattle.fabric_judge_commands.specs.Names.{mentioned, names_for}
use Rattle.fabric_judge_commands.specs.Words.{traffic_word}

-- What the exit statuses 0, 7 and 8 mean: 0, there is no credit loop, as ranks of the channels show, and
-- every route of the traffic arrives; 7, there is no credit loop, but a route is stopped; 8, there is a
-- credit loop.
abbrev pub IsEndOf : FabricOf → TablesOf → Traffic → Status → Type 0
IsEndOf fabric tables traffic Ok = (ranks : List ℕ) × Passes fabric tables traffic ranks
IsEndOf fabric tables traffic RoutesLost =
    (ranks : List ℕ) × HasRanks fabric tables traffic ranks × SomeIsStopped fabric tables traffic
IsEndOf fabric tables traffic Cycle =
    (channel : Channel) × (rest : List Channel) × IsCycle (DependsOn fabric tables traffic) channel rest
IsEndOf fabric tables traffic status = ⊥

-- what was read
pub record IsRead (fabric : FabricOf) (found : Tables) (read : Read) : Type 0 where
  pub switches : read.switches ≡ switch_count fabric
  pub ends : read.ends ≡ length fabric.nodes.ends
  pub links : IsLinkCount fabric read.links
  pub rows : read.rows ≡ found.rows
  pub unowned : read.unowned ≡ found.unowned

-- `many`, the number of routes that arrive at LIDs that nobody owns, if the traffic has such routes
abbrev pub unowned_told : Traffic → ℕ → Option ℕ
unowned_told Hosts many = None
unowned_told Lids many = None
unowned_told Managed many = None
unowned_told All many = None
unowned_told Rows many = Some many

abbrev pub routes_of : Traffic → Counts → Routes
routes_of traffic counts =
    record {
      routes = counts.routes;
      arrived = counts.arrived;
      hops = counts.hops;
      unowned = unowned_told traffic counts.unowned;
    }

-- the channels are the least credit loop, or none if there is no loop
abbrev pub IsLoop : FabricOf → TablesOf → Traffic → List LoopChannel → Type 0
IsLoop fabric tables traffic [] = HasNoCycle (DependsOn fabric tables traffic)
IsLoop fabric tables traffic (one ∷ rest) = CycleIs fabric tables traffic (one ∷ rest)

-- a channel of a credit loop, with the route that takes it and then, directly, the next one
abbrev pub step_of : FabricOf → LoopChannel → LoopStep
step_of fabric one =
    record {
      guid = guid_of fabric (Switch one.channel.switch);
      port = one.channel.port;
      lid = one.witness.lid;
      source = guid_of fabric one.witness.source;
    }

-- the numbers of lost routes, by reason
abbrev pub losses_of : Losses → LostCounts
losses_of lost =
    record {
      all = sum_of lost;
      missing = lost.missing.count;
      dead = lost.dead.count;
      wrong = lost.wrong.count;
      looping = lost.looping.count;
    }

-- the least route that is lost for a reason, as the output has it
abbrev pub lost_route : FabricOf → WhyLost → LostRoute → Lost
lost_route fabric cause route =
    record {
      cause = cause;
      lid = route.lid;
      source = guid_of fabric route.source;
      at = guid_of fabric (Switch route.at);
    }

-- the least route that is lost for this reason, or none
abbrev pub lost_by : FabricOf → WhyLost → Loss → List Lost
lost_by fabric cause loss = option_to_list (option_map (lost_route fabric cause) loss.least)

-- the least routes that are lost, for all reasons in this order
abbrev pub lost_of : FabricOf → Losses → List Lost
lost_of fabric lost =
    lost_by fabric Missing lost.missing ++ lost_by fabric Dead lost.dead ++ lost_by fabric Wrong lost.wrong
    ++ lost_by fabric Loop lost.looping

-- each part of the output
pub record IsAnswerFor (asked : Traffic) (text : List ℕ) (fabric : FabricOf) (found : Tables)
    (answer : Answer)
    : Type 0 where
  pub read : IsRead fabric found answer.read
  pub traffic : answer.traffic.now ≡ traffic_word asked
  pub counts : Counts
  pub counted : AreCounts fabric (tables_of found.cells) asked counts
  pub routes : answer.routes ≡ routes_of asked counts
  pub channels : IsChannelCount fabric answer.channels
  pub dependencies : IsDependencyCount fabric (tables_of found.cells) asked answer.dependencies
  pub loop : List LoopChannel
  pub is_loop : IsLoop fabric (tables_of found.cells) asked loop
  pub cycle : answer.cycle.items ≡ map (step_of fabric) loop
  pub losses : answer.losses ≡ losses_of counts.lost
  pub lost : answer.lost.items ≡ lost_of fabric counts.lost
  pub unset : answer.unset ≡ unset_of text
  pub names : answer.names.items ≡ names_for text (mentioned answer.cycle.items answer.lost.items)

-- the exit status is right for the tables, and `written` is the text of their output
pub record IsJudged (traffic : Traffic) (text : List ℕ) (fabric : FabricOf) (found : Tables)
    (status : Status) (written : List ℕ)
    : Type 0 where
  pub ends : IsEndOf fabric (tables_of found.cells) traffic status
  pub answer : Answer
  pub is_answer : IsAnswerFor traffic text fabric found answer
  pub says : written ≡ answer_text answer
