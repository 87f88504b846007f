-- What `between` gives for the text of a topology, its fabric, and two tables.

use Rattle.std.specs.Prelude.{◌≡◌, ℕ, List, [], ◌∷◌, Option, Some, None, map, nat_eq}
use Rattle.indexmap.specs.IndexSet.{insert_all}
use Rattle.common_graph.specs.Cycles.{HasNoCycle, IsCycle}
use Rattle.fabric_model.specs.declared.node.EndPort.TheVariants.{Switch}
use Rattle.fabric_model.specs.Fabric.{FabricOf, guid_of}
use Rattle.fabric_tables.specs.Cells.{TablesOf, tables_of}
use Rattle.fabric_routes.specs.Counting.{IsCountOf}
use Rattle.fabric_routes.specs.Routes.{Channel}
use Rattle.fabric_read_tables.specs.declared.reader.Tables.{Tables}
use Rattle.fabric_verdict.specs.Count.{IsChannelCount}
use Rattle.fabric_topology.specs.Unset.{unset_of}
use Rattle.fabric_mixtures.specs.declared.looped.Looped.{Looped}
use Rattle.fabric_mixtures.specs.declared.judge.LoopChannel.{LoopChannel}
use Rattle.fabric_mixtures.specs.Mixtures.{MayBeFollowed}
use Rattle.fabric_mixtures.specs.Verdict.{CycleIs, HasRanks, IsChanged, IsFollowed, IsLooped}
use Rattle.fabric_call.specs.declared.status.Status.{Status}
use Rattle.fabric_call.specs.declared.status.Status.TheVariants.{Ok, Cycle}
use Rattle.fabric_judge_commands.specs.Judged.{IsRead}
use Rattle.fabric_judge_commands.specs.Names.{names_for}
use Rattle.fabric_between_command.specs.declared.lines.Between.{Between}
use Rattle.fabric_between_command.specs.declared.lines.TurnTold.{TurnTold}
use Rattle.fabric_between_command.specs.Lines.{between_text}

-- What the statuses 0 and 8 mean: no channels that may follow one another lead round, as ranks of the channels show;
-- some do.
abbrev pub IsEndOf : FabricOf → (old new : TablesOf) → Status → Type 0
IsEndOf fabric old new Ok = (ranks : List ℕ) × HasRanks fabric old new ranks
IsEndOf fabric old new Cycle =
    (channel : Channel) × (rest : List Channel) × IsCycle (MayBeFollowed fabric old new) channel rest
IsEndOf fabric old new status = ⊥

-- the least cycle, or no channels if there is none
abbrev pub IsLoop : FabricOf → (old new : TablesOf) → List LoopChannel → Type 0
IsLoop fabric old new [] = HasNoCycle (MayBeFollowed fabric old new)
IsLoop fabric old new (one ∷ rest) = CycleIs fabric old new (one ∷ rest)

-- which of two tables have a loop by them alone is told if they have one together
abbrev pub IsToldOf : FabricOf → (old new : TablesOf) → List LoopChannel → Option Looped → Type 0
IsToldOf fabric old new [] looped = looped ≡ None
IsToldOf fabric old new (one ∷ rest) None = ⊥
IsToldOf fabric old new (one ∷ rest) (Some looped) = IsLooped fabric old new looped

-- a channel of a cycle, as an answer tells it
abbrev pub turn_of : FabricOf → LoopChannel → TurnTold
turn_of fabric one =
    record {
      guid = guid_of fabric (Switch one.channel.switch);
      port = one.channel.port;
      lid = one.turn.lid;
      by = one.turn.by;
      next_by = one.turn.next_by;
    }

-- the switches of a cycle, each once
abbrev pub switches_of : List TurnTold → List ℕ
switches_of cycle = insert_all nat_eq [] (map (λ turn. turn.guid) cycle)

-- each part of the answer
pub record IsBetweenAnswerFor (text : List ℕ) (fabric : FabricOf) (old new : Tables) (answer : Between) : Type 0 where
  pub read : IsRead fabric old answer.read
  pub rows : answer.new.rows ≡ new.rows
  pub unowned : answer.new.unowned ≡ new.unowned
  pub changed : IsCountOf (IsChanged fabric (tables_of old.cells) (tables_of new.cells)) answer.new.changed
  pub channels : IsChannelCount fabric answer.channels
  pub dependencies : IsCountOf (IsFollowed fabric (tables_of old.cells) (tables_of new.cells)) answer.dependencies
  pub loop : List LoopChannel
  pub is_loop : IsLoop fabric (tables_of old.cells) (tables_of new.cells) loop
  pub looped : IsToldOf fabric (tables_of old.cells) (tables_of new.cells) loop answer.looped
  pub cycle : answer.cycle.items ≡ map (turn_of fabric) loop
  pub unset : answer.unset ≡ unset_of text
  pub names : answer.names.items ≡ names_for text (switches_of answer.cycle.items)

-- the status means what is so of both tables, and what is written is the text of their answer
pub record IsBetween (text : List ℕ) (fabric : FabricOf) (old new : Tables) (status : Status) (written : List ℕ)
    : Type 0 where
  pub ends : IsEndOf fabric (tables_of old.cells) (tables_of new.cells) status
  pub answer : Between
  pub is_answer : IsBetweenAnswerFor text fabric old new answer
  pub says : written ≡ between_text answer
