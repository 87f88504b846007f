-- What `ranks` and `verify` give for the text of a topology, its fabric and tables.

use Rattle.std.specs.Prelude.{◌≡◌, ◌<◌, ◌*◌, ◌/◌, ◌^◌, ◌⊎◌, ℕ, List, [], map, Option, Some, None}
use Rattle.std.specs.List.{flat_map, range_with_len}
use Rattle.std.specs.Option.{option_map, option_to_list}
use Rattle.common_graph.specs.Cycles.{HasNoCycle}
use Rattle.fabric_model.specs.declared.node.EndPort.TheVariants.{Switch}
use Rattle.fabric_model.specs.declared.node.Spot.{Spot}
use Rattle.fabric_model.specs.Fabric.{FabricOf, guid_of, switch_count}
use Rattle.fabric_tables.specs.Cells.{TablesOf, tables_of}
use Rattle.fabric_model.specs.declared.traffic.Traffic.{Traffic}
use Rattle.fabric_routes.specs.Found.{SomeIsStopped, channel_of}
use Rattle.fabric_routes.specs.Routes.{DependsOn}
use Rattle.fabric_read_tables.specs.declared.reader.Tables.{Tables}
use Rattle.fabric_verdict.specs.declared.verify.Rise.{Rise}
use Rattle.fabric_verdict.specs.declared.verify.Verified.{Verified}
use Rattle.fabric_verdict.specs.Verdict.{AllArrive, HasRanks, rank_in, spot_at}
use Rattle.fabric_verdict.specs.Verified.{Fall, IsVerified}
use Rattle.fabric_words.specs.declared.ranks_cause.RanksCause.{RanksCause}
use Rattle.fabric_read_ranks.specs.Ranks.{IsRanksFault, IsRanksText}
use Rattle.fabric_print.specs.declared.ranks.Rank.{Rank}
use Rattle.fabric_print.specs.declared.ranks.Risen.{Risen}
use Rattle.fabric_print.specs.Ranks.{ranks_text, verified_text}
use Rattle.fabric_call.specs.declared.status.Status.{Status}
use Rattle.fabric_call.specs.declared.status.Status.TheVariants.{Cycle, Ok, RanksRefused, RanksRise, RoutesLost}
use Rattle.fabric_judge_commands.specs.Judged.{IsEndOf, IsJudged, step_of}
use Rattle.fabric_judge_commands.specs.Words.{traffic_word}

-- the rank of the channel out of a port, as the output has it
abbrev pub rank_of : FabricOf → Spot → ℕ → Rank
rank_of fabric spot rank =
    record { guid = guid_of fabric (Switch spot.switch); port = spot.port; rank = rank }

-- the ranks of the channels, by switch, then by port
abbrev pub rank_at : FabricOf → List ℕ → Spot → List Rank
rank_at fabric ranks spot = map (rank_of fabric spot) (option_to_list (rank_in fabric ranks (channel_of spot)))

abbrev pub ranks_of : FabricOf → List ℕ → List Rank
ranks_of fabric ranks =
    flat_map (λ place. rank_at fabric ranks (spot_at fabric.most place))
    (range_with_len 0 (switch_count fabric * fabric.most))

-- GUIDs are below 2^64 and ranks below 2^32
abbrev pub AreSmall : FabricOf → List ℕ → Type 0
AreSmall fabric ranks =
    (place rank : ℕ) → place < switch_count fabric * fabric.most
    → rank_in fabric ranks (channel_of (spot_at fabric.most place)) ≡ Some rank
    → (guid_of fabric (Switch (place / fabric.most)) < 2 ^ 64) × (rank < 2 ^ 32)

-- There is no credit loop, and `written` is the text of the ranks of the channels. Read again, it is a text
-- of ranks that fall along every dependency.
pub record TellsRanks (fabric : FabricOf) (tables : TablesOf) (traffic : Traffic) (status : Status) (written : List ℕ)
    : Type 0 where
  pub ends : IsEndOf fabric tables traffic status
  pub ranks : List ℕ
  pub has : HasRanks fabric tables traffic ranks
  pub says : written ≡ ranks_text (ranks_of fabric ranks)
  pub told : List ℕ
  pub reads : IsRanksText fabric written told
  pub falls : Fall fabric tables traffic told

-- `ranks` writes the ranks, or, if there is a credit loop, the output of `judge`
abbrev pub AreRanksTold : Traffic → List ℕ → FabricOf → Tables → Status → List ℕ → Type 0
AreRanksTold traffic text fabric found status written =
    TellsRanks fabric (tables_of found.cells) traffic status written
    ⊎ ((status ≡ Cycle) × IsJudged traffic text fabric found status written)

-- a dependency along which ranks do not fall, as the output has it
abbrev pub risen_of : FabricOf → Rise → Risen
risen_of fabric rise =
    record {
      step = step_of fabric (record { channel = rise.channel; witness = rise.witness });
      own = rank_of fabric rise.channel rise.rank;
      next = rank_of fabric rise.next rise.next_rank;
    }

-- the exit status: if ranks fall, there is no credit loop, and either every route arrives or one is stopped
abbrev pub IsEndBy : FabricOf → TablesOf → Traffic → Option Rise → Status → Type 0
IsEndBy fabric tables traffic None status =
    HasNoCycle (DependsOn fabric tables traffic)
    × (((status ≡ Ok) × AllArrive fabric tables traffic)
    ⊎ ((status ≡ RoutesLost) × SomeIsStopped fabric tables traffic))
IsEndBy fabric tables traffic (Some rise) status = status ≡ RanksRise

-- `bytes` are a text of ranks, and the output says whether they fall
pub record AreRanksJudged (traffic : Traffic) (bytes : List ℕ) (fabric : FabricOf) (tables : TablesOf) (status : Status)
    (written : List ℕ)
    : Type 0 where
  pub ranks : List ℕ
  pub told : IsRanksText fabric bytes ranks
  pub found : Verified
  pub verified : IsVerified fabric tables traffic ranks found
  pub ends : IsEndBy fabric tables traffic found.rise status
  pub says : written ≡ verified_text (traffic_word traffic) (option_map (risen_of fabric) found.rise)

-- `bytes` are not a text of ranks, because of their first error, and nothing is written
pub record AreNoRanks (bytes : List ℕ) (fabric : FabricOf) (status : Status) (written : List ℕ) : Type 0 where
  pub line : ℕ
  pub cause : RanksCause
  pub fault : IsRanksFault fabric bytes line cause
  pub status_is : status ≡ RanksRefused line cause
  pub nothing : written ≡ []

-- `verify` judges the bytes of ranks
abbrev pub AreRanksVerified : Traffic → (bytes text : List ℕ) → FabricOf → Tables → Status → List ℕ → Type 0
AreRanksVerified traffic bytes text fabric found status written =
    AreRanksJudged traffic bytes fabric (tables_of found.cells) status written
    ⊎ AreNoRanks bytes fabric status written
