-- The text of ranks for the channels of a fabric.
use Rattle.std.specs.Prelude.{◌≡◌, ◌*◌, ℕ, Bool, true, false, List, map, replicate, set, slice_index_or, unwrap_or}
use Rattle.std.specs.Prelude.{Option, Some, None, Result, Ok, Err, if◌then◌else◌}
use Rattle.common_lines.specs.Lines.{lines_of}
use Rattle.common_lines.specs.Chains.{LeadsBy, IsFaultOf}
use Rattle.fabric_model.specs.declared.node.Side.{Side}
use Rattle.fabric_model.specs.declared.node.Side.TheVariants.{Bare, To, End}
use Rattle.fabric_model.specs.Fabric.{FabricOf, side_of, switch_count, switch_with}
use Rattle.fabric_routes.specs.Routes.{Channel}
use Rattle.fabric_routes.specs.Found.{number}
use Rattle.fabric_words.specs.Says.{and_then}
use Rattle.fabric_words.specs.declared.ranks_cause.RanksCause.{RanksCause}
use Rattle.fabric_words.specs.declared.ranks_cause.RanksCause.TheVariants.{OutOfPlace, UnknownSwitch, NoChannel, RankTold, NoHead}
use Rattle.fabric_read_ranks.specs.declared.line.RankLine.{RankLine}
use Rattle.fabric_read_ranks.specs.declared.line.RankLine.TheVariants.{Nothing, Head, Rank}
use Rattle.fabric_read_ranks.specs.RankLines.{said_in}

-- the state after the lines so far: whether the head was among them, and the rank of each channel, by its
-- number
pub record Told : Type 0 where
  pub begun : Bool
  pub ranks : List (Option ℕ)

-- the state before all lines
abbrev pub none_told : FabricOf → Told
none_told fabric = record { begun = false; ranks = replicate (switch_count fabric * fabric.most) None }

-- the state after a line, or the reason for which the line is invalid
abbrev pub Step : Type 0
Step = Result Told RanksCause

-- the head occurs once, and before all ranks
abbrev pub head_told : Told → Step
head_told told = if told.begun then Err OutOfPlace else Ok (record told { begun = true })

-- each channel has one rank
abbrev pub put_once : Told → (place rank : ℕ) → Option ℕ → Step
put_once told place rank None = Ok (record told { ranks = set told.ranks place (Some rank) })
put_once told place rank (Some other) = Err RankTold

-- `put_once` for a port that leads to a switch; `channel_told` finds the port
abbrev pub put_over : Told → (place rank : ℕ) → Side → Step
put_over told place rank (To next entry) = put_once told place rank (slice_index_or told.ranks place None)
put_over told place rank Bare = Err NoChannel
put_over told place rank (End end) = Err NoChannel

abbrev pub channel_told : FabricOf → Told → Channel → ℕ → Step
channel_told fabric told channel rank =
    put_over told (number fabric channel) rank (side_of fabric channel.switch channel.port)

-- the rank for a port of a switch that the fabric has
abbrev pub switch_told : FabricOf → Told → (port rank : ℕ) → Option ℕ → Step
switch_told fabric told port rank None = Err UnknownSwitch
switch_told fabric told port rank (Some switch) =
    channel_told fabric told (record { switch = switch; port = port }) rank

-- the state after a line with this meaning
abbrev pub told_with : FabricOf → Told → RankLine → Step
told_with fabric told Nothing = Ok told
told_with fabric told Head = head_told told
told_with fabric told (Rank guid port rank) =
    if told.begun then switch_told fabric told port rank (switch_with fabric guid) else Err OutOfPlace

abbrev pub after_said : FabricOf → Told → Result RankLine RanksCause → Step
after_said fabric told said = and_then said (told_with fabric told)

-- `AddsTo`: the line is valid in state `told`, and leads to `after`; `IsFaultyAfter`: it is invalid, first
-- for this reason
abbrev pub AddsTo : FabricOf → Told → List ℕ → Told → Type 0
AddsTo fabric told line after = after_said fabric told (said_in line) ≡ Ok after

abbrev pub IsFaultyAfter : FabricOf → Told → List ℕ → RanksCause → Type 0
IsFaultyAfter fabric told line cause = after_said fabric told (said_in line) ≡ Err cause

abbrev pub HasBegun : Told → Type 0
HasBegun told = told.begun ≡ true

-- `bytes` are the text of `ranks`, by the numbers of channels: each line is valid after those before it, the
-- head is there, and the ranks are those of the lines, 0 where they give none.
pub record IsRanksText (fabric : FabricOf) (bytes ranks : List ℕ) : Type 0 where
  pub last : Told
  pub good : LeadsBy (AddsTo fabric) (none_told fabric) (lines_of bytes) last
  pub begun : HasBegun last
  pub says : ranks ≡ map (λ rank. unwrap_or rank 0) last.ranks

-- the first error of the bytes, as the text of ranks, is in this line and for this reason
abbrev pub IsRanksFault : FabricOf → List ℕ → ℕ → RanksCause → Type 0
IsRanksFault fabric = IsFaultOf (none_told fabric) (AddsTo fabric) (IsFaultyAfter fabric) HasBegun NoHead
