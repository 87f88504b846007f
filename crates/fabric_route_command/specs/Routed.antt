-- What `route` gives, and the answer to its call.

use Rattle.std.specs.Prelude.{◌≡◌, ◌≢◌, ℕ, List, [], ◌∷◌, codes}
use Rattle.std.specs.Fmt.{decimal}
use Rattle.outside.specs.Told.{Seen, Failed, Gains, GainsFront, IsKept}
use Rattle.common_lines.specs.Lines.{line_text}
use Rattle.common_call.specs.Ended.{IsLineTold}
use Rattle.fabric_model.specs.declared.node.EndPort.{EndPort}
use Rattle.fabric_model.specs.Fabric.{FabricOf, guid_of, switch_count}
use Rattle.fabric_tables.specs.Cells.{TablesOf}
use Rattle.fabric_model.specs.declared.traffic.Traffic.{Traffic}
use Rattle.fabric_verdict.specs.Verdict.{Passes}
use Rattle.fabric_print_tables.specs.Texts.{IsTextOf, guid_word}
use Rattle.fabric_call.specs.declared.status.Status.{Status}
use Rattle.fabric_call.specs.declared.status.Status.TheVariants.{WriteFault}
use Rattle.fabric_call.specs.Answer.{GaveFabric, IsNoFabric}
use Rattle.fabric_call.specs.Status.{IsToldOf}
use Rattle.fabric_route_command.specs.declared.end.End.{End}
use Rattle.fabric_route_command.specs.declared.end.End.TheVariants.{Routed, NotJoined, NoTables}
use Rattle.fabric_route_command.specs.Joined.{AllJoined, IsApart}
use Rattle.fabric_route_command.specs.declared.measured.Measured.{Measured}
use Rattle.fabric_route_command.specs.Measured.{AreMeasures}

-- the bytes are the text of tables that pass: there is no credit loop, and each route of the traffic arrives
pub record AreRouted (traffic : Traffic) (fabric : FabricOf) (written : List ℕ) : Type 0 where
  pub tables : TablesOf
  pub ranks : List ℕ
  pub passes : Passes fabric tables traffic ranks
  pub text : IsTextOf fabric written tables

-- the words of the line that says how good tables are, ..
abbrev pub measure_words : Measured → List (List ℕ)
measure_words of =
    codes "fabric:" ∷ codes "routes" ∷ decimal of.routes ∷ codes "hops" ∷ decimal of.hops
    ∷ codes "longest" ∷ decimal of.longest ∷ codes "greatest" ∷ decimal of.greatest ∷ []

-- .. that an end port and a LID are not joined, ..
abbrev pub apart_words : (guid lid : ℕ) → List (List ℕ)
apart_words guid lid =
    codes "fabric:" ∷ codes "no" ∷ codes "links" ∷ codes "join" ∷ guid_word guid ∷ codes "to" ∷ codes "lid"
    ∷ decimal lid ∷ []

-- .. and that no tables were found
abbrev pub none_words : List (List ℕ)
none_words = codes "fabric:" ∷ codes "no" ∷ codes "tables" ∷ codes "found" ∷ []

-- What is given for a fabric, the text for out and the line for err.
-- Tables that pass, with their measures.
-- An end port and a LID to which it sends, if no links join these.
-- Or nothing, if all are joined, and there are switches.
abbrev pub IsGiven : Traffic → FabricOf → End → (written line : List ℕ) → Type 0
IsGiven traffic fabric Routed written line =
    (routed : AreRouted traffic fabric written)
    × ((of : Measured) × AreMeasures fabric routed.tables of × (line ≡ line_text (measure_words of)))
IsGiven traffic fabric NotJoined written line =
    (written ≡ [])
    × ((lid : ℕ) × (source : EndPort) × IsApart fabric traffic lid source
    × (line ≡ line_text (apart_words (guid_of fabric source) lid)))
IsGiven traffic fabric NoTables written line =
    (written ≡ []) × AllJoined fabric traffic × (switch_count fabric ≢ 0) × (line ≡ line_text none_words)

-- the number with which the call ends
abbrev pub code_of : End → ℕ
code_of Routed = 0
code_of NotJoined = 7
code_of NoTables = 6

-- the topology was read to its end, and this is given for its fabric
pub record IsGivenFor (traffic : Traffic) (old new : Seen) (end : End) (written line : List ℕ) : Type 0 where
  pub text : List ℕ
  pub fabric : FabricOf
  pub gave : GaveFabric old new text fabric
  pub given : IsGiven traffic fabric end written line

-- it was written, and its line was told
pub record IsTold (traffic : Traffic) (topology topology' out out' err err' : Seen) (answer : ℕ) : Type 0 where
  pub end : End
  pub written : List ℕ
  pub line : List ℕ
  pub given : IsGivenFor traffic topology topology' end written line
  pub gains : Gains out out' written
  pub told : IsLineTold err err' (code_of end) line answer

-- out failed, and has a front of it
pub record IsCutOff (traffic : Traffic) (topology topology' out out' err err' : Seen) (answer : ℕ) : Type 0 where
  pub end : End
  pub written : List ℕ
  pub line : List ℕ
  pub given : IsGivenFor traffic topology topology' end written line
  pub gains : GainsFront out out' written
  pub failed : Failed out out'
  pub told : IsToldOf err err' WriteFault answer

-- there is no fabric, or it is out of memory
pub record IsStopped (topology topology' out out' err err' : Seen) (answer : ℕ) : Type 0 where
  pub status : Status
  pub none : IsNoFabric topology topology' status
  pub kept : IsKept out out'
  pub told : IsToldOf err err' status answer

-- the answer to a call of `route`
pub data IsRouteAnswer (traffic : Traffic) (topology topology' out out' err err' : Seen) (answer : ℕ) : Type 0 where
  told :
      IsTold traffic topology topology' out out' err err' answer
      → IsRouteAnswer traffic topology topology' out out' err err' answer
  cut :
      IsCutOff traffic topology topology' out out' err err' answer
      → IsRouteAnswer traffic topology topology' out out' err err' answer
  stopped :
      IsStopped topology topology' out out' err err' answer
      → IsRouteAnswer traffic topology topology' out out' err err' answer
