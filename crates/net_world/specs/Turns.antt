-- The requests that callers can make of the journal store (the book), which keeps a history for them, and its replies.

use Rattle.std.specs.Prelude.{◌≡◌, ◌+◌, ◌<◌, ℕ, not, List, [], ◌∷◌, ◌++◌, length, Option, Some, is_some, option_to_list, Bool, true, false}
use Rattle.std.specs.Global.{Box}
use Rattle.std.specs.List.{flat_map}
use Rattle.an_base.specs.Values.{TopoOf}
use Rattle.an_base.specs.Numbers.{AreNumbers}
use Rattle.an_base.specs.Ports.{NoteOf}
use Rattle.an_base.specs.declared.event.Event.{Event}
use Rattle.an_base.specs.declared.event.Event.TheVariants.{Handle, Load}
use Rattle.net_script.specs.Scripts.{ScriptOf, IsScript}
use Rattle.frame_codec.specs.Reading.{frame_of}
use Rattle.topo_graph.specs.Topology.{IsGraph}
use Rattle.table_build.specs.Tables.{IsTableOf}
use Rattle.switch_core.specs.Switch.{finish_of, note_of}
use Rattle.switch_core.specs.Steps.{loaded}
use Rattle.switch_core.specs.Bytes.{BytesOut, all_spelled}
use Rattle.switch_core.specs.declared.switch.TableFor.{TableFor}
use Rattle.net_state.specs.declared.hand.Hand.{Hand}
use Rattle.net_state.specs.declared.hand.Hand.TheVariants as hand
use Rattle.net_state.specs.declared.work.Work.{Work}
use Rattle.net_state.specs.declared.work.Work.TheVariants as work
use Rattle.net_state.specs.declared.work.Drive.{Drive}
use Rattle.net_state.specs.Fabric.{FabricOf, station, is_full_at, held_bytes, load_due_at}
use Rattle.net_state.specs.Lawful.{is_barred}
use Rattle.net_state.specs.Choices.{next_work, event_of_work, next_drive, event_of_drive}
use Rattle.net_state.specs.Effects.{wires_at_hand}
use Rattle.net_state.specs.Lines.{lost_lines}
use Rattle.net_state.specs.declared.line.Line.{Line}
use Rattle.net_state.specs.declared.line.PlacedLine.{PlacedLine}
use Rattle.net_world.specs.declared.ask.Done.{Done}
use Rattle.net_world.specs.declared.ask.Parcel.{Parcel}
use Rattle.net_world.specs.declared.ask.Sheet.{Sheet}
use Rattle.net_world.specs.declared.ask.Ask.{Ask}
use Rattle.net_world.specs.declared.ask.Ask.TheVariants as ask
use Rattle.net_world.specs.declared.ask.Reply.{Reply}
use Rattle.net_world.specs.declared.ask.Reply.TheVariants as reply
use Rattle.net_world.specs.Accounts.{placed_lines}
use Rattle.net_world.specs.World.{WorldOf, world_after, handled}
use Rattle.net_world.specs.Histories.{last_taken}

-- whether the switch holds bytes that are no frame
abbrev pub is_noise : Hand → List ℕ → Bool
is_noise hand.Empty bytes = false
is_noise (hand.Clock now samples) bytes = false
is_noise (hand.Frame port) bytes = not (is_some (frame_of bytes))

-- these frames go out when the switch handles what it holds, and this is what it then shows
pub record Handled (world : WorldOf) (place : ℕ) (frames : List BytesOut) (note : NoteOf)
    (spent : Bool) : Type 0 where
  pub full : is_full_at world.fabric place ≡ true
  pub frames_are : frames ≡ all_spelled (handled place world).frames
  pub note_is : note ≡ note_of (handled place world).switch
  pub spent_is : spent ≡ (handled place world).switch.spent

-- `done` is the result of handling what the switch held
pub record IsDone (world : WorldOf) (place : ℕ) (done : Done) : Type 0 where
  pub handled_is : Handled world place done.frames done.note done.spent
  pub noframe : done.noframe ≡ is_noise (station world.fabric place).hand (held_bytes world.fabric place)

-- `given` is the table that the switch is to load, and `note` what it then shows. The caller must know that the
-- topology is a graph with a different number from 1 to 126 for each entry, and knows it from the switch; a theorem
-- above these definitions says that it holds for everything that a switch in the world finishes with
pub record IsToLoad (world : WorldOf) (place : ℕ) (given : TableFor) (note : NoteOf) : Type 0 where
  pub empty : is_full_at world.fabric place ≡ false
  pub due : load_due_at world.fabric place ≡ true
  pub topo : TopoOf
  pub finished : finish_of (world.switches place) ≡ Some topo
  pub graph : IsGraph topo.entries
  pub numbers : AreNumbers topo.numbers
  pub as_many : length topo.numbers ≡ length topo.entries
  pub epoch : given.epoch ≡ (world.switches place).epoch
  pub table : IsTableOf topo.entries topo.numbers (world.switches place).any (world.switches place).life
      given.table
  pub note_is : note ≡ note_of (loaded given.table.number (world.switches place))

-- the caller is the worker of the switch at index `place`
pub record IsWorkerOf (script : ScriptOf) (place caller : ℕ) : Type 0 where
  pub within : place < length script.wires.switches
  pub caller_is : caller ≡ place + 1

-- the request fits the world after the history, and the caller may make it
abbrev pub MayAsk : ScriptOf → List Event → ℕ → Ask → Type 0
MayAsk script history caller (ask.Take place letter) =
    IsWorkerOf script place caller × (is_full_at (world_after script history).fabric place ≡ false)
MayAsk script history caller (ask.Put place parcel) =
    IsWorkerOf script place caller × IsDone (world_after script history) place parcel.value.done
    × (length parcel.value.puts.items ≡ length parcel.value.done.frames)
MayAsk script history caller (ask.Load place sheet) =
    IsWorkerOf script place caller
    × IsToLoad (world_after script history) place sheet.value.table sheet.value.note
MayAsk script history caller (ask.Drive slip) = caller ≡ 0

-- the request is valid after this history of a valid script
pub record IsFit (script : ScriptOf) (history : List Event) (caller : ℕ) (ask : Ask) : Type 0 where
  pub kept : IsScript script
  pub may_ask : MayAsk script history caller ask

-- if the work is a frame, its bytes are in the buffer
abbrev pub HasBytes : Work → FabricOf → ℕ → List ℕ → Type 0
HasBytes (work.Frame port) fabric place out = out ≡ held_bytes fabric place
HasBytes (work.Restart life) fabric place out = Unit {0}
HasBytes (work.Clock now samples) fabric place out = Unit {0}
HasBytes (work.Nothing reason) fabric place out = Unit {0}

-- `told` is the only line that reports these events after a history, if a line does
abbrev pub IsTold : ScriptOf → List Event → List Event → Option PlacedLine → Type 0
IsTold script history events told =
    option_to_list told ≡ flat_map (placed_lines (world_after script history)) events

-- the reply to the worker of a switch is its next work, and the event of that, if it has one, is appended to the
-- history
pub record TakesWork (script : ScriptOf) (history : List Event) (place : ℕ) (job : Work) (out : List ℕ)
    (told : Option PlacedLine) (after : List Event) : Type 0 where
  pub work_is : job ≡ next_work (world_after script history).fabric place (last_taken place history)
  pub event : after ≡ history ++ event_of_work place job
  pub bytes : HasBytes job (world_after script after).fabric place out
  pub told_is : IsTold script history (event_of_work place job) told

-- `puts` are the lines for the lost frames of a switch that handles what it holds
abbrev pub AreTold : FabricOf → ℕ → List BytesOut → List (Option Line) → Type 0
AreTold fabric place frames puts =
    flat_map option_to_list puts ≡ lost_lines place frames (wires_at_hand fabric place)

-- the result is returned with the lines for its lost frames, and the handling is appended to the history
pub record PutsFrames (script : ScriptOf) (history : List Event) (place : ℕ) (given back : Parcel)
    (after : List Event) : Type 0 where
  pub same : back.done ≡ given.done
  pub puts_are : AreTold (world_after script history).fabric place given.done.frames back.puts.items
  pub event : after ≡ history ++ Handle place ∷ []
  pub number_is : back.event ≡ (world_after script after).fabric.events

-- the table is in use, and the load is appended to the history
pub record Loads (script : ScriptOf) (history : List Event) (place : ℕ) (answer : Reply)
    (after : List Event) : Type 0 where
  pub told : PlacedLine
  pub answer_is : answer ≡ reply.Loaded told
  pub told_is : IsTold script history (Load place ∷ []) (Some told)
  pub event : after ≡ history ++ Load place ∷ []

-- the table is in use; but if the load is barred, because a switch is spent or there is too little room, the sheet is
-- returned, and the history is unchanged
abbrev pub LoadsOrNot : Bool → Box Sheet → Reply → ℕ → ScriptOf → List Event → List Event → Type 0
LoadsOrNot false sheet answer place script history after = Loads script history place answer after
LoadsOrNot true sheet answer place script history after = (answer ≡ reply.NotNow sheet) × (after ≡ history)

-- the reply to the driver is its next action, and the event of that, if it has one, is appended to the history
pub record Drives (script : ScriptOf) (history : List Event) (did : Drive) (told : Option PlacedLine)
    (after : List Event) : Type 0 where
  pub drive_is : did ≡ next_drive (world_after script history).fabric
  pub event : after ≡ history ++ event_of_drive did
  pub told_is : IsTold script history (event_of_drive did) told

-- the answer to a request for work has its kind, and is right
abbrev pub AnswersTake : ScriptOf → List Event → ℕ → Reply → List Event → Type 0
AnswersTake script history place (reply.Take letter) after =
    TakesWork script history place letter.value.work letter.value.buffer letter.value.told after
AnswersTake script history place other after = ⊥

-- the answer to a delivered result has its kind, and is right
abbrev pub AnswersPut : ScriptOf → List Event → ℕ → Parcel → Reply → List Event → Type 0
AnswersPut script history place given (reply.Put back) after =
    PutsFrames script history place given back.value after
AnswersPut script history place given other after = ⊥

-- the answer to the driver's request has its kind, and is right
abbrev pub AnswersDrive : ScriptOf → List Event → Reply → List Event → Type 0
AnswersDrive script history (reply.Drive slip) after =
    Drives script history slip.value.drive slip.value.told after
AnswersDrive script history other after = ⊥

-- the answer to a request is right, between the history before it and the one after it
abbrev pub AnswersAsk : ScriptOf → List Event → Ask → Reply → List Event → Type 0
AnswersAsk script history (ask.Take place letter) answer after =
    AnswersTake script history place answer after
AnswersAsk script history (ask.Put place parcel) answer after =
    AnswersPut script history place parcel.value answer after
AnswersAsk script history (ask.Load place sheet) answer after =
    LoadsOrNot (is_barred (world_after script history).fabric) sheet answer place script history after
AnswersAsk script history (ask.Drive slip) answer after = AnswersDrive script history answer after
