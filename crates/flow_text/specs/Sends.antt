use Rattle.std.specs.Prelude.{◌≢◌, ◌==◌, ◌&&◌, ◌+◌, ◌≤◌, ℕ, Bool, not, List, [], ◌∷◌, ◌++◌, Option, Some, None, All, AllPairs, Contains, length, map, filter, fold, position, unwrap_or, slice_get, slice_index_or}
use Rattle.std.specs.Option.{option_map}
use Rattle.std.specs.List.{list_any}
use Rattle.an_base.specs.Values.{EntryOf}
use Rattle.an_base.specs.declared.event.Event.{Event}
use Rattle.an_base.specs.declared.event.Event.TheVariants.{Send}
use Rattle.net_graph.specs.declared.wiring.SwitchAt.{SwitchAt}
use Rattle.net_script.specs.declared.command.Command.{Command}
use Rattle.net_script.specs.Scripts.{ScriptOf}
use Rattle.switch_numbering.specs.Numbering.{numbering}
use Rattle.flow_text.specs.declared.sent.Sent.{Sent}

-- The packets that a script sends, and the components that they enter.

-- the index of the switch of a host
abbrev pub switch_of : ScriptOf → ℕ → ℕ
switch_of script host = unwrap_or (option_map (λ on. on.s) (slice_get script.wires.hosts host)) 0

-- the packets sent before, and the one that this event sends, if it does: its number, from 1, and the switches of
-- its two hosts
abbrev pub with_event : ScriptOf → List Sent → Event → List Sent
with_event script sends (Send from to) =
    sends
    ++ (record { packet = length sends + 1; from = switch_of script from; to = switch_of script to } ∷ [])
with_event script sends event = sends

-- the packets that these commands send, in order
abbrev pub sends_after : ScriptOf → List Command → List Sent
sends_after script commands = fold (λ sends command. with_event script sends command.event) [] commands

-- the packets that the script sends, in order
abbrev pub sends_of : ScriptOf → List Sent
sends_of script = sends_after script script.commands

-- the number at an index, 0 if there is none
abbrev pub number_of : List ℕ → Option ℕ → ℕ
number_of numbers None = 0
number_of numbers (Some place) = slice_index_or numbers place 0

-- the number of the switch in a component, 0 if the component does not have it
abbrev pub number_in : List EntryOf → SwitchAt → ℕ
number_in entries switch =
    number_of (numbering entries) (position (λ entry. entry.life.uid == switch.uid) entries)

-- the numbers of all switches in a component, by the switch's index; 0 for those outside it
abbrev pub numbers_in : List SwitchAt → List EntryOf → List ℕ
numbers_in switches entries = map (number_in entries) switches

-- the number of the switch at an index, 0 for one outside the component
abbrev pub number_at : List ℕ → ℕ → ℕ
number_at numbers switch = slice_index_or numbers switch 0

-- the sender and the receiver are at one switch
abbrev pub is_local : Sent → Bool
is_local sent = sent.from == sent.to

-- the component with these numbers has both switches
abbrev pub has_both : List ℕ → Sent → Bool
has_both numbers sent = not (number_at numbers sent.from == 0) && not (number_at numbers sent.to == 0)

-- the packet enters the component with these numbers: it has both switches of the packet, which differ
abbrev pub enters_in : List ℕ → Sent → Bool
enters_in numbers sent = not (is_local sent) && has_both numbers sent

-- some component has both switches
abbrev pub is_joined : List (List ℕ) → Sent → Bool
is_joined components sent = list_any (λ numbers. has_both numbers sent) components

-- the packet enters some component: its switches differ, and some component has both
abbrev pub is_entering : List (List ℕ) → Sent → Bool
is_entering components sent = not (is_local sent) && is_joined components sent

-- the packet enters no component, because none has both of its switches, which differ
abbrev pub is_unjoined : List (List ℕ) → Sent → Bool
is_unjoined components sent = not (is_local sent) && not (is_joined components sent)

-- the packets that enter a component
abbrev pub entering : List ℕ → List Sent → List Sent
entering numbers sends = filter (enters_in numbers) sends

-- the numbers of the switches in each component
abbrev pub homes_of : List SwitchAt → List (List EntryOf) → List (List ℕ)
homes_of switches forest = map (numbers_in switches) forest

-- the packets can enter a component with these numbers: at most 10,000 different ones, each from one of its
-- switches to another
pub record MayAllEnter (numbers home : List ℕ) (sends : List Sent) : Type 0 where
  pub few : length sends ≤ 10000
  pub apart : AllPairs (λ one other. one.packet ≢ other.packet) sends
  pub from_in : All (λ sent. Contains numbers (number_at home sent.from)) sends
  pub to_in : All (λ sent. Contains numbers (number_at home sent.to)) sends
  pub others : All (λ sent. number_at home sent.from ≢ number_at home sent.to) sends
