use Rattle.std.specs.Prelude.{◌==◌, ℕ, Bool, List, [], ◌∷◌, ◌++◌, map, Option, Some, None, if◌then◌else◌}
use Rattle.std.specs.Prelude.{slice_index_or}
use Rattle.std.specs.List.{flat_map, zip}
use Rattle.std.specs.Fmt.{decimal}
use Rattle.an_base.specs.declared.event.Event.{Event}
use Rattle.an_base.specs.declared.event.Event.TheVariants.{Fail, Repair, Lose, Again, Swap, Noise, Send}
use Rattle.an_base.specs.declared.event.Event.TheVariants.{Restart}
use Rattle.net_graph.specs.declared.wiring.SwitchAt.{SwitchAt}
use Rattle.net_graph.specs.declared.wiring.LinkAt.{LinkAt}
use Rattle.net_graph.specs.declared.wiring.HostOn.{HostOn}
use Rattle.net_script.specs.declared.command.Command.{Command}
use Rattle.net_script.specs.declared.command.LinkChange.TheVariants as link
use Rattle.net_script.specs.declared.command.WireChange.TheVariants as wire
use Rattle.net_script.specs.declared.setting.TheConstants.{DEFAULT_TICKS, DEFAULT_EVENTS, DEFAULT_BLOCKS}
use Rattle.net_script.specs.declared.setting.Setting.{Setting}
use Rattle.net_script.specs.declared.setting.Setting.TheVariants.{Ticks, Events, Blocks, Epoch, Pace}
use Rattle.common_lines.specs.Words.{hex_text}
use Rattle.common_lines.specs.Lines.{lines_text, forms_text_by}
use Rattle.net_script.specs.Scripts.{ScriptOf}
use Rattle.net_script.specs.Forms.{Form, Number, AnyRoutes, SwitchLine, LinkLine, HostLine, ChangesLink}
use Rattle.net_script.specs.Forms.{ChangesWire, Sends, Restarts, End, form_words, header_words}

-- The canonical text of a script.

-- the text of a list of forms, one on each line
abbrev pub forms_text : List Form → List ℕ
forms_text = forms_text_by form_words

-- the line that sets `setting`, if `number` differs from `default`
abbrev pub setting_form : Setting → (number default : ℕ) → List Form
setting_form setting number default = if number == default then [] else Number setting (decimal number) ∷ []

-- the line that sets the pace, if there is one
abbrev pub pace_form : Option ℕ → List Form
pace_form None = []
pace_form (Some number) = Number Pace (decimal number) ∷ []

-- the line that allows all legal routes, if they are allowed
abbrev pub routes_form : Bool → List Form
routes_form any = if any then AnyRoutes ∷ [] else []

-- the lines of the settings that differ from their defaults, in order
abbrev pub setting_forms : ScriptOf → List Form
setting_forms script =
    setting_form Ticks script.limits.ticks DEFAULT_TICKS
    ++ (setting_form Events script.limits.events DEFAULT_EVENTS
    ++ (setting_form Blocks script.limits.blocks DEFAULT_BLOCKS
    ++ (setting_form Epoch script.epoch 0 ++ (pace_form script.pace ++ routes_form script.any_routes))))

-- the word for the number that a switch had last, if it is not 1
abbrev pub had_word : ℕ → Option (List ℕ)
had_word number = if number == 1 then None else Some (decimal number)

-- the lines of a switch, a link and a host, with names instead of indices
abbrev pub switch_form : List ℕ × SwitchAt → Form
switch_form (name, added) = SwitchLine name (hex_text 12 added.uid) (had_word added.had)

abbrev pub link_form : List (List ℕ) → LinkAt → Form
link_form names added =
    LinkLine (slice_index_or names added.a []) (decimal added.a_port) (slice_index_or names added.b [])
    (decimal added.b_port)

abbrev pub host_form : List (List ℕ) → List ℕ × HostOn → Form
host_form names (name, added) =
    HostLine name (hex_text 12 added.uid) (slice_index_or names added.s []) (decimal added.port)

-- the line of a command
abbrev pub event_form : List (List ℕ) → List (List ℕ) → List ℕ → Event → Form
event_form names hosts time (Fail node port) =
    ChangesLink link.Fail time (slice_index_or names node []) (decimal port)
event_form names hosts time (Repair node port) =
    ChangesLink link.Repair time (slice_index_or names node []) (decimal port)
event_form names hosts time (Lose node port count) =
    ChangesWire wire.Lose time (slice_index_or names node []) (decimal port) (decimal count)
event_form names hosts time (Again node port count) =
    ChangesWire wire.Again time (slice_index_or names node []) (decimal port) (decimal count)
event_form names hosts time (Swap node port count) =
    ChangesWire wire.Swap time (slice_index_or names node []) (decimal port) (decimal count)
event_form names hosts time (Noise node port count) =
    ChangesWire wire.Noise time (slice_index_or names node []) (decimal port) (decimal count)
event_form names hosts time (Send host to) =
    Sends time (slice_index_or hosts host []) (slice_index_or hosts to [])
event_form names hosts time (Restart node) = Restarts time (slice_index_or names node [])
event_form names hosts time event = End

abbrev pub command_form : ScriptOf → Command → Form
command_form script command =
    event_form script.switch_names script.names_of_hosts (decimal command.time) command.event

-- the lines of the switches, the links, the hosts and the commands, each in order
abbrev pub switch_forms : ScriptOf → List Form
switch_forms script = map switch_form (zip script.switch_names script.wires.switches)

abbrev pub link_forms : ScriptOf → List Form
link_forms script = map (link_form script.switch_names) script.wires.links

abbrev pub host_forms : ScriptOf → List Form
host_forms script = map (host_form script.switch_names) (zip script.names_of_hosts script.wires.hosts)

abbrev pub command_forms : ScriptOf → List Form
command_forms script = map (command_form script) script.commands

-- the lines of a script after the first, the last of which is `end`
unfoldable pub forms_of : ScriptOf → List Form
forms_of script =
    setting_forms script
    ++ (switch_forms script
    ++ (link_forms script ++ (host_forms script ++ (command_forms script ++ End ∷ []))))

-- the canonical text of a script
unfoldable pub canonical_text : ScriptOf → List ℕ
canonical_text script = lines_text (header_words ∷ map form_words (forms_of script))

-- numbers, each after a space; only a private function cites this
abbrev pub spaced_numbers : List ℕ → List ℕ
spaced_numbers numbers = flat_map (λ word. 32 ∷ word) (map decimal numbers)
