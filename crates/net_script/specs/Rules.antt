use Rattle.std.specs.Prelude.{◌==◌, ◌&&◌, ◌||◌, not, true, ℕ, Bool, List, [], ◌∷◌, length, Option, Some, None}
use Rattle.std.specs.Prelude.{is_some, nat_lt, nat_le, unwrap_or}
use Rattle.std.specs.List.{list_any}
use Rattle.an_base.specs.declared.event.Event.TheVariants.{Send, Restart}
use Rattle.net_graph.specs.declared.wiring.SwitchAt.{SwitchAt}
use Rattle.net_graph.specs.declared.wiring.LinkAt.{LinkAt}
use Rattle.net_graph.specs.declared.wiring.HostOn.{HostOn}
use Rattle.net_graph.specs.Wires.{Wires, uids}
use Rattle.net_script.specs.declared.command.Command.{Command}
use Rattle.net_script.specs.declared.command.LinkChange.{LinkChange}
use Rattle.net_script.specs.declared.command.WireChange.{WireChange}
use Rattle.net_script.specs.declared.setting.Setting.{Setting}
use Rattle.net_script.specs.declared.setting.Came.{Came}
use Rattle.net_script.specs.declared.cause.ScriptCause.{ScriptCause}
use Rattle.net_script.specs.declared.cause.ScriptCause.TheVariants.{BadNumber, BadName, NameTwice, UidTwice}
use Rattle.net_script.specs.declared.cause.ScriptCause.TheVariants.{NoSuchName, PortRange, PortUsed, TooMany}
use Rattle.net_script.specs.declared.cause.ScriptCause.TheVariants.{TimesFall, NoLink}
use Rattle.net_script.specs.declared.draft.Part.TheVariants.{After}
use Rattle.common_lines.specs.Words.{is_number, is_number_in, number_value}
use Rattle.net_names.specs.Words.{is_name, is_uid, uid_value}
use Rattle.common_lines.specs.Faults.{unless, first_of}
use Rattle.net_script.specs.Settings.{least_of, most_of, has_come, with_come}
use Rattle.net_script.specs.Commands.{link_event, wire_event, most_count, is_used, is_linked, last_time}
use Rattle.net_script.specs.Scripts.{ScriptOf, lives_of, with_switch, with_link, with_host, with_command}
use Rattle.net_script.specs.Scripts.{with_setting}
use Rattle.net_names.specs.Names.{place_of}
use Rattle.net_script.specs.Forms.{Form, Number, AnyRoutes, SwitchLine, LinkLine, HostLine, ChangesLink}
use Rattle.net_script.specs.Forms.{ChangesWire, Sends, Restarts, End}
use Rattle.net_script.specs.declared.draft.Draft.{Draft}

-- The errors of the lines of a script, and what the lines add.

-- the index of `name` in `names`, 0 if it is not there
abbrev pub place : List (List ℕ) → List ℕ → ℕ
place names name = unwrap_or (place_of names name) 0

-- whether a switch or a host has the name `name`
abbrev pub is_taken : ScriptOf → List ℕ → Bool
is_taken script name =
    is_some (place_of script.switch_names name) || is_some (place_of script.names_of_hosts name)

-- whether a switch or a host has the identifier `uid`
unfoldable pub is_uid_taken : ScriptOf → ℕ → Bool
is_uid_taken script uid = list_any (λ taken. taken == uid) (uids script.wires)

-- the error, if any, of a word that must be a number from `least` to `most`
abbrev pub number_cause : (least most : ℕ) → List ℕ → Option ScriptCause
number_cause least most word = unless (is_number_in least most word) BadNumber

-- the error, if any, of a word that must be a port
abbrev pub port_cause : List ℕ → Option ScriptCause
port_cause word =
    first_of (unless (is_number word) BadNumber
    ∷ unless (nat_le 1 (number_value word) && nat_le (number_value word) 12) PortRange ∷ [])

-- the error, if any, of a word that must be the name of a new switch or host
abbrev pub new_name_cause : ScriptOf → List ℕ → Option ScriptCause
new_name_cause script word =
    first_of (unless (is_name word) BadName ∷ unless (not (is_taken script word)) NameTwice ∷ [])

-- the error, if any, of a word that must be the identifier of a new switch or host
abbrev pub new_uid_cause : ScriptOf → List ℕ → Option ScriptCause
new_uid_cause script word =
    first_of (unless (is_uid word) BadNumber ∷ unless (not (is_uid_taken script (uid_value word))) UidTwice
    ∷ [])

-- the error, if any, of a word that must be one of `names`
abbrev pub known_cause : List (List ℕ) → List ℕ → Option ScriptCause
known_cause names word =
    first_of (unless (is_name word) BadName ∷ unless (is_some (place_of names word)) NoSuchName ∷ [])

-- the error, if any, of the number that a switch had last, if there is such a word
abbrev pub had_cause : Option (List ℕ) → Option ScriptCause
had_cause None = None
had_cause (Some word) = number_cause 1 126 word

-- the error, if any, of a word that must be the time of the next command
abbrev pub time_cause : ScriptOf → List ℕ → Option ScriptCause
time_cause script word =
    first_of (number_cause 0 1000000 word
    ∷ unless (nat_le (last_time script.commands) (number_value word)) TimesFall ∷ [])

-- the error, if any, of one more life (`lives_cause`) or one more command (`commands_cause`)
abbrev pub lives_cause : ScriptOf → Option ScriptCause
lives_cause script = unless (nat_lt (lives_of script) 126) TooMany

abbrev pub commands_cause : ScriptOf → Option ScriptCause
commands_cause script = unless (nat_lt (length script.commands) 10000) TooMany

-- the number that a switch had last, 1 without a word
abbrev pub had_of : Option (List ℕ) → ℕ
had_of None = 1
had_of (Some word) = number_value word

-- the switch (`switch_of`), the link (`link_of`) and the host (`host_of`) that the words describe
abbrev pub switch_of : List ℕ → Option (List ℕ) → SwitchAt
switch_of uid had = record { uid = uid_value uid; had = had_of had }

abbrev pub link_of : ScriptOf → (switch port far_switch far_port : List ℕ) → LinkAt
link_of script switch port far_switch far_port =
    record {
      a = place script.switch_names switch;
      a_port = number_value port;
      b = place script.switch_names far_switch;
      b_port = number_value far_port;
    }

abbrev pub host_of : ScriptOf → (uid switch port : List ℕ) → HostOn
host_of script uid switch port =
    record { uid = uid_value uid; s = place script.switch_names switch; port = number_value port }

-- whether `link` joins two different ports, both unused
abbrev pub is_free : Wires → LinkAt → Bool
is_free wires link =
    not (is_used wires link.a link.a_port)
    && (not (is_used wires link.b link.b_port) && not ((link.a == link.b) && (link.a_port == link.b_port)))

-- The error, if any, of a line of each form after `script`: errors of its fields from left to right come first, then a
-- port that is used, then a port without a link, then a limit.
-- the error, if any, of a line that sets `setting`; `came` says whether the setting had its line before
unfoldable pub setting_cause : Came → Setting → List ℕ → Option ScriptCause
setting_cause came setting number =
    first_of (number_cause (least_of setting) (most_of setting) number
    ∷ unless (not (has_come came setting)) NameTwice ∷ [])

-- the error, if any, of a line that adds a switch
unfoldable pub switch_cause : ScriptOf → (name uid : List ℕ) → Option (List ℕ) → Option ScriptCause
switch_cause script name uid had =
    first_of (new_name_cause script name ∷ new_uid_cause script uid ∷ had_cause had ∷ lives_cause script ∷ [])

-- the error, if any, of a line that adds a link
unfoldable pub link_cause : ScriptOf → (switch port far_switch far_port : List ℕ) → Option ScriptCause
link_cause script switch port far_switch far_port =
    first_of (known_cause script.switch_names switch ∷ port_cause port
    ∷ known_cause script.switch_names far_switch ∷ port_cause far_port
    ∷ unless (is_free script.wires (link_of script switch port far_switch far_port)) PortUsed ∷ [])

-- the error, if any, of a line that adds a host
unfoldable pub host_cause : ScriptOf → (name uid switch port : List ℕ) → Option ScriptCause
host_cause script name uid switch port =
    first_of (new_name_cause script name ∷ new_uid_cause script uid ∷ known_cause script.switch_names switch
    ∷ port_cause port
    ∷ unless (not (is_used script.wires (place script.switch_names switch) (number_value port))) PortUsed
    ∷ unless (nat_lt (length script.wires.hosts) 1000) TooMany ∷ [])

-- the error, if any, of a command that changes a link
unfoldable pub link_change_cause : ScriptOf → (time name port : List ℕ) → Option ScriptCause
link_change_cause script time name port =
    first_of (time_cause script time ∷ known_cause script.switch_names name ∷ port_cause port
    ∷ unless (is_used script.wires (place script.switch_names name) (number_value port)) NoLink
    ∷ commands_cause script ∷ [])

-- the error, if any, of a command that changes a wire
unfoldable pub wire_change_cause :
    ScriptOf → WireChange → (time name port number : List ℕ) → Option ScriptCause
wire_change_cause script change time name port number =
    first_of (time_cause script time ∷ known_cause script.switch_names name ∷ port_cause port
    ∷ number_cause 1 (most_count change) number
    ∷ unless (is_linked script.wires (place script.switch_names name) (number_value port)) NoLink
    ∷ commands_cause script ∷ [])

-- the error, if any, of a command that sends a packet from host to host
unfoldable pub send_cause : ScriptOf → (time host to : List ℕ) → Option ScriptCause
send_cause script time host to =
    first_of (time_cause script time ∷ known_cause script.names_of_hosts host
    ∷ known_cause script.names_of_hosts to ∷ commands_cause script ∷ [])

-- the error, if any, of a command that restarts a switch
unfoldable pub restart_cause : ScriptOf → (time name : List ℕ) → Option ScriptCause
restart_cause script time name =
    first_of (time_cause script time ∷ known_cause script.switch_names name ∷ lives_cause script
    ∷ commands_cause script ∷ [])

-- the error, if any, of a line of a form after `draft`
abbrev pub cause_of : Draft → Form → Option ScriptCause
cause_of draft (Number setting number) = setting_cause draft.came setting number
cause_of draft AnyRoutes = unless (not draft.came.routes) NameTwice
cause_of draft (SwitchLine name uid had) = switch_cause draft.script name uid had
cause_of draft (LinkLine switch port far_switch far_port) =
    link_cause draft.script switch port far_switch far_port
cause_of draft (HostLine name uid switch port) = host_cause draft.script name uid switch port
cause_of draft (ChangesLink change time name port) = link_change_cause draft.script time name port
cause_of draft (ChangesWire change time name port number) =
    wire_change_cause draft.script change time name port number
cause_of draft (Sends time host to) = send_cause draft.script time host to
cause_of draft (Restarts time name) = restart_cause draft.script time name
cause_of draft End = None

-- the commands that the words of each form describe
abbrev pub link_command : ScriptOf → LinkChange → (time name port : List ℕ) → Command
link_command script change time name port =
    record {
      time = number_value time;
      event = link_event change (place script.switch_names name) (number_value port);
    }

abbrev pub wire_command : ScriptOf → WireChange → (time name port number : List ℕ) → Command
wire_command script change time name port number =
    record {
      time = number_value time;
      event = wire_event change (place script.switch_names name) (number_value port) (number_value number);
    }

abbrev pub send_command : ScriptOf → (time host to : List ℕ) → Command
send_command script time host to =
    record {
      time = number_value time;
      event = Send (place script.names_of_hosts host) (place script.names_of_hosts to);
    }

abbrev pub restart_command : ScriptOf → (time name : List ℕ) → Command
restart_command script time name =
    record { time = number_value time; event = Restart (place script.switch_names name) }

-- `draft` with what a line of a form adds
abbrev pub with_form : Draft → Form → Draft
with_form draft (Number setting number) =
    record draft {
      script = with_setting draft.script setting (number_value number);
      came = with_come draft.came setting;
    }
with_form draft AnyRoutes =
    record draft {
      script = record draft.script { any_routes = true };
      came = record draft.came { routes = true };
    }
with_form draft (SwitchLine name uid had) =
    record draft { script = with_switch draft.script name (switch_of uid had) }
with_form draft (LinkLine switch port far_switch far_port) =
    record draft { script = with_link draft.script (link_of draft.script switch port far_switch far_port) }
with_form draft (HostLine name uid switch port) =
    record draft { script = with_host draft.script name (host_of draft.script uid switch port) }
with_form draft (ChangesLink change time name port) =
    record draft { script = with_command draft.script (link_command draft.script change time name port) }
with_form draft (ChangesWire change time name port number) =
    record draft {
      script =
          with_command draft.script (wire_command draft.script change time name port number);
    }
with_form draft (Sends time host to) =
    record draft { script = with_command draft.script (send_command draft.script time host to) }
with_form draft (Restarts time name) =
    record draft { script = with_command draft.script (restart_command draft.script time name) }
with_form draft End = record draft { part = After }
