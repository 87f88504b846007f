use Rattle.std.proofs.Common.{◌≡◌, sym, refl, subst, ℕ, ◌^◌, ◌<◌, ◌≤◌, List, [], ◌∷◌, arith, length, Option, Some, None, Bool, true, false, eqb, leb, ltb, not, ◌&&◌, Contains}
use Rattle.std.specs.Option.{option_or}
use Rattle.std.specs.List.{list_all}
use Rattle.std.specs.Char.{digit_value, is_digit}
use Rattle.std.specs.Str.Parse.{AllDigits, digits_value}
use Rattle.std.proofs.lemmas.Bool.{and_parts, not-true}
use Rattle.std.proofs.lemmas.Bool.Decides.{nat_tests, Decides-eqb}
use Rattle.std.proofs.lemmas.Int.Digits.{digits_value-lt}
use Rattle.net_graph.specs.Wires.{Wires, far_at, used_ports, uids}
use Rattle.net_graph.proofs.FarLemmas.{port_test}
use Rattle.net_graph.proofs.TableLemmas.{used_is}
use Rattle.net_script.specs.declared.cause.ScriptCause.TheVariants.{BadNumber, BadName, NameTwice, UidTwice, PortRange, PortUsed, TooMany, TimesFall, NoLink}
use Rattle.net_script.specs.declared.command.LinkChange.{LinkChange}
use Rattle.net_script.specs.declared.command.LinkChange.TheVariants as link
use Rattle.net_script.specs.declared.command.WireChange.{WireChange}
use Rattle.net_script.specs.declared.command.WireChange.TheVariants as wire
use Rattle.net_script.specs.declared.draft.Draft.{Draft}
use Rattle.net_script.specs.declared.draft.Part.{Part}
use Rattle.net_script.specs.declared.draft.Part.TheVariants.{Header, Items, After}
use Rattle.net_script.specs.declared.setting.Limits.{Limits}
use Rattle.net_script.specs.declared.setting.Setting.{Setting}
use Rattle.net_script.specs.declared.setting.Setting.TheVariants.{Ticks, Events, Blocks, Epoch, Pace}
use Rattle.common_lines.specs.Words.{is_number, number_value}
use Rattle.net_names.specs.Words.{is_name, is_uid, uid_value}
use Rattle.common_lines.specs.Lines.{lines_of, words_of}
use Rattle.common_lines.specs.Faults.{unless}
use Rattle.net_script.specs.Settings.{least_of, most_of, has_come}
use Rattle.net_script.specs.Commands.{IsPort, IsCommandEvent, is_used, is_linked, last_time, link_event, wire_event, most_count, is_restart}
use Rattle.net_script.specs.Scripts.{ScriptOf, IsScript, IsLimits, IsPace, IsNewName, CanAddSwitch, CanAddLink, CanAddHost, CanAddCommand, lives_of, with_setting}
use Rattle.net_script.specs.Forms.{Form, Number, AnyRoutes, SwitchLine, LinkLine, HostLine, ChangesLink, ChangesWire, Sends, Restarts, End}
use Rattle.net_script.specs.Rules.{is_taken, is_uid_taken, place, port_cause, number_cause, new_name_cause, new_uid_cause, known_cause, had_cause, had_of, time_cause, lives_cause, commands_cause, is_free, switch_of, link_of, host_of, setting_cause, switch_cause, link_cause, host_cause, link_change_cause, wire_change_cause, send_cause, restart_cause, link_command, wire_command, send_command, restart_command, cause_of, with_form}
use Rattle.net_script.specs.Drafts.{start}
use Rattle.net_script.specs.Texts.{AddsWords, Leads, IsText}
use Rattle.net_script.proofs.TextLemmas.{AddsRow}
use Rattle.common_lines.proofs.FaultLemmas.{no_first, holds}
use Rattle.net_script.proofs.FieldLemmas.{not_taken, uid_test}
use Rattle.net_script.proofs.RangeLemmas.{known_low, in_range}
use Rattle.net_script.proofs.ScriptLemmas.{empty_kept, switch_kept, link_kept, host_kept, command_kept}

-- FIELDS WITH WHICH NOTHING IS WRONG

-- a test that passes
le_is : (a b : ℕ) → leb a b ≡ true → a ≤ b
le_is a b t = grind (arith, nat_tests)

lt_is : (a b : ℕ) → ltb a b ≡ true → a < b
lt_is a b t = grind (arith, nat_tests)

-- a new name
new_name_is : (s : ScriptOf) (name : List ℕ) → new_name_cause s name ≡ None → IsNewName s name
new_name_is s name good =
    let one = no_first (unless (is_name name) BadName) (option_or (unless (not (is_taken s name)) NameTwice) None) good in
    let two = no_first (unless (not (is_taken s name)) NameTwice) None one.1 in
    record {
      is_name = holds (is_name name) BadName one.0;
      is_new = not_taken s name (not-true (is_taken s name) (holds (not (is_taken s name)) NameTwice two.0));
    }

-- hexadecimal digits are digits of base 16
hex_digit : (c : ℕ) → is_digit c 16 ≡ true → digit_value c < 16
hex_digit c is = grind (arith, nat_tests)

hex_digits : (word : List ℕ) → list_all (λ c. is_digit c 16) word ≡ true → AllDigits 16 word
hex_digits [] all = tt
hex_digits (c ∷ word) all = let parts = and_parts (is_digit c 16) (list_all (λ d. is_digit d 16) word) all in (hex_digit c parts.0, hex_digits word parts.1)

-- a new identifier
uid_low : (word : List ℕ) → is_uid word ≡ true → uid_value word < 2 ^ 48
unfolding uid_value
uid_low word is =
    let parts = and_parts (eqb (length word) 12) (list_all (λ c. is_digit c 16) word) is in
    let long : length word ≡ 12 = (Decides-eqb (length word) 12).0 parts.0 in
    subst (λ (n : ℕ). digits_value 16 word < 16 ^ n) long (digits_value-lt 16 word (hex_digits word parts.1))

new_uid_is : (s : ScriptOf) (word : List ℕ) → new_uid_cause s word ≡ None → (uid_value word < 2 ^ 48) × (¬ Contains (uids s.wires) (uid_value word))
new_uid_is s word good =
    let one = no_first (unless (is_uid word) BadNumber) (option_or (unless (not (is_uid_taken s (uid_value word))) UidTwice) None) good in
    let two = no_first (unless (not (is_uid_taken s (uid_value word))) UidTwice) None one.1 in
    let free : is_uid_taken s (uid_value word) ≡ false = not-true (is_uid_taken s (uid_value word)) (holds (not (is_uid_taken s (uid_value word))) UidTwice two.0) in
    (uid_low word (holds (is_uid word) BadNumber one.0), λ has. (let taken : is_uid_taken s (uid_value word) ≡ true = uid_test s (uid_value word) true ((λ t. has), (λ h. refl)) in absurd (cc)))

-- a port
port_is : (word : List ℕ) → port_cause word ≡ None → (1 ≤ number_value word) × (number_value word ≤ 12)
port_is word good =
    let one = no_first (unless (is_number word) BadNumber) (option_or (unless (leb 1 (number_value word) && leb (number_value word) 12) PortRange) None) good in
    let two = no_first (unless (leb 1 (number_value word) && leb (number_value word) 12) PortRange) None one.1 in
    let range = and_parts (leb 1 (number_value word)) (leb (number_value word) 12) (holds (leb 1 (number_value word) && leb (number_value word) 12) PortRange two.0) in
    (le_is 1 (number_value word) range.0, le_is (number_value word) 12 range.1)

-- the number that a switch had last
had_is : (had : Option (List ℕ)) → had_cause had ≡ None → (1 ≤ had_of had) × (had_of had ≤ 126)
had_is None good = (omega arith, omega arith)
had_is (Some word) good = in_range 1 126 word good

-- the time of a command
time_is : (s : ScriptOf) (word : List ℕ) → time_cause s word ≡ None → (last_time s.commands ≤ number_value word) × (number_value word ≤ 1000000)
time_is s word good =
    let one = no_first (number_cause 0 1000000 word) (option_or (unless (leb (last_time s.commands) (number_value word)) TimesFall) None) good in
    let two = no_first (unless (leb (last_time s.commands) (number_value word)) TimesFall) None one.1 in
    (le_is (last_time s.commands) (number_value word) (holds (leb (last_time s.commands) (number_value word)) TimesFall two.0), (in_range 0 1000000 word one.0).1)

-- a place of a switch
switch_low : (s : ScriptOf) (word : List ℕ) → IsScript s → known_cause s.switch_names word ≡ None → place s.switch_names word < length s.wires.switches
switch_low s word kept known = let low = known_low s.switch_names word known in omega (arith, kept.switch_count)

-- and of a host
host_low : (s : ScriptOf) (word : List ℕ) → IsScript s → known_cause s.names_of_hosts word ≡ None → place s.names_of_hosts word < length s.wires.hosts
host_low s word kept known = let low = known_low s.names_of_hosts word known in omega (arith, kept.host_count)

-- a port that is not used is none of the used ports
unused : (w : Wires) (s p : ℕ) → not (is_used w s p) ≡ true → ¬ Contains (used_ports w) (s, p)
unused w s p free has =
    let no : is_used w s p ≡ false = not-true (is_used w s p) free in
    let yes : is_used w s p ≡ true = (used_is w s p (far_at w s p) refl).1 has in
    absurd (cc)

-- WHAT MAY BE ADDED

switch_can : (s : ScriptOf) (name uid : List ℕ) (had : Option (List ℕ)) → switch_cause s name uid had ≡ None → CanAddSwitch s name (switch_of uid had)
unfolding switch_cause
switch_can s name uid had good =
    let one = no_first (new_name_cause s name) (option_or (new_uid_cause s uid) (option_or (had_cause had) (option_or (lives_cause s) None))) good in
    let two = no_first (new_uid_cause s uid) (option_or (had_cause had) (option_or (lives_cause s) None)) one.1 in
    let three = no_first (had_cause had) (option_or (lives_cause s) None) two.1 in
    let four = no_first (lives_cause s) None three.1 in
    let id = new_uid_is s uid two.0 in
    let range = had_is had three.0 in
    record {
      new_name = new_name_is s name one.0;
      switch = record { uid = id.0; had_least = range.0; had_most = range.1 };
      uid_new = id.1;
      room = lt_is (lives_of s) 126 (holds (ltb (lives_of s) 126) TooMany four.0);
    }

link_can : (s : ScriptOf) (a a_port b b_port : List ℕ) → IsScript s → link_cause s a a_port b b_port ≡ None → CanAddLink s (link_of s a a_port b b_port)
unfolding link_cause
link_can s a a_port b b_port kept good =
    let l = link_of s a a_port b b_port in
    let free = is_free s.wires l in
    let one = no_first (known_cause s.switch_names a) (option_or (port_cause a_port) (option_or (known_cause s.switch_names b) (option_or (port_cause b_port) (option_or (unless free PortUsed) None)))) good in
    let two = no_first (port_cause a_port) (option_or (known_cause s.switch_names b) (option_or (port_cause b_port) (option_or (unless free PortUsed) None))) one.1 in
    let three = no_first (known_cause s.switch_names b) (option_or (port_cause b_port) (option_or (unless free PortUsed) None)) two.1 in
    let four = no_first (port_cause b_port) (option_or (unless free PortUsed) None) three.1 in
    let five = no_first (unless free PortUsed) None four.1 in
    let parts = and_parts (not (is_used s.wires l.a l.a_port)) (not (is_used s.wires l.b l.b_port) && not (eqb l.a l.b && eqb l.a_port l.b_port)) (holds free PortUsed five.0) in
    let others = and_parts (not (is_used s.wires l.b l.b_port)) (not (eqb l.a l.b && eqb l.a_port l.b_port)) parts.1 in
    let a_range = port_is a_port two.0 in
    let b_range = port_is b_port four.0 in
    record {
      link = record { a_below = switch_low s a kept one.0; b_below = switch_low s b kept three.0; a_port_least = a_range.0; a_port_most = a_range.1; b_port_least = b_range.0; b_port_most = b_range.1 };
      apart = λ same. let no = not-true (eqb l.a l.b && eqb l.a_port l.b_port) others.1 in
          let yes = port_test l.a l.a_port l.b l.b_port same in absurd (cc);
      a_free = unused s.wires l.a l.a_port parts.0;
      b_free = unused s.wires l.b l.b_port others.0;
    }

host_can : (s : ScriptOf) (name uid switch port : List ℕ) → IsScript s → host_cause s name uid switch port ≡ None → CanAddHost s name (host_of s uid switch port)
unfolding host_cause
host_can s name uid switch port kept good =
    let x = host_of s uid switch port in
    let free = not (is_used s.wires x.s x.port) in
    let room = unless (ltb (length s.wires.hosts) 1000) TooMany in
    let one = no_first (new_name_cause s name) (option_or (new_uid_cause s uid) (option_or (known_cause s.switch_names switch) (option_or (port_cause port) (option_or (unless free PortUsed) (option_or room None))))) good in
    let two = no_first (new_uid_cause s uid) (option_or (known_cause s.switch_names switch) (option_or (port_cause port) (option_or (unless free PortUsed) (option_or room None)))) one.1 in
    let three = no_first (known_cause s.switch_names switch) (option_or (port_cause port) (option_or (unless free PortUsed) (option_or room None))) two.1 in
    let four = no_first (port_cause port) (option_or (unless free PortUsed) (option_or room None)) three.1 in
    let five = no_first (unless free PortUsed) (option_or room None) four.1 in
    let six = no_first room None five.1 in
    let id = new_uid_is s uid two.0 in
    let range = port_is port four.0 in
    record {
      new_name = new_name_is s name one.0;
      host = record { uid = id.0; switch = switch_low s switch kept three.0; port_least = range.0; port_most = range.1 };
      uid_new = id.1;
      free = unused s.wires x.s x.port (holds free PortUsed five.0);
      room = lt_is (length s.wires.hosts) 1000 (holds (ltb (length s.wires.hosts) 1000) TooMany six.0);
    }

-- room for a command
few_commands : (s : ScriptOf) → commands_cause s ≡ None → length s.commands < 10000
few_commands s good = lt_is (length s.commands) 10000 (holds (ltb (length s.commands) 10000) TooMany good)

link_event_can : (w : Wires) (k : LinkChange) (s p : ℕ) → IsPort w s p → is_used w s p ≡ true → IsCommandEvent w (link_event k s p)
link_event_can w link.Fail s p port used = record { port = port; used = used }
link_event_can w link.Repair s p port used = record { port = port; used = used }

no_link_restart : (k : LinkChange) (s p : ℕ) → is_restart (link_event k s p) ≡ false
no_link_restart link.Fail s p = refl
no_link_restart link.Repair s p = refl

link_change_can : (s : ScriptOf) (k : LinkChange) (time name port : List ℕ) → IsScript s → link_change_cause s time name port ≡ None → CanAddCommand s (link_command s k time name port)
unfolding link_change_cause
link_change_can s k time name port kept good =
    let x = place s.switch_names name in
    let p = number_value port in
    let used = is_used s.wires x p in
    let one = no_first (time_cause s time) (option_or (known_cause s.switch_names name) (option_or (port_cause port) (option_or (unless used NoLink) (option_or (commands_cause s) None)))) good in
    let two = no_first (known_cause s.switch_names name) (option_or (port_cause port) (option_or (unless used NoLink) (option_or (commands_cause s) None))) one.1 in
    let three = no_first (port_cause port) (option_or (unless used NoLink) (option_or (commands_cause s) None)) two.1 in
    let four = no_first (unless used NoLink) (option_or (commands_cause s) None) three.1 in
    let five = no_first (commands_cause s) None four.1 in
    let due = time_is s time one.0 in
    let range = port_is port three.0 in
    record {
      command = record { time = due.1; event = link_event_can s.wires k x p (record { switch = switch_low s name kept two.0; port_least = range.0; port_most = range.1 }) (holds used NoLink four.0) };
      time = due.0;
      room = few_commands s five.0;
      lives = λ t. let no = no_link_restart k x p in absurd (cc);
    }

wire_event_can : (w : Wires) (k : WireChange) (s p n : ℕ) → IsPort w s p → is_linked w s p ≡ true → 1 ≤ n → n ≤ most_count k → IsCommandEvent w (wire_event k s p n)
wire_event_can w wire.Lose s p n port linked least most = record { port = port; linked = linked; count_least = least; count_most = most }
wire_event_can w wire.Again s p n port linked least most = record { port = port; linked = linked; count_least = least; count_most = most }
wire_event_can w wire.Swap s p n port linked least most = record { port = port; linked = linked; count_least = least; count_most = most }
wire_event_can w wire.Noise s p n port linked least most = record { port = port; linked = linked; count_least = least; count_most = most }

no_wire_restart : (k : WireChange) (s p n : ℕ) → is_restart (wire_event k s p n) ≡ false
no_wire_restart wire.Lose s p n = refl
no_wire_restart wire.Again s p n = refl
no_wire_restart wire.Swap s p n = refl
no_wire_restart wire.Noise s p n = refl

wire_change_can : (s : ScriptOf) (k : WireChange) (time name port n : List ℕ) → IsScript s → wire_change_cause s k time name port n ≡ None → CanAddCommand s (wire_command s k time name port n)
unfolding wire_change_cause
wire_change_can s k time name port n kept good =
    let x = place s.switch_names name in
    let p = number_value port in
    let linked = is_linked s.wires x p in
    let one = no_first (time_cause s time) (option_or (known_cause s.switch_names name) (option_or (port_cause port) (option_or (number_cause 1 (most_count k) n) (option_or (unless linked NoLink) (option_or (commands_cause s) None))))) good in
    let two = no_first (known_cause s.switch_names name) (option_or (port_cause port) (option_or (number_cause 1 (most_count k) n) (option_or (unless linked NoLink) (option_or (commands_cause s) None)))) one.1 in
    let three = no_first (port_cause port) (option_or (number_cause 1 (most_count k) n) (option_or (unless linked NoLink) (option_or (commands_cause s) None))) two.1 in
    let four = no_first (number_cause 1 (most_count k) n) (option_or (unless linked NoLink) (option_or (commands_cause s) None)) three.1 in
    let five = no_first (unless linked NoLink) (option_or (commands_cause s) None) four.1 in
    let six = no_first (commands_cause s) None five.1 in
    let due = time_is s time one.0 in
    let range = port_is port three.0 in
    let count = in_range 1 (most_count k) n four.0 in
    record {
      command = record { time = due.1; event = wire_event_can s.wires k x p (number_value n) (record { switch = switch_low s name kept two.0; port_least = range.0; port_most = range.1 }) (holds linked NoLink five.0) count.0 count.1 };
      time = due.0;
      room = few_commands s six.0;
      lives = λ t. let no = no_wire_restart k x p (number_value n) in absurd (cc);
    }

send_can : (s : ScriptOf) (time host to : List ℕ) → IsScript s → send_cause s time host to ≡ None → CanAddCommand s (send_command s time host to)
unfolding send_cause
send_can s time host to kept good =
    let one = no_first (time_cause s time) (option_or (known_cause s.names_of_hosts host) (option_or (known_cause s.names_of_hosts to) (option_or (commands_cause s) None))) good in
    let two = no_first (known_cause s.names_of_hosts host) (option_or (known_cause s.names_of_hosts to) (option_or (commands_cause s) None)) one.1 in
    let three = no_first (known_cause s.names_of_hosts to) (option_or (commands_cause s) None) two.1 in
    let four = no_first (commands_cause s) None three.1 in
    let due = time_is s time one.0 in
    record {
      command = record { time = due.1; event = (host_low s host kept two.0, host_low s to kept three.0) };
      time = due.0;
      room = few_commands s four.0;
      lives = λ t. absurd (cc);
    }

restart_can : (s : ScriptOf) (time name : List ℕ) → IsScript s → restart_cause s time name ≡ None → CanAddCommand s (restart_command s time name)
unfolding restart_cause
restart_can s time name kept good =
    let one = no_first (time_cause s time) (option_or (known_cause s.switch_names name) (option_or (lives_cause s) (option_or (commands_cause s) None))) good in
    let two = no_first (known_cause s.switch_names name) (option_or (lives_cause s) (option_or (commands_cause s) None)) one.1 in
    let three = no_first (lives_cause s) (option_or (commands_cause s) None) two.1 in
    let four = no_first (commands_cause s) None three.1 in
    let due = time_is s time one.0 in
    record {
      command = record { time = due.1; event = switch_low s name kept two.0 };
      time = due.0;
      room = few_commands s four.0;
      lives = λ t. lt_is (lives_of s) 126 (holds (ltb (lives_of s) 126) TooMany three.0);
    }

-- A TEXT

-- a script with other settings that are in range is a script
settings_kept : (s : ScriptOf) (limits : Limits) (epoch : ℕ) (pace : Option ℕ) (any : Bool) → IsScript s → IsLimits limits → epoch < 2 ^ 64 → IsPace pace → IsScript (record s { limits = limits; epoch = epoch; pace = pace; any_routes = any })
settings_kept s limits epoch pace any kept limits_are epoch_is pace_is = assumption (limits_are, epoch_is, pace_is, kept)

-- a setting in its range
setting_kept : (s : ScriptOf) (k : Setting) (n : ℕ) → IsScript s → least_of k ≤ n → n ≤ most_of k → IsScript (with_setting s k n)
setting_kept s Ticks n kept least most =
    let l = kept.limits in
    settings_kept s (record s.limits { ticks = n }) s.epoch s.pace s.any_routes kept (record { ticks = most; events_least = l.events_least; events_most = l.events_most; blocks_least = l.blocks_least; blocks_most = l.blocks_most }) kept.epoch kept.pace
setting_kept s Events n kept least most =
    let l = kept.limits in
    settings_kept s (record s.limits { events = n }) s.epoch s.pace s.any_routes kept (record { ticks = l.ticks; events_least = least; events_most = most; blocks_least = l.blocks_least; blocks_most = l.blocks_most }) kept.epoch kept.pace
setting_kept s Blocks n kept least most =
    let l = kept.limits in
    settings_kept s (record s.limits { blocks = n }) s.epoch s.pace s.any_routes kept (record { ticks = l.ticks; events_least = l.events_least; events_most = l.events_most; blocks_least = least; blocks_most = most }) kept.epoch kept.pace
setting_kept s Epoch n kept least most = settings_kept s s.limits n s.pace s.any_routes kept kept.limits (omega arith) kept.pace
setting_kept s Pace n kept least most = settings_kept s s.limits s.epoch (Some n) s.any_routes kept kept.limits kept.epoch (least, most)

-- a script with what a good form adds is a script
form_kept : (d : Draft) (form : Form) → IsScript d.script → cause_of d form ≡ None → IsScript (with_form d form).script
unfolding setting_cause
form_kept d (Number k n) kept good =
    let one = no_first (number_cause (least_of k) (most_of k) n) (option_or (unless (not (has_come d.came k)) NameTwice) None) good in
    let range = in_range (least_of k) (most_of k) n one.0 in
    setting_kept d.script k (number_value n) kept range.0 range.1
form_kept d AnyRoutes kept good = settings_kept d.script d.script.limits d.script.epoch d.script.pace true kept kept.limits kept.epoch kept.pace
form_kept d (SwitchLine name uid had) kept good = switch_kept d.script name (switch_of uid had) kept (switch_can d.script name uid had good)
form_kept d (LinkLine a a_port b b_port) kept good = link_kept d.script (link_of d.script a a_port b b_port) kept (link_can d.script a a_port b b_port kept good)
form_kept d (HostLine name uid switch port) kept good = host_kept d.script name (host_of d.script uid switch port) kept (host_can d.script name uid switch port kept good)
form_kept d (ChangesLink k time name port) kept good = command_kept d.script (link_command d.script k time name port) kept (link_change_can d.script k time name port kept good)
form_kept d (ChangesWire k time name port n) kept good = command_kept d.script (wire_command d.script k time name port n) kept (wire_change_can d.script k time name port n kept good)
form_kept d (Sends time host to) kept good = command_kept d.script (send_command d.script time host to) kept (send_can d.script time host to kept good)
form_kept d (Restarts time name) kept good = command_kept d.script (restart_command d.script time name) kept (restart_can d.script time name kept good)
form_kept d End kept good = kept

-- so does a good line, and so do good lines
words_kept : (p : Part) (d e : Draft) (words : List (List ℕ)) → IsScript d.script → AddsWords p d words e → IsScript e.script
words_kept Header d e words kept adds = subst (λ (x : Draft). IsScript x.script) (sym adds.1) kept
words_kept Items d e words kept adds = subst (λ (x : Draft). IsScript x.script) (sym adds.then) (form_kept d adds.form kept adds.good)
words_kept After d e words kept adds = absurd adds

row_kept : (d e : Draft) (words : List (List ℕ)) → IsScript d.script → AddsRow d words e → IsScript e.script
row_kept d e [] kept adds = subst (λ (x : Draft). IsScript x.script) (sym adds) kept
row_kept d e (w ∷ ws) kept adds = words_kept d.part d e (w ∷ ws) kept adds

lines_kept : (d e : Draft) (lines : List (List ℕ)) → IsScript d.script → Leads d lines e → IsScript e.script
lines_kept d e [] kept leads = subst (λ (x : Draft). IsScript x.script) leads kept
lines_kept d e (line ∷ lines) kept leads = lines_kept leads.0 e lines (row_kept d leads.0 (words_of line) kept leads.1.row) leads.2

-- what a text says is a script
pub text_kept : (bytes : List ℕ) (s : ScriptOf) → IsText bytes s → IsScript s
text_kept bytes s text = subst IsScript (sym text.says) (lines_kept start text.last (lines_of bytes) empty_kept text.good)
