use Rattle.std.proofs.Common.{◌≡◌, ◌≢◌, ◌∙◌, sym, ap, subst, refl, ℕ, ◌+◌, ◌-◌, ◌<◌, ◌≤◌, List, [], ◌∷◌, ◌++◌, Option, Some, None, arith, length, append_assoc, get_or, AllPairs, All, Bool, true, false, cond, is_some}
use Rattle.std.proofs.lemmas.List.{length_push, get_or_default}
use Rattle.std.proofs.lemmas.List.Elements.{All-push, All-weaker, All-nil}
use Rattle.std.proofs.lemmas.List.Sums.{sum_by_push}
use Rattle.std.proofs.lemmas.List.Sorted.{IsNonDecreasingBy-push}
use Rattle.std.proofs.lemmas.Option.{slice_get_read}
use Rattle.an_base.specs.declared.event.Event.{Event}
use Rattle.an_base.specs.declared.event.Event.TheVariants.{Tick, Clock, Take, Handle, Load, Fail, Repair, Lose, Again, Swap, Noise, Send, Move, Restart}
use Rattle.an_base.specs.declared.limits.TheConstants.{MOST_SWITCHES}
use Rattle.net_graph.specs.declared.wiring.SwitchAt.{SwitchAt}
use Rattle.net_graph.specs.declared.wiring.LinkAt.{LinkAt}
use Rattle.net_graph.specs.declared.wiring.HostOn.{HostOn}
use Rattle.net_graph.specs.declared.wiring.Far.{Far}
use Rattle.net_graph.specs.declared.wiring.Far.TheVariants.{Switch, HostAt}
use Rattle.net_graph.specs.Wires.{Wires, far_at}
use Rattle.common_values.proofs.PairLemmas.{apart_insert, apart_push}
use Rattle.net_script.specs.declared.command.Command.{Command}
use Rattle.net_names.specs.Words.{IsName}
use Rattle.net_script.specs.Commands.{IsPort, IsUsedPort, IsWireChange, IsCommandEvent, IsCommand, is_used, is_switch_far, is_restart, last_time}
use Rattle.net_script.specs.Scripts.{ScriptOf, IsScript, CanAddSwitch, CanAddLink, CanAddHost, CanAddCommand, names_of, restarts_of, lives_of, empty_script, with_switch, with_link, with_host, with_command}
use Rattle.net_graph.proofs.WiredLemmas.{no_wires_kept, switch_wired, link_wired, host_wired}
use Rattle.net_script.proofs.WiredLemmas.{far_with_link, far_with_host}

-- a port of a wiring is one of a wiring with more switches
port_of_more : (w v : Wires) (s p : ℕ) → length w.switches ≤ length v.switches → IsPort w s p → IsPort v s p
port_of_more w v s p more is = record { switch = omega (arith, is.switch); port_least = is.port_least; port_most = is.port_most }

-- v has all that w has, and what ports lead to there
pub record IsMore (w v : Wires) : Type 0 where
  pub switches : length w.switches ≤ length v.switches
  pub hosts : length w.hosts ≤ length v.hosts
  pub far : (s p : ℕ) → is_used w s p ≡ true → far_at v s p ≡ far_at w s p

-- a port that has a link is used
linked_used : (o : Option Far) → is_switch_far o ≡ true → is_some o ≡ true
linked_used None t = absurd (cc)
linked_used (Some (Switch s p)) t = refl
linked_used (Some (HostAt h)) t = absurd (cc)

used_of_more : (w v : Wires) (s p : ℕ) → IsMore w v → IsUsedPort w s p → IsUsedPort v s p
used_of_more w v s p more is = record { port = port_of_more w v s p more.switches is.port; used = ap (λ (o : Option Far). is_some o) (more.far s p is.used) ∙ is.used }

change_of_more : (w v : Wires) (s p n most : ℕ) → IsMore w v → IsWireChange w s p n most → IsWireChange v s p n most
change_of_more w v s p n most more is = record {
  port = port_of_more w v s p more.switches is.port;
  linked = ap is_switch_far (more.far s p (linked_used (far_at w s p) is.linked)) ∙ is.linked;
  count_least = is.count_least;
  count_most = is.count_most;
}

event_of_more : (w v : Wires) (e : Event) → IsMore w v → IsCommandEvent w e → IsCommandEvent v e
event_of_more w v (Fail s p) more is = used_of_more w v s p more is
event_of_more w v (Repair s p) more is = used_of_more w v s p more is
event_of_more w v (Lose s p n) more is = change_of_more w v s p n 1000000 more is
event_of_more w v (Again s p n) more is = change_of_more w v s p n 1000000 more is
event_of_more w v (Swap s p n) more is = change_of_more w v s p n 1000000 more is
event_of_more w v (Noise s p n) more is = change_of_more w v s p n 64 more is
event_of_more w v (Send h g) more is = (let l = is.0 in omega (arith, more.hosts), let l = is.1 in omega (arith, more.hosts))
event_of_more w v (Restart s) more is = omega (arith, more.switches)
event_of_more w v Tick more is = is
event_of_more w v (Clock s) more is = is
event_of_more w v (Take s p) more is = is
event_of_more w v (Handle s) more is = is
event_of_more w v (Load s) more is = is
event_of_more w v (Move k) more is = is

-- commands of a wiring are commands of one with more
pub commands_of_more : (w v : Wires) (cs : List Command) → IsMore w v → All (IsCommand w) cs → All (IsCommand v) cs
commands_of_more w v cs more all = All-weaker (IsCommand w) (IsCommand v) (λ c is. record { time = is.time; event = event_of_more w v c.event more is.event }) cs all

-- the empty script
pub empty_kept : IsScript empty_script
unfolding restarts_of
empty_kept = record {
  wired = no_wires_kept;
  switch_count = refl;
  host_count = refl;
  switch_names = All-nil IsName;
  names_of_hosts = All-nil IsName;
  names_apart = λ i j d low high. absurd (omega arith);
  command_count = omega arith;
  commands = All-nil (IsCommand empty_script.wires);
  times = λ i j d low high. absurd (omega arith);
  lives = omega arith;
  epoch = omega arith;
  pace = tt;
  limits = record { ticks = omega arith; events_least = omega arith; events_most = omega arith; blocks_least = omega arith; blocks_most = omega arith };
}

-- one more switch
pub switch_kept : (s : ScriptOf) (name : List ℕ) (x : SwitchAt) → IsScript s → CanAddSwitch s name x → IsScript (with_switch s name x)
switch_kept s name x kept can = record {
  wired = switch_wired s.wires x kept.wired (omega (arith, can.room)) can.switch can.uid_new;
  switch_count = omega (arith, length_push s.wires.switches x, length_push s.switch_names name, kept.switch_count);
  host_count = kept.host_count;
  switch_names = All-push IsName s.switch_names name kept.switch_names can.new_name.is_name;
  names_of_hosts = kept.names_of_hosts;
  names_apart = subst (λ (ns : List (List ℕ)). AllPairs (λ n m. n ≢ m) ns) (sym (append_assoc s.switch_names (name ∷ []) s.names_of_hosts)) (apart_insert s.switch_names s.names_of_hosts name kept.names_apart can.new_name.is_new);
  command_count = kept.command_count;
  commands = commands_of_more s.wires (with_switch s name x).wires s.commands (record { switches = omega (arith, length_push s.wires.switches x); hosts = omega arith; far = λ s p used. refl }) kept.commands;
  times = kept.times;
  lives = omega (arith, length_push s.wires.switches x, can.room);
  epoch = kept.epoch;
  pace = kept.pace;
  limits = kept.limits;
}

-- one more link
pub link_kept : (s : ScriptOf) (l : LinkAt) → IsScript s → CanAddLink s l → IsScript (with_link s l)
link_kept s l kept can =
    let commands = commands_of_more s.wires (with_link s l).wires s.commands (record { switches = omega arith; hosts = omega arith; far = λ t p used. far_with_link s.wires l t p used can.a_free can.b_free }) kept.commands in
    assumption (link_wired s.wires l kept.wired can.link can.a_free can.b_free can.apart, commands, kept)

-- one more host
pub host_kept : (s : ScriptOf) (name : List ℕ) (x : HostOn) → IsScript s → CanAddHost s name x → IsScript (with_host s name x)
host_kept s name x kept can = record {
  wired = host_wired s.wires x kept.wired can.room can.host can.uid_new can.free;
  switch_count = kept.switch_count;
  host_count = omega (arith, length_push s.wires.hosts x, length_push s.names_of_hosts name, kept.host_count);
  switch_names = kept.switch_names;
  names_of_hosts = All-push IsName s.names_of_hosts name kept.names_of_hosts can.new_name.is_name;
  names_apart = subst (λ (ns : List (List ℕ)). AllPairs (λ n m. n ≢ m) ns) (append_assoc s.switch_names s.names_of_hosts (name ∷ [])) (apart_push (names_of s) name kept.names_apart can.new_name.is_new);
  command_count = kept.command_count;
  commands = commands_of_more s.wires (with_host s name x).wires s.commands (record { switches = omega arith; hosts = omega (arith, length_push s.wires.hosts x); far = λ t p used. far_with_host s.wires x t p used can.free }) kept.commands;
  times = kept.times;
  lives = kept.lives;
  epoch = kept.epoch;
  pace = kept.pace;
  limits = kept.limits;
}

-- the restarts with one more command
pub restarts_push : (cs : List Command) (c : Command) → restarts_of (cs ++ c ∷ []) ≡ restarts_of cs + cond (is_restart c.event) 1 0
unfolding restarts_of
restarts_push cs c = sum_by_push (λ (x : Command). cond (is_restart x.event) 1 0) cs c

-- the time of the last command
pub last_time_is : (cs : List Command) (d : Command) → 0 < length cs → last_time cs ≡ (get_or cs (length cs - 1) d).time
last_time_is cs d some = rw (slice_get_read cs (length cs) (length cs - 1) (get_or cs (length cs - 1) d) refl (omega arith) (get_or_default cs (length cs - 1) d (get_or cs (length cs - 1) d) (omega arith))) refl

-- one more command
pub command_kept : (s : ScriptOf) (c : Command) → IsScript s → CanAddCommand s c → IsScript (with_command s c)
command_kept s c kept can =
    let count : length (s.commands ++ c ∷ []) ≤ 10000 = omega (arith, length_push s.commands c, can.room) in
    let times = IsNonDecreasingBy-push (λ (x : Command). x.time) s.commands c kept.times (λ d some. let t = last_time_is s.commands d some in omega (arith, can.time)) in
    let lives : lives_of (with_command s c) ≤ MOST_SWITCHES = more (is_restart c.event) refl in
    assumption (count, All-push (IsCommand s.wires) s.commands c kept.commands can.command, times, lives, kept)
  where
    more : (b : Bool) → is_restart c.event ≡ b → length s.wires.switches + restarts_of (s.commands ++ c ∷ []) ≤ 126
    more true t = let room = can.lives t in let h : restarts_of (s.commands ++ c ∷ []) ≡ restarts_of s.commands + 1 = restarts_push s.commands c ∙ ap (λ (b : Bool). restarts_of s.commands + cond b 1 0) t in omega arith
    more false t = let h : restarts_of (s.commands ++ c ∷ []) ≡ restarts_of s.commands + 0 = restarts_push s.commands c ∙ ap (λ (b : Bool). restarts_of s.commands + cond b 1 0) t in omega (arith, kept.lives)
