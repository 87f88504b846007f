use Rattle.std.proofs.Common.{◌≡◌, ◌≢◌, ◌∙◌, sym, ap, refl, ℕ, ◌<◌, ◌≤◌, ◌^◌, List, [], length, get_or, Option, Some, None, Bool, true, false, not, ◌&&◌, ◌||◌, eqb, leb, ltb, cond, is_some, All, AllPairs, Contains, arith}
use Rattle.std.specs.Prelude.{unwrap_or}
use Rattle.std.specs.Fmt.{decimal}
use Rattle.std.proofs.lemmas.Bool.{not_from_false}
use Rattle.std.proofs.lemmas.Bool.Decides.{nat_tests}
use Rattle.std.proofs.lemmas.List.Elements.{All-get_or, Contains-append_left, Contains-append_right}
use Rattle.an_base.specs.declared.event.Event.TheVariants.{Send, Restart}
use Rattle.net_graph.specs.declared.wiring.SwitchAt.{SwitchAt}
use Rattle.net_graph.specs.declared.wiring.LinkAt.{LinkAt}
use Rattle.net_graph.specs.declared.wiring.HostOn.{HostOn}
use Rattle.net_graph.specs.Wires.{Wires, uids, used_ports, far_at}
use Rattle.net_graph.proofs.TableLemmas.{used_is}
use Rattle.net_script.specs.declared.cause.ScriptCause.{ScriptCause}
use Rattle.net_script.specs.declared.cause.ScriptCause.TheVariants.{BadNumber, BadName, NameTwice, NoSuchName, PortRange, PortUsed, TooMany, TimesFall, NoLink}
use Rattle.net_script.specs.declared.command.LinkChange.{LinkChange}
use Rattle.net_script.specs.declared.command.WireChange.{WireChange}
use Rattle.common_lines.specs.Words.{is_number, number_value, hex_text}
use Rattle.net_names.specs.Words.{IsName, is_name}
use Rattle.common_lines.specs.Faults.{unless}
use Rattle.net_script.specs.Commands.{IsPort, IsUsedPort, IsWireChange, is_used, is_linked, last_time, link_event, wire_event, most_count}
use Rattle.net_names.specs.Names.{place_of}
use Rattle.net_script.specs.Scripts.{ScriptOf, IsNewName, CanAddSwitch, CanAddLink, CanAddHost, lives_of}
use Rattle.net_script.specs.Rules.{place, is_taken, number_cause, port_cause, new_name_cause, new_uid_cause, known_cause, had_cause, had_of, time_cause, lives_cause, commands_cause, switch_of, link_of, host_of, link_command, wire_command, send_command, restart_command, is_free, switch_cause, link_cause, host_cause, link_change_cause, wire_change_cause, send_cause, restart_cause}
use Rattle.script_text.specs.Canonical.{had_word}
use Rattle.net_script.proofs.FieldLemmas.{uid_good}
use Rattle.net_names.proofs.NameLemmas.{place_none, place_at}
use Rattle.common_lines.proofs.SpellLemmas.{decimal_number, decimal_value, decimal_good, le_test, ge_test, lt_test}
use Rattle.net_names.proofs.WordLemmas.{uid_is, uid_value_is}
use Rattle.common_lines.proofs.FaultLemmas.{unless_good, first_good}

-- numbers and ports
pub number_good : (least most n : ℕ) → n < 2 ^ 64 → least ≤ n → n ≤ most → number_cause least most (decimal n) ≡ None
number_good least most n low least_ok most_ok = decimal_good BadNumber least most n low least_ok most_ok

both : (a b : Bool) (c : ScriptCause) → a ≡ true → b ≡ true → unless (a && b) c ≡ None
both a b c p q = rw (p, q) refl

port_good : (p : ℕ) → 1 ≤ p → p ≤ 12 → port_cause (decimal p) ≡ None
port_good p least most =
    let low : p < 2 ^ 64 = omega arith in
    let v = decimal_value p low in
    first_good (unless (is_number (decimal p)) BadNumber) _ (unless_good (is_number (decimal p)) BadNumber (decimal_number p low))
    (first_good (unless (leb 1 (number_value (decimal p)) && leb (number_value (decimal p)) 12) PortRange) None (both (leb 1 (number_value (decimal p))) (leb (number_value (decimal p)) 12) PortRange (le_test 1 (number_value (decimal p)) p v least) (ge_test (number_value (decimal p)) 12 p v most)) refl)

port_value : (p : ℕ) → p ≤ 12 → number_value (decimal p) ≡ p
port_value p most = decimal_value p (omega arith)

-- names and their places
pub known_good : (names : List (List ℕ)) (i : ℕ) → All IsName names → AllPairs (λ n m. n ≢ m) names → i < length names → known_cause names (get_or names i []) ≡ None
known_good names i are apart within =
    first_good (unless (is_name (get_or names i [])) BadName) _ (unless_good (is_name (get_or names i [])) BadName (All-get_or IsName names i [] within are))
    (first_good (unless (is_some (place_of names (get_or names i []))) NoSuchName) None (unless_good (is_some (place_of names (get_or names i []))) NoSuchName (ap (λ (o : Option ℕ). is_some o) (place_at names i apart within))) refl)

pub place_is : (names : List (List ℕ)) (i : ℕ) → AllPairs (λ n m. n ≢ m) names → i < length names → place names (get_or names i []) ≡ i
place_is names i apart within = ap (λ (o : Option ℕ). unwrap_or o 0) (place_at names i apart within)

-- new names and identifiers
neither_test : (a b : Option ℕ) → a ≡ None → b ≡ None → not (is_some a || is_some b) ≡ true
neither_test a b p q = rw (p, q) refl

new_name_good : (s : ScriptOf) (name : List ℕ) → IsNewName s name → new_name_cause s name ≡ None
new_name_good s name is =
    let switch = place_none s.switch_names name (λ has. is.is_new (Contains-append_left s.switch_names s.names_of_hosts name has)) in
    let host = place_none s.names_of_hosts name (λ has. is.is_new (Contains-append_right s.switch_names s.names_of_hosts name has)) in
    first_good (unless (is_name name) BadName) _ (unless_good (is_name name) BadName is.is_name)
    (first_good (unless (not (is_taken s name)) NameTwice) None (unless_good (not (is_taken s name)) NameTwice (neither_test (place_of s.switch_names name) (place_of s.names_of_hosts name) switch host)) refl)

new_uid_good : (s : ScriptOf) (uid : ℕ) → uid < 2 ^ 48 → ¬ Contains (uids s.wires) uid → new_uid_cause s (hex_text 12 uid) ≡ None
new_uid_good s uid low new = uid_good s (hex_text 12 uid) uid s.wires false (uid_is uid) (sym (uid_value_is uid low)) refl ((λ t. absurd (cc)), (λ has. absurd (new has))) refl

-- the number that a switch had last
had_good : (n : ℕ) → 1 ≤ n → n ≤ 126 → had_cause (had_word n) ≡ None
had_good n least most = go (eqb n 1)
  where
    go : (b : Bool) → had_cause (cond b None (Some (decimal n))) ≡ None
    go true = refl
    go false = number_good 1 126 n (omega arith) least most

had_is : (n : ℕ) → 1 ≤ n → n ≤ 126 → had_of (had_word n) ≡ n
had_is n least most = go (eqb n 1) refl
  where
    go : (b : Bool) → eqb n 1 ≡ b → had_of (cond b None (Some (decimal n))) ≡ n
    go true t = let one : n ≡ 1 = grind (arith, nat_tests) in sym one
    go false t = decimal_value n (omega arith)

-- room for one more life, or command
lives_good : (s : ScriptOf) → lives_of s < 126 → lives_cause s ≡ None
lives_good s room = unless_good (ltb (lives_of s) 126) TooMany (lt_test (lives_of s) 126 room)

commands_good : (s : ScriptOf) → length s.commands < 10000 → commands_cause s ≡ None
commands_good s room = unless_good (ltb (length s.commands) 10000) TooMany (lt_test (length s.commands) 10000 room)

-- a switch that may be added
pub switch_good : (s : ScriptOf) (name : List ℕ) (x : SwitchAt) → CanAddSwitch s name x → switch_cause s name (hex_text 12 x.uid) (had_word x.had) ≡ None
unfolding switch_cause
switch_good s name x can =
    first_good (new_name_cause s name) _ (new_name_good s name can.new_name)
    (first_good (new_uid_cause s (hex_text 12 x.uid)) _ (new_uid_good s x.uid can.switch.uid can.uid_new)
    (first_good (had_cause (had_word x.had)) _ (had_good x.had can.switch.had_least can.switch.had_most)
    (first_good (lives_cause s) None (lives_good s can.room) refl)))

pub switch_is : (x : SwitchAt) → x.uid < 2 ^ 48 → 1 ≤ x.had → x.had ≤ 126 → switch_of (hex_text 12 x.uid) (had_word x.had) ≡ x
switch_is x low least most =
    ap (λ (u : ℕ). record { uid = u; had = had_of (had_word x.had) }) (uid_value_is x.uid low)
    ∙ ap (λ (h : ℕ). record { uid = x.uid; had = h }) (had_is x.had least most)

-- ports that are not used, and links
unused : (w : Wires) (s p : ℕ) → ¬ Contains (used_ports w) (s, p) → is_used w s p ≡ false
unused w s p free = go (is_used w s p) refl
  where
    go : (b : Bool) → is_used w s p ≡ b → b ≡ false
    go true t = absurd (free ((used_is w s p (far_at w s p) refl).0 t))
    go false t = refl

free_test : (a b : Bool) (x p y q : ℕ) → a ≡ false → b ≡ false → ◌≢◌ {A = ℕ × ℕ} (x, p) (y, q) → (not a && (not b && not (eqb x y && eqb p q))) ≡ true
free_test a b x p y q no_a no_b apart = rw (no_a, no_b) (go (eqb x y) (eqb p q) refl refl)
  where
    go : (e f : Bool) → eqb x y ≡ e → eqb p q ≡ f → not (e && f) ≡ true
    go true true t u = let same : x ≡ y = grind (arith, nat_tests) in let same' : p ≡ q = grind (arith, nat_tests) in absurd (apart (ap (λ (z : ℕ). (z, p)) same ∙ ap (λ (z : ℕ). (y, z)) same'))
    go true false t u = refl
    go false f t u = refl

-- the names of switches, by place
pub record AreNames (names : List (List ℕ)) (count : ℕ) : Type 0 where
  pub are_names : All IsName names
  pub apart : AllPairs (λ n m. n ≢ m) names
  pub counted : length names ≡ count

pub link_is : (s : ScriptOf) (l : LinkAt) → AreNames s.switch_names (length s.wires.switches) → CanAddLink s l → link_of s (get_or s.switch_names l.a []) (decimal l.a_port) (get_or s.switch_names l.b []) (decimal l.b_port) ≡ l
link_is s l are can =
    let a_low : l.a < length s.switch_names = omega (arith, can.link.a_below, are.counted) in
    let b_low : l.b < length s.switch_names = omega (arith, can.link.b_below, are.counted) in
    ap (λ (x : ℕ). record { a = x; a_port = number_value (decimal l.a_port); b = place s.switch_names (get_or s.switch_names l.b []); b_port = number_value (decimal l.b_port) }) (place_is s.switch_names l.a are.apart a_low)
    ∙ ap (λ (x : ℕ). record { a = l.a; a_port = x; b = place s.switch_names (get_or s.switch_names l.b []); b_port = number_value (decimal l.b_port) }) (port_value l.a_port can.link.a_port_most)
    ∙ ap (λ (x : ℕ). record { a = l.a; a_port = l.a_port; b = x; b_port = number_value (decimal l.b_port) }) (place_is s.switch_names l.b are.apart b_low)
    ∙ ap (λ (x : ℕ). record { a = l.a; a_port = l.a_port; b = l.b; b_port = x }) (port_value l.b_port can.link.b_port_most)

pub link_good : (s : ScriptOf) (l : LinkAt) → AreNames s.switch_names (length s.wires.switches) → CanAddLink s l → link_cause s (get_or s.switch_names l.a []) (decimal l.a_port) (get_or s.switch_names l.b []) (decimal l.b_port) ≡ None
unfolding link_cause
link_good s l are can =
    let a_low : l.a < length s.switch_names = omega (arith, can.link.a_below, are.counted) in
    let b_low : l.b < length s.switch_names = omega (arith, can.link.b_below, are.counted) in
    let free : is_free s.wires l ≡ true = free_test (is_used s.wires l.a l.a_port) (is_used s.wires l.b l.b_port) l.a l.a_port l.b l.b_port (unused s.wires l.a l.a_port can.a_free) (unused s.wires l.b l.b_port can.b_free) can.apart in
    first_good (known_cause s.switch_names (get_or s.switch_names l.a [])) _ (known_good s.switch_names l.a are.are_names are.apart a_low)
    (first_good (port_cause (decimal l.a_port)) _ (port_good l.a_port can.link.a_port_least can.link.a_port_most)
    (first_good (known_cause s.switch_names (get_or s.switch_names l.b [])) _ (known_good s.switch_names l.b are.are_names are.apart b_low)
    (first_good (port_cause (decimal l.b_port)) _ (port_good l.b_port can.link.b_port_least can.link.b_port_most)
    (first_good _ None (unless_good (is_free s.wires (link_of s (get_or s.switch_names l.a []) (decimal l.a_port) (get_or s.switch_names l.b []) (decimal l.b_port))) PortUsed (ap (is_free s.wires) (link_is s l are can) ∙ free)) refl))))

-- hosts
pub host_is : (s : ScriptOf) (name : List ℕ) (x : HostOn) → AreNames s.switch_names (length s.wires.switches) → CanAddHost s name x → host_of s (hex_text 12 x.uid) (get_or s.switch_names x.s []) (decimal x.port) ≡ x
host_is s name x are can =
    let low : x.s < length s.switch_names = omega (arith, can.host.switch, are.counted) in
    ap (λ (u : ℕ). record { uid = u; s = place s.switch_names (get_or s.switch_names x.s []); port = number_value (decimal x.port) }) (uid_value_is x.uid can.host.uid)
    ∙ ap (λ (y : ℕ). record { uid = x.uid; s = y; port = number_value (decimal x.port) }) (place_is s.switch_names x.s are.apart low)
    ∙ ap (λ (p : ℕ). record { uid = x.uid; s = x.s; port = p }) (port_value x.port can.host.port_most)

pub host_good : (s : ScriptOf) (name : List ℕ) (x : HostOn) → AreNames s.switch_names (length s.wires.switches) → CanAddHost s name x → host_cause s name (hex_text 12 x.uid) (get_or s.switch_names x.s []) (decimal x.port) ≡ None
unfolding host_cause
host_good s name x are can =
    let low : x.s < length s.switch_names = omega (arith, can.host.switch, are.counted) in
    let here : is_used s.wires (place s.switch_names (get_or s.switch_names x.s [])) (number_value (decimal x.port)) ≡ false =
    ap (λ (y : ℕ). is_used s.wires y (number_value (decimal x.port))) (place_is s.switch_names x.s are.apart low)
    ∙ ap (λ (p : ℕ). is_used s.wires x.s p) (port_value x.port can.host.port_most)
    ∙ unused s.wires x.s x.port can.free in
    first_good (new_name_cause s name) _ (new_name_good s name can.new_name)
    (first_good (new_uid_cause s (hex_text 12 x.uid)) _ (new_uid_good s x.uid can.host.uid can.uid_new)
    (first_good (known_cause s.switch_names (get_or s.switch_names x.s [])) _ (known_good s.switch_names x.s are.are_names are.apart low)
    (first_good (port_cause (decimal x.port)) _ (port_good x.port can.host.port_least can.host.port_most)
    (first_good _ _ (unless_good (not (is_used s.wires (place s.switch_names (get_or s.switch_names x.s [])) (number_value (decimal x.port)))) PortUsed (not_from_false _ here))
    (first_good _ None (unless_good (ltb (length s.wires.hosts) 1000) TooMany (lt_test (length s.wires.hosts) 1000 can.room)) refl)))))

-- commands
time_good : (s : ScriptOf) (t : ℕ) → t ≤ 1000000 → last_time s.commands ≤ t → time_cause s (decimal t) ≡ None
time_good s t most later =
    let low : t < 2 ^ 64 = omega arith in
    first_good (number_cause 0 1000000 (decimal t)) _ (number_good 0 1000000 t low (omega arith) most)
    (first_good _ None (unless_good (leb (last_time s.commands) (number_value (decimal t))) TimesFall (le_test (last_time s.commands) (number_value (decimal t)) t (decimal_value t low) later)) refl)

-- a port of a switch by its words
at_port : (s : ScriptOf) (x p : ℕ) → AreNames s.switch_names (length s.wires.switches) → IsPort s.wires x p → (P : ℕ → ℕ → Bool) → P (place s.switch_names (get_or s.switch_names x [])) (number_value (decimal p)) ≡ P x p
at_port s x p are port P =
    let low : x < length s.switch_names = omega (arith, port.switch, are.counted) in
    ap (λ (y : ℕ). P y (number_value (decimal p))) (place_is s.switch_names x are.apart low) ∙ ap (λ (q : ℕ). P x q) (port_value p port.port_most)

pub link_change_good : (s : ScriptOf) (t x p : ℕ) → AreNames s.switch_names (length s.wires.switches) → t ≤ 1000000 → last_time s.commands ≤ t → IsUsedPort s.wires x p → length s.commands < 10000 → link_change_cause s (decimal t) (get_or s.switch_names x []) (decimal p) ≡ None
unfolding link_change_cause
link_change_good s t x p are most later used room =
    let low : x < length s.switch_names = omega (arith, used.port.switch, are.counted) in
    first_good (time_cause s (decimal t)) _ (time_good s t most later)
    (first_good (known_cause s.switch_names (get_or s.switch_names x [])) _ (known_good s.switch_names x are.are_names are.apart low)
    (first_good (port_cause (decimal p)) _ (port_good p used.port.port_least used.port.port_most)
    (first_good _ _ (unless_good (is_used s.wires (place s.switch_names (get_or s.switch_names x [])) (number_value (decimal p))) NoLink (at_port s x p are used.port (is_used s.wires) ∙ used.used))
    (first_good (commands_cause s) None (commands_good s room) refl))))

pub wire_change_good : (s : ScriptOf) (k : WireChange) (t x p n : ℕ) → AreNames s.switch_names (length s.wires.switches) → t ≤ 1000000 → last_time s.commands ≤ t → IsWireChange s.wires x p n (most_count k) → n < 2 ^ 64 → length s.commands < 10000 → wire_change_cause s k (decimal t) (get_or s.switch_names x []) (decimal p) (decimal n) ≡ None
unfolding wire_change_cause
wire_change_good s k t x p n are most later change small room =
    let low : x < length s.switch_names = omega (arith, change.port.switch, are.counted) in
    first_good (time_cause s (decimal t)) _ (time_good s t most later)
    (first_good (known_cause s.switch_names (get_or s.switch_names x [])) _ (known_good s.switch_names x are.are_names are.apart low)
    (first_good (port_cause (decimal p)) _ (port_good p change.port.port_least change.port.port_most)
    (first_good (number_cause 1 (most_count k) (decimal n)) _ (number_good 1 (most_count k) n small change.count_least change.count_most)
    (first_good _ _ (unless_good (is_linked s.wires (place s.switch_names (get_or s.switch_names x [])) (number_value (decimal p))) NoLink (at_port s x p are change.port (is_linked s.wires) ∙ change.linked))
    (first_good (commands_cause s) None (commands_good s room) refl)))))

pub send_good : (s : ScriptOf) (t h g : ℕ) → AreNames s.names_of_hosts (length s.wires.hosts) → t ≤ 1000000 → last_time s.commands ≤ t → h < length s.wires.hosts → g < length s.wires.hosts → length s.commands < 10000 → send_cause s (decimal t) (get_or s.names_of_hosts h []) (get_or s.names_of_hosts g []) ≡ None
unfolding send_cause
send_good s t h g are most later from to room =
    let low : h < length s.names_of_hosts = omega (arith, are.counted) in
    let low' : g < length s.names_of_hosts = omega (arith, are.counted) in
    first_good (time_cause s (decimal t)) _ (time_good s t most later)
    (first_good (known_cause s.names_of_hosts (get_or s.names_of_hosts h [])) _ (known_good s.names_of_hosts h are.are_names are.apart low)
    (first_good (known_cause s.names_of_hosts (get_or s.names_of_hosts g [])) _ (known_good s.names_of_hosts g are.are_names are.apart low')
    (first_good (commands_cause s) None (commands_good s room) refl)))

pub restart_good : (s : ScriptOf) (t x : ℕ) → AreNames s.switch_names (length s.wires.switches) → t ≤ 1000000 → last_time s.commands ≤ t → x < length s.wires.switches → lives_of s < 126 → length s.commands < 10000 → restart_cause s (decimal t) (get_or s.switch_names x []) ≡ None
unfolding restart_cause
restart_good s t x are most later switch lives room =
    let low : x < length s.switch_names = omega (arith, are.counted) in
    first_good (time_cause s (decimal t)) _ (time_good s t most later)
    (first_good (known_cause s.switch_names (get_or s.switch_names x [])) _ (known_good s.switch_names x are.are_names are.apart low)
    (first_good (lives_cause s) _ (lives_good s lives)
    (first_good (commands_cause s) None (commands_good s room) refl)))

-- the events that the words say
pub link_event_is : (s : ScriptOf) (k : LinkChange) (t x p : ℕ) → AreNames s.switch_names (length s.wires.switches) → t ≤ 1000000 → IsPort s.wires x p → link_command s k (decimal t) (get_or s.switch_names x []) (decimal p) ≡ record { time = t; event = link_event k x p }
link_event_is s k t x p are most port =
    let low : x < length s.switch_names = omega (arith, port.switch, are.counted) in
    ap (λ (u : ℕ). record { time = u; event = link_event k (place s.switch_names (get_or s.switch_names x [])) (number_value (decimal p)) }) (decimal_value t (omega arith))
    ∙ ap (λ (y : ℕ). record { time = t; event = link_event k y (number_value (decimal p)) }) (place_is s.switch_names x are.apart low)
    ∙ ap (λ (q : ℕ). record { time = t; event = link_event k x q }) (port_value p port.port_most)

pub wire_event_is : (s : ScriptOf) (k : WireChange) (t x p n : ℕ) → AreNames s.switch_names (length s.wires.switches) → t ≤ 1000000 → IsPort s.wires x p → n < 2 ^ 64 → wire_command s k (decimal t) (get_or s.switch_names x []) (decimal p) (decimal n) ≡ record { time = t; event = wire_event k x p n }
wire_event_is s k t x p n are most port small =
    let low : x < length s.switch_names = omega (arith, port.switch, are.counted) in
    ap (λ (u : ℕ). record { time = u; event = wire_event k (place s.switch_names (get_or s.switch_names x [])) (number_value (decimal p)) (number_value (decimal n)) }) (decimal_value t (omega arith))
    ∙ ap (λ (y : ℕ). record { time = t; event = wire_event k y (number_value (decimal p)) (number_value (decimal n)) }) (place_is s.switch_names x are.apart low)
    ∙ ap (λ (q : ℕ). record { time = t; event = wire_event k x q (number_value (decimal n)) }) (port_value p port.port_most)
    ∙ ap (λ (m : ℕ). record { time = t; event = wire_event k x p m }) (decimal_value n small)

pub send_event_is : (s : ScriptOf) (t h g : ℕ) → AreNames s.names_of_hosts (length s.wires.hosts) → t ≤ 1000000 → h < length s.wires.hosts → g < length s.wires.hosts → send_command s (decimal t) (get_or s.names_of_hosts h []) (get_or s.names_of_hosts g []) ≡ record { time = t; event = Send h g }
send_event_is s t h g are most from to =
    let low : h < length s.names_of_hosts = omega (arith, are.counted) in
    let low' : g < length s.names_of_hosts = omega (arith, are.counted) in
    ap (λ (u : ℕ). record { time = u; event = Send (place s.names_of_hosts (get_or s.names_of_hosts h [])) (place s.names_of_hosts (get_or s.names_of_hosts g [])) }) (decimal_value t (omega arith))
    ∙ ap (λ (y : ℕ). record { time = t; event = Send y (place s.names_of_hosts (get_or s.names_of_hosts g [])) }) (place_is s.names_of_hosts h are.apart low)
    ∙ ap (λ (y : ℕ). record { time = t; event = Send h y }) (place_is s.names_of_hosts g are.apart low')

pub restart_event_is : (s : ScriptOf) (t x : ℕ) → AreNames s.switch_names (length s.wires.switches) → t ≤ 1000000 → x < length s.wires.switches → restart_command s (decimal t) (get_or s.switch_names x []) ≡ record { time = t; event = Restart x }
restart_event_is s t x are most switch =
    let low : x < length s.switch_names = omega (arith, are.counted) in
    ap (λ (u : ℕ). record { time = u; event = Restart (place s.switch_names (get_or s.switch_names x [])) }) (decimal_value t (omega arith))
    ∙ ap (λ (y : ℕ). record { time = t; event = Restart y }) (place_is s.switch_names x are.apart low)
