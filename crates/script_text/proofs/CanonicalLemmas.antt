use Rattle.std.proofs.Common.{◌≡◌, ◌≢◌, ◌∙◌, sym, ap, refl, subst, ℕ, ◌+◌, ◌-◌, ◌<◌, ◌≤◌, ◌^◌, List, [], ◌∷◌, ◌++◌, append_assoc, append-nil, length, length-append, get_or, map, Option, Some, None, Bool, true, false, eqb, cond, All, AllPairs, Contains, arith, codes, not}
use Rattle.std.specs.List.{zip, flat_map}
use Rattle.std.specs.List.Sorted.{IsNonDecreasingBy}
use Rattle.std.specs.Fmt.{decimal}
use Rattle.std.proofs.lemmas.Bool.Decides.{nat_tests}
use Rattle.std.proofs.lemmas.Grind.{flat_map-append}
use Rattle.std.proofs.lemmas.List.{map-append, get_or_append_left, get_or_at}
use Rattle.std.proofs.lemmas.List.Sums.{sum_by-append}
use Rattle.std.proofs.lemmas.List.Elements.{All-get_or, Contains-append_left, Contains-push, All-cons}
use Rattle.an_base.specs.declared.event.Event.{Event}
use Rattle.an_base.specs.declared.event.Event.TheVariants.{Tick, Clock, Take, Handle, Load, Fail, Repair, Lose, Again, Swap, Noise, Send, Move, Restart}
use Rattle.net_graph.specs.declared.wiring.SwitchAt.{SwitchAt}
use Rattle.net_graph.specs.declared.wiring.LinkAt.{LinkAt}
use Rattle.net_graph.specs.declared.wiring.HostOn.{HostOn}
use Rattle.net_graph.specs.Wires.{IsSwitch, IsLink, IsHost, uids, used_ports, link_ends, a_end, b_end, host_end}
use Rattle.common_values.proofs.PairLemmas.{AllPairs-front}
use Rattle.net_script.specs.declared.command.Command.{Command}
use Rattle.net_script.specs.declared.command.LinkChange.{LinkChange}
use Rattle.net_script.specs.declared.command.WireChange.{WireChange}
use Rattle.net_script.specs.declared.command.LinkChange.TheVariants as link
use Rattle.net_script.specs.declared.command.WireChange.TheVariants as wire
use Rattle.net_script.specs.declared.cause.ScriptCause.TheVariants.{NameTwice, LineTooLong, NotAscii}
use Rattle.net_script.specs.declared.draft.Draft.{Draft}
use Rattle.net_script.specs.declared.draft.Part.TheVariants.{Items, After}
use Rattle.net_script.specs.declared.setting.TheConstants.{DEFAULT_TICKS, DEFAULT_EVENTS, DEFAULT_BLOCKS}
use Rattle.net_script.specs.declared.setting.Setting.{Setting}
use Rattle.net_script.specs.declared.setting.Setting.TheVariants.{Ticks, Events, Blocks, Epoch, Pace}
use Rattle.net_script.specs.declared.setting.Came.{Came}
use Rattle.common_lines.specs.Words.{hex_text, number_value}
use Rattle.net_names.specs.Words.{IsName}
use Rattle.net_script.specs.Settings.{least_of, most_of, has_come, with_come, none_came, setting_words}
use Rattle.net_script.specs.Commands.{IsCommand, IsUsedPort, IsWireChange, is_restart, last_time, link_word, link_event, wire_word, wire_event, most_count}
use Rattle.net_script.specs.Scripts.{ScriptOf, IsScript, IsPace, CanAddSwitch, CanAddLink, CanAddHost, names_of, restarts_of, empty_script, with_switch, with_link, with_host, with_command, with_setting}
use Rattle.net_script.specs.Forms.{Form, form_words, had_words, header_words, Number, AnyRoutes, ChangesLink, ChangesWire, Sends, Restarts, End}
use Rattle.net_script.specs.Drafts.{start}
use Rattle.net_script.specs.Rules.{with_form, setting_cause, switch_of, switch_cause, link_of, link_cause, host_of, host_cause, link_change_cause, wire_change_cause, send_cause, restart_cause, link_command, wire_command, send_command, restart_command}
use Rattle.net_script.specs.Texts.{Adds, Leads, IsText}
use Rattle.net_script.proofs.TextLemmas.{AddsRow}
use Rattle.script_text.specs.Canonical.{setting_form, pace_form, routes_form, setting_forms, had_word, switch_form, link_form, host_form, command_form, event_form, forms_of, canonical_text}
use Rattle.script_text.proofs.ChainLemmas.{apart_back}
use Rattle.common_lines.proofs.SpellLemmas.{IsWord, decimal_word, decimal_value, line_good, line_words, lines_of-text}
use Rattle.net_names.proofs.WordLemmas.{name_word, uid_word}
use Rattle.script_text.proofs.GoodLemmas.{AreNames, number_good, switch_good, switch_is, link_good, link_is, host_good, host_is, link_change_good, wire_change_good, send_good, restart_good, link_event_is, wire_event_is, send_event_is, restart_event_is}
use Rattle.common_lines.proofs.FaultLemmas.{unless_good, first_good}
use Rattle.net_script.proofs.ScriptLemmas.{last_time_is, restarts_push}
use Rattle.script_text.proofs.ChainLemmas.{Chain, Chain-append, Chain-leads, Chain-words, Reaches, Reaches-all, IsStep, apart_before, line_of}
use Rattle.common_lines.proofs.SpellLemmas.{fixed_word, words_cons, words_nil}

-- what holds of all holds of one among them
all_here : {X : Type 0} (P : X → Type 0) (xs ys : List X) (x : X) → All P (xs ++ x ∷ ys) → P x
all_here P xs ys x all = subst P (get_or_at xs x ys x (length xs) refl) (all (length xs) x (omega (arith, length-append xs (x ∷ ys))))

-- the parts of pairs
abbrev firsts : {X : Type 0} → List (List ℕ × X) → List (List ℕ)
firsts {X} ps = map {A = List ℕ × X} (λ p. p.0) ps

abbrev seconds : {X : Type 0} → List (List ℕ × X) → List X
seconds {X} ps = map {A = List ℕ × X} (λ p. p.1) ps

firsts-zip : {X : Type 0} (ns : List (List ℕ)) (xs : List X) → length ns ≡ length xs → firsts (zip ns xs) ≡ ns
firsts-zip [] [] same = refl
firsts-zip [] (x ∷ xs) same = absurd (omega arith)
firsts-zip (n ∷ ns) [] same = absurd (omega arith)
firsts-zip (n ∷ ns) (x ∷ xs) same = ap (λ (ms : List (List ℕ)). n ∷ ms) (firsts-zip ns xs (omega arith))

seconds-zip : {X : Type 0} (ns : List (List ℕ)) (xs : List X) → length ns ≡ length xs → seconds (zip ns xs) ≡ xs
seconds-zip [] [] same = refl
seconds-zip [] (x ∷ xs) same = absurd (omega arith)
seconds-zip (n ∷ ns) [] same = absurd (omega arith)
seconds-zip {X} (n ∷ ns) (x ∷ xs) same = ap (λ (ys : List X). x ∷ ys) (seconds-zip ns xs (omega arith))

-- the parts of pairs round one of them
firsts_at : {X : Type 0} (ps qs : List (List ℕ × X)) (n : List ℕ) (x : X) (ns : List (List ℕ)) (xs : List X) → length ns ≡ length xs → ps ++ (n, x) ∷ qs ≡ zip ns xs → firsts ps ++ n ∷ firsts qs ≡ ns
firsts_at {X} ps qs n x ns xs same parts = sym (map-append {A = List ℕ × X} (λ p. p.0) ps ((n, x) ∷ qs)) ∙ ap (λ (l : List (List ℕ × X)). firsts l) parts ∙ firsts-zip ns xs same

seconds_at : {X : Type 0} (ps qs : List (List ℕ × X)) (n : List ℕ) (x : X) (ns : List (List ℕ)) (xs : List X) → length ns ≡ length xs → ps ++ (n, x) ∷ qs ≡ zip ns xs → seconds ps ++ x ∷ seconds qs ≡ xs
seconds_at {X} ps qs n x ns xs same parts = sym (map-append {A = List ℕ × X} (λ p. p.1) ps ((n, x) ∷ qs)) ∙ ap (λ (l : List (List ℕ × X)). seconds l) parts ∙ seconds-zip ns xs same

-- an element is none of those before it, where nothing follows these
apart_alone : {X : Type 0} (xs ys : List X) (x : X) → AllPairs (λ a b. a ≢ b) (xs ++ x ∷ ys) → ¬ Contains (xs ++ []) x
apart_alone {X} xs ys x apart has = apart_before xs ys x apart (subst (λ (l : List X). Contains l x) (append-nil xs) has)

-- no commands have no restarts
restarts_none : restarts_of [] ≡ 0
unfolding restarts_of
restarts_none = refl

-- SWITCHES

-- the settings and so many switches of a script
abbrev with_switches : ScriptOf → List (List ℕ × SwitchAt) → ScriptOf
with_switches s ps = record s { wires = record { switches = seconds ps; links = []; hosts = [] }; switch_names = firsts ps; names_of_hosts = []; commands = [] }

can_switch : (s : ScriptOf) (ps qs : List (List ℕ × SwitchAt)) (n : List ℕ) (x : SwitchAt) → IsScript s → ps ++ (n, x) ∷ qs ≡ zip s.switch_names s.wires.switches → CanAddSwitch (with_switches s ps) n x
can_switch s ps qs n x kept parts =
    let names = firsts_at ps qs n x s.switch_names s.wires.switches kept.switch_count parts in
    let switches = seconds_at ps qs n x s.switch_names s.wires.switches kept.switch_count parts in
    let apart : AllPairs (λ a b. a ≢ b) (firsts ps ++ n ∷ firsts qs) = subst (λ (ns : List (List ℕ)). AllPairs (λ a b. a ≢ b) ns) (sym names) (AllPairs-front (λ a b. a ≢ b) s.switch_names s.names_of_hosts kept.names_apart) in
    let uids_apart : AllPairs (λ a b. a ≢ b) (map (λ y. y.uid) s.wires.switches) = AllPairs-front (λ a b. a ≢ b) (map (λ y. y.uid) s.wires.switches) (map (λ h. h.uid) s.wires.hosts) kept.wired.uids_apart in
    let uids_are : map (λ y. y.uid) s.wires.switches ≡ map (λ y. y.uid) (seconds ps) ++ x.uid ∷ map (λ y. y.uid) (seconds qs) = ap (map {A = SwitchAt} (λ y. y.uid)) (sym switches) ∙ map-append {A = SwitchAt} (λ y. y.uid) (seconds ps) (x ∷ seconds qs) in
    record {
      new_name = record {
        is_name = all_here IsName (firsts ps) (firsts qs) n (subst (All IsName) (sym names) kept.switch_names);
        is_new = apart_alone (firsts ps) (firsts qs) n apart;
      };
      switch = all_here IsSwitch (seconds ps) (seconds qs) x (subst (All IsSwitch) (sym switches) kept.wired.switches);
      uid_new = apart_alone (map (λ y. y.uid) (seconds ps)) (map (λ y. y.uid) (seconds qs)) x.uid (subst (λ (us : List ℕ). AllPairs (λ a b. a ≢ b) us) uids_are uids_apart);
      room = let count = kept.wired.count in omega (arith, restarts_none, ap length switches, length-append (seconds ps) (x ∷ seconds qs));
    }

-- `had N` is printed words
had_fit : (n : ℕ) → n ≤ 126 → All IsWord (had_words (had_word n)) × (length (had_words (had_word n)) ≤ 2)
had_fit n most = go (eqb n 1)
  where
    go : (b : Bool) → All IsWord (had_words (cond b None (Some (decimal n)))) × (length (had_words (cond b None (Some (decimal n)))) ≤ 2)
    go true = (words_nil, omega arith)
    go false = (words_cons (codes "had") (decimal n ∷ []) (fixed_word (codes "had") refl (omega arith) (omega arith)) (words_cons (decimal n) [] (decimal_word n (omega arith)) words_nil), omega arith)

switch_step : (s : ScriptOf) → IsScript s → (ps : List (List ℕ × SwitchAt)) (p : List ℕ × SwitchAt) (qs : List (List ℕ × SwitchAt)) → ps ++ p ∷ qs ≡ zip s.switch_names s.wires.switches → (d : Draft) → d.script ≡ with_switches s ps → d.part ≡ Items → IsStep d (switch_form p) (with_switches s (ps ++ p ∷ []))
switch_step s kept ps (n, x) qs parts d script part =
    let can = can_switch s ps qs n x kept parts in
    let had = had_fit x.had can.switch.had_most in
    record {
      good = record {
        words = words_cons (codes "switch") (n ∷ hex_text 12 x.uid ∷ had_words (had_word x.had)) (fixed_word (codes "switch") refl (omega arith) (omega arith)) (words_cons n (hex_text 12 x.uid ∷ had_words (had_word x.had)) (name_word n can.new_name.is_name) (words_cons (hex_text 12 x.uid) (had_words (had_word x.had)) (uid_word x.uid) had.0));
        some = omega arith;
        few = omega (arith, had.1);
        part = part;
        good = ap (λ (t : ScriptOf). switch_cause t n (hex_text 12 x.uid) (had_word x.had)) script ∙ switch_good (with_switches s ps) n x can;
      };
      script =
          ap (λ (t : ScriptOf). with_switch t n (switch_of (hex_text 12 x.uid) (had_word x.had))) script
          ∙ ap (λ (y : SwitchAt). with_switch (with_switches s ps) n y) (switch_is x can.switch.uid can.switch.had_least can.switch.had_most)
          ∙ ap (λ (ys : List SwitchAt). record s { wires = record { switches = ys; links = []; hosts = [] }; switch_names = firsts ps ++ n ∷ []; names_of_hosts = []; commands = [] }) (sym (map-append {A = List ℕ × SwitchAt} (λ p. p.1) ps ((n, x) ∷ [])))
          ∙ ap (λ (ns : List (List ℕ)). record s { wires = record { switches = seconds (ps ++ (n, x) ∷ []); links = []; hosts = [] }; switch_names = ns; names_of_hosts = []; commands = [] }) (sym (map-append {A = List ℕ × SwitchAt} (λ p. p.0) ps ((n, x) ∷ [])));
      part = part;
    }

-- LINKS

-- the settings, the switches and so many links of a script
abbrev with_links : ScriptOf → List LinkAt → ScriptOf
with_links s ls = record s { wires = record { switches = s.wires.switches; links = ls; hosts = [] }; names_of_hosts = []; commands = [] }

switch_names_are : (s : ScriptOf) → IsScript s → AreNames s.switch_names (length s.wires.switches)
switch_names_are s kept = record { are_names = kept.switch_names; apart = AllPairs-front (λ a b. a ≢ b) s.switch_names s.names_of_hosts kept.names_apart; counted = kept.switch_count }

can_link : (s : ScriptOf) (ls ms : List LinkAt) (l : LinkAt) → IsScript s → ls ++ l ∷ ms ≡ s.wires.links → CanAddLink (with_links s ls) l
can_link s ls ms l kept parts =
    let ports = flat_map link_ends ls in
    let more = flat_map link_ends ms ++ map host_end s.wires.hosts in
    let ports_are : used_ports s.wires ≡ ports ++ (a_end l ∷ b_end l ∷ more) =
    ap (λ (xs : List LinkAt). flat_map link_ends xs ++ map host_end s.wires.hosts) (sym parts)
    ∙ ap (λ (ps : List (ℕ × ℕ)). ps ++ map host_end s.wires.hosts) (flat_map-append link_ends ls (l ∷ ms))
    ∙ append_assoc ports (a_end l ∷ b_end l ∷ flat_map link_ends ms) (map host_end s.wires.hosts) in
    let apart : AllPairs (λ a b. a ≢ b) (ports ++ (a_end l ∷ b_end l ∷ more)) = subst (λ (ps : List (ℕ × ℕ)). AllPairs (λ a b. a ≢ b) ps) ports_are kept.wired.ports_apart in
    let later : AllPairs (λ a b. a ≢ b) ((ports ++ a_end l ∷ []) ++ b_end l ∷ more) = subst (λ (ps : List (ℕ × ℕ)). AllPairs (λ a b. a ≢ b) ps) (sym (append_assoc ports (a_end l ∷ []) (b_end l ∷ more))) apart in
    let b_new = apart_before (ports ++ a_end l ∷ []) more (b_end l) later in
    record {
      link = all_here (IsLink (length s.wires.switches)) ls ms l (subst (All (IsLink (length s.wires.switches))) (sym parts) kept.wired.links);
      apart = λ same. b_new (subst (λ (e : ℕ × ℕ). Contains (ports ++ a_end l ∷ []) e) same (Contains-push ports (a_end l)));
      a_free = apart_alone ports (b_end l ∷ more) (a_end l) apart;
      b_free = λ has. b_new (Contains-append_left ports (a_end l ∷ []) (b_end l) (subst (λ (ps : List (ℕ × ℕ)). Contains ps (b_end l)) (append-nil ports) has));
    }

link_step : (s : ScriptOf) → IsScript s → (ls : List LinkAt) (l : LinkAt) (ms : List LinkAt) → ls ++ l ∷ ms ≡ s.wires.links → (d : Draft) → d.script ≡ with_links s ls → d.part ≡ Items → IsStep d (link_form s.switch_names l) (with_links s (ls ++ l ∷ []))
link_step s kept ls l ms parts d script part =
    let can = can_link s ls ms l kept parts in
    let are = switch_names_are s kept in
    let a = get_or s.switch_names l.a [] in
    let b = get_or s.switch_names l.b [] in
    let a_low : l.a < length s.switch_names = omega (arith, can.link.a_below, are.counted) in
    let b_low : l.b < length s.switch_names = omega (arith, can.link.b_below, are.counted) in
    record {
      good = record {
        words = words_cons (codes "link") (a ∷ decimal l.a_port ∷ b ∷ decimal l.b_port ∷ []) (fixed_word (codes "link") refl (omega arith) (omega arith))
            (words_cons a (decimal l.a_port ∷ b ∷ decimal l.b_port ∷ []) (name_word a (All-get_or IsName s.switch_names l.a [] a_low kept.switch_names))
            (words_cons (decimal l.a_port) (b ∷ decimal l.b_port ∷ []) (decimal_word l.a_port (let h = can.link.a_port_most in omega arith))
            (words_cons b (decimal l.b_port ∷ []) (name_word b (All-get_or IsName s.switch_names l.b [] b_low kept.switch_names))
            (words_cons (decimal l.b_port) [] (decimal_word l.b_port (let h = can.link.b_port_most in omega arith)) words_nil))));
        some = omega arith;
        few = omega arith;
        part = part;
        good = ap (λ (t : ScriptOf). link_cause t a (decimal l.a_port) b (decimal l.b_port)) script ∙ link_good (with_links s ls) l are can;
      };
      script =
          ap (λ (t : ScriptOf). with_link t (link_of t a (decimal l.a_port) b (decimal l.b_port))) script
          ∙ ap (λ (m : LinkAt). with_link (with_links s ls) m) (link_is (with_links s ls) l are can);
      part = part;
    }

-- HOSTS

-- the settings, the switches, the links and so many hosts of a script
abbrev with_hosts : ScriptOf → List (List ℕ × HostOn) → ScriptOf
with_hosts s ps = record s { wires = record s.wires { hosts = seconds ps }; names_of_hosts = firsts ps; commands = [] }

pub can_host : (s : ScriptOf) (ps qs : List (List ℕ × HostOn)) (n : List ℕ) (x : HostOn) → IsScript s → ps ++ (n, x) ∷ qs ≡ zip s.names_of_hosts s.wires.hosts → CanAddHost (with_hosts s ps) n x
can_host s ps qs n x kept parts =
    let names = firsts_at ps qs n x s.names_of_hosts s.wires.hosts kept.host_count parts in
    let hosts = seconds_at ps qs n x s.names_of_hosts s.wires.hosts kept.host_count parts in
    let names_are : names_of s ≡ (s.switch_names ++ firsts ps) ++ n ∷ firsts qs = ap (λ (ns : List (List ℕ)). s.switch_names ++ ns) (sym names) ∙ sym (append_assoc s.switch_names (firsts ps) (n ∷ firsts qs)) in
    let own_uids = map {A = SwitchAt} (λ y. y.uid) s.wires.switches in
    let uids_are : uids s.wires ≡ (own_uids ++ map (λ y. y.uid) (seconds ps)) ++ x.uid ∷ map (λ y. y.uid) (seconds qs) =
    ap (λ (us : List ℕ). own_uids ++ us) (ap (map {A = HostOn} (λ y. y.uid)) (sym hosts) ∙ map-append {A = HostOn} (λ y. y.uid) (seconds ps) (x ∷ seconds qs))
    ∙ sym (append_assoc own_uids (map (λ y. y.uid) (seconds ps)) (x.uid ∷ map (λ y. y.uid) (seconds qs))) in
    let links = flat_map link_ends s.wires.links in
    let ports_are : used_ports s.wires ≡ (links ++ map host_end (seconds ps)) ++ host_end x ∷ map host_end (seconds qs) =
    ap (λ (us : List (ℕ × ℕ)). links ++ us) (ap (map host_end) (sym hosts) ∙ map-append host_end (seconds ps) (x ∷ seconds qs))
    ∙ sym (append_assoc links (map host_end (seconds ps)) (host_end x ∷ map host_end (seconds qs))) in
    record {
      new_name = record {
        is_name = all_here IsName (firsts ps) (firsts qs) n (subst (All IsName) (sym names) kept.names_of_hosts);
        is_new = apart_before (s.switch_names ++ firsts ps) (firsts qs) n (subst (λ (ns : List (List ℕ)). AllPairs (λ a b. a ≢ b) ns) names_are kept.names_apart);
      };
      host = all_here (IsHost (length s.wires.switches)) (seconds ps) (seconds qs) x (subst (All (IsHost (length s.wires.switches))) (sym hosts) kept.wired.hosts);
      uid_new = apart_before (own_uids ++ map (λ y. y.uid) (seconds ps)) (map (λ y. y.uid) (seconds qs)) x.uid (subst (λ (us : List ℕ). AllPairs (λ a b. a ≢ b) us) uids_are kept.wired.uids_apart);
      free = apart_before (links ++ map host_end (seconds ps)) (map host_end (seconds qs)) (host_end x) (subst (λ (us : List (ℕ × ℕ)). AllPairs (λ a b. a ≢ b) us) ports_are kept.wired.ports_apart);
      room = let count = kept.wired.host_count in omega (arith, ap length hosts, length-append (seconds ps) (x ∷ seconds qs));
    }

host_step : (s : ScriptOf) → IsScript s → (ps : List (List ℕ × HostOn)) (p : List ℕ × HostOn) (qs : List (List ℕ × HostOn)) → ps ++ p ∷ qs ≡ zip s.names_of_hosts s.wires.hosts → (d : Draft) → d.script ≡ with_hosts s ps → d.part ≡ Items → IsStep d (host_form s.switch_names p) (with_hosts s (ps ++ p ∷ []))
host_step s kept ps (n, x) qs parts d script part =
    let can = can_host s ps qs n x kept parts in
    let are = switch_names_are s kept in
    let at = get_or s.switch_names x.s [] in
    let low : x.s < length s.switch_names = omega (arith, can.host.switch, are.counted) in
    record {
      good = record {
        words = words_cons (codes "host") (n ∷ hex_text 12 x.uid ∷ at ∷ decimal x.port ∷ []) (fixed_word (codes "host") refl (omega arith) (omega arith))
            (words_cons n (hex_text 12 x.uid ∷ at ∷ decimal x.port ∷ []) (name_word n can.new_name.is_name)
            (words_cons (hex_text 12 x.uid) (at ∷ decimal x.port ∷ []) (uid_word x.uid)
            (words_cons at (decimal x.port ∷ []) (name_word at (All-get_or IsName s.switch_names x.s [] low kept.switch_names))
            (words_cons (decimal x.port) [] (decimal_word x.port (let h = can.host.port_most in omega arith)) words_nil))));
        some = omega arith;
        few = omega arith;
        part = part;
        good = ap (λ (t : ScriptOf). host_cause t n (hex_text 12 x.uid) at (decimal x.port)) script ∙ host_good (with_hosts s ps) n x are can;
      };
      script =
          ap (λ (t : ScriptOf). with_host t n (host_of t (hex_text 12 x.uid) at (decimal x.port))) script
          ∙ ap (λ (y : HostOn). with_host (with_hosts s ps) n y) (host_is (with_hosts s ps) n x are can)
          ∙ ap (λ (ys : List HostOn). record s { wires = record s.wires { hosts = ys }; names_of_hosts = firsts ps ++ n ∷ []; commands = [] }) (sym (map-append {A = List ℕ × HostOn} (λ p. p.1) ps ((n, x) ∷ [])))
          ∙ ap (λ (ns : List (List ℕ)). record s { wires = record s.wires { hosts = seconds (ps ++ (n, x) ∷ []) }; names_of_hosts = ns; commands = [] }) (sym (map-append {A = List ℕ × HostOn} (λ p. p.0) ps ((n, x) ∷ [])));
      part = part;
    }

-- COMMANDS

-- all of a script but so many of its commands
abbrev with_commands : ScriptOf → List Command → ScriptOf
with_commands s cs = record s { commands = cs }

-- times do not fall
last_before : (cs ms : List Command) (c : Command) → IsNonDecreasingBy (λ (x : Command). x.time) (cs ++ c ∷ ms) → last_time cs ≤ c.time
last_before [] ms c times = omega arith
last_before (b ∷ bs) ms c times =
    let cs = b ∷ bs in
    let before : get_or (cs ++ c ∷ ms) (length cs - 1) c ≡ get_or cs (length cs - 1) c = get_or_append_left cs (c ∷ ms) c (length cs - 1) (omega arith) in
    let here : get_or (cs ++ c ∷ ms) (length cs) c ≡ c = get_or_at cs c ms c (length cs) refl in
    let le = times (length cs - 1) (length cs) c (omega arith) (omega (arith, length-append cs (c ∷ ms))) in
    let last = last_time_is cs c (omega arith) in
    omega (arith, le, last, ap (λ (x : Command). x.time) before, ap (λ (x : Command). x.time) here)

-- the restarts of two parts
restarts_parts : (cs ms : List Command) → restarts_of (cs ++ ms) ≡ restarts_of cs + restarts_of ms
unfolding restarts_of
restarts_parts cs ms = sum_by-append (λ (x : Command). cond {A = ℕ} (is_restart x.event) 1 0) cs ms

-- a restart among commands
restarts_at : (cs ms : List Command) (c : Command) → is_restart c.event ≡ true → restarts_of cs + 1 ≤ restarts_of (cs ++ c ∷ ms)
restarts_at cs ms c t =
    let front = restarts_push cs c in
    let sums = restarts_parts (cs ++ c ∷ []) ms in
    let parts : restarts_of ((cs ++ c ∷ []) ++ ms) ≡ restarts_of (cs ++ c ∷ ms) = ap restarts_of (append_assoc cs (c ∷ []) ms) in
    let one : ◌≡◌ {A = ℕ} (cond (is_restart c.event) 1 0) 1 = ap (λ (b : Bool). cond {A = ℕ} b 1 0) t in
    omega arith

-- what is known of a command of a script
record IsNext (s : ScriptOf) (cs : List Command) (c : Command) : Type 0 where
  command : IsCommand s.wires c
  later : last_time cs ≤ c.time
  room : length cs < 10000
  lives : is_restart c.event ≡ true → length s.wires.switches + restarts_of cs < 126

is_next : (s : ScriptOf) (cs ms : List Command) (c : Command) → IsScript s → cs ++ c ∷ ms ≡ s.commands → IsNext s cs c
is_next s cs ms c kept parts = record {
  command = all_here (IsCommand s.wires) cs ms c (subst (All (IsCommand s.wires)) (sym parts) kept.commands);
  later = last_before cs ms c (subst (IsNonDecreasingBy (λ (x : Command). x.time)) (sym parts) kept.times);
  room = let count = kept.command_count in omega (arith, ap length parts, length-append cs (c ∷ ms));
  lives = λ t. let more = restarts_at cs ms c t in let lives = kept.lives in omega (arith, ap restarts_of parts);
}

host_names_are : (s : ScriptOf) → IsScript s → AreNames s.names_of_hosts (length s.wires.hosts)
host_names_are s kept = record { are_names = kept.names_of_hosts; apart = apart_back s.switch_names s.names_of_hosts kept.names_apart; counted = kept.host_count }

-- the words of commands
at_word : IsWord (codes "at")
at_word = fixed_word (codes "at") refl (omega arith) (omega arith)

link_word_is : (k : LinkChange) → IsWord (link_word k)
link_word_is link.Fail = fixed_word (codes "fail") refl (omega arith) (omega arith)
link_word_is link.Repair = fixed_word (codes "repair") refl (omega arith) (omega arith)

wire_word_is : (k : WireChange) → IsWord (wire_word k)
wire_word_is wire.Lose = fixed_word (codes "lose") refl (omega arith) (omega arith)
wire_word_is wire.Again = fixed_word (codes "again") refl (omega arith) (omega arith)
wire_word_is wire.Swap = fixed_word (codes "swap") refl (omega arith) (omega arith)
wire_word_is wire.Noise = fixed_word (codes "noise") refl (omega arith) (omega arith)

port_word : (p : ℕ) → p ≤ 12 → IsWord (decimal p)
port_word p most = decimal_word p (omega arith)

time_word : (t : ℕ) → t ≤ 1000000 → IsWord (decimal t)
time_word t most = decimal_word t (omega arith)

switch_word : (s : ScriptOf) → IsScript s → (x : ℕ) → x < length s.wires.switches → IsWord (get_or s.switch_names x [])
switch_word s kept x low = name_word (get_or s.switch_names x []) (All-get_or IsName s.switch_names x [] (omega (arith, kept.switch_count)) kept.switch_names)

host_word : (s : ScriptOf) → IsScript s → (h : ℕ) → h < length s.wires.hosts → IsWord (get_or s.names_of_hosts h [])
host_word s kept h low = name_word (get_or s.names_of_hosts h []) (All-get_or IsName s.names_of_hosts h [] (omega (arith, kept.host_count)) kept.names_of_hosts)

-- a change of a link
link_change_step : (s : ScriptOf) → IsScript s → (cs : List Command) (k : LinkChange) (t x p : ℕ) → t ≤ 1000000 → last_time cs ≤ t → IsUsedPort s.wires x p → length cs < 10000 → (d : Draft) → d.script ≡ with_commands s cs → d.part ≡ Items → IsStep d (ChangesLink k (decimal t) (get_or s.switch_names x []) (decimal p)) (with_command (with_commands s cs) (record { time = t; event = link_event k x p }))
link_change_step s kept cs k t x p most later used room d script part =
    let are = switch_names_are s kept in
    let n = get_or s.switch_names x [] in
    record {
      good = record {
        words = words_cons (codes "at") (decimal t ∷ link_word k ∷ n ∷ decimal p ∷ []) at_word (words_cons (decimal t) (link_word k ∷ n ∷ decimal p ∷ []) (time_word t most) (words_cons (link_word k) (n ∷ decimal p ∷ []) (link_word_is k) (words_cons n (decimal p ∷ []) (switch_word s kept x used.port.switch) (words_cons (decimal p) [] (port_word p used.port.port_most) words_nil))));
        some = omega arith;
        few = omega arith;
        part = part;
        good = ap (λ (u : ScriptOf). link_change_cause u (decimal t) n (decimal p)) script ∙ link_change_good (with_commands s cs) t x p are most later used room;
      };
      script =
          ap (λ (u : ScriptOf). with_command u (link_command u k (decimal t) n (decimal p))) script
          ∙ ap (λ (c : Command). with_command (with_commands s cs) c) (link_event_is (with_commands s cs) k t x p are most used.port);
      part = part;
    }

-- a change of a wire
wire_change_step : (s : ScriptOf) → IsScript s → (cs : List Command) (k : WireChange) (t x p n : ℕ) → t ≤ 1000000 → last_time cs ≤ t → IsWireChange s.wires x p n (most_count k) → most_count k ≤ 1000000 → length cs < 10000 → (d : Draft) → d.script ≡ with_commands s cs → d.part ≡ Items → IsStep d (ChangesWire k (decimal t) (get_or s.switch_names x []) (decimal p) (decimal n)) (with_command (with_commands s cs) (record { time = t; event = wire_event k x p n }))
wire_change_step s kept cs k t x p n most later change fits room d script part =
    let are = switch_names_are s kept in
    let name = get_or s.switch_names x [] in
    let small : n < 2 ^ 64 = (let h = change.count_most in omega arith) in
    record {
      good = record {
        words = words_cons (codes "at") (decimal t ∷ wire_word k ∷ name ∷ decimal p ∷ decimal n ∷ []) at_word (words_cons (decimal t) (wire_word k ∷ name ∷ decimal p ∷ decimal n ∷ []) (time_word t most) (words_cons (wire_word k) (name ∷ decimal p ∷ decimal n ∷ []) (wire_word_is k) (words_cons name (decimal p ∷ decimal n ∷ []) (switch_word s kept x change.port.switch) (words_cons (decimal p) (decimal n ∷ []) (port_word p change.port.port_most) (words_cons (decimal n) [] (decimal_word n small) words_nil)))));
        some = omega arith;
        few = omega arith;
        part = part;
        good = ap (λ (u : ScriptOf). wire_change_cause u k (decimal t) name (decimal p) (decimal n)) script ∙ wire_change_good (with_commands s cs) k t x p n are most later change small room;
      };
      script =
          ap (λ (u : ScriptOf). with_command u (wire_command u k (decimal t) name (decimal p) (decimal n))) script
          ∙ ap (λ (c : Command). with_command (with_commands s cs) c) (wire_event_is (with_commands s cs) k t x p n are most change.port small);
      part = part;
    }

-- a packet
send_step : (s : ScriptOf) → IsScript s → (cs : List Command) (t h g : ℕ) → t ≤ 1000000 → last_time cs ≤ t → h < length s.wires.hosts → g < length s.wires.hosts → length cs < 10000 → (d : Draft) → d.script ≡ with_commands s cs → d.part ≡ Items → IsStep d (Sends (decimal t) (get_or s.names_of_hosts h []) (get_or s.names_of_hosts g [])) (with_command (with_commands s cs) (record { time = t; event = Send h g }))
send_step s kept cs t h g most later from to room d script part =
    let are = host_names_are s kept in
    let a = get_or s.names_of_hosts h [] in
    let b = get_or s.names_of_hosts g [] in
    record {
      good = record {
        words = words_cons (codes "at") (decimal t ∷ codes "send" ∷ a ∷ b ∷ []) at_word (words_cons (decimal t) (codes "send" ∷ a ∷ b ∷ []) (time_word t most) (words_cons (codes "send") (a ∷ b ∷ []) (fixed_word (codes "send") refl (omega arith) (omega arith)) (words_cons a (b ∷ []) (host_word s kept h from) (words_cons b [] (host_word s kept g to) words_nil))));
        some = omega arith;
        few = omega arith;
        part = part;
        good = ap (λ (u : ScriptOf). send_cause u (decimal t) a b) script ∙ send_good (with_commands s cs) t h g are most later from to room;
      };
      script =
          ap (λ (u : ScriptOf). with_command u (send_command u (decimal t) a b)) script
          ∙ ap (λ (c : Command). with_command (with_commands s cs) c) (send_event_is (with_commands s cs) t h g are most from to);
      part = part;
    }

-- a restart
restart_step : (s : ScriptOf) → IsScript s → (cs : List Command) (t x : ℕ) → t ≤ 1000000 → last_time cs ≤ t → x < length s.wires.switches → length s.wires.switches + restarts_of cs < 126 → length cs < 10000 → (d : Draft) → d.script ≡ with_commands s cs → d.part ≡ Items → IsStep d (Restarts (decimal t) (get_or s.switch_names x [])) (with_command (with_commands s cs) (record { time = t; event = Restart x }))
restart_step s kept cs t x most later switch lives room d script part =
    let are = switch_names_are s kept in
    let n = get_or s.switch_names x [] in
    record {
      good = record {
        words = words_cons (codes "at") (decimal t ∷ codes "restart" ∷ n ∷ []) at_word (words_cons (decimal t) (codes "restart" ∷ n ∷ []) (time_word t most) (words_cons (codes "restart") (n ∷ []) (fixed_word (codes "restart") refl (omega arith) (omega arith)) (words_cons n [] (switch_word s kept x switch) words_nil)));
        some = omega arith;
        few = omega arith;
        part = part;
        good = ap (λ (u : ScriptOf). restart_cause u (decimal t) n) script ∙ restart_good (with_commands s cs) t x are most later switch lives room;
      };
      script =
          ap (λ (u : ScriptOf). with_command u (restart_command u (decimal t) n)) script
          ∙ ap (λ (c : Command). with_command (with_commands s cs) c) (restart_event_is (with_commands s cs) t x are most switch);
      part = part;
    }

-- each command
event_step : (s : ScriptOf) → IsScript s → (cs : List Command) (t : ℕ) (e : Event) → IsNext s cs (record { time = t; event = e }) → (d : Draft) → d.script ≡ with_commands s cs → d.part ≡ Items → IsStep d (event_form s.switch_names s.names_of_hosts (decimal t) e) (with_command (with_commands s cs) (record { time = t; event = e }))
event_step s kept cs t (Fail x p) next d script part = link_change_step s kept cs link.Fail t x p next.command.time next.later next.command.event next.room d script part
event_step s kept cs t (Repair x p) next d script part = link_change_step s kept cs link.Repair t x p next.command.time next.later next.command.event next.room d script part
event_step s kept cs t (Lose x p n) next d script part = wire_change_step s kept cs wire.Lose t x p n next.command.time next.later next.command.event (omega arith) next.room d script part
event_step s kept cs t (Again x p n) next d script part = wire_change_step s kept cs wire.Again t x p n next.command.time next.later next.command.event (omega arith) next.room d script part
event_step s kept cs t (Swap x p n) next d script part = wire_change_step s kept cs wire.Swap t x p n next.command.time next.later next.command.event (omega arith) next.room d script part
event_step s kept cs t (Noise x p n) next d script part = wire_change_step s kept cs wire.Noise t x p n next.command.time next.later next.command.event (omega arith) next.room d script part
event_step s kept cs t (Send h g) next d script part = send_step s kept cs t h g next.command.time next.later next.command.event.0 next.command.event.1 next.room d script part
event_step s kept cs t (Restart x) next d script part = restart_step s kept cs t x next.command.time next.later next.command.event (next.lives refl) next.room d script part
event_step s kept cs t Tick next d script part = absurd next.command.event
event_step s kept cs t (Clock x) next d script part = absurd next.command.event
event_step s kept cs t (Take x p) next d script part = absurd next.command.event
event_step s kept cs t (Handle x) next d script part = absurd next.command.event
event_step s kept cs t (Load x) next d script part = absurd next.command.event
event_step s kept cs t (Move k) next d script part = absurd next.command.event

command_step : (s : ScriptOf) → IsScript s → (cs : List Command) (c : Command) (ms : List Command) → cs ++ c ∷ ms ≡ s.commands → (d : Draft) → d.script ≡ with_commands s cs → d.part ≡ Items → IsStep d (command_form s c) (with_commands s (cs ++ c ∷ []))
command_step s kept cs c ms parts d script part = event_step s kept cs c.time c.event (is_next s cs ms c kept parts) d script part

-- SETTINGS

-- the line of one setting leaves the others
come_other : (c : Came) (k j : Setting) → j ≢ k → has_come (with_come c k) j ≡ has_come c j
come_other c Ticks Ticks other = absurd (other refl)
come_other c Events Events other = absurd (other refl)
come_other c Blocks Blocks other = absurd (other refl)
come_other c Epoch Epoch other = absurd (other refl)
come_other c Pace Pace other = absurd (other refl)
come_other c k j other = refl

routes_kept : (c : Came) (k : Setting) → (with_come c k).routes ≡ c.routes
routes_kept c Ticks = refl
routes_kept c Events = refl
routes_kept c Blocks = refl
routes_kept c Epoch = refl
routes_kept c Pace = refl

-- the lines of one setting lead from d to t
record IsSet (d : Draft) (fs : List Form) (t : ScriptOf) (k : Setting) : Type 0 where
  last : Draft
  chain : Chain d fs last
  script : last.script ≡ t
  part : last.part ≡ Items
  others : (j : Setting) → j ≢ k → has_come last.came j ≡ has_come d.came j
  routes : last.came.routes ≡ d.came.routes

setting_words_are : (k : Setting) (w : List ℕ) → IsWord w → All IsWord (setting_words k ++ w ∷ []) × (0 < length (setting_words k ++ w ∷ [])) × (length (setting_words k ++ w ∷ []) ≤ 6)
setting_words_are Ticks w is = (words_cons (codes "limit") (codes "ticks" ∷ w ∷ []) (fixed_word (codes "limit") refl (omega arith) (omega arith)) (words_cons (codes "ticks") (w ∷ []) (fixed_word (codes "ticks") refl (omega arith) (omega arith)) (words_cons w [] is words_nil)), omega arith, omega arith)
setting_words_are Events w is = (words_cons (codes "limit") (codes "events" ∷ w ∷ []) (fixed_word (codes "limit") refl (omega arith) (omega arith)) (words_cons (codes "events") (w ∷ []) (fixed_word (codes "events") refl (omega arith) (omega arith)) (words_cons w [] is words_nil)), omega arith, omega arith)
setting_words_are Blocks w is = (words_cons (codes "limit") (codes "blocks" ∷ w ∷ []) (fixed_word (codes "limit") refl (omega arith) (omega arith)) (words_cons (codes "blocks") (w ∷ []) (fixed_word (codes "blocks") refl (omega arith) (omega arith)) (words_cons w [] is words_nil)), omega arith, omega arith)
setting_words_are Epoch w is = (words_cons (codes "epoch") (w ∷ []) (fixed_word (codes "epoch") refl (omega arith) (omega arith)) (words_cons w [] is words_nil), omega arith, omega arith)
setting_words_are Pace w is = (words_cons (codes "pace") (w ∷ []) (fixed_word (codes "pace") refl (omega arith) (omega arith)) (words_cons w [] is words_nil), omega arith, omega arith)

setting_good : (came : Came) (k : Setting) (n : ℕ) → has_come came k ≡ false → least_of k ≤ n → n ≤ most_of k → n < 2 ^ 64 → setting_cause came k (decimal n) ≡ None
unfolding setting_cause
setting_good came k n new least most low =
    first_good _ _ (number_good (least_of k) (most_of k) n low least most)
    (first_good _ None (unless_good (not (has_come came k)) NameTwice (ap not new)) refl)

-- a setting that has a line
set_line : (d : Draft) (k : Setting) (n : ℕ) (t : ScriptOf) → d.part ≡ Items → d.script ≡ t → has_come d.came k ≡ false → least_of k ≤ n → n ≤ most_of k → n < 2 ^ 64 → IsSet d (Number k (decimal n) ∷ []) (with_setting t k n) k
set_line d k n t part script new least most low =
    let words = setting_words_are k (decimal n) (decimal_word n low) in
    record {
      last = with_form d (Number k (decimal n));
      chain = (record { words = words.0; some = words.1; few = words.2; part = part; good = setting_good d.came k n new least most low }, refl);
      script = ap (λ (u : ScriptOf). with_setting u k (number_value (decimal n))) script ∙ ap (with_setting t k) (decimal_value n low);
      part = part;
      others = λ j other. come_other d.came k j other;
      routes = routes_kept d.came k;
    }

-- and one that has a line where it is not the default
set_one : (d : Draft) (k : Setting) (n default : ℕ) (t : ScriptOf) → d.part ≡ Items → d.script ≡ t → has_come d.came k ≡ false → least_of k ≤ n → n ≤ most_of k → n < 2 ^ 64 → with_setting t k default ≡ t → IsSet d (setting_form k n default) (with_setting t k n) k
set_one d k n default t part script new least most low same = go (eqb n default) refl
  where
    go : (b : Bool) → eqb n default ≡ b → IsSet d (cond b [] (Number k (decimal n) ∷ [])) (with_setting t k n) k
    go true e = let is : n ≡ default = grind (arith, nat_tests) in record { last = d; chain = refl; script = script ∙ sym (ap (with_setting t k) is ∙ same); part = part; others = λ j other. refl; routes = refl }
    go false e = set_line d k n t part script new least most low

-- the pace
set_pace : (d : Draft) (pace : Option ℕ) (t : ScriptOf) → d.part ≡ Items → d.script ≡ t → has_come d.came Pace ≡ false → IsPace pace → t.pace ≡ None → IsSet d (pace_form pace) (record t { pace = pace }) Pace
set_pace d None t part script new is none = record { last = d; chain = refl; script = script ∙ ap (λ (p : Option ℕ). record t { pace = p }) none; part = part; others = λ j other. refl; routes = refl }
set_pace d (Some n) t part script new is none = set_line d Pace n t part script new is.0 is.1 (let h = is.1 in omega arith)

-- the routes
set_routes : (d : Draft) (any : Bool) (t : ScriptOf) → d.part ≡ Items → d.script ≡ t → d.came.routes ≡ false → t.any_routes ≡ false → Reaches d (routes_form any) (record t { any_routes = any })
set_routes d false t part script new none = record { last = d; chain = refl; script = script ∙ ap (λ (b : Bool). record t { any_routes = b }) none; part = part }
set_routes d true t part script new none = record {
  last = with_form d AnyRoutes;
  chain = (record { words = words_cons (codes "routes") (codes "any" ∷ []) (fixed_word (codes "routes") refl (omega arith) (omega arith)) (words_cons (codes "any") [] (fixed_word (codes "any") refl (omega arith) (omega arith)) words_nil); some = omega arith; few = omega arith; part = part; good = unless_good (not d.came.routes) NameTwice (ap not new) }, refl);
  script = ap (λ (u : ScriptOf). record u { any_routes = true }) script;
  part = part;
}

-- what stands after the first line
begun : Draft
begun = record { script = empty_script; came = none_came; part = Items }

-- the settings
settings_reached : (s : ScriptOf) → IsScript s → Reaches begun (setting_forms s) (with_switches s [])
unfolding begun
settings_reached s kept =
    let t1 = with_setting empty_script Ticks s.limits.ticks in
    let t2 = with_setting t1 Events s.limits.events in
    let t3 = with_setting t2 Blocks s.limits.blocks in
    let t4 = with_setting t3 Epoch s.epoch in
    let t5 : ScriptOf = record t4 { pace = s.pace } in
    let l = kept.limits in
    let e0 = kept.epoch in
    let s1 = set_one begun Ticks s.limits.ticks DEFAULT_TICKS empty_script refl refl refl (omega arith) l.ticks (let h = l.ticks in omega arith) refl in
    let s2 = set_one s1.last Events s.limits.events DEFAULT_EVENTS t1 s1.part s1.script (s1.others Events (λ e. absurd (cc))) l.events_least l.events_most (let h = l.events_most in omega arith) refl in
    let s3 = set_one s2.last Blocks s.limits.blocks DEFAULT_BLOCKS t2 s2.part s2.script (s2.others Blocks (λ e. absurd (cc)) ∙ s1.others Blocks (λ e. absurd (cc))) l.blocks_least l.blocks_most (let h = l.blocks_most in omega arith) refl in
    let s4 = set_one s3.last Epoch s.epoch 0 t3 s3.part s3.script (s3.others Epoch (λ e. absurd (cc)) ∙ s2.others Epoch (λ e. absurd (cc)) ∙ s1.others Epoch (λ e. absurd (cc))) (omega arith) (omega arith) e0 refl in
    let s5 = set_pace s4.last s.pace t4 s4.part s4.script (s4.others Pace (λ e. absurd (cc)) ∙ s3.others Pace (λ e. absurd (cc)) ∙ s2.others Pace (λ e. absurd (cc)) ∙ s1.others Pace (λ e. absurd (cc))) kept.pace refl in
    let s6 = set_routes s5.last s.any_routes t5 s5.part s5.script (s5.routes ∙ s4.routes ∙ s3.routes ∙ s2.routes ∙ s1.routes) refl in
    record {
      last = s6.last;
      chain = Chain-append begun _ s1.last _ s6.last s1.chain (Chain-append s1.last _ s2.last _ s6.last s2.chain (Chain-append s2.last _ s3.last _ s6.last s3.chain (Chain-append s3.last _ s4.last _ s6.last s4.chain (Chain-append s4.last _ s5.last _ s6.last s5.chain s6.chain))));
      script = s6.script;
      part = s6.part;
    }

-- THE WHOLE

-- lines that lead from d to the end of a script
record Finishes (d : Draft) (fs : List Form) (t : ScriptOf) : Type 0 where
  last : Draft
  chain : Chain d fs last
  script : last.script ≡ t
  part : last.part ≡ After

then_finishes : (d : Draft) (fs gs : List Form) (t u : ScriptOf) → Reaches d fs t → ((e : Draft) → e.script ≡ t → e.part ≡ Items → Finishes e gs u) → Finishes d (fs ++ gs) u
then_finishes d fs gs t u one two =
    let rest = two one.last one.script one.part in
    record { last = rest.last; chain = Chain-append d fs one.last gs rest.last one.chain rest.chain; script = rest.script; part = rest.part }

end_finishes : (d : Draft) (t : ScriptOf) → d.script ≡ t → d.part ≡ Items → Finishes d (End ∷ []) t
end_finishes d t script part = record {
  last = with_form d End;
  chain = (record { words = words_cons (codes "end") [] (fixed_word (codes "end") refl (omega arith) (omega arith)) words_nil; some = omega arith; few = omega arith; part = part; good = refl }, refl);
  script = script;
  part = refl;
}

-- all switches, and all hosts, of a script
all_switches : (s : ScriptOf) → IsScript s → with_switches s (zip s.switch_names s.wires.switches) ≡ with_links s []
all_switches s kept =
    ap (λ (ys : List SwitchAt). record s { wires = record { switches = ys; links = []; hosts = [] }; switch_names = firsts (zip s.switch_names s.wires.switches); names_of_hosts = []; commands = [] }) (seconds-zip s.switch_names s.wires.switches kept.switch_count)
    ∙ ap (λ (ns : List (List ℕ)). record s { wires = record { switches = s.wires.switches; links = []; hosts = [] }; switch_names = ns; names_of_hosts = []; commands = [] }) (firsts-zip s.switch_names s.wires.switches kept.switch_count)

all_hosts : (s : ScriptOf) → IsScript s → with_hosts s (zip s.names_of_hosts s.wires.hosts) ≡ with_commands s []
all_hosts s kept =
    ap (λ (ys : List HostOn). record s { wires = record s.wires { hosts = ys }; names_of_hosts = firsts (zip s.names_of_hosts s.wires.hosts); commands = [] }) (seconds-zip s.names_of_hosts s.wires.hosts kept.host_count)
    ∙ ap (λ (ns : List (List ℕ)). record s { names_of_hosts = ns; commands = [] }) (firsts-zip s.names_of_hosts s.wires.hosts kept.host_count)

finishes : (s : ScriptOf) → IsScript s → Finishes begun (forms_of s) s
unfolding forms_of
finishes s kept =
    then_finishes begun (setting_forms s) _ (with_switches s []) s (settings_reached s kept) (λ d1 script1 part1.
    then_finishes d1 (map switch_form (zip s.switch_names s.wires.switches)) _ (with_switches s (zip s.switch_names s.wires.switches)) s
    (Reaches-all switch_form (with_switches s) (zip s.switch_names s.wires.switches) (switch_step s kept) [] (zip s.switch_names s.wires.switches) refl d1 script1 part1) (λ d2 script2 part2.
    then_finishes d2 (map (link_form s.switch_names) s.wires.links) _ (with_links s s.wires.links) s
    (Reaches-all (link_form s.switch_names) (with_links s) s.wires.links (link_step s kept) [] s.wires.links refl d2 (script2 ∙ all_switches s kept) part2) (λ d3 script3 part3.
    then_finishes d3 (map (host_form s.switch_names) (zip s.names_of_hosts s.wires.hosts)) _ (with_hosts s (zip s.names_of_hosts s.wires.hosts)) s
    (Reaches-all (host_form s.switch_names) (with_hosts s) (zip s.names_of_hosts s.wires.hosts) (host_step s kept) [] (zip s.names_of_hosts s.wires.hosts) refl d3 script3 part3) (λ d4 script4 part4.
    then_finishes d4 (map (command_form s) s.commands) (End ∷ []) s s
    (Reaches-all (command_form s) (with_commands s) s.commands (command_step s kept) [] s.commands refl d4 (script4 ∙ all_hosts s kept) part4) (λ d5 script5 part5.
    end_finishes d5 s script5 part5)))))

-- the canonical text is a text of the script
pub canonical_is : (s : ScriptOf) → IsScript s → IsText (canonical_text s) s
unfolding canonical_text begun
canonical_is s kept =
    let done = finishes s kept in
    let header : All IsWord header_words = words_cons (codes "autonet") (codes "1" ∷ []) (fixed_word (codes "autonet") refl (omega arith) (omega arith)) (words_cons (codes "1") [] (fixed_word (codes "1") refl (omega arith) (omega arith)) words_nil) in
    let rows = map form_words (forms_of s) in
    let all = All-cons (All IsWord) header_words rows header (Chain-words begun (forms_of s) done.last done.chain) in
    let first : Adds start (line_of header_words) begun = record {
      bytes = line_good LineTooLong NotAscii 200 header_words header (omega arith);
      row = subst (λ (ws : List (List ℕ)). AddsRow start ws begun) (sym (line_words header_words (omega arith) header)) (refl, refl);
    } in
    let good : Leads start (map line_of (header_words ∷ rows)) done.last = (begun, first, Chain-leads begun (forms_of s) done.last done.chain) in
    record { last = done.last; good = subst (λ (ls : List (List ℕ)). Leads start ls done.last) (sym (lines_of-text (header_words ∷ rows) all)) good; ended = done.part; says = sym done.script }
