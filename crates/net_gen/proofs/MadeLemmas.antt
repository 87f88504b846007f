-- How a script is made: what may be added next, and what it is then.
use Rattle.std.proofs.Common.{◌≡◌, ◌≢◌, ◌∙◌, sym, ap, subst, refl, ℕ, zero, suc, ◌+◌, ◌-◌, ◌^◌, ◌<◌, ◌≤◌, List, [], ◌∷◌, ◌++◌, append_assoc, append-nil, arith, length, map, get_or, true, ltb, ◌⊎◌, Option, Some, None, is_some, Contains, inl, inr}
use Rattle.std.specs.Fmt.{decimal}
use Rattle.std.specs.List.{flat_map, range_with_len}
use Rattle.std.proofs.Math.Nat.{mod-lt}
use Rattle.std.proofs.lemmas.Bool.{cases_Bool}
use Rattle.std.proofs.lemmas.List.{map_push, length_push}
use Rattle.std.proofs.lemmas.List.Elements.{All-head, All-tail, Contains-append_cases}
use Rattle.std.proofs.lemmas.List.FromFn.{length-map-range_with_len}
use Rattle.common_values.proofs.ListLemmas.{places_more}
use Rattle.common_values.proofs.MemberLemmas.{Any-from_map, Contains-cons_cases}
use Rattle.an_base.specs.declared.event.Event.{Event}
use Rattle.an_base.specs.declared.event.Event.TheVariants as event
use Rattle.net_graph.specs.declared.wiring.SwitchAt.{SwitchAt}
use Rattle.net_graph.specs.declared.wiring.LinkAt.{LinkAt}
use Rattle.net_graph.specs.declared.wiring.HostOn.{HostOn}
use Rattle.net_graph.specs.Wires.{a_end, b_end, far_of, far_or_host, host_end, link_ends, uids, used_ports}
use Rattle.net_graph.specs.Wires as wires
use Rattle.net_script.specs.declared.command.Command.{Command}
use Rattle.net_script.specs.Commands.{IsUsedPort, last_time}
use Rattle.net_script.specs.Scripts.{CanAddSwitch, CanAddLink, CanAddHost, CanAddCommand, ScriptOf, names_of, restarts_of, with_switch, with_host, with_command}
use Rattle.net_script.proofs.ScriptLemmas.{last_time_is, restarts_push}
use Rattle.net_gen.specs.Generated.{DrawnOf, all_joined, failure, generated, grown, links_of, tree_of, joined, switch_name, host_name, switch_of, host_of, made_of, send_of, sends_at}
use Rattle.net_gen.specs.Made.{IsLow, AreLow, HasFirst, IsMade, CanSend, drawn_of, with_commands, with_links}
use Rattle.net_gen.proofs.NameLemmas.{numbered, any_place, next_is_new, other_is_new}
use Rattle.net_gen.proofs.LinkLemmas.{IsLowest, first_linked, free_unused, low_all, low_tree}

-- one place more
map_more : {X : Type 0} (f : ℕ → X) (n : ℕ) → map f (range_with_len 0 (n + 1)) ≡ map f (range_with_len 0 n) ++ f n ∷ []
map_more f n = ap (map f) (places_more n) ∙ map_push f (range_with_len 0 n) n

maps : {X Y Z : Type 0} (f : Y → Z) (g : X → Y) (xs : List X) → map f (map g xs) ≡ map (λ x. f (g x)) xs
maps f g [] = refl
maps f g (x ∷ xs) = ap (λ (ys : List _). f (g x) ∷ ys) (maps f g xs)

-- some place has what an element of an image has
some_place : {Y : Type 0} (f : ℕ → Y) (n : ℕ) (y : Y) → Contains (map f (range_with_len 0 n)) y → (x : ℕ) × (x < n) × (f x ≡ y)
some_place f n y has =
    let (x, _, low, is) = any_place (λ x. f x ≡ y) 0 n (Any-from_map f (range_with_len 0 n) y has) in
    (x, omega (arith, low), is)

some_image : {X Y : Type 0} (f : X → Y) (g : ℕ → X) (n : ℕ) (y : Y) → Contains (map f (map g (range_with_len 0 n))) y → (x : ℕ) × (x < n) × (f (g x) ≡ y)
some_image f g n y has = some_place (λ x. f (g x)) n y (subst (λ ys. Contains ys y) (maps f g (range_with_len 0 n)) has)

-- SWITCHES

pub can_switch : (i : ℕ) → i < 100 → CanAddSwitch (made_of i [] 0 []) (switch_name i) (switch_of i)
unfolding restarts_of
can_switch i low = record {
  new_name = record { is_name = numbered 83 (i + 1) refl refl (omega arith); is_new = new };
  switch = record { uid = omega arith; had_least = omega arith; had_most = omega arith };
  uid_new = uid;
  room = let l = length-map-range_with_len switch_of 0 i in omega (arith, l);
}
  where
    new : Contains (names_of (made_of i [] 0 [])) (switch_name i) → ⊥
    new has = elim (Contains-append_cases (map switch_name (range_with_len 0 i)) [] (switch_name i) has) [
      | inl one ↦ next_is_new 83 i (omega arith) one
      | inr none ↦ absurd (let l = none.1 in omega arith)
    ]

    uid : Contains (uids (made_of i [] 0 []).wires) (i + 1) → ⊥
    uid has = elim (Contains-append_cases (map (λ node. node.uid) (map switch_of (range_with_len 0 i))) [] (i + 1) has) [
      | inl one ↦ (let (x, below, is) = some_image (λ (node : SwitchAt). node.uid) switch_of i (i + 1) one in absurd (omega (arith, below, is)))
      | inr none ↦ absurd (let l = none.1 in omega arith)
    ]

pub switch_more : (i : ℕ) → with_switch (made_of i [] 0 []) (switch_name i) (switch_of i) ≡ made_of (i + 1) [] 0 []
switch_more i = rw (map_more switch_of i, map_more switch_name i) refl

-- LINKS

no_hosts : (hosts : List HostOn) (x : ℕ × ℕ) → hosts ≡ [] → Contains (map host_end hosts) x → ⊥
no_hosts [] x none has = absurd (let l = has.1 in omega arith)
no_hosts (h ∷ hosts) x none has = absurd (cc)

pub can_link : (script : ScriptOf) (a b p q : ℕ) → script.wires.hosts ≡ [] → a < length script.wires.switches → b < length script.wires.switches → a ≢ b → IsLowest script.wires.links a p → IsLowest script.wires.links b q → CanAddLink script (record { a = a; a_port = p; b = b; b_port = q })
can_link script a b p q none a_in b_in apart at_a at_b = record {
  link = record { a_below = a_in; b_below = b_in; a_port_least = at_a.least; a_port_most = omega (arith, at_a.most); b_port_least = at_b.least; b_port_most = omega (arith, at_b.most) };
  apart = λ e. apart (ap (λ (x : ℕ × ℕ). x.0) e);
  a_free = unused a p at_a;
  b_free = unused b q at_b;
}
  where
    unused : (s port : ℕ) → IsLowest script.wires.links s port → Contains (used_ports script.wires) (s, port) → ⊥
    unused s port is has = elim (Contains-append_cases (flat_map link_ends script.wires.links) (map host_end script.wires.hosts) (s, port) has) [
      | inl one ↦ free_unused script.wires.links s port is.free one
      | inr other ↦ no_hosts script.wires.hosts (s, port) none other
    ]

-- HOSTS

-- no link uses a port above 8
low_unused : (links : List LinkAt) (s p : ℕ) → AreLow links → Contains (flat_map link_ends links) (s, p) → p ≤ 8
low_unused [] s p low has = absurd (let l = has.1 in omega arith)
low_unused (l ∷ ls) s p low has =
    let first = All-head IsLow l ls low in
    elim (Contains-cons_cases (a_end l) (s, p) (b_end l ∷ flat_map link_ends ls) has) [
      | inl is ↦ (let e : l.a_port ≡ p = ap (λ (x : ℕ × ℕ). x.1) is in omega (arith, e, first.a_most))
      | inr later ↦ elim (Contains-cons_cases (b_end l) (s, p) (flat_map link_ends ls) later) [
        | inl is ↦ (let e : l.b_port ≡ p = ap (λ (x : ℕ × ℕ). x.1) is in omega (arith, e, first.b_most))
        | inr rest ↦ low_unused ls s p (All-tail IsLow l ls low) rest
      ]
    ]

pub can_host : (count i : ℕ) (links : List LinkAt) → count ≤ 100 → i < count → AreLow links → CanAddHost (made_of count links i []) (host_name i) (host_of i)
can_host count i links few low are_low = record {
  new_name = record { is_name = numbered 72 (i + 1) refl refl (omega arith); is_new = new };
  host = record { uid = omega arith; switch = (let l = length-map-range_with_len switch_of 0 count in omega (arith, l)); port_least = omega arith; port_most = omega arith };
  uid_new = uid;
  free = free;
  room = (let l = length-map-range_with_len host_of 0 i in omega (arith, l));
}
  where
    new : Contains (names_of (made_of count links i [])) (host_name i) → ⊥
    new has = elim (Contains-append_cases (map switch_name (range_with_len 0 count)) (map host_name (range_with_len 0 i)) (host_name i) has) [
      | inl one ↦ other_is_new 83 72 count (decimal (i + 1)) (λ e. omega (arith, e)) one
      | inr one ↦ next_is_new 72 i (omega arith) one
    ]

    uid : Contains (uids (made_of count links i []).wires) (2 ^ 40 + (i + 1)) → ⊥
    uid has = elim (Contains-append_cases (map (λ node. node.uid) (map switch_of (range_with_len 0 count))) (map (λ host. host.uid) (map host_of (range_with_len 0 i))) (2 ^ 40 + (i + 1)) has) [
      | inl one ↦ (let (x, below, is) = some_image (λ (node : SwitchAt). node.uid) switch_of count (2 ^ 40 + (i + 1)) one in absurd (omega (arith, below, is)))
      | inr one ↦ (let (x, below, is) = some_image (λ (host : HostOn). host.uid) host_of i (2 ^ 40 + (i + 1)) one in absurd (omega (arith, below, is)))
    ]

    free : Contains (used_ports (made_of count links i []).wires) (i, 12) → ⊥
    free has = elim (Contains-append_cases (flat_map link_ends links) (map host_end (map host_of (range_with_len 0 i))) (i, 12) has) [
      | inl one ↦ (let h = low_unused links i 12 are_low one in absurd (omega (arith, h)))
      | inr one ↦ (let (x, below, is) = some_image host_end host_of i (i, 12) one in let e : x ≡ i = ap (λ (y : ℕ × ℕ). y.0) is in absurd (omega (arith, below, e)))
    ]

pub host_more : (count i : ℕ) (links : List LinkAt) → with_host (made_of count links i []) (host_name i) (host_of i) ≡ made_of count links (i + 1) []
host_more count i links = rw (map_more host_of i, map_more host_name i) refl

-- COMMANDS

-- the time of the last command is that of the one that is added
last_pushed : (commands : List Command) (c : Command) → last_time (commands ++ c ∷ []) ≡ c.time
last_pushed commands c =
    let len : length (commands ++ c ∷ []) ≡ length commands + 1 = length_push commands c in
    let at : length (commands ++ c ∷ []) - 1 ≡ length commands = omega (arith, len) in
    last_time_is (commands ++ c ∷ []) c (omega (arith, len))
    ∙ ap (λ (k : ℕ). (get_or (commands ++ c ∷ []) k c).time) at
    ∙ ap (λ (d : Command). d.time) (read commands c)
  where
    read : (cs : List Command) (d : Command) → get_or (cs ++ d ∷ []) (length cs) d ≡ d
    read [] d = refl
    read (x ∷ cs) d = read cs d

-- the commands with so many sends more: the last one is at the time of these, and none is a restart
pub record Follows (commands all : List Command) (time place : ℕ) : Type 0 where
  pub last : last_time all ≤ time
  pub count : length all ≡ length commands + place
  pub none : restarts_of all ≡ 0

pub sends_follow : (commands : List Command) (count time place : ℕ) → CanSend commands time → Follows commands (commands ++ map (send_of count time) (range_with_len 0 place)) time place
sends_follow commands count time zero can =
    let e : commands ++ [] ≡ commands = append-nil commands in
    record { last = rw e can.last; count = rw e (omega arith); none = rw e can.none }
sends_follow commands count time (suc place) can =
    let so_far = sends_follow commands count time place can in
    let sends : List Command = map (send_of count time) (range_with_len 0 place) in
    let next : Command = send_of count time place in
    let one_more : suc place ≡ place + 1 = omega arith in
    let more : map (send_of count time) (range_with_len 0 (suc place)) ≡ sends ++ next ∷ [] = ap (λ (n : ℕ). map (send_of count time) (range_with_len 0 n)) one_more ∙ map_more (send_of count time) place in
    let e : commands ++ map (send_of count time) (range_with_len 0 (suc place)) ≡ (commands ++ sends) ++ next ∷ [] = ap (λ (cs : List Command). commands ++ cs) more ∙ sym (append_assoc commands sends (next ∷ [])) in
    let last = last_pushed (commands ++ sends) next in
    let len = length_push (commands ++ sends) next in
    let restarts = restarts_push (commands ++ sends) next in
    subst (λ (all : List Command). Follows commands all time (suc place)) (sym e) (record {
      last = omega (arith, last);
      count = omega (arith, len, so_far.count);
      none = omega (arith, restarts, so_far.none);
    })

-- how many hosts and switches a script has
hosts_made : (script : ScriptOf) (count : ℕ) → IsMade script count → length script.wires.hosts ≡ count
hosts_made script count made = ap (λ (s : ScriptOf). length s.wires.hosts) made ∙ length-map-range_with_len host_of 0 count

pub switches_made : (script : ScriptOf) (count : ℕ) → IsMade script count → length script.wires.switches ≡ count
switches_made script count made = ap (λ (s : ScriptOf). length s.wires.switches) made ∙ length-map-range_with_len switch_of 0 count

pub can_send : (script : ScriptOf) (count place time : ℕ) → IsMade script count → CanSend script.commands time → place < count → count ≤ 100 → CanAddCommand (with_commands (map (send_of count time) (range_with_len 0 place)) script) (send_of count time place)
can_send script count place time made can low few =
    let hosts = hosts_made script count made in
    let follows = sends_follow script.commands count time place can in
    let next = mod-lt (place + 1) {m = count} (omega arith) in
    record {
      command = record { time = can.range; event = (omega (arith, hosts), omega (arith, hosts, next)) };
      time = follows.last;
      room = omega (arith, follows.count, can.few);
      lives = λ e. absurd (cc);
    }

pub send_more : (script : ScriptOf) (count place time : ℕ) → with_command (with_commands (map (send_of count time) (range_with_len 0 place)) script) (send_of count time place) ≡ with_commands (map (send_of count time) (range_with_len 0 (place + 1))) script
send_more script count place time =
    rw (map_more (send_of count time) place, append_assoc script.commands (map (send_of count time) (range_with_len 0 place)) (send_of count time place ∷ [])) refl

-- the failure of a link, and its repair, at a port that a link uses
pub can_change : (script : ScriptOf) (count time : ℕ) (e : Event) → IsMade script count → 2 ≤ count → is_some (far_of script.wires.links 0 1) ≡ true → (e ≡ event.Fail 0 1) ⊎ (e ≡ event.Repair 0 1) → last_time script.commands ≤ time → time ≤ 1000000 → length script.commands ≤ 9999 → CanAddCommand script (record { time = time; event = e })
can_change script count time e made two first which last range few = elim which [
  | inl is ↦ rw is (record { command = record { time = range; event = port }; time = last; room = omega arith; lives = λ e. absurd (cc) })
  | inr is ↦ rw is (record { command = record { time = range; event = port }; time = last; room = omega arith; lives = λ e. absurd (cc) })
]
  where
    some_far : (far : Option (ℕ × ℕ)) (host : Option ℕ) → is_some far ≡ true → is_some (far_or_host far host) ≡ true
    some_far None host t = absurd (cc)
    some_far (Some far) host t = refl

    port : IsUsedPort script.wires 0 1
    port = record {
      port = record { switch = (let l = switches_made script count made in omega (arith, l, two)); port_least = omega arith; port_most = omega arith };
      used = some_far (far_of script.wires.links 0 1) (wires.host_of script.wires.hosts 0 1) first;
    }

-- after the sends at one time, there may be commands at a later one
pub can_later : (commands : List Command) (count time later : ℕ) → CanSend commands time → time ≤ later → later ≤ 1000000 → count ≤ 100 → length commands ≡ 0 → CanSend (commands ++ sends_at count time) later
can_later commands count time later can le range few none =
    let follows = sends_follow commands count time count can in
    record { last = omega (arith, follows.last, le); range = range; few = omega (arith, follows.count, few, none); none = follows.none }

-- and after the failure
pub can_after_failure : (commands : List Command) (count time later : ℕ) → CanSend commands time → length commands ≤ 100 → time ≤ 20 → 60 ≤ later → later ≤ 1000000 → CanSend (commands ++ failure count) later
can_after_failure commands count time later can few early le range = elim (cases_Bool (ltb 1 count)) [
  | inl t ↦ rw t two
  | inr t ↦ rw (t, append-nil commands) (record { last = omega (arith, can.last, early, le); range = range; few = omega (arith, few); none = can.none })
]
  where
    fail : Command
    fail = record { time = 20; event = event.Fail 0 1 }

    repair : Command
    repair = record { time = 60; event = event.Repair 0 1 }

    two : CanSend (commands ++ fail ∷ repair ∷ []) later
    two =
        let e : commands ++ fail ∷ repair ∷ [] ≡ (commands ++ fail ∷ []) ++ repair ∷ [] = sym (append_assoc commands (fail ∷ []) (repair ∷ [])) in
        let last = last_pushed (commands ++ fail ∷ []) repair in
        let len = length_push (commands ++ fail ∷ []) repair in
        let len' = length_push commands fail in
        let restarts = restarts_push (commands ++ fail ∷ []) repair in
        let restarts' = restarts_push commands fail in
        rw e (record {
          last = omega (arith, last, le);
          range = range;
          few = omega (arith, len, len', few);
          none = omega (arith, restarts, restarts', can.none);
        })

-- STEPS OF THE LINKS

pub grown_made : (count place : ℕ) (t : DrawnOf) (script new : ScriptOf) (draw seed : ℕ) → script ≡ made_of count t.links 0 [] → draw ≡ t.seed → new ≡ with_links (grown (drawn_of script draw) place).links script → seed ≡ (grown (drawn_of script draw) place).seed → (new ≡ made_of count (grown t place).links 0 []) × (seed ≡ (grown t place).seed)
grown_made count place t script new draw seed is at made next = (made ∙ rw (is, at) refl, next ∙ rw at refl)

pub joined_made : (count : ℕ) (t : DrawnOf) (script new : ScriptOf) (draw seed : ℕ) → script ≡ made_of count t.links 0 [] → draw ≡ t.seed → new ≡ with_links (joined count (drawn_of script draw)).links script → seed ≡ (joined count (drawn_of script draw)).seed → (new ≡ made_of count (joined count t).links 0 []) × (seed ≡ (joined count t).seed)
joined_made count t script new draw seed is at made next = (made ∙ rw (is, at) refl, next ∙ rw at refl)

-- a script that is made has so many switches
pub made_switches : (count hosts : ℕ) (links : List LinkAt) (commands : List Command) (script : ScriptOf) → script ≡ made_of count links hosts commands → length script.wires.switches ≡ count
made_switches count hosts links commands script is = ap (λ (s : ScriptOf). length s.wires.switches) is ∙ length-map-range_with_len switch_of 0 count

-- ALL STEPS

-- the links are those of the seed
pub linked : (count seed draw next : ℕ) (tree all : ScriptOf) → draw ≡ seed → tree ≡ made_of count (tree_of draw count).links 0 [] → next ≡ (tree_of draw count).seed → all ≡ made_of count (all_joined count (drawn_of tree next) count).links 0 [] → all ≡ made_of count (links_of seed count) 0 []
linked count seed draw next tree all at tree_is next_is all_is =
    all_is ∙ ap (λ (d : DrawnOf). made_of count (all_joined count d count).links 0 []) (sym drawn_is)
  where
    drawn_is : tree_of seed count ≡ drawn_of tree next
    drawn_is = ap (λ (x : ℕ). tree_of x count) (sym at) ∙ ap (λ (s : ScriptOf). record { links = s.wires.links; seed = (tree_of draw count).seed }) (sym tree_is) ∙ ap (λ (x : ℕ). drawn_of tree x) (sym next_is)

-- a script with these links alone
pub only_links : (count : ℕ) (links : List LinkAt) (script : ScriptOf) → script ≡ made_of count links 0 [] → script ≡ made_of count script.wires.links 0 []
only_links count links script is = subst (λ (s : ScriptOf). s ≡ made_of count s.wires.links 0 []) (sym is) refl

pub only_low : (seed count : ℕ) (script : ScriptOf) → script ≡ made_of count (links_of seed count) 0 [] → AreLow script.wires.links
only_low seed count script is = subst (λ (s : ScriptOf). AreLow s.wires.links) (sym is) (low_all count (tree_of seed count) count (low_tree seed count))

-- and with its hosts
pub with_hosts : (count : ℕ) (links : List LinkAt) (script new : ScriptOf) → script ≡ made_of count links 0 [] → new ≡ made_of count script.wires.links count [] → new ≡ made_of count links count []
with_hosts count links script new is made = made ∙ ap (λ (s : ScriptOf). made_of count s.wires.links count []) is

-- and with commands
pub is_made : (count : ℕ) (links : List LinkAt) (commands : List Command) (script : ScriptOf) → script ≡ made_of count links count commands → IsMade script count
is_made count links commands script is = subst (λ (s : ScriptOf). IsMade s count) (sym is) refl

pub may_send : (count time : ℕ) (links : List LinkAt) (commands : List Command) (script : ScriptOf) → script ≡ made_of count links count commands → CanSend commands time → CanSend script.commands time
may_send count time links commands script is can = subst (λ (s : ScriptOf). CanSend s.commands time) (sym is) can

pub has_first : (seed count : ℕ) (commands : List Command) (script : ScriptOf) → script ≡ made_of count (links_of seed count) count commands → HasFirst count script.wires.links
has_first seed count commands script is = subst (λ (s : ScriptOf). HasFirst count s.wires.links) (sym is) (first_linked seed count)

pub more_made : (count : ℕ) (links : List LinkAt) (commands more : List Command) (script new : ScriptOf) → script ≡ made_of count links count commands → new ≡ with_commands more script → new ≡ made_of count links count (commands ++ more)
more_made count links commands more script new is made = made ∙ ap (with_commands more) is

-- when commands may come
pub none_yet : CanSend [] 10
unfolding restarts_of
none_yet = record { last = omega arith; range = omega arith; few = omega arith; none = refl }

pub sent_once : (count : ℕ) → count ≤ 100 → CanSend (sends_at count 10) 20
sent_once count few = can_later [] count 10 20 none_yet (omega arith) (omega arith) few refl

pub sends_few : (count time : ℕ) → length (sends_at count time) ≡ count
sends_few count time = length-map-range_with_len (send_of count time) 0 count

pub failed_once : (count : ℕ) → count ≤ 100 → CanSend (sends_at count 10 ++ failure count) 80
failed_once count few =
    let l = sends_few count 10 in
    can_after_failure (sends_at count 10) count 20 80 (sent_once count few) (omega (arith, l, few)) (omega arith) (omega arith) (omega arith)

-- and the script is whole
pub whole : (seed count : ℕ) (script : ScriptOf) → script ≡ made_of count (links_of seed count) count ((sends_at count 10 ++ failure count) ++ sends_at count 80) → script ≡ generated seed count
whole seed count script is = is
