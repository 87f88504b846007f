-- A packet that is delivered is at the host to which it was sent.

use Rattle.std.specs.Prelude.{◌≡◌, ◌⊎◌, ◌+◌, ◌*◌, ◌/◌, ◌%◌, ◌==◌, ◌&&◌, ◌<◌, ℕ, zero, suc, not, List, [], ◌∷◌, ◌++◌, map, length, cond, slice_index_or, IfSome, Option, Some, None, Ok, Err, is_some, Bool, true, false, refl}
use Rattle.std.specs.Option.{option_map, option_map_or}
use Rattle.std.proofs.Common.{sym, ◌∙◌, ap, subst, inl, inr, arith, append_assoc}
use Rattle.std.proofs.lemmas.Bool.{cases_order, eqb-true}
use Rattle.std.proofs.lemmas.List.{length-append, length-map}
use Rattle.std.proofs.lemmas.List.Elements.{All-get_or}
use Rattle.an_base.specs.Values.{TopoOf}
use Rattle.an_base.specs.declared.event.Event.{Event}
use Rattle.an_base.specs.declared.event.Event.TheVariants.{Load, Send, Move}
use Rattle.net_graph.specs.declared.wiring.SwitchAt.{SwitchAt}
use Rattle.net_graph.specs.declared.wiring.HostOn.{HostOn}
use Rattle.net_graph.specs.declared.wiring.Far.{Far}
use Rattle.net_graph.specs.declared.wiring.Far.TheVariants.{Switch, HostAt}
use Rattle.net_graph.specs.Wires.{Wires, IsWired, IsHost, IsWithin, far_at, uids}
use Rattle.net_graph.proofs.TableLemmas.{far_within}
use Rattle.net_script.specs.Scripts.{ScriptOf, IsScript}
use Rattle.wire_set.specs.declared.side.Side.{Side}
use Rattle.wire_set.specs.WireState.{place}
use Rattle.wire_set.proofs.WireLemmas.{port_is}
use Rattle.epoch_game.proofs.Basics.{none_some, some_same}
use Rattle.table_build.specs.Tables.{TableOf, exits_of}
use Rattle.switch_core.specs.Switch.{finish_of}
use Rattle.switch_core.specs.declared.switch.TableFor.{TableFor}
use Rattle.host_traffic.specs.declared.hop.Hop.{Hop}
use Rattle.host_traffic.specs.declared.hop.Hop.TheVariants as hop
use Rattle.host_traffic.specs.declared.hop.DropCause.TheVariants as cause
use Rattle.host_traffic.specs.Packets.{PacketOf, packet_of, hop_by, delivered_to, goes_by, row_entry, moved_to, after_hop}
use Rattle.net_state.specs.PortStates.{is_host}
use Rattle.net_state.specs.Fabric.{FabricOf, station, table_at, host_at, host_on, host_behind, no_host, next_at, is_up, port_shown, side_of_port}
use Rattle.net_state.specs.Lawful.{is_lawful}
use Rattle.net_state.specs.Effects.{address_of, admitted, admitted_as, hop_of, hopped}
use Rattle.net_state.proofs.FitsLemmas.{event_fits}
use Rattle.net_state.proofs.HopLemmas.{goes_to}
use Rattle.net_world.specs.World.{WorldOf, effect, loads_with, step, world_after}
use Rattle.net_world.specs.Traces.{WasSentTo, AreDelivered}
use Rattle.net_world.proofs.WorldLemmas.{world_after-event, step-lawful, step-unlawful}
use Rattle.net_world.proofs.InductionLemmas.{world_script}
use Rattle.net_world.proofs.FabricLemmas.{world_fits, world_fars}
use Rattle.net_world.proofs.NextLemmas.{found_in}
use Rattle.net_game.proofs.Firm.{places}
use Rattle.net_game.proofs.TraceLemmas.{packet_sound}
use Rattle.net_game.proofs.HistoryLemmas.{by_events}
use Rattle.net_game.proofs.EachLemmas.{Each, each_append, each_map, each_mapped, each_filtered}

-- hosts with one identifier are one
host_uid_at : (xs : List SwitchAt) (ys : List HostOn) (a n : ℕ) → n ≡ length xs + a → a < length ys → slice_index_or (map (λ s. s.uid) xs ++ map (λ h. h.uid) ys) n 0 ≡ (slice_index_or ys a no_host).uid
host_uid_at [] [] a n is below = absurd (omega (arith, below))
host_uid_at [] (y ∷ ys) zero n is below = let e : n ≡ zero = omega (arith, is) in ap (λ k. slice_index_or (map (λ h. h.uid) (y ∷ ys)) k 0) e
host_uid_at [] (y ∷ ys) (suc a) n is below =
    let e : n ≡ suc a = omega (arith, is) in
    ap (λ k. slice_index_or (map (λ h. h.uid) (y ∷ ys)) k 0) e ∙ host_uid_at [] ys a a (omega arith) (omega (arith, below))
host_uid_at (x ∷ xs) ys a n is below =
    let e : n ≡ suc (length xs + a) = omega (arith, is) in
    ap (λ k. slice_index_or (map (λ s. s.uid) (x ∷ xs) ++ map (λ h. h.uid) ys) k 0) e ∙ host_uid_at xs ys a (length xs + a) refl below

pub host_one : (w : Wires) (a b : ℕ) → IsWired w → a < length w.hosts → b < length w.hosts → (slice_index_or w.hosts a no_host).uid ≡ (slice_index_or w.hosts b no_host).uid → a ≡ b
host_one w a b wired in_a in_b same = by (cases_order a b) where
  n : ℕ
  n = length w.switches

  size : length (uids w) ≡ n + length w.hosts
  size = let l = length-append (map (λ s. s.uid) w.switches) (map (λ h. h.uid) w.hosts) in let x = length-map w.switches (λ s. s.uid) in let y = length-map w.hosts (λ h. h.uid) in omega (arith, l, x, y)

  at : (c : ℕ) → c < length w.hosts → slice_index_or (uids w) (n + c) 0 ≡ (slice_index_or w.hosts c no_host).uid
  at c below = host_uid_at w.switches w.hosts c (n + c) refl below

  by : (a ≡ b) ⊎ ((a < b) ⊎ (b < a)) → a ≡ b
  by (inl e) = e
  by (inr (inl lt)) = absurd (wired.uids_apart (n + a) (n + b) 0 (omega (arith, lt)) (omega (arith, size, in_b)) (at a in_a ∙ same ∙ sym (at b in_b)))
  by (inr (inr gt)) = absurd (wired.uids_apart (n + b) (n + a) 0 (omega (arith, gt)) (omega (arith, size, in_a)) (at b in_b ∙ sym same ∙ sym (at a in_a)))

-- A packet under way was sent to a host, whose port and identifier it has
pub record IsAddressed (script : ScriptOf) (hosts : List HostOn) (h : List Event) (x : PacketOf) : Type 0 where
  pub host : ℕ
  pub there : host < length hosts
  pub sent : WasSentTo script h x.packet host
  pub uid : x.uid ≡ (slice_index_or hosts host no_host).uid
  pub number : ℕ
  pub address : x.address ≡ number * 16 + (slice_index_or hosts host no_host).port

sent_more : (script : ScriptOf) (h : List Event) (e : Event) (k host : ℕ) → WasSentTo script h k host → WasSentTo script (h ++ e ∷ []) k host
sent_more script h e k host is = record {
  before = is.before;
  from = is.from;
  later = is.later ++ e ∷ [];
  parts = ap (λ (l : List Event). l ++ e ∷ []) is.parts ∙ append_assoc is.before (Send is.from host ∷ is.later) (e ∷ []);
  lawful = is.lawful;
  number_is = is.number_is;
}

addressed_more : (script : ScriptOf) (hosts : List HostOn) (h : List Event) (e : Event) (x : PacketOf) → IsAddressed script hosts h x → IsAddressed script hosts (h ++ e ∷ []) x
addressed_more script hosts h e x is = record { host = is.host; there = is.there; sent = sent_more script h e x.packet is.host is.sent; uid = is.uid; number = is.number; address = is.address }

to_addressed : (script : ScriptOf) (hosts : List HostOn) (h : List Event) (k : ℕ) (far : Option (ℕ × ℕ)) (x : PacketOf) → IsAddressed script hosts h x → IsAddressed script hosts h (goes_to k far x)
to_addressed script hosts h k far x is = by (x.packet == k) where
  moves : (o : Option (ℕ × ℕ)) → IsAddressed script hosts h (moved_to o x)
  moves None = is
  moves (Some to) = record { host = is.host; there = is.there; sent = is.sent; uid = is.uid; number = is.number; address = is.address }

  by : (b : Bool) → IsAddressed script hosts h (cond b (moved_to far x) x)
  by true = moves far
  by false = is

after_addressed : (script : ScriptOf) (hosts : List HostOn) (h : List Event) (k : ℕ) (next : ℕ → Option (ℕ × ℕ)) (made : Hop) (xs : List PacketOf) → Each (IsAddressed script hosts h) xs → Each (IsAddressed script hosts h) (after_hop made next k xs)
after_addressed script hosts h k next (hop.Went exit) xs all = each_mapped (IsAddressed script hosts h) (IsAddressed script hosts h) (goes_to k (next exit)) xs (to_addressed script hosts h k (next exit)) all
after_addressed script hosts h k next (hop.Delivered exit host) xs all = each_filtered (IsAddressed script hosts h) (λ x. not (x.packet == k)) xs all
after_addressed script hosts h k next (hop.Dropped why) xs all = each_filtered (IsAddressed script hosts h) (λ x. not (x.packet == k)) xs all

hopped_addressed : (script : ScriptOf) (hosts : List HostOn) (h : List Event) (k : ℕ) (o : Option PacketOf) (f : FabricOf) → Each (IsAddressed script hosts h) f.packets → Each (IsAddressed script hosts h) (hopped k o f)
hopped_addressed script hosts h k None f all = all
hopped_addressed script hosts h k (Some x) f all = after_addressed script hosts h k (next_at f x.at) (hop_of f x) f.packets all

-- a new one
admitted_addressed : (script : ScriptOf) (h : List Event) (f : FabricOf) (from to : ℕ) → to < length f.script.wires.hosts → WasSentTo script h (f.sent + 1) to
    → Each (IsAddressed script f.script.wires.hosts h) (admitted f (host_on f from) (host_on f to))
admitted_addressed script h f from to there sent = by (is_some (host_at f (host_on f from).s (host_on f from).port)) (table_at f (host_on f to).s) where
  by : (b : Bool) (o : Option TableOf) → Each (IsAddressed script f.script.wires.hosts h) (admitted_as (f.sent + 1) (host_on f from) (host_on f to) (cond b (option_map_or (λ t. Ok (address_of t (host_on f to).port)) o (Err cause.NoTable)) (Err cause.NoPort)))
  by false o = tt
  by true None = tt
  by true (Some t) = (record { host = to; there = there; sent = sent; uid = refl; number = t.number; address = refl }, tt)

abbrev AreAddressed : ScriptOf → List Event → List PacketOf → Type 0
AreAddressed script h xs = Each (IsAddressed script script.wires.hosts h) xs

loads_addressed : (script : ScriptOf) (h : List Event) (topo : Option TopoOf) (s : ℕ) (w : WorldOf) → AreAddressed script h w.fabric.packets → AreAddressed script h (loads_with topo s w).fabric.packets
loads_addressed script h None s w all = all
loads_addressed script h (Some topo) s w all = all

effect_addressed : (script : ScriptOf) → IsScript script → (h : List Event) (e : Event) → is_lawful (world_after script h).fabric e ≡ true → AreAddressed script (h ++ e ∷ []) (world_after script h).fabric.packets
    → AreAddressed script (h ++ e ∷ []) (effect e (world_after script h)).fabric.packets
unfolding effect
effect_addressed script kept h (Move k) lawful all = let f = (world_after script h).fabric in hopped_addressed script script.wires.hosts (h ++ Move k ∷ []) k (packet_of k f.packets) f all
effect_addressed script kept h (Send from to) lawful all =
    let f = (world_after script h).fabric in
    let hosts = event_fits f (Send from to) (world_fits script kept h) lawful refl in
    let new = admitted_addressed script (h ++ Send from to ∷ []) f from to hosts.1 (record { before = h; from = from; later = []; parts = refl; lawful = lawful; number_is = refl }) in
    each_append (IsAddressed script script.wires.hosts (h ++ Send from to ∷ [])) f.packets (admitted f (host_on f from) (host_on f to)) all
    (subst (λ (z : ScriptOf). Each (IsAddressed script z.wires.hosts (h ++ Send from to ∷ [])) (admitted f (host_on f from) (host_on f to))) (world_script script h) new)
effect_addressed script kept h (Load s) lawful all = let w = world_after script h in loads_addressed script (h ++ Load s ∷ []) (finish_of (w.switches s)) s w all
effect_addressed script kept h e lawful all = all

none_at_first : (script : ScriptOf) → AreAddressed script [] (world_after script []).fabric.packets
unfolding world_after
none_at_first script = tt

-- so all that are under way
pub all_addressed : (script : ScriptOf) → IsScript script → (h : List Event) → AreAddressed script h (world_after script h).fabric.packets
all_addressed script kept = by_events (λ h. AreAddressed script h (world_after script h).fabric.packets) (none_at_first script)
    (λ h e old. subst (λ (w : WorldOf). AreAddressed script (h ++ e ∷ []) w.fabric.packets) (sym (world_after-event script h e))
    (by h e (is_lawful (world_after script h).fabric e) refl (each_map (IsAddressed script script.wires.hosts h) (IsAddressed script script.wires.hosts (h ++ e ∷ [])) (world_after script h).fabric.packets (addressed_more script script.wires.hosts h e) old)))
  where
    by : (h : List Event) (e : Event) (b : Bool) → is_lawful (world_after script h).fabric e ≡ b → AreAddressed script (h ++ e ∷ []) (world_after script h).fabric.packets → AreAddressed script (h ++ e ∷ []) (step (world_after script h) e).fabric.packets
    by h e true lawful all = subst (λ (w : WorldOf). AreAddressed script (h ++ e ∷ []) w.fabric.packets) (sym (step-lawful (world_after script h) e lawful)) (effect_addressed script kept h e lawful all)
    by h e false unlawful all = subst (λ (w : WorldOf). AreAddressed script (h ++ e ∷ []) w.fabric.packets) (sym (step-unlawful (world_after script h) e unlawful)) all

-- where it is delivered
abbrev host_of_hop : Hop → Option (ℕ × ℕ)
host_of_hop (hop.Went exit) = None
host_of_hop (hop.Delivered exit host) = Some (exit, host)
host_of_hop (hop.Dropped why) = None

pub record DeliveredBy (f : FabricOf) (x : PacketOf) (exit host : ℕ) : Type 0 where
  pub exit_is : x.address % 16 ≡ exit
  pub far : (side_of_port f x.at exit).far ≡ Some (HostAt host)
  pub uid : (host_on f host).uid ≡ x.uid

goes_no : (xs : List ℕ) (next : ℕ → Option (ℕ × ℕ)) → host_of_hop (goes_by xs next) ≡ None
goes_no [] next = refl
goes_no (p ∷ ps) next = by (is_some (next p)) where
  by : (b : Bool) → host_of_hop (cond b (hop.Went p) (hop.Dropped cause.LinkDown)) ≡ None
  by true = refl
  by false = refl

-- the host that a port reaches
host_there : (f : FabricOf) (s p a u : ℕ) (b : Bool) (far : Option Far) → (side_of_port f s p).far ≡ far → cond b (host_behind f far) None ≡ Some (a, u) → ((side_of_port f s p).far ≡ Some (HostAt a)) × ((host_on f a).uid ≡ u)
host_there f s p a u false far is found = absurd (none_some found)
host_there f s p a u true None is found = absurd (none_some found)
host_there f s p a u true (Some (Switch t q)) is found = absurd (none_some found)
host_there f s p a u true (Some (HostAt n)) is found =
    let pair = some_same (n, (host_on f n).uid) (a, u) found in
    let same : n ≡ a = ap (λ (z : ℕ × ℕ). z.0) pair in
    (is ∙ ap (λ k. Some (HostAt k)) same, ap (λ k. (host_on f k).uid) (sym same) ∙ ap (λ (z : ℕ × ℕ). z.1) pair)

delivered_here : (f : FabricOf) (x : PacketOf) (exit host : ℕ) (o : Option (ℕ × ℕ)) → host_at f x.at (x.address % 16) ≡ o → delivered_to (x.address % 16) o x ≡ hop.Delivered exit host → DeliveredBy f x exit host
delivered_here f x exit host None at is = absurd (none_some (ap host_of_hop is))
delivered_here f x exit host (Some found) at is = by (found.1 == x.uid) refl is where
  port : ℕ
  port = x.address % 16

  by : (b : Bool) → (found.1 == x.uid) ≡ b → cond b (hop.Delivered port found.0) (hop.Dropped cause.WrongHost) ≡ hop.Delivered exit host → DeliveredBy f x exit host
  by false other is = absurd (none_some (ap host_of_hop is))
  by true same is =
      let pair = some_same (port, found.0) (exit, host) (ap host_of_hop is) in
      let exit_is : port ≡ exit = ap (λ (z : ℕ × ℕ). z.0) pair in
      let host_is : found.0 ≡ host = ap (λ (z : ℕ × ℕ). z.1) pair in
      let there = host_there f x.at port found.0 found.1 (is_up f x.at port && is_host (port_shown f x.at port).state) (side_of_port f x.at port).far refl at in
      record {
        exit_is = exit_is;
        far = ap (λ n. (side_of_port f x.at n).far) (sym exit_is) ∙ there.0 ∙ ap (λ k. Some (HostAt k)) host_is;
        uid = ap (λ k. (host_on f k).uid) (sym host_is) ∙ there.1 ∙ eqb-true found.1 x.uid same;
      }

delivered_by : (f : FabricOf) (x : PacketOf) (exit host : ℕ) → hop_of f x ≡ hop.Delivered exit host → DeliveredBy f x exit host
delivered_by f x exit host = by (station f x.at).table where
  here : (t : TableFor) (b : Bool) → cond b (delivered_to (x.address % 16) (host_at f x.at (x.address % 16)) x) (goes_by (exits_of t.table (row_entry x) (x.address / 16)) (next_at f x.at)) ≡ hop.Delivered exit host → DeliveredBy f x exit host
  here t false is = absurd (none_some (sym (goes_no (exits_of t.table (row_entry x) (x.address / 16)) (next_at f x.at)) ∙ ap host_of_hop is))
  here t true is = delivered_here f x exit host (host_at f x.at (x.address % 16)) refl is

  by : (o : Option TableFor) → hop_by (option_map (λ t. t.table) o) (host_at f x.at) (next_at f x.at) x ≡ hop.Delivered exit host → DeliveredBy f x exit host
  by None is = absurd (none_some (ap host_of_hop is))
  by (Some t) is = here t (x.address / 16 == t.table.number) is

-- what lies behind a port is what the script has there
pub far_is : (script : ScriptOf) → IsScript script → (h : List Event) (s p : ℕ) → s < places script → p < 13 → (side_of_port (world_after script h).fabric s p).far ≡ far_at script.wires s p
far_is script kept h s p low below = world_fars script kept h (place s p) ∙ ap (λ (x : Side). x.far) (port_is script.wires script.limits.blocks s p low below)

pub delivered : (script : ScriptOf) → IsScript script → (h : List Event) → AreDelivered script h
delivered script kept h k x exit host there is =
    let f = (world_after script h).fabric in
    let hosts = script.wires.hosts in
    let by = delivered_by f x exit host is in
    let found = packet_sound script kept h k x there in
    let a = (found_in (IsAddressed script hosts h) (λ y. y.packet == k) f.packets x (all_addressed script kept h) there).0 in
    let port = All-get_or (IsHost (places script)) hosts a.host no_host a.there kept.wired.hosts in
    let exit_is = by.exit_is in
    let address = a.address in
    let least = port.port_least in
    let most = port.port_most in
    let below : exit < 13 = omega (arith, exit_is, address, most) in
    let far : far_at script.wires x.at exit ≡ Some (HostAt host) = sym (far_is script kept h x.at exit found.0.at below) ∙ by.far in
    let within = subst (λ (o : Option Far). IfSome o (IsWithin script.wires x.at exit)) far (far_within script.wires x.at exit kept.wired) in
    let uid : (slice_index_or hosts host no_host).uid ≡ x.uid = ap (λ (z : ScriptOf). (slice_index_or z.wires.hosts host no_host).uid) (sym (world_script script h)) ∙ by.uid in
    let same : a.host ≡ host = host_one script.wires a.host host kept.wired a.there within.3 (sym a.uid ∙ sym uid) in
    (subst (λ (n : ℕ). WasSentTo script h n host) found.1 (subst (WasSentTo script h x.packet) same a.sent), far)
