-- What a lawful event changes in what hosts believe.
use Rattle.std.proofs.Common.{◌≡◌, ◌∙◌, sym, ap, subst, refl, ℕ, ◌+◌, ◌<◌, ◌≤◌, List, [], ◌∷◌, ◌++◌, Option, Some, None, true, false, arith, length, length-append, append_assoc, append-nil, reverse, inl, inr}
use Rattle.std.specs.Prelude.{◌==◌, All, Bool, cond, count_by, find, is_some}
use Rattle.std.specs.List.{flat_map}
use Rattle.std.specs.Option.{option_and_then, option_or}
use Rattle.std.proofs.lemmas.List.{reverse-append}
use Rattle.std.proofs.lemmas.List.Folds.{find-append}
use Rattle.std.proofs.lemmas.List.Sums.{sum_by-cons, sum_by_push}
use Rattle.std.proofs.lemmas.Bool.{cases_Bool, eqb-true}
use Rattle.std.proofs.lemmas.List.Elements.{All-head, All-tail}
use Rattle.std.proofs.lemmas.Grind.{flat_map-append}
use Rattle.an_base.specs.declared.event.Event.{Event}
use Rattle.an_base.specs.declared.event.Event.TheVariants.{Tick, Load, Send, Move}
use Rattle.an_base.specs.Values.{TopoOf}
use Rattle.net_script.specs.Scripts.{IsScript, ScriptOf}
use Rattle.host_traffic.specs.declared.hop.Hop.{Hop}
use Rattle.host_traffic.specs.declared.hop.Hop.TheVariants as hop
use Rattle.host_traffic.specs.Packets.{PacketOf, packet_of}
use Rattle.host_names.specs.declared.choice.Choice.{Choice}
use Rattle.host_names.specs.declared.choice.Choice.TheVariants.{Known, Broadcast}
use Rattle.net_state.specs.declared.ending.Ending.{Ending}
use Rattle.net_state.specs.Effects.{hop_of}
use Rattle.net_state.specs.Fabric.{FabricOf, table_at}
use Rattle.net_state.specs.Fits.{IsPacketSound}
use Rattle.net_state.specs.Lawful.{is_lawful}
use Rattle.net_state.proofs.FitsLemmas.{event_fits}
use Rattle.net_state.proofs.LawfulLemmas.{lawful_is}
use Rattle.net_world.specs.Histories.{AreLawful, IsLawful}
use Rattle.net_state.specs.Lines.{epoch_in_use, hop_line, move_lines}
use Rattle.net_world.specs.Lines.{lines_of}
use Rattle.net_world.specs.World.{WorldOf, after_all, begun, effect, loads_with, step, world_after}
use Rattle.net_world.proofs.FabricLemmas.{world_fits}
use Rattle.net_world.proofs.InductionLemmas.{world_first, world_script}
use Rattle.net_world.proofs.WorldLemmas.{step-lawful, world_after-event}
use Rattle.report.specs.Beliefs.{Belief, arrivals_at, arrivals_by, arrivals_of, belief_at, belief_by, belief_line, belief_of, belief_text, beliefs_of, counts_words, delivered_by, delivery_of, fabric_after, first_move, is_broadcast, is_known, is_move_of, is_moving, names_text, sender_by, senders}
use Rattle.report.specs.Moments.{Moment, moments, moments_after, told_so_far, told_whole}
use Rattle.report.specs.Remembering.{delivery_in}
use Rattle.report.proofs.MomentLemmas.{moments_more, moments_on}
use Rattle.common_lines.specs.Lines.{line_text}

-- WHAT A LAWFUL EVENT LEAVES OF THE FABRIC

-- the last event of a lawful history is lawful
last_is_lawful : (world : WorldOf) (before : List Event) (event : Event) → AreLawful world (before ++ event ∷ []) → is_lawful (after_all before world).fabric event ≡ true
last_is_lawful world [] event all = all.0
last_is_lawful world (first ∷ before) event all = last_is_lawful (step world first) before event all.1

pub lawful_last : (script : ScriptOf) (before : List Event) (event : Event) → IsLawful script (before ++ event ∷ []) → is_lawful (fabric_after script before) event ≡ true
unfolding world_after
lawful_last script before event all = last_is_lawful (begun script) before event all

pub behind_event : (script : ScriptOf) (before : List Event) (event : Event) → IsLawful script (before ++ event ∷ []) → fabric_after script (before ++ event ∷ []) ≡ (effect event (world_after script before)).fabric
behind_event script before event all =
    ap (λ (w : WorldOf). w.fabric) (world_after-event script before event ∙ step-lawful (world_after script before) event (lawful_last script before event all))

same_tick : (n : ℕ) → n ≤ n
same_tick n = omega arith

loads_tick : (topo : Option TopoOf) (place : ℕ) (w : WorldOf) → w.fabric.tick ≤ (loads_with topo place w).fabric.tick
loads_tick None place w = same_tick w.fabric.tick
loads_tick (Some topo) place w = same_tick w.fabric.tick

effect_tick : (event : Event) (w : WorldOf) → w.fabric.tick ≤ (effect event w).fabric.tick
unfolding effect
effect_tick Tick w = omega arith
effect_tick (Load place) w = loads_tick _ place w
effect_tick event w = same_tick w.fabric.tick

-- the tick never falls
pub tick_rises : (script : ScriptOf) (before : List Event) (event : Event) → IsLawful script (before ++ event ∷ []) → (fabric_after script before).tick ≤ (fabric_after script (before ++ event ∷ [])).tick
tick_rises script before event all =
    subst (λ (f : FabricOf). (fabric_after script before).tick ≤ f.tick) (sym (behind_event script before event all)) (effect_tick event (world_after script before))

-- a packet that is sent, or that moves, leaves the tick
pub send_tick : (script : ScriptOf) (before : List Event) (from to : ℕ) → IsLawful script (before ++ Send from to ∷ []) → (fabric_after script (before ++ Send from to ∷ [])).tick ≡ (fabric_after script before).tick
unfolding effect
send_tick script before from to all = ap (λ (f : FabricOf). f.tick) (behind_event script before (Send from to) all)

pub move_tick : (script : ScriptOf) (before : List Event) (packet : ℕ) → IsLawful script (before ++ Move packet ∷ []) → (fabric_after script (before ++ Move packet ∷ [])).tick ≡ (fabric_after script before).tick
unfolding effect
move_tick script before packet all = ap (λ (f : FabricOf). f.tick) (behind_event script before (Move packet) all)

-- and a move leaves the tables in use
pub move_tables : (script : ScriptOf) (before : List Event) (packet place : ℕ) → IsLawful script (before ++ Move packet ∷ []) → table_at (fabric_after script (before ++ Move packet ∷ [])) place ≡ table_at (fabric_after script before) place
unfolding effect
move_tables script before packet place all = ap (λ (f : FabricOf). table_at f place) (behind_event script before (Move packet) all)

-- how many packets were sent
same_sent : (n : ℕ) → n ≡ n + 0
same_sent n = omega arith

loads_sent : (topo : Option TopoOf) (place : ℕ) (w : WorldOf) → (loads_with topo place w).fabric.sent ≡ w.fabric.sent + 0
loads_sent None place w = same_sent w.fabric.sent
loads_sent (Some topo) place w = same_sent w.fabric.sent

effect_sent : (event : Event) (w : WorldOf) → (effect event w).fabric.sent ≡ w.fabric.sent + length (sender_by event)
unfolding effect
effect_sent (Load place) w = loads_sent _ place w
effect_sent (Send from to) w = omega arith
effect_sent event w = same_sent w.fabric.sent

pub sent_more : (script : ScriptOf) (before : List Event) (event : Event) → IsLawful script (before ++ event ∷ []) → (fabric_after script (before ++ event ∷ [])).sent ≡ (fabric_after script before).sent + length (sender_by event)
sent_more script before event all = ap (λ (f : FabricOf). f.sent) (behind_event script before event all) ∙ effect_sent event (world_after script before)

-- WHO SENDS AND WHAT MOVES

-- the hosts of a packet that may be sent are there
pub sender_within : (script : ScriptOf) (before : List Event) (from to : ℕ) → IsScript script → IsLawful script (before ++ Send from to ∷ []) → from < length script.wires.hosts
sender_within script before from to kept all =
    let within : from < length (fabric_after script before).script.wires.hosts = (event_fits (fabric_after script before) (Send from to) (world_fits script kept before) (lawful_last script before (Send from to) all) refl).0 in
    subst (λ (s : ScriptOf). from < length s.wires.hosts) (world_script script before) within

-- a packet that may move was sent
packet_found : (P : PacketOf → Type 0) (number : ℕ) (packets : List PacketOf) → All P packets → is_some (packet_of number packets) ≡ true → (p : PacketOf) × P p × (p.packet ≡ number)
packet_found P number [] all some = absurd (cc)
packet_found P number (q ∷ qs) all some = elim (cases_Bool (q.packet == number)) [
  | inl same ↦ (q, All-head P q qs all, eqb-true q.packet number same)
  | inr other ↦ (let rest : is_some (packet_of number qs) ≡ true = rw other at some in packet_found P number qs (All-tail P q qs all) rest)
]

pub packet_within : (script : ScriptOf) (before : List Event) (packet : ℕ) → IsScript script → IsLawful script (before ++ Move packet ∷ []) → (1 ≤ packet) × (packet ≤ (fabric_after script before).sent)
packet_within script before packet kept all =
    let f = fabric_after script before in
    let fits = world_fits script kept before in
    let some : is_some (packet_of packet f.packets) ≡ true = (lawful_is f (Move packet) (lawful_last script before (Move packet) all)).ready in
    let found = packet_found (IsPacketSound f.script f.sent) packet f.packets fits.packets.each some in
    (omega (arith, found.1.least, found.2), omega (arith, found.1.most, found.2))

-- one event more
pub senders_more : (before : List Event) (event : Event) → senders (before ++ event ∷ []) ≡ senders before ++ sender_by event
unfolding senders
senders_more before event =
    flat_map-append sender_by before (event ∷ []) ∙ ap (λ (hosts : List ℕ). flat_map sender_by before ++ hosts) (append-nil (sender_by event))

or_none : {X : Type 0} (o : Option X) → option_or o None ≡ o
or_none None = refl
or_none (Some x) = refl

pub first_move_more : (before : List Event) (event : Event) (packet : ℕ) → first_move (before ++ event ∷ []) packet ≡ option_or (first_move before packet) (cond (is_move_of packet event) (Some (record { before = before; event = event })) None)
unfolding first_move
first_move_more before event packet =
    ap (find (is_moving packet)) (moments_more before event)
    ∙ find-append (is_moving packet) (moments before) (record { before = before; event = event } ∷ [])

pub first_move_same : (before : List Event) (event : Event) (packet : ℕ) → is_move_of packet event ≡ false → first_move (before ++ event ∷ []) packet ≡ first_move before packet
first_move_same before event packet other =
    first_move_more before event packet
    ∙ ap (λ (b : Bool). option_or (first_move before packet) (cond b (Some (record { before = before; event = event })) None)) other
    ∙ or_none (first_move before packet)

pub beliefs_more : (script : ScriptOf) (before : List Event) (event : Event) → beliefs_of script (before ++ event ∷ []) ≡ beliefs_of script before ++ belief_by script before event
unfolding beliefs_of
beliefs_more script before event =
    ap (flat_map (belief_at script)) (moments_more before event)
    ∙ flat_map-append (belief_at script) (moments before) (record { before = before; event = event } ∷ [])
    ∙ ap (λ (bs : List Belief). flat_map (belief_at script) (moments before) ++ bs) (append-nil (belief_by script before event))

pub arrivals_more : (script : ScriptOf) (before : List Event) (event : Event) (host : ℕ) → arrivals_of script (before ++ event ∷ []) host ≡ arrivals_by script host before event ++ arrivals_of script before host
unfolding arrivals_of
arrivals_more script before event host =
    ap (λ (ms : List Moment). flat_map (arrivals_at script host) (reverse ms)) (moments_more before event)
    ∙ ap (flat_map (arrivals_at script host)) (reverse-append (moments before) (record { before = before; event = event } ∷ []))

-- WHAT IS TOLD OF A HOP

hop_told : (h : Hop) (packet place epoch entry : ℕ) → delivery_in (hop_line packet place epoch entry h ∷ []) ≡ delivered_by h
hop_told (hop.Went exit) packet place epoch entry = refl
hop_told (hop.Delivered exit host) packet place epoch entry = refl
hop_told (hop.Dropped why) packet place epoch entry = refl

move_told : (o : Option PacketOf) (f : FabricOf) → delivery_in (move_lines o f) ≡ option_and_then (λ (found : PacketOf). delivered_by (hop_of f found)) o
move_told None f = refl
move_told (Some p) f = hop_told (hop_of f p) p.packet p.at (epoch_in_use f p.at) p.entry

pub delivery_told : (w : WorldOf) (packet : ℕ) → delivery_in (lines_of w (Move packet)) ≡ delivery_of w.fabric packet
unfolding lines_of
delivery_told w packet = move_told (packet_of packet w.fabric.packets) w.fabric

-- THE TEXT

lines_joined : {X Y : Type 0} (f : Y → List ℕ) (g : X → List Y) (xs : List X) → flat_map (λ (x : X). flat_map f (g x)) xs ≡ flat_map f (flat_map g xs)
lines_joined f g [] = refl
lines_joined f g (x ∷ xs) = ap (λ (t : List ℕ). flat_map f (g x) ++ t) (lines_joined f g xs) ∙ sym (flat_map-append f (g x) (flat_map g xs))

pub names_told : (script : ScriptOf) (history : List Event) (end : Ending) → told_whole [] (belief_text script) (λ (_ : Ending). line_text (counts_words (beliefs_of script history))) history (Some end) ≡ names_text script history
unfolding told_whole told_so_far names_text beliefs_of
names_told script history end =
    ap (λ (t : List ℕ). t ++ line_text (counts_words (beliefs_of script history))) (lines_joined (belief_line script) (belief_at script) (moments history))

-- THE COUNTS

pub count_push : {X : Type 0} (p : X → Bool) (xs : List X) (x : X) → count_by p (xs ++ x ∷ []) ≡ count_by p xs + cond (p x) 1 0
count_push p xs x = sum_by_push (λ y. cond (p y) 1 0) xs x

one_each : (c : Choice) → cond (is_known c) 1 0 + cond (is_broadcast c) 1 0 ≡ 1
one_each (Known address) = refl
one_each Broadcast = refl

pub both_counts : (beliefs : List Belief) → count_by (λ (b : Belief). is_known b.choice) beliefs + count_by (λ (b : Belief). is_broadcast b.choice) beliefs ≡ length beliefs
both_counts [] = refl
both_counts (b ∷ bs) =
    let rest = both_counts bs in
    let here = one_each b.choice in
    let known : count_by (λ (x : Belief). is_known x.choice) (b ∷ bs) ≡ cond (is_known b.choice) 1 0 + count_by (λ (x : Belief). is_known x.choice) bs = sum_by-cons (λ (x : Belief). cond (is_known x.choice) 1 0) b bs in
    let broadcast : count_by (λ (x : Belief). is_broadcast x.choice) (b ∷ bs) ≡ cond (is_broadcast b.choice) 1 0 + count_by (λ (x : Belief). is_broadcast x.choice) bs = sum_by-cons (λ (x : Belief). cond (is_broadcast x.choice) 1 0) b bs in
    omega arith

-- ALL SENDS OF A HISTORY

pub belief_at_send : (script : ScriptOf) (before later : List Event) (from to : ℕ) → (behind : List Belief) × (beliefs_of script (before ++ Send from to ∷ later) ≡ beliefs_of script before ++ belief_of script before from to ∷ behind)
unfolding beliefs_of
belief_at_send script before later from to =
    let rest = moments_after (before ++ Send from to ∷ []) later in
    let here : Moment = record { before = before; event = Send from to } in (
      flat_map (belief_at script) rest,
      ap (flat_map (belief_at script)) (moments_on [] before (Send from to ∷ later)) ∙ flat_map-append (belief_at script) (moments before) (here ∷ rest),
    )

one_belief : (script : ScriptOf) (before : List Event) (event : Event) → length (belief_by script before event) ≡ length (sender_by event)
one_belief script before (Send from to) = refl
one_belief script before event = refl

as_many : (script : ScriptOf) (before events : List Event) → length (flat_map (belief_at script) (moments_after before events)) ≡ length (flat_map sender_by events)
as_many script before [] = refl
as_many script before (event ∷ events) =
    let rest = as_many script (before ++ event ∷ []) events in
    let here = one_belief script before event in
    let beliefs = length-append (belief_by script before event) (flat_map (belief_at script) (moments_after (before ++ event ∷ []) events)) in
    let hosts = length-append (sender_by event) (flat_map sender_by events) in
    omega (arith, rest, here, beliefs, hosts)

pub as_many_beliefs : (script : ScriptOf) (history : List Event) → length (beliefs_of script history) ≡ length (senders history)
unfolding beliefs_of senders
as_many_beliefs script history = as_many script [] history

-- the packets that were sent behind some events
sent_on : (script : ScriptOf) (before more : List Event) → AreLawful (world_after script before) more → (fabric_after script (before ++ more)).sent ≡ (fabric_after script before).sent + length (flat_map sender_by more)
sent_on script before [] lawful =
    let same : (fabric_after script (before ++ [])).sent ≡ (fabric_after script before).sent = ap (λ (h : List Event). (fabric_after script h).sent) (append-nil before) in
    omega (arith, same)
sent_on script before (event ∷ more) lawful =
    let world = world_after script before in
    let next : world_after script (before ++ event ∷ []) ≡ step world event = world_after-event script before event in
    let here : (fabric_after script (before ++ event ∷ [])).sent ≡ (fabric_after script before).sent + length (sender_by event) =
    ap (λ (w : WorldOf). w.fabric.sent) (next ∙ step-lawful world event lawful.0) ∙ effect_sent event world in
    let rest = sent_on script (before ++ event ∷ []) more (subst (λ (w : WorldOf). AreLawful w more) (sym next) lawful.1) in
    let joined : (fabric_after script (before ++ event ∷ more)).sent ≡ (fabric_after script ((before ++ event ∷ []) ++ more)).sent =
    ap (λ (h : List Event). (fabric_after script h).sent) (sym (append_assoc before (event ∷ []) more)) in
    let hosts = length-append (sender_by event) (flat_map sender_by more) in
    omega (arith, here, rest, joined, hosts)

pub sent_in_turn : (script : ScriptOf) (history : List Event) → IsLawful script history → length (senders history) ≡ (fabric_after script history).sent
unfolding senders
sent_in_turn script history lawful =
    let first : world_after script [] ≡ begun script = world_first script in
    let none : (fabric_after script []).sent ≡ 0 = ap (λ (w : WorldOf). w.fabric.sent) first in
    let all = sent_on script [] history (subst (λ (w : WorldOf). AreLawful w history) (sym first) lawful) in
    omega (arith, none, all)
