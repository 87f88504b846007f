-- What is told of the hops of a packet is its trace.

use Rattle.std.specs.Prelude.{◌≡◌, ◌==◌, ◌&&◌, ◌+◌, ◌++◌, ℕ, not, List, [], ◌∷◌, cond, filter, map, Option, Some, None, is_some, Result, Ok, Err, Bool, true, false, refl}
use Rattle.std.specs.List.{flat_map}
use Rattle.std.proofs.Common.{sym, ◌∙◌, ap}
use Rattle.std.proofs.lemmas.Bool.{eqb-true}
use Rattle.std.proofs.lemmas.List.{map-append}
use Rattle.std.proofs.lemmas.List.Elements.{filter-append}
use Rattle.an_base.specs.Values.{TopoOf}
use Rattle.an_base.specs.declared.event.Event.{Event}
use Rattle.an_base.specs.declared.event.Event.TheVariants.{Tick, Clock, Take, Handle, Load, Fail, Repair, Lose, Again, Swap, Noise, Send, Move, Restart}
use Rattle.port_monitor.specs.Histories.{externals}
use Rattle.net_script.specs.Scripts.{ScriptOf}
use Rattle.wire_set.specs.declared.side.Put.{Put}
use Rattle.wire_set.specs.declared.side.Put.TheVariants as put
use Rattle.wire_set.specs.WireState.{WiresOf, place as port_place, side_at, is_link, wire_out, what_becomes, taken_frame, held_from, what_copy_becomes}
use Rattle.frame_codec.specs.Reading.{frame_of}
use Rattle.an_base.specs.Ports.{NoteOf}
use Rattle.switch_core.specs.Switch.{SwitchOf, finish_of, note_of}
use Rattle.switch_core.specs.Steps.{Step}
use Rattle.switch_core.specs.Bytes.{BytesOut, all_spelled}
use Rattle.host_traffic.specs.declared.hop.Hop.{Hop}
use Rattle.host_traffic.specs.declared.hop.Hop.TheVariants as hop
use Rattle.host_traffic.specs.declared.hop.DropCause.{DropCause}
use Rattle.host_traffic.specs.Packets.{PacketOf, packet_of}
use Rattle.net_state.specs.declared.hand.Hand.{Hand}
use Rattle.net_state.specs.declared.hand.Hand.TheVariants as hand
use Rattle.net_state.specs.PortStates.{state_code}
use Rattle.net_state.specs.Fabric.{station, held_bytes, host_on, switch_behind, side_of_port}
use Rattle.net_state.proofs.MoveLemmas.{found_number}
use Rattle.net_state.specs.Lawful.{is_lawful}
use Rattle.net_state.specs.Effects.{address_for, released, put_out, noise, hop_of}
use Rattle.net_state.specs.declared.line.Line.{Line}
use Rattle.net_state.specs.declared.line.Line.TheVariants as line
use Rattle.net_state.specs.Lines.{epoch_in_use, loss_line, lost_line, lost_lines, copy_line, sent_line, hop_line, move_lines}
use Rattle.net_world.specs.Lines.{shown_in, port_line, no_frame_lines, has_joined, join_lines, no_epoch_lines, finish_line, finish_lines, handle_lines, load_lines, lines_of, all_lines}
use Rattle.net_world.specs.Histories.{AreLawful, IsLawful}
use Rattle.net_world.specs.Traces.{event_hop, hopped_of, hopped_by, moved_line, tells_of_hop, trace_from, trace_of}
use Rattle.net_world.specs.World.{WorldOf, begun, handled, step}

-- lines of which none tells of a hop
abbrev AreOther : ℕ → List Line → Type 0
AreOther k xs = filter (tells_of_hop k) xs ≡ []

both : (k : ℕ) (xs ys : List Line) → AreOther k xs → AreOther k ys → AreOther k (xs ++ ys)
both k xs ys a b = filter-append (tells_of_hop k) xs ys ∙ ap (λ (zs : List Line). zs ++ filter (tells_of_hop k) ys) a ∙ b

either : (k : ℕ) (b : Bool) (xs ys : List Line) → AreOther k xs → AreOther k ys → AreOther k (cond b xs ys)
either k true xs ys a c = a
either k false xs ys a c = c

loss_other : (k s p : ℕ) (what : Put) → AreOther k (loss_line s p what)
loss_other k s p put.Kept = refl
loss_other k s p (put.Lost cause) = refl

port_other : (k s : ℕ) (before after : NoteOf) (ports : List ℕ) → AreOther k (flat_map (port_line s before after) ports)
port_other k s before after [] = refl
port_other k s before after (p ∷ ports) =
    both k (port_line s before after p) (flat_map (port_line s before after) ports)
    (either k (state_code (shown_in before p).state == state_code (shown_in after p).state) [] (line.Port s p (shown_in after p).state (shown_in after p).peer ∷ []) refl refl)
    (port_other k s before after ports)

noise_other : (k s : ℕ) (h : Hand) (bytes : List ℕ) → AreOther k (no_frame_lines s h bytes)
noise_other k s hand.Empty bytes = refl
noise_other k s (hand.Clock now samples) bytes = refl
noise_other k s (hand.Frame p) bytes = either k (is_some (frame_of bytes)) [] (line.NoFrame s p ∷ []) refl refl

finish_other : (k s epoch : ℕ) (o : Option TopoOf) → AreOther k (finish_line s epoch o)
finish_other k s epoch None = refl
finish_other k s epoch (Some topo) = refl

lost_other : (k s : ℕ) (frames : List BytesOut) (w : WiresOf) → AreOther k (lost_lines s frames w)
lost_other k s [] w = refl
lost_other k s (out ∷ more) w =
    let what = what_becomes (port_place s out.port) (wire_out w s out.port) out.bytes w in
    both k (lost_line s out w) (lost_lines s more (put_out s out w)) (either k (is_link (side_at w (port_place s out.port)).far) (loss_line s out.port what) [] (loss_other k s out.port what) refl) (lost_other k s more (put_out s out w))

handle_other : (k s : ℕ) (st : Step) (w : WorldOf) → AreOther k (handle_lines s st w)
handle_other k s st w =
    let u = w.switches s in
    let v = st.switch in
    let h = (station w.fabric s).hand in
    let c : List Line = join_lines s u v in
    let d : List Line = no_epoch_lines s v in
    let e : List Line = finish_lines s u v in
    let f : List Line = lost_lines s (all_spelled st.frames) (released h s w.fabric.wires) in
    let a : List Line = flat_map (port_line s (note_of u) (note_of v)) externals in
    let b : List Line = no_frame_lines s h (held_bytes w.fabric s) in
    both k (a ++ b ++ c ++ d ++ e) f
    (both k (a ++ b ++ c ++ d) e
    (both k (a ++ b ++ c) d
    (both k (a ++ b) c
    (both k a b (port_other k s (note_of u) (note_of v) externals) (noise_other k s h (held_bytes w.fabric s)))
    (either k (has_joined u v) (line.Join s v.epoch ∷ []) [] refl refl))
    (either k v.spent (line.Spent s ∷ []) [] refl refl))
    (either k (not (has_joined u v) && is_some (finish_of u)) [] (finish_line s v.epoch (finish_of v)) refl (finish_other k s v.epoch (finish_of v))))
    (lost_other k s (all_spelled st.frames) (released h s w.fabric.wires))

copy_other : (k : ℕ) (far : Option (ℕ × ℕ)) (what : Option Put) → AreOther k (copy_line far what)
copy_other k None what = refl
copy_other k (Some far) None = refl
copy_other k (Some far) (Some what) = loss_other k far.0 far.1 what

load_other : (k s : ℕ) (o : Option TopoOf) (u : SwitchOf) → AreOther k (load_lines o s u)
load_other k s None u = refl
load_other k s (Some topo) u = refl

send_other : (k n a b : ℕ) (r : Result ℕ DropCause) → AreOther k (sent_line n a b r ∷ [])
send_other k n a b (Ok address) = refl
send_other k n a b (Err why) = refl

-- a hop that is made
hop_told : (k n : ℕ) (made : Hop) (w : WorldOf) (x : PacketOf) → x.packet ≡ n → filter (tells_of_hop k) (hop_line x.packet x.at (epoch_in_use w.fabric x.at) x.entry made ∷ []) ≡ map (moved_line k) (cond (n == k) (hopped_by made w x) [])
hop_told k n made w x is = by (n == k) refl made where
  same : (n == k) ≡ (x.packet == k)
  same = ap (λ m. m == k) (sym is)

  by : (b : Bool) → (n == k) ≡ b → (a : Hop) → filter (tells_of_hop k) (hop_line x.packet x.at (epoch_in_use w.fabric x.at) x.entry a ∷ []) ≡ map (moved_line k) (cond b (hopped_by a w x) [])
  by true at (hop.Went exit) =
      let here : (x.packet == k) ≡ true = sym same ∙ at in
      let number : x.packet ≡ k = eqb-true x.packet k here in
      let told : ℕ → Line = λ m. line.Moved m x.at (epoch_in_use w.fabric x.at) x.entry exit None in
      ap (λ (c : Bool). cond c (told x.packet ∷ []) []) here ∙ ap (λ m. told m ∷ []) number
  by false at (hop.Went exit) =
      let told : ℕ → Line = λ m. line.Moved m x.at (epoch_in_use w.fabric x.at) x.entry exit None in
      ap (λ (c : Bool). cond c (told x.packet ∷ []) []) (sym same ∙ at)
  by true at (hop.Delivered exit host) = refl
  by false at (hop.Delivered exit host) = refl
  by true at (hop.Dropped why) = refl
  by false at (hop.Dropped why) = refl

move_told : (k n : ℕ) (w : WorldOf) → filter (tells_of_hop k) (move_lines (packet_of n w.fabric.packets) w.fabric) ≡ map (moved_line k) (cond (n == k) (hopped_of (packet_of n w.fabric.packets) w) [])
move_told k n w = by (packet_of n w.fabric.packets) refl where
  none : (b : Bool) → [] ≡ map (moved_line k) (cond b [] [])
  none true = refl
  none false = refl

  by : (o : Option PacketOf) → packet_of n w.fabric.packets ≡ o → filter (tells_of_hop k) (move_lines o w.fabric) ≡ map (moved_line k) (cond (n == k) (hopped_of o w) [])
  by None there = none (n == k)
  by (Some x) there = hop_told k n (hop_of w.fabric x) w x (found_number n w.fabric.packets x there)

-- what is told of an event
event_told : (k : ℕ) (w : WorldOf) (e : Event) → filter (tells_of_hop k) (lines_of w e) ≡ map (moved_line k) (event_hop k w e)
unfolding lines_of
event_told k w Tick = refl
event_told k w (Clock s) = refl
event_told k w (Take s p) =
    let wire = port_place s p in
    copy_other k (switch_behind (side_of_port w.fabric s p).far) (what_copy_becomes wire (taken_frame wire w.fabric.wires) (held_from wire (port_place s 0) w.fabric.wires))
event_told k w (Handle s) = handle_other k s (handled s w) w
event_told k w (Load s) = load_other k s (finish_of (w.switches s)) (w.switches s)
event_told k w (Fail s p) = refl
event_told k w (Repair s p) = refl
event_told k w (Lose s p n) = refl
event_told k w (Again s p n) = refl
event_told k w (Swap s p n) = refl
event_told k w (Noise s p n) = loss_other k s p (what_becomes (port_place s p) (wire_out w.fabric.wires s p) (noise n) w.fabric.wires)
event_told k w (Send a b) = send_other k (w.fabric.sent + 1) a b (address_for w.fabric (host_on w.fabric a) (host_on w.fabric b))
event_told k w (Move n) = move_told k n w
event_told k w (Restart s) = refl

-- and of lawful events in turn
all_told : (k : ℕ) (h : List Event) (w : WorldOf) → AreLawful w h → filter (tells_of_hop k) (all_lines w h) ≡ map (moved_line k) (trace_from k w h)
all_told k [] w lawful = refl
all_told k (e ∷ h) w lawful =
    let now = cond (is_lawful w.fabric e) (event_hop k w e) [] in
    filter-append (tells_of_hop k) (lines_of w e) (all_lines (step w e) h)
    ∙ ap (λ (xs : List Line). xs ++ filter (tells_of_hop k) (all_lines (step w e) h)) (event_told k w e ∙ ap (λ (b : Bool). map (moved_line k) (cond b (event_hop k w e) [])) (sym lawful.0))
    ∙ ap (λ (ys : List Line). map (moved_line k) now ++ ys) (all_told k h (step w e) lawful.1)
    ∙ sym (map-append (moved_line k) now (trace_from k (step w e) h))

pub trace_told : (script : ScriptOf) (h : List Event) (k : ℕ) → IsLawful script h → filter (tells_of_hop k) (all_lines (begun script) h) ≡ map (moved_line k) (trace_of script h k)
unfolding trace_of
trace_told script h k lawful = all_told k h (begun script) lawful
