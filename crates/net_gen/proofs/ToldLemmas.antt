-- What the lines of a history tell of packets.

use Rattle.std.proofs.Common.{◌≡◌, refl, sym, ℕ, ◌+◌, List, [], ◌∷◌, ◌++◌, Option, Some, None, Bool, true, false, not, ◌==◌, cond, is_some, arith}
use Rattle.std.specs.Prelude.{◌&&◌, count_by, flat_map}
use Rattle.std.proofs.lemmas.List.Sums.{sum_by-append}
use Rattle.an_base.specs.Ports.{NoteOf}
use Rattle.an_base.specs.Values.{EndId, LifeId, TopoOf}
use Rattle.an_base.specs.declared.event.Event.{Event}
use Rattle.an_base.specs.declared.event.Event.TheVariants.{Clock, Take, Handle, Load, Restart}
use Rattle.an_base.specs.declared.port.PortState.{PortState}
use Rattle.port_monitor.specs.Histories.{externals}
use Rattle.frame_codec.specs.Reading.{frame_of}
use Rattle.wire_set.specs.WireState.{WiresOf, place as port_place, side_at, is_link, wire_out, what_becomes, taken_frame, held_from, what_copy_becomes}
use Rattle.wire_set.specs.declared.side.Loss.{Loss}
use Rattle.wire_set.specs.declared.side.Put.{Put}
use Rattle.wire_set.specs.declared.side.Put.TheVariants as put
use Rattle.table_build.specs.Made.{number_in}
use Rattle.switch_core.specs.Switch.{SwitchOf, finish_of, note_of}
use Rattle.switch_core.specs.Steps.{Step}
use Rattle.switch_core.specs.Bytes.{BytesOut, all_spelled}
use Rattle.net_state.specs.declared.hand.Hand.{Hand}
use Rattle.net_state.specs.declared.hand.Hand.TheVariants as hand
use Rattle.net_state.specs.PortStates.{state_code}
use Rattle.net_state.specs.Fabric.{station, held_bytes, side_of_port, switch_behind}
use Rattle.net_state.specs.Effects.{released, put_out}
use Rattle.net_state.specs.declared.line.Line.{Line}
use Rattle.net_state.specs.declared.line.Line.TheVariants as line
use Rattle.net_state.specs.Lines.{loss_line, lost_line, lost_lines, copy_line}
use Rattle.net_world.specs.Lines.{shown_in, port_line, no_frame_lines, has_joined, join_lines, no_epoch_lines, finish_line, finish_lines, handle_lines, load_lines, lines_of, all_lines}
use Rattle.net_world.specs.World.{WorldOf, handled, step}
use Rattle.fabric_book.specs.Nets.{driver_line, driver_lines}
use Rattle.fabric_book.proofs.DriverLemmas.{not_first}

-- a test that no line of frames, ports, epochs and lives passes
pub record IsOfPackets (p : Line → Bool) : Type 0 where
  pub port : (s q : ℕ) (state : PortState) (peer : Option EndId) → p (line.Port s q state peer) ≡ false
  pub no_frame : (s q : ℕ) → p (line.NoFrame s q) ≡ false
  pub join : (s epoch : ℕ) → p (line.Join s epoch) ≡ false
  pub spent : (s : ℕ) → p (line.Spent s) ≡ false
  pub finish : (s epoch : ℕ) (root : LifeId) (members : ℕ) → p (line.Finish s epoch root members) ≡ false
  pub lost : (s q : ℕ) (why : Loss) → p (line.Lost s q why) ≡ false
  pub load : (s epoch number : ℕ) → p (line.Load s epoch number) ≡ false
  pub restarted : (s : ℕ) → p (line.Restarted s) ≡ false

-- WORKERS TELL OF NO PACKET

module _ (p : Line → Bool) (of : IsOfPackets p) where
  abbrev None_pass : List Line → Type 0
  None_pass xs = count_by p xs ≡ 0

  one : (x : Line) → p x ≡ false → None_pass (x ∷ [])
  one x fails = rw fails refl

  both : (xs ys : List Line) → None_pass xs → None_pass ys → None_pass (xs ++ ys)
  both xs ys a b = let sum = sum_by-append (λ x. cond (p x) 1 0) xs ys in omega (arith, sum, a, b)

  either : (b : Bool) (xs ys : List Line) → None_pass xs → None_pass ys → None_pass (cond b xs ys)
  either true xs ys a c = a
  either false xs ys a c = c

  losses : (s q : ℕ) (what : Put) → None_pass (loss_line s q what)
  losses s q put.Kept = refl
  losses s q (put.Lost why) = one (line.Lost s q why) (of.lost s q why)

  ports : (s : ℕ) (before after : NoteOf) (qs : List ℕ) → None_pass (flat_map (port_line s before after) qs)
  ports s before after [] = refl
  ports s before after (q ∷ qs) =
      both (port_line s before after q) (flat_map (port_line s before after) qs)
      (either (state_code (shown_in before q).state == state_code (shown_in after q).state) [] (line.Port s q (shown_in after q).state (shown_in after q).peer ∷ []) refl (one (line.Port s q (shown_in after q).state (shown_in after q).peer) (of.port s q (shown_in after q).state (shown_in after q).peer)))
      (ports s before after qs)

  frames : (s : ℕ) (h : Hand) (bytes : List ℕ) → None_pass (no_frame_lines s h bytes)
  frames s hand.Empty bytes = refl
  frames s (hand.Clock now samples) bytes = refl
  frames s (hand.Frame q) bytes = either (is_some (frame_of bytes)) [] (line.NoFrame s q ∷ []) refl (one (line.NoFrame s q) (of.no_frame s q))

  finished : (s epoch : ℕ) (o : Option TopoOf) → None_pass (finish_line s epoch o)
  finished s epoch None = refl
  finished s epoch (Some topo) = one _ (of.finish s epoch _ _)

  all_lost : (s : ℕ) (outs : List BytesOut) (w : WiresOf) → None_pass (lost_lines s outs w)
  all_lost s [] w = refl
  all_lost s (out ∷ more) w =
      let what = what_becomes (port_place s out.port) (wire_out w s out.port) out.bytes w in
      both (lost_line s out w) (lost_lines s more (put_out s out w))
      (either (is_link (side_at w (port_place s out.port)).far) (loss_line s out.port what) [] (losses s out.port what) refl)
      (all_lost s more (put_out s out w))

  handling : (s : ℕ) (st : Step) (w : WorldOf) → None_pass (handle_lines s st w)
  handling s st w =
      let u = w.switches s in
      let v = st.switch in
      let h = (station w.fabric s).hand in
      let a : List Line = flat_map (port_line s (note_of u) (note_of v)) externals in
      let b : List Line = no_frame_lines s h (held_bytes w.fabric s) in
      let c : List Line = join_lines s u v in
      let d : List Line = no_epoch_lines s v in
      let e : List Line = finish_lines s u v in
      let f : List Line = lost_lines s (all_spelled st.frames) (released h s w.fabric.wires) in
      both (a ++ b ++ c ++ d ++ e) f
      (both (a ++ b ++ c ++ d) e
      (both (a ++ b ++ c) d
      (both (a ++ b) c
      (both a b (ports s (note_of u) (note_of v) externals) (frames s h (held_bytes w.fabric s)))
      (either (has_joined u v) (line.Join s v.epoch ∷ []) [] (one (line.Join s v.epoch) (of.join s v.epoch)) refl))
      (either v.spent (line.Spent s ∷ []) [] (one (line.Spent s) (of.spent s)) refl))
      (either (not (has_joined u v) && is_some (finish_of u)) [] (finish_line s v.epoch (finish_of v)) refl (finished s v.epoch (finish_of v))))
      (all_lost s (all_spelled st.frames) (released h s w.fabric.wires))

  copied : (far : Option (ℕ × ℕ)) (what : Option Put) → None_pass (copy_line far what)
  copied None what = refl
  copied (Some far) None = refl
  copied (Some far) (Some what) = losses far.0 far.1 what

  loaded : (o : Option TopoOf) (s : ℕ) (u : SwitchOf) → None_pass (load_lines o s u)
  loaded None s u = refl
  loaded (Some topo) s u = one _ (of.load s u.epoch (number_in topo u.life))

  -- SO THE DRIVER'S LINES TELL OF ALL PACKETS

  worker : (n : ℕ) (xs : List Line) → None_pass xs → count_by p (cond (n + 1 == 0) xs []) ≡ count_by p xs
  worker n xs none = rw (not_first n) (sym none)

  event : (w : WorldOf) (e : Event) → count_by p (driver_line w e) ≡ count_by p (lines_of w e)
  unfolding lines_of
  event w (Clock s) = worker s [] refl
  event w (Take s q) =
      let wire = port_place s q in
      worker s (lines_of w (Take s q)) (copied (switch_behind (side_of_port w.fabric s q).far) (what_copy_becomes wire (taken_frame wire w.fabric.wires) (held_from wire (port_place s 0) w.fabric.wires)))
  event w (Handle s) = worker s (lines_of w (Handle s)) (handling s (handled s w) w)
  event w (Load s) = worker s (lines_of w (Load s)) (loaded (finish_of (w.switches s)) s (w.switches s))
  event w (Restart s) = worker s (lines_of w (Restart s)) (one (line.Restarted s) (of.restarted s))
  event w e = refl

  pub all_told : (w : WorldOf) (h : List Event) → count_by p (driver_lines w h) ≡ count_by p (all_lines w h)
  all_told w [] = refl
  all_told w (e ∷ h) =
      let drivers = sum_by-append (λ x. cond (p x) 1 0) (driver_line w e) (driver_lines (step w e) h) in
      let all = sum_by-append (λ x. cond (p x) 1 0) (lines_of w e) (all_lines (step w e) h) in
      omega (arith, drivers, all, event w e, all_told (step w e) h)
