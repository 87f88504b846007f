-- What the wires hold for a switch, as frames are taken and given up.

use Rattle.std.specs.Prelude.{◌≡◌, ◌≢◌, ◌<◌, ℕ, nat_lt, length, cond, slice_set, slice_index_or, take, drop, List, [], ◌∷◌, ◌++◌, Option, Some, None, Bool, true, false, refl}
use Rattle.std.proofs.Common.{true≢false, sym, ◌∙◌, ap, subst, arith}
use Rattle.std.proofs.lemmas.Bool.{cond_both, and_parts, ltb-true}
use Rattle.std.proofs.lemmas.List.{get_or-set_other, get_or-set_same, length-set}
use Rattle.net_graph.specs.declared.wiring.Far.{Far}
use Rattle.net_graph.specs.declared.wiring.Far.TheVariants.{Switch, HostAt}
use Rattle.net_script.specs.Commands.{is_switch_far}
use Rattle.net_script.specs.Scripts.{ScriptOf}
use Rattle.wire_set.specs.Frames.{FramesOf, frames_at, frame, with_frames, append_to, move_first, move_second}
use Rattle.wire_set.specs.WireState.{WiresOf, is_link, place, side_at, wire_at, hand_of, is_second, with_side, less_to_swap}
use Rattle.wire_set.specs.WireState.{link_set, wires_cleared, fail_at}
use Rattle.wire_set.specs.WireState.{held_from, taken_frame, HaveSameFarEnds}
use Rattle.net_state.specs.declared.hand.Hand.{Hand}
use Rattle.net_state.specs.declared.hand.Hand.TheVariants as hand
use Rattle.net_state.specs.Fabric.{FabricOf, StationOf, vacant, has_frame}
use Rattle.net_state.specs.Effects.{released}
use Rattle.net_state.specs.Fits.{AreWiresSound, HoldsFor}
use Rattle.net_state.proofs.QueueLemmas.{Keeps, AreFarPorts, release_elsewhere, fail_elsewhere, wire_is_no_hand, hands_differ}
use Rattle.net_state.proofs.WiresLemmas.{release_sound}

-- what is in hand is given up
pub released_fars : (h : Hand) (t : ℕ) (w : WiresOf) → HaveSameFarEnds w (released h t w)
released_fars hand.Empty t w b = refl
released_fars (hand.Clock now samples) t w b = refl
released_fars (hand.Frame p) t w b = refl

-- a command's port with a link has one
pub switch_far_is : (far : Option Far) → is_switch_far far ≡ true → is_link far ≡ true
switch_far_is None is = absurd (true≢false (sym is))
switch_far_is (Some (Switch t q)) is = refl
switch_far_is (Some (HostAt n)) is = absurd (true≢false (sym is))

-- the wires stay sound
pub released_sound : (script : ScriptOf) (h : Hand) (t : ℕ) (w : WiresOf) → AreWiresSound script w → AreWiresSound script (released h t w)
released_sound script hand.Empty t w sound = sound
released_sound script (hand.Clock now samples) t w sound = sound
released_sound script (hand.Frame p) t w sound = release_sound script (place t 0) w sound

pub frame_here : (f : FabricOf) (s p : ℕ) → has_frame f s p ≡ true → (is_link (side_at f.wires (place s p)).far ≡ true) × (0 < length (wire_at f.wires (place s p)))
frame_here f s p is =
    let parts = and_parts (is_link (side_at f.wires (place s p)).far) (nat_lt 0 (length (wire_at f.wires (place s p)))) is in
    (parts.0, ltb-true 0 (length (wire_at f.wires (place s p))) parts.1)

-- what is taken is alone in hand
pub append_alone : (v : FramesOf) (wire to : ℕ) (rest : List (List ℕ)) (bytes : List ℕ) → to ≢ wire → to < length v.queues → frames_at v to ≡ [] → length (frames_at (append_to to bytes (with_frames wire rest v)) to) ≡ 1
append_alone v wire to rest bytes other below empty =
    let u = with_frames wire rest v in
    let size : length u.queues ≡ length v.queues = length-set v.queues wire rest in
    let now : frames_at (append_to to bytes u) to ≡ frames_at u to ++ bytes ∷ [] = get_or-set_same u.queues to (frames_at u to ++ bytes ∷ []) [] (omega (arith, size, below)) in
    let none : frames_at u to ≡ [] = get_or-set_other v.queues wire to rest [] other ∙ empty in
    ap (length {A = List ℕ}) (now ∙ ap (λ xs. xs ++ bytes ∷ []) none)

pub held_alone : (wire to : ℕ) (w : WiresOf) → to ≢ wire → to < length w.frames.queues → frames_at w.frames to ≡ [] → length (wire_at (held_from wire to w) to) ≡ 1
held_alone wire to w other below empty =
    cond_both (is_second wire w) (record (with_side wire (less_to_swap (side_at w wire)) w) { frames = move_second wire to w.frames }) (record w { frames = move_first wire to w.frames }) (λ (u : WiresOf). length (wire_at u to) ≡ 1)
    (λ _. append_alone w.frames wire to (take 1 (frames_at w.frames wire) ++ drop 2 (frames_at w.frames wire)) (frame w.frames wire 1) other below empty)
    (λ _. append_alone w.frames wire to (drop 1 (frames_at w.frames wire)) (frame w.frames wire 0) other below empty)

-- and it is the frame that was taken
append_is : (v : FramesOf) (wire to : ℕ) (rest : List (List ℕ)) (bytes : List ℕ) → to ≢ wire → to < length v.queues → frames_at v to ≡ [] → frames_at (append_to to bytes (with_frames wire rest v)) to ≡ bytes ∷ []
append_is v wire to rest bytes other below empty =
    let u = with_frames wire rest v in
    let size : length u.queues ≡ length v.queues = length-set v.queues wire rest in
    let now : frames_at (append_to to bytes u) to ≡ frames_at u to ++ bytes ∷ [] = get_or-set_same u.queues to (frames_at u to ++ bytes ∷ []) [] (omega (arith, size, below)) in
    let none : frames_at u to ≡ [] = get_or-set_other v.queues wire to rest [] other ∙ empty in
    now ∙ ap (λ xs. xs ++ bytes ∷ []) none

pub held_is : (wire to : ℕ) (w : WiresOf) → to ≢ wire → to < length w.frames.queues → frames_at w.frames to ≡ [] → wire_at (held_from wire to w) to ≡ taken_frame wire w ∷ []
held_is wire to w other below empty = by (is_second wire w) where
  by : (b : Bool) → wire_at (cond b (record (with_side wire (less_to_swap (side_at w wire)) w) { frames = move_second wire to w.frames }) (record w { frames = move_first wire to w.frames })) to
      ≡ cond b (frame w.frames wire 1) (frame w.frames wire 0) ∷ []
  by true = append_is w.frames wire to (take 1 (frames_at w.frames wire) ++ drop 2 (frames_at w.frames wire)) (frame w.frames wire 1) other below empty
  by false = append_is w.frames wire to (drop 1 (frames_at w.frames wire)) (frame w.frames wire 0) other below empty

pub empty_hand : (h : Hand) (xs : List (List ℕ)) → h ≡ hand.Empty → HoldsFor h xs → xs ≡ []
empty_hand h xs is holds = subst (λ (k : Hand). HoldsFor k xs) is holds

pub released_hand : (h : Hand) (t : ℕ) (w : WiresOf) → place t 0 < length w.frames.queues → HoldsFor h (hand_of w t) → hand_of (released h t w) t ≡ []
released_hand hand.Empty t w below holds = holds
released_hand (hand.Clock now samples) t w below holds = holds
released_hand (hand.Frame p) t w below holds = get_or-set_same w.frames.queues (place t 0) [] [] below

-- a change of what stands at one place
pub hand_set : (P : StationOf → Type 0) (stations : List StationOf) (t : ℕ) (x : StationOf) → t < length stations → P x → P (slice_index_or (slice_set stations t x) t vacant)
hand_set P stations t x below new = subst P (sym (get_or-set_same stations t x vacant below)) new

pub released_elsewhere : (h : Hand) (s t : ℕ) (w : WiresOf) → s ≢ t → Keeps (place s 0) w (released h t w)
released_elsewhere hand.Empty s t w other = refl
released_elsewhere (hand.Clock now samples) s t w other = refl
released_elsewhere (hand.Frame p) s t w other = release_elsewhere (place t 0) (place s 0) w (hands_differ s t other)

pub released_ports : (h : Hand) (t : ℕ) (w : WiresOf) → AreFarPorts w → AreFarPorts (released h t w)
released_ports hand.Empty t w ports = ports
released_ports (hand.Clock now samples) t w ports = ports
released_ports (hand.Frame p) t w ports = ports

pub fails_hand : (at s : ℕ) (w : WiresOf) → AreFarPorts w → place s 0 ≢ at → Keeps (place s 0) w (fail_at at w)
fails_hand at s w ports other = by_far (side_at w at).far refl where
  by_far : (far : Option Far) → (side_at w at).far ≡ far → Keeps (place s 0) w (fail_at at w)
  by_far None is =
      let P : Option Far → Type 0 = λ far. Keeps (place s 0) w (wires_cleared far at (link_set false far at w)) in subst P (sym is) refl
  by_far (Some (HostAt h)) is =
      let P : Option Far → Type 0 = λ far. Keeps (place s 0) w (wires_cleared far at (link_set false far at w)) in subst P (sym is) refl
  by_far (Some (Switch t p)) is = fail_elsewhere at (place s 0) w other (wire_is_no_hand w at s ports (ap is_link is))
