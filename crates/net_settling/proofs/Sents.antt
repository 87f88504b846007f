-- What goes out by a lawful handling: frames that can be, each from the present life and its port.

use Rattle.std.specs.Prelude.{◌≡◌, ◌<◌, ℕ, List, [], ◌∷◌, ◌++◌, All, cond, Option, Some, None, Bool, true, false, refl}
use Rattle.std.proofs.Common.{sym, ◌∙◌, ap, subst, arith, eq-eqb}
use Rattle.an_base.specs.Values.{LifeId}
use Rattle.an_base.specs.declared.event.Event.{Event}
use Rattle.an_base.specs.declared.event.Event.TheVariants.{Handle}
use Rattle.an_base.specs.declared.frame.Frame.{Frame}
use Rattle.an_base.specs.declared.frame.Frame.TheVariants.{Carry, Ack, Probe, Reply}
use Rattle.common_values.proofs.TestLemmas.{by_test}
use Rattle.connectivity.specs.Connections.{is_same_end}
use Rattle.net_script.specs.Scripts.{ScriptOf, IsScript}
use Rattle.frame_codec.specs.Frames.{IsFrame}
use Rattle.frame_codec.specs.Reading.{frame_of}
use Rattle.wire_set.specs.WireState.{place, hand_of}
use Rattle.switch_core.specs.Switch.{SwitchOf, end_at}
use Rattle.switch_core.specs.Steps.{clocked, framed}
use Rattle.switch_game.proofs.Laws.{own_of}
use Rattle.switch_game.proofs.Own.{IsOwn}
use Rattle.link_settling.specs.Moves.{IsFrom}
use Rattle.link_settling.proofs.Keeps.{keeps_clock, keeps_carry, keeps_ack, keeps_probe, keeps_reply, keeps_other_reply}
use Rattle.net_state.specs.declared.hand.Hand.{Hand}
use Rattle.net_state.specs.declared.hand.Hand.TheVariants as hand
use Rattle.net_state.specs.Fabric.{station, held_bytes, is_full_at}
use Rattle.net_state.specs.Lawful.{is_lawful}
use Rattle.net_state.proofs.LawfulLemmas.{lawful_is}
use Rattle.net_state.proofs.ReadyLemmas.{handle_ready}
use Rattle.net_world.specs.Histories.{switch_after}
use Rattle.net_world.specs.World.{WorldOf, effect, handled, handles, handles_bytes, world_after}
use Rattle.net_world.proofs.WorldLemmas.{world_after-event, step-lawful}
use Rattle.net_world.proofs.SpentLemmas.{full_unspent, world_empty}
use Rattle.net_game.specs.Lives.{all_lives, powered}
use Rattle.net_game.specs.Moves.{game_after}
use Rattle.net_game.proofs.Firm.{places}
use Rattle.net_game.proofs.LivesLemmas.{firm}
use Rattle.net_game.proofs.EachLemmas.{each_index}
use Rattle.net_game.proofs.KnownLemmas.{IsKnown, known_frame, empty_none}
use Rattle.net_game.proofs.RangedFrames.{IsSender, AreFrames, clocked_frames, framed_frames}
use Rattle.net_game.proofs.RangedSwitch.{ranged_sampled}
use Rattle.net_game.proofs.EmbedLemmas.{all_ranged, chain_of, embedded}
use Rattle.net_game.proofs.PortFacts.{external}
use Rattle.net_game.proofs.KindLemmas.{framed_is}

own_at : (script : ScriptOf) → IsScript script → (h : List Event) (s : ℕ) → s < places script → IsOwn (switch_after script h s).life (switch_after script h s)
own_at script kept h s low =
    let w = embedded script (all_lives script) kept (firm script kept) h in
    subst (IsOwn (switch_after script h s).life) (w.is_in.switches s low) (own_of (all_lives script) (powered script) w.network (game_after script h) (switch_after script h s).life w.is_in.happens)

after_handle : (script : ScriptOf) (h : List Event) (t : ℕ) → is_lawful (world_after script h).fabric (Handle t) ≡ true → switch_after script (h ++ Handle t ∷ []) t ≡ (handled t (world_after script h)).switch
unfolding effect
after_handle script h t lawful =
    let w = world_after script h in
    ap (λ (v : WorldOf). v.switches t) (world_after-event script h (Handle t) ∙ step-lawful w (Handle t) lawful)
    ∙ ap (λ (b : Bool). cond b (handled t w).switch (w.switches t)) (eq-eqb t t refl)

sender_at : (script : ScriptOf) → IsScript script → (h : List Event) (s : ℕ) → s < places script → (works : ℕ) × IsSender works (switch_after script h s).life (switch_after script h s)
sender_at script kept h s low =
    let k = (firm script kept h).sound s low in
    let few = k.few in
    (k.works, record { few = omega (arith, few); own = own_at script kept h s low; sound = k.sound; ranged = all_ranged script (all_lives script) kept (firm script kept) h s low })

-- the frame in hand is one that can be
pub hand_frame : (script : ScriptOf) → IsScript script → (h : List Event) (s : ℕ) (f : Frame) → frame_of (held_bytes (world_after script h).fabric s) ≡ Some f → IsFrame f
hand_frame script kept h s f read =
    let state = (chain_of script (all_lives script) kept (firm script kept) h).state in
    let w = world_after script h in
    known_frame state.network.sent (held_bytes w.fabric s) f (each_index (IsKnown state.network.sent) (hand_of w.fabric.wires s) 0 [] (inr_none) (state.holds.heard (place s 0))) read
  where
    inr_none : IsKnown (chain_of script (all_lives script) kept (firm script kept) h).state.network.sent []
    inr_none = Rattle.std.proofs.Common.inr empty_none

pub works_full : (script : ScriptOf) → IsScript script → (h : List Event) (s : ℕ) → s < places script → is_full_at (world_after script h).fabric s ≡ true → (switch_after script h s).spent ≡ false
works_full script kept h s low full = sym ((firm script kept h).spent s low) ∙ full_unspent (world_after script h).fabric s (world_empty script h) full

-- what goes out is within the ranges of frames
pub handled_frames : (script : ScriptOf) → IsScript script → (h : List Event) (t : ℕ) → t < places script → is_lawful (world_after script h).fabric (Handle t) ≡ true → AreFrames (handled t (world_after script h)).frames
unfolding handles
handled_frames script kept h t low lawful = by (station w.fabric t).hand refl k.1
  where
    w : WorldOf
    w = world_after script h

    u : SwitchOf
    u = w.switches t

    full : is_full_at w.fabric t ≡ true
    full = (handle_ready w.fabric t (lawful_is w.fabric (Handle t) lawful).ready).1

    sender : (works : ℕ) × IsSender works (switch_after script (h ++ Handle t ∷ []) t).life (switch_after script (h ++ Handle t ∷ []) t)
    sender = sender_at script kept (h ++ Handle t ∷ []) t low

    k : (works : ℕ) × IsSender works (handled t w).switch.life (handled t w).switch
    k = subst (λ (v : SwitchOf). (works : ℕ) × IsSender works v.life v) (after_handle script h t lawful) sender

    by_frame : (port : ℕ) (o : Option Frame) → (station w.fabric t).hand ≡ hand.Frame port → frame_of (held_bytes w.fabric t) ≡ o → IsSender k.0 (handles_bytes port o u).switch.life (handles_bytes port o u).switch → AreFrames (handles_bytes port o u).frames
    by_frame port None is read sends = tt
    by_frame port (Some f) is read sends =
        let ports = external script kept h t port low is in
        framed_frames k.0 (framed port f u).switch.life port f u (subst (λ (y : LifeId). IsOwn y u) (sym (framed_is port f u).life) (own_at script kept h t low)) (works_full script kept h t low full) ports.0 ports.1 (hand_frame script kept h t f read) (all_ranged script (all_lives script) kept (firm script kept) h t low) sends

    by : (i : Hand) → (station w.fabric t).hand ≡ i → IsSender k.0 (handles i (held_bytes w.fabric t) u).switch.life (handles i (held_bytes w.fabric t) u).switch → AreFrames (handles i (held_bytes w.fabric t) u).frames
    by hand.Empty is sends = tt
    by (hand.Clock now samples) is sends = clocked_frames k.0 (clocked now samples u).switch.life now samples u (ranged_sampled now samples u (all_ranged script (all_lives script) kept (firm script kept) h t low)) sends
    by (hand.Frame port) is sends = by_frame port (frame_of (held_bytes w.fabric t)) is refl sends

-- and is from the present life and its port
framed_out : (port : ℕ) (f : Frame) (u : SwitchOf) → All (IsFrom u.life) (framed port f u).frames
framed_out port (Carry f) u = (keeps_carry port f u).out
framed_out port (Ack epoch from to n) u = (keeps_ack port epoch n from to u).out
framed_out port (Probe from nonce) u = (keeps_probe port nonce from u).out
framed_out port (Reply from to nonce) u =
    by_test (λ b. is_same_end to (end_at u port) ≡ b → All (IsFrom u.life) (framed port (Reply from to nonce) u).frames) (is_same_end to (end_at u port))
    (λ is _. (keeps_reply port nonce from to u is).out) (λ is _. (keeps_other_reply port nonce from to u is).out) refl

pub handled_out : (t : ℕ) (w : WorldOf) → All (IsFrom (w.switches t).life) (handled t w).frames
unfolding handles
handled_out t w = by (station w.fabric t).hand
  where
    none : All (IsFrom (w.switches t).life) []
    none k d low = absurd (omega (arith, low))

    by_frame : (port : ℕ) (o : Option Frame) → All (IsFrom (w.switches t).life) (handles_bytes port o (w.switches t)).frames
    by_frame port None = none
    by_frame port (Some f) = framed_out port f (w.switches t)

    by : (i : Hand) → All (IsFrom (w.switches t).life) (handles i (held_bytes w.fabric t) (w.switches t)).frames
    by hand.Empty = none
    by (hand.Clock now samples) = (keeps_clock now samples (w.switches t)).out
    by (hand.Frame port) = by_frame port (frame_of (held_bytes w.fabric t))
