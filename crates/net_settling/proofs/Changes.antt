-- What each event does to one port of a switch, whatever lies behind it.

use Rattle.std.specs.Prelude.{◌≡◌, ◌⊎◌, ◌==◌, ◌<◌, ◌≤◌, ℕ, not, List, ◌∷◌, cond, Option, Some, None, Bool, true, false, refl}
use Rattle.std.proofs.Common.{true≢false, sym, ◌∙◌, ap, subst, inl, inr}
use Rattle.std.proofs.lemmas.Bool.{cases_eq}
use Rattle.an_base.specs.Values.{EndId}
use Rattle.an_base.specs.declared.event.Event.{Event}
use Rattle.an_base.specs.declared.event.Event.TheVariants.{Tick, Clock, Take, Handle, Load, Fail, Repair, Lose, Again, Swap, Noise, Send, Move, Restart}
use Rattle.an_base.specs.declared.frame.Frame.{Frame}
use Rattle.an_base.specs.declared.frame.Frame.TheVariants.{Reply}
use Rattle.an_base.specs.declared.port.Sample.{Sample}
use Rattle.connectivity.specs.Connections.{is_same_end}
use Rattle.net_script.specs.Scripts.{ScriptOf, IsScript}
use Rattle.frame_codec.specs.Reading.{frame_of}
use Rattle.port_monitor.specs.Histories.{History, Sampled, Replied, with_happening}
use Rattle.switch_core.specs.Switch.{SwitchOf, end_at}
use Rattle.switch_core.specs.Steps.{Step, sample_at, framed}
use Rattle.net_state.specs.declared.hand.Hand.{Hand}
use Rattle.net_state.specs.declared.hand.Hand.TheVariants as hand
use Rattle.net_state.specs.Fabric.{station, held_bytes, is_empty, sample_of, side_of_port}
use Rattle.net_state.specs.Lawful.{is_lawful}
use Rattle.net_state.proofs.LawfulLemmas.{lawful_is}
use Rattle.net_state.proofs.ReadyLemmas.{handle_ready}
use Rattle.net_world.specs.World.{WorldOf, effect, handles_bytes, world_after}
use Rattle.net_game.proofs.Firm.{places}
use Rattle.net_game.proofs.KindLemmas.{clock_is, framed_is}
use Rattle.net_settling.specs.Views.{has_clocked}
use Rattle.net_settling.proofs.Calm.{IsCalm}
use Rattle.net_settling.proofs.Samples.{AreSampled, sample_here}
use Rattle.net_settling.proofs.Viewed.{aside, clocked_not, frame_clocked, handled_clock, handled_clocked, handled_elsewhere, handled_frame, handled_switch, other_switch}

-- A port and its switch before and after: as they were; a reply; or the clock, with the sample of the present
pub data Changes (now : Sample) (before after : History) (had has : Bool) : Type 0 where
  stays : after ≡ before → has ≡ had → Changes now before after had has
  replied : (from : EndId) (nonce : ℕ) → after ≡ Replied from nonce ∷ before → has ≡ had → Changes now before after had has
  sampled : after ≡ Sampled now ∷ before → had ≡ false → has ≡ true → Changes now before after had has

abbrev pub ChangesAt : ScriptOf → List Event → Event → ℕ → ℕ → Type 0
ChangesAt script h e s p =
    Changes (sample_of (side_of_port (world_after script h).fabric s p)) (((world_after script h).switches s).ports p) (((effect e (world_after script h)).switches s).ports p) (has_clocked (world_after script h).fabric s) (has_clocked (effect e (world_after script h)).fabric s)

framed_change : (script : ScriptOf) → IsScript script → (h : List Event) (s q p : ℕ) → is_lawful (world_after script h).fabric (Handle s) ≡ true → (station (world_after script h).fabric s).hand ≡ hand.Frame q → ChangesAt script h (Handle s) s p
framed_change script kept h s q p lawful is = by (frame_of (held_bytes w.fabric s)) refl
  where
    w : WorldOf
    w = world_after script h

    u : SwitchOf
    u = w.switches s

    same : has_clocked (effect (Handle s) w).fabric s ≡ has_clocked w.fabric s
    same = frame_clocked script kept h s q s lawful is

    port_is : (o : Option Frame) → frame_of (held_bytes w.fabric s) ≡ o → ((effect (Handle s) w).switches s).ports p ≡ (handles_bytes q o u).switch.ports p
    port_is o read = ap (λ (x : SwitchOf). x.ports p) (handled_switch s w) ∙ ap (λ (st : Step). st.switch.ports p) (handled_frame s q w is ∙ ap (λ o. handles_bytes q o u) read)

    heard : (f : Frame) → frame_of (held_bytes w.fabric s) ≡ Some f → ((framed q f u).switch.ports ≡ u.ports) ⊎ ((from to : EndId) × (nonce : ℕ) × (f ≡ Reply from to nonce) × (is_same_end to (end_at u q) ≡ true) × ((framed q f u).switch.ports ≡ with_happening q (Replied from nonce) u.ports)) → ChangesAt script h (Handle s) s p
    heard f read (inl none) = stays (port_is (Some f) read ∙ ap (λ (g : ℕ → History). g p) none) same
    heard f read (inr r) = by_port (p == q) refl
      where
        now : ((effect (Handle s) w).switches s).ports p ≡ cond (p == q) (Replied r.0 r.2 ∷ u.ports p) (u.ports p)
        now = port_is (Some f) read ∙ ap (λ (g : ℕ → History). g p) r.5

        by_port : (b : Bool) → (p == q) ≡ b → ChangesAt script h (Handle s) s p
        by_port true at = replied r.0 r.2 (now ∙ ap (λ b. cond b (Replied r.0 r.2 ∷ u.ports p) (u.ports p)) at) same
        by_port false at = stays (now ∙ ap (λ b. cond b (Replied r.0 r.2 ∷ u.ports p) (u.ports p)) at) same

    by : (o : Option Frame) → frame_of (held_bytes w.fabric s) ≡ o → ChangesAt script h (Handle s) s p
    by None read = stays (port_is None read) same
    by (Some f) read = heard f read (framed_is q f u).ports

clocked_change : (script : ScriptOf) → IsScript script → (h : List Event) (s n p : ℕ) (samples : List Sample) → AreSampled script 0 (world_after script h) → s < places script → 1 ≤ p → p ≤ 12 → is_lawful (world_after script h).fabric (Handle s) ≡ true → (station (world_after script h).fabric s).hand ≡ hand.Clock n samples → ChangesAt script h (Handle s) s p
clocked_change script kept h s n p samples all low least most lawful is =
    let w = world_after script h in
    let u = w.switches s in
    sampled
    (ap (λ (x : SwitchOf). x.ports p) (handled_switch s w) ∙ ap (λ (st : Step). st.switch.ports p) (handled_clock s n samples w is) ∙ (clock_is n samples u).ports p
    ∙ ap (λ x. Sampled x ∷ u.ports p) (ap (λ xs. sample_at xs p) (all s low n samples is) ∙ sample_here w.fabric s p least most))
    (clocked_not w.fabric s n samples is) (handled_clocked script kept h s lawful)

handled_change : (script : ScriptOf) → IsScript script → (h : List Event) (s p : ℕ) → AreSampled script 0 (world_after script h) → s < places script → 1 ≤ p → p ≤ 12 → is_lawful (world_after script h).fabric (Handle s) ≡ true → ChangesAt script h (Handle s) s p
handled_change script kept h s p all low least most lawful = by (station w.fabric s).hand refl
  where
    w : WorldOf
    w = world_after script h

    by : (x : Hand) → (station w.fabric s).hand ≡ x → ChangesAt script h (Handle s) s p
    by hand.Empty is = absurd (true≢false (sym (handle_ready w.fabric s (lawful_is w.fabric (Handle s) lawful).ready).1 ∙ ap (λ (x : Hand). not (is_empty x)) is))
    by (hand.Clock n samples) is = clocked_change script kept h s n p samples all low least most lawful is
    by (hand.Frame q) is = framed_change script kept h s q p lawful is

handle_change : (script : ScriptOf) → IsScript script → (h : List Event) (t s p : ℕ) → AreSampled script 0 (world_after script h) → s < places script → 1 ≤ p → p ≤ 12 → is_lawful (world_after script h).fabric (Handle t) ≡ true → ChangesAt script h (Handle t) s p
handle_change script kept h t s p all low least most lawful = by (cases_eq s t)
  where
    w : WorldOf
    w = world_after script h

    by : (s ≡ t) ⊎ (s ≡ t → ⊥) → ChangesAt script h (Handle t) s p
    by (inl same) = subst (λ n. ChangesAt script h (Handle n) s p) same (handled_change script kept h s p all low least most (subst (λ n. is_lawful w.fabric (Handle n) ≡ true) (sym same) lawful))
    by (inr other) = stays (ap (λ (u : SwitchOf). u.ports p) (other_switch t s w other)) (handled_elsewhere w t s other)

aside_change : (script : ScriptOf) → IsScript script → (h : List Event) (e : Event) (s p : ℕ) → IsCalm script h e → (e ≡ Tick → ⊥) → ((t : ℕ) → e ≡ Handle t → ⊥) → ChangesAt script h e s p
aside_change script kept h e s p calm no_tick no_handle = let k = aside script kept h e calm no_tick no_handle in stays (ap (λ (f : ℕ → History). f p) (k.ports s)) (k.clocked s)

pub change_at : (script : ScriptOf) → IsScript script → (h : List Event) (e : Event) (s p : ℕ) → IsCalm script h e → (e ≡ Tick → ⊥) → AreSampled script 0 (world_after script h) → s < places script → 1 ≤ p → p ≤ 12 → ChangesAt script h e s p
change_at script kept h (Handle t) s p calm no_tick all low least most = handle_change script kept h t s p all low least most calm.lawful
change_at script kept h Tick s p calm no_tick all low least most = absurd (no_tick refl)
change_at script kept h (Clock t) s p calm no_tick all low least most = aside_change script kept h (Clock t) s p calm no_tick (λ n e. cc)
change_at script kept h (Take t q) s p calm no_tick all low least most = aside_change script kept h (Take t q) s p calm no_tick (λ n e. cc)
change_at script kept h (Load t) s p calm no_tick all low least most = aside_change script kept h (Load t) s p calm no_tick (λ n e. cc)
change_at script kept h (Fail t q) s p calm no_tick all low least most = aside_change script kept h (Fail t q) s p calm no_tick (λ n e. cc)
change_at script kept h (Repair t q) s p calm no_tick all low least most = aside_change script kept h (Repair t q) s p calm no_tick (λ n e. cc)
change_at script kept h (Lose t q n) s p calm no_tick all low least most = aside_change script kept h (Lose t q n) s p calm no_tick (λ n e. cc)
change_at script kept h (Again t q n) s p calm no_tick all low least most = aside_change script kept h (Again t q n) s p calm no_tick (λ n e. cc)
change_at script kept h (Swap t q n) s p calm no_tick all low least most = aside_change script kept h (Swap t q n) s p calm no_tick (λ n e. cc)
change_at script kept h (Noise t q n) s p calm no_tick all low least most = aside_change script kept h (Noise t q n) s p calm no_tick (λ n e. cc)
change_at script kept h (Send a b) s p calm no_tick all low least most = aside_change script kept h (Send a b) s p calm no_tick (λ n e. cc)
change_at script kept h (Move k) s p calm no_tick all low least most = aside_change script kept h (Move k) s p calm no_tick (λ n e. cc)
change_at script kept h (Restart t) s p calm no_tick all low least most = aside_change script kept h (Restart t) s p calm no_tick (λ n e. cc)
