-- What each event does to what an end of a link sees of the tick.

use Rattle.std.specs.Prelude.{◌≡◌, ◌⊎◌, ◌+◌, ◌==◌, ◌<◌, ◌&&◌, ℕ, not, nat_le, List, [], ◌∷◌, slice_index_or, slice_set, cond, Option, Some, None, Bool, true, false, IsTrue, refl}
use Rattle.std.proofs.Common.{true≢false, sym, ◌∙◌, ap, subst, inl, inr, arith, ne_eqb}
use Rattle.std.proofs.lemmas.Bool.{false≢true, cases_eq, eqb-true, leb-false, lt-leb, and_parts, and_from}
use Rattle.std.proofs.lemmas.List.{get_or-set_other, get_or-set_same}
use Rattle.an_base.specs.Values.{EndId, TopoOf}
use Rattle.an_base.specs.declared.event.Event.{Event}
use Rattle.an_base.specs.declared.event.Event.TheVariants.{Tick, Clock, Take, Handle, Load, Fail, Repair, Lose, Again, Swap, Noise, Send, Move, Restart}
use Rattle.an_base.specs.declared.frame.Frame.{Frame}
use Rattle.an_base.specs.declared.frame.Frame.TheVariants.{Carry, Ack, Probe, Reply}
use Rattle.an_base.specs.declared.port.Sample.{Sample}
use Rattle.an_base.specs.declared.port.Sample.TheVariants as sample
use Rattle.connectivity.specs.Connections.{is_same_end}
use Rattle.connectivity.proofs.EndLemmas.{same_end_is}
use Rattle.net_graph.specs.declared.wiring.Far.{Far}
use Rattle.net_script.specs.Scripts.{ScriptOf, IsScript}
use Rattle.frame_codec.specs.Reading.{frame_of}
use Rattle.frame_codec.specs.Spelling.{spelling}
use Rattle.frame_codec.proofs.Decoding.{frame_again}
use Rattle.port_monitor.specs.declared.port.Phase.TheVariants.{Switch}
use Rattle.port_monitor.specs.declared.port.Port.{Port}
use Rattle.port_monitor.specs.Histories.{History, Sampled, Replied, port_after, with_happening}
use Rattle.link_settling.specs.Links.{Speaks, nonce_after}
use Rattle.link_settling.specs.Moments.{EndView, EndStep, clocks, far_clocks, hears, far_hears, answers, passes, EndRun, then_step}
use Rattle.link_settling.proofs.Basics.{same_end}
use Rattle.link_settling.proofs.Ports.{replied_as}
use Rattle.link_settling.proofs.Asks.{clock_asks, probe_answered, probe_by}
use Rattle.topo_report.proofs.Members.{In, in_from}
use Rattle.wire_set.specs.WireState.{place, hand_of}
use Rattle.epoch_game.proofs.Basics.{none_some, number_itself}
use Rattle.switch_core.specs.Switch.{SwitchOf, end_at, port_of, finish_of}
use Rattle.switch_core.specs.Steps.{Sent, clocked, framed, still, is_spent_by, sampled_by, sample_at}
use Rattle.net_state.specs.declared.hand.Hand.{Hand}
use Rattle.net_state.specs.declared.hand.Hand.TheVariants as hand
use Rattle.net_state.specs.Fabric.{FabricOf, StationOf, station, vacant, held_bytes, is_up, is_full_at, clock_due_at, sample_of, sample_behind, samples_of, side_of_port}
use Rattle.net_state.specs.Lawful.{is_lawful}
use Rattle.net_state.proofs.LawfulLemmas.{lawful_is}
use Rattle.net_state.proofs.ReadyLemmas.{clock_ready, handle_ready, take_ready, empty_at}
use Rattle.net_world.specs.Sound.{HandFits}
use Rattle.net_world.specs.World.{WorldOf, effect, handled, handles, handles_bytes, loads_with, world_after}
use Rattle.net_world.proofs.LawLemmas.{world_is_sound}
use Rattle.net_game.proofs.Firm.{places}
use Rattle.net_game.proofs.EachLemmas.{each_index, each_in}
use Rattle.net_game.proofs.KindLemmas.{clock_is}
use Rattle.net_game.proofs.RangedFrames.{IsOut}
use Rattle.net_settling.specs.Disturbances.{is_of_script}
use Rattle.net_settling.specs.Views.{LinkOf, turned, end_here, end_there, is_clock, has_clocked, is_such, is_some_under_way, is_probe, is_reply, nonce_here, under_way_to, view}
use Rattle.net_settling.proofs.Calm.{IsCalm, unspent_here}
use Rattle.net_settling.proofs.Under.{such_way, way_such, such_frame}
use Rattle.net_settling.proofs.Linked.{IsLinkOf, ends_apart, link_turned, side_far, up_turned}
use Rattle.net_settling.proofs.Passing.{WasHeld, below, within, way_stays, sent_comes, calm_parts, set_cases, set_hand}
use Rattle.net_settling.proofs.Senders.{AreFromEnds, IsFromEnd, lives_of, calm_lives}
use Rattle.net_settling.proofs.Samples.{AreSampled, sample_here}
use Rattle.net_settling.proofs.Sents.{handled_frames}

-- what is known at a moment of an event that does not disturb, on a link that is up
pub record IsMoment (script : ScriptOf) (h : List Event) (e : Event) (l : LinkOf) : Type 0 where
  pub kept : IsScript script
  pub calm : IsCalm script h e
  pub link : IsLinkOf script l
  pub up : is_up (world_after script h).fabric l.place l.port ≡ true
  pub froms : AreFromEnds script (lives_of (world_after script h)) (world_after script h)
  pub samples : AreSampled script 0 (world_after script h)

pub moment_turned : (script : ScriptOf) (h : List Event) (e : Event) (l : LinkOf) → IsMoment script h e l → IsMoment script h e (turned l)
moment_turned script h e l m = record { kept = m.kept; calm = m.calm; link = link_turned script l m.link; up = up_turned script m.kept h l m.link m.up; froms = m.froms; samples = m.samples }

-- a view by its parts
viewed : (v : EndView) (h t : History) (c d : Bool) → v.here ≡ h → v.there ≡ t → v.has_clocked ≡ c → v.far_has_clocked ≡ d → v ≡ record { here = h; there = t; has_clocked = c; far_has_clocked = d; probe = v.probe; reply = v.reply }
viewed v h t c d eh et ec ed = λ i. record { here = eh i; there = et i; has_clocked = ec i; far_has_clocked = ed i; probe = v.probe; reply = v.reply }

-- clocks that were handled
clocked_same : (f g : FabricOf) (s : ℕ) → g.tick ≡ f.tick → (station g s).clock ≡ (station f s).clock → is_clock (station g s).hand ≡ is_clock (station f s).hand → has_clocked g s ≡ has_clocked f s
clocked_same f g s tick clock hands = λ i. not (nat_le (clock i) (tick i)) && not (hands i)

-- what a handling leaves of a place
pub hand_now : (script : ScriptOf) → IsScript script → (h : List Event) (s : ℕ) → is_lawful (world_after script h).fabric (Handle s) ≡ true → s < places script
hand_now script kept h s lawful = below script h s (handle_ready (world_after script h).fabric s (lawful_is (world_after script h).fabric (Handle s) lawful).ready).0

-- the clock of a switch with a full hand is of the next tick
pub full_clock : (script : ScriptOf) → IsScript script → (h : List Event) (s : ℕ) → s < places script → is_full_at (world_after script h).fabric s ≡ true → (station (world_after script h).fabric s).clock ≡ (world_after script h).fabric.tick + 1
full_clock script kept h s low full = by (station w.fabric s).hand refl ((world_is_sound script kept h).places s low).fits
  where
    w : WorldOf
    w = world_after script h

    by : (x : Hand) → (station w.fabric s).hand ≡ x → HandFits w.fabric.tick (station w.fabric s).clock (w.switches s) x → (station w.fabric s).clock ≡ w.fabric.tick + 1
    by hand.Empty is fits = absurd (true≢false (sym full ∙ ap (λ (x : Hand). not (Rattle.net_state.specs.Fabric.is_empty x)) is))
    by (hand.Clock n samples) is fits = fits.1
    by (hand.Frame p) is fits = fits.4

past_due : (f : FabricOf) (s : ℕ) → (station f s).clock ≡ f.tick + 1 → clock_due_at f s ≡ false
past_due f s is = lt-leb (station f s).clock f.tick (omega (arith, is))

clocked_full : (script : ScriptOf) → IsScript script → (h : List Event) (s p : ℕ) → s < places script → (station (world_after script h).fabric s).hand ≡ hand.Frame p → has_clocked (world_after script h).fabric s ≡ true
clocked_full script kept h s p low is =
    let f = (world_after script h).fabric in
    let full : is_full_at f s ≡ true = ap (λ (x : Hand). not (Rattle.net_state.specs.Fabric.is_empty x)) is in
    ap (λ b. not b && not (is_clock (station f s).hand)) (past_due f s (full_clock script kept h s low full)) ∙ ap (λ (x : Hand). not (is_clock x)) is

pub clocked_not : (f : FabricOf) (s n : ℕ) (samples : List Sample) → (station f s).hand ≡ hand.Clock n samples → has_clocked f s ≡ false
clocked_not f s n samples is = ap (λ (x : Hand). not (clock_due_at f s) && not (is_clock x)) is ∙ by (not (clock_due_at f s))
  where
    by : (b : Bool) → (b && false) ≡ false
    by true = refl
    by false = refl

pub handled_clocked : (script : ScriptOf) → IsScript script → (h : List Event) (s : ℕ) → is_lawful (world_after script h).fabric (Handle s) ≡ true → has_clocked (effect (Handle s) (world_after script h)).fabric s ≡ true
unfolding effect
handled_clocked script kept h s lawful =
    let w = world_after script h in
    let f = w.fabric in
    let g = (effect (Handle s) w).fabric in
    let low = hand_now script kept h s lawful in
    let now : station g s ≡ _ = get_or-set_same f.stations s _ vacant (within script kept h s low) in
    let clock : (station g s).clock ≡ f.tick + 1 = ap (λ (x : StationOf). x.clock) now ∙ full_clock script kept h s low (handle_ready f s (lawful_is f (Handle s) lawful).ready).1 in
    ap (λ b. not b && not (is_clock (station g s).hand)) (past_due g s clock) ∙ ap (λ (x : StationOf). not (is_clock x.hand)) now

pub handled_elsewhere : (w : WorldOf) (s t : ℕ) → (t ≡ s → ⊥) → has_clocked (effect (Handle s) w).fabric t ≡ has_clocked w.fabric t
unfolding effect
handled_elsewhere w s t other =
    let same = get_or-set_other w.fabric.stations s t _ vacant other in
    clocked_same w.fabric (effect (Handle s) w).fabric t refl (ap (λ (x : StationOf). x.clock) same) (ap (λ (x : StationOf). is_clock x.hand) same)

-- another event but a tick changes neither ports nor clocks that were handled
pub record IsAside (w v : WorldOf) : Type 0 where
  pub ports : (s : ℕ) → (v.switches s).ports ≡ (w.switches s).ports
  pub clocked : (s : ℕ) → has_clocked v.fabric s ≡ has_clocked w.fabric s

clock_aside : (script : ScriptOf) → IsScript script → (h : List Event) (t : ℕ) → is_lawful (world_after script h).fabric (Clock t) ≡ true → IsAside (world_after script h) (effect (Clock t) (world_after script h))
unfolding effect
clock_aside script kept h t lawful = record { ports = λ s. refl; clocked = λ s. by s (cases_eq s t) }
  where
    f : FabricOf
    f = (world_after script h).fabric

    g : FabricOf
    g = (effect (Clock t) (world_after script h)).fabric

    ready : (Rattle.net_state.specs.Fabric.is_switch f t ≡ true) × (is_full_at f t ≡ false) × (clock_due_at f t ≡ true)
    ready = clock_ready f t (lawful_is f (Clock t) lawful).ready

    now : (station g t).hand ≡ hand.Clock f.tick (samples_of f t)
    now = ap (λ (x : StationOf). x.hand) (get_or-set_same f.stations t _ vacant (within script kept h t (below script h t ready.0)))

    by : (s : ℕ) → (s ≡ t) ⊎ (s ≡ t → ⊥) → has_clocked g s ≡ has_clocked f s
    by s (inl same) =
        ap (has_clocked g) same ∙ clocked_not g t f.tick (samples_of f t) now
        ∙ sym (ap (has_clocked f) same ∙ ap (λ b. not b && not (is_clock (station f t).hand)) ready.2)
    by s (inr other) = let e = get_or-set_other f.stations t s _ vacant other in clocked_same f g s refl (ap (λ (x : StationOf). x.clock) e) (ap (λ (x : StationOf). is_clock x.hand) e)

take_aside : (script : ScriptOf) → (h : List Event) (t p : ℕ) → is_lawful (world_after script h).fabric (Take t p) ≡ true → IsAside (world_after script h) (effect (Take t p) (world_after script h))
unfolding effect
take_aside script h t p lawful = record { ports = λ s. refl; clocked = λ s. by s (set_cases f.stations t s _) }
  where
    f : FabricOf
    f = (world_after script h).fabric

    g : FabricOf
    g = (effect (Take t p) (world_after script h)).fabric

    empty : (station f t).hand ≡ hand.Empty
    empty = empty_at f t (take_ready f t p (lawful_is f (Take t p) lawful).ready).empty

    by : (s : ℕ) → ((s ≡ t) × (station g s ≡ record (station f t) { hand = hand.Frame p })) ⊎ (station g s ≡ station f s) → has_clocked g s ≡ has_clocked f s
    by s (inl k) =
        clocked_same f g s refl (ap (λ (x : StationOf). x.clock) k.1 ∙ ap (λ n. (station f n).clock) (sym k.0))
        (ap (λ (x : StationOf). is_clock x.hand) k.1 ∙ sym (ap (λ n. is_clock (station f n).hand) k.0 ∙ ap is_clock empty))
    by s (inr e) = clocked_same f g s refl (ap (λ (x : StationOf). x.clock) e) (ap (λ (x : StationOf). is_clock x.hand) e)

set_clock : (stations : List StationOf) (s t : ℕ) (x : StationOf) → x.clock ≡ (slice_index_or stations s vacant).clock → (slice_index_or (slice_set stations s x) t vacant).clock ≡ (slice_index_or stations t vacant).clock
set_clock stations s t x same = by (set_cases stations s t x)
  where
    by : ((t ≡ s) × (slice_index_or (slice_set stations s x) t vacant ≡ x)) ⊎ (slice_index_or (slice_set stations s x) t vacant ≡ slice_index_or stations t vacant) → (slice_index_or (slice_set stations s x) t vacant).clock ≡ (slice_index_or stations t vacant).clock
    by (inl k) = ap (λ (y : StationOf). y.clock) k.1 ∙ same ∙ ap (λ n. (slice_index_or stations n vacant).clock) (sym k.0)
    by (inr k) = ap (λ (y : StationOf). y.clock) k

loads_aside : (o : Option TopoOf) (t : ℕ) (w : WorldOf) → IsAside w (loads_with o t w)
loads_aside None t w = record { ports = λ s. refl; clocked = λ s. refl }
loads_aside (Some topo) t w = record {
  ports = λ s. by s (s == t) refl;
  clocked = λ s. clocked_same w.fabric (loads_with (Some topo) t w).fabric s refl (set_clock w.fabric.stations t s _ refl) (ap is_clock (set_hand w.fabric.stations t s _ refl));
} where
  by : (s : ℕ) (b : Bool) → (s == t) ≡ b → (cond b (Rattle.switch_core.specs.Steps.loaded (Rattle.table_build.specs.Made.number_in topo (w.switches t).life) (w.switches t)) (w.switches s)).ports ≡ (w.switches s).ports
  by s true is = ap (λ n. (w.switches n).ports) (sym (eqb-true s t is))
  by s false is = refl

pub aside_of : (script : ScriptOf) → IsScript script → (h : List Event) (e : Event) → is_lawful (world_after script h).fabric e ≡ true → is_of_script e ≡ false → (e ≡ Tick → ⊥) → ((s : ℕ) → e ≡ Handle s → ⊥) → IsAside (world_after script h) (effect e (world_after script h))
unfolding effect
aside_of script kept h Tick lawful quiet no_tick no_handle = absurd (no_tick refl)
aside_of script kept h (Clock s) lawful quiet no_tick no_handle = clock_aside script kept h s lawful
aside_of script kept h (Take s p) lawful quiet no_tick no_handle = take_aside script h s p lawful
aside_of script kept h (Handle s) lawful quiet no_tick no_handle = absurd (no_handle s refl)
aside_of script kept h (Load s) lawful quiet no_tick no_handle = let w = world_after script h in loads_aside (finish_of (w.switches s)) s w
aside_of script kept h (Move k) lawful quiet no_tick no_handle = record { ports = λ s. refl; clocked = λ s. refl }
aside_of script kept h (Fail s p) lawful quiet no_tick no_handle = absurd (true≢false quiet)
aside_of script kept h (Repair s p) lawful quiet no_tick no_handle = absurd (true≢false quiet)
aside_of script kept h (Lose s p n) lawful quiet no_tick no_handle = absurd (true≢false quiet)
aside_of script kept h (Again s p n) lawful quiet no_tick no_handle = absurd (true≢false quiet)
aside_of script kept h (Swap s p n) lawful quiet no_tick no_handle = absurd (true≢false quiet)
aside_of script kept h (Noise s p n) lawful quiet no_tick no_handle = absurd (true≢false quiet)
aside_of script kept h (Send x y) lawful quiet no_tick no_handle = absurd (true≢false quiet)
aside_of script kept h (Restart s) lawful quiet no_tick no_handle = absurd (true≢false quiet)

pub aside : (script : ScriptOf) → IsScript script → (h : List Event) (e : Event) → IsCalm script h e → (e ≡ Tick → ⊥) → ((s : ℕ) → e ≡ Handle s → ⊥) → IsAside (world_after script h) (effect e (world_after script h))
aside script kept h e calm no_tick no_handle = aside_of script kept h e calm.lawful (calm_parts script h e calm).0 no_tick no_handle

-- What a test finds under way is found after an event, but for a frame that was handled.
pub keeps_such : (test : Frame → Bool) (script : ScriptOf) (h : List Event) (e : Event) (l : LinkOf) → IsScript script → IsLinkOf script l → is_lawful (world_after script h).fabric e ≡ true → is_of_script e ≡ false → (e ≡ Tick → ⊥)
    → is_some_under_way test (world_after script h) l ≡ true
    → (is_some_under_way test (effect e (world_after script h)) l ≡ true) ⊎ ((e ≡ Handle l.far_place) × ((station (world_after script h).fabric l.far_place).hand ≡ hand.Frame l.far_port) × (is_such test (held_bytes (world_after script h).fabric l.far_place) ≡ true))
keeps_such test script h e l kept link lawful quiet no_tick found = by (way_stays script kept h e l k.0 link lawful quiet no_tick k.1)
  where
    w : WorldOf
    w = world_after script h

    k : (b : List ℕ) × In b (under_way_to w.fabric l.far_place l.far_port) × (is_such test b ≡ true)
    k = such_way test w l found

    by : In k.0 (under_way_to (effect e w).fabric l.far_place l.far_port) ⊎ WasHeld w e l k.0 → (is_some_under_way test (effect e w) l ≡ true) ⊎ ((e ≡ Handle l.far_place) × ((station w.fabric l.far_place).hand ≡ hand.Frame l.far_port) × (is_such test (held_bytes w.fabric l.far_place) ≡ true))
    by (inl i) = inl (way_such test (effect e w) l k.0 i k.2)
    by (inr held) = inr (held.event, held.hand_is, sym (ap (is_such test) held.held) ∙ k.2)

stays_such : (test : Frame → Bool) (script : ScriptOf) (h : List Event) (e : Event) (l : LinkOf) → IsScript script → IsLinkOf script l → IsCalm script h e → (e ≡ Tick → ⊥)
    → is_some_under_way test (world_after script h) l ≡ true
    → (is_some_under_way test (effect e (world_after script h)) l ≡ true) ⊎ ((e ≡ Handle l.far_place) × ((station (world_after script h).fabric l.far_place).hand ≡ hand.Frame l.far_port) × (is_such test (held_bytes (world_after script h).fabric l.far_place) ≡ true))
stays_such test script h e l kept link calm no_tick found = keeps_such test script h e l kept link calm.lawful (calm_parts script h e calm).0 no_tick found

-- the ends stay
ends_stay : (script : ScriptOf) (h : List Event) (e : Event) → IsCalm script h e → (s p : ℕ) → end_at ((effect e (world_after script h)).switches s) p ≡ end_at ((world_after script h).switches s) p
ends_stay script h e calm s p = ap (λ life. record { life = life; port = p }) (calm_lives script h e calm s)

-- tests for the probe and the reply at a moment, by the ends and the number
nonce_is : (w : WorldOf) (l : LinkOf) → nonce_here w l ≡ nonce_after (end_here w l) (view w l).here
nonce_is w l = refl

-- the same tests after an event that leaves the number
record IsSameNonce (w v : WorldOf) (l : LinkOf) : Type 0 where
  own : end_here v l ≡ end_here w l
  far : end_there v l ≡ end_there w l
  nonce : nonce_here v l ≡ nonce_here w l

probe_same : (w v : WorldOf) (l : LinkOf) → IsSameNonce w v l → (x : WorldOf) → is_some_under_way (is_probe (end_here v l) (nonce_here v l)) x l ≡ is_some_under_way (is_probe (end_here w l) (nonce_here w l)) x l
probe_same w v l k x = λ i. is_some_under_way (is_probe (k.own i) (k.nonce i)) x l

reply_same : (w v : WorldOf) (l : LinkOf) → IsSameNonce w v l → (x : WorldOf) → is_some_under_way (is_reply (end_there v l) (end_here v l) (nonce_here v l)) x (turned l) ≡ is_some_under_way (is_reply (end_there w l) (end_here w l) (nonce_here w l)) x (turned l)
reply_same w v l k x = λ i. is_some_under_way (is_reply (k.far i) (k.own i) (k.nonce i)) x (turned l)

same_nonce : (script : ScriptOf) (h : List Event) (e : Event) (l : LinkOf) → IsCalm script h e → nonce_after (end_here (world_after script h) l) (((effect e (world_after script h)).switches l.place).ports l.port) ≡ nonce_here (world_after script h) l → IsSameNonce (world_after script h) (effect e (world_after script h)) l
same_nonce script h e l calm nonce = record {
  own = ends_stay script h e calm l.place l.port;
  far = ends_stay script h e calm l.far_place l.far_port;
  nonce = ap (λ x. nonce_after x (((effect e (world_after script h)).switches l.place).ports l.port)) (ends_stay script h e calm l.place l.port) ∙ nonce;
}

-- what is found of the probe and the reply after an event
probe_on : (script : ScriptOf) (h : List Event) (e : Event) (l : LinkOf) → IsMoment script h e l → (e ≡ Tick → ⊥) → IsSameNonce (world_after script h) (effect e (world_after script h)) l → IsTrue (view (world_after script h) l).probe
    → IsTrue (view (effect e (world_after script h)) l).probe ⊎ ((e ≡ Handle l.far_place) × ((station (world_after script h).fabric l.far_place).hand ≡ hand.Frame l.far_port) × (is_such (is_probe (end_here (world_after script h) l) (nonce_here (world_after script h) l)) (held_bytes (world_after script h).fabric l.far_place) ≡ true))
probe_on script h e l m no_tick same found = by (stays_such (is_probe (end_here w l) (nonce_here w l)) script h e l m.kept m.link m.calm no_tick found)
  where
    w : WorldOf
    w = world_after script h

    test : Frame → Bool
    test = is_probe (end_here w l) (nonce_here w l)

    by : (is_some_under_way test (effect e w) l ≡ true) ⊎ ((e ≡ Handle l.far_place) × ((station w.fabric l.far_place).hand ≡ hand.Frame l.far_port) × (is_such test (held_bytes w.fabric l.far_place) ≡ true))
        → IsTrue (view (effect e w) l).probe ⊎ ((e ≡ Handle l.far_place) × ((station w.fabric l.far_place).hand ≡ hand.Frame l.far_port) × (is_such test (held_bytes w.fabric l.far_place) ≡ true))
    by (inl stays) = inl (probe_same w (effect e w) l same (effect e w) ∙ stays)
    by (inr held) = inr held

reply_on : (script : ScriptOf) (h : List Event) (e : Event) (l : LinkOf) → IsMoment script h e l → (e ≡ Tick → ⊥) → IsSameNonce (world_after script h) (effect e (world_after script h)) l → IsTrue (view (world_after script h) l).reply
    → IsTrue (view (effect e (world_after script h)) l).reply ⊎ ((e ≡ Handle l.place) × ((station (world_after script h).fabric l.place).hand ≡ hand.Frame l.port) × (is_such (is_reply (end_there (world_after script h) l) (end_here (world_after script h) l) (nonce_here (world_after script h) l)) (held_bytes (world_after script h).fabric l.place) ≡ true))
reply_on script h e l m no_tick same found = by (stays_such test script h e (turned l) m.kept (link_turned script l m.link) m.calm no_tick found)
  where
    w : WorldOf
    w = world_after script h

    test : Frame → Bool
    test = is_reply (end_there w l) (end_here w l) (nonce_here w l)

    by : (is_some_under_way test (effect e w) (turned l) ≡ true) ⊎ ((e ≡ Handle l.place) × ((station w.fabric l.place).hand ≡ hand.Frame l.port) × (is_such test (held_bytes w.fabric l.place) ≡ true))
        → IsTrue (view (effect e w) l).reply ⊎ ((e ≡ Handle l.place) × ((station w.fabric l.place).hand ≡ hand.Frame l.port) × (is_such test (held_bytes w.fabric l.place) ≡ true))
    by (inl stays) = inl (reply_same w (effect e w) l same (effect e w) ∙ stays)
    by (inr held) = inr held

-- a run goes on by this event
abbrev pub GoesBy : ScriptOf → List Event → Event → LinkOf → Type 0
GoesBy script h e l = (start : EndView) → EndRun (end_here (world_after script h) l) (end_there (world_after script h) l) start (view (world_after script h) l) → EndRun (end_here (world_after script h) l) (end_there (world_after script h) l) start (view (effect e (world_after script h)) l)

one_step : (script : ScriptOf) (h : List Event) (e : Event) (l : LinkOf) → EndStep (end_here (world_after script h) l) (end_there (world_after script h) l) (view (world_after script h) l) (view (effect e (world_after script h)) l) → GoesBy script h e l
one_step script h e l step start run = then_step start (view (world_after script h) l) (view (effect e (world_after script h)) l) run step

aside_goes : (script : ScriptOf) (h : List Event) (e : Event) (l : LinkOf) → IsMoment script h e l → (e ≡ Tick → ⊥) → ((s : ℕ) → e ≡ Handle s → ⊥) → GoesBy script h e l
aside_goes script h e l m no_tick no_handle =
    let w = world_after script h in
    let v = effect e w in
    let k = aside script m.kept h e m.calm no_tick no_handle in
    let here_is : (view v l).here ≡ (view w l).here = ap (λ (f : ℕ → History). f l.port) (k.ports l.place) in
    let same = same_nonce script h e l m.calm (ap (nonce_after (end_here w l)) here_is) in
    one_step script h e l (passes (record {
      is = viewed (view v l) (view w l).here (view w l).there (view w l).has_clocked (view w l).far_has_clocked here_is (ap (λ (f : ℕ → History). f l.far_port) (k.ports l.far_place)) (k.clocked l.place) (k.clocked l.far_place);
      stays = record {
        probe_stays = λ found. elim (probe_on script h e l m no_tick same found) [ inl stays ↦ stays | inr held ↦ absurd (no_handle l.far_place held.0) ];
        reply_stays = λ found. elim (reply_on script h e l m no_tick same found) [ inl stays ↦ stays | inr held ↦ absurd (no_handle l.place held.0) ];
      };
    }))

-- A handling: the switch at its place, and the others
pub handled_switch : (s : ℕ) (w : WorldOf) → (effect (Handle s) w).switches s ≡ (handled s w).switch
unfolding effect
handled_switch s w = ap (λ b. cond b (handled s w).switch (w.switches s)) (number_itself s)

pub other_switch : (s t : ℕ) (w : WorldOf) → (t ≡ s → ⊥) → (effect (Handle s) w).switches t ≡ w.switches t
unfolding effect
other_switch s t w other = ap (λ b. cond b (handled s w).switch (w.switches t)) (ne_eqb t s other)

pub handled_clock : (s n : ℕ) (samples : List Sample) (w : WorldOf) → (station w.fabric s).hand ≡ hand.Clock n samples → handled s w ≡ clocked n samples (w.switches s)
unfolding handles
handled_clock s n samples w is = ap (λ x. handles x (held_bytes w.fabric s) (w.switches s)) is

pub handled_empty : (s : ℕ) (w : WorldOf) → (station w.fabric s).hand ≡ hand.Empty → (handled s w).switch.spent ≡ (w.switches s).spent
unfolding handles
handled_empty s w is = ap (λ x. (handles x (held_bytes w.fabric s) (w.switches s)).switch.spent) is

pub handled_frame : (s p : ℕ) (w : WorldOf) → (station w.fabric s).hand ≡ hand.Frame p → handled s w ≡ handles_bytes p (frame_of (held_bytes w.fabric s)) (w.switches s)
unfolding handles
handled_frame s p w is = ap (λ x. handles x (held_bytes w.fabric s) (w.switches s)) is

-- a link that is up shows that a switch is there
pub link_sample : (script : ScriptOf) → IsScript script → (h : List Event) (l : LinkOf) → IsLinkOf script l → is_up (world_after script h).fabric l.place l.port ≡ true → sample_of (side_of_port (world_after script h).fabric l.place l.port) ≡ sample.Switch
link_sample script kept h l is up =
    ap (λ (z : Bool × Option Far). cond z.0 (sample_behind z.1) sample.Down) (λ i. (up i, side_far script kept h l is i))

-- the port of a switch that handles its clock
port_sampled : (script : ScriptOf) (h : List Event) (l : LinkOf) (n : ℕ) (samples : List Sample) → IsMoment script h (Handle l.place) l → (station (world_after script h).fabric l.place).hand ≡ hand.Clock n samples
    → ((effect (Handle l.place) (world_after script h)).switches l.place).ports l.port ≡ Sampled sample.Switch ∷ ((world_after script h).switches l.place).ports l.port
port_sampled script h l n samples m is =
    let w = world_after script h in
    let u = w.switches l.place in
    let k = m.link.here in
    let now : sample_at samples l.port ≡ sample.Switch = ap (λ xs. sample_at xs l.port) (m.samples l.place k.node_below n samples is) ∙ sample_here w.fabric l.place l.port k.own_port_least k.own_port_most ∙ link_sample script m.kept h l m.link m.up in
    ap (λ (x : SwitchOf). x.ports l.port) (handled_switch l.place w)
    ∙ ap (λ (st : Rattle.switch_core.specs.Steps.Step). st.switch.ports l.port) (handled_clock l.place n samples w is)
    ∙ (clock_is n samples u).ports l.port
    ∙ ap (λ x. Sampled x ∷ u.ports l.port) now

-- no switch is spent after a calm event
works_after : (script : ScriptOf) (h : List Event) (s : ℕ) → IsScript script → IsCalm script h (Handle s) → s < places script → (handled s (world_after script h)).switch.spent ≡ false
unfolding effect
works_after script h s kept calm low =
    let w = world_after script h in
    let now : station (effect (Handle s) w).fabric s ≡ _ = get_or-set_same w.fabric.stations s _ vacant (within script kept h s low) in
    sym (ap (λ (x : StationOf). x.spent) now) ∙ unspent_here (effect (Handle s) w).fabric s calm.works_on

not_spent : (n : ℕ) (samples : List Sample) (u : SwitchOf) → (clocked n samples u).switch.spent ≡ false → is_spent_by u (sampled_by n samples u) ≡ false
not_spent n samples u works = by (is_spent_by u (sampled_by n samples u)) refl
  where
    by : (b : Bool) → is_spent_by u (sampled_by n samples u) ≡ b → is_spent_by u (sampled_by n samples u) ≡ false
    by false is = is
    by true is = absurd (true≢false (sym (ap (λ b. (cond b (still (record (sampled_by n samples u) { spent = true })) (Rattle.switch_core.specs.Steps.after (record { switch = sampled_by n samples u; frames = Rattle.switch_core.specs.Steps.probes (sampled_by n samples u) }) (Rattle.switch_core.specs.Steps.goes_on u (sampled_by n samples u)))).switch.spent) is) ∙ works))

probe_itself : (e : EndId) (n : ℕ) → is_probe e n (Probe e n) ≡ true
probe_itself e n = and_from (is_same_end e e) (n == n) (same_end e) (number_itself n)

reply_itself : (e f : EndId) (n : ℕ) → is_reply e f n (Reply e f n) ≡ true
reply_itself e f n = and_from (is_same_end e e && is_same_end f f) (n == n) (and_from (is_same_end e e) (is_same_end f f) (same_end e) (same_end f)) (number_itself n)

-- what it sends comes to be under way, as a frame
frame_comes : (script : ScriptOf) (h : List Event) (l : LinkOf) (x : Sent) (test : Frame → Bool) → IsMoment script h (Handle l.place) l → In x (handled l.place (world_after script h)).frames → x.port ≡ l.port → test x.frame ≡ true → is_some_under_way test (effect (Handle l.place) (world_after script h)) l ≡ true
frame_comes script h l x test m i port found =
    let w = world_after script h in
    let out = each_in IsOut (handled l.place w).frames x (handled_frames script m.kept h l.place m.link.here.node_below m.calm.lawful) i in
    way_such test (effect (Handle l.place) w) l (spelling x.frame) (sent_comes script m.kept h l x m.link m.calm m.up i port)
    (such_frame test (spelling x.frame) x.frame (frame_again x.frame out.frame_is) found)

probe_comes : (script : ScriptOf) (h : List Event) (l : LinkOf) (n : ℕ) (samples : List Sample) → IsMoment script h (Handle l.place) l → (station (world_after script h).fabric l.place).hand ≡ hand.Clock n samples
    → Speaks (end_here (world_after script h) l) (view (effect (Handle l.place) (world_after script h)) l).here → IsTrue (view (effect (Handle l.place) (world_after script h)) l).probe
probe_comes script h l n samples m is speaks =
    let w = world_after script h in
    let v = effect (Handle l.place) w in
    let u = w.switches l.place in
    let x = sampled_by n samples u in
    let step = handled_clock l.place n samples w is in
    let k = m.link.here in
    let works : (clocked n samples u).switch.spent ≡ false = sym (ap (λ (st : Rattle.switch_core.specs.Steps.Step). st.switch.spent) step) ∙ works_after script h l.place m.kept m.calm k.node_below in
    let ports : (v.switches l.place).ports l.port ≡ x.ports l.port = ap (λ (y : SwitchOf). y.ports l.port) (handled_switch l.place w) ∙ ap (λ (st : Rattle.switch_core.specs.Steps.Step). st.switch.ports l.port) step ∙ (clock_is n samples u).ports l.port in
    let asks : (port_of x l.port).phase ≡ Switch = sym (ap (λ g. (port_after (end_here w l) g).phase) ports) ∙ speaks in
    let sent = in_from (probe_by x l.port) (clocked n samples u).frames (clock_asks n l.port samples u k.own_port_least k.own_port_most (not_spent n samples u works) asks) in
    let own : end_here v l ≡ end_here w l = ends_stay script h (Handle l.place) m.calm l.place l.port in
    let nonce : nonce_here v l ≡ (port_of x l.port).far.nonce = (λ i. nonce_after (own i) (ports i)) in
    let found = frame_comes script h l (probe_by x l.port) (is_probe (end_here w l) (port_of x l.port).far.nonce) m (subst (λ (st : Rattle.switch_core.specs.Steps.Step). In (probe_by x l.port) st.frames) (sym step) sent) refl (probe_itself (end_here w l) (port_of x l.port).far.nonce) in
    (λ i. is_some_under_way (is_probe (own i) (nonce i)) v l) ∙ found

-- with a clock in hand no frame is
clock_no_frame : (x : Hand) (n p : ℕ) (samples : List Sample) → x ≡ hand.Clock n samples → x ≡ hand.Frame p → ⊥
clock_no_frame x n p samples is at = none_some (ap port_in (sym is ∙ at))
  where
    port_in : Hand → Option ℕ
    port_in hand.Empty = None
    port_in (hand.Clock n samples) = None
    port_in (hand.Frame p) = Some p

-- the clock of this end
clock_here : (script : ScriptOf) (h : List Event) (l : LinkOf) (n : ℕ) (samples : List Sample) → IsMoment script h (Handle l.place) l → (station (world_after script h).fabric l.place).hand ≡ hand.Clock n samples → (l.far_place ≡ l.place → ⊥) → GoesBy script h (Handle l.place) l
clock_here script h l n samples m is other =
    let w = world_after script h in
    let v = effect (Handle l.place) w in
    one_step script h (Handle l.place) l (clocks (record {
      before = clocked_not w.fabric l.place n samples is;
      is = viewed (view v l) (Sampled sample.Switch ∷ (view w l).here) (view w l).there true (view w l).far_has_clocked (port_sampled script h l n samples m is) (ap (λ (u : SwitchOf). u.ports l.far_port) (other_switch l.place l.far_place w other)) (handled_clocked script m.kept h l.place m.calm.lawful) (handled_elsewhere w l.place l.far_place other);
      probes = probe_comes script h l n samples m is;
    }))

-- the clock of the far end
clock_there : (script : ScriptOf) (h : List Event) (l : LinkOf) (n : ℕ) (samples : List Sample) → IsMoment script h (Handle l.far_place) l → (station (world_after script h).fabric l.far_place).hand ≡ hand.Clock n samples → (l.place ≡ l.far_place → ⊥) → GoesBy script h (Handle l.far_place) l
clock_there script h l n samples m is other =
    let w = world_after script h in
    let v = effect (Handle l.far_place) w in
    let here_is : (view v l).here ≡ (view w l).here = ap (λ (u : SwitchOf). u.ports l.port) (other_switch l.far_place l.place w other) in
    let same = same_nonce script h (Handle l.far_place) l m.calm (ap (nonce_after (end_here w l)) here_is) in
    one_step script h (Handle l.far_place) l (far_clocks (record {
      before = clocked_not w.fabric l.far_place n samples is;
      is = viewed (view v l) (view w l).here (Sampled sample.Switch ∷ (view w l).there) (view w l).has_clocked true here_is (port_sampled script h (turned l) n samples (moment_turned script h (Handle l.far_place) l m) is) (handled_elsewhere w l.far_place l.place other) (handled_clocked script m.kept h l.far_place m.calm.lawful);
      stays = record {
        probe_stays = λ found. elim (probe_on script h (Handle l.far_place) l m (λ e. cc) same found) [ inl stays ↦ stays | inr held ↦ absurd (clock_no_frame (station w.fabric l.far_place).hand n l.far_port samples is held.1) ];
        reply_stays = λ found. elim (reply_on script h (Handle l.far_place) l m (λ e. cc) same found) [ inl stays ↦ stays | inr held ↦ absurd (other (sym (same_handle l.far_place l.place held.0))) ];
      };
    }))
  where
    place_in : Event → ℕ
    place_in (Handle s) = s
    place_in e = 0

    same_handle : (a b : ℕ) → Handle a ≡ Handle b → a ≡ b
    same_handle a b e = ap place_in e

-- the clock of a switch with a link to itself: both ends at once
clock_both : (script : ScriptOf) (h : List Event) (l : LinkOf) (n : ℕ) (samples : List Sample) → IsMoment script h (Handle l.place) l → (station (world_after script h).fabric l.place).hand ≡ hand.Clock n samples → l.far_place ≡ l.place → GoesBy script h (Handle l.place) l
clock_both script h l n samples m is same start run =
    let w = world_after script h in
    let v = effect (Handle l.place) w in
    let own = end_here w l in
    let far = end_there w l in
    let mid : EndView = record { here = (view w l).here; there = Sampled sample.Switch ∷ (view w l).there; has_clocked = (view w l).has_clocked; far_has_clocked = true; probe = (view w l).probe; reply = (view w l).reply } in
    let there_m : IsMoment script h (Handle l.far_place) (turned l) = subst (λ k. IsMoment script h (Handle k) (turned l)) (sym same) (moment_turned script h (Handle l.place) l m) in
    let there_is : (view v l).there ≡ Sampled sample.Switch ∷ (view w l).there =
    subst (λ k. ((effect (Handle k) w).switches l.far_place).ports l.far_port ≡ Sampled sample.Switch ∷ (w.switches l.far_place).ports l.far_port) same (port_sampled script h (turned l) n samples there_m (ap (λ k. (station w.fabric k).hand) same ∙ is))
    in
    then_step start mid (view v l)
    (then_step start (view w l) mid run (far_clocks (record {
      before = ap (has_clocked w.fabric) same ∙ clocked_not w.fabric l.place n samples is;
      is = refl;
      stays = record { probe_stays = λ found. found; reply_stays = λ found. found };
    })))
    (clocks (record {
      before = clocked_not w.fabric l.place n samples is;
      is = viewed (view v l) (Sampled sample.Switch ∷ (view w l).here) (Sampled sample.Switch ∷ (view w l).there) true true (port_sampled script h l n samples m is) there_is (handled_clocked script m.kept h l.place m.calm.lawful) (ap (has_clocked v.fabric) same ∙ handled_clocked script m.kept h l.place m.calm.lawful);
      probes = probe_comes script h l n samples m is;
    }))

-- the clock of a switch that is at neither end
clock_elsewhere : (script : ScriptOf) (h : List Event) (s : ℕ) (l : LinkOf) (n : ℕ) (samples : List Sample) → IsMoment script h (Handle s) l → (station (world_after script h).fabric s).hand ≡ hand.Clock n samples → (l.place ≡ s → ⊥) → (l.far_place ≡ s → ⊥) → GoesBy script h (Handle s) l
clock_elsewhere script h s l n samples m is not_here not_there =
    let w = world_after script h in
    let v = effect (Handle s) w in
    let here_is : (view v l).here ≡ (view w l).here = ap (λ (u : SwitchOf). u.ports l.port) (other_switch s l.place w not_here) in
    let same = same_nonce script h (Handle s) l m.calm (ap (nonce_after (end_here w l)) here_is) in
    one_step script h (Handle s) l (passes (record {
      is = viewed (view v l) (view w l).here (view w l).there (view w l).has_clocked (view w l).far_has_clocked here_is (ap (λ (u : SwitchOf). u.ports l.far_port) (other_switch s l.far_place w not_there)) (handled_elsewhere w s l.place not_here) (handled_elsewhere w s l.far_place not_there);
      stays = record {
        probe_stays = λ found. elim (probe_on script h (Handle s) l m (λ e. cc) same found) [ inl stays ↦ stays | inr held ↦ absurd (not_there (sym (same_handle s l.far_place held.0))) ];
        reply_stays = λ found. elim (reply_on script h (Handle s) l m (λ e. cc) same found) [ inl stays ↦ stays | inr held ↦ absurd (not_here (sym (same_handle s l.place held.0))) ];
      };
    }))
  where
    place_in : Event → ℕ
    place_in (Handle s) = s
    place_in e = 0

    same_handle : (a b : ℕ) → Handle a ≡ Handle b → a ≡ b
    same_handle a b e = ap place_in e

clock_goes : (script : ScriptOf) (h : List Event) (s : ℕ) (l : LinkOf) (n : ℕ) (samples : List Sample) → IsMoment script h (Handle s) l → (station (world_after script h).fabric s).hand ≡ hand.Clock n samples → GoesBy script h (Handle s) l
clock_goes script h s l n samples m is = by (cases_eq l.place s) (cases_eq l.far_place s)
  where
    At : ℕ → Type 0
    At k = IsMoment script h (Handle k) l → (station (world_after script h).fabric k).hand ≡ hand.Clock n samples → GoesBy script h (Handle k) l

    by : (l.place ≡ s) ⊎ (l.place ≡ s → ⊥) → (l.far_place ≡ s) ⊎ (l.far_place ≡ s → ⊥) → GoesBy script h (Handle s) l
    by (inl a) (inl b) = subst At a (λ m is. clock_both script h l n samples m is (b ∙ sym a)) m is
    by (inl a) (inr b) = subst At a (λ m is. clock_here script h l n samples m is (λ e. b (e ∙ a))) m is
    by (inr a) (inl b) = subst At b (λ m is. clock_there script h l n samples m is (λ e. a (e ∙ b))) m is
    by (inr a) (inr b) = clock_elsewhere script h s l n samples m is a b

-- A frame is handled: each switch has handled its clock where it had.
pub frame_clocked : (script : ScriptOf) → IsScript script → (h : List Event) (s p t : ℕ) → is_lawful (world_after script h).fabric (Handle s) ≡ true → (station (world_after script h).fabric s).hand ≡ hand.Frame p → has_clocked (effect (Handle s) (world_after script h)).fabric t ≡ has_clocked (world_after script h).fabric t
frame_clocked script kept h s p t lawful is = by (cases_eq t s)
  where
    w : WorldOf
    w = world_after script h

    by : (t ≡ s) ⊎ (t ≡ s → ⊥) → has_clocked (effect (Handle s) w).fabric t ≡ has_clocked w.fabric t
    by (inl same) = ap (has_clocked (effect (Handle s) w).fabric) same ∙ handled_clocked script kept h s lawful ∙ sym (ap (has_clocked w.fabric) same ∙ clocked_full script kept h s p (hand_now script kept h s lawful) is)
    by (inr other) = handled_elsewhere w s t other

pub place_in : Event → ℕ
place_in (Handle s) = s
place_in e = 0

pub same_handle : (a b : ℕ) → Handle a ≡ Handle b → a ≡ b
unfolding place_in
same_handle a b e = ap place_in e

port_in : Hand → ℕ
port_in hand.Empty = 0
port_in (hand.Clock n samples) = 0
port_in (hand.Frame p) = p

pub same_port : (x : Hand) (p q : ℕ) → x ≡ hand.Frame p → x ≡ hand.Frame q → p ≡ q
unfolding port_in
same_port x p q a b = ap port_in (sym a ∙ b)

pub such_is : (test : Frame → Bool) (b : List ℕ) (f : Frame) → frame_of b ≡ Some f → is_such test b ≡ true → test f ≡ true
such_is test b f read found = sym (ap (λ o. Rattle.std.specs.Option.option_map_or test o false) read) ∙ found

-- it is no frame of such a kind: then what is found stays
frame_passes : (script : ScriptOf) (h : List Event) (s p : ℕ) (l : LinkOf) → IsMoment script h (Handle s) l → (station (world_after script h).fabric s).hand ≡ hand.Frame p
    → (view (effect (Handle s) (world_after script h)) l).here ≡ (view (world_after script h) l).here → (view (effect (Handle s) (world_after script h)) l).there ≡ (view (world_after script h) l).there
    → (s ≡ l.far_place → p ≡ l.far_port → is_such (is_probe (end_here (world_after script h) l) (nonce_here (world_after script h) l)) (held_bytes (world_after script h).fabric s) ≡ true → ⊥)
    → (s ≡ l.place → p ≡ l.port → is_such (is_reply (end_there (world_after script h) l) (end_here (world_after script h) l) (nonce_here (world_after script h) l)) (held_bytes (world_after script h).fabric s) ≡ true → ⊥)
    → GoesBy script h (Handle s) l
frame_passes script h s p l m is here_is there_is no_probe no_reply =
    let w = world_after script h in
    let v = effect (Handle s) w in
    let same = same_nonce script h (Handle s) l m.calm (ap (nonce_after (end_here w l)) here_is) in
    one_step script h (Handle s) l (passes (record {
      is = viewed (view v l) (view w l).here (view w l).there (view w l).has_clocked (view w l).far_has_clocked here_is there_is (frame_clocked script m.kept h s p l.place m.calm.lawful is) (frame_clocked script m.kept h s p l.far_place m.calm.lawful is);
      stays = record {
        probe_stays = λ found. elim (probe_on script h (Handle s) l m (λ e. cc) same found) [
          | inl stays ↦ stays
          | inr held ↦ let at = same_handle s l.far_place held.0 in
              absurd (no_probe at (same_port (station w.fabric s).hand p l.far_port is (ap (λ k. (station w.fabric k).hand) at ∙ held.1)) (ap (λ k. is_such (is_probe (end_here w l) (nonce_here w l)) (held_bytes w.fabric k)) at ∙ held.2))
        ];
        reply_stays = λ found. elim (reply_on script h (Handle s) l m (λ e. cc) same found) [
          | inl stays ↦ stays
          | inr held ↦ let at = same_handle s l.place held.0 in
              absurd (no_reply at (same_port (station w.fabric s).hand p l.port is (ap (λ k. (station w.fabric k).hand) at ∙ held.1)) (ap (λ k. is_such (is_reply (end_there w l) (end_here w l) (nonce_here w l)) (held_bytes w.fabric k)) at ∙ held.2))
        ];
      };
    }))

-- where the switch keeps all that happened at its ports, so do the ends
ports_kept : (s : ℕ) (w : WorldOf) → (handled s w).switch.ports ≡ (w.switches s).ports → (t q : ℕ) → ((effect (Handle s) w).switches t).ports q ≡ (w.switches t).ports q
ports_kept s w same t q = by (cases_eq t s)
  where
    by : (t ≡ s) ⊎ (t ≡ s → ⊥) → ((effect (Handle s) w).switches t).ports q ≡ (w.switches t).ports q
    by (inl is) = ap (λ k. ((effect (Handle s) w).switches k).ports q) is ∙ ap (λ (u : SwitchOf). u.ports q) (handled_switch s w) ∙ ap (λ (f : ℕ → History). f q) same ∙ ap (λ k. (w.switches k).ports q) (sym is)
    by (inr other) = ap (λ (u : SwitchOf). u.ports q) (other_switch s t w other)

-- the far end's probe is answered
answer_comes : (script : ScriptOf) (h : List Event) (l : LinkOf) (from : EndId) (nonce : ℕ) → IsMoment script h (Handle l.far_place) l → (station (world_after script h).fabric l.far_place).hand ≡ hand.Frame l.far_port → frame_of (held_bytes (world_after script h).fabric l.far_place) ≡ Some (Probe from nonce)
    → from ≡ end_here (world_after script h) l → nonce ≡ nonce_here (world_after script h) l → Speaks (end_there (world_after script h) l) (view (world_after script h) l).there
    → is_some_under_way (is_reply (end_there (world_after script h) l) (end_here (world_after script h) l) (nonce_here (world_after script h) l)) (effect (Handle l.far_place) (world_after script h)) (turned l) ≡ true
answer_comes script h l from nonce m is read from_is nonce_is speaks =
    let w = world_after script h in
    let u = w.switches l.far_place in
    let step = handled_frame l.far_place l.far_port w is ∙ ap (λ o. handles_bytes l.far_port o u) read in
    let x : Sent = record { port = l.far_port; frame = Reply (end_there w l) from nonce } in
    let sent = in_from x (framed l.far_port (Probe from nonce) u).frames (probe_answered l.far_port nonce from u speaks) in
    frame_comes script h (turned l) x (is_reply (end_there w l) (end_here w l) (nonce_here w l)) (moment_turned script h (Handle l.far_place) l m) (subst (λ (st : Rattle.switch_core.specs.Steps.Step). In x st.frames) (sym step) sent) refl
    ((λ i. is_reply (end_there w l) (end_here w l) (nonce_here w l) (Reply (end_there w l) (from_is i) (nonce_is i))) ∙ reply_itself (end_there w l) (end_here w l) (nonce_here w l))

probe_answers : (script : ScriptOf) (h : List Event) (l : LinkOf) (from : EndId) (nonce : ℕ) → IsMoment script h (Handle l.far_place) l → (station (world_after script h).fabric l.far_place).hand ≡ hand.Frame l.far_port → frame_of (held_bytes (world_after script h).fabric l.far_place) ≡ Some (Probe from nonce)
    → is_probe (end_here (world_after script h) l) (nonce_here (world_after script h) l) (Probe from nonce) ≡ true → GoesBy script h (Handle l.far_place) l
probe_answers script h l from nonce m is read found =
    let w = world_after script h in
    let v = effect (Handle l.far_place) w in
    let u = w.switches l.far_place in
    let kept : (handled l.far_place w).switch.ports ≡ u.ports = ap (λ (st : Rattle.switch_core.specs.Steps.Step). st.switch.ports) (handled_frame l.far_place l.far_port w is ∙ ap (λ o. handles_bytes l.far_port o u) read) in
    let parts = and_parts (is_same_end from (end_here w l)) (nonce == nonce_here w l) found in
    let from_is = same_end_is from (end_here w l) parts.0 in
    let nonce_is = eqb-true nonce (nonce_here w l) parts.1 in
    let here_is = ports_kept l.far_place w kept l.place l.port in
    let same = same_nonce script h (Handle l.far_place) l m.calm (ap (nonce_after (end_here w l)) here_is) in
    one_step script h (Handle l.far_place) l (answers (record {
      fresh = clocked_full script m.kept h l.far_place l.far_port m.link.there.node_below is;
      is = viewed (view v l) (view w l).here (view w l).there (view w l).has_clocked (view w l).far_has_clocked here_is (ports_kept l.far_place w kept l.far_place l.far_port) (frame_clocked script m.kept h l.far_place l.far_port l.place m.calm.lawful is) (frame_clocked script m.kept h l.far_place l.far_port l.far_place m.calm.lawful is);
      replies = λ speaks. reply_same w v l same v ∙ answer_comes script h l from nonce m is read from_is nonce_is speaks;
      reply_stays = λ there. elim (reply_on script h (Handle l.far_place) l m (λ e. cc) same there) [
        | inl stays ↦ stays
        | inr held ↦ absurd (false≢true (such_is (is_reply (end_there w l) (end_here w l) (nonce_here w l)) (held_bytes w.fabric l.far_place) (Probe from nonce) read (ap (λ k. is_such (is_reply (end_there w l) (end_here w l) (nonce_here w l)) (held_bytes w.fabric k)) (same_handle l.far_place l.place held.0) ∙ held.2)))
      ];
    }))

probe_goes : (script : ScriptOf) (h : List Event) (s p : ℕ) (l : LinkOf) (from : EndId) (nonce : ℕ) → IsMoment script h (Handle s) l → (station (world_after script h).fabric s).hand ≡ hand.Frame p → frame_of (held_bytes (world_after script h).fabric s) ≡ Some (Probe from nonce) → GoesBy script h (Handle s) l
probe_goes script h s p l from nonce m is read = by (cases_eq s l.far_place) (cases_eq p l.far_port) (Rattle.std.proofs.lemmas.Bool.cases_Bool (test (Probe from nonce)))
  where
    w : WorldOf
    w = world_after script h

    u : SwitchOf
    u = w.switches s

    test : Frame → Bool
    test = is_probe (end_here w l) (nonce_here w l)

    kept : (handled s w).switch.ports ≡ u.ports
    kept = ap (λ (st : Rattle.switch_core.specs.Steps.Step). st.switch.ports) (handled_frame s p w is ∙ ap (λ o. handles_bytes p o u) read)

    no_reply : s ≡ l.place → p ≡ l.port → is_such (is_reply (end_there w l) (end_here w l) (nonce_here w l)) (held_bytes w.fabric s) ≡ true → ⊥
    no_reply at port found = false≢true (such_is (is_reply (end_there w l) (end_here w l) (nonce_here w l)) (held_bytes w.fabric s) (Probe from nonce) read found)

    aside_by : (s ≡ l.far_place → p ≡ l.far_port → is_such test (held_bytes w.fabric s) ≡ true → ⊥) → GoesBy script h (Handle s) l
    aside_by no_probe = frame_passes script h s p l m is (ports_kept s w kept l.place l.port) (ports_kept s w kept l.far_place l.far_port) no_probe no_reply

    At : ℕ → ℕ → Type 0
    At k n = IsMoment script h (Handle k) l → (station w.fabric k).hand ≡ hand.Frame n → frame_of (held_bytes w.fabric k) ≡ Some (Probe from nonce) → GoesBy script h (Handle k) l

    by : (s ≡ l.far_place) ⊎ (s ≡ l.far_place → ⊥) → (p ≡ l.far_port) ⊎ (p ≡ l.far_port → ⊥) → (test (Probe from nonce) ≡ true) ⊎ (test (Probe from nonce) ≡ false) → GoesBy script h (Handle s) l
    by (inl a) (inl b) (inl asks) = subst (λ (z : ℕ × ℕ). At z.0 z.1) (λ i. (sym a i, sym b i)) (λ m is read. probe_answers script h l from nonce m is read asks) m is read
    by (inl a) (inl b) (inr no_test) = aside_by (λ _ _ found. true≢false (sym (such_is test (held_bytes w.fabric s) (Probe from nonce) read found) ∙ no_test))
    by (inl a) (inr b) t = aside_by (λ _ port _. b port)
    by (inr a) b t = aside_by (λ at _ _. a at)

-- a reply that is meant
reply_step : (s p : ℕ) (w : WorldOf) (from to : EndId) (nonce : ℕ) → (station w.fabric s).hand ≡ hand.Frame p → frame_of (held_bytes w.fabric s) ≡ Some (Reply from to nonce) → is_same_end to (end_at (w.switches s) p) ≡ true → (handled s w).switch.ports ≡ with_happening p (Replied from nonce) (w.switches s).ports
reply_step s p w from to nonce is read meant =
    ap (λ (st : Rattle.switch_core.specs.Steps.Step). st.switch.ports) (handled_frame s p w is ∙ ap (λ o. handles_bytes p o (w.switches s)) read)
    ∙ (Rattle.link_settling.proofs.Keeps.keeps_reply p nonce from to (w.switches s) meant).ports_are

heard_at : (s p : ℕ) (w : WorldOf) (from : EndId) (nonce : ℕ) → (handled s w).switch.ports ≡ with_happening p (Replied from nonce) (w.switches s).ports → ((effect (Handle s) w).switches s).ports p ≡ Replied from nonce ∷ (w.switches s).ports p
heard_at s p w from nonce ports =
    ap (λ (u : SwitchOf). u.ports p) (handled_switch s w) ∙ ap (λ (f : ℕ → History). f p) ports ∙ ap (λ b. cond b (Replied from nonce ∷ (w.switches s).ports p) ((w.switches s).ports p)) (number_itself p)

heard_elsewhere : (s p t q : ℕ) (w : WorldOf) (from : EndId) (nonce : ℕ) → (handled s w).switch.ports ≡ with_happening p (Replied from nonce) (w.switches s).ports → (t ≡ s → q ≡ p → ⊥) → ((effect (Handle s) w).switches t).ports q ≡ (w.switches t).ports q
heard_elsewhere s p t q w from nonce ports other = by (cases_eq t s)
  where
    by : (t ≡ s) ⊎ (t ≡ s → ⊥) → ((effect (Handle s) w).switches t).ports q ≡ (w.switches t).ports q
    by (inl is) =
        ap (λ k. ((effect (Handle s) w).switches k).ports q) is ∙ ap (λ (u : SwitchOf). u.ports q) (handled_switch s w) ∙ ap (λ (f : ℕ → History). f q) ports
        ∙ ap (λ b. cond b (Replied from nonce ∷ (w.switches s).ports q) ((w.switches s).ports q)) (ne_eqb q p (other is)) ∙ ap (λ k. (w.switches k).ports q) (sym is)
    by (inr differs) = ap (λ (u : SwitchOf). u.ports q) (other_switch s t w differs)

-- who replied is the far end
replied_by : (script : ScriptOf) (h : List Event) (e : Event) (l : LinkOf) (from to : EndId) (nonce : ℕ) → IsMoment script h e l → (station (world_after script h).fabric l.far_place).hand ≡ hand.Frame l.far_port → frame_of (held_bytes (world_after script h).fabric l.far_place) ≡ Some (Reply from to nonce) → from ≡ end_here (world_after script h) l
replied_by script h e l from to nonce m is read =
    let w = world_after script h in
    let none : IsFromEnd script (lives_of w) (place l.far_place l.far_port) [] = λ k at where_is f r. absurd (none_some (sym Rattle.net_game.proofs.KnownLemmas.empty_none ∙ r)) in
    each_index (IsFromEnd script (lives_of w) (place l.far_place l.far_port)) (hand_of w.fabric.wires l.far_place) 0 [] none (m.froms.hands l.far_place l.far_port m.link.there.node_below is) l m.link refl (Reply from to nonce) read

reply_nonce : (own from : EndId) (nonce : ℕ) (history : History) → nonce_after own (Replied from nonce ∷ history) ≡ nonce_after own history
reply_nonce own from nonce history = ap (λ (p : Port). p.far.nonce) (replied_as from nonce (port_after own history)).1

hears_here : (script : ScriptOf) (h : List Event) (l : LinkOf) (from to : EndId) (nonce : ℕ) → IsMoment script h (Handle l.place) l → (station (world_after script h).fabric l.place).hand ≡ hand.Frame l.port → frame_of (held_bytes (world_after script h).fabric l.place) ≡ Some (Reply from to nonce)
    → is_same_end to (end_at ((world_after script h).switches l.place) l.port) ≡ true → GoesBy script h (Handle l.place) l
hears_here script h l from to nonce m is read meant =
    let w = world_after script h in
    let v = effect (Handle l.place) w in
    let ports = reply_step l.place l.port w from to nonce is read meant in
    let far : from ≡ end_there w l = replied_by script h (Handle l.place) (turned l) from to nonce (moment_turned script h (Handle l.place) l m) is read in
    let here_is : (view v l).here ≡ Replied (end_there w l) nonce ∷ (view w l).here = heard_at l.place l.port w from nonce ports ∙ ap (λ x. Replied x nonce ∷ (view w l).here) far in
    let there_is = heard_elsewhere l.place l.port l.far_place l.far_port w from nonce ports (ends_apart script m.kept l m.link) in
    let same = same_nonce script h (Handle l.place) l m.calm (ap (nonce_after (end_here w l)) here_is ∙ reply_nonce (end_here w l) (end_there w l) nonce (view w l).here) in
    one_step script h (Handle l.place) l (hears (record {
      fresh = clocked_full script m.kept h l.place l.port m.link.here.node_below is;
      nonce = nonce;
      is = viewed (view v l) (Replied (end_there w l) nonce ∷ (view w l).here) (view w l).there (view w l).has_clocked (view w l).far_has_clocked here_is there_is (frame_clocked script m.kept h l.place l.port l.place m.calm.lawful is) (frame_clocked script m.kept h l.place l.port l.far_place m.calm.lawful is);
      probe_stays = λ found. elim (probe_on script h (Handle l.place) l m (λ e. cc) same found) [
        | inl stays ↦ stays
        | inr held ↦ absurd (false≢true (such_is (is_probe (end_here w l) (nonce_here w l)) (held_bytes w.fabric l.place) (Reply from to nonce) read (ap (λ k. is_such (is_probe (end_here w l) (nonce_here w l)) (held_bytes w.fabric k)) (same_handle l.place l.far_place held.0) ∙ held.2)))
      ];
      reply_stays = λ found. elim (reply_on script h (Handle l.place) l m (λ e. cc) same found) [
        | inl stays ↦ inr stays
        | inr held ↦ inl (eqb-true nonce (nonce_here w l) (and_parts (is_same_end from (end_there w l) && is_same_end to (end_here w l)) (nonce == nonce_here w l) (such_is (is_reply (end_there w l) (end_here w l) (nonce_here w l)) (held_bytes w.fabric l.place) (Reply from to nonce) read held.2)).1)
      ];
    }))

hears_there : (script : ScriptOf) (h : List Event) (l : LinkOf) (from to : EndId) (nonce : ℕ) → IsMoment script h (Handle l.far_place) l → (station (world_after script h).fabric l.far_place).hand ≡ hand.Frame l.far_port → frame_of (held_bytes (world_after script h).fabric l.far_place) ≡ Some (Reply from to nonce)
    → is_same_end to (end_at ((world_after script h).switches l.far_place) l.far_port) ≡ true → GoesBy script h (Handle l.far_place) l
hears_there script h l from to nonce m is read meant =
    let w = world_after script h in
    let v = effect (Handle l.far_place) w in
    let ports = reply_step l.far_place l.far_port w from to nonce is read meant in
    let own : from ≡ end_here w l = replied_by script h (Handle l.far_place) l from to nonce m is read in
    let there_is : (view v l).there ≡ Replied (end_here w l) nonce ∷ (view w l).there = heard_at l.far_place l.far_port w from nonce ports ∙ ap (λ x. Replied x nonce ∷ (view w l).there) own in
    let here_is = heard_elsewhere l.far_place l.far_port l.place l.port w from nonce ports (λ same port. ends_apart script m.kept l m.link (sym same) (sym port)) in
    let same = same_nonce script h (Handle l.far_place) l m.calm (ap (nonce_after (end_here w l)) here_is) in
    one_step script h (Handle l.far_place) l (far_hears (record {
      fresh = clocked_full script m.kept h l.far_place l.far_port m.link.there.node_below is;
      nonce = nonce;
      is = viewed (view v l) (view w l).here (Replied (end_here w l) nonce ∷ (view w l).there) (view w l).has_clocked (view w l).far_has_clocked here_is there_is (frame_clocked script m.kept h l.far_place l.far_port l.place m.calm.lawful is) (frame_clocked script m.kept h l.far_place l.far_port l.far_place m.calm.lawful is);
      stays = record {
        probe_stays = λ found. elim (probe_on script h (Handle l.far_place) l m (λ e. cc) same found) [
          | inl stays ↦ stays
          | inr held ↦ absurd (false≢true (such_is (is_probe (end_here w l) (nonce_here w l)) (held_bytes w.fabric l.far_place) (Reply from to nonce) read held.2))
        ];
        reply_stays = λ found. elim (reply_on script h (Handle l.far_place) l m (λ e. cc) same found) [
          | inl stays ↦ stays
          | inr held ↦ let at = same_handle l.far_place l.place held.0 in absurd (ends_apart script m.kept l m.link at (same_port (station w.fabric l.far_place).hand l.far_port l.port is (ap (λ k. (station w.fabric k).hand) at ∙ held.1)))
        ];
      };
    }))

reply_goes : (script : ScriptOf) (h : List Event) (s p : ℕ) (l : LinkOf) (from to : EndId) (nonce : ℕ) → IsMoment script h (Handle s) l → (station (world_after script h).fabric s).hand ≡ hand.Frame p → frame_of (held_bytes (world_after script h).fabric s) ≡ Some (Reply from to nonce) → GoesBy script h (Handle s) l
reply_goes script h s p l from to nonce m is read = by_meant (is_same_end to (end_at u p)) refl
  where
    w : WorldOf
    w = world_after script h

    u : SwitchOf
    u = w.switches s

    no_probe : s ≡ l.far_place → p ≡ l.far_port → is_such (is_probe (end_here w l) (nonce_here w l)) (held_bytes w.fabric s) ≡ true → ⊥
    no_probe at port found = false≢true (such_is (is_probe (end_here w l) (nonce_here w l)) (held_bytes w.fabric s) (Reply from to nonce) read found)

    At : ℕ → ℕ → Type 0
    At k n = IsMoment script h (Handle k) l → (station w.fabric k).hand ≡ hand.Frame n → frame_of (held_bytes w.fabric k) ≡ Some (Reply from to nonce) → is_same_end to (end_at (w.switches k) n) ≡ true → GoesBy script h (Handle k) l

    meant_for : is_same_end to (end_at u p) ≡ true → (s ≡ l.place) × (p ≡ l.port) ⊎ ((s ≡ l.place → p ≡ l.port → ⊥)) → (s ≡ l.far_place) × (p ≡ l.far_port) ⊎ ((s ≡ l.far_place → p ≡ l.far_port → ⊥)) → GoesBy script h (Handle s) l
    meant_for meant (inl a) b = subst (λ (z : ℕ × ℕ). At z.0 z.1) (λ i. (sym a.0 i, sym a.1 i)) (λ m is read meant. hears_here script h l from to nonce m is read meant) m is read meant
    meant_for meant (inr a) (inl b) = subst (λ (z : ℕ × ℕ). At z.0 z.1) (λ i. (sym b.0 i, sym b.1 i)) (λ m is read meant. hears_there script h l from to nonce m is read meant) m is read meant
    meant_for meant (inr a) (inr b) =
        let ports = reply_step s p w from to nonce is read meant in
        frame_passes script h s p l m is (heard_elsewhere s p l.place l.port w from nonce ports (λ x y. a (sym x) (sym y))) (heard_elsewhere s p l.far_place l.far_port w from nonce ports (λ x y. b (sym x) (sym y))) no_probe (λ x y _. a x y)

    both : (a b c d : ℕ) → (a ≡ c) × (b ≡ d) ⊎ (a ≡ c → b ≡ d → ⊥)
    both a b c d = by (cases_eq a c) (cases_eq b d)
      where
        by : (a ≡ c) ⊎ (a ≡ c → ⊥) → (b ≡ d) ⊎ (b ≡ d → ⊥) → (a ≡ c) × (b ≡ d) ⊎ (a ≡ c → b ≡ d → ⊥)
        by (inl x) (inl y) = inl (x, y)
        by (inl x) (inr y) = inr (λ _ e. y e)
        by (inr x) y = inr (λ e _. x e)

    not_meant : is_same_end to (end_at u p) ≡ false → s ≡ l.place → p ≡ l.port → is_such (is_reply (end_there w l) (end_here w l) (nonce_here w l)) (held_bytes w.fabric s) ≡ true → ⊥
    not_meant no_end at port found =
        let parts = and_parts (is_same_end from (end_there w l) && is_same_end to (end_here w l)) (nonce == nonce_here w l) (such_is (is_reply (end_there w l) (end_here w l) (nonce_here w l)) (held_bytes w.fabric s) (Reply from to nonce) read found) in
        true≢false (sym (and_parts (is_same_end from (end_there w l)) (is_same_end to (end_here w l)) parts.0).1 ∙ (λ i. is_same_end to (end_at (w.switches (sym at i)) (sym port i))) ∙ no_end)

    by_meant : (b : Bool) → is_same_end to (end_at u p) ≡ b → GoesBy script h (Handle s) l
    by_meant true meant = meant_for meant (both s p l.place l.port) (both s p l.far_place l.far_port)
    by_meant false no_end =
        let kept : (handled s w).switch.ports ≡ u.ports = ap (λ (st : Rattle.switch_core.specs.Steps.Step). st.switch.ports) (handled_frame s p w is ∙ ap (λ o. handles_bytes p o u) read) ∙ (Rattle.link_settling.proofs.Keeps.keeps_other_reply p nonce from to u no_end).ports_are in
        frame_passes script h s p l m is (ports_kept s w kept l.place l.port) (ports_kept s w kept l.far_place l.far_port) no_probe (not_meant no_end)

-- a frame of a session, and what is no frame
other_goes : (script : ScriptOf) (h : List Event) (s p : ℕ) (l : LinkOf) → IsMoment script h (Handle s) l → (station (world_after script h).fabric s).hand ≡ hand.Frame p → (handled s (world_after script h)).switch.ports ≡ ((world_after script h).switches s).ports
    → ((e : EndId) (n : ℕ) → is_such (is_probe e n) (held_bytes (world_after script h).fabric s) ≡ false) → ((e f : EndId) (n : ℕ) → is_such (is_reply e f n) (held_bytes (world_after script h).fabric s) ≡ false) → GoesBy script h (Handle s) l
other_goes script h s p l m is kept no_probe no_reply =
    let w = world_after script h in
    frame_passes script h s p l m is (ports_kept s w kept l.place l.port) (ports_kept s w kept l.far_place l.far_port) (λ _ _ found. true≢false (sym found ∙ no_probe (end_here w l) (nonce_here w l))) (λ _ _ found. true≢false (sym found ∙ no_reply (end_there w l) (end_here w l) (nonce_here w l)))

frame_goes : (script : ScriptOf) (h : List Event) (s p : ℕ) (l : LinkOf) → IsMoment script h (Handle s) l → (station (world_after script h).fabric s).hand ≡ hand.Frame p → GoesBy script h (Handle s) l
frame_goes script h s p l m is = by (frame_of (held_bytes w.fabric s)) refl
  where
    w : WorldOf
    w = world_after script h

    u : SwitchOf
    u = w.switches s

    ports_by : (o : Option Frame) → frame_of (held_bytes w.fabric s) ≡ o → (handled s w).switch.ports ≡ (handles_bytes p o u).switch.ports
    ports_by o read = ap (λ (st : Rattle.switch_core.specs.Steps.Step). st.switch.ports) (handled_frame s p w is ∙ ap (λ o. handles_bytes p o u) read)

    such_by : (test : Frame → Bool) (o : Option Frame) → frame_of (held_bytes w.fabric s) ≡ o → is_such test (held_bytes w.fabric s) ≡ Rattle.std.specs.Option.option_map_or test o false
    such_by test o read = ap (λ o. Rattle.std.specs.Option.option_map_or test o false) read

    by : (o : Option Frame) → frame_of (held_bytes w.fabric s) ≡ o → GoesBy script h (Handle s) l
    by None read = other_goes script h s p l m is (ports_by None read) (λ e n. such_by (is_probe e n) None read) (λ e f n. such_by (is_reply e f n) None read)
    by (Some (Carry f)) read = other_goes script h s p l m is (ports_by (Some (Carry f)) read ∙ (Rattle.link_settling.proofs.Keeps.keeps_carry p f u).ports_are) (λ e n. such_by (is_probe e n) (Some (Carry f)) read) (λ e g n. such_by (is_reply e g n) (Some (Carry f)) read)
    by (Some (Ack epoch from to n)) read = other_goes script h s p l m is (ports_by (Some (Ack epoch from to n)) read ∙ (Rattle.link_settling.proofs.Keeps.keeps_ack p epoch n from to u).ports_are) (λ e k. such_by (is_probe e k) (Some (Ack epoch from to n)) read) (λ e f k. such_by (is_reply e f k) (Some (Ack epoch from to n)) read)
    by (Some (Probe from nonce)) read = probe_goes script h s p l from nonce m is read
    by (Some (Reply from to nonce)) read = reply_goes script h s p l from to nonce m is read

handle_goes : (script : ScriptOf) (h : List Event) (s : ℕ) (l : LinkOf) → IsMoment script h (Handle s) l → GoesBy script h (Handle s) l
handle_goes script h s l m = by (station (world_after script h).fabric s).hand refl
  where
    w : WorldOf
    w = world_after script h

    by : (x : Hand) → (station w.fabric s).hand ≡ x → GoesBy script h (Handle s) l
    by hand.Empty is = absurd (true≢false (sym (handle_ready w.fabric s (lawful_is w.fabric (Handle s) m.calm.lawful).ready).1 ∙ ap (λ (x : Hand). not (Rattle.net_state.specs.Fabric.is_empty x)) is))
    by (hand.Clock n samples) is = clock_goes script h s l n samples m is
    by (hand.Frame p) is = frame_goes script h s p l m is

-- So a run goes on by each event but a tick.
pub view_goes : (script : ScriptOf) (h : List Event) (e : Event) (l : LinkOf) → IsMoment script h e l → (e ≡ Tick → ⊥) → GoesBy script h e l
view_goes script h (Handle s) l m no_tick = handle_goes script h s l m
view_goes script h Tick l m no_tick = absurd (no_tick refl)
view_goes script h (Clock s) l m no_tick = aside_goes script h (Clock s) l m no_tick (λ s e. cc)
view_goes script h (Take s p) l m no_tick = aside_goes script h (Take s p) l m no_tick (λ s e. cc)
view_goes script h (Load s) l m no_tick = aside_goes script h (Load s) l m no_tick (λ s e. cc)
view_goes script h (Fail s p) l m no_tick = aside_goes script h (Fail s p) l m no_tick (λ s e. cc)
view_goes script h (Repair s p) l m no_tick = aside_goes script h (Repair s p) l m no_tick (λ s e. cc)
view_goes script h (Lose s p n) l m no_tick = aside_goes script h (Lose s p n) l m no_tick (λ s e. cc)
view_goes script h (Again s p n) l m no_tick = aside_goes script h (Again s p n) l m no_tick (λ s e. cc)
view_goes script h (Swap s p n) l m no_tick = aside_goes script h (Swap s p n) l m no_tick (λ s e. cc)
view_goes script h (Noise s p n) l m no_tick = aside_goes script h (Noise s p n) l m no_tick (λ s e. cc)
view_goes script h (Send a b) l m no_tick = aside_goes script h (Send a b) l m no_tick (λ s e. cc)
view_goes script h (Move k) l m no_tick = aside_goes script h (Move k) l m no_tick (λ s e. cc)
view_goes script h (Restart s) l m no_tick = aside_goes script h (Restart s) l m no_tick (λ s e. cc)
