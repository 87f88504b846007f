-- Each switch of a reached world is sound.

use Rattle.std.specs.Prelude.{◌≡◌, ◌+◌, ◌<◌, ◌≤◌, ℕ, suc, List, length, cond, slice_get, slice_index, Any, Option, Some, None, is_some, unwrap_or, Bool, true, false, refl}
use Rattle.std.specs.Option.{option_map, option_map_or}
use Rattle.std.proofs.Common.{sym, ap, subst, arith, true≢false}
use Rattle.std.proofs.lemmas.List.Elements.{All-nil, All-get_or}
use Rattle.std.proofs.lemmas.Option.{slice_get_within, get_or_from_slice_get}
use Rattle.an_base.specs.Values.{LifeId, TopoOf}
use Rattle.an_base.specs.declared.event.Event.{Event}
use Rattle.an_base.specs.declared.event.Event.TheVariants.{Handle, Load, Restart}
use Rattle.an_base.specs.declared.frame.Frame.{Frame}
use Rattle.net_graph.specs.declared.wiring.SwitchAt.{SwitchAt}
use Rattle.net_graph.specs.Wires.{had_of, IsSwitch}
use Rattle.net_script.specs.Scripts.{ScriptOf, IsScript}
use Rattle.topo_graph.specs.Topology.{place_of}
use Rattle.topo_graph.proofs.PlaceLemmas.{place_is}
use Rattle.epoch_core.specs.Epoch.{finish}
use Rattle.frame_codec.specs.Reading.{frame_of}
use Rattle.switch_core.specs.Sound.{IsSound}
use Rattle.switch_core.specs.Switch.{SwitchOf, finish_of}
use Rattle.switch_core.specs.Steps.{clocked, framed, loaded}
use Rattle.switch_core.proofs.SoundLemmas.{sound_more, sound_started, sound_framed, sound_clocked, sound_loaded, finish_named}
use Rattle.net_state.specs.declared.hand.Hand.{Hand}
use Rattle.net_state.specs.declared.hand.Hand.TheVariants as hand
use Rattle.net_state.specs.Fabric.{station, held_bytes}
use Rattle.net_state.specs.Lawful.{is_lawful}
use Rattle.table_build.specs.Made.{number_in}
use Rattle.net_world.specs.World.{WorldOf, effect, world_after, loads_with, handled, handles, handles_bytes, next_life, start_of, started_at}
use Rattle.net_world.specs.Sound.{HandFits, TopoFits}
use Rattle.net_world.proofs.BodyLemmas.{BodyFits, frame_fits}
use Rattle.net_world.proofs.FedLemmas.{IsFed, ItemFits, framed_fed, clocked_fed, fed_finish}
use Rattle.net_world.proofs.FinishLemmas.{place_some}
use Rattle.net_world.proofs.InductionLemmas.{always, world_script}
use Rattle.net_state.proofs.LawfulLemmas.{lawful_is}
use Rattle.net_state.proofs.ReadyLemmas.{handle_ready, load_ready}
use Rattle.net_world.proofs.PlaceLemmas.{world_places, switch_below}
use Rattle.net_world.proofs.BootLemmas.{set_switch}

-- the number that a switch had is one of 1 to 126
had_within : (script : ScriptOf) → IsScript script → (s : ℕ) → (1 ≤ had_of script.wires s) × (had_of script.wires s ≤ 126)
had_within script kept s = by (slice_get script.wires.switches s) refl where
  by : (o : Option SwitchAt) → slice_get script.wires.switches s ≡ o → (1 ≤ unwrap_or (option_map (λ (x : SwitchAt). x.had) o) 1) × (unwrap_or (option_map (λ (x : SwitchAt). x.had) o) 1 ≤ 126)
  by None is = (omega arith, omega arith)
  by (Some x) is =
      let found : IsSwitch x = subst IsSwitch (get_or_from_slice_get script.wires.switches s x x is) (All-get_or IsSwitch script.wires.switches s x (slice_get_within script.wires.switches s x is) kept.wired.switches) in
      (found.had_least, found.had_most)

started_sound : (script : ScriptOf) → IsScript script → (n s boot : ℕ) → IsSound n (started_at script s boot)
started_sound script kept n s boot =
    let had = had_within script kept s in
    let start = start_of script s boot in
    sound_more 0 n (started_at script s boot) (omega arith) (sound_started start.life start.epoch start.had start.any had.0 had.1)

-- so is the number of a life in what it has finished with
number_at : (topo : TopoOf) (o : Option ℕ) → is_some o ≡ true → ((x : ℕ) → o ≡ Some x → x < length topo.entries) → TopoFits topo → (1 ≤ option_map_or (slice_index topo.numbers) o 0) × (option_map_or (slice_index topo.numbers) o 0 ≤ 126)
number_at topo None some within fits = absurd (true≢false (sym some))
number_at topo (Some x) some within fits =
    let lt = within x refl in
    let as_many = fits.as_many in
    All-get_or (λ n. (1 ≤ n) × (n ≤ 126)) topo.numbers x 0 (omega (arith, lt, as_many)) fits.within

if_joined : (b : Bool) (x : Option TopoOf) (topo : TopoOf) → cond b x None ≡ Some topo → x ≡ Some topo
if_joined true x topo is = is
if_joined false x topo is = absurd (true≢false (sym (ap is_some is)))

pub number_within : (works : ℕ) (topo : TopoOf) (y : SwitchOf) → IsSound works y → finish_of y ≡ Some topo → TopoFits topo → (1 ≤ number_in topo y.life) × (number_in topo y.life ≤ 126)
number_within works topo y h is fits =
    let named : Any (λ e. e.life ≡ y.life) topo.entries = subst (λ (l : LifeId). Any (λ e. e.life ≡ l) topo.entries) h.me (finish_named y.card y.log topo (if_joined y.joined (finish y.card y.log) topo is)) in
    number_at topo (place_of topo.entries y.life) (place_some topo.entries y.life named) (λ x at. (place_is topo.entries x y.life at).0) fits

-- a switch that is sound, and was fed with bodies that fit
pub record IsWell (n : ℕ) (y : SwitchOf) : Type 0 where
  pub sound : IsSound n y
  pub fed : IsFed y

well_more : (n m : ℕ) (y : SwitchOf) → n ≤ m → IsWell n y → IsWell m y
well_more n m y le h = record { sound = sound_more n m y le h.sound; fed = h.fed }

started_well : (script : ScriptOf) → IsScript script → (n s boot : ℕ) → IsWell n (started_at script s boot)
started_well script kept n s boot = record {
  sound = started_sound script kept n s boot;
  fed = record { log = All-nil ItemFits; came = λ q. record { accepted = All-nil BodyFits; held = λ k. tt }; proposed = had_within script kept s };
}

-- what was in hand is handled
bytes_well : (n port : ℕ) (bytes : List ℕ) (f : Option Frame) (y : SwitchOf) → frame_of bytes ≡ f → 1 ≤ port → port ≤ 12 → y.spent ≡ false → IsWell n y → IsWell (n + 1) (handles_bytes port f y).switch
bytes_well n port bytes None y is least most unspent h = well_more n (n + 1) y (omega arith) h
bytes_well n port bytes (Some f) y is least most unspent h =
    well_more (suc n) (n + 1) (framed port f y).switch (omega arith) (record { sound = sound_framed n port f y least most unspent h.sound; fed = framed_fed port f y (frame_fits bytes f is) (h.sound.least, h.sound.most) h.fed })

handles_well : (n tick clock : ℕ) (k : Hand) (bytes : List ℕ) (y : SwitchOf) → HandFits tick clock y k → IsWell n y → IsWell (n + 1) (handles k bytes y).switch
unfolding handles
handles_well n tick clock hand.Empty bytes y fits h = well_more n (n + 1) y (omega arith) h
handles_well n tick clock (hand.Clock now samples) bytes y fits h =
    well_more (suc n) (n + 1) (clocked now samples y).switch (omega arith) (record { sound = sound_clocked n now samples y h.sound; fed = clocked_fed now samples y (h.sound.least, h.sound.most) h.fed })
handles_well n tick clock (hand.Frame port) bytes y fits h = bytes_well n port bytes (frame_of bytes) y refl fits.0 fits.1 fits.3 h

abbrev AreWell : ScriptOf → WorldOf → Type 0
AreWell script w = (s : ℕ) → s < length script.wires.switches → IsWell w.fabric.events (w.switches s)

loads_well : (t s : ℕ) (topo : Option TopoOf) (w : WorldOf) → finish_of (w.switches t) ≡ topo → IsWell w.fabric.events (w.switches t) → IsWell w.fabric.events (w.switches s)
    → IsWell (loads_with topo t w).fabric.events ((loads_with topo t w).switches s)
loads_well t s None w is here there = there
loads_well t s (Some topo) w is here there =
    let number = number_in topo (w.switches t).life in
    let within = number_within w.fabric.events topo (w.switches t) here.sound is (fed_finish (w.switches t) topo here.fed is) in
    set_switch (IsWell (w.fabric.events + 1)) w.switches t s (loaded number (w.switches t))
    (λ _. well_more w.fabric.events (w.fabric.events + 1) (loaded number (w.switches t)) (omega arith)
    (record { sound = sound_loaded w.fabric.events number (w.switches t) within.0 within.1 here.sound; fed = record { log = here.fed.log; came = here.fed.came; proposed = here.fed.proposed } }))
    (λ _. well_more w.fabric.events (w.fabric.events + 1) (w.switches s) (omega arith) there)

well_next : (w : WorldOf) (s : ℕ) → IsWell w.fabric.events (w.switches s) → IsWell (w.fabric.events + 1) (w.switches s)
well_next w s h = well_more w.fabric.events (w.fabric.events + 1) (w.switches s) (omega arith) h

well_step : (script : ScriptOf) → IsScript script → (h : List Event) (e : Event) → is_lawful (world_after script h).fabric e ≡ true → AreWell script (world_after script h) → AreWell script (effect e (world_after script h))
unfolding effect
well_step script kept h (Handle t) lawful before s below =
    let w = world_after script h in
    let is = switch_below script h t (handle_ready w.fabric t (lawful_is w.fabric (Handle t) lawful).ready).0 in
    set_switch (IsWell (w.fabric.events + 1)) w.switches t s (handled t w).switch
    (λ _. handles_well w.fabric.events w.fabric.tick (station w.fabric t).clock (station w.fabric t).hand (held_bytes w.fabric t) (w.switches t) (world_places script kept h t is).fits (before t is))
    (λ _. well_next w s (before s below))
well_step script kept h (Load t) lawful before s below =
    let w = world_after script h in
    let is = switch_below script h t (load_ready w.fabric t (lawful_is w.fabric (Load t) lawful).ready).0 in
    loads_well t s (finish_of (w.switches t)) w refl (before t is) (before s below)
well_step script kept h (Restart t) lawful before s below =
    let w = world_after script h in
    let b = (w.switches t).life.boot in
    set_switch (IsWell (w.fabric.events + 1)) w.switches t s (next_life t w)
    (λ _. subst (λ (z : ScriptOf). IsWell (w.fabric.events + 1) (started_at z t (b + 1))) (sym (world_script script h)) (started_well script kept (w.fabric.events + 1) t (b + 1)))
    (λ _. well_next w s (before s below))
well_step script kept h e lawful before s below = well_next (world_after script h) s (before s below)

pub world_well : (script : ScriptOf) → IsScript script → (h : List Event) (s : ℕ) → s < length script.wires.switches → IsWell (world_after script h).fabric.events ((world_after script h).switches s)
world_well script kept h = always script (AreWell script) (λ s below. started_well script kept 0 s 1) (well_step script kept) h

-- each switch is sound, with as many works as there were events
pub world_sound : (script : ScriptOf) → IsScript script → (h : List Event) (s : ℕ) → s < length script.wires.switches → IsSound (world_after script h).fabric.events ((world_after script h).switches s)
world_sound script kept h s below = (world_well script kept h s below).sound

-- and what it finishes with fits
pub world_finishes : (script : ScriptOf) → IsScript script → (h : List Event) (s : ℕ) (topo : TopoOf) → s < length script.wires.switches → finish_of ((world_after script h).switches s) ≡ Some topo → TopoFits topo
world_finishes script kept h s topo below is = fed_finish ((world_after script h).switches s) topo (world_well script kept h s below).fed is
