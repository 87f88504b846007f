-- What stands at each place shows the switch there.

use Rattle.std.specs.Prelude.{◌≡◌, ◌⊎◌, ◌+◌, ◌==◌, ◌<◌, ◌≤◌, ℕ, nat_lt, List, length, cond, slice_set, slice_index_or, Option, Some, None, true, false, refl}
use Rattle.std.proofs.Common.{sym, ◌∙◌, ap, subst, inl, inr, arith, eq-eqb, ne_eqb}
use Rattle.std.proofs.lemmas.Bool.{ltb-true, cases_eq}
use Rattle.std.proofs.lemmas.List.{get_or-set_other, get_or-set_same, length-set}
use Rattle.std.proofs.lemmas.List.FromFn.{get_or-map-range_with_len, length-map-range_with_len}
use Rattle.an_base.specs.Values.{TopoOf}
use Rattle.an_base.specs.declared.event.Event.{Event}
use Rattle.an_base.specs.declared.event.Event.TheVariants.{Tick, Clock, Take, Handle, Load, Restart}
use Rattle.net_script.specs.Scripts.{ScriptOf, IsScript}
use Rattle.switch_core.specs.Switch.{SwitchOf, at_port, finish_of, note_of}
use Rattle.switch_core.specs.declared.switch.TableFor.{TableFor}
use Rattle.an_base.specs.declared.port.Sample.{Sample}
use Rattle.switch_core.specs.Steps.{loaded}
use Rattle.net_state.specs.declared.hand.Hand.{Hand}
use Rattle.net_state.specs.declared.hand.Hand.TheVariants as hand
use Rattle.net_state.specs.Fabric.{StationOf, station, vacant, held_bytes, is_switch, samples_of, life_of}
use Rattle.net_state.specs.Effects.{kept_table}
use Rattle.net_state.specs.Lawful.{is_lawful}
use Rattle.table_build.specs.Made.{number_in}
use Rattle.net_world.specs.World.{WorldOf, begun, first_station, effect, world_after, loads_with, handled, started_at, next_life, table_for}
use Rattle.net_world.specs.Sound.{HandFits, IsPlaceSound, IsSoundAt, ArePlacesSound}
use Rattle.net_world.proofs.InductionLemmas.{always, world_script}
use Rattle.net_state.proofs.LawfulLemmas.{lawful_is, next_open}
use Rattle.net_world.proofs.StaysLemmas.{Handled, handles_stay, tick_after}
use Rattle.net_state.proofs.ReadyLemmas.{empty_at, all_empty, set_one, tick_is, clock_ready, load_ready, handle_ready, restart_ready, take_ready, unspent_at}

-- there is a station at the place of each switch
loads_size : (topo : Option TopoOf) (s : ℕ) (w : WorldOf) → length (loads_with topo s w).fabric.stations ≡ length w.fabric.stations
loads_size None s w = refl
loads_size (Some topo) s w = length-set w.fabric.stations s _

pub effect_size : (e : Event) (w : WorldOf) → length (effect e w).fabric.stations ≡ length w.fabric.stations
unfolding effect
effect_size (Clock s) w = length-set w.fabric.stations s _
effect_size (Take s p) w = length-set w.fabric.stations s _
effect_size (Handle s) w = length-set w.fabric.stations s _
effect_size (Load s) w = loads_size (finish_of (w.switches s)) s w
effect_size (Restart s) w = length-set w.fabric.stations s _
effect_size e w = refl

pub world_size : (script : ScriptOf) (h : List Event) → length (world_after script h).fabric.stations ≡ length script.wires.switches
world_size script h = always script (λ w. length w.fabric.stations ≡ length script.wires.switches)
    (length-map-range_with_len (first_station script) 0 (length script.wires.switches)) (λ h e lawful before. effect_size e (world_after script h) ∙ before) h

pub below_station : (script : ScriptOf) (h : List Event) (s : ℕ) → s < length script.wires.switches → s < length (world_after script h).fabric.stations
below_station script h s below = subst (λ (n : ℕ). s < n) (sym (world_size script h)) below

-- a place is one of a switch
pub switch_below : (script : ScriptOf) (h : List Event) (s : ℕ) → is_switch (world_after script h).fabric s ≡ true → s < length script.wires.switches
switch_below script h s is = ltb-true s (length script.wires.switches) (ap (λ (x : ScriptOf). nat_lt s (length x.wires.switches)) (sym (world_script script h)) ∙ is)

-- a change of what stands at one place, and of its switch
pub set_both : (P : StationOf → SwitchOf → Type 0) (stations : List StationOf) (switches : ℕ → SwitchOf) (t s : ℕ) (x : StationOf) (y : SwitchOf)
    → s < length stations → (s ≡ t → P x y) → P (slice_index_or stations s vacant) (switches s)
    → P (slice_index_or (slice_set stations t x) s vacant) (at_port t y switches s)
set_both P stations switches t s x y below here there = by (cases_eq s t) where
  by : (s ≡ t) ⊎ (s ≡ t → ⊥) → P (slice_index_or (slice_set stations t x) s vacant) (at_port t y switches s)
  by (inl same) =
      let place : slice_index_or (slice_set stations t x) s vacant ≡ x = ap (λ k. slice_index_or (slice_set stations t x) k vacant) same ∙ get_or-set_same stations t x vacant (omega (arith, below, same)) in
      let switch : at_port t y switches s ≡ y = ap (λ b. cond b y (switches s)) (eq-eqb s t same) in
      subst (λ (a : StationOf). P a (at_port t y switches s)) (sym place) (subst (λ (b : SwitchOf). P x b) (sym switch) (here same))
  by (inr other) =
      subst (λ (a : StationOf). P a (at_port t y switches s)) (sym (get_or-set_other stations t s x vacant other))
      (subst (λ (b : SwitchOf). P (slice_index_or stations s vacant) b) (sym (ap (λ b. cond b y (switches s)) (ne_eqb s t other))) there)

-- at first
pub first_sound : (script : ScriptOf) → ArePlacesSound script (begun script)
first_sound script s below =
    subst (λ (x : StationOf). IsPlaceSound script 0 s x (started_at script s 1)) (sym (get_or-map-range_with_len (first_station script) 0 (length script.wires.switches) s s vacant below (omega arith)))
    (record { note = refl; spent = refl; life = refl; any = refl; boot = omega arith; clock = omega arith; fits = λ (e : 0 ≡ 0 + 1). omega (arith, e) })

ticks_sound : (script : ScriptOf) (tick s : ℕ) (x : StationOf) (y : SwitchOf) → x.hand ≡ hand.Empty → IsPlaceSound script tick s x y → IsPlaceSound script (tick + 1) s x y
ticks_sound script tick s x y empty h =
    let clock : x.clock ≤ (tick + 1) + 1 = omega (arith, h.clock) in
    assumption (clock, subst (λ (k : Hand). HandFits (tick + 1) x.clock y k) (sym empty) (λ (e : x.clock ≡ (tick + 1) + 1). absurd (omega (arith, e, h.clock))), h)

-- a clock is taken
clock_sound : (script : ScriptOf) (tick s : ℕ) (samples : List Sample) (x : StationOf) (y : SwitchOf) → IsPlaceSound script tick s x y → IsPlaceSound script tick s (record x { hand = hand.Clock tick samples; clock = tick + 1 }) y
clock_sound script tick s samples x y h = record { note = h.note; spent = h.spent; life = h.life; any = h.any; boot = h.boot; clock = omega arith; fits = (refl, refl) }

-- a frame is taken
had_clock : (tick : ℕ) (x : StationOf) (y : SwitchOf) → x.hand ≡ hand.Empty → HandFits tick x.clock y x.hand → x.clock ≡ tick + 1 → y.tick ≡ tick
had_clock tick x y empty fits = subst (λ (k : Hand). HandFits tick x.clock y k) empty fits

take_sound : (script : ScriptOf) (tick s port : ℕ) (x : StationOf) (y : SwitchOf) → 1 ≤ port → port ≤ 12 → x.hand ≡ hand.Empty → x.spent ≡ false → tick < x.clock
    → IsPlaceSound script tick s x y → IsPlaceSound script tick s (record x { hand = hand.Frame port }) y
take_sound script tick s port x y least most empty unspent later h =
    let here : x.clock ≡ tick + 1 = omega (arith, h.clock, later) in
    record { note = h.note; spent = h.spent; life = h.life; any = h.any; boot = h.boot; clock = h.clock; fits = (least, most, had_clock tick x y empty h.fits here, sym h.spent ∙ unspent, here) }

-- what was in hand is handled
handled_tick : (tick clock : ℕ) (y : SwitchOf) (k : Hand) → HandFits tick clock y k → clock ≡ tick + 1 → tick_after k y.tick ≡ tick
handled_tick tick clock y hand.Empty fits here = fits here
handled_tick tick clock y (hand.Clock now samples) fits here = fits.0
handled_tick tick clock y (hand.Frame port) fits here = fits.2

handle_sound : (script : ScriptOf) (tick s : ℕ) (table : Option TableFor) (x : StationOf) (y u : SwitchOf) → Handled x.hand y u
    → IsPlaceSound script tick s x y → IsPlaceSound script tick s (record x { hand = hand.Empty; table = table; note = note_of u; spent = u.spent }) u
handle_sound script tick s table x y u done h = record {
  note = refl;
  spent = refl;
  life = done.life ∙ h.life ∙ ap (λ l. life_of script s l.boot) (sym done.life);
  any = done.any ∙ h.any;
  boot = subst (λ l. 1 ≤ l.boot) (sym done.life) h.boot;
  clock = h.clock;
  fits = λ (here : x.clock ≡ tick + 1). done.tick ∙ handled_tick tick x.clock y x.hand h.fits here;
}

-- a table is loaded
load_fits : (tick clock number : ℕ) (y : SwitchOf) (k : Hand) → HandFits tick clock y k → HandFits tick clock (loaded number y) k
load_fits tick clock number y hand.Empty fits = fits
load_fits tick clock number y (hand.Clock now samples) fits = fits
load_fits tick clock number y (hand.Frame port) fits = fits

load_sound : (script : ScriptOf) (tick s number : ℕ) (table : Option TableFor) (x : StationOf) (y : SwitchOf)
    → IsPlaceSound script tick s x y → IsPlaceSound script tick s (record x { table = table; note = note_of (loaded number y) }) (loaded number y)
load_sound script tick s number table x y h = record { note = refl; spent = h.spent; life = h.life; any = h.any; boot = h.boot; clock = h.clock; fits = load_fits tick x.clock number y x.hand h.fits }

-- the next life begins
restart_sound : (script : ScriptOf) (tick s boot : ℕ) (x : StationOf) → x.hand ≡ hand.Empty
    → IsPlaceSound script tick s (record x { clock = tick; table = None; note = note_of (started_at script s (boot + 1)); spent = false }) (started_at script s (boot + 1))
restart_sound script tick s boot x empty = record {
  note = refl;
  spent = refl;
  life = refl;
  any = refl;
  boot = omega arith;
  clock = omega arith;
  fits = subst (λ (k : Hand). HandFits tick tick (started_at script s (boot + 1)) k) (sym empty) (λ (e : tick ≡ tick + 1). absurd (omega (arith, e)));
}

loads_sound : (script : ScriptOf) (t s : ℕ) (topo : Option TopoOf) (w : WorldOf) → s < length w.fabric.stations → IsSoundAt script w t → IsSoundAt script w s → IsSoundAt script (loads_with topo t w) s
loads_sound script t s None w below here there = there
loads_sound script t s (Some topo) w below here there =
    let n = number_in topo (w.switches t).life in
    set_both (IsPlaceSound script w.fabric.tick s) w.fabric.stations w.switches t s _ (loaded n (w.switches t)) below
    (λ same. subst (λ (k : ℕ). IsPlaceSound script w.fabric.tick k (record (station w.fabric t) { table = Some (table_for topo (w.switches t)); note = note_of (loaded n (w.switches t)) }) (loaded n (w.switches t))) (sym same)
    (load_sound script w.fabric.tick t n (Some (table_for topo (w.switches t))) (station w.fabric t) (w.switches t) here))
    there

-- what stands at a place when what was in hand is handled
abbrev pub handled_station : ℕ → WorldOf → StationOf
handled_station t w = record (station w.fabric t) {
  hand = hand.Empty;
  table = kept_table ((note_of (handled t w).switch).epoch == (station w.fabric t).note.epoch) (station w.fabric t).table;
  note = note_of (handled t w).switch;
  spent = (handled t w).switch.spent;
}

place_step : (script : ScriptOf) → IsScript script → (h : List Event) (e : Event) → is_lawful (world_after script h).fabric e ≡ true → ArePlacesSound script (world_after script h) → ArePlacesSound script (effect e (world_after script h))
unfolding effect
place_step script kept h Tick lawful before s below =
    let w = world_after script h in
    let due = tick_is w.fabric (lawful_is w.fabric Tick lawful).ready in
    ticks_sound script w.fabric.tick s (station w.fabric s) (w.switches s) (all_empty w.fabric due.0 s) (before s below)
place_step script kept h (Clock t) lawful before s below =
    let w = world_after script h in
    let ready = clock_ready w.fabric t (lawful_is w.fabric (Clock t) lawful).ready in
    let is = switch_below script h t ready.0 in
    set_one (λ (x : StationOf). IsPlaceSound script w.fabric.tick s x (w.switches s)) w.fabric.stations t s _ (below_station script h s below)
    (λ same. subst (λ (k : ℕ). IsPlaceSound script w.fabric.tick k (record (station w.fabric t) { hand = hand.Clock w.fabric.tick (samples_of w.fabric t); clock = w.fabric.tick + 1 }) (w.switches k)) (sym same)
    (clock_sound script w.fabric.tick t (samples_of w.fabric t) (station w.fabric t) (w.switches t) (before t is)))
    (before s below)
place_step script kept h (Take t p) lawful before s below =
    let w = world_after script h in
    let next = lawful_is w.fabric (Take t p) lawful in
    let ready = take_ready w.fabric t p next.ready in
    let is = switch_below script h t ready.switch in
    let unspent = unspent_at w.fabric t (next_open w.fabric (Take t p) next refl).unspent (below_station script h t is) in
    set_one (λ (x : StationOf). IsPlaceSound script w.fabric.tick s x (w.switches s)) w.fabric.stations t s _ (below_station script h s below)
    (λ same. subst (λ (k : ℕ). IsPlaceSound script w.fabric.tick k (record (station w.fabric t) { hand = hand.Frame p }) (w.switches k)) (sym same)
    (take_sound script w.fabric.tick t p (station w.fabric t) (w.switches t) ready.least ready.most (empty_at w.fabric t ready.empty) unspent ready.later (before t is)))
    (before s below)
place_step script kept h (Handle t) lawful before s below =
    let w = world_after script h in
    let is = switch_below script h t (handle_ready w.fabric t (lawful_is w.fabric (Handle t) lawful).ready).0 in
    set_both (IsPlaceSound script w.fabric.tick s) w.fabric.stations w.switches t s _ (handled t w).switch (below_station script h s below)
    (λ same. subst (λ (k : ℕ). IsPlaceSound script w.fabric.tick k (handled_station t w) (handled t w).switch) (sym same)
    (handle_sound script w.fabric.tick t (handled_station t w).table (station w.fabric t) (w.switches t) (handled t w).switch (handles_stay (station w.fabric t).hand (held_bytes w.fabric t) (w.switches t)) (before t is)))
    (before s below)
place_step script kept h (Load t) lawful before s below =
    let w = world_after script h in
    let is = switch_below script h t (load_ready w.fabric t (lawful_is w.fabric (Load t) lawful).ready).0 in
    loads_sound script t s (finish_of (w.switches t)) w (below_station script h s below) (before t is) (before s below)
place_step script kept h (Restart t) lawful before s below =
    let w = world_after script h in
    let ready = restart_ready w.fabric t (lawful_is w.fabric (Restart t) lawful).ready in
    let b = (w.switches t).life.boot in
    set_both (IsPlaceSound script w.fabric.tick s) w.fabric.stations w.switches t s _ (next_life t w) (below_station script h s below)
    (λ same. subst (λ (k : ℕ). IsPlaceSound script w.fabric.tick k (record (station w.fabric t) { clock = w.fabric.tick; table = None; note = note_of (next_life t w); spent = false }) (next_life t w)) (sym same)
    (subst (λ (z : ScriptOf). IsPlaceSound script w.fabric.tick t (record (station w.fabric t) { clock = w.fabric.tick; table = None; note = note_of (started_at z t (b + 1)); spent = false }) (started_at z t (b + 1))) (sym (world_script script h))
    (restart_sound script w.fabric.tick t b (station w.fabric t) (empty_at w.fabric t ready.1))))
    (before s below)
place_step script kept h e lawful before s below = before s below

-- in each world that is reached, each place is sound
pub world_places : (script : ScriptOf) → IsScript script → (h : List Event) → ArePlacesSound script (world_after script h)
world_places script kept h = always script (ArePlacesSound script) (first_sound script) (place_step script kept) h
