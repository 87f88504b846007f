-- How far a network has come behind one event more.
use Rattle.std.proofs.Common.{◌≡◌, ◌≢◌, ◌∙◌, sym, ap, subst, refl, ℕ, ◌+◌, ◌-◌, ◌^◌, ◌<◌, ◌≤◌, List, [], ◌∷◌, ◌++◌, arith, length, map, slice_set, slice_index_or, true, Option, Some, None}
use Rattle.std.proofs.Math.Seq.{map-set_same}
use Rattle.std.proofs.lemmas.List.{get_or_default, get_or-map, length-map, map-set}
use Rattle.std.proofs.lemmas.List.FromFn.{map-range_with_len_more}
use Rattle.std.specs.List.{range_with_len}
use Rattle.an_base.specs.Values.{LifeId, TopoOf}
use Rattle.an_base.specs.declared.event.Event.{Event}
use Rattle.an_base.specs.declared.event.Event.TheVariants.{Tick, Clock, Take, Handle, Load, Restart}
use Rattle.net_graph.specs.Wires.{network}
use Rattle.net_script.specs.Scripts.{IsScript, ScriptOf}
use Rattle.net_state.specs.Fabric.{FabricOf, StationOf, no_life, station, vacant, held_bytes, life_of}
use Rattle.net_state.specs.Lawful.{is_lawful}
use Rattle.net_state.proofs.LawfulLemmas.{command_fits, command_is, lawful_is}
use Rattle.net_state.proofs.ReadyLemmas.{handle_ready, load_ready, restart_ready}
use Rattle.net_state.proofs.StepLemmas.{events_most}
use Rattle.net_world.specs.World.{WorldOf, effect, first_station, loads_with, world_after}
use Rattle.net_world.proofs.BootLemmas.{boot_most}
use Rattle.net_world.proofs.CountLemmas.{world_counts}
use Rattle.net_world.proofs.FabricLemmas.{world_fits}
use Rattle.net_world.proofs.InductionLemmas.{world_first, world_script}
use Rattle.net_world.proofs.PlaceLemmas.{switch_below, world_places, world_size}
use Rattle.net_world.proofs.StaysLemmas.{handles_stay}
use Rattle.net_world.proofs.WorldLemmas.{step-lawful, world_after-event}
use Rattle.report.specs.Events.{CourseOf, course_after, course_of}
use Rattle.report.specs.Retellings.{Comes}

abbrev lives_shown : FabricOf → List LifeId
lives_shown fabric = map (λ at. at.note.life) fabric.stations

-- WHAT AN EVENT MAKES OF IT

abbrev pub next_boot : LifeId → LifeId
next_boot life = record { uid = life.uid; boot = life.boot + 1 }

abbrev pub lives_behind : Event → List LifeId → List LifeId
lives_behind (Restart s) lives = slice_set lives s (next_boot (slice_index_or lives s no_life))
lives_behind event lives = lives

abbrev pub tick_behind : Event → ℕ → ℕ
tick_behind Tick tick = tick + 1
tick_behind event tick = tick

abbrev pub course_behind : Event → CourseOf → CourseOf
course_behind event course = record {
  lives = lives_behind event course.lives;
  events = course.events + 1;
  tick = tick_behind event course.tick;
}

-- the tick
loads_tick : (topo : Option TopoOf) (s : ℕ) (w : WorldOf) → (loads_with topo s w).fabric.tick ≡ w.fabric.tick
loads_tick None s w = refl
loads_tick (Some topo) s w = refl

effect_tick : (e : Event) (w : WorldOf) → (effect e w).fabric.tick ≡ tick_behind e w.fabric.tick
unfolding effect
effect_tick (Load s) w = loads_tick _ s w
effect_tick e w = refl

-- the lives: what stands at a place may change so that its life stays
life_stays : (stations : List StationOf) (s : ℕ) (at : StationOf) → at.note.life ≡ (slice_index_or stations s vacant).note.life → map (λ at. at.note.life) (slice_set stations s at) ≡ map (λ at. at.note.life) stations
life_stays stations s at same = map-set_same (λ (x : StationOf). x.note.life) stations s at vacant same

loads_lives : (topo : Option TopoOf) (s : ℕ) (w : WorldOf) → (station w.fabric s).note.life ≡ (w.switches s).life → lives_shown (loads_with topo s w).fabric ≡ lives_shown w.fabric
loads_lives None s w shown = refl
loads_lives (Some topo) s w shown = life_stays w.fabric.stations s _ (sym shown)

pub restart_below : (script : ScriptOf) → IsScript script → (h : List Event) (s : ℕ) → is_lawful (world_after script h).fabric (Restart s) ≡ true → s < length script.wires.switches
restart_below script kept h s lawful =
    let f = (world_after script h).fabric in
    let fits = world_fits script kept h in
    let below = command_fits f (Restart s) fits.script (command_is f (Restart s) (restart_ready f s (lawful_is f (Restart s) lawful).ready).0) in
    subst (λ (x : ScriptOf). s < length x.wires.switches) (world_script script h) below

-- the life that is shown at a place is that of the switch there
shown_life : (script : ScriptOf) → IsScript script → (h : List Event) (s : ℕ) → s < length script.wires.switches → (station (world_after script h).fabric s).note.life ≡ ((world_after script h).switches s).life
shown_life script kept h s below = ap (λ n. n.life) (world_places script kept h s below).note

life_at : (script : ScriptOf) (h : List Event) (s : ℕ) → s < length script.wires.switches → slice_index_or (course_after script h).lives s no_life ≡ (station (world_after script h).fabric s).note.life
life_at script h s below = get_or-map (λ (x : StationOf). x.note.life) (world_after script h).fabric.stations s vacant no_life (subst (λ (n : ℕ). s < n) (sym (world_size script h)) below)

effect_lives : (script : ScriptOf) → IsScript script → (h : List Event) (e : Event) → is_lawful (world_after script h).fabric e ≡ true → lives_shown (effect e (world_after script h)).fabric ≡ lives_behind e (lives_shown (world_after script h).fabric)
unfolding effect
effect_lives script kept h (Clock s) lawful = life_stays (world_after script h).fabric.stations s _ refl
effect_lives script kept h (Take s p) lawful = life_stays (world_after script h).fabric.stations s _ refl
effect_lives script kept h (Handle s) lawful =
    let w = world_after script h in
    let below = switch_below script h s (handle_ready w.fabric s (lawful_is w.fabric (Handle s) lawful).ready).0 in
    life_stays w.fabric.stations s _ ((handles_stay (station w.fabric s).hand (held_bytes w.fabric s) (w.switches s)).life ∙ sym (shown_life script kept h s below))
effect_lives script kept h (Load s) lawful =
    let w = world_after script h in
    let below = switch_below script h s (load_ready w.fabric s (lawful_is w.fabric (Load s) lawful).ready).0 in
    loads_lives _ s w (shown_life script kept h s below)
effect_lives script kept h (Restart s) lawful =
    let w = world_after script h in
    let boot = (w.switches s).life.boot in
    let below = restart_below script kept h s lawful in
    map-set (λ (x : StationOf). x.note.life) w.fabric.stations s _
    ∙ ap (slice_set (lives_shown w.fabric) s)
    (ap (λ (x : ScriptOf). next_boot (life_of x s boot)) (world_script script h)
    ∙ ap next_boot (sym (life_at script h s below ∙ shown_life script kept h s below ∙ (world_places script kept h s below).life)))
effect_lives script kept h e lawful = refl

-- all of it
pub course_next : (script : ScriptOf) (h : List Event) (e : Event) (course : CourseOf) → Comes script h e course → course_after script (h ++ e ∷ []) ≡ course_behind e course
course_next script h e course comes =
    let w = world_after script h in
    let next = world_after-event script h e ∙ step-lawful w e comes.lawful in
    let lives = ap (λ (v : WorldOf). lives_shown v.fabric) next ∙ effect_lives script comes.kept h e comes.lawful in
    let tick = ap (λ (v : WorldOf). v.fabric.tick) next ∙ effect_tick e w in
    let events = world_counts script comes.kept h e comes.lawful in
    ap (λ l. record { lives = l; events = (world_after script (h ++ e ∷ [])).fabric.events; tick = (world_after script (h ++ e ∷ [])).fabric.tick }) lives
    ∙ ap (λ n. record { lives = lives_behind e (lives_shown w.fabric); events = n; tick = (world_after script (h ++ e ∷ [])).fabric.tick }) events
    ∙ ap (λ t. record { lives = lives_behind e (lives_shown w.fabric); events = w.fabric.events + 1; tick = t }) tick
    ∙ ap (course_behind e) (sym comes.course_is)

-- where it is neither a tick nor a restart
pub only_counts : (e : Event) (course : CourseOf) → e ≢ Tick → ((s : ℕ) → e ≢ Restart s) → course_behind e course ≡ record course { events = course.events + 1 }
only_counts Tick course tick restart = absurd (tick refl)
only_counts (Restart s) course tick restart = absurd (restart s refl)
only_counts e course tick restart = refl

-- the next life, as its parts are written
pub restarted : (lives : List LifeId) (s place : ℕ) (events tick : ℕ) (old new : LifeId) (uid boot : ℕ) → s < length lives → place ≡ s → old ≡ slice_index_or lives place old → uid ≡ old.uid → boot ≡ old.boot → new ≡ record { uid = uid; boot = boot + 1 }
    → course_behind (Restart s) (record { lives = lives; events = events; tick = tick }) ≡ record { lives = slice_set lives place new; events = events + 1; tick = tick }
restarted lives s place events tick old new uid boot below at read uid_is boot_is new_is =
    let life : old ≡ slice_index_or lives s no_life = read ∙ ap (λ (n : ℕ). slice_index_or lives n old) at ∙ get_or_default lives s old no_life below in
    let next : new ≡ next_boot (slice_index_or lives s no_life) = new_is ∙ ap (λ (n : ℕ). record { uid = n; boot = boot + 1 }) uid_is ∙ ap (λ (n : ℕ). record { uid = old.uid; boot = n + 1 }) boot_is ∙ ap next_boot life in
    ap (λ (x : LifeId). record { lives = slice_set lives s x; events = events + 1; tick = tick }) (sym next)
    ∙ ap (λ (n : ℕ). record { lives = slice_set lives n new; events = events + 1; tick = tick }) (sym at)

-- HOW FAR IT CAN COME

pub events_fit : (script : ScriptOf) (h : List Event) (e : Event) (course : CourseOf) → Comes script h e course → course.events ≤ 16000000
events_fit script h e course comes =
    subst (λ (c : CourseOf). c.events ≤ 16000000) (sym comes.course_is) (events_most (world_after script h).fabric (world_fits script comes.kept h))

pub ticks_fit : (script : ScriptOf) (h : List Event) (e : Event) (course : CourseOf) → Comes script h e course → course.tick ≤ 1000000
ticks_fit script h e course comes =
    let f = (world_after script h).fabric in
    let fits = world_fits script comes.kept h in
    let now = fits.time.ticks in
    let most = fits.script.limits.ticks in
    let most_is : f.script.limits.ticks ≤ 1000000 = most in
    subst (λ (c : CourseOf). c.tick ≤ 1000000) (sym comes.course_is) (omega (arith, now, most_is))

pub place_fits : (script : ScriptOf) (h : List Event) (s : ℕ) (course : CourseOf) → Comes script h (Restart s) course → s < length course.lives
place_fits script h s course comes =
    let size : length (course_after script h).lives ≡ length script.wires.switches = length-map _ _ ∙ world_size script h in
    subst (λ (n : ℕ). s < n) (sym (ap (λ (c : CourseOf). length c.lives) comes.course_is ∙ size)) (restart_below script comes.kept h s comes.lawful)

pub boot_fits : (script : ScriptOf) (h : List Event) (s : ℕ) (course : CourseOf) → Comes script h (Restart s) course → (slice_index_or course.lives s no_life).boot < 2 ^ 32 - 1
boot_fits script h s course comes =
    let below = restart_below script comes.kept h s comes.lawful in
    let boot : (slice_index_or course.lives s no_life).boot ≡ ((world_after script h).switches s).life.boot = ap (λ (c : CourseOf). (slice_index_or c.lives s no_life).boot) comes.course_is ∙ ap (λ (l : LifeId). l.boot) (life_at script h s below ∙ shown_life script comes.kept h s below) in
    let most = boot_most script h s in
    let lives = comes.kept.lives in
    omega (arith, boot, most, lives)

-- AT THE BEGINNING

-- the lives so far, with one more
pub lives_more : (life : ℕ → LifeId) (s : ℕ) (x : LifeId) (old new : List LifeId) → old ≡ map life (range_with_len 0 s) → x ≡ life s → new ≡ old ++ x ∷ [] → new ≡ map life (range_with_len 0 (s + 1))
lives_more life s x old new was is pushed = let more = map-range_with_len_more life 0 s s (omega arith) in cc

pub course_first : (script : ScriptOf) (count : ℕ) (lives : List LifeId) → count ≡ length script.wires.switches → lives ≡ map (network script.wires).life (range_with_len 0 count) → record { lives = lives; events = 0; tick = 0 } ≡ course_after script []
course_first script count lives size are =
    ap (λ l. record { lives = l; events = 0; tick = 0 }) (are ∙ ap (λ (n : ℕ). map (network script.wires).life (range_with_len 0 n)) size ∙ sym (map_twice (range_with_len 0 (length script.wires.switches))))
    ∙ ap (λ (w : WorldOf). course_of w.fabric) (sym (world_first script))
  where
    map_twice : (xs : List ℕ) → map (λ (x : StationOf). x.note.life) (map (first_station script) xs) ≡ map (network script.wires).life xs
    map_twice [] = refl
    map_twice (x ∷ xs) = ap (λ (ls : List LifeId). life_of script x 1 ∷ ls) (map_twice xs)
