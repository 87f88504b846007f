-- The switches of a network stand for those of the world.

use Rattle.std.specs.Prelude.{◌≡◌, ◌≢◌, ◌⊎◌, ◌+◌, ◌<◌, ◌≤◌, ◌&&◌, ℕ, not, List, [], ◌∷◌, ◌++◌, length, slice_index_or, slice_set, Bool, true, false, refl}
use Rattle.std.proofs.Common.{sym, ◌∙◌, ap, subst, arith, inl, inr, length-append, true≢false}
use Rattle.std.proofs.lemmas.Bool.{and_parts, cases_eq, ltb-true}
use Rattle.std.proofs.lemmas.List.{get_or-set_other, get_or-set_same, get_or_default, length-set}
use Rattle.std.proofs.lemmas.List.Elements.{All-nil, All-cons}
use Rattle.std.proofs.lemmas.List.FromFn.{get_or-map-range_with_len, length-map-range_with_len}
use Rattle.an_base.specs.declared.event.Event.{Event}
use Rattle.an_base.specs.declared.event.Event.TheVariants.{Tick, Clock, Take, Handle, Load, Fail, Repair, Lose, Again, Swap, Noise, Send, Move, Restart}
use Rattle.net_graph.specs.Wires.{network}
use Rattle.net_script.specs.Scripts.{ScriptOf, IsScript}
use Rattle.switch_core.specs.Switch.{SwitchOf}
use Rattle.switch_core.specs.Kept.{KeptOf, StandsFor}
use Rattle.net_state.specs.Fabric.{FabricOf, StationOf, clock_due_at, count, is_full_at, is_switch, load_due_at, station, held_bytes, vacant}
use Rattle.net_state.specs.Lawful.{is_command, is_lawful}
use Rattle.net_world.specs.World.{begun, first_station, start_of, world_after}
use Rattle.net_script.specs.Commands.{is_restart}
use Rattle.net_world.specs.Histories.{HistoryOf, IsLawful, fabric_of, owner_of, with_event, world_of}
use Rattle.fabric_book.specs.Kept.{IsPlainCommand, history_with}
use Rattle.fabric_book.specs.Nets.{AreStarted, HasFrame, IsNetKept, IsSameOrNext, IsStarted, IsSwitchKept, NetOf, PowerOf, all_powers, history_of, power_of, start_with, with_events, with_step}
use Rattle.fabric_book.proofs.DriveLemmas.{driver_owns, plain_is}
use Rattle.net_world.proofs.CountLemmas.{world_counts}
use Rattle.fabric_book.proofs.WorldFacts.{fits_after, world_script, ready_is, station_stays, switch_stays, hand_stays}
use Rattle.fabric_book.proofs.BookLemmas.{is_lawful-more, restart_below, take_below}

-- what a switch is started with stays
start_stays : (script : ScriptOf) (h more : List Event) (place : ℕ) (x y : SwitchOf) → x.life.boot ≡ y.life.boot → start_of (world_after script more).fabric.script place x.life.boot ≡ start_of (world_after script h).fabric.script place y.life.boot
start_stays script h more place x y boot =
    ap (λ (s : ScriptOf). start_of s place x.life.boot) (world_script script more ∙ sym (world_script script h))
    ∙ ap (λ b. start_of (world_after script h).fabric.script place b) boot

-- The switch at a place under an event of another
pub others_kept : (script : ScriptOf) → IsScript script → (h : List Event) (e : Event) (place : ℕ) → owner_of e ≢ place + 1 → is_lawful (world_after script h).fabric e ≡ true
    → (switch : KeptOf) (buffer : List ℕ) → IsSwitchKept (world_after script h) place switch buffer → IsSwitchKept (world_after script (h ++ e ∷ [])) place switch buffer
others_kept script kept h e place other lawful switch buffer is =
    let w = world_after script h in
    let v = world_after script (h ++ e ∷ []) in
    let others = All-cons (λ (x : Event). owner_of x ≢ place + 1) e [] other (All-nil (λ (x : Event). owner_of x ≢ place + 1)) in
    let at = station_stays script h (e ∷ []) place others in
    let same = switch_stays script h (e ∷ []) place others in
    let bytes = hand_stays script kept h (e ∷ []) place others in
    let counts = world_counts script kept h e lawful in
    let works = is.works in
    record {
      stands = subst (StandsFor switch) (sym same) is.stands;
      start = is.start ∙ sym (start_stays script h (h ++ e ∷ []) place (v.switches place) (w.switches place) (ap (λ (x : SwitchOf). x.life.boot) same));
      works = omega (arith, counts, works);
      frame = subst (λ (x : StationOf). HasFrame x.hand (held_bytes v.fabric place) buffer) (sym at)
          (subst (λ (xs : List (List ℕ)). HasFrame (station w.fabric place).hand (slice_index_or xs 0 []) buffer) (sym bytes) is.frame);
    }

-- What a network keeps after one more event.
record IsNext (h : HistoryOf) (e : Event) : Type 0 where
  lawful : IsLawful h.script (h.events ++ e ∷ [])
  counted : (fabric_of (with_event e h)).events ≡ length (h.events ++ e ∷ [])

next_is : (h : HistoryOf) (e : Event) → IsScript h.script → IsLawful h.script h.events → (fabric_of h).events ≡ length h.events → is_lawful (fabric_of h) e ≡ true → IsNext h e
next_is h e script lawful counted may =
    let counts = world_counts h.script script h.events e may in
    let long = length-append h.events (e ∷ []) in
    record { lawful = is_lawful-more h.script h.events e lawful may; counted = omega (arith, counts, long, counted) }

pub net_on : (h : HistoryOf) (e : Event) (lost now : Bool) (power : List PowerOf) (switches more : List KeptOf) (buffers filled : List (List ℕ)) → IsNetKept h lost power switches buffers → is_lawful (fabric_of h) e ≡ true
    → length more ≡ length switches → length filled ≡ length buffers
    → (now ≡ false → (place : ℕ) → place < length h.script.wires.switches → (switch : KeptOf) (buffer : List ℕ) → IsSwitchKept (world_of (with_event e h)) place (slice_index_or more place switch) (slice_index_or filled place buffer))
    → IsNetKept (with_event e h) now power more filled
net_on h e lost now power switches more buffers filled kept lawful switch_count buffer_count each =
    let next = next_is h e kept.script kept.lawful kept.counted lawful in
    assumption (next, switch_count ∙ kept.switch_count, buffer_count ∙ kept.buffer_count, each, kept)

-- the driver's
pub net_driven : (h : HistoryOf) (e : Event) (lost : Bool) (power : List PowerOf) (switches : List KeptOf) (buffers : List (List ℕ)) → IsNetKept h lost power switches buffers → is_lawful (fabric_of h) e ≡ true → owner_of e ≡ 0
    → IsNetKept (with_event e h) lost power switches buffers
net_driven h e lost power switches buffers kept lawful owner =
    net_on h e lost lost power switches switches buffers buffers kept lawful refl refl
    (λ here place below switch buffer.
    others_kept h.script kept.script h.events e place (λ (same : owner_of e ≡ place + 1). absurd (omega (arith, owner, same))) lawful (slice_index_or switches place switch) (slice_index_or buffers place buffer) (kept.each here place below switch buffer))

-- a worker's, whose switch and buffer stay
pub net_own : (h : HistoryOf) (e : Event) (lost : Bool) (power : List PowerOf) (switches : List KeptOf) (buffers : List (List ℕ)) → IsNetKept h lost power switches buffers → lost ≡ false → is_lawful (fabric_of h) e ≡ true
    → (s : ℕ) → s < length h.script.wires.switches → owner_of e ≡ s + 1
    → ((switch : KeptOf) (buffer : List ℕ) → IsSwitchKept (world_of h) s switch buffer → IsSwitchKept (world_of (with_event e h)) s switch buffer) → IsNetKept (with_event e h) lost power switches buffers
net_own h e lost power switches buffers kept here lawful s below owner stays =
    net_on h e lost lost power switches switches buffers buffers kept lawful refl refl (λ _ place low switch buffer. by place low switch buffer (cases_eq place s))
  where
    by : (place : ℕ) → place < length h.script.wires.switches → (switch : KeptOf) (buffer : List ℕ) → (place ≡ s) ⊎ (place ≡ s → ⊥)
        → IsSwitchKept (world_of (with_event e h)) place (slice_index_or switches place switch) (slice_index_or buffers place buffer)
    by place low switch buffer (inl same) =
        subst (λ (k : ℕ). IsSwitchKept (world_of (with_event e h)) k (slice_index_or switches k switch) (slice_index_or buffers k buffer)) (sym same)
        (stays (slice_index_or switches s switch) (slice_index_or buffers s buffer) (kept.each here s below switch buffer))
    by place low switch buffer (inr other) =
        others_kept h.script kept.script h.events e place (λ (same : owner_of e ≡ place + 1). other (omega (arith, owner, same))) lawful (slice_index_or switches place switch) (slice_index_or buffers place buffer) (kept.each here place low switch buffer)

-- a worker's, whose buffer has these bytes then
pub net_filled : (h : HistoryOf) (e : Event) (lost : Bool) (power : List PowerOf) (switches : List KeptOf) (buffers : List (List ℕ)) → IsNetKept h lost power switches buffers → lost ≡ false → is_lawful (fabric_of h) e ≡ true
    → (s : ℕ) (bytes : List ℕ) → s < length h.script.wires.switches → owner_of e ≡ s + 1
    → ((switch : KeptOf) (buffer : List ℕ) → IsSwitchKept (world_of h) s switch buffer → IsSwitchKept (world_of (with_event e h)) s switch bytes) → IsNetKept (with_event e h) lost power switches (slice_set buffers s bytes)
net_filled h e lost power switches buffers kept here lawful s bytes below owner fills =
    net_on h e lost lost power switches switches buffers (slice_set buffers s bytes) kept lawful refl (length-set buffers s bytes) (λ _ place low switch buffer. by place low switch buffer (cases_eq place s))
  where
    by : (place : ℕ) → place < length h.script.wires.switches → (switch : KeptOf) (buffer : List ℕ) → (place ≡ s) ⊎ (place ≡ s → ⊥)
        → IsSwitchKept (world_of (with_event e h)) place (slice_index_or switches place switch) (slice_index_or (slice_set buffers s bytes) place buffer)
    by place low switch buffer (inl same) =
        let much = kept.buffer_count in
        let bytes_are = get_or-set_same buffers s bytes buffer (omega (arith, below, much)) in
        subst (λ (k : ℕ). IsSwitchKept (world_of (with_event e h)) k (slice_index_or switches k switch) (slice_index_or (slice_set buffers s bytes) k buffer)) (sym same)
        (subst (λ (xs : List ℕ). IsSwitchKept (world_of (with_event e h)) s (slice_index_or switches s switch) xs) (sym bytes_are)
        (fills (slice_index_or switches s switch) (slice_index_or buffers s buffer) (kept.each here s below switch buffer)))
    by place low switch buffer (inr other) =
        subst (λ (xs : List ℕ). IsSwitchKept (world_of (with_event e h)) place (slice_index_or switches place switch) xs) (sym (get_or-set_other buffers s place bytes buffer other))
        (others_kept h.script kept.script h.events e place (λ (same : owner_of e ≡ place + 1). other (omega (arith, owner, same))) lawful (slice_index_or switches place switch) (slice_index_or buffers place buffer) (kept.each here place low switch buffer))

-- no event, where the hand of a switch is empty, whose buffer has these bytes then
pub net_refilled : (h : HistoryOf) (lost : Bool) (power : List PowerOf) (switches : List KeptOf) (buffers : List (List ℕ)) → IsNetKept h lost power switches buffers → (s : ℕ) (bytes : List ℕ) → s < length h.script.wires.switches
    → ((switch : KeptOf) (buffer : List ℕ) → IsSwitchKept (world_of h) s switch buffer → IsSwitchKept (world_of h) s switch bytes) → IsNetKept h lost power switches (slice_set buffers s bytes)
net_refilled h lost power switches buffers kept s bytes below fills =
    let each : lost ≡ false → (place : ℕ) → place < length h.script.wires.switches → (switch : KeptOf) (buffer : List ℕ) → IsSwitchKept (world_of h) place (slice_index_or switches place switch) (slice_index_or (slice_set buffers s bytes) place buffer)
    = λ here place low switch buffer. by here place low switch buffer (cases_eq place s) in
    assumption (length-set buffers s bytes ∙ kept.buffer_count, each, kept)
  where
    by : lost ≡ false → (place : ℕ) → place < length h.script.wires.switches → (switch : KeptOf) (buffer : List ℕ) → (place ≡ s) ⊎ (place ≡ s → ⊥)
        → IsSwitchKept (world_of h) place (slice_index_or switches place switch) (slice_index_or (slice_set buffers s bytes) place buffer)
    by here place low switch buffer (inl same) =
        let much = kept.buffer_count in
        let bytes_are = get_or-set_same buffers s bytes buffer (omega (arith, below, much)) in
        subst (λ (k : ℕ). IsSwitchKept (world_of h) k (slice_index_or switches k switch) (slice_index_or (slice_set buffers s bytes) k buffer)) (sym same)
        (subst (λ (xs : List ℕ). IsSwitchKept (world_of h) s (slice_index_or switches s switch) xs) (sym bytes_are)
        (fills (slice_index_or switches s switch) (slice_index_or buffers s buffer) (kept.each here s below switch buffer)))
    by here place low switch buffer (inr other) =
        subst (λ (xs : List ℕ). IsSwitchKept (world_of h) place (slice_index_or switches place switch) xs) (sym (get_or-set_other buffers s place bytes buffer other)) (kept.each here place low switch buffer)

-- a worker's, whose switch is this one then
pub net_switched : (h : HistoryOf) (e : Event) (lost : Bool) (power : List PowerOf) (switches : List KeptOf) (buffers : List (List ℕ)) → IsNetKept h lost power switches buffers → lost ≡ false → is_lawful (fabric_of h) e ≡ true
    → (s : ℕ) (one : KeptOf) → s < length h.script.wires.switches → owner_of e ≡ s + 1
    → ((switch : KeptOf) (buffer : List ℕ) → buffer ≡ slice_index_or buffers s buffer → IsSwitchKept (world_of h) s switch buffer → IsSwitchKept (world_of (with_event e h)) s one buffer)
    → IsNetKept (with_event e h) false power (slice_set switches s one) buffers
net_switched h e lost power switches buffers kept here lawful s one below owner steps =
    net_on h e lost false power switches (slice_set switches s one) buffers buffers kept lawful (length-set switches s one) refl (λ _ place low switch buffer. by place low switch buffer (cases_eq place s))
  where
    many : s < length switches
    many = let as_many = kept.switch_count in omega (arith, below, as_many)

    much : s < length buffers
    much = let as_many = kept.buffer_count in omega (arith, below, as_many)

    by : (place : ℕ) → place < length h.script.wires.switches → (switch : KeptOf) (buffer : List ℕ) → (place ≡ s) ⊎ (place ≡ s → ⊥)
        → IsSwitchKept (world_of (with_event e h)) place (slice_index_or (slice_set switches s one) place switch) (slice_index_or buffers place buffer)
    by place low switch buffer (inl same) =
        subst (λ (k : ℕ). IsSwitchKept (world_of (with_event e h)) k (slice_index_or (slice_set switches s one) k switch) (slice_index_or buffers k buffer)) (sym same)
        (subst (λ (x : KeptOf). IsSwitchKept (world_of (with_event e h)) s x (slice_index_or buffers s buffer)) (sym (get_or-set_same switches s one switch many))
        (steps (slice_index_or switches s switch) (slice_index_or buffers s buffer) (get_or_default buffers s buffer (slice_index_or buffers s buffer) much) (kept.each here s below switch buffer)))
    by place low switch buffer (inr other) =
        subst (λ (x : KeptOf). IsSwitchKept (world_of (with_event e h)) place x (slice_index_or buffers place buffer)) (sym (get_or-set_other switches s place one switch other))
        (others_kept h.script kept.script h.events e place (λ (same : owner_of e ≡ place + 1). other (omega (arith, owner, same))) lawful (slice_index_or switches place switch) (slice_index_or buffers place buffer) (kept.each here place low switch buffer))

-- Of a network that stands for a history
module _ (book : HistoryOf) (lost : Bool) (net : NetOf) (view_is : record { script = book.script; events = book.events; lost = lost } ≡ net) where
  pub book_at : book ≡ history_of net
  book_at = ap history_of view_is

  pub here_at : net.lost ≡ false → lost ≡ false
  here_at here = ap (λ (n : NetOf). n.lost) view_is ∙ here

  pub may_at : (e : Event) → is_lawful (fabric_of (history_of net)) e ≡ true → is_lawful (fabric_of book) e ≡ true
  may_at e lawful = subst (λ (h : HistoryOf). is_lawful (fabric_of h) e ≡ true) (sym book_at) lawful

  pub within_at : (s : ℕ) → s < length net.script.wires.switches → s < length book.script.wires.switches
  within_at s below = subst (λ (h : HistoryOf). s < length h.script.wires.switches) (sym book_at) below

  pub steps_at : (e : Event) (g : HistoryOf) (now : Bool) → g ≡ with_event e book → now ≡ lost → record { script = g.script; events = g.events; lost = now } ≡ with_step e net
  steps_at e g now is same = (λ i. record { script = (is i).script; events = (is i).events; lost = same i }) ∙ ap (with_step e) view_is

  pub goes_at : (es : List Event) (g : HistoryOf) (now : Bool) → g ≡ history_with es book → now ≡ lost → record { script = g.script; events = g.events; lost = now } ≡ with_events es net
  goes_at es g now is same = (λ i. record { script = (is i).script; events = (is i).events; lost = same i }) ∙ ap (with_events es) view_is

  pub good_at : IsScript book.script → IsScript net.script
  good_at good = subst (λ (h : HistoryOf). IsScript h.script) book_at good

-- what is kept, of equal things
pub net_as : (h g : HistoryOf) (lost now : Bool) (power : List PowerOf) (switches more : List KeptOf) (buffers filled : List (List ℕ)) → IsNetKept h lost power switches buffers
    → g ≡ h → now ≡ lost → more ≡ switches → filled ≡ buffers → IsNetKept g now power more filled
net_as h g lost now power switches more buffers filled kept books losts all full =
    subst (λ (x : HistoryOf). IsNetKept x now power more filled) (sym books)
    (subst (λ (b : Bool). IsNetKept h b power more filled) (sym losts)
    (subst (λ (xs : List KeptOf). IsNetKept h lost power xs filled) (sym all)
    (subst (λ (xs : List (List ℕ)). IsNetKept h lost power switches xs) (sym full) kept)))

-- where memory was wanting nothing is known of the switches
pub net_lost : (h : HistoryOf) (lost : Bool) (power : List PowerOf) (switches more : List KeptOf) (buffers filled : List (List ℕ)) → IsNetKept h lost power switches buffers
    → length more ≡ length switches → length filled ≡ length buffers → IsNetKept h true power more filled
net_lost h lost power switches more buffers filled kept all full =
    let each : true ≡ false → (place : ℕ) → place < length h.script.wires.switches → (switch : KeptOf) (buffer : List ℕ) → IsSwitchKept (world_of h) place (slice_index_or more place switch) (slice_index_or filled place buffer)
    = λ here. absurd (true≢false here) in
    assumption (all ∙ kept.switch_count, full ∙ kept.buffer_count, each, kept)

-- there is a station at the place of each switch
pub within_count : (h : HistoryOf) (s : ℕ) → s < length h.script.wires.switches → s < count (fabric_of h)
within_count h s below = subst (λ (x : ScriptOf). s < length x.wires.switches) (sym (world_script h.script h.events)) below

-- and after one more event neither
pub net_lost_on : (h : HistoryOf) (e : Event) (lost : Bool) (power : List PowerOf) (switches more : List KeptOf) (buffers filled : List (List ℕ)) → IsNetKept h lost power switches buffers → is_lawful (fabric_of h) e ≡ true
    → length more ≡ length switches → length filled ≡ length buffers → IsNetKept (with_event e h) true power more filled
net_lost_on h e lost power switches more buffers filled kept lawful all full =
    net_on h e lost true power switches more buffers filled kept lawful all full (λ (here : true ≡ false). absurd (true≢false here))

-- whether it came or not
pub net_lost_either : (h g : HistoryOf) (e : Event) (lost : Bool) (power : List PowerOf) (switches more : List KeptOf) (buffers : List (List ℕ)) → IsNetKept h lost power switches buffers → is_lawful (fabric_of h) e ≡ true
    → IsSameOrNext e h g → length more ≡ length switches → IsNetKept g true power more buffers
net_lost_either h g e lost power switches more buffers kept lawful (inl same) all =
    net_as h g true true power more more buffers buffers (net_lost h lost power switches more buffers buffers kept all refl) same refl refl refl
net_lost_either h g e lost power switches more buffers kept lawful (inr next) all =
    net_as (with_event e h) g true true power more more buffers buffers (net_lost_on h e lost power switches more buffers buffers kept lawful all refl) next refl refl refl

-- the driver's own commands
pub command_owner : (f : FabricOf) (e : Event) → IsScript f.script → is_command f e ≡ true → is_restart e ≡ false → owner_of e ≡ 0
command_owner f e kept command other = driver_owns f e kept (plain_is f e (record { command = command; other = other }))

-- what stands at a place, however it was read
pub same_item : {X : Type 0} (xs : List X) (i : ℕ) (a b : X) → i < length xs → a ≡ slice_index_or xs i a → b ≡ slice_index_or xs i b → a ≡ b
same_item xs i a b below a_is b_is = a_is ∙ get_or_default xs i a b below ∙ sym b_is

-- with what the switch at a place is started
pub power_long : (h : HistoryOf) (lost : Bool) (power : List PowerOf) (switches : List KeptOf) (buffers : List (List ℕ)) → IsNetKept h lost power switches buffers → length power ≡ length h.script.wires.switches
power_long h lost power switches buffers kept = ap (length {A = PowerOf}) kept.powers_are ∙ length-map-range_with_len (power_of h.script) 0 (length h.script.wires.switches)

pub power_here : (h : HistoryOf) (lost : Bool) (power : List PowerOf) (switches : List KeptOf) (buffers : List (List ℕ)) → IsNetKept h lost power switches buffers → (s : ℕ) → s < length h.script.wires.switches
    → (one : PowerOf) → one ≡ slice_index_or power s one → one ≡ power_of h.script s
power_here h lost power switches buffers kept s below one is =
    is ∙ ap (λ (ps : List PowerOf). slice_index_or ps s one) kept.powers_are ∙ get_or-map-range_with_len (power_of h.script) 0 (length h.script.wires.switches) s s one below (omega arith)

-- at first
pub net_begun : (script : ScriptOf) (h : HistoryOf) (power : List PowerOf) (switches : List KeptOf) (buffers : List (List ℕ)) → IsScript script → h ≡ record { script = script; events = [] } → power ≡ all_powers script
    → AreStarted power script.wires switches → length buffers ≡ length script.wires.switches → IsNetKept h false power switches buffers
unfolding world_after
net_begun script h power switches buffers kept is powers_are started much =
    subst (λ (x : HistoryOf). IsNetKept x false power switches buffers) (sym is)
    (record {
      script = kept;
      lawful = tt;
      counted = refl;
      powers_are = powers_are;
      switch_count = started.count;
      buffer_count = much;
      each = λ _ place below switch buffer. first place below (slice_index_or switches place switch) (slice_index_or buffers place buffer)
          (subst (λ (p : PowerOf). IsStarted (start_with p ((network script.wires).life place)) (slice_index_or switches place switch))
          (ap (λ (ps : List PowerOf). slice_index_or ps place (power_of script place)) powers_are ∙ get_or-map-range_with_len (power_of script) 0 (length script.wires.switches) place place (power_of script place) below (omega arith))
          (started.each place below (power_of script place) switch));
    })
  where
    first : (place : ℕ) → place < length script.wires.switches → (switch : KeptOf) (buffer : List ℕ) → IsStarted (start_with (power_of script place) ((network script.wires).life place)) switch → IsSwitchKept (begun script) place switch buffer
    first place below switch buffer one =
        let none = one.works in
        record {
          stands = one.stands;
          start = one.start_is;
          works = omega (arith, none);
          frame = subst (λ (x : StationOf). HasFrame x.hand (held_bytes (begun script).fabric place) buffer)
              (sym (get_or-map-range_with_len (first_station script) 0 (length script.wires.switches) place place vacant below (omega arith))) tt;
        }

-- how many events there may be
pub net_room : (h : HistoryOf) (lost : Bool) (power : List PowerOf) (switches : List KeptOf) (buffers : List (List ℕ)) → IsNetKept h lost power switches buffers → length h.events ≤ h.script.limits.events
net_room h lost power switches buffers kept =
    let room = (fits_after h.script kept.script h.events).room in
    let counted = kept.counted in
    let limit : (fabric_of h).script.limits.events ≡ h.script.limits.events = ap (λ (x : ScriptOf). x.limits.events) (world_script h.script h.events) in
    omega (arith, room, counted, limit)

-- the switch and the buffer of a place before its event
pub here_kept : (h : HistoryOf) (lost : Bool) (power : List PowerOf) (switches : List KeptOf) (buffers : List (List ℕ)) → IsNetKept h lost power switches buffers → lost ≡ false → (s : ℕ) → s < length h.script.wires.switches
    → (switch : KeptOf) (buffer : List ℕ) → switch ≡ slice_index_or switches s switch → buffer ≡ slice_index_or buffers s buffer → IsSwitchKept (world_of h) s switch buffer
here_kept h lost power switches buffers kept here s below switch buffer switch_is buffer_is =
    subst (λ (x : KeptOf). IsSwitchKept (world_of h) s x buffer) (sym switch_is)
    (subst (λ (xs : List ℕ). IsSwitchKept (world_of h) s (slice_index_or switches s switch) xs) (sym buffer_is) (kept.each here s below switch buffer))

-- the switch of a worker's event is one of the script
own_below : (f : FabricOf) (e : Event) (s : ℕ) → IsScript f.script → owner_of e ≡ s + 1 → is_lawful f e ≡ true → s < count f
own_below f (Clock t) s kept owner lawful =
    let ready = and_parts (is_switch f t && not (is_full_at f t)) (clock_due_at f t) (ready_is f (Clock t) lawful) in
    let below : t < count f = ltb-true t (count f) (and_parts (is_switch f t) (not (is_full_at f t)) ready.0).0 in
    omega (arith, below, owner)
own_below f (Take t p) s kept owner lawful = let below : t < count f = take_below f t p lawful in omega (arith, below, owner)
own_below f (Handle t) s kept owner lawful =
    let below : t < count f = ltb-true t (count f) (and_parts (is_switch f t) (is_full_at f t) (ready_is f (Handle t) lawful)).0 in
    omega (arith, below, owner)
own_below f (Load t) s kept owner lawful =
    let ready = and_parts (is_switch f t && not (is_full_at f t)) (load_due_at f t) (ready_is f (Load t) lawful) in
    let below : t < count f = ltb-true t (count f) (and_parts (is_switch f t) (not (is_full_at f t)) ready.0).0 in
    omega (arith, below, owner)
own_below f (Restart t) s kept owner lawful = let below : t < count f = restart_below f t kept lawful in omega (arith, below, owner)
own_below f Tick s kept owner lawful = absurd (omega (arith, owner))
own_below f (Fail t p) s kept owner lawful = absurd (omega (arith, owner))
own_below f (Repair t p) s kept owner lawful = absurd (omega (arith, owner))
own_below f (Lose t p n) s kept owner lawful = absurd (omega (arith, owner))
own_below f (Again t p n) s kept owner lawful = absurd (omega (arith, owner))
own_below f (Swap t p n) s kept owner lawful = absurd (omega (arith, owner))
own_below f (Noise t p n) s kept owner lawful = absurd (omega (arith, owner))
own_below f (Send from to) s kept owner lawful = absurd (omega (arith, owner))
own_below f (Move k) s kept owner lawful = absurd (omega (arith, owner))

pub net_below : (h : HistoryOf) (e : Event) (s : ℕ) → IsScript h.script → owner_of e ≡ s + 1 → is_lawful (fabric_of h) e ≡ true → s < length h.script.wires.switches
net_below h e s kept owner lawful =
    subst (λ (x : ScriptOf). s < length x.wires.switches) (world_script h.script h.events)
    (own_below (fabric_of h) e s (subst IsScript (sym (world_script h.script h.events)) kept) owner lawful)

-- what is ready and of no other kind is the next command, and no restart
pub plain_at : (f : FabricOf) (e : Event) → is_lawful f e ≡ true → (e ≡ Tick → ⊥) → ((s : ℕ) → e ≡ Clock s → ⊥) → ((s p : ℕ) → e ≡ Take s p → ⊥) → ((s : ℕ) → e ≡ Handle s → ⊥) → ((s : ℕ) → e ≡ Load s → ⊥)
    → ((k : ℕ) → e ≡ Move k → ⊥) → ((s : ℕ) → e ≡ Restart s → ⊥) → IsPlainCommand f e
plain_at f Tick lawful tick clock take handle load move restart = absurd (tick refl)
plain_at f (Clock s) lawful tick clock take handle load move restart = absurd (clock s refl)
plain_at f (Take s p) lawful tick clock take handle load move restart = absurd (take s p refl)
plain_at f (Handle s) lawful tick clock take handle load move restart = absurd (handle s refl)
plain_at f (Load s) lawful tick clock take handle load move restart = absurd (load s refl)
plain_at f (Move k) lawful tick clock take handle load move restart = absurd (move k refl)
plain_at f (Restart s) lawful tick clock take handle load move restart = absurd (restart s refl)
plain_at f (Fail s p) lawful tick clock take handle load move restart = record { command = ready_is f (Fail s p) lawful; other = refl }
plain_at f (Repair s p) lawful tick clock take handle load move restart = record { command = ready_is f (Repair s p) lawful; other = refl }
plain_at f (Lose s p n) lawful tick clock take handle load move restart = record { command = ready_is f (Lose s p n) lawful; other = refl }
plain_at f (Again s p n) lawful tick clock take handle load move restart = record { command = ready_is f (Again s p n) lawful; other = refl }
plain_at f (Swap s p n) lawful tick clock take handle load move restart = record { command = ready_is f (Swap s p n) lawful; other = refl }
plain_at f (Noise s p n) lawful tick clock take handle load move restart = record { command = ready_is f (Noise s p n) lawful; other = refl }
plain_at f (Send from to) lawful tick clock take handle load move restart = record { command = ready_is f (Send from to) lawful; other = refl }
