-- What the hardware says of the ports: links stay while nothing disturbs, so that a clock in hand has the samples
-- of the present; and a port hears only of what lies behind it.

use Rattle.std.specs.Prelude.{◌≡◌, ◌⊎◌, ◌-◌, ◌==◌, ◌<◌, ◌≤◌, ℕ, List, [], ◌∷◌, map, slice_index_or, slice_set, cond, Option, Some, None, Bool, true, false, refl}
use Rattle.std.proofs.Common.{true≢false, sym, ◌∙◌, ap, subst, inl, inr, arith}
use Rattle.std.proofs.lemmas.Bool.{false≢true, eqb-true}
use Rattle.std.proofs.lemmas.List.{get_or-map}
use Rattle.std.proofs.lemmas.List.FromFn.{get_or-map-range_with_len}
use Rattle.an_base.specs.Values.{TopoOf}
use Rattle.an_base.specs.declared.event.Event.{Event}
use Rattle.an_base.specs.declared.event.Event.TheVariants.{Tick, Clock, Take, Handle, Load, Fail, Repair, Lose, Again, Swap, Noise, Send, Move, Restart}
use Rattle.an_base.specs.declared.frame.Frame.{Frame}
use Rattle.an_base.specs.declared.port.Sample.{Sample}
use Rattle.an_base.specs.declared.port.Sample.TheVariants as sample
use Rattle.net_graph.specs.declared.wiring.Far.{Far}
use Rattle.net_graph.specs.declared.wiring.Far.TheVariants.{Switch, HostAt}
use Rattle.net_graph.specs.Wires.{far_at}
use Rattle.net_script.specs.Scripts.{ScriptOf, IsScript}
use Rattle.frame_codec.specs.Reading.{frame_of}
use Rattle.port_monitor.specs.Histories.{Happening, History, Sampled, Replied, externals, with_happening}
use Rattle.link_settling.specs.Measures.{HasNo}
use Rattle.wire_set.specs.declared.side.Side.{Side}
use Rattle.wire_set.specs.WireState.{WiresOf, place, side_at, with_side, is_second, less_to_swap, less_again, held_from, is_copied, before_copy, copied_from, take_from, taken_frame, put_into, far_place}
use Rattle.wire_set.specs.Frames.{move_first, move_second}
use Rattle.wire_set.proofs.AgreeLemmas.{SameLinks, side_same}
use Rattle.switch_core.specs.Switch.{SwitchOf, finish_of}
use Rattle.switch_core.specs.Steps.{sample_at, framed}
use Rattle.switch_core.specs.Bytes.{all_spelled}
use Rattle.switch_core.proofs.SampleLemmas.{port_at}
use Rattle.net_state.specs.declared.hand.Hand.{Hand}
use Rattle.net_state.specs.declared.hand.Hand.TheVariants as hand
use Rattle.net_state.specs.Fabric.{FabricOf, StationOf, station, vacant, held_bytes, sample_behind, sample_of, samples_of, side_of_port, is_some_spent}
use Rattle.net_state.specs.Lawful.{is_lawful}
use Rattle.net_state.specs.Effects.{released}
use Rattle.net_state.proofs.LawfulLemmas.{lawful_is}
use Rattle.net_state.proofs.ReadyLemmas.{clock_ready, handle_ready, set_one}
use Rattle.net_state.proofs.QueueLemmas.{if_both}
use Rattle.net_world.specs.World.{WorldOf, begun, first_station, effect, handled, handles, handles_bytes, loads_with, next_life, world_after}
use Rattle.net_world.proofs.InductionLemmas.{always}
use Rattle.net_world.proofs.PlaceLemmas.{handled_station}
use Rattle.net_game.proofs.EachLemmas.{Each}
use Rattle.net_game.proofs.Firm.{places}
use Rattle.net_game.proofs.KindLemmas.{clock_is, framed_is}
use Rattle.net_game.proofs.DeliveredLemmas.{far_is}
use Rattle.net_settling.proofs.Calm.{IsCalm, calmly, last}
use Rattle.net_settling.proofs.Flights.{all_out_links, released_links, links_then, put_links}
use Rattle.net_settling.proofs.Passing.{below, calm_parts, set_cases, set_hand, take_station}
use Rattle.net_settling.proofs.Senders.{at_tick}

-- a take leaves the links
same_links : (w : WiresOf) → SameLinks w w
same_links w = record { far = λ b. refl; up = λ b. refl }

held_links : (wire to : ℕ) (w : WiresOf) → SameLinks w (held_from wire to w)
held_links wire to w =
    if_both (is_second wire w) (SameLinks w) (record (with_side wire (less_to_swap (side_at w wire)) w) { frames = move_second wire to w.frames }) (record w { frames = move_first wire to w.frames })
    (let k = side_same w wire (less_to_swap (side_at w wire)) refl refl in record { far = k.far; up = k.up }) (record { far = λ b. refl; up = λ b. refl })

copied_links : (wire : ℕ) (bytes : List ℕ) (w : WiresOf) → SameLinks w (copied_from wire bytes w)
copied_links wire bytes w =
    if_both (is_copied wire w) (SameLinks w) (put_into (far_place (side_at w wire).far) wire bytes (before_copy wire w)) w
    (links_then w (before_copy wire w) _ (side_same w wire (less_again (side_at w wire)) refl refl) (put_links (far_place (side_at w wire).far) wire bytes (before_copy wire w)))
    (same_links w)

loads_links : (o : Option TopoOf) (s : ℕ) (w : WorldOf) → SameLinks w.fabric.wires (loads_with o s w).fabric.wires
loads_links None s w = same_links w.fabric.wires
loads_links (Some topo) s w = same_links w.fabric.wires

pub calm_links : (script : ScriptOf) (h : List Event) (e : Event) → IsCalm script h e → SameLinks (world_after script h).fabric.wires (effect e (world_after script h)).fabric.wires
unfolding effect
calm_links script h Tick calm = same_links (world_after script h).fabric.wires
calm_links script h (Clock s) calm = same_links (world_after script h).fabric.wires
calm_links script h (Take s p) calm =
    let w = (world_after script h).fabric.wires in
    links_then w (held_from (place s p) (place s 0) w) (take_from (place s p) (place s 0) w) (held_links (place s p) (place s 0) w) (copied_links (place s p) (taken_frame (place s p) w) (held_from (place s p) (place s 0) w))
calm_links script h (Handle s) calm =
    let w = world_after script h in
    let v = released (station w.fabric s).hand s w.fabric.wires in
    links_then w.fabric.wires v _ (released_links (station w.fabric s).hand s w.fabric.wires) (all_out_links s (all_spelled (handled s w).frames) v)
calm_links script h (Load s) calm = let w = world_after script h in loads_links (finish_of (w.switches s)) s w
calm_links script h (Move k) calm = same_links (world_after script h).fabric.wires
calm_links script h (Fail s p) calm = absurd (true≢false (calm_parts script h (Fail s p) calm).0)
calm_links script h (Repair s p) calm = absurd (true≢false (calm_parts script h (Repair s p) calm).0)
calm_links script h (Lose s p n) calm = absurd (true≢false (calm_parts script h (Lose s p n) calm).0)
calm_links script h (Again s p n) calm = absurd (true≢false (calm_parts script h (Again s p n) calm).0)
calm_links script h (Swap s p n) calm = absurd (true≢false (calm_parts script h (Swap s p n) calm).0)
calm_links script h (Noise s p n) calm = absurd (true≢false (calm_parts script h (Noise s p n) calm).0)
calm_links script h (Send x y) calm = absurd (true≢false (calm_parts script h (Send x y) calm).0)
calm_links script h (Restart s) calm = absurd (true≢false (calm_parts script h (Restart s) calm).0)

-- so the samples of the present stay
pub sample_links : (w u : WiresOf) (at : ℕ) → SameLinks w u → sample_of (side_at u at) ≡ sample_of (side_at w at)
sample_links w u at k = ap (λ (z : Bool × Option Far). cond z.0 (sample_behind z.1) sample.Down) (λ i. (k.up at i, k.far at i))

samples_links : (f g : FabricOf) (s : ℕ) → SameLinks f.wires g.wires → samples_of g s ≡ samples_of f s
samples_links f g s k = ap (λ (q : ℕ → Sample). map q externals) (λ i p. sample_links f.wires g.wires (place s p) k i)

-- A clock in hand has the samples of the present.
abbrev AtStation : List Sample → StationOf → Type 0
AtStation now x = (n : ℕ) (samples : List Sample) → x.hand ≡ hand.Clock n samples → samples ≡ now

abbrev pub AreSampled : ScriptOf → ℕ → WorldOf → Type 0
AreSampled script c w = (s : ℕ) → s < places script → AtStation (samples_of w.fabric s) (station w.fabric s)

samples_in : Hand → List Sample
samples_in hand.Empty = []
samples_in (hand.Clock n samples) = samples
samples_in (hand.Frame p) = []

is_clocked : Hand → Bool
is_clocked hand.Empty = false
is_clocked (hand.Clock n samples) = true
is_clocked (hand.Frame p) = false

none_sampled : (now : List Sample) (x : StationOf) → is_clocked x.hand ≡ false → AtStation now x
unfolding is_clocked
none_sampled now x none n samples is = absurd (false≢true (sym none ∙ ap is_clocked is))

at_station : (stations : List StationOf) (t s : ℕ) (x : StationOf) (now : List Sample) → (s ≡ t → AtStation now x) → AtStation now (slice_index_or stations s vacant) → AtStation now (slice_index_or (slice_set stations t x) s vacant)
at_station stations t s x now here there = by (set_cases stations t s x)
  where
    by : ((s ≡ t) × (slice_index_or (slice_set stations t x) s vacant ≡ x)) ⊎ (slice_index_or (slice_set stations t x) s vacant ≡ slice_index_or stations s vacant) → AtStation now (slice_index_or (slice_set stations t x) s vacant)
    by (inl k) = subst (AtStation now) (sym k.1) (here k.0)
    by (inr same) = subst (AtStation now) (sym same) there

loads_sampled : (o : Option TopoOf) (t s : ℕ) (w : WorldOf) (now : List Sample) → AtStation now (station w.fabric s) → AtStation now (station (loads_with o t w).fabric s)
loads_sampled None t s w now old = old
loads_sampled (Some topo) t s w now old = λ n samples is. old n samples (sym (set_hand w.fabric.stations t s _ refl) ∙ is)

stations_next : (script : ScriptOf) (h : List Event) (e : Event) (s : ℕ) → IsCalm script h e → AtStation (samples_of (world_after script h).fabric s) (station (world_after script h).fabric s) → AtStation (samples_of (world_after script h).fabric s) (station (effect e (world_after script h)).fabric s)
unfolding effect is_clocked samples_in
stations_next script h Tick s calm old = old
stations_next script h (Clock t) s calm old =
    let f = (world_after script h).fabric in
    at_station f.stations t s _ (samples_of f s) (λ same n samples is. sym (ap samples_in is) ∙ ap (samples_of f) (sym same)) old
stations_next script h (Take t p) s calm old = let f = (world_after script h).fabric in at_station f.stations t s (take_station f t p) (samples_of f s) (λ same. none_sampled (samples_of f s) (take_station f t p) refl) old
stations_next script h (Handle t) s calm old = let w = world_after script h in at_station w.fabric.stations t s (handled_station t w) (samples_of w.fabric s) (λ same. none_sampled (samples_of w.fabric s) (handled_station t w) refl) old
stations_next script h (Load t) s calm old = let w = world_after script h in loads_sampled (finish_of (w.switches t)) t s w (samples_of w.fabric s) old
stations_next script h (Move k) s calm old = old
stations_next script h (Fail t p) s calm old = absurd (true≢false (calm_parts script h (Fail t p) calm).0)
stations_next script h (Repair t p) s calm old = absurd (true≢false (calm_parts script h (Repair t p) calm).0)
stations_next script h (Lose t p n) s calm old = absurd (true≢false (calm_parts script h (Lose t p n) calm).0)
stations_next script h (Again t p n) s calm old = absurd (true≢false (calm_parts script h (Again t p n) calm).0)
stations_next script h (Swap t p n) s calm old = absurd (true≢false (calm_parts script h (Swap t p n) calm).0)
stations_next script h (Noise t p n) s calm old = absurd (true≢false (calm_parts script h (Noise t p n) calm).0)
stations_next script h (Send x y) s calm old = absurd (true≢false (calm_parts script h (Send x y) calm).0)
stations_next script h (Restart t) s calm old = absurd (true≢false (calm_parts script h (Restart t) calm).0)

sampled_next : (script : ScriptOf) (h : List Event) (e : Event) → IsCalm script h e → AreSampled script (last script h) (world_after script h) → AreSampled script (last script h) (effect e (world_after script h))
sampled_next script h e calm old s low =
    let w = world_after script h in
    subst (λ now. AtStation now (station (effect e w).fabric s)) (sym (samples_links w.fabric (effect e w).fabric s (calm_links script h e calm))) (stations_next script h e s calm (old s low))

sampled_first : (script : ScriptOf) → IsScript script → script.pace ≡ None → (h : List Event) → is_lawful (world_after script h).fabric Tick ≡ true → AreSampled script (last script h) (effect Tick (world_after script h))
unfolding effect is_clocked
sampled_first script kept unpaced h lawful s low =
    let f = (world_after script h).fabric in
    none_sampled (samples_of f s) (station f s) (ap is_clocked ((at_tick script kept unpaced h lawful).hands s))

pub all_sampled : (script : ScriptOf) → IsScript script → script.pace ≡ None → (h : List Event) → is_some_spent (world_after script h).fabric ≡ false → last script h < (world_after script h).fabric.tick → AreSampled script (last script h) (world_after script h)
all_sampled script kept unpaced h works later = calmly script (AreSampled script) (λ g lawful works now. sampled_first script kept unpaced g lawful) (sampled_next script) h works later

-- the sample of one port
pub sample_here : (f : FabricOf) (s p : ℕ) → 1 ≤ p → p ≤ 12 → sample_at (samples_of f s) p ≡ sample_of (side_of_port f s p)
sample_here f s p least most =
    let at : slice_index_or externals (p - 1) 0 ≡ p = port_at (p - 1) (omega (arith, least, most)) ∙ omega (arith, least) in
    get_or-map (λ q. sample_of (side_of_port f s q)) externals (p - 1) 0 sample.Down (omega (arith, least, most)) ∙ ap (λ q. sample_of (side_of_port f s q)) at

-- A port hears only of what lies behind it, and that it is down.
abbrev pub Fitting : Option Far → Sample → Type 0
Fitting far x = (x ≡ sample.Down) ⊎ (x ≡ sample_behind far)

abbrev pub FitsFar : Option Far → Happening → Type 0
FitsFar far (Sampled x) = Fitting far x
FitsFar far (Replied from nonce) = Unit {0}

sample_fits : (side : Side) → Fitting side.far (sample_of side)
sample_fits side = by side.is_up
  where
    by : (b : Bool) → Fitting side.far (cond b (sample_behind side.far) sample.Down)
    by true = inr refl
    by false = inl refl

record AreFitting (script : ScriptOf) (w : WorldOf) : Type 0 where
  hands : (s p n : ℕ) (samples : List Sample) → s < places script → 1 ≤ p → p ≤ 12 → (station w.fabric s).hand ≡ hand.Clock n samples → Fitting (far_at script.wires s p) (sample_at samples p)
  ports : (s p : ℕ) → s < places script → 1 ≤ p → p ≤ 12 → Each (FitsFar (far_at script.wires s p)) ((w.switches s).ports p)

abbrev HandFitting : ScriptOf → ℕ → Hand → Type 0
HandFitting script s x = (p n : ℕ) (samples : List Sample) → 1 ≤ p → p ≤ 12 → x ≡ hand.Clock n samples → Fitting (far_at script.wires s p) (sample_at samples p)

none_fitting : (script : ScriptOf) (s : ℕ) (x : Hand) → is_clocked x ≡ false → HandFitting script s x
unfolding is_clocked
none_fitting script s x none p n samples least most is = absurd (false≢true (sym none ∙ ap is_clocked is))

hand_set : (script : ScriptOf) (stations : List StationOf) (t s : ℕ) (x : StationOf) → (s ≡ t → HandFitting script s x.hand) → HandFitting script s (slice_index_or stations s vacant).hand → HandFitting script s (slice_index_or (slice_set stations t x) s vacant).hand
hand_set script stations t s x here there = by (set_cases stations t s x)
  where
    by : ((s ≡ t) × (slice_index_or (slice_set stations t x) s vacant ≡ x)) ⊎ (slice_index_or (slice_set stations t x) s vacant ≡ slice_index_or stations s vacant) → HandFitting script s (slice_index_or (slice_set stations t x) s vacant).hand
    by (inl k) = subst (λ (y : StationOf). HandFitting script s y.hand) (sym k.1) (here k.0)
    by (inr same) = subst (λ (y : StationOf). HandFitting script s y.hand) (sym same) there

loads_fitting : (script : ScriptOf) (o : Option TopoOf) (t s : ℕ) (w : WorldOf) → HandFitting script s (station w.fabric s).hand → HandFitting script s (station (loads_with o t w).fabric s).hand
loads_fitting script None t s w old = old
loads_fitting script (Some topo) t s w old = subst (HandFitting script s) (sym (set_hand w.fabric.stations t s _ refl)) old

hands_fit : (script : ScriptOf) → IsScript script → (h : List Event) (e : Event) → is_lawful (world_after script h).fabric e ≡ true → (s : ℕ) → s < places script → HandFitting script s (station (world_after script h).fabric s).hand → HandFitting script s (station (effect e (world_after script h)).fabric s).hand
unfolding effect is_clocked samples_in
hands_fit script kept h (Clock t) lawful s low old =
    let f = (world_after script h).fabric in
    hand_set script f.stations t s _
    (λ same p n samples least most is.
    subst (λ xs. Fitting (far_at script.wires s p) (sample_at xs p)) (ap samples_in is)
    (subst (Fitting (far_at script.wires s p)) (sym (sample_here f t p least most))
    (subst (λ k. Fitting (far_at script.wires s p) (sample_of (side_of_port f k p))) same
    (subst (λ o. Fitting o (sample_of (side_of_port f s p))) (far_is script kept h s p low (omega (arith, most))) (sample_fits (side_of_port f s p))))))
    old
hands_fit script kept h (Take t p) lawful s low old = hand_set script (world_after script h).fabric.stations t s _ (λ same. none_fitting script s _ refl) old
hands_fit script kept h (Handle t) lawful s low old = hand_set script (world_after script h).fabric.stations t s _ (λ same. none_fitting script s _ refl) old
hands_fit script kept h (Load t) lawful s low old = let w = world_after script h in loads_fitting script (finish_of (w.switches t)) t s w old
hands_fit script kept h (Restart t) lawful s low old = let f = (world_after script h).fabric in subst (HandFitting script s) (sym (set_hand f.stations t s _ refl)) old
hands_fit script kept h e lawful s low old = old

-- the ports of a switch
abbrev PortsFit : ScriptOf → ℕ → SwitchOf → Type 0
PortsFit script s u = (p : ℕ) → 1 ≤ p → p ≤ 12 → Each (FitsFar (far_at script.wires s p)) (u.ports p)

framed_fit : (script : ScriptOf) (s port : ℕ) (f : Frame) (u : SwitchOf) → PortsFit script s u → PortsFit script s (framed port f u).switch
framed_fit script s port f u old p least most = by (framed port f u).switch (framed_is port f u).ports
  where
    by : (v : SwitchOf) → (v.ports ≡ u.ports) ⊎ ((from to : _) × (nonce : ℕ) × (f ≡ Rattle.an_base.specs.declared.frame.Frame.TheVariants.Reply from to nonce) × (Rattle.connectivity.specs.Connections.is_same_end to (Rattle.switch_core.specs.Switch.end_at u port) ≡ true) × (v.ports ≡ with_happening port (Replied from nonce) u.ports))
        → Each (FitsFar (far_at script.wires s p)) (v.ports p)
    by v (inl same) = subst (λ (ports : ℕ → History). Each (FitsFar (far_at script.wires s p)) (ports p)) (sym same) (old p least most)
    by v (inr r) = subst (λ (ports : ℕ → History). Each (FitsFar (far_at script.wires s p)) (ports p)) (sym r.5) (heard (p == port))
      where
        heard : (b : Bool) → Each (FitsFar (far_at script.wires s p)) (cond b (Replied r.0 r.2 ∷ u.ports p) (u.ports p))
        heard true = (tt, old p least most)
        heard false = old p least most

handled_fit : (script : ScriptOf) (s : ℕ) (w : WorldOf) → HandFitting script s (station w.fabric s).hand → PortsFit script s (w.switches s) → PortsFit script s (handled s w).switch
unfolding handles
handled_fit script s w hands old = by (station w.fabric s).hand hands
  where
    u : SwitchOf
    u = w.switches s

    by_frame : (port : ℕ) (o : Option Frame) → PortsFit script s (handles_bytes port o u).switch
    by_frame port None = old
    by_frame port (Some f) = framed_fit script s port f u old

    by : (x : Hand) → HandFitting script s x → PortsFit script s (handles x (held_bytes w.fabric s) u).switch
    by hand.Empty fits = old
    by (hand.Clock n samples) fits = λ p least most. subst (Each (FitsFar (far_at script.wires s p))) (sym ((clock_is n samples u).ports p)) (fits p n samples least most refl, old p least most)
    by (hand.Frame port) fits = by_frame port (frame_of (held_bytes w.fabric s))

set_ports : (script : ScriptOf) (switches : ℕ → SwitchOf) (t s : ℕ) (u : SwitchOf) → PortsFit script t u → PortsFit script s (switches s) → PortsFit script s (cond (s == t) u (switches s))
set_ports script switches t s u here there = by (s == t) refl
  where
    by : (b : Bool) → (s == t) ≡ b → PortsFit script s (cond b u (switches s))
    by true is = subst (λ k. PortsFit script k u) (sym (eqb-true s t is)) here
    by false is = there

loads_ports : (script : ScriptOf) (o : Option TopoOf) (t s : ℕ) (w : WorldOf) → PortsFit script t (w.switches t) → PortsFit script s (w.switches s) → PortsFit script s ((loads_with o t w).switches s)
loads_ports script None t s w here there = there
loads_ports script (Some topo) t s w here there = set_ports script w.switches t s _ here there

ports_fit : (script : ScriptOf) → (h : List Event) (e : Event) → is_lawful (world_after script h).fabric e ≡ true → AreFitting script (world_after script h) → (s : ℕ) → s < places script → PortsFit script s ((effect e (world_after script h)).switches s)
unfolding effect
ports_fit script h (Handle t) lawful old s low =
    let w = world_after script h in
    let at = below script h t (handle_ready w.fabric t (lawful_is w.fabric (Handle t) lawful).ready).0 in
    set_ports script w.switches t s (handled t w).switch (handled_fit script t w (λ p n samples least most is. old.hands t p n samples at least most is) (λ p. old.ports t p at)) (λ p. old.ports s p low)
ports_fit script h (Load t) lawful old s low =
    let w = world_after script h in
    let at = below script h t (Rattle.net_state.proofs.ReadyLemmas.load_ready w.fabric t (lawful_is w.fabric (Load t) lawful).ready).0 in
    loads_ports script (finish_of (w.switches t)) t s w (λ p. old.ports t p at) (λ p. old.ports s p low)
ports_fit script h (Restart t) lawful old s low = let w = world_after script h in set_ports script w.switches t s (next_life t w) (λ p least most. tt) (λ p. old.ports s p low)
ports_fit script h e lawful old s low = λ p. old.ports s p low

first_fit : (script : ScriptOf) → AreFitting script (begun script)
unfolding is_clocked
first_fit script = record {
  hands = λ s p n samples low least most is.
      let first : station (begun script).fabric s ≡ first_station script s = get_or-map-range_with_len (first_station script) 0 (places script) s s vacant low (omega arith) in
      none_fitting script s (station (begun script).fabric s).hand (ap (λ (x : StationOf). is_clocked x.hand) first) p n samples least most is;
  ports = λ s p low least most. tt;
}

all_fitting : (script : ScriptOf) → IsScript script → (h : List Event) → AreFitting script (world_after script h)
all_fitting script kept h = always script (AreFitting script) (first_fit script)
    (λ g e lawful old. record {
      hands = λ s p n samples low least most is. hands_fit script kept g e lawful s low (λ p n samples least most is. old.hands s p n samples low least most is) p n samples least most is;
      ports = λ s p low. ports_fit script g e lawful old s low p;
    }) h

-- so a port with a link of a switch was never that of a host, and one with a host never that of a switch
no_other : (far : Option Far) (other : Sample) → (sample_behind far ≡ other → ⊥) → (sample.Down ≡ other → ⊥) → (history : History) → Each (FitsFar far) history → HasNo other history
no_other far other differs up [] all = tt
no_other far other differs up (Sampled x ∷ history) all = (by all.0, no_other far other differs up history all.1)
  where
    by : Fitting far x → x ≡ other → ⊥
    by (inl down) is = up (sym down ∙ is)
    by (inr behind) is = differs (sym behind ∙ is)
no_other far other differs up (Replied from nonce ∷ history) all = no_other far other differs up history all.1

pub never_host : (script : ScriptOf) → IsScript script → (h : List Event) (s p t q : ℕ) → s < places script → 1 ≤ p → p ≤ 12 → far_at script.wires s p ≡ Some (Switch t q) → HasNo sample.Host (((world_after script h).switches s).ports p)
never_host script kept h s p t q low least most far =
    no_other (Some (Switch t q)) sample.Host (λ e. cc) (λ e. cc) (((world_after script h).switches s).ports p)
    (subst (λ o. Each (FitsFar o) (((world_after script h).switches s).ports p)) far ((all_fitting script kept h).ports s p low least most))

pub never_switch : (script : ScriptOf) → IsScript script → (h : List Event) (s p n : ℕ) → s < places script → 1 ≤ p → p ≤ 12 → far_at script.wires s p ≡ Some (HostAt n) → HasNo sample.Switch (((world_after script h).switches s).ports p)
never_switch script kept h s p n low least most far =
    no_other (Some (HostAt n)) sample.Switch (λ e. cc) (λ e. cc) (((world_after script h).switches s).ports p)
    (subst (λ o. Each (FitsFar o) (((world_after script h).switches s).ports p)) far ((all_fitting script kept h).ports s p low least most))
