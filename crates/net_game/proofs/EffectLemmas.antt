-- Each lawful event is none, or one step of the network.

use Rattle.std.specs.Prelude.{◌≡◌, ◌≤◌, ◌⊎◌, ◌<◌, ◌+◌, not, ℕ, suc, cond, map, List, [], ◌∷◌, ◌++◌, Option, Some, None, Bool, true, false, refl, Contains}
use Rattle.std.proofs.Common.{true≢false, sym, ◌∙◌, ap, subst, inl, inr, arith}
use Rattle.std.proofs.lemmas.Bool.{eq-eqb}
use Rattle.switch_core.proofs.SoundLemmas.{sound_framed, sound_clocked}
use Rattle.switch_game.proofs.Own.{IsOwn}
use Rattle.switch_game.proofs.Laws.{own_of}
use Rattle.net_game.proofs.RangedSwitch.{IsRanged, ranged_framed, ranged_clocked, ranged_sampled, ranged_loaded}
use Rattle.net_game.proofs.RangedFrames.{AreFrames, IsOut, framed_frames, clocked_frames}
use Rattle.an_base.specs.Values.{LifeId, TopoOf}
use Rattle.an_base.specs.Ports.{NoteOf}
use Rattle.an_base.specs.declared.event.Event.{Event}
use Rattle.an_base.specs.declared.event.Event.TheVariants.{Tick, Clock, Take, Handle, Load, Fail, Repair, Lose, Again, Swap, Noise, Send, Move, Restart}
use Rattle.an_base.specs.declared.frame.Frame.{Frame}
use Rattle.an_base.specs.declared.port.Sample.{Sample}
use Rattle.net_script.specs.Scripts.{ScriptOf, IsScript}
use Rattle.frame_codec.specs.Frames.{IsFrame, IsCounted}
use Rattle.frame_codec.specs.Reading.{frame_of}
use Rattle.wire_set.specs.WireState.{WiresOf, place, wire_out, wire_at, hand_of}
use Rattle.topo_report.proofs.Members.{In, in_append, in_left, in_right, contains_from}
use Rattle.epoch_game.specs.Game.{Game, begins, after_load}
use Rattle.switch_core.specs.Switch.{SwitchOf, at_port, finish_of}
use Rattle.switch_core.specs.Steps.{Step, Sent, clocked, framed, loaded, still}
use Rattle.switch_core.specs.Bytes.{all_spelled}
use Rattle.switch_game.specs.Network.{Happens, Network, clock_moves, dark, frame_moves, frames_of, none, stepped, with_switch}
use Rattle.net_state.specs.declared.hand.Hand.{Hand}
use Rattle.net_state.specs.declared.hand.Hand.TheVariants as hand
use Rattle.table_build.specs.Made.{number_in}
use Rattle.net_state.specs.Fabric.{station, held_bytes, is_full_at, is_switch, load_due_at, is_empty}
use Rattle.net_state.specs.Effects.{noise, released, all_put_out}
use Rattle.net_world.specs.Heard.{ActAt, acts_of, at_place, handles_as, loads_as}
use Rattle.net_world.specs.Acts.{Act, acted, Clocks, Hears, HearsNothing, hears}
use Rattle.net_state.specs.Lawful.{is_lawful}
use Rattle.net_world.specs.World.{WorldOf, effect, handled, handles, handles_bytes, loads_with}
use Rattle.net_game.specs.Lives.{powered}
use Rattle.net_game.specs.Moves.{all_moves}
use Rattle.net_game.proofs.Firm.{places, IsFirm, IsWorked}
use Rattle.net_game.proofs.BytesLemmas.{OnWires, put_each, take_each, released_each, all_out_each, repair_each, fail_each}
use Rattle.net_game.proofs.KnownLemmas.{IsKnown, known_more, known_sent, known_frame, known_out, noise_none, empty_none}
use Rattle.std.specs.Ordering.{is_eq}
use Rattle.an_base.specs.Order.{life_cmp}
use Rattle.epoch_game.proofs.Nodes.{life_ne}
use Rattle.epoch_game.proofs.Basics.{bool_cases}
use Rattle.net_game.proofs.HoldsLemmas.{switch_here, switch_else, Holds, step_holds, restart_holds, started_ranged, can_clock, can_hand, can_load}
use Rattle.net_world.proofs.SpentLemmas.{AreEmptyIfSpent, full_unspent}
use Rattle.net_state.proofs.FitsLemmas.{switch_below}
use Rattle.net_state.proofs.LawfulLemmas.{lawful_is}
use Rattle.net_state.proofs.ReadyLemmas.{handle_ready, load_ready}
use Rattle.an_base.proofs.LifeLemmas.{same_life}
use Rattle.net_game.proofs.EachLemmas.{Each, each_index, each_map}

-- the frame went out by an event in a world
pub record IsSentBy (w : WorldOf) (e : Event) (f : Frame) : Type 0 where
  pub act : ActAt
  pub acts : acts_of w e ≡ act ∷ []
  pub sent : Sent
  pub is_frame : sent.frame ≡ f
  pub goes_out : Contains (acted act.act (w.switches act.place)).frames sent

-- A network goes on from v and g to h, and has the switches and wires that are in the world then; what is sent is sent by the event
pub record GoesOn (script : ScriptOf) (lives : List LifeId) (w : WorldOf) (e : Event) (v : Network) (g h : Game) (switches : ℕ → SwitchOf) (wires : WiresOf) : Type 0 where
  pub network : Network
  pub more : Happens lives v g network h
  pub holds : Holds script lives switches wires network h
  pub sent : (f : Frame) → In f network.sent → In f v.sent ⊎ IsSentBy w e f

-- what a place is, and what is asked of it
pub record At (script : ScriptOf) (lives : List LifeId) (w : WorldOf) (v : Network) (g : Game) : Type 0 where
  pub script_is : w.fabric.script ≡ script
  pub kept : IsScript script
  pub firm : IsFirm script lives w
  pub empty : AreEmptyIfSpent w.fabric
  pub port : (s p : ℕ) → s < places script → (station w.fabric s).hand ≡ hand.Frame p → (1 ≤ p) × (p ≤ 12)
  pub holds : Holds script lives w.switches w.fabric.wires v g

-- only the wires change, and each byte string on them was on them before or is no frame
quiet : (script : ScriptOf) (lives : List LifeId) (w : WorldOf) (e : Event) (v : Network) (g : Game) (wires : WiresOf) → At script lives w v g → OnWires (IsKnown v.sent) wires → GoesOn script lives w e v g g w.switches wires
quiet script lives w e v g wires at known = record {
  network = v;
  more = none;
  holds = record { happens = at.holds.happens; present = at.holds.present; uid = at.holds.uid; coming = at.holds.coming; heard = known; ranged = at.holds.ranged };
  sent = λ f i. inl i;
}

in_frames : (f : Frame) (xs : List Sent) → In f (frames_of xs) → (x : Sent) × (x.frame ≡ f) × In x xs
in_frames f [] i = absurd i
in_frames f (x ∷ xs) (inl is) = (x, sym is, inl refl)
in_frames f (x ∷ xs) (inr i) = let r = in_frames f xs i in (r.0, r.1, inr r.2)

-- the switch at a place takes a step
takes : (script : ScriptOf) (lives : List LifeId) (w : WorldOf) (e : Event) (v : Network) (g h : Game) (wires : WiresOf) (s : ℕ) (act : Act) (step : Step) → At script lives w v g → s < places script
    → (acts_of w e ≡ at_place s act ∷ []) ⊎ (step.frames ≡ []) → acted act (w.switches s) ≡ step → IsRanged step.switch → AreFrames step.frames
    → ((a : Network) (b : Game) → Happens lives a b v g → Happens lives a b (stepped v (w.switches s).life step) h)
    → ((P : List ℕ → Type 0) → OnWires P w.fabric.wires → Each (λ b. P b.bytes) (all_spelled step.frames) → OnWires P wires)
    → GoesOn script lives w e v g h (at_port s step.switch w.switches) wires
takes script lives w e v g h wires s act step at low acts is inside ranged can puts = record {
  network = stepped v (w.switches s).life step;
  more = can v g none;
  holds = step_holds script lives w.switches w.fabric.wires wires v g h s step at.kept.wired low inside at.holds (can (dark (powered script)) (begins (powered script).epoch) at.holds.happens)
      (puts (IsKnown all)
      (λ q. each_map (IsKnown v.sent) (IsKnown all) (wire_at w.fabric.wires q) (known_more v.sent all (λ f i. in_right f (frames_of step.frames) v.sent i)) (at.holds.heard q))
      (known_out step.frames all (each_map IsOut (λ x. IsFrame x.frame) step.frames (λ x o. o.frame_is) ranged) (λ f i. in_left f (frames_of step.frames) v.sent i)));
  sent = λ f i. by f acts (in_append f (frames_of step.frames) v.sent i);
}
  where
    all : List Frame
    all = frames_of step.frames ++ v.sent

    by : (f : Frame) → (acts_of w e ≡ at_place s act ∷ []) ⊎ (step.frames ≡ []) → In f (frames_of step.frames) ⊎ In f v.sent → In f v.sent ⊎ IsSentBy w e f
    by f a (inr i) = inl i
    by f (inr nothing) (inl i) = absurd (subst (λ (xs : List Sent). In f (frames_of xs)) nothing i)
    by f (inl a) (inl i) =
        let r = in_frames f step.frames i in
        inr (record { act = at_place s act; acts = a; sent = r.0; is_frame = r.1; goes_out = subst (λ (st : Step). Contains st.frames r.0) (sym is) (contains_from r.0 step.frames r.2) })

-- where nothing happens the network is as it was
same_network : (v : Network) (x : LifeId) (u : SwitchOf) → v.switches x ≡ u → stepped v x (still u) ≡ v
same_network v x u is = λ i. record { switches = λ y. same y i; sent = v.sent }
  where
    same : (y : LifeId) → with_switch v.switches x u y ≡ v.switches y
    same y = by (bool_cases (is_eq (life_cmp x y)))
      where
        by : (is_eq (life_cmp x y) ≡ true) ⊎ (is_eq (life_cmp x y) ≡ false) → with_switch v.switches x u y ≡ v.switches y
        by (inl e) = switch_here v.switches x u y (same_life x y e) ∙ sym is ∙ ap v.switches (same_life x y e)
        by (inr e) = switch_else v.switches x u y (life_ne x y e)

-- what was in hand is handled
handle_goes : (script : ScriptOf) (lives : List LifeId) (w : WorldOf) (v : Network) (g : Game) (s : ℕ) → At script lives w v g → s < places script → is_full_at w.fabric s ≡ true
    → GoesOn script lives w (Handle s) v g (all_moves (acts_of w (Handle s)) w.switches g) (at_port s (handled s w).switch w.switches) (all_put_out s (all_spelled (handled s w).frames) (released (station w.fabric s).hand s w.fabric.wires))
unfolding handles
handle_goes script lives w v g s at low full = by_hand (station w.fabric s).hand refl
  where
    bytes : List ℕ
    bytes = held_bytes w.fabric s

    u : SwitchOf
    u = w.switches s

    inside : IsRanged u
    inside = at.holds.ranged s low

    k : IsWorked u
    k = at.firm.sound s low

    -- what is known of it after a step
    own_after : (st : Step) (h : Game) → ((a : Network) (b : Game) → Happens lives a b v g → Happens lives a b (stepped v u.life st) h) → IsOwn u.life st.switch
    own_after st h can =
        subst (IsOwn u.life) (switch_here v.switches u.life st.switch u.life refl)
        (own_of lives (powered script) (stepped v u.life st) h u.life (can (dark (powered script)) (begins (powered script).epoch) at.holds.happens))

    own : IsOwn u.life u
    own = subst (IsOwn u.life) (at.holds.present s low) (own_of lives (powered script) v g u.life at.holds.happens)

    among : Contains lives u.life
    among = at.firm.among s low

    works : u.spent ≡ false
    works = sym (at.firm.spent s low) ∙ full_unspent w.fabric s at.empty full

    -- the moves of what is in hand
    moves : Hand → Game
    moves h = all_moves (map (at_place s) (handles_as h bytes)) w.switches g

    Goal : Hand → Step → Type 0
    Goal h st = GoesOn script lives w (Handle s) v g (moves h) (at_port s st.switch w.switches) (all_put_out s (all_spelled st.frames) (released h s w.fabric.wires))

    puts : (h : Hand) (st : Step) (P : List ℕ → Type 0) → OnWires P w.fabric.wires → Each (λ b. P b.bytes) (all_spelled st.frames) → OnWires P (all_put_out s (all_spelled st.frames) (released h s w.fabric.wires))
    puts h st P all out = all_out_each P s (all_spelled st.frames) (released h s w.fabric.wires) (released_each P h s w.fabric.wires all) out

    known : IsKnown v.sent bytes
    known = each_index (IsKnown v.sent) (hand_of w.fabric.wires s) 0 [] (inr empty_none) (at.holds.heard (place s 0))

    clock_can : (now : ℕ) (samples : List Sample) (a : Network) (b : Game) → Happens lives a b v g → Happens lives a b (stepped v u.life (clocked now samples u)) (clock_moves u.life u (clocked now samples u).switch g)
    clock_can now samples a b before = can_clock lives a b v g u.life u now samples (at.holds.present s low) among works before

    -- and of these bytes
    ByBytes : ℕ → Option Frame → Type 0
    ByBytes port o = GoesOn script lives w (Handle s) v g (all_moves (at_place s (hears port o) ∷ []) w.switches g) (at_port s (handles_bytes port o u).switch w.switches) (all_put_out s (all_spelled (handles_bytes port o u).frames) (released (hand.Frame port) s w.fabric.wires))

    by_bytes : (port : ℕ) (o : Option Frame) → (station w.fabric s).hand ≡ hand.Frame port → frame_of bytes ≡ o → ByBytes port o
    by_bytes port None hand_is bytes_is =
        takes script lives w (Handle s) v g g _ s HearsNothing (still u) at low (inr refl) refl inside tt
        (λ a b before. subst (λ (n : Network). Happens lives a b n g) (sym (same_network v u.life u (at.holds.present s low))) before)
        (puts (hand.Frame port) (still u))
    by_bytes port (Some f) hand_is bytes_is =
        let ports = at.port s port low hand_is in
        let is_frame = known_frame v.sent bytes f known bytes_is in
        let can : (a : Network) (b : Game) → Happens lives a b v g → Happens lives a b (stepped v u.life (framed port f u)) (frame_moves u.life port f u g) =
        λ a b before. can_hand lives a b v g u.life u port f (at.holds.present s low) among works ports.0 ports.1 (known_sent v.sent bytes f known bytes_is) before
        in
        takes script lives w (Handle s) v g (frame_moves u.life port f u g) _ s (Hears port f) (framed port f u) at low
        (inl (ap (λ (h : Hand). map (at_place s) (handles_as h bytes)) hand_is ∙ ap (λ (o : Option Frame). at_place s (hears port o) ∷ []) bytes_is)) refl
        (ranged_framed port f u is_frame inside)
        (framed_frames (suc k.works) u.life port f u own works ports.0 ports.1 is_frame inside (record { few = k.few; own = own_after (framed port f u) (frame_moves u.life port f u g) can; sound = sound_framed k.works port f u ports.0 ports.1 works k.sound; ranged = ranged_framed port f u is_frame inside }))
        can
        (puts (hand.Frame port) (framed port f u))

    by_hand : (h : Hand) → (station w.fabric s).hand ≡ h → GoesOn script lives w (Handle s) v g (all_moves (acts_of w (Handle s)) w.switches g) (at_port s (handled s w).switch w.switches) (all_put_out s (all_spelled (handled s w).frames) (released (station w.fabric s).hand s w.fabric.wires))
    by_hand hand.Empty is = absurd (true≢false (sym full ∙ ap (λ (h : Hand). not (is_empty h)) is))
    by_hand (hand.Clock now samples) is =
        subst (λ (h : Hand). Goal h (handles h bytes u)) (sym is)
        (takes script lives w (Handle s) v g (clock_moves u.life u (clocked now samples u).switch g) _ s (Clocks now samples) (clocked now samples u) at low
        (inl (ap (λ (h : Hand). map (at_place s) (handles_as h bytes)) is)) refl
        (ranged_clocked now samples u inside)
        (clocked_frames (suc k.works) u.life now samples u (ranged_sampled now samples u inside) (record { few = k.few; own = own_after (clocked now samples u) (clock_moves u.life u (clocked now samples u).switch g) (clock_can now samples); sound = sound_clocked k.works now samples u k.sound; ranged = ranged_clocked now samples u inside }))
        (clock_can now samples)
        (puts (hand.Clock now samples) (clocked now samples u)))
    by_hand (hand.Frame port) is =
        subst (λ (h : Hand). Goal h (handles h bytes u)) (sym is) (by_bytes port (frame_of bytes) is refl)

-- a table is loaded
load_goes : (script : ScriptOf) (lives : List LifeId) (w : WorldOf) (v : Network) (g : Game) (s : ℕ) (topo : Option TopoOf) → At script lives w v g → s < places script → load_due_at w.fabric s ≡ true → IsWorked ((loads_with topo s w).switches s)
    → GoesOn script lives w (Load s) v g (all_moves (map (at_place s) (loads_as topo (w.switches s).life)) w.switches g) (loads_with topo s w).switches (loads_with topo s w).fabric.wires
load_goes script lives w v g s None at low due next = quiet script lives w (Load s) v g w.fabric.wires at at.holds.heard
load_goes script lives w v g s (Some topo) at low due next =
    let u = w.switches s in
    let n = number_in topo u.life in
    let new : IsWorked (loaded n u) = subst (λ (b : Bool). IsWorked (cond b (loaded n u) u)) (eq-eqb s s refl) next in
    let is_due : u.load_due ≡ true = sym (ap (λ (x : NoteOf). x.load_due) (at.firm.note s low)) ∙ due in
    takes script lives w (Load s) v g (after_load g u.life) w.fabric.wires s (Rattle.net_world.specs.Acts.Loads n) (still (loaded n u)) at low (inr refl) refl (ranged_loaded n u (new.sound.least, new.sound.most) (at.holds.ranged s low)) tt
    (λ a b before. can_load lives a b v g u.life u n (at.holds.present s low) (at.firm.among s low) is_due before)
    (λ P all out. all)

restart_goes : (script : ScriptOf) (lives : List LifeId) (w : WorldOf) (v : Network) (g : Game) (s : ℕ) → At script lives w v g → (s < places script → IsCounted (at_port s (Rattle.net_world.specs.World.next_life s w) w.switches s).life.boot) → GoesOn script lives w (Restart s) v g g (at_port s (Rattle.net_world.specs.World.next_life s w) w.switches) w.fabric.wires
restart_goes script lives w v g s at boot = record {
  network = v;
  more = none;
  holds = subst (λ (x : ScriptOf). Holds script lives (at_port s (Rattle.net_world.specs.World.started_at x s ((w.switches s).life.boot + 1)) w.switches) w.fabric.wires v g) (sym at.script_is)
      (restart_holds script lives w.switches w.fabric.wires v g s (λ low. started_ranged script s ((w.switches s).life.boot + 1) at.kept low (by low)) at.holds);
  sent = λ f i. inl i;
}
  where
    by : s < places script → IsCounted ((w.switches s).life.boot + 1)
    by low = subst (λ (b : Bool). IsCounted (cond b (Rattle.net_world.specs.World.next_life s w) (w.switches s)).life.boot) (eq-eqb s s refl) (boot low)

within : (script : ScriptOf) (lives : List LifeId) (w : WorldOf) (v : Network) (g : Game) (s : ℕ) → At script lives w v g → is_switch w.fabric s ≡ true → s < places script
within script lives w v g s at is = let low = switch_below w.fabric s is in let same = ap places at.script_is in omega (arith, low, same)

-- each lawful event is none, or one step of the network
pub effect_goes : (script : ScriptOf) (lives : List LifeId) (w : WorldOf) (v : Network) (g : Game) (e : Event) → At script lives w v g → IsFirm script lives (effect e w) → is_lawful w.fabric e ≡ true → GoesOn script lives w e v g (all_moves (acts_of w e) w.switches g) (effect e w).switches (effect e w).fabric.wires
unfolding effect
effect_goes script lives w v g Tick at new lawful = quiet script lives w Tick v g _ at at.holds.heard
effect_goes script lives w v g (Clock s) at new lawful = quiet script lives w (Clock s) v g _ at at.holds.heard
effect_goes script lives w v g (Take s p) at new lawful = quiet script lives w (Take s p) v g _ at (take_each (IsKnown v.sent) (place s p) (place s 0) w.fabric.wires (inr empty_none) at.holds.heard)
effect_goes script lives w v g (Handle s) at new lawful =
    let ready = handle_ready w.fabric s (lawful_is w.fabric (Handle s) lawful).ready in
    handle_goes script lives w v g s at (within script lives w v g s at ready.0) ready.1
effect_goes script lives w v g (Load s) at new lawful =
    let ready = load_ready w.fabric s (lawful_is w.fabric (Load s) lawful).ready in
    load_goes script lives w v g s (finish_of (w.switches s)) at (within script lives w v g s at ready.0) ready.2 (new.sound s (within script lives w v g s at ready.0))
effect_goes script lives w v g (Restart s) at new lawful = restart_goes script lives w v g s at (new.boot s)
effect_goes script lives w v g (Fail s p) at new lawful = quiet script lives w (Fail s p) v g _ at (fail_each (IsKnown v.sent) (place s p) w.fabric.wires at.holds.heard)
effect_goes script lives w v g (Repair s p) at new lawful = quiet script lives w (Repair s p) v g _ at (repair_each (IsKnown v.sent) (place s p) w.fabric.wires at.holds.heard)
effect_goes script lives w v g (Lose s p n) at new lawful = quiet script lives w (Lose s p n) v g _ at at.holds.heard
effect_goes script lives w v g (Again s p n) at new lawful = quiet script lives w (Again s p n) v g _ at at.holds.heard
effect_goes script lives w v g (Swap s p n) at new lawful = quiet script lives w (Swap s p n) v g _ at at.holds.heard
effect_goes script lives w v g (Noise s p n) at new lawful = quiet script lives w (Noise s p n) v g _ at (put_each (IsKnown v.sent) (place s p) (wire_out w.fabric.wires s p) (noise n) w.fabric.wires at.holds.heard (inr (noise_none n)))
effect_goes script lives w v g (Send h k) at new lawful = quiet script lives w (Send h k) v g _ at at.holds.heard
effect_goes script lives w v g (Move k) at new lawful = quiet script lives w (Move k) v g _ at at.holds.heard
