-- Who has joined stays joined, and a frame spends no switch: from the first tick after the last disturbance on
-- each switch has joined.

use Rattle.std.specs.Prelude.{◌≡◌, ◌==◌, ◌<◌, ℕ, suc, nat_lt, List, cond, Option, Some, None, Bool, true, false, refl}
use Rattle.std.proofs.Common.{true≢false, sym, ◌∙◌, ap}
use Rattle.std.proofs.lemmas.Bool.{cond_both, eqb-true}
use Rattle.an_base.specs.Values.{EndId, TopoOf}
use Rattle.an_base.specs.Frames.{CarryOf}
use Rattle.an_base.specs.declared.body.Body.{Body}
use Rattle.an_base.specs.declared.event.Event.{Event}
use Rattle.an_base.specs.declared.event.Event.TheVariants.{Tick, Handle, Load, Restart}
use Rattle.an_base.specs.declared.frame.Frame.{Frame}
use Rattle.an_base.specs.declared.frame.Frame.TheVariants.{Carry, Ack, Probe, Reply}
use Rattle.an_base.specs.declared.port.Sample.{Sample}
use Rattle.connectivity.specs.Connections.{is_same_end}
use Rattle.net_script.specs.Scripts.{ScriptOf, IsScript}
use Rattle.frame_codec.specs.Reading.{frame_of}
use Rattle.ordered_link.specs.Receiving.{accepted_by}
use Rattle.port_monitor.specs.Histories.{Replied, with_happening}
use Rattle.switch_core.specs.Switch.{SwitchOf, counts, end_at, finish_of}
use Rattle.switch_core.specs.Steps.{Step, after, all_added, all_resent, answers_body, clocked, framed, goes_on, is_change_due, is_spent_by, joins, on_ack, on_carry, probes, receives, sampled_by, still}
use Rattle.switch_core.proofs.SoundLemmas.{joins_joined, joins_spent}
use Rattle.switch_core.proofs.WindowLemmas.{OnlySends, all_pushed_few, all_resent_few, on_ack_few}
use Rattle.net_state.specs.declared.hand.Hand.{Hand}
use Rattle.net_state.specs.declared.hand.Hand.TheVariants as hand
use Rattle.net_state.specs.Fabric.{station, held_bytes, is_some_spent}
use Rattle.net_state.specs.Lawful.{is_lawful}
use Rattle.net_world.specs.World.{WorldOf, effect, handled, handles, handles_bytes, loads_with, world_after}
use Rattle.net_world.proofs.LawLemmas.{world_is_sound}
use Rattle.net_game.proofs.Firm.{places}
use Rattle.net_game.proofs.PortFacts.{has_ports}
use Rattle.net_settling.proofs.Calm.{IsCalm, calmly, last, unspent_here}
use Rattle.net_settling.proofs.Passing.{calm_parts}
use Rattle.net_settling.proofs.Senders.{at_tick}

-- Who has joined stays so, and is spent or not as before
pub record IsWorking (u v : SwitchOf) : Type 0 where
  pub joined : u.joined ≡ true → v.joined ≡ true
  pub spent : v.spent ≡ u.spent

working : (u : SwitchOf) → IsWorking u u
working u = record { joined = λ j. j; spent = refl }

working_then : (u v x : SwitchOf) → IsWorking u v → IsWorking v x → IsWorking u x
working_then u v x a b = record { joined = λ j. b.joined (a.joined j); spent = b.spent ∙ a.spent }

only_works : (u v : SwitchOf) → OnlySends u v → IsWorking u v
only_works u v only = record { joined = λ j. ap (λ (x : SwitchOf). x.joined) only ∙ j; spent = ap (λ (x : SwitchOf). x.spent) only }

joins_works : (epoch : ℕ) (u : SwitchOf) → IsWorking u (joins epoch u).switch
joins_works epoch u = record { joined = λ j. joins_joined epoch u; spent = joins_spent epoch u }

receives_works : (port k : ℕ) (body : Body) (u : SwitchOf) → IsWorking u (receives port k body u)
receives_works port k body u = record { joined = λ j. j; spent = refl }

body_works : (port k : ℕ) (peer : EndId) (body : Body) (u : SwitchOf) → IsWorking u (answers_body port peer k body u).switch
body_works port k peer body u =
    working_then u (receives port k body u) (answers_body port peer k body u).switch (receives_works port k body u)
    (only_works (receives port k body u) (answers_body port peer k body u).switch (all_pushed_few (all_added u.card port (accepted_by k body (u.receivings port)) u.log) (receives port k body u)).only)

carry_works : (port : ℕ) (f : CarryOf) (u : SwitchOf) → IsWorking u (on_carry port f u).switch
carry_works port f u =
    let j = joins f.epoch u in
    cond_both (nat_lt u.epoch f.epoch) (after j (answers_body port f.from f.number f.body j.switch)) (cond (f.epoch == u.epoch) (answers_body port f.from f.number f.body u) (still u)) (λ (st : Step). IsWorking u st.switch)
    (λ _. working_then u j.switch (answers_body port f.from f.number f.body j.switch).switch (joins_works f.epoch u) (body_works port f.number f.from f.body j.switch))
    (λ _. cond_both (f.epoch == u.epoch) (answers_body port f.from f.number f.body u) (still u) (λ (st : Step). IsWorking u st.switch) (λ _. body_works port f.number f.from f.body u) (λ _. working u))

framed_works : (port : ℕ) (f : Frame) (u : SwitchOf) → IsWorking u (framed port f u).switch
framed_works port (Carry f) u = cond_both (counts u port f.from f.to) (on_carry port f u) (still u) (λ (st : Step). IsWorking u st.switch) (λ _. carry_works port f u) (λ _. working u)
framed_works port (Ack epoch from to n) u = cond_both (counts u port from to) (on_ack port from epoch n u) (still u) (λ (st : Step). IsWorking u st.switch) (λ _. only_works u (on_ack port from epoch n u).switch (on_ack_few port epoch n from u).only) (λ _. working u)
framed_works port (Probe from nonce) u = working u
framed_works port (Reply from to nonce) u = cond_both (is_same_end to (end_at u port)) (still (record u { ports = with_happening port (Replied from nonce) u.ports })) (still u) (λ (st : Step). IsWorking u st.switch) (λ _. record { joined = λ j. j; spent = refl }) (λ _. working u)

pub bytes_work : (port : ℕ) (o : Option Frame) (u : SwitchOf) → IsWorking u (handles_bytes port o u).switch
bytes_work port None u = working u
bytes_work port (Some f) u = framed_works port f u

-- a clock
clocked_joined : (now : ℕ) (samples : List Sample) (u : SwitchOf) → u.joined ≡ true → (clocked now samples u).switch.joined ≡ true
clocked_joined now samples u j =
    let x = sampled_by now samples u in
    cond_both (is_spent_by u x) (still (record x { spent = true })) (after (record { switch = x; frames = probes x }) (goes_on u x)) (λ (st : Step). st.switch.joined ≡ true)
    (λ _. j)
    (λ _. cond_both (is_change_due u x) (joins (suc x.epoch) x) (all_resent x.card.links x) (λ (st : Step). st.switch.joined ≡ true)
    (λ _. joins_joined (suc x.epoch) x)
    (λ _. ap (λ (y : SwitchOf). y.joined) (all_resent_few x.card.links x).only ∙ j))

pub clocked_spent : (now : ℕ) (samples : List Sample) (u : SwitchOf) → is_spent_by u (sampled_by now samples u) ≡ false → (clocked now samples u).switch.spent ≡ u.spent
clocked_spent now samples u works =
    let x = sampled_by now samples u in
    ap (λ b. (cond b (still (record x { spent = true })) (after (record { switch = x; frames = probes x }) (goes_on u x))).switch.spent) works
    ∙ cond_both (is_change_due u x) (joins (suc x.epoch) x) (all_resent x.card.links x) (λ (st : Step). st.switch.spent ≡ u.spent)
    (λ _. joins_spent (suc x.epoch) x)
    (λ _. ap (λ (y : SwitchOf). y.spent) (all_resent_few x.card.links x).only)

handled_joined : (s : ℕ) (w : WorldOf) → (w.switches s).joined ≡ true → (handled s w).switch.joined ≡ true
unfolding handles
handled_joined s w j = by (station w.fabric s).hand
  where
    by : (x : Hand) → (handles x (held_bytes w.fabric s) (w.switches s)).switch.joined ≡ true
    by hand.Empty = j
    by (hand.Clock now samples) = clocked_joined now samples (w.switches s) j
    by (hand.Frame port) = (bytes_work port (frame_of (held_bytes w.fabric s)) (w.switches s)).joined j

-- each switch has joined
abbrev pub AreJoined : ScriptOf → ℕ → WorldOf → Type 0
AreJoined script c w = (s : ℕ) → s < places script → (w.switches s).joined ≡ true

set_joined : (switches : ℕ → SwitchOf) (t s : ℕ) (u : SwitchOf) → (s ≡ t → u.joined ≡ true) → (switches s).joined ≡ true → (cond (s == t) u (switches s)).joined ≡ true
set_joined switches t s u here there = by (s == t) refl
  where
    by : (b : Bool) → (s == t) ≡ b → (cond b u (switches s)).joined ≡ true
    by true is = here (eqb-true s t is)
    by false is = there

loads_joined : (o : Option TopoOf) (t s : ℕ) (w : WorldOf) → (w.switches s).joined ≡ true → ((loads_with o t w).switches s).joined ≡ true
loads_joined None t s w j = j
loads_joined (Some topo) t s w j = set_joined w.switches t s _ (λ is. ap (λ n. (w.switches n).joined) (sym is) ∙ j) j

joined_next : (script : ScriptOf) (h : List Event) (e : Event) → IsCalm script h e → AreJoined script (last script h) (world_after script h) → AreJoined script (last script h) (effect e (world_after script h))
unfolding effect
joined_next script h (Handle t) calm old s low =
    let w = world_after script h in
    set_joined w.switches t s (handled t w).switch (λ is. handled_joined t w (ap (λ n. (w.switches n).joined) (sym is) ∙ old s low)) (old s low)
joined_next script h (Load t) calm old s low = let w = world_after script h in loads_joined (finish_of (w.switches t)) t s w (old s low)
joined_next script h (Restart t) calm old s low = absurd (true≢false (calm_parts script h (Restart t) calm).0)
joined_next script h e calm old s low = old s low

joined_first : (script : ScriptOf) → IsScript script → script.pace ≡ None → (h : List Event) → is_lawful (world_after script h).fabric Tick ≡ true → is_some_spent (world_after script h).fabric ≡ false → AreJoined script (last script h) (effect Tick (world_after script h))
unfolding effect
joined_first script kept unpaced h lawful works s low = by (u.joined) refl
  where
    w : WorldOf
    w = world_after script h

    u : SwitchOf
    u = w.switches s

    by : (b : Bool) → u.joined ≡ b → u.joined ≡ true
    by true is = is
    by false is =
        let at = at_tick script kept unpaced h lawful in
        let spent : u.spent ≡ false = sym ((world_is_sound script kept h).places s low).spent ∙ unspent_here w.fabric s works in
        absurd (true≢false (sym ((has_ports script kept h).clock s low is spent at.none_full) ∙ at.clocks))

pub all_joined : (script : ScriptOf) → IsScript script → script.pace ≡ None → (h : List Event) → is_some_spent (world_after script h).fabric ≡ false → last script h < (world_after script h).fabric.tick → AreJoined script (last script h) (world_after script h)
all_joined script kept unpaced h works later = calmly script (AreJoined script) (λ g lawful works now. joined_first script kept unpaced g lawful works) (joined_next script) h works later
