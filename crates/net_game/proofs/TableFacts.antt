-- Where a switch has finished and is to load no more, it uses the table of that.

use Rattle.std.specs.Prelude.{◌≡◌, ◌⊎◌, ◌<◌, ◌==◌, ◌&&◌, ◌||◌, not, nat_lt, ℕ, suc, List, [], Option, Some, None, is_some, Bool, true, false, cond, refl}
use Rattle.std.specs.List.{range_with_len}
use Rattle.std.proofs.Common.{true≢false, sym, ◌∙◌, ap, subst, inl, inr, arith}
use Rattle.std.proofs.lemmas.Bool.{cond_both, and_cases, or_parts, not-false, eq-eqb}
use Rattle.an_base.specs.Values.{LifeId, EndId, TopoOf}
use Rattle.an_base.specs.Frames.{CarryOf}
use Rattle.an_base.specs.Ports.{NoteOf}
use Rattle.an_base.specs.declared.body.Body.{Body}
use Rattle.an_base.specs.declared.event.Event.{Event}
use Rattle.an_base.specs.declared.event.Event.TheVariants.{Clock, Take, Handle, Load, Restart}
use Rattle.an_base.specs.declared.frame.Frame.{Frame}
use Rattle.an_base.specs.declared.frame.Frame.TheVariants.{Carry, Ack, Probe, Reply}
use Rattle.an_base.specs.declared.port.Sample.{Sample}
use Rattle.net_script.specs.Scripts.{ScriptOf}
use Rattle.frame_codec.specs.Reading.{frame_of}
use Rattle.connectivity.specs.Connections.{is_same_end}
use Rattle.port_monitor.specs.Histories.{Replied, with_happening}
use Rattle.epoch_core.specs.Epoch.{adds, finish}
use Rattle.epoch_game.proofs.Basics.{some_same, none_some}
use Rattle.switch_core.specs.Switch.{SwitchOf, end_at, counts, finish_of}
use Rattle.switch_core.specs.Steps.{Step, after, all_added, all_resent, answers_body, begun, clocked, framed, goes_on, is_change_due, is_spent_by, joins, log_with, on_ack, on_carry, receives, sampled_by, still, probes}
use Rattle.switch_core.specs.declared.switch.TableFor.{TableFor}
use Rattle.switch_core.proofs.WindowLemmas.{all_pushed_few, all_resent_few, on_ack_few}
use Rattle.net_state.specs.declared.hand.Hand.{Hand}
use Rattle.net_state.specs.declared.hand.Hand.TheVariants as hand
use Rattle.table_build.specs.Made.{table_of}
use Rattle.net_state.specs.Fabric.{station, held_bytes}
use Rattle.net_state.specs.Effects.{kept_table}
use Rattle.net_state.specs.Lawful.{is_lawful}
use Rattle.net_world.specs.World.{WorldOf, effect, handled, handles, handles_bytes, loads_with, table_for, world_after}
use Rattle.net_world.specs.World as world
use Rattle.net_game.proofs.Firm.{places, AreFirm}
use Rattle.net_state.proofs.LawfulLemmas.{lawful_is}
use Rattle.net_game.proofs.PortFacts.{index_of, has_size}
use Rattle.ordered_link.specs.Receiving.{accepted_by}
use Rattle.net_world.proofs.InductionLemmas.{always}
use Rattle.net_world.proofs.TableLemmas.{finish_more}
use Rattle.common_values.proofs.ListLemmas.{some_is}
use Rattle.net_state.proofs.ReadyLemmas.{handle_ready, set_one}
use Rattle.net_world.proofs.PlaceLemmas.{set_both, switch_below}

-- A switch that has finished and is to load no more had finished with that before, in the same epoch, and was to load no more
pub record Was (u : SwitchOf) (topo : TopoOf) (v : SwitchOf) : Type 0 where
  pub finished : finish_of u ≡ Some topo
  pub loaded_is : u.load_due ≡ false
  pub epoch_is : v.epoch ≡ u.epoch

pub record Continues (u v : SwitchOf) : Type 0 where
  pub any_is : v.any ≡ u.any
  pub life_is : v.life ≡ u.life
  pub stays : (topo : TopoOf) → finish_of v ≡ Some topo → v.load_due ≡ false → Was u topo v

itself : (u : SwitchOf) → Continues u u
itself u = record { any_is = refl; life_is = refl; stays = λ topo fin due. record { finished = fin; loaded_is = due; epoch_is = refl } }

trans : (u v w : SwitchOf) → Continues u v → Continues v w → Continues u w
trans u v w a b = record {
  any_is = b.any_is ∙ a.any_is;
  life_is = b.life_is ∙ a.life_is;
  stays = λ topo fin due. let x = b.stays topo fin due in let y = a.stays topo x.finished x.loaded_is in record { finished = y.finished; loaded_is = y.loaded_is; epoch_is = x.epoch_is ∙ y.epoch_is };
}

sends : (u v w : SwitchOf) → w ≡ record v { sendings = w.sendings } → Continues u v → Continues u w
sends u v w only k = subst (Continues u) (sym only) (record { any_is = k.any_is; life_is = k.life_is; stays = λ topo fin due. let x = k.stays topo fin due in record { finished = x.finished; loaded_is = x.loaded_is; epoch_is = x.epoch_is } })

joins_on : (epoch : ℕ) (u : SwitchOf) → Continues u (joins epoch u).switch
joins_on epoch u =
    sends u (begun epoch u) (joins epoch u).switch (all_pushed_few (adds (begun epoch u).card []) (begun epoch u)).only
    (record { any_is = refl; life_is = refl; stays = λ topo fin due. absurd (true≢false (sym (ap is_some fin) ∙ due)) })

receives_on : (port k : ℕ) (body : Body) (u : SwitchOf) → Continues u (receives port k body u)
receives_on port k body u = record { any_is = refl; life_is = refl; stays = λ topo fin due. by u.joined refl topo fin due }
  where
    bodies : List Body
    bodies = accepted_by k body (u.receivings port)

    new : Option TopoOf
    new = finish u.card (log_with port bodies u.log)

    old_is : (topo : TopoOf) → new ≡ Some topo → (not (is_some (finish u.card u.log)) ≡ false) ⊎ (is_some new ≡ false) → finish u.card u.log ≡ Some topo
    old_is topo fin (inr none) = absurd (true≢false (sym (ap is_some fin) ∙ none))
    old_is topo fin (inl some) =
        let t = some_is (finish u.card u.log) (not-false (is_some (finish u.card u.log)) some) in
        t.1 ∙ ap (λ (x : TopoOf). Some x) (some_same t.0 topo (sym (finish_more u.card port bodies u.log t.0 t.1) ∙ fin))

    by : (b : Bool) → u.joined ≡ b → (topo : TopoOf) → cond u.joined new None ≡ Some topo → (u.load_due || (not (is_some (finish u.card u.log)) && is_some new)) ≡ false → Was u topo (receives port k body u)
    by false j topo fin due = absurd (none_some (sym (ap (λ (b : Bool). cond b new None) j) ∙ fin))
    by true j topo fin due =
        let parts = or_parts u.load_due (not (is_some (finish u.card u.log)) && is_some new) due in
        let old = old_is topo (sym (ap (λ (b : Bool). cond b new None) j) ∙ fin) (and_cases (not (is_some (finish u.card u.log))) (is_some new) parts.1) in
        record { finished = ap (λ (b : Bool). cond b (finish u.card u.log) None) j ∙ old; loaded_is = parts.0; epoch_is = refl }

body_on : (port k : ℕ) (peer : EndId) (body : Body) (u : SwitchOf) → Continues u (answers_body port peer k body u).switch
body_on port k peer body u =
    let x = receives port k body u in
    sends u x (answers_body port peer k body u).switch (all_pushed_few (all_added u.card port (accepted_by k body (u.receivings port)) u.log) x).only (receives_on port k body u)

carry_on : (port : ℕ) (f : CarryOf) (u : SwitchOf) → Continues u (on_carry port f u).switch
carry_on port f u =
    let j = joins f.epoch u in
    cond_both (nat_lt u.epoch f.epoch) (after j (answers_body port f.from f.number f.body j.switch)) (cond (f.epoch == u.epoch) (answers_body port f.from f.number f.body u) (still u)) (λ (st : Step). Continues u st.switch)
    (λ _. trans u j.switch (answers_body port f.from f.number f.body j.switch).switch (joins_on f.epoch u) (body_on port f.number f.from f.body j.switch))
    (λ _. cond_both (f.epoch == u.epoch) (answers_body port f.from f.number f.body u) (still u) (λ (st : Step). Continues u st.switch) (λ _. body_on port f.number f.from f.body u) (λ _. itself u))

framed_on : (port : ℕ) (f : Frame) (u : SwitchOf) → Continues u (framed port f u).switch
framed_on port (Carry f) u = cond_both (counts u port f.from f.to) (on_carry port f u) (still u) (λ (st : Step). Continues u st.switch) (λ _. carry_on port f u) (λ _. itself u)
framed_on port (Ack epoch from to n) u = cond_both (counts u port from to) (on_ack port from epoch n u) (still u) (λ (st : Step). Continues u st.switch) (λ _. sends u u (on_ack port from epoch n u).switch (on_ack_few port epoch n from u).only (itself u)) (λ _. itself u)
framed_on port (Probe from nonce) u = itself u
framed_on port (Reply from to nonce) u =
    cond_both (is_same_end to (end_at u port)) (still (record u { ports = with_happening port (Replied from nonce) u.ports })) (still u) (λ (st : Step). Continues u st.switch)
    (λ _. record { any_is = refl; life_is = refl; stays = λ topo fin due. record { finished = fin; loaded_is = due; epoch_is = refl } }) (λ _. itself u)

clocked_on : (now : ℕ) (samples : List Sample) (u : SwitchOf) → Continues u (clocked now samples u).switch
clocked_on now samples u =
    let t = sampled_by now samples u in
    let first : Continues u t = record { any_is = refl; life_is = refl; stays = λ topo fin due. record { finished = fin; loaded_is = due; epoch_is = refl } } in
    cond_both (is_spent_by u t) (still (record t { spent = true })) (after (record { switch = t; frames = probes t }) (goes_on u t)) (λ (st : Step). Continues u st.switch)
    (λ _. record { any_is = refl; life_is = refl; stays = λ topo fin due. record { finished = fin; loaded_is = due; epoch_is = refl } })
    (λ _. cond_both (is_change_due u t) (joins (suc t.epoch) t) (all_resent t.card.links t) (λ (st : Step). Continues u st.switch)
    (λ _. trans u t (joins (suc t.epoch) t).switch first (joins_on (suc t.epoch) t))
    (λ _. sends u t (all_resent t.card.links t).switch (all_resent_few t.card.links t).only first))

pub handled_on : (t : ℕ) (w : WorldOf) → Continues (w.switches t) (handled t w).switch
unfolding handles
handled_on t w = by (station w.fabric t).hand
  where
    by_frame : (port : ℕ) (o : Option Frame) → Continues (w.switches t) (handles_bytes port o (w.switches t)).switch
    by_frame port None = itself (w.switches t)
    by_frame port (Some f) = framed_on port f (w.switches t)

    by : (h : Hand) → Continues (w.switches t) (handles h (held_bytes w.fabric t) (w.switches t)).switch
    by hand.Empty = itself (w.switches t)
    by (hand.Clock now samples) = clocked_on now samples (w.switches t)
    by (hand.Frame port) = by_frame port (frame_of (held_bytes w.fabric t))

-- what is so of the table at a place
record TableAt (table : Option TableFor) (u : SwitchOf) : Type 0 where
  table_is : (topo : TopoOf) → finish_of u ≡ Some topo → u.load_due ≡ false → table ≡ Some (table_for topo u)

kept_on : (table : Option TableFor) (shown : ℕ) (u v : SwitchOf) → shown ≡ u.epoch → Continues u v → TableAt table u → TableAt (kept_table (v.epoch == shown) table) v
kept_on table shown u v is k old = record { table_is = λ topo fin due. same topo (k.stays topo fin due) fin due }
  where
    same : (topo : TopoOf) → Was u topo v → finish_of v ≡ Some topo → v.load_due ≡ false → kept_table (v.epoch == shown) table ≡ Some (table_for topo v)
    same topo was fin due =
        ap (λ (b : Bool). cond b table None) (eq-eqb v.epoch shown (was.epoch_is ∙ sym is))
        ∙ old.table_is topo was.finished was.loaded_is
        ∙ (λ i. Some (record { epoch = sym was.epoch_is i; table = table_of topo (sym k.any_is i) (sym k.life_is i) }))

record AreTables (script : ScriptOf) (w : WorldOf) : Type 0 where
  at : (s : ℕ) → s < places script → TableAt (station w.fabric s).table (w.switches s)

loads_on : (script : ScriptOf) (h : List Event) (topo : Option TopoOf) (t : ℕ) → finish_of ((world_after script h).switches t) ≡ topo → AreTables script (world_after script h) → AreTables script (loads_with topo t (world_after script h))
loads_on script h None t is old = old
loads_on script h (Some topo) t is old = record {
  at = λ s low. set_both (λ x u. TableAt x.table u) w.fabric.stations w.switches t s _ _ (let e = has_size script h in omega (arith, e, low)) (λ _. record {
    table_is = λ other fin due. ap (λ (x : TopoOf). Some (table_for x (w.switches t))) (some_same topo other (sym is ∙ fin));
  }) (old.at s low);
}
  where
    w : WorldOf
    w = world_after script h

effect_on : (script : ScriptOf) (lives : List LifeId) → AreFirm script lives → (h : List Event) (e : Event) → is_lawful (world_after script h).fabric e ≡ true → AreTables script (world_after script h) → AreTables script (effect e (world_after script h))
unfolding effect
effect_on script lives firm h (Clock t) lawful old =
    let w = world_after script h in
    record { at = λ s low. set_one (λ x. TableAt x.table (w.switches s)) w.fabric.stations t s _ (let e = has_size script h in omega (arith, e, low)) (λ is. subst (λ (n : ℕ). TableAt (station w.fabric n).table (w.switches s)) is (old.at s low)) (old.at s low) }
effect_on script lives firm h (Take t p) lawful old =
    let w = world_after script h in
    record { at = λ s low. set_one (λ x. TableAt x.table (w.switches s)) w.fabric.stations t s _ (let e = has_size script h in omega (arith, e, low)) (λ is. subst (λ (n : ℕ). TableAt (station w.fabric n).table (w.switches s)) is (old.at s low)) (old.at s low) }
effect_on script lives firm h (Handle t) lawful old =
    let w = world_after script h in
    let t_low = switch_below script h t (handle_ready w.fabric t (lawful_is w.fabric (Handle t) lawful).ready).0 in
    record {
      at = λ s low. set_both (λ x u. TableAt x.table u) w.fabric.stations w.switches t s _ _ (let e = has_size script h in omega (arith, e, low))
          (λ _. kept_on (station w.fabric t).table (station w.fabric t).note.epoch (w.switches t) (handled t w).switch (ap (λ (n : NoteOf). n.epoch) ((firm h).note t t_low)) (handled_on t w) (old.at t t_low)) (old.at s low);
    }
effect_on script lives firm h (Load t) lawful old = loads_on script h (finish_of ((world_after script h).switches t)) t refl old
effect_on script lives firm h (Restart t) lawful old =
    let w = world_after script h in
    record { at = λ s low. set_both (λ x u. TableAt x.table u) w.fabric.stations w.switches t s _ _ (let e = has_size script h in omega (arith, e, low)) (λ _. record { table_is = λ topo fin due. absurd (none_some fin) }) (old.at s low) }
effect_on script lives firm h e lawful old = record { at = old.at }

first_on : (script : ScriptOf) → AreTables script (world.begun script)
first_on script = record {
  at = λ s low. index_of (λ x. TableAt x.table (world.started_at script s 1)) (world.first_station script) (range_with_len 0 (places script)) s
      (λ n. record { table_is = λ topo fin due. absurd (none_some fin) }) (record { table_is = λ topo fin due. absurd (none_some fin) });
}

-- so of each history: where a switch has finished and is to load no more, its table is in use
pub has_table : (script : ScriptOf) (lives : List LifeId) → AreFirm script lives → (h : List Event) (s : ℕ) (topo : TopoOf) → s < places script
    → finish_of ((world_after script h).switches s) ≡ Some topo → ((world_after script h).switches s).load_due ≡ false → (station (world_after script h).fabric s).table ≡ Some (table_for topo ((world_after script h).switches s))
has_table script lives firm h s topo low fin due = ((always script (AreTables script) (first_on script) (effect_on script lives firm) h).at s low).table_is topo fin due
