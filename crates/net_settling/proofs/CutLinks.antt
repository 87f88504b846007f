-- A link that is up was cut into ticks since the last disturbance.

use Rattle.std.specs.Prelude.{◌≡◌, ◌⊎◌, ◌<◌, ◌&&◌, ℕ, suc, not, List, [], ◌++◌, cond, None, Bool, true, false, refl}
use Rattle.std.specs.List.{list_any}
use Rattle.std.proofs.Common.{true≢false, sym, ◌∙◌, ap, subst, inl, inr, arith}
use Rattle.std.proofs.lemmas.Bool.{le-leb}
use Rattle.std.proofs.lemmas.List.Folds.{list_any_at}
use Rattle.an_base.specs.Values.{EndId}
use Rattle.an_base.specs.declared.event.Event.{Event}
use Rattle.an_base.specs.declared.event.Event.TheVariants.{Tick}
use Rattle.an_base.specs.declared.frame.Frame.{Frame}
use Rattle.net_script.specs.Scripts.{ScriptOf, IsScript}
use Rattle.port_monitor.specs.Histories.{History}
use Rattle.link_settling.specs.Links.{Ticks, begins}
use Rattle.link_settling.specs.Moments.{EndView, TickEnds, EndRun, rest, tick_begins}
use Rattle.wire_set.specs.WireState.{place, hand_of}
use Rattle.net_state.specs.Fabric.{FabricOf, station, vacant, is_up, is_some_spent, is_clock_due, clock_due_at}
use Rattle.net_state.specs.Lawful.{is_lawful}
use Rattle.net_world.specs.World.{WorldOf, effect, world_after}
use Rattle.net_world.proofs.LawLemmas.{world_is_sound}
use Rattle.net_game.proofs.Firm.{places}
use Rattle.net_settling.specs.Views.{LinkOf, turned, end_here, end_there, is_clock, has_clocked, is_some_under_way, under_way_to, came_by, view, IsCut}
use Rattle.net_settling.proofs.Calm.{IsCalm, calmly, last}
use Rattle.net_settling.proofs.Cuts.{cut_ends}
use Rattle.net_settling.proofs.Linked.{IsLinkOf, link_turned}
use Rattle.net_settling.proofs.Passing.{within}
use Rattle.net_settling.proofs.Senders.{IsAtTick, at_tick, all_from_ends, calm_lives}
use Rattle.net_settling.proofs.Samples.{all_sampled, calm_links, never_host}
use Rattle.net_settling.proofs.Viewed.{IsMoment, view_goes}
use Rattle.net_settling.proofs.Times.{step_of, IsStepOf}

-- before a tick nothing is under way
under_none : (script : ScriptOf) (h : List Event) (l : LinkOf) → IsAtTick script h → IsLinkOf script l → under_way_to (world_after script h).fabric l.far_place l.far_port ≡ []
under_none script h l at is =
    let f = (world_after script h).fabric in
    (λ i. at.wires l is i ++ cond (came_by l.far_port (at.hands l.far_place i)) (hand_of f.wires l.far_place) [])

pub none_under : (test : Frame → Bool) (script : ScriptOf) (h : List Event) (l : LinkOf) → IsAtTick script h → IsLinkOf script l → is_some_under_way test (world_after script h) l ≡ false
none_under test script h l at is = ap (λ xs. list_any (Rattle.net_settling.specs.Views.is_such test) xs) (under_none script h l at is)

-- and all clocks were handled
pub all_clocked : (script : ScriptOf) → IsScript script → (h : List Event) (s : ℕ) → IsAtTick script h → s < places script → has_clocked (world_after script h).fabric s ≡ true
all_clocked script kept h s at low = by (clock_due_at f s) refl
  where
    f : FabricOf
    f = (world_after script h).fabric

    by : (b : Bool) → clock_due_at f s ≡ b → has_clocked f s ≡ true
    by true due = absurd (true≢false (sym (list_any_at (is_clock_due f) f.stations s vacant (within script kept h s low) due) ∙ at.clocks))
    by false late = (λ i. not (late i) && not (is_clock (at.hands s i)))

tick_ends : (script : ScriptOf) → IsScript script → (h : List Event) (l : LinkOf) → IsAtTick script h → IsLinkOf script l → TickEnds (view (world_after script h) l)
tick_ends script kept h l at is = record {
  here = all_clocked script kept h l.place at is.here.node_below;
  there = all_clocked script kept h l.far_place at is.there.node_below;
  no_probe = none_under _ script h l at is;
  no_reply = none_under _ script h (turned l) at (link_turned script l is);
}

-- after a tick each clock is due, and nothing is under way
pub none_clocked : (script : ScriptOf) → IsScript script → (h : List Event) (s : ℕ) → s < places script → has_clocked (effect Tick (world_after script h)).fabric s ≡ false
unfolding effect
none_clocked script kept h s low =
    let w = world_after script h in
    let f = (effect Tick w).fabric in
    let most = ((world_is_sound script kept h).places s low).clock in
    ap (λ b. not b && not (is_clock (station f s).hand)) (le-leb (station f s).clock f.tick (omega (arith, most)))

view_begins : (script : ScriptOf) → IsScript script → (h : List Event) (l : LinkOf) → IsAtTick script h → IsLinkOf script l → view (effect Tick (world_after script h)) l ≡ tick_begins ((view (world_after script h) l).here) ((view (world_after script h) l).there)
unfolding effect
view_begins script kept h l at is =
    let w = world_after script h in
    λ i. record {
      here = (view w l).here;
      there = (view w l).there;
      has_clocked = none_clocked script kept h l.place is.here.node_below i;
      far_has_clocked = none_clocked script kept h l.far_place is.there.node_below i;
      probe = none_under (Rattle.net_settling.specs.Views.is_probe (end_here w l) (Rattle.net_settling.specs.Views.nonce_here w l)) script h l at is i;
      reply = none_under (Rattle.net_settling.specs.Views.is_reply (end_there w l) (end_here w l) (Rattle.net_settling.specs.Views.nonce_here w l)) script h (turned l) at (link_turned script l is) i;
    }

run_begins : (own far : EndId) (v : EndView) (here there : History) → v ≡ tick_begins here there → EndRun own far (tick_begins here there) v
run_begins own far v here there is = subst (EndRun own far (tick_begins here there)) (sym is) (rest (tick_begins here there))

-- the links that are up were cut
abbrev pub AreCut : ScriptOf → ℕ → WorldOf → Type 0
AreCut script c w = (l : LinkOf) → IsLinkOf script l → is_up w.fabric l.place l.port ≡ true → IsCut c w l

cut_first : (script : ScriptOf) → IsScript script → script.pace ≡ None → (h : List Event) → is_lawful (world_after script h).fabric Tick ≡ true → (world_after script h).fabric.tick ≡ last script h → AreCut script (last script h) (effect Tick (world_after script h))
unfolding effect
cut_first script kept unpaced h lawful now l is up =
    let w = world_after script h in
    let v = effect Tick w in
    let at = at_tick script kept unpaced h lawful in
    let a = is.here in
    let b = is.there in
    record {
      ticks = 0;
      at_here = (view w l).here;
      at_there = (view w l).there;
      time = omega (arith, now);
      before = begins (view w l).here (view w l).there (never_host script kept h l.place l.port l.far_place l.far_port a.node_below a.own_port_least a.own_port_most is.far) (never_host script kept h l.far_place l.far_port l.place l.port b.node_below b.own_port_least b.own_port_most is.back);
      run_here = run_begins (end_here v l) (end_there v l) (view v l) (view w l).here (view w l).there (view_begins script kept h l at is);
      run_there = run_begins (end_there v l) (end_here v l) (view v (turned l)) (view w l).there (view w l).here (view_begins script kept h (turned l) at (link_turned script l is));
    }

cut_tick : (script : ScriptOf) → IsScript script → script.pace ≡ None → (h : List Event) → is_lawful (world_after script h).fabric Tick ≡ true → AreCut script (last script h) (world_after script h) → AreCut script (last script h) (effect Tick (world_after script h))
unfolding effect
cut_tick script kept unpaced h lawful old l is up =
    let w = world_after script h in
    let v = effect Tick w in
    let at = at_tick script kept unpaced h lawful in
    let cut = old l is up in
    let time = cut.time in
    record {
      ticks = suc cut.ticks;
      at_here = (view w l).here;
      at_there = (view w l).there;
      time = omega (arith, time);
      before = cut_ends (last script h) w l cut (tick_ends script kept h l at is) (tick_ends script kept h (turned l) at (link_turned script l is));
      run_here = run_begins (end_here v l) (end_there v l) (view v l) (view w l).here (view w l).there (view_begins script kept h l at is);
      run_there = run_begins (end_there v l) (end_here v l) (view v (turned l)) (view w l).there (view w l).here (view_begins script kept h (turned l) at (link_turned script l is));
    }

cut_other : (script : ScriptOf) → IsScript script → script.pace ≡ None → (h : List Event) (e : Event) → IsCalm script h e → (e ≡ Tick → ⊥) → (effect e (world_after script h)).fabric.tick ≡ (world_after script h).fabric.tick → AreCut script (last script h) (world_after script h) → AreCut script (last script h) (effect e (world_after script h))
cut_other script kept unpaced h e calm no_tick tick old l is up =
    let w = world_after script h in
    let v = effect e w in
    let up_before : is_up w.fabric l.place l.port ≡ true = sym ((calm_links script h e calm).up (place l.place l.port)) ∙ up in
    let m : IsMoment script h e l = record { kept = kept; calm = calm; link = is; up = up_before; froms = all_from_ends script kept unpaced h calm.works calm.later; samples = all_sampled script kept unpaced h calm.works calm.later } in
    let cut = old l is up_before in
    let here_stays : end_here w l ≡ end_here v l = ap (λ life. record { life = life; port = l.port }) (sym (calm_lives script h e calm l.place)) in
    let there_stays : end_there w l ≡ end_there v l = ap (λ life. record { life = life; port = l.far_port }) (sym (calm_lives script h e calm l.far_place)) in
    record {
      ticks = cut.ticks;
      at_here = cut.at_here;
      at_there = cut.at_there;
      time = tick ∙ cut.time;
      before = subst (λ (z : EndId × EndId). Ticks z.0 z.1 cut.ticks cut.at_here cut.at_there) (λ i. (here_stays i, there_stays i)) cut.before;
      run_here = subst (λ (z : EndId × EndId). EndRun z.0 z.1 (tick_begins cut.at_here cut.at_there) (view v l)) (λ i. (here_stays i, there_stays i)) (view_goes script h e l m no_tick (tick_begins cut.at_here cut.at_there) cut.run_here);
      run_there = subst (λ (z : EndId × EndId). EndRun z.0 z.1 (tick_begins cut.at_there cut.at_here) (view v (turned l))) (λ i. (there_stays i, here_stays i)) (view_goes script h e (turned l) (Rattle.net_settling.proofs.Viewed.moment_turned script h e l m) no_tick (tick_begins cut.at_there cut.at_here) cut.run_there);
    }

cut_next : (script : ScriptOf) → IsScript script → script.pace ≡ None → (h : List Event) (e : Event) → IsCalm script h e → AreCut script (last script h) (world_after script h) → AreCut script (last script h) (effect e (world_after script h))
cut_next script kept unpaced h e calm old = by e calm (step_of e (world_after script h))
  where
    by : (e : Event) → IsCalm script h e → (e ≡ Tick) ⊎ IsStepOf e (world_after script h) (effect e (world_after script h)) → AreCut script (last script h) (effect e (world_after script h))
    by e calm (inl is) = subst (λ x. AreCut script (last script h) (effect x (world_after script h))) (sym is) (cut_tick script kept unpaced h (subst (λ x. is_lawful (world_after script h).fabric x ≡ true) is calm.lawful) old)
    by e calm (inr step) = cut_other script kept unpaced h e calm (λ is. let t = step.tick in let u = ap (λ x. (effect x (world_after script h)).fabric.tick) is ∙ (Rattle.net_settling.proofs.Times.ticked (world_after script h)).0 in omega (arith, t, u)) step.tick old

-- from the first tick after the last disturbance on
pub all_cut : (script : ScriptOf) → IsScript script → script.pace ≡ None → (h : List Event) → is_some_spent (world_after script h).fabric ≡ false → last script h < (world_after script h).fabric.tick → AreCut script (last script h) (world_after script h)
all_cut script kept unpaced h works later = calmly script (AreCut script) (λ g lawful works now. cut_first script kept unpaced g lawful now) (cut_next script kept unpaced) h works later
