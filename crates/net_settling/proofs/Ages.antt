-- The ports of hosts, and those whose link is down.

use Rattle.std.specs.Prelude.{◌≡◌, ◌⊎◌, ◌+◌, ◌-◌, ◌<◌, ◌≤◌, ℕ, suc, List, [], ◌∷◌, cond, None, Bool, true, false, refl}
use Rattle.std.proofs.Common.{true≢false, sym, ◌∙◌, ap, subst, inl, inr, arith}
use Rattle.an_base.specs.Values.{EndId}
use Rattle.an_base.specs.declared.event.Event.{Event}
use Rattle.an_base.specs.declared.event.Event.TheVariants.{Tick}
use Rattle.an_base.specs.declared.port.PortState.TheVariants as state
use Rattle.an_base.specs.declared.port.Sample.{Sample}
use Rattle.an_base.specs.declared.port.Sample.TheVariants as sample
use Rattle.net_script.specs.Scripts.{ScriptOf, IsScript}
use Rattle.port_monitor.specs.declared.port.Port.{Port}
use Rattle.port_monitor.specs.Ports.{state_of}
use Rattle.port_monitor.specs.Histories.{History, Sampled, port_after}
use Rattle.link_settling.specs.Measures.{clocks_left}
use Rattle.link_settling.proofs.Links.{down_is_dead}
use Rattle.link_settling.proofs.Ports.{clock_most, clock_nearer, replied_as}
use Rattle.wire_set.specs.WireState.{place}
use Rattle.switch_core.specs.Switch.{end_at, port_of}
use Rattle.net_state.specs.Fabric.{is_some_spent, sample_of, side_of_port}
use Rattle.net_state.specs.Lawful.{is_lawful}
use Rattle.net_world.specs.World.{WorldOf, effect, world_after}
use Rattle.net_game.proofs.Firm.{places}
use Rattle.net_settling.specs.Views.{has_clocked}
use Rattle.net_settling.proofs.Calm.{IsCalm, calmly, last}
use Rattle.net_settling.proofs.Times.{IsStepOf, step_of, ticked}
use Rattle.net_settling.proofs.Senders.{calm_lives, at_tick}
use Rattle.net_settling.proofs.Samples.{all_sampled, calm_links, sample_links}
use Rattle.net_settling.proofs.Changes.{Changes, stays, replied, sampled, change_at}
use Rattle.net_settling.proofs.CutLinks.{all_clocked, none_clocked}

-- how many clocks a switch handled after a tick
abbrev pub clocks_since : ℕ → WorldOf → ℕ → ℕ
clocks_since c w s = w.fabric.tick - suc c + cond (has_clocked w.fabric s) 1 0

abbrev pub port_in : WorldOf → ℕ → ℕ → Port
port_in w s p = port_of (w.switches s) p

-- a port at which a host is shown comes nearer with each clock
abbrev pub HostsAge : ScriptOf → ℕ → WorldOf → Type 0
HostsAge script c w = (s p : ℕ) → s < places script → 1 ≤ p → p ≤ 12 → sample_of (side_of_port w.fabric s p) ≡ sample.Host → clocks_left (port_in w s p) ≤ 129 - clocks_since c w s

-- and one at which nothing is shown is dead from its first clock on
abbrev DeadBy : ℕ → ℕ → Bool → Port → Type 0
DeadBy c tick clocked port = ((tick ≡ suc c) × (clocked ≡ false)) ⊎ (state_of port ≡ state.Dead)

abbrev pub DownsAge : ScriptOf → ℕ → WorldOf → Type 0
DownsAge script c w = (s p : ℕ) → s < places script → 1 ≤ p → p ≤ 12 → sample_of (side_of_port w.fabric s p) ≡ sample.Down → DeadBy c w.fabric.tick (has_clocked w.fabric s) (port_in w s p)

-- the port after an event, at the same end
port_next : (script : ScriptOf) (h : List Event) (e : Event) (s p : ℕ) → IsCalm script h e → port_in (effect e (world_after script h)) s p ≡ port_after (end_at ((world_after script h).switches s) p) (((effect e (world_after script h)).switches s).ports p)
port_next script h e s p calm = ap (λ life. port_after (record { life = life; port = p }) (((effect e (world_after script h)).switches s).ports p)) (calm_lives script h e calm s)

sample_stays : (script : ScriptOf) (h : List Event) (e : Event) (s p : ℕ) → IsCalm script h e → sample_of (side_of_port (effect e (world_after script h)).fabric s p) ≡ sample_of (side_of_port (world_after script h).fabric s p)
sample_stays script h e s p calm = sample_links (world_after script h).fabric.wires (effect e (world_after script h)).fabric.wires (place s p) (calm_links script h e calm)

-- hosts
host_change : (own : EndId) (c tick : ℕ) (now : Sample) (before after : History) (had has : Bool) → now ≡ sample.Host → Changes now before after had has → clocks_left (port_after own before) ≤ 129 - (tick - suc c + cond had 1 0) → clocks_left (port_after own after) ≤ 129 - (tick - suc c + cond has 1 0)
host_change own c tick now before after had has host (stays same clocked) old = subst (λ (z : History × Bool). clocks_left (port_after own z.0) ≤ 129 - (tick - suc c + cond z.1 1 0)) (λ i. (sym same i, sym clocked i)) old
host_change own c tick now before after had has host (replied from nonce is clocked) old =
    let r = replied_as from nonce (port_after own before) in
    let e : clocks_left (port_after own after) ≡ clocks_left (port_after own before) = ap (λ g. clocks_left (port_after own g)) is ∙ ap clocks_left r.1 in
    subst (λ b. clocks_left (port_after own after) ≤ 129 - (tick - suc c + cond b 1 0)) (sym clocked) (omega (arith, e, old))
host_change own c tick now before after had has host (sampled is not_yet clocked) old =
    let e : clocks_left (port_after own after) ≡ clocks_left (port_after own before) - 1 = ap (λ g. clocks_left (port_after own g)) is ∙ clock_nearer own before now (λ down. let f = sym host ∙ down in cc) in
    let a : ◌≡◌ {A = ℕ} (cond had 1 0) 0 = ap (λ b. cond b 1 0) not_yet in
    let b : ◌≡◌ {A = ℕ} (cond has 1 0) 1 = ap (λ b. cond b 1 0) clocked in
    host_sum (clocks_left (port_after own after)) (clocks_left (port_after own before)) (tick - suc c) (cond had 1 0) (cond has 1 0) e a b old
  where
    host_sum : (x y d m n : ℕ) → x ≡ y - 1 → m ≡ 0 → n ≡ 1 → y ≤ 129 - (d + m) → x ≤ 129 - (d + n)
    host_sum x y d m n e a b old = omega (arith, e, a, b, old)

-- a tick leaves the ports and what is shown of them
ticked_sample : (w : WorldOf) (s p : ℕ) → sample_of (side_of_port (effect Tick w).fabric s p) ≡ sample_of (side_of_port w.fabric s p)
unfolding effect
ticked_sample w s p = refl

ticked_port : (w : WorldOf) (s p : ℕ) → port_in (effect Tick w) s p ≡ port_in w s p
unfolding effect
ticked_port w s p = refl

hosts_tick : (script : ScriptOf) → IsScript script → script.pace ≡ None → (h : List Event) → is_lawful (world_after script h).fabric Tick ≡ true → last script h < (world_after script h).fabric.tick → HostsAge script (last script h) (world_after script h) → HostsAge script (last script h) (effect Tick (world_after script h))
hosts_tick script kept unpaced h lawful later old s p low least most host = by (old s p low least most (sym (ticked_sample (world_after script h) s p) ∙ host))
  where
    w : WorldOf
    w = world_after script h

    had : ◌≡◌ {A = ℕ} (cond (has_clocked w.fabric s) 1 0) 1
    had = ap (λ b. cond b 1 0) (all_clocked script kept h s (at_tick script kept unpaced h lawful) low)

    has : ◌≡◌ {A = ℕ} (cond (has_clocked (effect Tick w).fabric s) 1 0) 0
    has = ap (λ b. cond b 1 0) (none_clocked script kept h s low)

    sum : (x t u c m n : ℕ) → u ≡ t + 1 → c < t → m ≡ 1 → n ≡ 0 → x ≤ 129 - (t - suc c + m) → x ≤ 129 - (u - suc c + n)
    sum x t u c m n e late a b old = omega (arith, e, late, a, b, old)

    same : clocks_left (port_in (effect Tick w) s p) ≡ clocks_left (port_in w s p)
    same = ap clocks_left (ticked_port w s p)

    by : clocks_left (port_in w s p) ≤ 129 - clocks_since (last script h) w s → clocks_left (port_in (effect Tick w) s p) ≤ 129 - clocks_since (last script h) (effect Tick w) s
    by most = subst (λ n. n ≤ 129 - clocks_since (last script h) (effect Tick w) s) (sym same)
        (sum (clocks_left (port_in w s p)) w.fabric.tick (effect Tick w).fabric.tick (last script h) (cond (has_clocked w.fabric s) 1 0) (cond (has_clocked (effect Tick w).fabric s) 1 0) (ticked w).0 later had has most)

hosts_first : (script : ScriptOf) → IsScript script → (h : List Event) → (world_after script h).fabric.tick ≡ last script h → HostsAge script (last script h) (effect Tick (world_after script h))
hosts_first script kept h now s p low least most host =
    let w = world_after script h in
    let v = effect Tick w in
    let few = clock_most (end_at (v.switches s) p) ((v.switches s).ports p) in
    let has : ◌≡◌ {A = ℕ} (cond (has_clocked v.fabric s) 1 0) 0 = ap (λ b. cond b 1 0) (none_clocked script kept h s low) in
    let tick = (ticked w).0 in
    sum (clocks_left (port_in v s p)) v.fabric.tick w.fabric.tick (last script h) (cond (has_clocked v.fabric s) 1 0) few has tick now
  where
    sum : (x t u c n : ℕ) → x ≤ 129 → n ≡ 0 → t ≡ u + 1 → u ≡ c → x ≤ 129 - (t - suc c + n)
    sum x t u c n few a e f = omega (arith, few, a, e, f)

hosts_other : (script : ScriptOf) → IsScript script → script.pace ≡ None → (h : List Event) (e : Event) → IsCalm script h e → (e ≡ Tick → ⊥) → (effect e (world_after script h)).fabric.tick ≡ (world_after script h).fabric.tick → HostsAge script (last script h) (world_after script h) → HostsAge script (last script h) (effect e (world_after script h))
hosts_other script kept unpaced h e calm no_tick tick old s p low least most host =
    let w = world_after script h in
    let v = effect e w in
    let before = sym (sample_stays script h e s p calm) ∙ host in
    let change = change_at script kept h e s p calm no_tick (all_sampled script kept unpaced h calm.works calm.later) low least most in
    let now = host_change (end_at (w.switches s) p) (last script h) w.fabric.tick (sample_of (side_of_port w.fabric s p)) ((w.switches s).ports p) ((v.switches s).ports p) (has_clocked w.fabric s) (has_clocked v.fabric s) before change (old s p low least most before) in
    subst (λ (z : Port × ℕ). clocks_left z.0 ≤ 129 - (z.1 - suc (last script h) + cond (has_clocked v.fabric s) 1 0)) (λ i. (sym (port_next script h e s p calm) i, sym tick i)) now

by_kind : (script : ScriptOf) (P : WorldOf → Type 0) (h : List Event) (e : Event) → (e ≡ Tick → P (effect Tick (world_after script h))) → ((e ≡ Tick → ⊥) → (effect e (world_after script h)).fabric.tick ≡ (world_after script h).fabric.tick → P (effect e (world_after script h))) → P (effect e (world_after script h))
by_kind script P h e at_a_tick other = by (step_of e w)
  where
    w : WorldOf
    w = world_after script h

    by : (e ≡ Tick) ⊎ IsStepOf e w (effect e w) → P (effect e w)
    by (inl is) = subst (λ x. P (effect x w)) (sym is) (at_a_tick is)
    by (inr step) = other (λ is. let t = step.tick in let u = ap (λ x. (effect x w).fabric.tick) is ∙ (ticked w).0 in omega (arith, t, u)) step.tick

pub all_hosts : (script : ScriptOf) → IsScript script → script.pace ≡ None → (h : List Event) → is_some_spent (world_after script h).fabric ≡ false → last script h < (world_after script h).fabric.tick → HostsAge script (last script h) (world_after script h)
all_hosts script kept unpaced h works later =
    calmly script (HostsAge script) (λ g lawful works now. hosts_first script kept g now)
    (λ g e calm old. by_kind script (HostsAge script (last script g)) g e
    (λ is. hosts_tick script kept unpaced g (subst (λ x. is_lawful (world_after script g).fabric x ≡ true) is calm.lawful) calm.later old)
    (λ no_tick tick. hosts_other script kept unpaced g e calm no_tick tick old))
    h works later

-- ports whose link is down
down_change : (own : EndId) (c tick : ℕ) (now : Sample) (before after : History) (had has : Bool) → now ≡ sample.Down → Changes now before after had has → DeadBy c tick had (port_after own before) → DeadBy c tick has (port_after own after)
down_change own c tick now before after had has down (stays same clocked) old = subst (λ (z : History × Bool). DeadBy c tick z.1 (port_after own z.0)) (λ i. (sym same i, sym clocked i)) old
down_change own c tick now before after had has down (replied from nonce is clocked) old = by old
  where
    same : state_of (port_after own after) ≡ state_of (port_after own before)
    same = ap (λ g. state_of (port_after own g)) is ∙ ap state_of (replied_as from nonce (port_after own before)).1

    by : DeadBy c tick had (port_after own before) → DeadBy c tick has (port_after own after)
    by (inl k) = inl (k.0, clocked ∙ k.1)
    by (inr dead) = inr (same ∙ dead)
down_change own c tick now before after had has down (sampled is not_yet clocked) old =
    inr (ap (λ g. state_of (port_after own g)) is ∙ ap (λ x. state_of (port_after own (Sampled x ∷ before))) down ∙ down_is_dead own own [] before)

downs_tick : (script : ScriptOf) → IsScript script → script.pace ≡ None → (h : List Event) → is_lawful (world_after script h).fabric Tick ≡ true → DownsAge script (last script h) (world_after script h) → DownsAge script (last script h) (effect Tick (world_after script h))
downs_tick script kept unpaced h lawful old s p low least most down = by (old s p low least most (sym (ticked_sample (world_after script h) s p) ∙ down))
  where
    w : WorldOf
    w = world_after script h

    same : state_of (port_in (effect Tick w) s p) ≡ state_of (port_in w s p)
    same = ap state_of (ticked_port w s p)

    by : DeadBy (last script h) w.fabric.tick (has_clocked w.fabric s) (port_in w s p) → DeadBy (last script h) (effect Tick w).fabric.tick (has_clocked (effect Tick w).fabric s) (port_in (effect Tick w) s p)
    by (inl k) = absurd (true≢false (sym (all_clocked script kept h s (at_tick script kept unpaced h lawful) low) ∙ k.1))
    by (inr dead) = inr (same ∙ dead)

downs_first : (script : ScriptOf) → IsScript script → (h : List Event) → (world_after script h).fabric.tick ≡ last script h → DownsAge script (last script h) (effect Tick (world_after script h))
downs_first script kept h now s p low least most down =
    let t = (ticked (world_after script h)).0 in
    inl (omega (arith, t, now), none_clocked script kept h s low)

downs_other : (script : ScriptOf) → IsScript script → script.pace ≡ None → (h : List Event) (e : Event) → IsCalm script h e → (e ≡ Tick → ⊥) → (effect e (world_after script h)).fabric.tick ≡ (world_after script h).fabric.tick → DownsAge script (last script h) (world_after script h) → DownsAge script (last script h) (effect e (world_after script h))
downs_other script kept unpaced h e calm no_tick tick old s p low least most down =
    let w = world_after script h in
    let v = effect e w in
    let before = sym (sample_stays script h e s p calm) ∙ down in
    let change = change_at script kept h e s p calm no_tick (all_sampled script kept unpaced h calm.works calm.later) low least most in
    let now = down_change (end_at (w.switches s) p) (last script h) w.fabric.tick (sample_of (side_of_port w.fabric s p)) ((w.switches s).ports p) ((v.switches s).ports p) (has_clocked w.fabric s) (has_clocked v.fabric s) before change (old s p low least most before) in
    subst (λ (z : Port × ℕ). DeadBy (last script h) z.1 (has_clocked v.fabric s) z.0) (λ i. (sym (port_next script h e s p calm) i, sym tick i)) now

pub all_downs : (script : ScriptOf) → IsScript script → script.pace ≡ None → (h : List Event) → is_some_spent (world_after script h).fabric ≡ false → last script h < (world_after script h).fabric.tick → DownsAge script (last script h) (world_after script h)
all_downs script kept unpaced h works later =
    calmly script (DownsAge script) (λ g lawful works now. downs_first script kept g now)
    (λ g e calm old. by_kind script (DownsAge script (last script g)) g e
    (λ is. downs_tick script kept unpaced g (subst (λ x. is_lawful (world_after script g).fabric x ≡ true) is calm.lawful) old)
    (λ no_tick tick. downs_other script kept unpaced g e calm no_tick tick old))
    h works later
