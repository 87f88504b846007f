-- The boot of each switch counts its restarts, so lives differ.

use Rattle.std.specs.Prelude.{◌≡◌, ◌≢◌, ◌⊎◌, ◌+◌, ◌==◌, ◌<◌, ◌≤◌, ℕ, List, length, cond, take, slice_get, Option, Some, None, Bool, true, false, refl}
use Rattle.std.specs.List.{sum_by}
use Rattle.std.proofs.Common.{sym, ◌∙◌, ap, subst, inl, inr, arith, eq-eqb, ne_eqb}
use Rattle.std.proofs.lemmas.Bool.{cases_eq}
use Rattle.std.proofs.lemmas.List.Sums.{sum_by_more, sum_by-take-le, sum_by-le-sum_by}
use Rattle.std.proofs.lemmas.Option.{slice_get_within, get_or_from_slice_get}
use Rattle.an_base.specs.Values.{LifeId, TopoOf}
use Rattle.an_base.specs.declared.event.Event.{Event}
use Rattle.an_base.specs.declared.event.Event.TheVariants.{Tick, Clock, Take, Handle, Load, Move, Restart}
use Rattle.net_graph.proofs.CollectLemmas.{uid_one}
use Rattle.net_script.specs.declared.command.Command.{Command}
use Rattle.net_script.specs.Commands.{is_restart}
use Rattle.net_script.specs.Scripts.{ScriptOf, IsScript, restarts_of}
use Rattle.switch_core.specs.Switch.{SwitchOf, at_port, finish_of}
use Rattle.net_state.specs.Fabric.{station, held_bytes}
use Rattle.net_state.specs.Lawful.{is_lawful}
use Rattle.net_world.specs.World.{WorldOf, effect, world_after, loads_with, handled, next_life}
use Rattle.net_world.specs.Sound.{is_restart_at, restarts_at, HasBoot}
use Rattle.net_world.proofs.InductionLemmas.{always, world_script}
use Rattle.net_state.proofs.LawfulLemmas.{lawful_is, IsCommandOf, command_is}
use Rattle.net_world.proofs.StaysLemmas.{handles_stay}
use Rattle.net_state.proofs.ReadyLemmas.{restart_ready}
use Rattle.net_world.proofs.PlaceLemmas.{world_places}

-- a change of the switch at one place
pub set_switch : (P : SwitchOf → Type 0) (switches : ℕ → SwitchOf) (t s : ℕ) (y : SwitchOf) → (s ≡ t → P y) → (s ≢ t → P (switches s)) → P (at_port t y switches s)
set_switch P switches t s y here there = by (cases_eq s t) where
  by : (s ≡ t) ⊎ (s ≡ t → ⊥) → P (at_port t y switches s)
  by (inl same) = subst P (sym (ap (λ b. cond b y (switches s)) (eq-eqb s t same))) (here same)
  by (inr other) = subst P (sym (ap (λ b. cond b y (switches s)) (ne_eqb s t other))) (there other)

abbrev one_if : Bool → ℕ
one_if b = cond b 1 0

-- one more command is done
restarts_more : (script : ScriptOf) (h : List Event) (e : Event) (s : ℕ) → IsCommandOf (world_after script h).fabric e
    → restarts_at s (take ((world_after script h).fabric.done + 1) script.commands) ≡ restarts_at s (take (world_after script h).fabric.done script.commands) + cond (is_restart_at s e) 1 0
restarts_more script h e s is =
    let d = (world_after script h).fabric.done in
    let there : slice_get script.commands d ≡ Some is.command = ap (λ (x : ScriptOf). slice_get x.commands d) (sym (world_script script h)) ∙ is.there in
    sum_by_more (λ (c : Command). cond (is_restart_at s c.event) 1 0) script.commands d is.command (slice_get_within script.commands d is.command there)
    ∙ ap (λ (c : Command). restarts_at s (take d script.commands) + cond (is_restart_at s c.event) 1 0) (get_or_from_slice_get script.commands d is.command is.command there)
    ∙ ap (λ (x : Event). restarts_at s (take d script.commands) + cond (is_restart_at s x) 1 0) is.event

other_command : (script : ScriptOf) (h : List Event) (e : Event) (s : ℕ) → is_restart_at s e ≡ false → IsCommandOf (world_after script h).fabric e → HasBoot script (world_after script h) s
    → ((world_after script h).switches s).life.boot ≡ 1 + restarts_at s (take ((world_after script h).fabric.done + 1) script.commands)
other_command script h e s differs is before =
    let more = restarts_more script h e s is in
    let none : one_if (is_restart_at s e) ≡ 0 = ap one_if differs in
    omega (arith, before, more, none)

loads_boot : (script : ScriptOf) (t s : ℕ) (topo : Option TopoOf) (w : WorldOf) → HasBoot script w s → HasBoot script (loads_with topo t w) s
loads_boot script t s None w before = before
loads_boot script t s (Some topo) w before =
    set_switch (λ y. y.life.boot ≡ 1 + restarts_at s (take w.fabric.done script.commands)) w.switches t s _
    (λ same. ap (λ k. (w.switches k).life.boot) (sym same) ∙ before) (λ _. before)

boot_step : (script : ScriptOf) (h : List Event) (e : Event) → is_lawful (world_after script h).fabric e ≡ true → ((s : ℕ) → HasBoot script (world_after script h) s) → (s : ℕ) → HasBoot script (effect e (world_after script h)) s
unfolding effect
boot_step script h Tick lawful before s = before s
boot_step script h (Clock t) lawful before s = before s
boot_step script h (Take t p) lawful before s = before s
boot_step script h (Handle t) lawful before s =
    let w = world_after script h in
    set_switch (λ y. y.life.boot ≡ 1 + restarts_at s (take w.fabric.done script.commands)) w.switches t s (handled t w).switch
    (λ same. ap (λ (l : LifeId). l.boot) (handles_stay (station w.fabric t).hand (held_bytes w.fabric t) (w.switches t)).life ∙ ap (λ k. (w.switches k).life.boot) (sym same) ∙ before s)
    (λ _. before s)
boot_step script h (Load t) lawful before s = let w = world_after script h in loads_boot script t s (finish_of (w.switches t)) w (before s)
boot_step script h (Move k) lawful before s = before s
boot_step script h (Restart t) lawful before s =
    let w = world_after script h in
    let is = command_is w.fabric (Restart t) (restart_ready w.fabric t (lawful_is w.fabric (Restart t) lawful).ready).0 in
    let more = restarts_more script h (Restart t) s is in
    set_switch (λ y. y.life.boot ≡ 1 + restarts_at s (take (w.fabric.done + 1) script.commands)) w.switches t s (next_life t w)
    (λ same.
    let one : one_if (s == t) ≡ 1 = ap one_if (eq-eqb s t same) in
    let now : (w.switches t).life.boot ≡ 1 + restarts_at s (take w.fabric.done script.commands) = ap (λ k. (w.switches k).life.boot) (sym same) ∙ before s in
    omega (arith, more, one, now))
    (λ other. other_command script h (Restart t) s (ne_eqb s t other) is (before s))
boot_step script h e lawful before s = let f = (world_after script h).fabric in other_command script h e s refl (command_is f e (lawful_is f e lawful).ready) (before s)

pub world_boots : (script : ScriptOf) (h : List Event) (s : ℕ) → HasBoot script (world_after script h) s
world_boots script h = always script (λ w. (s : ℕ) → HasBoot script w s) (λ s. refl) (boot_step script) h

-- so no switch has a life beyond those of the script
restart_is : (s : ℕ) (e : Event) → one_if (is_restart_at s e) ≤ one_if (is_restart e)
restart_is s (Restart t) = by (s == t) where
  by : (b : Bool) → one_if b ≤ 1
  by true = omega arith
  by false = omega arith
restart_is s e = omega arith

pub boot_most : (script : ScriptOf) (h : List Event) (s : ℕ) → ((world_after script h).switches s).life.boot ≤ 1 + restarts_of script.commands
unfolding restarts_of
boot_most script h s =
    let here = world_boots script h s in
    let part = sum_by-take-le (λ (c : Command). cond (is_restart_at s c.event) 1 0) script.commands (world_after script h).fabric.done in
    let all : restarts_at s script.commands ≤ sum_by (λ (c : Command). cond (is_restart c.event) 1 0) script.commands = sum_by-le-sum_by (λ (c : Command). cond (is_restart_at s c.event) 1 0) (λ (c : Command). cond (is_restart c.event) 1 0) script.commands (λ (c : Command). restart_is s c.event) in
    omega (arith, here, part, all)

-- and lives of different places differ
pub lives_differ : (script : ScriptOf) → IsScript script → (h : List Event) (s t : ℕ) → s < length script.wires.switches → t < length script.wires.switches
    → ((world_after script h).switches s).life ≡ ((world_after script h).switches t).life → s ≡ t
lives_differ script kept h s t s_below t_below same =
    let a = (world_places script kept h s s_below).life in
    let b = (world_places script kept h t t_below).life in
    uid_one script.wires s t kept.wired s_below t_below (ap (λ (l : LifeId). l.uid) (sym a ∙ same ∙ b))
