-- What holds at first and after each lawful event holds of each reached world.

use Rattle.std.specs.Prelude.{◌≡◌, ℕ, List, [], ◌∷◌, ◌++◌, Option, Some, None, Bool, true, false, refl}
use Rattle.std.proofs.Common.{sym, ◌∙◌, subst, append_assoc}
use Rattle.std.proofs.lemmas.List.{append-nil}
use Rattle.an_base.specs.Values.{TopoOf}
use Rattle.an_base.specs.declared.event.Event.{Event}
use Rattle.an_base.specs.declared.event.Event.TheVariants.{Load}
use Rattle.net_script.specs.Scripts.{ScriptOf}
use Rattle.switch_core.specs.Switch.{finish_of}
use Rattle.net_state.specs.Lawful.{is_lawful}
use Rattle.net_world.specs.World.{WorldOf, begun, effect, step, world_after, loads_with}
use Rattle.net_world.proofs.WorldLemmas.{world_after-event, step-lawful, step-unlawful}

-- what holds of a world, and of what a lawful event makes of it, holds after any event
pub kept_by : (script : ScriptOf) (P : WorldOf → Type 0) (h : List Event) (e : Event)
    → (is_lawful (world_after script h).fabric e ≡ true → P (effect e (world_after script h))) → P (world_after script h) → P (world_after script (h ++ e ∷ []))
kept_by script P h e next before = subst P (sym (world_after-event script h e)) (by_law (is_lawful (world_after script h).fabric e) refl) where
  by_law : (b : Bool) → is_lawful (world_after script h).fabric e ≡ b → P (step (world_after script h) e)
  by_law true lawful = subst P (sym (step-lawful (world_after script h) e lawful)) (next lawful)
  by_law false unlawful = subst P (sym (step-unlawful (world_after script h) e unlawful)) before

onward : (script : ScriptOf) (P : WorldOf → Type 0)
    → ((h : List Event) (e : Event) → is_lawful (world_after script h).fabric e ≡ true → P (world_after script h) → P (effect e (world_after script h)))
    → (pre more : List Event) → P (world_after script pre) → P (world_after script (pre ++ more))
onward script P each pre [] before = subst (λ (x : List Event). P (world_after script x)) (sym (append-nil pre)) before
onward script P each pre (e ∷ more) before =
    subst (λ (x : List Event). P (world_after script x)) (append_assoc pre (e ∷ []) more)
    (onward script P each (pre ++ e ∷ []) more (kept_by script P pre e (λ lawful. each pre e lawful before) before))

pub world_first : (script : ScriptOf) → world_after script [] ≡ begun script
unfolding world_after
world_first script = refl

-- What holds at first, and is kept by each lawful event in each world that is reached, holds of all of them
pub always : (script : ScriptOf) (P : WorldOf → Type 0) → P (begun script)
    → ((h : List Event) (e : Event) → is_lawful (world_after script h).fabric e ≡ true → P (world_after script h) → P (effect e (world_after script h)))
    → (h : List Event) → P (world_after script h)
always script P first each h = onward script P each [] h (subst P (sym (world_first script)) first)

-- the script stays
loads_script : (topo : Option TopoOf) (s : ℕ) (w : WorldOf) → (loads_with topo s w).fabric.script ≡ w.fabric.script
loads_script None s w = refl
loads_script (Some topo) s w = refl

pub effect_script : (e : Event) (w : WorldOf) → (effect e w).fabric.script ≡ w.fabric.script
unfolding effect
effect_script (Load s) w = loads_script (finish_of (w.switches s)) s w
effect_script e w = refl

pub world_script : (script : ScriptOf) (h : List Event) → (world_after script h).fabric.script ≡ script
world_script script h = always script (λ w. w.fabric.script ≡ script) refl (λ h e lawful before. effect_script e (world_after script h) ∙ before) h
