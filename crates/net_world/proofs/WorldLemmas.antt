-- Events in turn, lawful and not.

use Rattle.std.specs.Prelude.{◌≡◌, ◌==◌, ℕ, List, [], ◌∷◌, ◌++◌, Some, true, false, refl}
use Rattle.an_base.specs.declared.event.Event.{Event}
use Rattle.net_script.specs.Scripts.{ScriptOf}
use Rattle.switch_core.specs.Switch.{SwitchOf, at_port}
use Rattle.net_state.specs.declared.ending.Ending.{Ending}
use Rattle.net_state.specs.Fabric.{FabricOf}
use Rattle.net_state.specs.Agree.{ending_of}
use Rattle.net_state.specs.Lawful.{is_lawful}
use Rattle.net_world.specs.World.{WorldOf, begun, effect, step, after_all, world_after}

-- events after events
pub after_all-append : (h more : List Event) (w : WorldOf) → after_all (h ++ more) w ≡ after_all more (after_all h w)
after_all-append [] more w = refl
after_all-append (e ∷ h) more w = after_all-append h more (step w e)

pub world_after-append : (script : ScriptOf) (h more : List Event) → world_after script (h ++ more) ≡ after_all more (world_after script h)
unfolding world_after
world_after-append script h more = after_all-append h more (begun script)

-- one more event
pub world_after-event : (script : ScriptOf) (h : List Event) (e : Event) → world_after script (h ++ e ∷ []) ≡ step (world_after script h) e
world_after-event script h e = world_after-append script h (e ∷ [])

-- a lawful event, and one that is not
pub step-lawful : (w : WorldOf) (e : Event) → is_lawful w.fabric e ≡ true → step w e ≡ effect e w
unfolding step
step-lawful w e lawful = rw lawful refl

pub step-unlawful : (w : WorldOf) (e : Event) → is_lawful w.fabric e ≡ false → step w e ≡ w
unfolding step
step-unlawful w e unlawful = rw unlawful refl

-- no event is lawful at an end
pub none_at_end : (f : FabricOf) (end : Ending) (e : Event) → ending_of f ≡ Some end → is_lawful f e ≡ false
unfolding is_lawful
none_at_end f end e ends = rw ends refl

-- a switch at another place stays as it was
pub at_other : (s t : ℕ) (x : SwitchOf) (switches : ℕ → SwitchOf) → (t == s) ≡ false → at_port s x switches t ≡ switches t
at_other s t x switches other = rw other refl
