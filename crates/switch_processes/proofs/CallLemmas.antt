-- What is kept after the calls of a program stands for the switch after them, which takes each of them.

use Rattle.std.proofs.Common.{◌∙◌, sym, subst, List, ◌∷◌, inl, inr}
use Rattle.an_base.specs.Values.{LifeId}
use Rattle.epoch_game.specs.Slice.{Earlier}
use Rattle.switch_core.specs.Kept.{KeptOf, StandsFor}
use Rattle.switch_game.specs.Network.{PowerOn}
use Rattle.switch_processes.specs.Processes.{Call, Clocks, Event, Hears, Loads, Takes, switch_after}
use Rattle.switch_processes.specs.Calls.{HasCalled, clocks, hears, hears_nothing, loads, starts}
use Rattle.switch_processes.proofs.Moments.{same_event}

pub stands : (on : PowerOn) (life : LifeId) (kept : KeptOf) (calls : List Call) → HasCalled on life kept calls → StandsFor kept (switch_after on life calls)
stands on life _ _ (starts kept is) = is
stands on life _ _ (clocks old new before now samples out spent called working ticks) = (ticks (switch_after on life before) (stands on life old before called)).stands
stands on life _ _ (hears old new before port bytes frame out called working least most is_frame is handles) = ((handles (switch_after on life before) (stands on life old before called)).frame frame is_frame is).0
stands on life _ _ (hears_nothing old new before port bytes out called is handles) = ((handles (switch_after on life before) (stands on life old before called)).no_frame is).0
stands on life _ _ (loads old new before table called due does) = (does (switch_after on life before) (stands on life old before called)).stands

-- the newest call is one that the switch takes, and so are the earlier ones
newest : (on : PowerOn) (life : LifeId) (c : Call) (b : List Call) → Takes (switch_after on life b) c → ((d : Call) (k : List Call) → Earlier (d ∷ k) b → Takes (switch_after on life k) d) → (d : Call) (k : List Call) → Earlier (d ∷ k) (c ∷ b) → Takes (switch_after on life k) d
newest on life c b now before d k (inl is) = subst (λ (e : Event). Takes (switch_after on life e.before) e.call) (sym (same_event life d c k b is)) now
newest on life c b now before d k (inr low) = before d k low

pub takes : (on : PowerOn) (life : LifeId) (kept : KeptOf) (calls : List Call) → HasCalled on life kept calls → (d : Call) (k : List Call) → Earlier (d ∷ k) calls → Takes (switch_after on life k) d
takes on life _ _ (starts kept is) d k e = absurd cc
takes on life _ _ (clocks old new before now samples out spent called working ticks) d k e =
    newest on life (Clocks now samples) before (sym (stands on life old before called).spent ∙ working) (takes on life old before called) d k e
takes on life _ _ (hears old new before port bytes frame out called working least most is_frame is handles) d k e =
    newest on life (Hears port frame) before (sym (stands on life old before called).spent ∙ working, least, most) (takes on life old before called) d k e
takes on life _ _ (hears_nothing old new before port bytes out called is handles) d k e = takes on life old before called d k e
takes on life _ _ (loads old new before table called due does) d k e =
    newest on life (Loads table.number) before (sym (stands on life old before called).load_due ∙ due) (takes on life old before called) d k e
