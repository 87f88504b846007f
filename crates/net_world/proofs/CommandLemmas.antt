-- A lawful command is one of the script's.

use Rattle.std.specs.Prelude.{List}
use Rattle.std.proofs.Common.{subst}
use Rattle.an_base.specs.declared.event.Event.{Event}
use Rattle.net_script.specs.Commands.{IsCommandEvent}
use Rattle.net_script.specs.Scripts.{ScriptOf, IsScript}
use Rattle.net_state.proofs.LawfulLemmas.{IsCommandOf}
use Rattle.net_state.proofs.LawfulLemmas.{command_fits as fits_in}
use Rattle.net_world.specs.World.{world_after}
use Rattle.net_world.proofs.InductionLemmas.{world_script}

-- the next command is one that can be in the wiring of the script with which the world was begun
pub command_fits : (script : ScriptOf) (h : List Event) (e : Event) → IsScript script → IsCommandOf (world_after script h).fabric e → IsCommandEvent script.wires e
command_fits script h e kept is =
    subst (λ (s : ScriptOf). IsScript s → IsCommandEvent s.wires e) (world_script script h) (λ good. fits_in (world_after script h).fabric e good is) kept
