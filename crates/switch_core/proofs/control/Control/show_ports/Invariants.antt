use Rattle.switch_core.specs.Stands.{Stands}
use Rattle.switch_core.specs.Switch.{SwitchOf}
use Rattle.switch_core.proofs.NoteLemmas.{Shows}
use Rattle.switch_core.proofs.control.Control.show_ports.Given as goal

-- the ports before are shown
abbrev pub invariant-ports : goal.invariant-ports
invariant-ports l = (s : SwitchOf) → Stands l.self s → Shows l.port-index l.ports s
