use Rattle.std.specs.Prelude.{ℕ}
use Rattle.an_base.specs.declared.event.Event.{Event}
use Rattle.an_base.specs.declared.event.Event.TheVariants.{Clock, Take, Handle, Load, Fail, Repair, Restart}
use Rattle.journal.specs.declared.kind.SwitchEvent.{SwitchEvent}
use Rattle.journal.specs.declared.kind.SwitchEvent.TheVariants as switch
use Rattle.journal.specs.declared.kind.PortEvent.{PortEvent}
use Rattle.journal.specs.declared.kind.PortEvent.TheVariants as port

-- The kinds of events at a switch, or at a port of a switch.

-- the event of a kind at a switch (`switch_event`), and at a port (`port_event`)
abbrev pub switch_event : SwitchEvent → ℕ → Event
switch_event switch.Clock node = Clock node
switch_event switch.Handle node = Handle node
switch_event switch.Load node = Load node
switch_event switch.Restart node = Restart node

abbrev pub port_event : PortEvent → ℕ → ℕ → Event
port_event port.Take node at_port = Take node at_port
port_event port.Fail node at_port = Fail node at_port
port_event port.Repair node at_port = Repair node at_port
