use Rattle.port_monitor.specs.Histories.{externals}
use Rattle.std.proofs.Common.{refl, get_or}
use Rattle.switch_core.proofs.NoteLemmas.{all_shown, view_set}
use Rattle.switch_core.proofs.control.Control.show_ports.Goals as goal

pub ports-init : goal.ports-init
ports-init c s stands = (c.as_slice-twelve.ensures.twelve, refl)

pub ports-preserved : goal.ports-preserved
ports-preserved c s stands =
    let i = c.ports.port-index in
    view_set s i (get_or externals i 0) c.ports.ports c.set.new.self c.view.result c.ports-test.true refl (c.view.ensures s stands) c.set.ensures (c.ports.invariant s stands)

pub returns : goal.returns
returns c s stands = all_shown c.ports.port-index c.ports.ports s c.ports-test.false (c.ports.invariant s stands)
