-- Each switch begins its first life.

use Rattle.std.proofs.Common.{◌∙◌, ap, length, subst, sym}
use Rattle.std.proofs.lemmas.List.FromFn.{length-map-range_with_len}
use Rattle.net_graph.specs.Wires.{Wires}
use Rattle.fabric_book.specs.Nets.{AreStarted, PowerOf, power_of}
use Rattle.fabric_book.proofs.net.started.Goals as goal

pub start_all-requires : goal.start_all-requires
start_all-requires c =
    ap (length {A = PowerOf}) (c.deref.ensures.value ∙ c.in_ok-powers.ensures) ∙ length-map-range_with_len (power_of c.args.script.now) 0 (length c.args.script.now.wires.switches) ∙ ap (λ (w : Wires). length w.switches) (sym c.wiring.ensures.wires)

pub returns-clause-switches : goal.returns-clause-switches
returns-clause-switches c =
    subst (λ (w : Wires). AreStarted c.in_ok-powers.powers.items w c.in_ok-switches.switches.items) c.wiring.ensures.wires
    (subst (λ ps. AreStarted ps c.wiring.result.now c.in_ok-switches.switches.items) c.deref.ensures.value c.in_ok-switches.ensures)
