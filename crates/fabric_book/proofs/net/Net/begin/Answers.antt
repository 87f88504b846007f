-- Each switch has begun its first life, and nothing has come.

use Rattle.std.proofs.Common.{◌∙◌, ap, length}
use Rattle.net_graph.specs.Wires.{Wires}
use Rattle.fabric_book.proofs.NetLemmas.{net_begun}
use Rattle.fabric_book.proofs.net.Net.begin.Goals as goal

pub invariant_of-result : goal.invariant_of-result
invariant_of-result c =
    net_begun c.args.script.now c.in_ok-begin.field-0 c.in_ok-powers.powers.items c.in_ok-powers.switches.items c.in_ok-bytes.bytes.items c.wiring.ensures.kept c.in_ok-begin.ensures c.in_ok-powers.ensures.powers c.in_ok-powers.ensures.switches
    (c.in_ok-bytes.ensures ∙ c.count.ensures.count ∙ ap (λ (w : Wires). length w.switches) c.wiring.ensures.wires)
