use Rattle.std.proofs.Common.{ap, length, arith, []}
use Rattle.net_graph.specs.Wires.{Wires}
use Rattle.script_text.specs.Canonical.{switch_form}
use Rattle.common_lines.proofs.FormTexts.{pairs_more}
use Rattle.net_script.specs.Forms.{form_words}
use Rattle.script_text.proofs.printer.push_switches.Goals as goal

pub switches-preserved : goal.switches-preserved
switches-preserved c =
    pairs_more form_words switch_form c.switch_names-names.result.now c.switches-switches.result.now c.switches.s c.get.result.now [] _ c.args.text.now.items c.switches.text.items c.push_switch.new.text.items
    (omega (arith, ap length c.switch_names-names.ensures.names, c.switch_names-names.ensures.kept.switch_count, ap length c.switches-switches.ensures.all, ap (λ (w : Wires). length w.switches) c.wiring.ensures.wires))
    (omega arith) c.get.ensures c.switches.invariant c.in_ok-push_switch.ensures
