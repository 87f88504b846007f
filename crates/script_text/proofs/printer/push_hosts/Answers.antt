use Rattle.std.proofs.Common.{◌≡◌, ◌++◌, ap, subst, length, arith, []}
use Rattle.net_graph.specs.declared.wiring.HostOn.{HostOn}
use Rattle.net_graph.specs.Wires.{Wires}
use Rattle.script_text.specs.Canonical.{host_form}
use Rattle.common_lines.specs.Lines.{line_text}
use Rattle.common_lines.proofs.FormTexts.{pairs_more}
use Rattle.net_script.specs.Forms.{form_words}
use Rattle.script_text.proofs.printer.push_hosts.Goals as goal

pub hosts-preserved : goal.hosts-preserved
hosts-preserved c =
    let names = c.switch_names-names.result.now in
    let host = c.index-hosts-h.result in
    let line = subst (λ (on : HostOn). c.push_host.new.text.items ≡ c.hosts.text.items ++ line_text (form_words (host_form names (c.get.result.now, on)))) c.index-hosts-h.is c.in_ok-push_host.ensures in
    pairs_more form_words (host_form names) c.names_of_hosts-names_of_hosts.result.now c.hosts-hosts.result.now c.hosts.h c.get.result.now [] host c.args.text.now.items c.hosts.text.items c.push_host.new.text.items
    (omega (arith, ap length c.names_of_hosts-names_of_hosts.ensures.names, c.names_of_hosts-names_of_hosts.ensures.kept.host_count, ap length c.hosts-hosts.ensures.all, ap (λ (w : Wires). length w.hosts) c.wiring.ensures.wires))
    (omega arith) c.get.ensures c.hosts.invariant line
