use Rattle.std.proofs.Common.{◌∙◌, ◌++◌, sym, ap}
use Rattle.an_base.specs.Values.{LifeId}
use Rattle.port_monitor.specs.Histories.{port_after}
use Rattle.port_monitor.specs.Ports.{reply_to}
use Rattle.switch_core.specs.Bytes.{all_spelled}
use Rattle.switch_core.specs.Steps.{answer_out}
use Rattle.switch_core.proofs.StandsLemmas.{stands_same}
use Rattle.switch_core.proofs.control.Control.on_probe.Goals as goal

pub returns-in_ok-put : goal.returns-in_ok-put
returns-in_ok-put c s stands =
    let port = c.args.port in (
      stands_same c.args.self.now c.put.new.self s c.in_ok-put.ensures.same stands,
      c.in_ok-put.ensures.out
          ∙ ap (λ reply. c.args.out.now ++ all_spelled (answer_out port reply))
          (sym c.in-Some.is ∙ c.on_probe.ensures s.ports stands.ports
          ∙ ap (λ (l : LifeId). reply_to (record { life = l; port = port }) c.args.from c.args.nonce (port_after (record { life = l; port = port }) (s.ports port))) stands.monitor),
    )
