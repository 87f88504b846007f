use Rattle.std.proofs.Common.{refl, get_or}
use Rattle.port_monitor.specs.Histories.{externals}
use Rattle.an_base.specs.declared.port.Sample.TheVariants as sample
use Rattle.switch_core.proofs.SampleLemmas.{IsSampled, few_probes, probe_sent, probe_unsent, sampled_all, sampled_none}
use Rattle.switch_core.proofs.control.Control.sample.Goals as goal
use Rattle.switch_core.proofs.control.Control.sample.Goals.{in-Some+in_ok-put+in-Carry+in-Stable-1, in-Some+in_ok-put+in-Carry+in-Topo-1, in-Some+in_ok-put+in-Carry+in-Pos-1, in-Some+in_ok-put+in-Ack-1, in_default}

pub ports-init : goal.ports-init
ports-init c = sampled_none c.args.self.now c.args.now c.args.samples.now c.args.out.now

pub sample-requires-clause-few : goal.sample-requires-clause-few
sample-requires-clause-few c = few_probes c.args.self.now c.ports.self c.ports.port-index (get_or externals c.ports.port-index 0) c.args.now c.args.samples.now c.args.out.now c.ports.out c.requires.room c.ports-test.true refl c.ports.invariant

pub ports-preserved : goal.ports-preserved
ports-preserved c =
    let i = c.ports.port-index in
    let port = get_or externals i 0 in
    let samples = c.args.samples.now in
    let sampled : IsSampled c.ports.self.monitor c.sample.new.self port (get_or samples c.from.result sample.Down) c.sample.result =
    record { life = c.sample.ensures.life; after = c.sample.ensures.after; probe = c.sample.ensures.probe } in
    let sent = probe_sent c.args.self.now c.ports.self c.match-sample.self c.sample.new.self c.sample.result i port c.from.result c.args.now samples c.args.out.now c.ports.out c.match-sample.out c.ports-test.true refl c.from.ensures c.ports.invariant sampled in
    elim c.match-sample.branch [
      | in-Some+in_ok-put+in-Carry+in-Stable-1 w ↦ sent w.in-Some.nonce w.end_at-from.result w.put.new.self w.put.new.out w.in-Some.is w.end_at-from.ensures w.in_ok-put.ensures.same w.in_ok-put.ensures.out w.self-is w.out-is
      | in-Some+in_ok-put+in-Carry+in-Topo-1 w ↦ sent w.in-Some.nonce w.end_at-from.result w.put.new.self w.put.new.out w.in-Some.is w.end_at-from.ensures w.in_ok-put.ensures.same w.in_ok-put.ensures.out w.self-is w.out-is
      | in-Some+in_ok-put+in-Carry+in-Pos-1 w ↦ sent w.in-Some.nonce w.end_at-from.result w.put.new.self w.put.new.out w.in-Some.is w.end_at-from.ensures w.in_ok-put.ensures.same w.in_ok-put.ensures.out w.self-is w.out-is
      | in-Some+in_ok-put+in-Ack-1 w ↦ sent w.in-Some.nonce w.end_at-from.result w.put.new.self w.put.new.out w.in-Some.is w.end_at-from.ensures w.in_ok-put.ensures.same w.in_ok-put.ensures.out w.self-is w.out-is
      | in_default w ↦ probe_unsent c.args.self.now c.ports.self c.match-sample.self c.sample.new.self c.sample.result i port c.from.result c.args.now samples c.args.out.now c.ports.out c.match-sample.out c.ports-test.true refl c.from.ensures c.ports.invariant sampled w.in_default.is w.self-is w.out-is
    ]

pub returns : goal.returns
returns c = sampled_all c.args.self.now c.ports.self c.ports.port-index c.args.now c.args.samples.now c.args.out.now c.ports.out c.ports-test.false c.ports.invariant
