use Rattle.switch_core.specs.Stands.{Does}
use Rattle.switch_core.proofs.SampleLemmas.{probed_to}
use Rattle.switch_core.proofs.control.Control.sample.Given as goal

-- the ports before were sampled, and their probes went out
abbrev pub invariant-ports : goal.invariant-ports
invariant-ports l = Does (probed_to l.port-index l.now l.samples) l.fn.self l.self l.initial.out l.out
