use Rattle.an_base.specs.declared.body.Body.TheVariants.{Topo}
use Rattle.epoch_core.proofs.EpochLemmas.{quiet-topo, position-quiet, version-quiet, is_stable-topo}
use Rattle.epoch_core.proofs.law.a_topology_moves_nothing.Goals as goal

pub returns : goal.returns
returns c = λ card port topo log. record {
  position = position-quiet card (record { port = port; body = Topo topo }) log (quiet-topo topo);
  version = version-quiet card (record { port = port; body = Topo topo }) log (quiet-topo topo);
  stable = is_stable-topo card port topo log;
}
