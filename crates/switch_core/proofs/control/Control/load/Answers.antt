use Rattle.std.proofs.Common.{◌∙◌, sym, subst, false}
use Rattle.an_base.specs.Numbers.{AreNumbers}
use Rattle.topo_graph.specs.Topology.{IsGraph}
use Rattle.switch_core.specs.Steps.{loaded}
use Rattle.switch_core.specs.Stands.{Stands}
use Rattle.switch_core.proofs.LoadLemmas.{finish_has, finished_with, stands_loaded, table_of_finish}
use Rattle.switch_core.proofs.control.Control.load.Goals as goal

pub build-requires-clause-member : goal.build-requires-clause-member
build-requires-clause-member c =
    let has = c.requires.state.2 in
    let s = has.switch in
    let topo = c.unwrap-topo.result in
    let is = finished_with s c.finish.result topo (c.finish.ensures s has.stands) c.unwrap-topo.ensures in
    finish_has c.args.self.now s topo.now c.in_ok-graph.graph has.stands has.sound.me is (c.in_ok-graph.ensures ∙ c.entries.ensures.entries)

pub returns-clause-ok : goal.returns-clause-ok
returns-clause-ok c s stands =
    let topo = c.unwrap-topo.result in
    let same = c.in_ok-graph.ensures in
    record {
      topo = topo.now;
      finished = finished_with s c.finish.result topo (c.finish.ensures s stands) c.unwrap-topo.ensures;
      graph = subst IsGraph (same ∙ c.entries.ensures.entries) c.entries-2.ensures.graph;
      numbers = subst AreNumbers c.numbers.ensures.numbers c.as_slice.ensures.numbers;
      as_many = c.entries.ensures.as_many;
      is_table = table_of_finish c.args.self.now s topo.now c.in_ok-graph.graph c.numbers-2.result.now c.in_ok-table.table stands (same ∙ c.entries.ensures.entries) c.numbers-2.ensures.numbers c.in_ok-table.ensures;
      stands = subst (λ n. Stands (record c.args.self.now { number = n; load_due = false }) (loaded c.in_ok-table.table.number s)) (sym c.number-self.ensures.number) (stands_loaded c.args.self.now s c.in_ok-table.table.number stands);
      least = c.number-self.ensures.least;
      most = c.number-self.ensures.most;
    }
