use Rattle.fabric_tables.specs.Cells.{tables_of}
use Rattle.fabric_mixtures.specs.Mixtures.{MayBeFollowed}
use Rattle.fabric_mixtures.proofs.TurnLemmas.{are_channels}
use Rattle.fabric_mixtures.proofs.VerdictLemmas.{pairs}
use Rattle.fabric_mixtures.proofs.judge.judge.Goals as goal

pub returns : goal.returns
returns c = record {
  verdict = c.in_ok-verdict.ensures;
  dependencies = pairs c.args.fabric.now (MayBeFollowed c.args.fabric.now (tables_of c.args.old.now) (tables_of c.args.new.now)) (are_channels c.args.fabric.now (tables_of c.args.old.now) (tables_of c.args.new.now)) c.in_ok-graph.graph c.in_ok-graph.ensures c.count_steps-dependencies.result c.count_steps-dependencies.ensures;
}
