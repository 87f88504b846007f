use Rattle.std.proofs.Common.{ap, map, arith}
use Rattle.fabric_tables.specs.Cells.{tables_of}
use Rattle.fabric_verdict.specs.Verdict.{spot_at}
use Rattle.fabric_mixtures.specs.Mixtures.{MayBeFollowed}
use Rattle.fabric_mixtures.proofs.TurnLemmas.{are_channels}
use Rattle.fabric_mixtures.proofs.VerdictLemmas.{all_ranked, least_loop, none_round}
use Rattle.fabric_mixtures.proofs.judge.verdict_on.Goals as goal

pub with_turns-requires-clause-least : goal.with_turns-requires-clause-least
with_turns-requires-clause-least c =
    least_loop c.args.fabric.now (MayBeFollowed c.args.fabric.now (tables_of c.args.old.now) (tables_of c.args.new.now)) (are_channels c.args.fabric.now (tables_of c.args.old.now) (tables_of c.args.new.now)) c.args.graph.now c.requires.graph c.max-most.result c.in-Cycle.nodes.items (map (spot_at c.max-most.result) c.deref.result.now) (omega arith) (ap (map (spot_at c.max-most.result)) c.deref.ensures.value) (rw c.in-Cycle.is at c.in_ok-ranks.ensures)

pub returns-in-Ranks : goal.returns-in-Ranks
returns-in-Ranks c =
    let passes = rw c.in-Ranks.is at c.in_ok-ranks.ensures in
    record {
      no_cycle = none_round c.args.fabric.now (MayBeFollowed c.args.fabric.now (tables_of c.args.old.now) (tables_of c.args.new.now)) (are_channels c.args.fabric.now (tables_of c.args.old.now) (tables_of c.args.new.now)) c.args.graph.now c.requires.graph c.in-Ranks.ranks.items passes;
      ranked = all_ranked c.args.fabric.now (MayBeFollowed c.args.fabric.now (tables_of c.args.old.now) (tables_of c.args.new.now)) (are_channels c.args.fabric.now (tables_of c.args.old.now) (tables_of c.args.new.now)) c.args.graph.now c.requires.graph c.most.ensures.fabric c.in-Ranks.ranks.items passes;
    }
