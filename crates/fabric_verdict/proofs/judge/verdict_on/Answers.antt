use Rattle.std.proofs.Common.{ap, map, arith}
use Rattle.fabric_tables.specs.Cells.{tables_of}
use Rattle.fabric_verdict.specs.Verdict.{spot_at}
use Rattle.fabric_verdict.proofs.NumberLemmas.{loop, ranked}
use Rattle.fabric_verdict.proofs.judge.verdict_on.Goals as goal

pub with_witnesses-requires-clause-least : goal.with_witnesses-requires-clause-least
with_witnesses-requires-clause-least c = loop c.args.fabric.now (tables_of c.args.cells.now) c.args.traffic c.args.graph.now c.requires.graph c.max-most.result c.in-Cycle.nodes.items (map (spot_at c.max-most.result) c.deref.result.now) (omega arith) (ap (map (spot_at c.max-most.result)) c.deref.ensures.value) (rw c.in-Cycle.is at c.in_ok-ranks.ensures)

pub returns-in-Ranks : goal.returns-in-Ranks
returns-in-Ranks c = ranked c.args.fabric.now (tables_of c.args.cells.now) c.args.traffic c.args.graph.now c.requires.graph c.most.ensures.fabric c.in-Ranks.ranks.items (rw c.in-Ranks.is at c.in_ok-ranks.ensures)
