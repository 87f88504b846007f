use Rattle.std.proofs.Common.{subst, true, List, length}
use Rattle.table_build.specs.declared.link.Link.{Link}
use Rattle.table_build.specs.Bests.{climbing, IsBest, OverBelow}
use Rattle.table_build.proofs.OverLemmas.{climbs, links_known}
use Rattle.table_build.proofs.best.climb_to.Goals as goal

pub best_over-over-requires-clause-known : goal.best_over-over-requires-clause-known
best_over-over-requires-clause-known c = rw c.deref.ensures.value (links_known c.args.graph.now (climbing c.args.from c.args.any) true c.args.bests.now c.args.y c.args.links.now.lower.items c.requires.graph c.requires.links.lower c.requires.knows)

pub returns : goal.returns
returns c = climbs c.args.graph.now c.args.from c.args.any c.args.links.now c.args.y c.no_link.result c.best_over-over.result c.better_of.result c.requires.graph c.requires.links (c.no_link.ensures c.args.graph.now c.args.any) (subst (λ (ls : List Link). IsBest c.args.any (OverBelow c.args.graph.now (climbing c.args.from c.args.any) ls (length ls)) c.best_over-over.result) c.deref.ensures.value c.best_over-over.ensures) c.better_of.ensures
