use Rattle.std.proofs.Common.{◌≡◌, length, subst, refl, ℕ, arith}
use Rattle.table_build.specs.Bests.{IsBest, OverBelow}
use Rattle.table_build.specs.Links.{link_at}
use Rattle.table_build.proofs.OverLemmas.{over_more}
use Rattle.table_build.proofs.best.best_over.Goals as goal

pub links-preserved : goal.links-preserved
links-preserved c = over_more c.args.graph.now c.args.search c.args.links.now c.links.link-index (link_at c.args.links.now c.links.link-index) c.links.best c.best_by.result c.better_of-best.result refl c.links.invariant c.best_by.ensures c.better_of-best.ensures

pub returns : goal.returns
returns c = let all : c.links.link-index ≡ length c.args.links.now = omega arith in subst (λ (n : ℕ). IsBest c.args.search.any (OverBelow c.args.graph.now c.args.search c.args.links.now n) c.links.best) all c.links.invariant
