use Rattle.std.proofs.Common.{true, false}
use Rattle.table_build.proofs.LinkLemmas.{no_those}
use Rattle.table_build.proofs.link.links_at.Goals as goal

pub ports-init : goal.ports-init
ports-init c = record { lower = no_those c.args.graph.now c.args.y true _ c.new.ensures.items; upper = no_those c.args.graph.now c.args.y false _ c.new-2.ensures.items }
