use Rattle.table_build.proofs.LinkLemmas.{links_more}
use Rattle.table_build.proofs.link.push_all.Goals as goal

pub places-preserved : goal.places-preserved
places-preserved c = rw c.in_ok-push.ensures.items (links_more c.args.graph.now c.places.y c.places.links.items _ c.places.invariant c.in_ok-links_at.ensures)
