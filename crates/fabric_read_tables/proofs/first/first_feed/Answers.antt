use Rattle.fabric_read_tables.proofs.FirstLemmas.{first_place}
use Rattle.fabric_read_tables.proofs.first.first_feed.Goals as goal

pub returns : goal.returns
returns c = first_place 10 c.args.bytes.now c.memchr_iter.result _ c.next.result c.memchr_iter.ensures.value c.next.ensures.steps
