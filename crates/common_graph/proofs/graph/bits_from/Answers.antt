use Rattle.common_graph.proofs.CursorLemmas.{masked}
use Rattle.common_graph.proofs.graph.bits_from.Goals as goal

pub returns : goal.returns
returns c = masked c.args.word c.args.from c.ranges.word.fits c.requires
