use Rattle.std.proofs.Common.{subst}
use Rattle.net_graph.specs.Wires.{Wires}
use Rattle.net_graph.specs.Forest.{IsForest}
use Rattle.flood_text.proofs.FloodLemmas.{forest_trees}
use Rattle.flood_text.proofs.flood.flood.Goals as goal

pub text_of-requires : goal.text_of-requires
text_of-requires c =
    rw c.deref.ensures.value (forest_trees c.args.script.now.wires c.in_ok-forest.forest.items c.wiring.ensures.kept.wired
    (subst (λ (w : Wires). IsForest w c.in_ok-forest.forest.items) c.wiring.ensures.wires c.in_ok-forest.ensures))
