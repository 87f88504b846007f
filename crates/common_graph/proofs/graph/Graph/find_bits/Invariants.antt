use Rattle.std.proofs.Common.{◌≡◌, ◌-◌}
use Rattle.common_graph.specs.Rows.{StandsAt}
use Rattle.common_graph.proofs.graph.Graph.find_bits.Given as goal

-- the same place
abbrev pub invariant-parts : goal.invariant-parts
invariant-parts l = record { stands : StandsAt l.self l.node l.cursor; from : l.cursor.from ≡ l.fn.cursor.from }

abbrev pub decreases-parts : goal.decreases-parts
decreases-parts l = l.self.wide - l.cursor.part
