use Rattle.flow_text.specs.FlowRuns.{AreNames}
use Rattle.flow_text.proofs.flow.names_of.Given as goal

-- the numbers so far
abbrev pub invariant-numbers : goal.invariant-numbers
invariant-numbers l = AreNames l.script l.entries l.numbers l.number l.names.items
