use Rattle.std.proofs.Common.{◌∙◌, ap, sym}
use Rattle.switch_numbering.specs.Numbering.{numbering}
use Rattle.flow_text.proofs.FlowTurns.{named_all}
use Rattle.flow_text.proofs.flow.Tabled.of.Goals as goal

pub of-requires-2 : goal.of-requires-2
of-requires-2 c = named_all c.in_ok-graph.graph c.in_ok-numbers.numbers (c.in_ok-numbers.ensures ∙ ap numbering (sym c.in_ok-graph.ensures))

pub returns : goal.returns
returns c = record {
  graph_is = c.in_ok-graph.ensures;
  numbers_are = c.in_ok-numbers.ensures ∙ ap numbering (sym c.in_ok-graph.ensures);
  exits = c.in_ok-exits.ensures;
}
