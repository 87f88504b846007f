use Rattle.std.proofs.Common.{◌∙◌, sym, ap, subst}
use Rattle.an_base.specs.Numbers.{AreNumbers}
use Rattle.net_graph.specs.Wires.{Wires}
use Rattle.check_text.proofs.CheckLemmas.{numbers_same}
use Rattle.check_text.proofs.ComponentLemmas.{component_numbers}
use Rattle.check_text.proofs.check.component_numbers.Goals as goal

pub new-requires : goal.new-requires
new-requires c =
    let w = c.args.script.now.wires in
    let switches = c.switches-switches.ensures.all ∙ ap (λ (v : Wires). v.switches) c.wiring.ensures.wires in
    subst AreNumbers (sym (numbers_same c.switches-switches.result.now w.switches c.args.tables.now c.as_slice-entries.result.now c.args.component.now c.in_ok-numbers_of.field-0.items switches c.as_slice-entries.ensures.all c.in_ok-numbers_of.ensures.numbers))
    (component_numbers w c.args.tables.now c.requires.component.0 c.args.component.now c.wiring.ensures.kept.wired c.numbers_of.ensures.kept c.requires.tables c.requires.component.1 c.as_slice-entries.ensures.some c.as_slice-entries.ensures.most)
