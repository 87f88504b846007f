use Rattle.std.proofs.Common.{◌∙◌, ap}
use Rattle.net_graph.specs.Wires.{Wires}
use Rattle.check_text.proofs.CheckLemmas.{rows_same}
use Rattle.check_text.proofs.check.judge_component.Goals as goal

pub returns : goal.returns
returns c =
    let w = c.args.script.now.wires in
    let switches = c.switches-switches.ensures.all ∙ ap (λ (v : Wires). v.switches) c.wiring.ensures.wires in
    c.judge_rows.ensures c.args.tables.now c.in_ok-numbers.ensures
    (c.deref.ensures.value ∙ rows_same c.switches-switches.result.now w.switches c.args.tables.now c.as_slice.result.now c.args.component.now c.in_ok-rows.rows.items switches c.as_slice.ensures.all c.in_ok-rows.ensures)
