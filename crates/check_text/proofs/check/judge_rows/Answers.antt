use Rattle.std.proofs.Common.{◌∙◌, ap, ℕ, List, ◌++◌}
use Rattle.check_text.specs.Check.{refusal_line}
use Rattle.check_text.proofs.CheckLemmas.{judged_ok, judged_no}
use Rattle.check_text.proofs.check.judge_rows.Goals as goal

pub returns-in-Ok : goal.returns-in-Ok
returns-in-Ok c = λ t numbers rows.
    judged_ok c.args.script.now t c.args.component.now c.in_ok-graph.graph c.as_slice.result.now c.args.numbers.now c.as_slice-2.result.now c.args.rows.now c.in-Ok.ranks c.args.text.now.items c.push_ranks.new.text.items
    c.in_ok-graph.ensures c.as_slice.ensures.all numbers c.as_slice-2.ensures.all rows c.in-Ok.ensures.passes c.in_ok-push_ranks-in-Ok.ensures

pub returns : goal.returns
returns c = λ t numbers rows.
    judged_no c.args.script.now t c.args.component.now c.in_ok-graph.graph c.as_slice.result.now c.args.numbers.now c.as_slice-2.result.now c.args.rows.now c.in-Err.refusal c.args.text.now.items c.push_refusal.new.text.items
    c.in_ok-graph.ensures c.as_slice.ensures.all numbers c.as_slice-2.ensures.all rows
    c.in_ok-push_refusal-in-Err.ensures.told c.in-Err.ensures.refused
    (c.in_ok-push_refusal-in-Err.ensures.line ∙ ap (λ (u : List ℕ). u ++ refusal_line c.args.script.now c.as_slice.result.now c.as_slice-2.result.now c.in-Err.refusal) c.clear.ensures.items)
