use Rattle.std.proofs.Common.{ℕ, List, Bool, sym, subst}
use Rattle.an_base.specs.Values.{EntryOf}
use Rattle.net_graph.specs.Forest.{IsComponent}
use Rattle.check_text.specs.Check.{Judges}
use Rattle.check_text.proofs.CheckLemmas.{passing_more, refused_at}
use Rattle.check_text.proofs.check.judge_all.Goals as goal

pub judge_component-requires-clause-component : goal.judge_component-requires-clause-component
judge_component-requires-clause-component c =
    subst (λ (es : List EntryOf). (r : ℕ) × IsComponent c.args.script.now.wires r es) (sym c.component-item.is)
    (c.requires.forest.components c.components.component-index c.component-item.result c.components-test.true)

pub returns-then-not-branch : goal.returns-then-not-branch
returns-then-not-branch c =
    let so_far = c.components.invariant in
    refused_at c.args.script.now c.args.tables.now c.args.forest.now c.components.component-index c.component-item.result so_far.0 c.components.text.items c.judge_component.new.text.items c.requires.forest c.components-test.true c.component-item.is so_far.1 so_far.2
    (subst (λ (passed : Bool). Judges c.args.script.now c.args.tables.now c.component-item.result passed c.components.text.items c.judge_component.new.text.items) c.if-not-branch.true c.in_ok-judge_component.ensures)

pub components-preserved : goal.components-preserved
components-preserved c =
    let so_far = c.components.invariant in
    let judged = subst (λ (passed : Bool). Judges c.args.script.now c.args.tables.now c.component-item.result passed c.components.text.items c.judge_component.new.text.items) c.if-not-branch.false c.in_ok-judge_component.ensures in
    passing_more c.args.script.now c.args.tables.now c.args.forest.now c.components.component-index c.component-item.result judged.0 so_far.0 c.components.text.items c.judge_component.new.text.items c.components-test.true c.component-item.is judged.1 so_far.1 so_far.2 so_far.3 judged.2
