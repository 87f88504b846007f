use Rattle.std.proofs.Common.{arith, ◌∙◌}
use Rattle.std.proofs.lemmas.List.{take_all}
use Rattle.flood_text.proofs.FloodLemmas.{flooded_more, flood_ended}
use Rattle.flood_text.proofs.flood.text_of.Goals as goal

pub components-preserved : goal.components-preserved
components-preserved c =
    let i = c.components.invariant in
    let p = c.in_ok-push_floods.ensures in
    flooded_more c.args.lives.now.script.now c.args.forest.now c.components.component-index c.component-item.result p.0 i.0 c.components.text.items c.push_floods.new.text.items (omega arith) c.component-item.is p.1 i.1 i.2 i.3 p.2

pub returns : goal.returns
returns c =
    let i = c.components.invariant in
    let all = take_all c.components.component-index c.args.forest.now (omega (arith, c.components-test.false)) in
    (i.0, i.1 ∙ all, i.2, flood_ended c.args.lives.now.script.now i.0 c.components.text.items c.push_line.new.text.items i.3 c.in_ok-push_line.ensures)
