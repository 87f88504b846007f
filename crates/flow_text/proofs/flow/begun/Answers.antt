use Rattle.std.proofs.Common.{arith, subst, sym}
use Rattle.flow_channels.specs.Layout.{LayoutOf, layout_of}
use Rattle.flow_channels.specs.View.{IsOver}
use Rattle.flow_text.proofs.FlowTurns.{own_joined, own_no_cycle}
use Rattle.flow_text.proofs.flow.begun.Goals as goal

pub new-requires : goal.new-requires
new-requires g c =
    let (own, (sends, room)) = c.requires in
    let graph = c.args.graph.now in
    let numbers = c.args.numbers.now in
    let none = own_no_cycle own.any graph numbers g.layout.rows own.own in
    let joined = own_joined own.any graph numbers g.layout.rows own.own in
    let most = c.max-most.ensures in
    (own.own.numbered.count, (own.exits, (none, (joined, (room, (omega arith, omega (arith, sends.few)))))))

pub returns : goal.returns
returns g c =
    let (own, (sends, room)) = c.requires in
    let over = c.enter_all.ensures.over (layout_of c.args.graph.now c.args.numbers.now g.layout.rows c.args.b) c.in_ok-flow.ensures.over sends in
    record {
      over = subst (λ (l : LayoutOf). IsOver l c.enter_all.new.flow) (sym own.is) over;
      flow_is = c.enter_all.ensures.entered.flow_is;
    }
