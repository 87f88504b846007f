use Rattle.std.proofs.Common.{subst}
use Rattle.std.proofs.lemmas.Result.{on_ok_weaker}
use Rattle.flow_channels.specs.Flows.{FlowOf}
use Rattle.flow_channels.proofs.RankedLaws.{ranks_in}
use Rattle.flow_text.specs.FlowRuns.{IsRanked, IsToldRun}
use Rattle.flow_text.proofs.FlowTurns.{own_ranks}
use Rattle.flow_text.proofs.flow.push_run.Goals as goal

pub begun-requires : goal.begun-requires
begun-requires g c = let (numbered, (own, (those, (room, few)))) = c.requires in (own, (those, room))

pub push_flow-requires : goal.push_flow-requires
push_flow-requires g c =
    let (numbered, (own, (those, (room, few)))) = c.requires in
    let tabled = c.args.tabled in
    let ranked : IsRanked (ranks_in g.layout) c.in_ok-flow.flow = record {
      layout = g.layout;
      over = c.in_ok-flow.ensures.over;
      ranked = own_ranks tabled.graph tabled.numbers tabled.exits c.args.b g.layout room own;
    } in
    (numbered, (ranked, few))

pub returns-clause-told : goal.returns-clause-told
returns-clause-told g c =
    on_ok_weaker c.push_flow.result
    (λ told. subst (λ (start : FlowOf). IsToldRun g.layout c.args.script.now c.args.tabled.graph start c.args.text.now.items c.push_flow.new.text.items c.args.out.now c.push_flow.new.out) c.in_ok-flow.ensures.flow_is (told g.layout c.in_ok-flow.ensures.over))
    c.push_flow.ensures.told
