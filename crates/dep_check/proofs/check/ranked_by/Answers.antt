use Rattle.std.proofs.Common.{◌≡◌, Option, None}
use Rattle.dep_check.specs.declared.channel.Channel.{Channel}
use Rattle.dep_check.specs.Channels.{far_at, channel_cmp}
use Rattle.common_graph.specs.Cycles.{IsLeastCycle}
use Rattle.dep_check.specs.Tables.{IsSpot, level_at}
use Rattle.dep_check.specs.Search.{AreSteps, IsLinked, Step}
use Rattle.dep_check.proofs.CheckLemmas.{some_cycle, least_at, no_cycle_at, ranks_at}
use Rattle.dep_check.proofs.check.ranked_by.Goals as goal

pub unwrap-channels-requires : goal.unwrap-channels-requires
unwrap-channels-requires c =
    let wires = c.in_ok-wires.wires.items in
    let steps = c.in_ok-steps.steps in
    let levels = c.in_ok-levels.levels.items in
    let are : AreSteps wires c.args.rows.now None steps = rw c.deref.ensures.value at c.in_ok-steps.ensures in
    let late : (s : Channel) × IsSpot s × IsLinked steps s × (level_at levels s ≡ None) = rw (c.deref-2.ensures.value, c.if-not-are_all_ranked.true) at c.are_all_ranked.ensures in
    some_cycle wires c.args.rows.now steps levels c.in_ok-wires.ensures.links.within are c.in_ok-levels.ensures late.0 late.1 late.2 late.3 c.in_ok-least_cycle.field-0 c.in_ok-least_cycle.ensures

pub returns-then-not-are_all_ranked-clause-refused : goal.returns-then-not-are_all_ranked-clause-refused
returns-then-not-are_all_ranked-clause-refused c =
    let channels = c.unwrap-channels.result in
    let least : IsLeastCycle channel_cmp (Step c.in_ok-steps.steps) channels = rw c.unwrap-channels.ensures at c.in_ok-least_cycle.ensures in
    least_at (far_at c.args.graph.now c.args.numbers.now) c.in_ok-wires.wires.items c.args.rows.now c.in_ok-steps.steps c.in_ok-levels.levels.items c.in_ok-wires.ensures (rw c.deref.ensures.value at c.in_ok-steps.ensures) c.in_ok-levels.ensures channels least

pub returns-clause-ranked : goal.returns-clause-ranked
returns-clause-ranked c =
    let far = far_at c.args.graph.now c.args.numbers.now in
    let wires = c.in_ok-wires.wires.items in
    let rows = c.args.rows.now in
    let steps = c.in_ok-steps.steps in
    let levels = c.in_ok-levels.levels.items in
    let are : AreSteps wires rows None steps = rw c.deref.ensures.value at c.in_ok-steps.ensures in
    let all : (s : Channel) → IsSpot s → IsLinked steps s → level_at levels s ≡ None → ⊥ = rw (c.deref-2.ensures.value, c.if-not-are_all_ranked.false) at c.are_all_ranked.ensures in
    record {
      no_cycle = no_cycle_at far wires rows steps levels c.in_ok-wires.ensures are c.in_ok-levels.ensures all;
      ranked = ranks_at far wires rows steps levels c.in_ok-wires.ensures are c.in_ok-levels.ensures all;
    }

pub returns-clause-wires : goal.returns-clause-wires
returns-clause-wires c = c.in_ok-wires.ensures

pub returns-clause-exits : goal.returns-clause-exits
returns-clause-exits c = c.in_ok-steps.ensures.exits
