use Rattle.std.proofs.Common.{◌∙◌, ap, refl, subst, sym, ℕ, List}
use Rattle.fabric_tables.specs.Cells.{tables_of}
use Rattle.fabric_lane_tables.specs.Lanes.{lanes_of}
use Rattle.fabric_lane_tables.specs.InUse.{levels_in_use}
use Rattle.fabric_print_lanes.specs.declared.answer.LaneLost.{LaneLost}
use Rattle.fabric_print_lanes.specs.declared.answer.LaneStep.{LaneStep}
use Rattle.fabric_judge_commands.specs.Names.{names_for}
use Rattle.fabric_lane_verdict.specs.LaneJudgements.{IsLaneChannelCount}
use Rattle.fabric_lane_commands.specs.LaneJudged.{lane_mentioned}
use Rattle.fabric_lane_commands.proofs.answer.answer_for.Goals as goal

pub returns-clause-answer : goal.returns-clause-answer
returns-clause-answer c =
    let input = c.args.input.now in
    let text = ap (λ (bytes : List ℕ). names_for bytes (lane_mentioned c.mute_for-mute.result c.deref-2.result.now c.deref-3.result.now)) c.deref.ensures.value in
    let cycle = ap (λ (steps : List LaneStep). names_for input.topology.text.items (lane_mentioned c.mute_for-mute.result steps c.deref-3.result.now)) c.deref-2.ensures.value in
    let lost = ap (λ (routes : List LaneLost). names_for input.topology.text.items (lane_mentioned c.mute_for-mute.result c.in_ok-cycle.cycle.items routes)) c.deref-3.ensures.value in
    record {
      read = c.read_of.ensures c.count_links-links.ensures.links;
      traffic_is = c.word_of.ensures;
      lanes = c.count.ensures.lanes;
      asked_is = refl;
      counts = c.in_ok-counts.counts;
      counted = c.in_ok-counts.ensures;
      routes = c.routes_of.ensures;
      silent = c.in_ok-silent.ensures;
      mute = c.mute_for-mute.ensures;
      channels = subst (λ (n : ℕ). IsLaneChannelCount input.topology.fabric n c.args.judged.now.channels) (sym c.count.ensures.count) c.requires.judged.channels;
      dependencies = c.requires.judged.dependencies;
      loop = c.cycle_of.result.now;
      is_loop = c.cycle_of.ensures input.topology.fabric (tables_of input.tables.cells) (lanes_of input.lanes) c.args.traffic (levels_in_use input.levels) input.lanes.count c.requires.judged;
      cycle = c.in_ok-cycle.ensures;
      losses = c.losses_of.ensures;
      lost = c.in_ok-lost.ensures;
      unset = c.args.input.now.topology.counted;
      names = c.in_ok-names.ensures ∙ text ∙ cycle ∙ lost;
    }
