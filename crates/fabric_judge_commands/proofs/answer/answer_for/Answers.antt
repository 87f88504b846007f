use Rattle.std.proofs.Common.{◌∙◌, ap, ℕ, List}
use Rattle.fabric_tables.specs.Cells.{tables_of}
use Rattle.fabric_print.specs.declared.answer.Lost.{Lost}
use Rattle.fabric_print.specs.declared.answer.LoopStep.{LoopStep}
use Rattle.fabric_judge_commands.specs.Names.{mentioned, names_for}
use Rattle.fabric_judge_commands.proofs.answer.answer_for.Goals as goal

pub returns : goal.returns
returns c =
    let topology = c.args.topology.now in
    let text = ap (λ (bytes : List ℕ). names_for bytes (mentioned c.deref-2.result.now c.deref-3.result.now)) c.deref.ensures.value in
    let cycle = ap (λ (steps : List LoopStep). names_for topology.text.items (mentioned steps c.deref-3.result.now)) c.deref-2.ensures.value in
    let lost = ap (λ (routes : List Lost). names_for topology.text.items (mentioned c.in_ok-cycle.cycle.items routes)) c.deref-3.ensures.value in
    record {
      read = c.read_of.ensures c.count_links-links.ensures.links;
      traffic = c.word_of.ensures;
      counts = c.in_ok-counts.counts;
      counted = c.in_ok-counts.ensures.counts;
      routes = c.routes_of.ensures;
      channels = c.count_links-links.ensures.channels;
      dependencies = c.requires.judged.dependencies;
      loop = c.cycle_of.result.now;
      is_loop = c.cycle_of.ensures topology.fabric (tables_of c.args.tables.now.cells) c.args.traffic c.requires.judged;
      cycle = c.in_ok-cycle.ensures;
      losses = c.losses_of.ensures;
      lost = c.in_ok-lost.ensures;
      unset = c.args.topology.now.counted;
      names = c.in_ok-names.ensures ∙ text ∙ cycle ∙ lost;
    }
