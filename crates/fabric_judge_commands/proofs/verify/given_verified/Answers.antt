use Rattle.std.proofs.Common.{◌∙◌, ap, ℕ, List, Option}
use Rattle.fabric_tables.specs.Cells.{tables_of}
use Rattle.fabric_print.specs.declared.ranks.Risen.{Risen}
use Rattle.fabric_print.specs.Ranks.{verified_text}
use Rattle.fabric_judge_commands.specs.Words.{traffic_word}
use Rattle.fabric_judge_commands.proofs.EndLemmas.{is_ending_by}
use Rattle.fabric_judge_commands.proofs.verify.given_verified.Goals as goal

pub returns-clause-given : goal.returns-clause-given
returns-clause-given c bytes told = record {
  ranks = c.args.ranks.now;
  told = told;
  found = c.in_ok-found.found;
  verified = c.in_ok-found.ensures;
  ends = c.status_of.ensures c.args.topology.now.fabric (tables_of c.args.tables.now.cells) c.args.traffic c.args.ranks.now c.in_ok-found.ensures;
  says = c.in_ok-print_verified.ensures ∙ ap (λ (word : List ℕ). verified_text word c.told_rise.result) c.word_of.ensures ∙ ap (λ (rise : Option Risen). verified_text (traffic_word c.args.traffic) rise) c.told_rise.ensures;
}

pub returns-clause-ends : goal.returns-clause-ends
returns-clause-ends c =
    let fabric = c.args.topology.now.fabric in
    let tables = tables_of c.args.tables.now.cells in
    is_ending_by fabric tables c.args.traffic c.in_ok-found.found.rise c.status_of.result (c.status_of.ensures fabric tables c.args.traffic c.args.ranks.now c.in_ok-found.ensures)
