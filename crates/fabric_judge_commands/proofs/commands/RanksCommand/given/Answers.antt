use Rattle.std.proofs.Common.{◌∙◌, ap, sym, subst, inl, inr, ℕ, List}
use Rattle.std.proofs.lemmas.Result.{IfOk-weaker}
use Rattle.fabric_tables.specs.Cells.{tables_of}
use Rattle.fabric_verdict.specs.Verdict.{IsVerdict}
use Rattle.fabric_print.specs.declared.ranks.Rank.{Rank}
use Rattle.fabric_print.specs.Ranks.{ranks_text}
use Rattle.fabric_read_ranks.specs.Ranks.{IsRanksText}
use Rattle.fabric_judge_commands.specs.Certified.{AreSmall, ranks_of}
use Rattle.fabric_judge_commands.proofs.ReadLemmas.{read_back, read_fall, read_told}
use Rattle.fabric_judge_commands.proofs.EndLemmas.{cycle_status, is_ending}
use Rattle.fabric_judge_commands.proofs.commands.RanksCommand.given.Goals as goal

pub returns-in-Ranks-clause-given : goal.returns-in-Ranks-clause-given
returns-in-Ranks-clause-given c =
    let fabric = c.args.topology.now.fabric in
    let tables = tables_of c.args.tables.now.cells in
    let ranks = c.in-Ranks.ranks.items in
    let is = c.in_ok-told-in-Ranks.ensures.fabric in
    let small = subst (AreSmall fabric) c.deref.ensures.value c.in_ok-told-in-Ranks.ensures.small in
    let has = subst (IsVerdict fabric tables c.args.self.now.traffic) c.in-Ranks.is c.in_ok-judged.ensures.verdict in
    let says = c.in_ok-print_ranks-in-Ranks.ensures ∙ ap (λ (told : List Rank). ranks_text told) (c.deref-in-Ranks.ensures.value ∙ c.in_ok-told-in-Ranks.ensures.told ∙ ap (λ (ranks : List ℕ). ranks_of fabric ranks) c.deref.ensures.value) in
    inl (record {
      ends = c.status_of.ensures fabric tables c.args.self.now.traffic c.in_ok-judged.ensures;
      ranks = c.in-Ranks.ranks.items;
      has = has;
      says = says;
      told = read_told fabric is ranks small;
      reads = subst (λ (text : List ℕ). IsRanksText fabric text (read_told fabric is ranks small)) (sym says) (read_back fabric is ranks small).reads;
      falls = read_fall fabric is ranks small tables c.args.self.now.traffic has;
    })

pub returns-in-Ranks-clause-ends : goal.returns-in-Ranks-clause-ends
returns-in-Ranks-clause-ends c =
    let fabric = c.args.topology.now.fabric in
    let tables = tables_of c.args.tables.now.cells in
    is_ending fabric tables c.args.self.now.traffic c.status_of.result (c.status_of.ensures fabric tables c.args.self.now.traffic c.in_ok-judged.ensures)

pub returns-clause-given : goal.returns-clause-given
returns-clause-given c =
    let fabric = c.args.topology.now.fabric in
    let tables = tables_of c.args.tables.now.cells in
    let traffic = c.args.self.now.traffic in
    let is = subst (IsVerdict fabric tables traffic) c.in-Cycle.is c.in_ok-judged.ensures.verdict in
    IfOk-weaker c.given_judged.result _ _ (λ given told. inr (cycle_status fabric tables traffic c.in-Cycle.channels.items is given.status told.ends, told)) c.given_judged.ensures.given
