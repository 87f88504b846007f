use Rattle.std.proofs.Common.{◌∙◌}
use Rattle.report.proofs.BeliefLemmas.{names_told}
use Rattle.report.proofs.naming.names.Goals as goal

pub returns-clause-names : goal.returns-clause-names
returns-clause-names c =
    let told = c.in_ok-tell.ensures.told in
    let end = c.in_ok-tell.field-0 in
    record {
      journal = told.journal;
      is_journal = told.is_journal;
      names = record {
        legal = (end, told.is_told.legal);
        says = told.is_told.says ∙ names_told c.args.script.now told.journal end;
      };
    }
