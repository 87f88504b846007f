use Rattle.std.proofs.Common.{arith, rules}
use Rattle.fabric_read_tables.proofs.reading.Reading.new.Goals as goal

pub returns-clause-fit : goal.returns-clause-fit
returns-clause-fit c =
    let made = c.in_ok-new.ensures in
    record {
      switches = search rules;
      lids = search rules;
      most = search rules;
      within = tt;
      unowned = omega arith;
      reserved = λ s. made.none s 0;
    }
