use Rattle.table_script.proofs.FinalLemmas.{numbers_push}
use Rattle.table_script.proofs.table_reader.numbers_of.Goals as goal

pub switches-preserved : goal.switches-preserved
switches-preserved c = numbers_push c.args.draft.now c.switches.s c.number_of.result c.switches.numbers.items c.push.new.self.items c.switches.invariant c.number_of.ensures c.in_ok-push.ensures.items
