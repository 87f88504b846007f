use Rattle.std.proofs.lemmas.Result.{on_ok_weaker}
use Rattle.fabric_print.proofs.RowLemmas.{verified_is}
use Rattle.fabric_print.proofs.ranks.push_verified.Goals as goal

pub returns : goal.returns
returns c = on_ok_weaker c.push_risen.result (verified_is c.as_bytes.result.now c.args.answer.now.traffic.now c.args.answer.now.rise c.args.text.now.items c.push_row.new.text.items c.push_judged.new.text.items c.push_risen.new.text.items c.as_bytes.ensures.value c.in_ok-push_row.ensures c.in_ok-push_judged.ensures) c.push_risen.ensures
