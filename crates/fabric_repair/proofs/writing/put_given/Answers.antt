use Rattle.fabric_repair.proofs.CopyLemmas.{put_filled, put_kept, put_some}
use Rattle.fabric_repair.proofs.writing.put_given.Goals as goal

pub returns-clause-kept : goal.returns-clause-kept
returns-clause-kept c = put_kept c.args.made.now c.put.new.self c.args.switch c.args.lid c.args.port c.put.result c.put.ensures.put c.put.ensures.kept

pub returns-clause-put : goal.returns-clause-put
returns-clause-put c = put_some c.args.made.now c.put.new.self c.args.switch c.args.lid c.args.port c.put.result c.put.ensures.put c.put.ensures.other c.put.ensures.kept

pub returns-clause-filled : goal.returns-clause-filled
returns-clause-filled c = put_filled c.args.made.now c.put.new.self c.args.switch c.args.lid c.args.port c.put.result c.put.ensures.put c.put.ensures.kept
