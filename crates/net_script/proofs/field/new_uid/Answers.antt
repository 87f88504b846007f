use Rattle.net_script.proofs.FieldLemmas.{uid_twice, uid_good}
use Rattle.net_script.proofs.field.new_uid.Goals as goal

pub returns-then-has_uid-clause-uid : goal.returns-then-has_uid-clause-uid
returns-then-has_uid-clause-uid c = uid_twice c.args.script.now c.args.word.now c.in-Some.uid c.wiring.result.now c.has_uid.result c.in-Some.ensures.uid.0 c.in-Some.ensures.uid.1 c.wiring.ensures.wires c.has_uid.ensures c.if-has_uid.true

pub returns-clause-uid : goal.returns-clause-uid
returns-clause-uid c = (uid_good c.args.script.now c.args.word.now c.in-Some.uid c.wiring.result.now c.has_uid.result c.in-Some.ensures.uid.0 c.in-Some.ensures.uid.1 c.wiring.ensures.wires c.has_uid.ensures c.if-has_uid.false, c.in-Some.ensures.uid.1)
