use Rattle.std.proofs.lemmas.Result.{err_from_is_err_and}
use Rattle.replay.proofs.ReplayLemmas.{refused_fault}
use Rattle.report.proofs.listener.tell.Goals as goal

-- the first line is at fault
pub returns-in_err-reader-clause-refused : goal.returns-in_err-reader-clause-refused
returns-in_err-reader-clause-refused g c =
    let p = err_from_is_err_and c.from_residual.result c.from_residual.ensures.1 in
    rw (p.1, p.2) (refused_fault c.args.script.now c.args.bytes.now c.in_err-reader.field-0.0 c.in_err-reader.ensures.fault)

-- the reader goes on from there
pub returns-clause-told : goal.returns-clause-told
returns-clause-told g c = c.tell_read.ensures.told c.args.bytes.now c.in_ok-reader.ensures.begun

pub returns-clause-refused : goal.returns-clause-refused
returns-clause-refused g c = c.tell_read.ensures.refused c.args.bytes.now c.in_ok-reader.ensures.begun
