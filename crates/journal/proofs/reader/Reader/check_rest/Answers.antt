use Rattle.std.proofs.lemmas.Result.{err_from_is_err_and}
use Rattle.journal.proofs.ReadingLemmas.{on_end, on_more, on_none}
use Rattle.journal.proofs.reader.Reader.check_rest.Goals as goal

pub lines-init : goal.lines-init
lines-init c = on_none c.args.self.now

pub lines-preserved : goal.lines-preserved
lines-preserved c = on_more c.args.self.now c.lines.self c.next.new.self _ _ c.lines.invariant c.in-Some.is c.in_ok-next.ensures.next

pub returns-clause-journal : goal.returns-clause-journal
returns-clause-journal c = on_end c.args.self.now c.lines.self c.next.new.self _ c.lines.invariant c.in_default.is c.in_ok-next.ensures.next

pub returns-in_err-next-clause-fault : goal.returns-in_err-next-clause-fault
returns-in_err-next-clause-fault c = λ script bytes events has.
    let p = err_from_is_err_and c.from_residual.result c.from_residual.ensures.1 in
    let so_far = c.lines.invariant script bytes events has in
    rw (p.1, p.2) (c.in_err-next.ensures.fault script bytes _ so_far.has)
