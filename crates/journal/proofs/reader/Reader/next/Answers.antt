use Rattle.std.proofs.Common.{◌∙◌, codes, subst, sym}
use Rattle.std.proofs.lemmas.Slice.Eq.{bytes_eq-Decides}
use Rattle.journal.specs.Reading.{HasRead}
use Rattle.journal.proofs.ReadLemmas.{differing}
use Rattle.journal.proofs.ReadingLemmas.{has_end, has_refused}
use Rattle.journal.proofs.reader.Reader.next.Goals as goal

pub returns-then-eq-clause-next : goal.returns-then-eq-clause-next
returns-then-eq-clause-next c = λ script bytes events has.
    has_end script bytes events _ c.in-Some.first.now c.in-Some.after.now c.in-Some.ensures.some
    ((bytes_eq-Decides c.in-Some.first.now c.as_slice.result.now).0 (sym c.if-eq.ensures) ∙ c.as_slice.ensures)
    (subst (HasRead script bytes events) (sym c.self.view_is) has)

pub returns-in-Err-clause-fault : goal.returns-in-Err-clause-fault
returns-in-Err-clause-fault c = λ script bytes events has. rw c.at.ensures
    (has_refused script bytes events _ c.in-Some.first.now c.in-Some.after.now c.in-Err.stop c.in-Some.ensures.some
    (differing c.in-Some.first.now c.as_slice.result.now (codes "end") c.eq.result c.eq.ensures c.if-eq.false c.as_slice.ensures)
    c.in-Err.ensures (subst (HasRead script bytes events) (sym c.self.view_is) has))
