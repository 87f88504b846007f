use Rattle.std.proofs.Common.{arith, ◌∙◌, sym, ap}
use Rattle.an_base.specs.Values.{EntryOf}
use Rattle.switch_numbering.proofs.Counting.{proposed_at}
use Rattle.switch_numbering.proofs.numbering.is_proposed_by.Goals as goal

pub returns-then-entry-number : goal.returns-then-entry-number
returns-then-entry-number c = sym (proposed_at c.args.entries.now c.args.number c.entries.entry-index c.entry-item.result (omega arith) (ap (λ (e : EntryOf). e.proposed) (sym c.entry-item.is ∙ sym c.entry.view_is) ∙ c.if-entry-number.true))
