-- The next work of a switch.

use Rattle.std.proofs.Common.{◌∙◌, ap, arith, slice_index_or, vec_capacity}
use Rattle.fabric_book.proofs.BookLemmas.{below_at, boot_fits, samples_at, taken_long, takes_at, work_at}
use Rattle.fabric_book.proofs.book.Book.take.Goals as goal

pub index-requires : goal.index-requires
index-requires c =
    let b = c.self.inside in
    let below = below_at b.fabric b.entries.items b.taken.items (vec_capacity b.entries) c.self.invariant c.args.self.now c.self.view_is c.args.s c.requires.within in
    let long = taken_long b.fabric b.entries.items b.taken.items (vec_capacity b.entries) c.self.invariant in
    omega (arith, c.from.ensures, below, long, b.taken.ok.0)

pub work-work-requires-clause-boot : goal.work-work-requires-clause-boot
work-work-requires-clause-boot c =
    let b = c.self.inside in
    boot_fits b.fabric b.entries.items b.taken.items (vec_capacity b.entries) c.args.s c.self.invariant (below_at b.fabric b.entries.items b.taken.items (vec_capacity b.entries) c.self.invariant c.args.self.now c.self.view_is c.args.s c.requires.within)

pub begin_work-line-requires-clause-next : goal.begin_work-line-requires-clause-next
begin_work-line-requires-clause-next c =
    let b = c.self.inside in
    work_at b.fabric b.entries.items b.taken.items (vec_capacity b.entries) c.self.invariant c.args.self.now c.self.view_is c.args.s c.index.result.now c.work-work.result c.work-work.ensures c.requires.within c.requires.empty

pub begin_work-line-requires-clause-samples : goal.begin_work-line-requires-clause-samples
begin_work-line-requires-clause-samples c =
    let b = c.self.inside in
    samples_at b.fabric b.entries.items b.taken.items (vec_capacity b.entries) c.self.invariant c.args.self.now c.self.view_is c.args.s c.index.result.now c.work-work.result c.work-work.ensures

pub returns-clause-work : goal.returns-clause-work
returns-clause-work c =
    let b = c.self.inside in
    takes_at b.fabric b.entries.items b.taken.items (vec_capacity b.entries) c.self.invariant c.args.self.now c.self.view_is c.args.s c.index.result.now c.work-work.result c.begin_work-line.new.out c.placed.result c.begin_work-line.result c.begin_work-line.new.self c.work-work.ensures
    (c.index.ensures ∙ ap (λ k. slice_index_or b.taken.items k c.index.result.now) c.from.ensures) c.requires.within c.begin_work-line.ensures.event c.begin_work-line.ensures.bytes c.placed.ensures c.begin_work-line.ensures.told
