-- What the driver does next may come, and is no worker's; and the history settles soon.

use Rattle.std.proofs.Common.{◌≡◌, ◌∙◌, ap, subst, sym, vec_capacity}
use Rattle.net_state.specs.declared.ending.Ending.TheVariants as ending
use Rattle.net_state.specs.declared.work.Drive.TheVariants as drive
use Rattle.net_state.specs.Choices.{next_drive}
use Rattle.net_world.specs.Histories.{HistoryOf, fabric_of}
use Rattle.net_settling.specs.Settling.{SettlesSoon}
use Rattle.net_settling.proofs.Whole.{settles_soon}
use Rattle.fabric_book.proofs.BookLemmas.{drives_by, fabric_at, good_at, history_at}
use Rattle.fabric_book.proofs.DriveLemmas.{drive_lawful, driven, driven_soon, unsettled_late}
use Rattle.fabric_book.proofs.WorldFacts.{drive_may_come}
use Rattle.fabric_book.proofs.book.Book.drive.Goals as goal

pub drive_by-line-requires-clause-lawful : goal.drive_by-line-requires-clause-lawful
drive_by-line-requires-clause-lawful c =
    let b = c.self.inside in
    let h = c.args.self.now in
    let is : next_drive (fabric_of h) ≡ drive.Did c.in-Did.event = ap next_drive (sym (fabric_at b.fabric b.entries.items b.taken.items (vec_capacity b.entries) c.self.invariant c.args.self.now c.self.view_is)) ∙ sym c.drive-drive.ensures ∙ c.in-Did.is in
    drive_lawful (fabric_of h) c.in-Did.event (drive_may_come h.script (good_at b.fabric b.entries.items b.taken.items (vec_capacity b.entries) c.self.invariant c.args.self.now c.self.view_is) h.events) is

pub drive_by-line-requires-clause-driver : goal.drive_by-line-requires-clause-driver
drive_by-line-requires-clause-driver c =
    let b = c.self.inside in
    let h = c.args.self.now in
    let is : next_drive (fabric_of h) ≡ drive.Did c.in-Did.event = ap next_drive (sym (fabric_at b.fabric b.entries.items b.taken.items (vec_capacity b.entries) c.self.invariant c.args.self.now c.self.view_is)) ∙ sym c.drive-drive.ensures ∙ c.in-Did.is in
    driven (fabric_of h) c.in-Did.event is

pub returns-clause-settles : goal.returns-clause-settles
returns-clause-settles c =
    let b = c.self.inside in
    let h = c.args.self.now in
    let kept = good_at b.fabric b.entries.items b.taken.items (vec_capacity b.entries) c.self.invariant h c.self.view_is in
    let lawful = history_at b.fabric b.entries.items b.taken.items (vec_capacity b.entries) c.self.invariant h c.self.view_is in
    let is : next_drive (fabric_of h) ≡ drive.Did c.in-Did.event = ap next_drive (sym (fabric_at b.fabric b.entries.items b.taken.items (vec_capacity b.entries) c.self.invariant h c.self.view_is)) ∙ sym c.drive-drive.ensures ∙ c.in-Did.is in
    let may = drive_lawful (fabric_of h) c.in-Did.event (drive_may_come h.script kept h.events) is in
    subst (λ (x : HistoryOf). SettlesSoon x.script x.events) (sym c.drive_by-line.ensures.made) (driven_soon h kept lawful c.in-Did.event may)

pub returns-in_default-clause-settles : goal.returns-in_default-clause-settles
returns-in_default-clause-settles c =
    let b = c.self.inside in
    let h = c.args.self.now in
    settles_soon h.script (good_at b.fabric b.entries.items b.taken.items (vec_capacity b.entries) c.self.invariant h c.self.view_is) h.events
    (history_at b.fabric b.entries.items b.taken.items (vec_capacity b.entries) c.self.invariant h c.self.view_is)

pub returns-in_default-clause-in_time : goal.returns-in_default-clause-in_time
returns-in_default-clause-in_time c =
    let b = c.self.inside in
    let h = c.args.self.now in
    let kept = good_at b.fabric b.entries.items b.taken.items (vec_capacity b.entries) c.self.invariant h c.self.view_is in
    let lawful = history_at b.fabric b.entries.items b.taken.items (vec_capacity b.entries) c.self.invariant h c.self.view_is in
    λ ended. unsettled_late h kept lawful (ap next_drive (sym (fabric_at b.fabric b.entries.items b.taken.items (vec_capacity b.entries) c.self.invariant h c.self.view_is)) ∙ sym c.drive-drive.ensures ∙ ended)

pub returns-clause-did : goal.returns-clause-did
returns-clause-did c =
    let b = c.self.inside in
    let h = c.args.self.now in
    drives_by h c.drive_by-line.new.self c.drive-drive.result c.in-Did.event c.placed.result c.drive_by-line.result (c.drive-drive.ensures ∙ ap next_drive (fabric_at b.fabric b.entries.items b.taken.items (vec_capacity b.entries) c.self.invariant h c.self.view_is))
    c.in-Did.is c.drive_by-line.ensures.made c.placed.ensures c.drive_by-line.ensures.told

pub returns-clause-in_time : goal.returns-clause-in_time
returns-clause-in_time c = λ ended. absurd (let clash : drive.Did c.in-Did.event ≡ drive.Ended ending.Unsettled = sym c.in-Did.is ∙ ended in cc)
