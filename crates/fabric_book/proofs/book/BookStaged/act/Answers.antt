-- What a call appends is the caller's.

use Rattle.fabric_book.proofs.DriveLemmas.{drive_appends, loads_append}
use Rattle.fabric_book.proofs.book.BookStaged.act.Goals as goal

pub returns-in-Load-clause-appends : goal.returns-in-Load-clause-appends
returns-in-Load-clause-appends c =
    let may = rw c.in-Load.is at c.requires.may_ask in
    loads_append _ c.in-Load.sheet c.load.result c.in-Load.s c.args._caller c.args.self.now.script c.args.self.now.events c.load.new.self.events may.0.caller_is c.load.ensures.reply

pub returns-in-Drive-clause-appends : goal.returns-in-Drive-clause-appends
returns-in-Drive-clause-appends c =
    drive_appends c.args.self.now.script c.requires.kept c.args.self.now.events c.drive-drive.result.0 c.drive-drive.result.1 c.args._caller c.drive-drive.new.self.events (rw c.in-Drive.is at c.requires.may_ask) c.drive-drive.ensures.did
