-- Nothing is told of a tick.

use Rattle.std.proofs.Common.{refl}
use Rattle.net_world.specs.Lines.{lines_of}
use Rattle.fabric_book.proofs.book.Book.drive_by.Goals as goal

pub returns-in-Tick-clause-told : goal.returns-in-Tick-clause-told
unfolding lines_of
returns-in-Tick-clause-told c = rw c.in-Tick.is refl
