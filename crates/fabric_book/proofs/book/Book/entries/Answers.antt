-- There is room for what is in hand.

use Rattle.std.proofs.Common.{vec_capacity}
use Rattle.fabric_book.proofs.BookLemmas.{room_at}
use Rattle.fabric_book.proofs.book.Book.entries.Goals as goal

pub returns-clause-room : goal.returns-clause-room
returns-clause-room c = let b = c.self.inside in room_at b.fabric b.entries.items b.taken.items (vec_capacity b.entries) c.self.invariant c.args.self.now c.self.view_is
