-- The line is told, if there is one.

use Rattle.fabric_book.proofs.account.Account.tell.Goals as goal

pub returns-in-Some : goal.returns-in-Some
returns-in-Some c = rw c.in-Some.is c.push.ensures
