-- The lines so far are told.

use Rattle.std.proofs.Common.{take}
use Rattle.net_world.specs.Accounts.{AccountOf, placed}
use Rattle.fabric_book.specs.Accounts.{IsAccount, with_lines}
use Rattle.fabric_book.proofs.account.Account.tell_lines.Given as goal

abbrev pub invariant-lines : goal.invariant-lines
invariant-lines l = (told : AccountOf) → IsAccount told l.initial.self
    → IsAccount (with_lines (placed l.event (take l.line-index l.lines)) told) l.self
