-- As many buffers as there were turns.

use Rattle.std.proofs.Common.{◌≡◌, length}
use Rattle.fabric_book.proofs.net.buffers.Given as goal

abbrev pub invariant-buffers : goal.invariant-buffers
invariant-buffers l = length l.all.items ≡ l.counter
