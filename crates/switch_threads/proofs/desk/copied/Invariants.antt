-- The rows so far.

use Rattle.std.proofs.Common.{◌≡◌, take}
use Rattle.switch_threads.proofs.desk.copied.Given as goal

abbrev pub invariant-rows : goal.invariant-rows
invariant-rows l = l.copy.items ≡ take l.row-index l.rows
