-- The numbers of the return codes in C.
use Rattle.std.specs.Prelude.{ℕ}
use Rattle.switch_c.specs.declared.status.Status.{Status}
use Rattle.switch_c.specs.declared.status.Status.TheVariants.{Done, Argument, OutOfMemory, Spent, Over, NotDue, NotStarted, Started, NoMore, Room}

abbrev pub code_of : Status → ℕ
code_of Done = 0
code_of Argument = 1
code_of OutOfMemory = 2
code_of Spent = 3
code_of Over = 4
code_of NotDue = 5
code_of NotStarted = 6
code_of Started = 7
code_of NoMore = 8
code_of Room = 9
