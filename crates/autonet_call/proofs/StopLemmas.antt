-- Why there is no text to be written.
use Rattle.std.proofs.Common.{◌≡◌, ℕ}
use Rattle.std.specs.Prelude.{IfErr, Result, Ok, Err}
use Rattle.std.specs.Result.{IsErrAnd}
use Rattle.outside.specs.Told.{Seen}
use Rattle.common_call.specs.declared.input.Unread.{Unread}
use Rattle.common_call.specs.Inputs.{IsUnread}
use Rattle.autonet_call.specs.declared.status.Status.{Status}
use Rattle.autonet_call.specs.Answer.{IsStop, Refuses, unread, unread_as}

-- an input that was not read stops a command with its status
pub unread_stops : {T : Type 0} (result : Result T Status) (why : Unread) (limit : ℕ) (refuses : Refuses) (old new : Seen) → IsErrAnd result (λ status. status ≡ unread_as why) → IsUnread limit old new why → IfErr result (IsStop limit refuses old new)
unread_stops (Ok found) why limit refuses old new is input = tt
unread_stops (Err status) why limit refuses old new is input = unread why is input
