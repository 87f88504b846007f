use Rattle.std.proofs.Common.{refl}
use Rattle.fabric_call.specs.Answer.{WasFound, cut, stopped}
use Rattle.fabric_call.proofs.command.status_of.Goals as goal

pub returns-in-Err : goal.returns-in-Err
returns-in-Err g c = stopped (rw c.in-Err.is refl) refl

pub returns : goal.returns
returns g c =
    let found : WasFound c.args.found c.in-Ok.given.status c.deref.result.now = rw c.in-Ok.is (refl, c.deref.ensures.value) in
    cut refl (record { end = c.in-Ok.given.status; written = c.deref.result.now; given = found; gains = c.in-Err-write_all.ensures.prefix; failed = c.in-Err-write_all.ensures.fault })
