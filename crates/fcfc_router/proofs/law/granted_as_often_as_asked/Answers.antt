use Rattle.std.proofs.Common.{arith, ◌≡◌, ◌+◌, []}
use Rattle.fcfc_router.proofs.CountLaws.{balance, once}
use Rattle.fcfc_router.specs.Calls.{asked, granted, waits}
use Rattle.fcfc_router.proofs.law.granted_as_often_as_asked.Goals as goal

pub returns : goal.returns
returns c = λ most packet calls end leads.
    let all : asked packet calls + 0 ≡ granted packet calls + waits packet end = balance most packet calls [] end leads in
    (omega arith, once most packet calls [] end leads (omega arith))
