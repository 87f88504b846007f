use Rattle.fcfc_router.proofs.AskedLaws.{asked_for}
use Rattle.fcfc_router.proofs.law.granted_what_it_asked_for.Goals as goal

pub returns : goal.returns
returns c = λ most free calls grant end leads. asked_for most free calls grant end leads
