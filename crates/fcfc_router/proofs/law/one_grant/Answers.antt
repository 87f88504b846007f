use Rattle.fcfc_router.proofs.OneGrant.{one}
use Rattle.fcfc_router.proofs.law.one_grant.Goals as goal

pub returns : goal.returns
returns c = λ free old new other answer instead first second. one free old new other answer instead first second
