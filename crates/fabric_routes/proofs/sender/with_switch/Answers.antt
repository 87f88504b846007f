use Rattle.std.proofs.Common.{subst}
use Rattle.fabric_routes.specs.declared.audience.Audience.TheVariants.{Hosts}
use Rattle.fabric_routes.specs.declared.sender.Senders.{Senders}
use Rattle.fabric_routes.specs.Starts.{AreSendersOf, IsHeardAt}
use Rattle.fabric_routes.proofs.SenderLemmas.{with_none, with_one, with_several}
use Rattle.fabric_routes.proofs.sender.with_switch.Goals as goal

pub returns-in-Quiet : goal.returns-in-Quiet
returns-in-Quiet c = λ fabric low are. with_none fabric c.args.switch low (subst (λ (s : Senders). AreSendersOf (IsHeardAt fabric Hosts c.args.switch) s) c.in-Quiet.is are)

pub returns-in-One : goal.returns-in-One
returns-in-One c = λ fabric low are. with_one fabric c.args.switch c.in-One.field-0 low (subst (λ (s : Senders). AreSendersOf (IsHeardAt fabric Hosts c.args.switch) s) c.in-One.is are)

pub returns-in-Several : goal.returns-in-Several
returns-in-Several c = λ fabric low are. with_several fabric c.args.switch (subst (λ (s : Senders). AreSendersOf (IsHeardAt fabric Hosts c.args.switch) s) c.in-Several.is are)
