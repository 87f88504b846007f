use Rattle.std.proofs.Common.{subst}
use Rattle.fabric_routes.specs.declared.sender.Senders.{Senders}
use Rattle.fabric_routes.specs.declared.sender.Senders.TheVariants.{Quiet, One, Several}
use Rattle.fabric_routes.specs.Starts.{AreSendersOf, IsAmong}
use Rattle.fabric_routes.proofs.SenderLemmas.{sender_more}
use Rattle.fabric_routes.proofs.sender.with_sender.Goals as goal

pub returns-in-Quiet : goal.returns-in-Quiet
returns-in-Quiet c = λ fabric switch at are. sender_more fabric c.args.end switch Quiet at (subst (λ (s : Senders). AreSendersOf (IsAmong fabric c.args.end switch) s) c.in-Quiet.is are)

pub returns-in-One : goal.returns-in-One
returns-in-One c = λ fabric switch at are. sender_more fabric c.args.end switch (One c.in-One.field-0) at (subst (λ (s : Senders). AreSendersOf (IsAmong fabric c.args.end switch) s) c.in-One.is are)

pub returns-in-Several : goal.returns-in-Several
returns-in-Several c = λ fabric switch at are. sender_more fabric c.args.end switch Several at (subst (λ (s : Senders). AreSendersOf (IsAmong fabric c.args.end switch) s) c.in-Several.is are)
