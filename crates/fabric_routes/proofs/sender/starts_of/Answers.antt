use Rattle.std.proofs.Common.{subst}
use Rattle.fabric_routes.specs.declared.sender.Senders.{Senders}
use Rattle.fabric_routes.specs.Starts.{AreSendersOf, IsHeardAt}
use Rattle.fabric_routes.proofs.SenderLemmas.{no_start, one_starts, quiet_starts, several_start}
use Rattle.fabric_routes.proofs.sender.starts_of.Goals as goal

pub returns-then-targets-eq0 : goal.returns-then-targets-eq0
returns-then-targets-eq0 c = λ audience switch _. no_start c.args.fabric.now c.args.block c.args.targets audience switch c.if-targets-eq0.true

pub returns-in-Quiet : goal.returns-in-Quiet
returns-in-Quiet c = λ audience switch are. quiet_starts c.args.fabric.now c.args.block c.args.targets audience switch (subst (λ (s : Senders). AreSendersOf (IsHeardAt c.args.fabric.now audience switch) s) c.in-Quiet.is are)

pub returns-in-One : goal.returns-in-One
returns-in-One c = λ audience switch are. one_starts c.args.fabric.now c.args.block c.args.targets audience switch c.in-One.who (subst (λ (s : Senders). AreSendersOf (IsHeardAt c.args.fabric.now audience switch) s) c.in-One.is are) c.requires.targets c.owned_by.result c.fresh_of.result c.owned_by.ensures c.fresh_of.ensures

pub returns-in-Several : goal.returns-in-Several
returns-in-Several c = λ audience switch are. several_start c.args.fabric.now c.args.block c.args.targets audience switch (subst (λ (s : Senders). AreSendersOf (IsHeardAt c.args.fabric.now audience switch) s) c.in-Several.is are)
