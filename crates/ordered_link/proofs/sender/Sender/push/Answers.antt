use Rattle.std.proofs.Common.{rules, subst, sym, refl}
use Rattle.ordered_link.specs.Sending.{IsKeptOf, with_pushed}
use Rattle.ordered_link.proofs.SendingLemmas.{kept_pushed, pushed_at_once, none_waits}
use Rattle.ordered_link.proofs.sender.Sender.push.Goals as goal

pub returns-clause-ok : goal.returns-clause-ok
returns-clause-ok c s kept =
    let kept_before = subst (λ v. IsKeptOf v s) (sym c.self.view_is) kept in
    pushed_at_once _ _ s c.args.body c.args.now (none_waits _ s kept_before (search rules))
    (c.more.ensures.sent (with_pushed c.args.body s) (kept_pushed _ _ s c.args.body kept_before refl refl c.in_ok-push_back.ensures.items))
