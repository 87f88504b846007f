use Rattle.std.proofs.Common.{rules, subst, sym, ap, arith}
use Rattle.ordered_link.specs.Sending.{SenderOf, IsKeptOf, forget}
use Rattle.ordered_link.proofs.SendingLemmas.{counted, outstanding}
use Rattle.ordered_link.proofs.sender.Sender.on_ack.Goals as goal

pub returns-clause-sent : goal.returns-clause-sent
returns-clause-sent c s kept =
    let kept_before = subst (λ v. IsKeptOf v s) (sym c.self.view_is) kept in
    let acked = ap (λ (v : SenderOf). v.acked) c.forget.view_is in
    let kept_after = subst (λ n. IsKeptOf c.forget-2.new.self (forget n s)) (omega (arith, kept.acked, acked, kept_before.acked, c.if-n-self.false)) (c.forget-2.ensures s kept) in
    counted _ _ s c.args.n c.args.now (outstanding _ s c.args.n kept_before (omega (arith, c.if-n-self.false)) (search rules)) (c.more.ensures.sent (forget c.args.n s) kept_after)
