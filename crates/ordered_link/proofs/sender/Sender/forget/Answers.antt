use Rattle.std.proofs.Common.{rules, ◌≤◌, ◌∙◌, ◌-◌, subst, sym, refl, ap, arith, take, length, length-take}
use Rattle.ordered_link.specs.Sending.{IsKeptOf}
use Rattle.ordered_link.proofs.SendingLemmas.{kept_forgotten, rotated}
use Rattle.ordered_link.proofs.sender.Sender.forget.Goals as goal

pub returns : goal.returns
returns c s kept =
    let least = subst (λ v. c.args.count ≤ length v.sent) (sym c.self.view_is) c.requires in
    let o = c.self.inside.outstanding in
    let e = length-take o c.self.inside.sent in
    kept_forgotten _ _ s c.args.count (subst (λ v. IsKeptOf v s) (sym c.self.view_is) kept) least refl
    (ap (take (o - c.args.count)) c.rotate_left.ensures.after ∙ rotated c.args.count o c.self.inside.sent (omega (arith, e, least)) (search rules))
    c.drop_front.ensures
