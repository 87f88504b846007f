use Rattle.std.proofs.Common.{◌≡◌, ◌∙◌, sym, subst}
use Rattle.std.proofs.lemmas.Option.{same_Some}
use Rattle.dep_check.specs.declared.channel.Channel.{Channel}
use Rattle.dep_check.specs.Search.{IsStep}
use Rattle.dep_check.proofs.WalkLemmas.{sees_as}
use Rattle.dep_check.proofs.walk.see_exit.Goals as goal

pub returns-clause-sees : goal.returns-clause-sees
returns-clause-sees c =
    let steps = c.args.steps.now in
    let next = c.in-Some.next in
    let step = (c.next.ensures.step next).0 c.in-Some.is in
    sees_as (λ s. s ≡ next) (IsStep steps c.args.spot c.args.exit) c.args.seen.now.items c.see.new.seen.items c.args.ahead.now.items c.see.new.ahead.items
    (λ s other. sym (same_Some next s (sym c.in-Some.is ∙ (c.next.ensures.step s).1 other)))
    (λ s same. subst (λ (x : Channel). IsStep steps c.args.spot c.args.exit x) (sym same) step)
    c.in_ok-see.ensures

pub returns-clause-leads : goal.returns-clause-leads
returns-clause-leads c = λ t. (c.in-Some.next, (c.next.ensures.step c.in-Some.next).0 c.in-Some.is)
