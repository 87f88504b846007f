use Rattle.std.proofs.Common.{◌≡◌, ◌∙◌, sym, ap, ℕ, List, Option, Some, None}
use Rattle.std.proofs.lemmas.Option.{same_Some}
use Rattle.dep_check.proofs.CycleLemmas.{behind_same, behind_first, behind_less}
use Rattle.dep_check.specs.declared.channel.Channel.{Channel}
use Rattle.dep_check.specs.Tables.{level_at}
use Rattle.dep_check.proofs.cycle.lesser.Goals as goal

pub returns-in-Some-best : goal.returns-in-Some-best
returns-in-Some-best c =
    let next = c.in-Some.next in
    rw c.min.ensures (behind_less c.args.steps.now c.args.levels.now c.args.channel next c.args.exit c.in-Some-best.best c.in-Some-level_of.level ((c.next.ensures.step next).0 c.in-Some.is) (λ b step. same_Some next b (sym c.in-Some.is ∙ (c.next.ensures.step b).1 step)) (sym c.level_of.ensures ∙ c.in-Some-level_of.is) (rw c.in-Some-best.is at c.requires.before))

pub returns-in-None : goal.returns-in-None
returns-in-None c =
    let next = c.in-Some.next in
    behind_first c.args.steps.now c.args.levels.now c.args.channel next c.args.exit c.in-Some-level_of.level ((c.next.ensures.step next).0 c.in-Some.is) (λ b step. same_Some next b (sym c.in-Some.is ∙ (c.next.ensures.step b).1 step)) (sym c.level_of.ensures ∙ c.in-Some-level_of.is) (rw c.in-None.is at c.requires.before)

pub returns-in_default-level_of : goal.returns-in_default-level_of
returns-in_default-level_of c =
    let next = c.in-Some.next in
    behind_same c.args.steps.now c.args.levels.now c.args.channel c.args.exit c.args.best (λ b m step level. none_here c.args.levels.now next b m (same_Some next b (sym c.in-Some.is ∙ (c.next.ensures.step b).1 step)) (sym c.level_of.ensures ∙ c.in_default-level_of.is) level) c.requires.before
  where
    none_here : (levels : List (Option ℕ)) (a b : Channel) (m : ℕ) → a ≡ b → level_at levels a ≡ None → level_at levels b ≡ Some m → ⊥
    none_here levels a b m same bare level = absurd (let e : level_at levels b ≡ None = ap (level_at levels) (sym same) ∙ bare in cc)
