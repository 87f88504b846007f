use Rattle.std.proofs.Common.{◌≡◌, ◌∙◌, ap, subst, refl, ℕ, List, [], ◌∷◌, ◌++◌, arith}
use Rattle.dep_check.specs.declared.channel.Channel.{Channel}
use Rattle.dep_check.specs.Tables.{IsSpot}
use Rattle.dep_check.specs.Search.{IsNextAt, HasNextAt, Descends}
use Rattle.dep_check.proofs.CycleLemmas.{descent_step, descent_least}
use Rattle.dep_check.proofs.cycle.cycle_from.Goals as goal

pub levels-preserved : goal.levels-preserved
levels-preserved c =
    let i = c.levels.invariant in
    let next = c.unwrap-channel.result in
    let steps = c.args.steps.now in
    let levels = c.args.levels.now in
    let at : IsNextAt steps levels c.levels.channel c.levels.level next = rw c.unwrap-channel.ensures at c.next_at.ensures.next in
    let spot : IsSpot next = rw c.unwrap-channel.ensures at c.next_at.ensures.spot in
    let down = descent_step steps levels c.args.start c.requires.nearest c.args.length c.levels.level i.0 c.levels.channel next c.levels-test.true i.2 at spot in
    (i.0 ++ next ∷ [], c.in_ok-push-2.ensures.items ∙ ap (λ (xs : List Channel). xs ++ next ∷ []) i.1, down.0, spot, down.1)

pub returns : goal.returns
returns c =
    let i = c.levels.invariant in
    let steps = c.args.steps.now in
    let levels = c.args.levels.now in
    let zero_level : c.levels.level ≡ 0 = omega arith in
    let descends = subst (λ (k : ℕ). Descends steps levels c.args.start c.args.length i.0 c.levels.channel k) zero_level i.2 in
    let has = subst (λ (k : ℕ). HasNextAt steps levels c.levels.channel k) zero_level i.4 in
    rw (c.of.ensures, i.1) (refl, descent_least steps levels c.args.start c.requires.nearest c.args.length i.0 c.levels.channel c.requires.length descends has)
