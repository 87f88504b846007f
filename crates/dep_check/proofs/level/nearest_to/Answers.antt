use Rattle.std.proofs.Common.{◌≡◌, sym, [], ◌∷◌, arith}
use Rattle.dep_check.proofs.LevelLemmas.{nearest_first}
use Rattle.dep_check.proofs.RoundLemmas.{due_nearest}
use Rattle.dep_check.proofs.level.nearest_to.Goals as goal

pub all_levels-requires-clause-below : goal.all_levels-requires-clause-below
all_levels-requires-clause-below c = nearest_first c.args.steps.now (λ s. s ≡ c.args.goal) c.in_ok-levels.levels.items c.in_ok-levels.ensures

pub all_levels-requires-clause-due : goal.all_levels-requires-clause-due
all_levels-requires-clause-due c =
    let steps = c.args.steps.now in
    let levels = c.in_ok-levels.levels.items in
    let goals = c.in_ok-levels.ensures in
    due_nearest c.args.goal steps (λ s. s ≡ c.args.goal) 1 levels (c.args.goal ∷ []) c.in_ok-due.due.items (nearest_first steps (λ s. s ≡ c.args.goal) levels goals) (λ s n spot e last. (0, omega arith, sym (goals.some s n spot e).1)) (rw c.deref.ensures.value at c.in_ok-due.ensures)
