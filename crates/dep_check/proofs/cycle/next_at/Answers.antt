use Rattle.std.proofs.Common.{◌≡◌, Some, arith}
use Rattle.std.proofs.lemmas.Grind.{common_steps}
use Rattle.dep_check.specs.Tables.{level_at}
use Rattle.dep_check.proofs.CycleLemmas.{next_found}
use Rattle.dep_check.proofs.cycle.next_at.Goals as goal

pub returns-then-eq-clause-next : goal.returns-then-eq-clause-next
returns-then-eq-clause-next c =
    let next = c.in-Some.next in
    let level : level_at c.args.levels.now next ≡ Some c.args.level = grind (arith, common_steps) in
    next_found c.args.steps.now c.args.levels.now c.args.channel next c.exits.exit c.args.level c.requires.channels ((c.next.ensures.step next).0 c.in-Some.is) level c.exits.invariant
