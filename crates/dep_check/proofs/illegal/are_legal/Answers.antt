use Rattle.std.proofs.Common.{◌∙◌, sym}
use Rattle.dep_check.proofs.IllegalLemmas.{none_illegal}
use Rattle.dep_check.proofs.illegal.are_legal.Goals as goal

pub returns-then-not-are_at_spots : goal.returns-then-not-are_at_spots
returns-then-not-are_at_spots c = λ es numbers t. absurd (cc)

pub returns : goal.returns
returns c = λ es numbers t sides below. none_illegal es numbers c.args.rows.now c.args.sides.now.wires.now c.args.sides.now.up.now c.args.exits.now sides below (c.are_all_legal.ensures t) (sym c.are_at_spots.ensures ∙ c.if-not-are_at_spots.false)
