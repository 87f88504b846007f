use Rattle.std.proofs.Common.{◌∙◌, ap, ℕ}
use Rattle.std.specs.Prelude.{replicate}
use Rattle.dep_check.proofs.ExitLemmas.{exits_none}
use Rattle.dep_check.proofs.exits.no_exits.Goals as goal

pub returns : goal.returns
returns c = λ rows to. exits_none rows to c.in_ok-vec.field-0.items (c.in_ok-vec.ensures.items_if_clones_equal (λ y is. is) ∙ ap (λ (n : ℕ). replicate n 0) c.from.ensures)
