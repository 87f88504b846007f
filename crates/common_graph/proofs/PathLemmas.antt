-- Paths by more steps.
use Rattle.std.proofs.Common.{List, [], ◌∷◌}
use Rattle.common_graph.specs.Cycles.{Path, HasNoCycle}

module _ {Node : Type 0} (Some More : Node → Node → Type 0) (too : (node next : Node) → Some node next → More node next) where
  pub more_path : (start : Node) (rest : List Node) (end : Node) → Path Some start rest end → Path More start rest end
  more_path start [] end step = too start end step
  more_path start (next ∷ rest) end (step, path) = (too start next step, more_path next rest end path)

  pub more_steps : HasNoCycle More → HasNoCycle Some
  more_steps none start rest cycle = none start rest (more_path start rest start cycle)
