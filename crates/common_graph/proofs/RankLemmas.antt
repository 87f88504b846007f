-- Numbers that fall along each step.
use Rattle.std.proofs.Common.{◌<◌, ℕ, List, [], ◌∷◌, arith}
use Rattle.common_graph.specs.Cycles.{Path, HasNoCycle}

module _ {Node : Type 0} (Step : Node → Node → Type 0) (rank : Node → ℕ) (fall : (node next : Node) → Step node next → rank next < rank node) where
  pub path_falls : (start : Node) (rest : List Node) (end : Node) → Path Step start rest end → rank end < rank start
  path_falls start [] end step = fall start end step
  path_falls start (next ∷ rest) end walk =
      let first = fall start next walk.0 in
      let later = path_falls next rest end walk.1 in
      omega arith

  -- so none lead round
  pub fall_no_cycle : HasNoCycle Step
  fall_no_cycle start rest cycle = absurd (let less = path_falls start rest start cycle in omega arith)
