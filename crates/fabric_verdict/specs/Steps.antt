-- How channels and steps are counted, one after the other. Only private functions cite this.
use Rattle.std.specs.Prelude.{◌≡◌, ◌<◌, ◌≤◌, ℕ}
use Rattle.common_graph.specs.Graph.{GraphOf, LeadsTo}
use Rattle.fabric_routes.specs.Routes.{Channel}

-- `IsOutOfFirst`: the channel is of a kind and leads out of one of the first `ports` ports of `switch`;
-- `IsOutOf`: out of any port of `switch`
abbrev pub IsOutOfFirst : (Channel → Type 0) → ℕ → ℕ → Channel → Type 0
IsOutOfFirst Is switch ports channel = Is channel × (channel.switch ≡ switch) × (channel.port ≤ ports)

abbrev pub IsOutOf : (Channel → Type 0) → ℕ → Channel → Type 0
IsOutOf Is switch channel = Is channel × (channel.switch ≡ switch)

-- the channel is of a kind and leads out of one of the first `switches` switches
abbrev pub IsOutBelow : (Channel → Type 0) → ℕ → Channel → Type 0
IsOutBelow Is switches channel = Is channel × (channel.switch < switches)

-- the first node of the pair leads to the second
abbrev pub IsStep : GraphOf → ℕ × ℕ → Type 0
IsStep graph pair = LeadsTo graph pair.0 pair.1

-- the first node of the pair leads to the second, and is among the first `nodes` nodes
abbrev pub IsStepBelow : GraphOf → ℕ → ℕ × ℕ → Type 0
IsStepBelow graph nodes pair = LeadsTo graph pair.0 pair.1 × (pair.0 < nodes)

-- `node` leads to `next`, which is below `end`
abbrev pub IsNextBelow : GraphOf → ℕ → ℕ → ℕ → Type 0
IsNextBelow graph node end next = LeadsTo graph node next × (next < end)
