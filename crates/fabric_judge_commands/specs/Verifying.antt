-- The question to `verify`.
use Rattle.std.specs.Prelude.{ℕ, List}
use Rattle.fabric_model.specs.declared.traffic.Traffic.{Traffic}

-- a traffic, and the bytes of ranks
pub record AskedOf : Type 0 where
  pub traffic : Traffic
  pub bytes : List ℕ
