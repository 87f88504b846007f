-- The packets of a channel, as the program keeps them.
use Rattle.std.specs.Prelude.{ℕ, List}

-- the maximum number of packets, and the slots of the packets that are there, the first packet first
pub record QueueOf : Type 0 where
  pub places : ℕ
  pub slots : List ℕ
