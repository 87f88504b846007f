-- How contracts see a frame that carries a body.
use Rattle.std.specs.Prelude.{ℕ}
use Rattle.an_base.specs.Values.{EndId}
use Rattle.an_base.specs.declared.body.Body.{Body}

-- a frame that carries a body: the epoch and the ends of its session, and its number there
pub record CarryOf : Type 0 where
  pub epoch : ℕ
  pub from : EndId
  pub to : EndId
  pub number : ℕ
  pub body : Body
