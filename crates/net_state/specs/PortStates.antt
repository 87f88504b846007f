-- The states that a switch can show of a port.

use Rattle.std.specs.Prelude.{◌==◌, ℕ, Bool}
use Rattle.an_base.specs.declared.port.PortState.{PortState}
use Rattle.an_base.specs.declared.port.PortState.TheVariants as state

-- a number for each state, to compare states
abbrev pub state_code : PortState → ℕ
state_code state.Dead = 0
state_code state.Checking = 1
state_code state.Host = 2
state_code state.Who = 3
state_code state.Loop = 4
state_code state.Good = 5

-- whether `shown` is the state `this`
abbrev pub is_shown : PortState → PortState → Bool
is_shown this shown = state_code shown == state_code this

abbrev pub is_dead : PortState → Bool
is_dead = is_shown state.Dead

abbrev pub is_host : PortState → Bool
is_host = is_shown state.Host

abbrev pub is_loop : PortState → Bool
is_loop = is_shown state.Loop

abbrev pub is_good : PortState → Bool
is_good = is_shown state.Good
