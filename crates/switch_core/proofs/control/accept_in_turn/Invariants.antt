use Rattle.switch_core.proofs.TurnLemmas.{Turned}
use Rattle.switch_core.proofs.control.accept_in_turn.Given as goal

-- so many turns were taken
abbrev pub invariant-held : goal.invariant-held
invariant-held l = Turned l.counter l.port l.fn.body l.fn.core l.core l.fn.sessions l.sessions l.fn.sends l.sends
