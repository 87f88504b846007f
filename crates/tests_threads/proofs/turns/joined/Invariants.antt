use Rattle.std.proofs.Common.{◌≡◌, ◌+◌, length, vec_len, All}
use Rattle.fabric_turn.specs.Names.{turnstile_id}
use Rattle.fabric_turn.specs.Seats.{HasOneNumber}
use Rattle.tests_threads.proofs.turns.joined.Given as goal

abbrev pub decreases-loop-other : goal.decreases-loop-other
decreases-loop-other l = vec_len l.seats

abbrev pub invariant-loop-other : goal.invariant-loop-other
invariant-loop-other l = (l.seat.0 ≡ turnstile_id l.turnstile) × (l.seat.1.callers ≡ l.fn.callers) × (l.seat.1.next ≡ l.fn.callers) × (1 + length l.seat.1.ended + vec_len l.seats ≡ l.fn.callers)
    × All (λ s. (s.0 ≡ turnstile_id l.turnstile) × HasOneNumber l.fn.callers s.1) l.seats.items
