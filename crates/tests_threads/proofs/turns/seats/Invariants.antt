use Rattle.std.proofs.Common.{◌≡◌, ◌+◌, vec_len, All, Some}
use Rattle.fabric_turn.specs.Names.{turnstile_id}
use Rattle.fabric_turn.specs.Seats.{HasOneNumber}
use Rattle.tests_threads.proofs.turns.seats.Given as goal

abbrev pub invariant-loop : goal.invariant-loop
invariant-loop l = (l.seat ≡ (l.fn.seat.0, record l.fn.seat.1 { next = 1 + l.counter })) × (vec_len l.seats ≡ l.counter)
    × All (λ s. (s.0 ≡ turnstile_id l.turnstile) × (s.1.start ≡ Some 1000) × HasOneNumber (l.fn.others + 1) s.1) l.seats.items
