use Rattle.std.proofs.Common.{◌≡◌, ℕ, ◌%◌, ◌^◌, []}
use Rattle.fabric_turn.specs.Plays.{waiting_view}
use Rattle.fabric_turn.proofs.turnstile.Turnstile.wait_turn.Given as goal

abbrev pub invariant-loop : goal.invariant-loop
invariant-loop g l = (l.place.table_id ≡ l.fn.place.table_id) × ((t : ℕ) × (l.ticket ≡ t % 2 ^ 64) × (l.place.me ≡ (waiting_view t l.fn.place.me.0, [])))
