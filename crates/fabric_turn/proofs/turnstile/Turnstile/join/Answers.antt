use Rattle.std.proofs.Common.{rules}
use Rattle.fabric_turn.proofs.Seats.{joins_keep, compares_keep}
use Rattle.fabric_turn.proofs.turnstile.Turnstile.join.Goals as goal

pub join_seat-requires : goal.join_seat-requires
join_seat-requires g c = (search rules, search rules, search rules, search rules, joins_keep _ _ _ _ _ _ _ _ _ c.seat.invariant.0.0 c.other.invariant.0.0 c.seat.invariant.0.2 c.other.invariant.0.2)

pub load-requires : goal.load-requires
load-requires g c = (search rules, search rules, compares_keep _ _ _ _ _ _ _ _ (search rules))
