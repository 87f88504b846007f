use Rattle.std.proofs.Common.{rules}
use Rattle.fabric_turn.proofs.Seats.{splits_keep, compares_keep}
use Rattle.fabric_turn.proofs.turnstile.Turnstile.split.Goals as goal

pub split_seat-place-requires : goal.split_seat-place-requires
split_seat-place-requires g c = (search rules, search rules, splits_keep _ _ _ _ _ _ _ c.seat.invariant.0.0 (search rules))

pub load-requires : goal.load-requires
load-requires g c = (search rules, search rules, compares_keep _ _ _ _ _ _ _ _ (search rules))
