-- The name of a turnstile.
use Rattle.fabric_turn.specs.Turnstiles.{TurnstileId}
use Rattle.fabric_turn.specs.declared.turnstile.Turnstile.{Turnstile}

-- the name of a turnstile; a seat is a seat of this turnstile if its first part is this name
abbrev pub turnstile_id : {B A R E D : Type 0} → Turnstile B A R E D → TurnstileId
turnstile_id turnstile = turnstile.table.shared.table_id
