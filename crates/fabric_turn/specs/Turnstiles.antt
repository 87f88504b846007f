-- The name that ties seats to their turnstile.
use Rattle.atomic_table.specs.Seated.{TableId}

abbrev pub TurnstileId : Type 0
TurnstileId = TableId
