use Rattle.std.proofs.Common.{◌<◌, ℕ}
use Rattle.fabric_tables.specs.Cells.{tables_of}
use Rattle.fabric_routes.specs.Found.{channel_of}
use Rattle.fabric_mixtures.specs.Mixtures.{MayTakeBoth}
use Rattle.fabric_mixtures.proofs.turn.find_turn.Given as goal

-- for no LID so far the one may be followed by the other
abbrev pub invariant-lids : goal.invariant-lids
invariant-lids l =
    (lid : ℕ) → lid < l.lid → MayTakeBoth l.fabric (tables_of l.fn.old) (tables_of l.fn.new) lid (channel_of l.channel) (channel_of l.next) → ⊥
