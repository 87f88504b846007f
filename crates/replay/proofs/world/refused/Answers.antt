use Rattle.std.proofs.Common.{[], ◌∷◌, ◌++◌}
use Rattle.replay.proofs.ReplayLemmas.{refused_event}
use Rattle.replay.proofs.world.refused.Goals as goal

-- no fault stands after the event
pub returns-in-Ok : goal.returns-in-Ok
returns-in-Ok c = λ script bytes before event has lawful next.
    refused_event script bytes before event c.args.why (c.in-Ok.ensures.journal script bytes (before ++ event ∷ []) has) lawful next
