use Rattle.std.proofs.Common.{rules}
use Rattle.fabric_turn.proofs.Steps.{passes_keep}
use Rattle.fabric_turn.proofs.turnstile.Turnstile.pass_turn.Goals as goal

pub fetch_add-requires : goal.fetch_add-requires
fetch_add-requires g c = let q = c.requires.turn in (search rules, search rules, passes_keep g.B.Staged.history g.B.Staged.start g.B.Staged.owner _ _ _ _ _ q.0 q.1 (search rules) q.3 q.2 q.4 q.5)
