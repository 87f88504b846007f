use Rattle.std.proofs.Common.{refl}
use Rattle.switch_core.proofs.SessionLemmas.{new_sessions_are}
use Rattle.switch_core.proofs.session.Sessions.new.Goals as goal

pub returns : goal.returns
returns c = new_sessions_are c.new_sessions.result _ c.new_sessions.ensures refl
