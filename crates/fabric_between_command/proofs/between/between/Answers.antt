use Rattle.fabric_call.proofs.FoundLemmas.{answer_by}
use Rattle.fabric_between_command.specs.Answer.{IsGiven, IsStop, sources}
use Rattle.fabric_between_command.proofs.between.between.Goals as goal

pub returns : goal.returns
returns g c =
    let was = sources (g.T.Source.seen c.args.topology.now) (g.S.Source.seen c.args.old.now) (g.N.Source.seen c.args.new.now) in
    let is = sources (g.T.Source.seen c.found.new.topology) (g.S.Source.seen c.found.new.old) (g.N.Source.seen c.found.new.new) in
    answer_by (IsGiven was is) (IsStop was is) _ _ c.found.result _ _ _ c.found.ensures.given c.found.ensures.stopped c.tell_found.ensures
