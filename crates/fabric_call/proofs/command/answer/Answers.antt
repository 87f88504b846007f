use Rattle.fabric_call.specs.Answer.{IsGiven, IsStop, sources}
use Rattle.fabric_call.proofs.FoundLemmas.{answer_by}
use Rattle.fabric_call.proofs.command.answer.Goals as goal

pub returns : goal.returns
returns g c =
    let old = sources (g.T.Source.seen c.args.topology.now) (g.S.Source.seen c.args.tables.now) in
    let new = sources (g.T.Source.seen c.found.new.topology) (g.S.Source.seen c.found.new.tables) in
    answer_by (IsGiven (g.C.Command.gives c.args.command.now) old new) (IsStop old new) _ _ c.found.result _ _ _ c.found.ensures.given c.found.ensures.stopped c.tell_found.ensures
