use Rattle.autonet_call.proofs.command.answer.Goals as goal

pub returns : goal.returns
returns g c = record { status = c.status_of-status.result; cause = c.status_of-status.ensures; told = c.finish.ensures }
