use Rattle.autonet_call.specs.Answer.{input_limit}
use Rattle.autonet_call.proofs.StopLemmas.{unread_stops}
use Rattle.autonet_call.proofs.command.found.Goals as goal

pub returns-in_err-bytes-clause-stopped : goal.returns-in_err-bytes-clause-stopped
returns-in_err-bytes-clause-stopped g c = unread_stops c.from_residual.result c.in_err-bytes.field-0.0 input_limit
    (g.C.Command.refuses c.args.command.now) (g.S.Source.seen c.args.source.now) (g.S.Source.seen c.read_input.new.source)
    c.from_residual.ensures.1 c.in_err-bytes.ensures.unread
