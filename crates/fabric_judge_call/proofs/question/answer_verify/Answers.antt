use Rattle.std.proofs.Common.{refl, subst}
use Rattle.fabric_call.specs.declared.status.Status.{Status}
use Rattle.fabric_call.specs.Status.{IsToldOf}
use Rattle.fabric_judge_call.specs.Questions.{not_read, read}
use Rattle.fabric_judge_call.proofs.question.answer_verify.Goals as goal

pub returns-in-Ok : goal.returns-in-Ok
returns-in-Ok g c = read (record { bytes = c.in-Ok.ranks.items; read = c.in-Ok.ensures.found; answers = c.answer.ensures })

pub returns-in-Err : goal.returns-in-Err
returns-in-Err g c = not_read (record {
  why = c.in-Err.why;
  unread = c.in-Err.ensures.unread;
  kept = refl;
  out = refl;
  told = subst (λ (s : Status). IsToldOf (g.E.Sink.seen c.args.err.now) (g.E.Sink.seen c.finish.new.err) s c.finish.result) c.ranks_unread.ensures c.finish.ensures;
})
