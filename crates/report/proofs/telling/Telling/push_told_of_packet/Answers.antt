use Rattle.std.proofs.lemmas.Result.{IfOk-weaker}
use Rattle.report.proofs.ToldTexts.{goes_on, no_packet, no_words}
use Rattle.report.proofs.telling.Telling.push_told_of_packet.Goals as goal

pub returns-in_ok-push_move-in-Moved : goal.returns-in_ok-push_move-in-Moved
returns-in_ok-push_move-in-Moved c =
    rw c.in-Moved.is (IfOk-weaker c.push_hop.result _ _ (λ done is. goes_on _ _ _ _ _ c.in_ok-push_move-in-Moved.ensures is) c.push_hop.ensures)

pub returns-in_default : goal.returns-in_default
returns-in_default c =
    rw (no_packet c.args.self.now.script.now c.args.self.now.course.lives c.args.line.now c.in_default.not-Packet c.in_default.not-Unsent c.in_default.not-Moved c.in_default.not-Fell) (no_words c.args.text.now.items)
