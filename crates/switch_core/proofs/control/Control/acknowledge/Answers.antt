use Rattle.std.proofs.Common.{◌∙◌, ap, List, [], ◌∷◌, ◌++◌, ℕ}
use Rattle.switch_core.proofs.StandsLemmas.{ack_spelled, stands_same}
use Rattle.switch_core.proofs.control.Control.acknowledge.Goals as goal

pub returns : goal.returns
returns c s stands = (
  stands_same c.args.self.now c.put.new.self s c.in_ok-put.ensures.same stands,
  c.in_ok-put.ensures.out ∙ ap (λ (b : List ℕ). c.args.out.now ++ record { port = c.args.port; bytes = b } ∷ [])
      (ack_spelled c.args.self.now s c.args.port c.last.result c.args.peer c.end_at.result stands c.end_at.ensures (c.last.ensures s.sendings s.receivings stands.sessions)),
)
