use Rattle.std.proofs.Common.{subst, List, []}
use Rattle.epoch_core.specs.Log.{OnPort}
use Rattle.switch_core.specs.Stands.{Does, ReceivesBody}
use Rattle.switch_core.proofs.CarryLemmas.{acked_not, acked_some, acknowledged, answers_then, numbers_then, room_accepts}
use Rattle.switch_core.proofs.control.Control.answer_body.Goals as goal
use Rattle.switch_core.proofs.control.Control.answer_body.Goals.{then-branch+in_ok-acknowledge, else-branch, In_ok-receive, Joined-branch}

-- the body has come to its session, and then it is acknowledged or not
received : (c : goal.In_ok-receive) → ReceivesBody c.args.port c.args.k c.args.body c.args.self.now c.receive.new.self [] c.receive.new.sends c.in_ok-receive.field-0
received c = subst (λ (before : List OnPort). ReceivesBody c.args.port c.args.k c.args.body c.args.self.now c.receive.new.self before c.receive.new.sends c.in_ok-receive.field-0) c.new-sends.ensures c.in_ok-receive.ensures

acks : (c : goal.Joined-branch) → Does (acknowledged c.args.port c.args.peer c.args.k c.args.body) c.args.self.now c.if-branch.self c.args.out.now c.if-branch.out
acks c =
    let port = c.args.port in
    let k = c.args.k in
    let peer = c.args.peer in
    let body = c.args.body in
    let old = c.args.self.now in
    let mid = c.receive.new.self in
    let sends = c.receive.new.sends in
    let answer = c.in_ok-receive.field-0 in
    let x = c.args.out.now in
    let came : ReceivesBody port k body old mid [] sends answer = subst (λ (before : List OnPort). ReceivesBody port k body old mid before sends answer) c.new-sends.ensures c.in_ok-receive.ensures in
    elim c.if-branch.branch [
      | then-branch+in_ok-acknowledge w ↦
          acked_some port k peer body old mid w.acknowledge.new.self c.if-branch.self [] sends answer x w.acknowledge.new.out c.if-branch.out w.if-branch.true came w.in_ok-acknowledge.ensures w.self-is w.out-is
      | else-branch w ↦
          acked_not port k peer body old mid c.if-branch.self [] sends answer x c.if-branch.out w.if-branch.false came w.self-is w.out-is
    ]

pub receive-requires-clause-core : goal.receive-requires-clause-core
receive-requires-clause-core c = room_accepts c.args.self.now c.requires.room c.requires.joined

pub push_all-requires : goal.push_all-requires
push_all-requires c =
    let at = goal.at.push_all-requires c in
    numbers_then _ _ _ _ c.args.self.now _ _ _ _ _ _ c.requires.least c.requires.most c.requires.room c.requires.joined (received at.In_ok-receive) (acks at.Joined-branch)

pub returns : goal.returns
returns c =
    let at = goal.at.returns c in
    answers_then _ _ _ _ c.args.self.now _ _ c.push_all.new.self _ _ _ _ c.push_all.new.out (received at.In_ok-receive) (acks at.Joined-branch) c.in_ok-push_all.ensures
