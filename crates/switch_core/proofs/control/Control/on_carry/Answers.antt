use Rattle.std.proofs.Common.{◌≡◌, ◌∙◌, sym, ap, subst, arith, ℕ}
use Rattle.std.specs.Prelude.{is_some}
use Rattle.an_base.specs.Frames.{CarryOf}
use Rattle.switch_core.specs.declared.control.Control.{Control}
use Rattle.switch_core.specs.Steps.{answers_body, joins}
use Rattle.switch_core.specs.Stands.{Does, HasRoom}
use Rattle.switch_core.proofs.CarryLemmas.{answers_of, carries_greater, carries_lower, carries_same, core_joined, room_joined}
use Rattle.switch_core.proofs.control.Control.on_carry.Goals as goal
use Rattle.switch_core.proofs.control.Control.on_carry.Goals.{then-carry-self-2+in_ok-join, else-carry-self-2}

pub returns-then-carry-self : goal.returns-then-carry-self
returns-then-carry-self c =
    let epoch : c.carry.inside.epoch ≡ c.args.carry.epoch = ap (λ (f : CarryOf). f.epoch) c.carry.view_is in
    carries_lower c.args.port c.args.carry c.args.self.now c.args.out.now (omega (arith, epoch, c.if-carry-self.true))

pub join-requires : goal.join-requires
join-requires c = record { switch = c.requires.room.switch; stands = c.requires.room.stands; least = c.requires.room.sound.least; most = c.requires.room.sound.most }

pub answer_body-requires-clause-room : goal.answer_body-requires-clause-room
answer_body-requires-clause-room c =
    elim c.if-carry-self-2.branch [
      | then-carry-self-2+in_ok-join w ↦
          subst HasRoom (sym w.self-is) (room_joined c.carry.inside.epoch c.args.self.now w.join.new.self c.args.out.now w.join.new.out c.requires.room w.in_ok-join.ensures)
      | else-carry-self-2 w ↦
          subst HasRoom (sym w.self-is) c.requires.room
    ]

pub answer_body-requires-clause-joined : goal.answer_body-requires-clause-joined
answer_body-requires-clause-joined c =
    elim c.if-carry-self-2.branch [
      | then-carry-self-2+in_ok-join w ↦
          ap (λ (x : Control). is_some x.core) w.self-is ∙ core_joined c.carry.inside.epoch c.args.self.now w.join.new.self c.args.out.now w.join.new.out c.requires.room w.in_ok-join.ensures
      | else-carry-self-2 w ↦
          ap (λ (x : Control). is_some x.core) w.self-is ∙ c.requires.joined
    ]

pub returns : goal.returns
returns c =
    let port = c.args.port in
    let f = c.args.carry in
    let old = c.args.self.now in
    let mid = c.if-carry-self-2.self in
    let new = c.answer_body.new.self in
    let x = c.args.out.now in
    let y = c.if-carry-self-2.out in
    let z = c.answer_body.new.out in
    let epoch : c.carry.inside.epoch ≡ f.epoch = ap (λ (g : CarryOf). g.epoch) c.carry.view_is in
    let answers : Does (answers_body port f.from f.number f.body) mid new y z =
    answers_of port c.carry.inside.k c.carry.inside.from c.carry.inside.body f mid new y z (ap (λ (g : CarryOf). g.from) c.carry.view_is) (ap (λ (g : CarryOf). g.number) c.carry.view_is) (ap (λ (g : CarryOf). g.body) c.carry.view_is) c.in_ok-answer_body.ensures in
    elim c.if-carry-self-2.branch [
      | then-carry-self-2+in_ok-join w ↦
          carries_greater port f old w.join.new.self mid new x w.join.new.out y z (omega (arith, epoch, w.if-carry-self-2.true)) w.self-is w.out-is
          (subst (λ (n : ℕ). Does (joins n) old w.join.new.self x w.join.new.out) epoch w.in_ok-join.ensures) answers
      | else-carry-self-2 w ↦
          carries_same port f old mid new x y z (omega (arith, epoch, c.if-carry-self.false, w.if-carry-self-2.false)) w.self-is w.out-is answers
    ]
