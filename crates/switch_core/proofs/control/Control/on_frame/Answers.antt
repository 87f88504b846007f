use Rattle.std.proofs.Common.{◌≡◌, ◌∙◌, sym, ap, subst, true, false}
use Rattle.std.proofs.lemmas.Result.{on_ok_weaker}
use Rattle.an_base.specs.Frames.{CarryOf}
use Rattle.an_base.specs.declared.frame.Frame.{Frame}
use Rattle.switch_core.specs.Switch.{SwitchOf, counts}
use Rattle.switch_core.specs.Steps.{framed, on_ack, on_carry, still}
use Rattle.switch_core.specs.Stands.{Does, Stands}
use Rattle.switch_core.proofs.CarryLemmas.{counts_joined, does_else, does_where}
use Rattle.switch_core.proofs.StandsLemmas.{does_nothing}
use Rattle.switch_core.proofs.control.Control.on_frame.Goals as goal

pub returns-then-not-counts : goal.returns-then-not-counts
returns-then-not-counts c =
    let port = c.args.port in
    let f = c.in-Carry.carry in
    let old = c.args.self.now in
    let out = c.args.out.now in
    let not_counted : (s : SwitchOf) → Stands old s → false ≡ counts s port f.from f.to = λ s stands. c.if-not-counts.ensures s stands ∙ ap (λ (g : CarryOf). counts s port g.from g.to) c.carry.view_is in
    subst (λ (frame : Frame). Does (framed port frame) old old out out) (sym c.in-Carry.is)
    (does_else (λ s. counts s port f.from f.to) (on_carry port f) (λ s. still s) old old out out not_counted (does_nothing old out))

pub returns-then-not-counts-2 : goal.returns-then-not-counts-2
returns-then-not-counts-2 c =
    let port = c.args.port in
    let old = c.args.self.now in
    let out = c.args.out.now in
    subst (λ (frame : Frame). Does (framed port frame) old old out out) (sym c.in-Ack.is)
    (does_else (λ s. counts s port c.in-Ack.from c.in-Ack.to) (on_ack port c.in-Ack.from c.in-Ack.epoch c.in-Ack.n) (λ s. still s) old old out out (λ s stands. c.if-not-counts-2.ensures s stands) (does_nothing old out))

pub returns-else-not-counts : goal.returns-else-not-counts
returns-else-not-counts c =
    let port = c.args.port in
    let f = c.in-Carry.carry in
    let old = c.args.self.now in
    let new = c.on_carry.new.self in
    let x = c.args.out.now in
    let y = c.on_carry.new.out in
    let counted : (s : SwitchOf) → Stands old s → true ≡ counts s port f.from f.to = λ s stands. c.if-not-counts.ensures s stands ∙ ap (λ (g : CarryOf). counts s port g.from g.to) c.carry.view_is in
    on_ok_weaker c.on_carry.result
    (λ does. subst (λ (frame : Frame). Does (framed port frame) old new x y) (sym c.in-Carry.is)
    (does_where (λ s. counts s port f.from f.to) (on_carry port f) (λ s. still s) old new x y counted does))
    c.on_carry.ensures

pub returns-else-not-counts-2 : goal.returns-else-not-counts-2
returns-else-not-counts-2 c =
    let port = c.args.port in
    let old = c.args.self.now in
    let new = c.on_ack.new.self in
    let x = c.args.out.now in
    let y = c.on_ack.new.out in
    on_ok_weaker c.on_ack.result
    (λ does. subst (λ (frame : Frame). Does (framed port frame) old new x y) (sym c.in-Ack.is)
    (does_where (λ s. counts s port c.in-Ack.from c.in-Ack.to) (on_ack port c.in-Ack.from c.in-Ack.epoch c.in-Ack.n) (λ s. still s) old new x y (λ s stands. c.if-not-counts-2.ensures s stands) does))
    c.on_ack.ensures

pub returns-in-Reply : goal.returns-in-Reply
returns-in-Reply c = subst (λ (frame : Frame). Does (framed c.args.port frame) c.args.self.now c.on_reply.new.self c.args.out.now c.args.out.now) (sym c.in-Reply.is) (c.on_reply.ensures c.args.out.now)

pub on_carry-requires-clause-joined : goal.on_carry-requires-clause-joined
on_carry-requires-clause-joined c = counts_joined c.args.port c.carry.inside.from c.carry.inside.to c.args.self.now c.requires.room (λ s stands. c.if-not-counts.ensures s stands)
