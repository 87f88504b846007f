use Rattle.std.proofs.Common.{◌≡◌, ◌∙◌, sym, subst, true}
use Rattle.std.specs.Prelude.{is_some}
use Rattle.epoch_core.specs.Epoch.{finish}
use Rattle.epoch_core.specs.Log.{Log}
use Rattle.epoch_core.specs.StandsFor.{StandsFor}
use Rattle.switch_core.specs.declared.control.Control.{Control}
use Rattle.switch_core.specs.Stands.{Accepts}
use Rattle.switch_core.proofs.AcceptLemmas.{accepts_then, copied_some, due_before, newly_due, still_due}
use Rattle.switch_core.proofs.control.Control.accept.Goals as goal
use Rattle.switch_core.proofs.control.Control.accept.Goals.{else-not-had_finished-via-then-not-had_finished+else-is_some, else-not-had_finished-via-else-not-had_finished}

pub returns-then-is_some : goal.returns-then-is_some
returns-then-is_some c =
    let old = c.args.self.now in
    let core = c.in-Some.core in
    let new = c.accept_in_turn.new.core in
    let had : (log : Log) → StandsFor core log → is_some c.finish.result ≡ is_some (finish core.card log) = λ log st. copied_some c.finish.result (finish core.card log) (c.finish.ensures log st) in
    accepts_then c.args.port c.args.body old core new c.accept_in_turn.new.sessions true c.args.sends.now c.accept_in_turn.new.sends c.in-Some.is c.in_ok-accept_in_turn.ensures
    (λ log next a b.
    newly_due old.load_due (is_some (finish core.card log)) (is_some (finish new.card next)) (sym (had log a) ∙ sym c.if-not-had_finished.ensures)
    (sym (copied_some c.finish-then-not-had_finished.result (finish new.card next) (c.finish-then-not-had_finished.ensures next b)) ∙ sym c.if-is_some.ensures))

pub returns-else-not-had_finished : goal.returns-else-not-had_finished
returns-else-not-had_finished c =
    let old = c.args.self.now in
    let core = c.in-Some.core in
    let new = c.accept_in_turn.new.core in
    let before = c.args.sends.now in
    let after = c.accept_in_turn.new.sends in
    let as_before = accepts_then c.args.port c.args.body old core new c.accept_in_turn.new.sessions old.load_due before after c.in-Some.is c.in_ok-accept_in_turn.ensures in
    let had : (log : Log) → StandsFor core log → is_some c.finish.result ≡ is_some (finish core.card log) = λ log st. copied_some c.finish.result (finish core.card log) (c.finish.ensures log st) in
    elim c.else-not-had_finished.branch [
      | else-not-had_finished-via-then-not-had_finished+else-is_some w ↦
          subst (λ (x : Control). Accepts c.args.port c.args.body old x before after) (sym w.self-is)
          (as_before (λ log next a b.
          still_due old.load_due (is_some (finish core.card log)) (is_some (finish new.card next))
          (sym (copied_some w.finish-then-not-had_finished.result (finish new.card next) (w.finish-then-not-had_finished.ensures next b)) ∙ sym w.if-is_some.ensures)))
      | else-not-had_finished-via-else-not-had_finished w ↦
          subst (λ (x : Control). Accepts c.args.port c.args.body old x before after) (sym w.self-is)
          (as_before (λ log next a b. due_before old.load_due (is_some (finish core.card log)) (is_some (finish new.card next)) (sym (had log a) ∙ sym w.if-not-had_finished.ensures)))
    ]
