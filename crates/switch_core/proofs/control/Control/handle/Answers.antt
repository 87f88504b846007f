use Rattle.std.proofs.Common.{sym, subst, ℕ, ◌+◌, Bool}
use Rattle.switch_core.specs.Kept.{Handles}
use Rattle.switch_core.specs.Sound.{counted}
use Rattle.switch_core.specs.Stands.{HasState, Stands}
use Rattle.switch_core.proofs.StateLemmas.{frame_handled, frame_more, nothing_more}
use Rattle.switch_core.proofs.SpentLemmas.{works_on}
use Rattle.switch_core.proofs.control.Control.handle.Goals as goal

pub returns-in_ok-on_frame-in-Ok-clause-handled : goal.returns-in_ok-on_frame-in-Ok-clause-handled
returns-in_ok-on_frame-in-Ok-clause-handled c s stands =
    subst (λ (b : Bool). Handles c.args.port c.args.bytes.now s (Stands c.on_frame.new.self) (record { frames = c.on_frame.new.out; noframe = b })) (sym c.of-arrival.ensures.frame)
    (frame_handled c.args.port c.args.bytes.now c.in-Ok.frame s c.on_frame.new.self c.args.out.now c.on_frame.new.out c.in-Ok.ensures.found.0 c.in-Ok.ensures.found.1 c.requires.none (c.in_ok-on_frame-in-Ok.ensures s stands))

pub returns-in_ok-on_frame-in-Ok-clause-state : goal.returns-in_ok-on_frame-in-Ok-clause-state
returns-in_ok-on_frame-in-Ok-clause-state c works carried has =
    subst (λ (n : ℕ). HasState (works + 1) (counted c.args.self.now.epoch c.on_frame.new.self.epoch carried n) c.on_frame.new.self) (sym c.of-arrival.ensures.bodies)
    (frame_more works carried c.args.port c.in-Ok.frame c.args.self.now c.on_frame.new.self c.args.out.now c.on_frame.new.out c.requires.least c.requires.most c.requires.room has c.in_ok-on_frame-in-Ok.ensures)

pub returns-in_ok-on_frame-in-Ok-clause-working : goal.returns-in_ok-on_frame-in-Ok-clause-working
returns-in_ok-on_frame-in-Ok-clause-working c =
    works_on c.args.port c.in-Ok.frame c.args.self.now c.on_frame.new.self c.args.out.now c.on_frame.new.out c.requires.room c.in_ok-on_frame-in-Ok.ensures

pub returns-in-Err-NotAFrame-clause-state : goal.returns-in-Err-NotAFrame-clause-state
returns-in-Err-NotAFrame-clause-state c works carried has = nothing_more works carried c.args.self.now has
