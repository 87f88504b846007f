-- What comes of a clock or a frame is what comes of what is in hand.

use Rattle.std.proofs.Common.{arith, false, subst, sym, true, ℕ}
use Rattle.std.proofs.lemmas.Result.{on_ok_weaker}
use Rattle.switch_core.specs.Kept.{Handles, StandsFor, Ticks}
use Rattle.switch_core.specs.Switch.{SwitchOf}
use Rattle.net_state.specs.declared.hand.Hand.{Hand}
use Rattle.fabric_book.specs.Nets.{IsHandled}
use Rattle.fabric_book.proofs.HandLemmas.{clock_handled, frame_handled}
use Rattle.fabric_book.proofs.handling.work.Goals as goal

pub returns-in-Ok-clause-handled : goal.returns-in-Ok-clause-handled
returns-in-Ok-clause-handled c = λ (x : SwitchOf) (stands : StandsFor c.args.switch.now x).
    subst (λ (h : Hand). IsHandled x h c.args.bytes.now c.clock.new.self c.clock.new.out) (sym c.in-Clock.is)
    (clock_handled c.in-Clock.now c.in-Clock.samples c.args.bytes.now x c.clock.new.self c.clock.new.out false
    (subst (λ (tick : ℕ). Ticks tick c.in-Clock.samples x (StandsFor c.clock.new.self) c.clock.new.out false) c.from.ensures (c.in-Ok.ensures.ok x stands)))

pub returns-in-Err-EpochsSpent-clause-handled : goal.returns-in-Err-EpochsSpent-clause-handled
returns-in-Err-EpochsSpent-clause-handled c = λ (x : SwitchOf) (stands : StandsFor c.args.switch.now x).
    subst (λ (h : Hand). IsHandled x h c.args.bytes.now c.clock.new.self c.clock.new.out) (sym c.in-Clock.is)
    (clock_handled c.in-Clock.now c.in-Clock.samples c.args.bytes.now x c.clock.new.self c.clock.new.out true
    (subst (λ (tick : ℕ). Ticks tick c.in-Clock.samples x (StandsFor c.clock.new.self) c.clock.new.out true) c.from.ensures (c.clock.ensures.spent x stands (cc))))

pub returns-in-Frame-clause-handled : goal.returns-in-Frame-clause-handled
returns-in-Frame-clause-handled c = λ (x : SwitchOf) (stands : StandsFor c.args.switch.now x).
    on_ok_weaker c.handle.result
    (λ (is : Handles c.in-Frame.port c.args.bytes.now x (StandsFor c.handle.new.self) c.handle.new.out).
    subst (λ (h : Hand). IsHandled x h c.args.bytes.now c.handle.new.self c.handle.new.out) (sym c.in-Frame.is)
    (frame_handled c.in-Frame.port c.args.bytes.now x c.handle.new.self c.handle.new.out (λ i. omega (arith, c.type_inv.bytes i)) is))
    (c.handle.ensures.handled x stands)

pub returns-in-Err-OutOfMemory-clause-lost : goal.returns-in-Err-OutOfMemory-clause-lost
returns-in-Err-OutOfMemory-clause-lost c = c.clock.ensures.lost (cc)

pub returns-in-Err-OutOfMemory-clause-nothing : goal.returns-in-Err-OutOfMemory-clause-nothing
returns-in-Err-OutOfMemory-clause-nothing c = c.clock.ensures.nothing (cc)
