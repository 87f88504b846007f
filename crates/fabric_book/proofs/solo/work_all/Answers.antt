-- Each worker has its turns.

use Rattle.std.proofs.Common.{◌≡◌, ◌∙◌, ◌<◌, ap, arith, length, subst, sym}
use Rattle.net_script.specs.Scripts.{ScriptOf}
use Rattle.net_state.specs.Fabric.{count}
use Rattle.fabric_book.specs.Rounds.{AreIdleBefore, IsTurnOf}
use Rattle.fabric_book.proofs.RoundLemmas.{goes_then, idle_more}
use Rattle.fabric_book.proofs.WorldFacts.{world_script}
use Rattle.fabric_book.proofs.solo.work_all.Goals as goal

pub work_out-requires-clause-within : goal.work_out-requires-clause-within
work_out-requires-clause-within c =
    let first = c.args.net.now in
    let count : c.count-count.result ≡ length c.args.net.now.script.wires.switches = c.count-count.ensures ∙ ap count c.fabric.ensures ∙ ap (λ (x : ScriptOf). length x.wires.switches) (world_script first.script first.events) in
    let low : c.switches.s < length c.args.net.now.script.wires.switches = omega (arith, count) in
    subst (λ (x : ScriptOf). c.switches.s < length x.wires.switches) (sym c.switches.invariant.1.script) low

pub switches-preserved : goal.switches-preserved
switches-preserved c =
    let done = c.in_ok-work_out.ensures in (
      done.turn,
      goes_then c.args.net.now c.switches.net c.work_out.new.net c.switches.invariant.1 done.on,
      idle_more c.args.net.now c.switches.net c.work_out.new.net c.switches.s c.switches.invariant.2 c.switches.invariant.1 done.on done.idle,
      done.told ∙ c.switches.invariant.3,
    )

pub returns-clause-turn : goal.returns-clause-turn
returns-clause-turn c =
    let first = c.args.net.now in
    let count : c.count-count.result ≡ length c.args.net.now.script.wires.switches = c.count-count.ensures ∙ ap count c.fabric.ensures ∙ ap (λ (x : ScriptOf). length x.wires.switches) (world_script first.script first.events) in
    let all : c.switches.s ≡ length c.args.net.now.script.wires.switches = omega (arith, count) in
    subst (λ k. IsTurnOf k c.switches.net) (all ∙ ap (λ (x : ScriptOf). length x.wires.switches) (sym c.switches.invariant.1.script)) c.switches.invariant.0

pub returns-clause-idle : goal.returns-clause-idle
returns-clause-idle c =
    let first = c.args.net.now in
    let count : c.count-count.result ≡ length c.args.net.now.script.wires.switches = c.count-count.ensures ∙ ap count c.fabric.ensures ∙ ap (λ (x : ScriptOf). length x.wires.switches) (world_script first.script first.events) in
    let all : c.switches.s ≡ length c.args.net.now.script.wires.switches = omega (arith, count) in
    subst (λ k. AreIdleBefore k c.args.net.now c.switches.net) (all ∙ ap (λ (x : ScriptOf). length x.wires.switches) (sym c.switches.invariant.1.script)) c.switches.invariant.2
