-- The run, from its script to the whole history.

use Rattle.std.proofs.Common.{◌≡◌, ◌∙◌, ◌+◌, ap, arith, length}
use Rattle.net_graph.specs.Wires.{Wires}
use Rattle.fabric_turn.specs.Names.{turnstile_id}
use Rattle.net_world.specs.Histories.{HistoryOf}
use Rattle.net_settling.proofs.Whole.{holds_and_settles}
use Rattle.switch_threads.proofs.RunLemmas.{opened_first}
use Rattle.switch_threads.proofs.running.run.Goals as goal

pub new-requires-clause-empty : goal.new-requires-clause-empty
new-requires-clause-empty g c = ap (λ (h : HistoryOf). h.events) c.in_ok-book.ensures

pub run_with-requires-clause-first : goal.run_with-requires-clause-first
run_with-requires-clause-first g c κs within =
    let script = c.args.script.now in
    let many : c.count.result ≡ length script.wires.switches = c.count.ensures.count ∙ ap (λ (w : Wires). length w.switches) c.wiring.ensures.wires in
    opened_first (turnstile_id c.in_ok-turnstile.turnstile) script c.in_ok-book.book (c.from-callers.result + 1) c.in_ok-turnstile.seat c.in_ok-turnstile.ensures (omega (arith, many, c.from-callers.ensures)) c.in_ok-book.ensures

pub close-requires : goal.close-requires
close-requires g c = record { seat = (c.args.script.now, c.in_ok-seat.ensures.seat) }

pub returns-clause-legal : goal.returns-clause-legal
returns-clause-legal g c = c.close.ensures.legal c.args.script.now c.in_ok-seat.ensures.seat c.in_ok-seat.ensures.end

pub returns-clause-claims : goal.returns-clause-claims
returns-clause-claims g c = holds_and_settles c.args.script.now c.in_ok-seat.ensures.script c.close.result.run.journal (returns-clause-legal g c).lawful

pub returns-clause-told : goal.returns-clause-told
returns-clause-told g c = c.close.ensures.told c.args.script.now c.in_ok-seat.ensures.seat c.in_ok-seat.ensures.told
