-- Each worker has a number, and begins with its switch's first life.

use Rattle.std.proofs.Common.{◌≡◌, ◌∙◌, ◌+◌, ℕ, ap, arith, length, subst, sym}
use Rattle.std.proofs.lemmas.List.{length_push}
use Rattle.net_graph.specs.Wires.{Wires}
use Rattle.fabric_turn.specs.Names.{turnstile_id}
use Rattle.switch_threads.specs.Runs.{AreWorkers, IsSeatOf, SeatOf}
use Rattle.switch_threads.proofs.RunLemmas.{given_begun, given_first, given_mine, given_more, given_number, given_one, given_seen, workers_more}
use Rattle.switch_threads.proofs.running.open.Goals as goal

pub split-first-requires-clause-more : goal.split-first-requires-clause-more
split-first-requires-clause-more c =
    let script = c.args.script.now in
    let many : c.count-count.result ≡ length script.wires.switches = c.count-count.ensures.count ∙ ap (λ (w : Wires). length w.switches) c.wiring.ensures.wires in
    given_more (turnstile_id c.args.turnstile.now) script c.switches.s c.switches.seat c.switches.invariant.seat (omega (arith, many))

pub new-requires-clause-within : goal.new-requires-clause-within
new-requires-clause-within c =
    let script = c.args.script.now in
    let many : c.count-count.result ≡ length script.wires.switches = c.count-count.ensures.count ∙ ap (λ (w : Wires). length w.switches) c.wiring.ensures.wires in
    omega (arith, many)

pub new-requires-clause-begun : goal.new-requires-clause-begun
new-requires-clause-begun c =
    given_begun (turnstile_id c.args.turnstile.now) c.args.script.now c.switches.s c.switches.seat c.switches.invariant.seat c.split-first.result.1 c.split-first.ensures.second

pub new-requires-clause-number : goal.new-requires-clause-number
new-requires-clause-number c =
    given_number (turnstile_id c.args.turnstile.now) c.args.script.now c.switches.s c.switches.seat c.switches.invariant.seat c.split-first.result.1 c.split-first.ensures.second

pub new-requires-clause-first : goal.new-requires-clause-first
new-requires-clause-first c =
    let id = turnstile_id c.args.turnstile.now in
    let was = c.switches.invariant.seat in
    let second = c.split-first.ensures.second in (
      given_seen id c.args.script.now c.switches.s c.switches.seat was c.split-first.result.1 second,
      given_mine id c.args.script.now c.switches.s c.switches.seat was c.split-first.result.1 second,
    )

pub switches-preserved : goal.switches-preserved
switches-preserved c =
    let script = c.args.script.now in
    let id = turnstile_id c.args.turnstile.now in
    let was = c.switches.invariant in
    let many = was.count in
    let items = c.in_ok-push.ensures.items in
    let has : c.switches.workers.len ≡ length c.switches.workers.items = c.switches.workers.ok.0 in
    let here : c.switches.s ≡ length c.switches.workers.items = omega (arith, many, has) in
    let long : length c.push.new.self.items ≡ length c.switches.workers.items + 1 = ap (length {A = SeatOf}) items ∙ length_push c.switches.workers.items c.in_ok-new.field-0 in
    let given = given_one id script c.switches.s c.switches.seat was.seat c.split-first.result.1 c.split-first.ensures.second in
    let one = subst (λ (n : ℕ). IsSeatOf id script (n + 1) c.in_ok-new.field-0) here (subst (IsSeatOf id script (c.switches.s + 1)) (sym c.in_ok-new.ensures) given) in
    record {
      seat = given_first id script c.switches.s c.switches.seat was.seat c.split-first.result.0 c.split-first.ensures.first;
      count = omega (arith, many, long);
      workers = subst (AreWorkers id script) (sym items) (workers_more id script c.switches.workers.items c.in_ok-new.field-0 was.workers one);
    }
