-- The run, from its first seat to the whole history.

use Rattle.std.proofs.Common.{◌≡◌, ◌∙◌, All, List, IfSome, Option, Some, ap, arith, length, subst, sym}
use Rattle.net_state.specs.declared.ending.Ending.{Ending}
use Rattle.net_world.specs.Histories.{end_of}
use Rattle.fabric_turn.specs.Names.{turnstile_id}
use Rattle.switch_threads.specs.Runs.{AreWorkers, DriverOf, HaveCalled, SeatOf}
use Rattle.switch_threads.proofs.RunLemmas.{driver_one, given_back, one_stays, ones_have, ones_stay}
use Rattle.switch_threads.proofs.running.run_with.Goals as goal

pub new-requires : goal.new-requires
new-requires g c = (turnstile_id c.args.turnstile.now, c.args.script.now, c.in_ok-seat.ensures.script, c.in_ok-seat.ensures.seat)

pub shifts-requires-clause-driver : goal.shifts-requires-clause-driver
shifts-requires-clause-driver g c κs within =
    ap (λ (d : DriverOf). d.seat.0) c.in_ok-driver.ensures ∙ ap (λ (s : SeatOf). s.0) c.in_ok-seat.ensures.seat

pub shifts-requires-clause-workers : goal.shifts-requires-clause-workers
shifts-requires-clause-workers g c κs within =
    let id = turnstile_id c.args.turnstile.now in
    subst (All (λ (s : SeatOf). s.0 ≡ id)) (sym c.as_mut_slice.ensures.value) (ones_have id c.args.script.now c.in_ok-seat.workers.items c.in_ok-seat.ensures.workers)

pub joined-requires-clause-driver : goal.joined-requires-clause-driver
joined-requires-clause-driver g c =
    let id = turnstile_id c.args.turnstile.now in
    let script = c.args.script.now in
    let first = ap (λ (d : DriverOf). d.seat) c.in_ok-driver.ensures ∙ c.in_ok-seat.ensures.seat in
    one_stays id script 0 c.in_ok-driver.driver.seat c.shifts.new.driver.seat c.in_ok-end.ensures.driver (driver_one id script c.in_ok-driver.driver.seat first)

pub joined-requires-clause-workers : goal.joined-requires-clause-workers
joined-requires-clause-workers g c =
    let id = turnstile_id c.args.turnstile.now in
    let script = c.args.script.now in
    let old = c.in_ok-seat.workers.items in
    let new = c.shifts.new.workers in
    let slice = c.as_mut_slice.ensures.value in
    let long : length new ≡ length old = c.shifts.auto.workers ∙ ap (length {A = SeatOf}) slice in
    let many : c.in_ok-seat.workers.len ≡ length old = omega (arith, c.in_ok-seat.workers.ok, c.as_mut_slice.ensures.len, ap (length {A = SeatOf}) slice) in
    let called = subst (λ (xs : List SeatOf). HaveCalled xs new) slice c.in_ok-end.ensures.workers in
    let ones = ones_stay id script old new long called c.in_ok-seat.ensures.workers in
    subst (AreWorkers id script) (sym (given_back old new c.in_ok-seat.workers.len long many)) ones

pub returns-clause-end : goal.returns-clause-end
returns-clause-end g c =
    subst (λ (o : Option Ending). IfSome o (λ e. end_of c.args.script.now c.in_ok-seat-2.seat.1.seen ≡ Some e)) c.in_ok-end.ensures.end c.in_ok-seat-2.ensures.end
