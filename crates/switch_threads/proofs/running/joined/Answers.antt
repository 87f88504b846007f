-- All seats were joined, and the accounts turned round.

use Rattle.std.specs.Prelude.{slice_index_or}
use Rattle.std.proofs.Common.{◌≡◌, ◌∙◌, ◌-◌, ◌<◌, ℕ, subst, sym}
use Rattle.fabric_turn.specs.History.{Extends}
use Rattle.fabric_turn.specs.Names.{turnstile_id}
use Rattle.fabric_book.specs.declared.account.Account.{Account}
use Rattle.switch_threads.specs.Runs.{HasSeenMore, IsSeatOf, SeatOf}
use Rattle.switch_threads.proofs.RunLemmas.{drivers_told, end_whole, told_all}
use Rattle.switch_threads.proofs.running.joined.Goals as goal

pub join_workers-requires-clause-first : goal.join_workers-requires-clause-first
join_workers-requires-clause-first c = subst (IsSeatOf (turnstile_id c.args.turnstile.now) c.args.script.now 0) (sym c.in_ok-seat.ensures.seat) c.requires.driver

pub returns-clause-end : goal.returns-clause-end
returns-clause-end c =
    let whole = c.in_ok-seat-2.seat.1 in
    let on = subst (λ (s : SeatOf). Extends s.1.seen whole.seen) c.in_ok-seat.ensures.seat c.in_ok-seat-2.ensures.more.on in
    end_whole c.args.driver.seat.1 c.args.driver.end c.in_ok-seat.told c.args.script.now whole.seen c.in_ok-seat.ensures.end c.requires.driver.begun on

pub returns-clause-told : goal.returns-clause-told
returns-clause-told c =
    let script = c.args.script.now in
    let seat = c.args.driver.seat in
    let whole = c.in_ok-seat-2.seat.1 in
    let downs = c.join_workers.new.accounts in
    let pushed = c.push.new.self in
    let all = c.reverse.new.self in
    let more = subst (λ (s : SeatOf). HasSeenMore s.1 whole) c.in_ok-seat.ensures.seat c.in_ok-seat-2.ensures.more in
    let driver = drivers_told script seat.0 seat.1 whole c.in_ok-seat.told c.requires.driver.begun c.requires.driver.number_is more c.in_ok-seat.ensures.told in
    told_all script whole downs.items pushed.items all.items c.in_ok-seat.told (sym downs.ok.0 ∙ c.in_ok-seat-2.ensures.count) c.in_ok-push.ensures.items c.in_ok-seat-2.ensures.told driver
    (sym all.ok.0 ∙ c.reverse.ensures.len ∙ pushed.ok.0)
    (subst (λ (n : ℕ). (k : ℕ) (d : Account) → k < n → slice_index_or all.items k d ≡ slice_index_or pushed.items (n - 1 - k) d) pushed.ok.0 c.reverse.ensures.by_index)
