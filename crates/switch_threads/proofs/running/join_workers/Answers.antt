-- The number of one more worker was ended.

use Rattle.std.proofs.Common.{◌≡◌, ◌∙◌, ◌+◌, ◌-◌, ap, arith, length, refl, subst, sym}
use Rattle.std.proofs.lemmas.List.{length_push}
use Rattle.fabric_turn.specs.Names.{turnstile_id}
use Rattle.fabric_turn.specs.declared.view.View.{View}
use Rattle.fabric_book.specs.declared.account.Account.{Account}
use Rattle.switch_threads.specs.Runs.{AreToldDown, AreWorkers, IsSeatOf, IsToldAt, SeatOf, callers_of}
use Rattle.switch_threads.proofs.RunLemmas.{extends_same, extends_then, one_more_ended, told_before, told_down, told_now, worker_last, workers_front}
use Rattle.switch_threads.proofs.running.join_workers.Goals as goal

pub workers-init : goal.workers-init
workers-init c =
    let first = c.requires.first in
    let all = c.requires.all in
    let none : length c.args.accounts.now.items ≡ 0 = ap (length {A = Account}) c.requires.none in
    let empty : c.args.accounts.now.len ≡ 0 = c.args.accounts.now.ok.0 ∙ none in
    record {
      turnstile = first.turnstile_is;
      begun = first.begun;
      callers = first.one.0;
      next = first.one.1;
      count = omega (arith, all, empty);
      ended = ap (length {A = _}) first.one.2 ∙ sym empty;
      more = record { number_is = refl; mine_is = refl; on = extends_same c.args.seat.1.seen };
      workers = c.requires.workers;
      told = λ k d below. absurd (omega (arith, below, none));
    }

pub workers-preserved : goal.workers-preserved
workers-preserved c =
    let id = turnstile_id c.args.turnstile.now in
    let script = c.args.script.now in
    let switches = length script.wires.switches in
    let was = c.workers.invariant in
    let one = c.workers.seat.1 in
    let other = c.in_ok-theirs.theirs in
    let new = c.join-seat.result.1 in
    let left = c.pop.new.self.items in
    let account = c.in_ok-theirs.account in
    let accounts = c.workers.accounts.items in
    let items = c.in-Some.ensures.items in
    let all = subst (AreWorkers id script) items was.workers in
    let is = c.in_ok-theirs.ensures.seat in
    let last = subst (IsSeatOf id script (length left + 1)) (sym is) (worker_last id script left c.in-Some.worker all) in
    let told = subst (λ (s : SeatOf). IsToldAt s account) (sym is) c.in_ok-theirs.ensures.told in
    let joined = ap (λ (s : SeatOf). s.1) c.join-seat.ensures.seat in
    let pushed = c.in_ok-push.ensures.items in
    let count = was.count in
    let fewer : length c.workers.workers.items ≡ length left + 1 = ap (length {A = SeatOf}) items ∙ length_push left c.in-Some.worker in
    let more : length c.push.new.self.items ≡ length accounts + 1 = ap (length {A = Account}) pushed ∙ length_push accounts account in
    let had : c.workers.workers.len ≡ length c.workers.workers.items = c.workers.workers.ok.0 in
    let has : c.pop.new.self.len ≡ length left = c.pop.new.self.ok.0 in
    let before : c.workers.accounts.len ≡ length accounts = c.workers.accounts.ok.0 in
    let after : c.push.new.self.len ≡ length c.push.new.self.items = c.push.new.self.ok.0 in
    let number : length left + 1 ≡ switches - length accounts = omega (arith, count, fewer, had, before) in
    let ended = ap (λ (v : View _ _). length v.ended) joined ∙ one_more_ended (callers_of script) one other.1 last.one in
    let was_ended = was.ended in
    record {
      turnstile = ap (λ (s : SeatOf). s.0) c.join-seat.ensures.seat ∙ was.turnstile;
      begun = ap (λ (v : View _ _). v.start) joined ∙ was.begun;
      callers = ap (λ (v : View _ _). v.callers) joined ∙ was.callers;
      next = ap (λ (v : View _ _). v.next) joined ∙ was.next;
      count = omega (arith, count, fewer, more, had, has, before, after);
      ended = omega (arith, ended, was_ended, more, before, after);
      more = record {
        number_is = ap (λ (v : View _ _). v.number) joined ∙ was.more.number_is;
        mine_is = ap (λ (v : View _ _). v.mine) joined ∙ was.more.mine_is;
        on = extends_then c.args.seat.1.seen one.seen new.seen was.more.on c.join-seat.ensures.first;
      };
      workers = workers_front id script left c.in-Some.worker all;
      told = subst (AreToldDown script new) (sym pushed)
          (told_down script one new accounts account (told_before script one other.1 new joined c.join-seat.ensures.first) was.told
          (told_now script one other.1 new joined other.0 (callers_of script) (switches - length accounts) account last.one (last.number_is ∙ number) last.begun c.join-seat.ensures.second told));
    }

pub returns-clause-seat : goal.returns-clause-seat
returns-clause-seat c =
    let was = c.workers.invariant in
    let callers = was.callers in
    let next = was.next in
    let count = was.count in
    let ended = was.ended in
    let none = c.in_default.ensures.cases.0 in
    record { turnstile_is = was.turnstile; begun = was.begun; all = omega (arith, callers, next, count, ended, none) }
