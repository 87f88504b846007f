use Rattle.std.proofs.Common.{◌≡◌, ◌∙◌, sym, ap, subst, ℕ, Bool, List, arith}
use Rattle.std.proofs.lemmas.Bool.{false≢true, true≢false}
use Rattle.fabric_tables.specs.Cells.{tables_of}
use Rattle.fabric_routes.specs.Waves.{IsRunning, gap}
use Rattle.fabric_routes.proofs.RunLemmas.{idle_rest, idle_run, round_less, run_done, run_first}
use Rattle.fabric_routes.proofs.wave.run.Goals as goal
use Rattle.fabric_routes.proofs.wave.run.Goals.{in-Some, in_default}

pub switches-preserved : goal.switches-preserved
switches-preserved c =
    let so_far = c.switches.invariant in
    elim c.match-follow.branch [
      | in-Some w ↦ (
          let further = w.in-Some.ensures in
          let less = further.less in
          let most = so_far.most in
          record {
            running = subst (λ (b : Bool). IsRunning c.args.fabric.now (tables_of c.args.cells.now) c.args.block (record { seen = c.args.seen.now; graph = c.args.graph.now; stopped = c.args.stopped }) (record { seen = c.follow.new.seen; graph = c.follow.new.graph; stopped = b }) c.follow.new.done) (sym w.stops-is)
                (further.running (record { seen = c.args.seen.now; graph = c.args.graph.now; stopped = c.args.stopped }) so_far.running);
            rest = λ e. absurd (let t = w.fresh-is in cc);
            most = omega arith;
            less = λ _. omega arith;
          })
      | in_default w ↦ (
          let idle = w.in_default.ensures in
          let same_gap : gap c.follow.new.done ≡ gap c.switches.done = ap (λ (xs : List ℕ). gap xs) idle.same_done in
          let most = so_far.most in
          record {
            running = subst (λ (b : Bool). IsRunning c.args.fabric.now (tables_of c.args.cells.now) c.args.block (record { seen = c.args.seen.now; graph = c.args.graph.now; stopped = c.args.stopped }) (record { seen = c.follow.new.seen; graph = c.follow.new.graph; stopped = b }) c.follow.new.done) (sym w.stops-is)
                (idle_run c.args.fabric.now (tables_of c.args.cells.now) c.args.block (record { seen = c.args.seen.now; graph = c.args.graph.now; stopped = c.args.stopped }) c.switches.at (record { seen = c.switches.seen; graph = c.switches.graph; stopped = c.switches.stops }) (record { seen = c.follow.new.seen; graph = c.follow.new.graph; stopped = c.switches.stops }) c.switches.done c.follow.new.done idle so_far.running);
            rest = λ e. idle_rest c.switches.at (record { seen = c.switches.seen; graph = c.switches.graph; stopped = c.switches.stops }) (record { seen = c.follow.new.seen; graph = c.follow.new.graph; stopped = c.switches.stops }) c.switches.done c.follow.new.done idle (so_far.rest (sym w.fresh-is ∙ e));
            most = omega arith;
            less = λ e. (let less = so_far.less (sym w.fresh-is ∙ e) in omega arith);
          })
    ]

pub returns : goal.returns
returns c = λ traffic starts. run_done c.args.fabric.now (tables_of c.args.cells.now) c.args.block (record { seen = c.args.seen.now; graph = c.args.graph.now; stopped = c.args.stopped }) (record { seen = c.rounds.seen; graph = c.rounds.graph; stopped = c.rounds.stops }) c.rounds.done c.rounds.invariant.running (c.rounds.invariant.rest c.rounds-test.false) traffic starts

pub rounds-init : goal.rounds-init
rounds-init c = record {
  running = run_first c.args.fabric.now (tables_of c.args.cells.now) c.args.block (record { seen = c.args.seen.now; graph = c.args.graph.now; stopped = c.args.stopped }) c.args.done.now c.requires.none c.requires.count c.requires.done_count c.requires.graph;
  rest = λ e. absurd (true≢false e);
}

pub switches-init : goal.switches-init
switches-init c = record {
  running = c.rounds.invariant.running;
  rest = λ e switch bit low. absurd (omega arith);
  most = omega arith;
  less = λ e. absurd (false≢true e);
}

pub rounds-preserved : goal.rounds-preserved
rounds-preserved c =
    let i = c.switches.invariant in
    let past = c.switches-test.false in
    let count = c.switches-at-end.ensures.count in
    record {
      running = i.running;
      rest = λ e switch bit low. i.rest e switch bit (omega arith);
    }

pub rounds-smaller : goal.rounds-smaller
rounds-smaller c = round_less c.switches.fresh c.rounds.fresh (gap c.switches.done) (gap c.rounds.done) c.rounds-test.true c.switches.invariant.less
