use Rattle.std.proofs.Common.{◌≡◌, ◌∙◌, refl, sym, ap, subst, ℕ, Bool, List, arith, length}
use Rattle.fabric_routes.specs.Waves.{StateOf, gap}
use Rattle.fabric_lane_waves.specs.LaneSteps.{StepsOf, StopsOf}
use Rattle.fabric_lane_waves.specs.Waves.{IsRunning}
use Rattle.fabric_lane_waves.proofs.SpreadLemmas.{run_done, run_first, idle_run, idle_rest}
use Rattle.fabric_lane_waves.proofs.wave.run.Goals as goal
use Rattle.fabric_lane_waves.proofs.wave.run.Goals.{in-Some, in_default}

pub rounds-init : goal.rounds-init
rounds-init c = record {
  running = run_first (StepsOf c.args.routes.now) (StopsOf c.args.routes.now) (record { seen = c.args.seen.now; graph = c.args.graph.now; stopped = c.args.stopped }) c.args.done.now c.requires.none c.requires.done_count;
  count = refl;
  rest = λ e. absurd (cc);
}

pub places-preserved : goal.places-preserved
places-preserved c =
    let so_far = c.places.invariant in
    elim c.match-follow.branch [
      | in-Some w ↦ (
          let further = w.in-Some.ensures in
          let less = further.less in
          let most = so_far.most in
          record {
            running = subst (λ (b : Bool). IsRunning (StepsOf c.args.routes.now) (StopsOf c.args.routes.now) (record { seen = c.args.seen.now; graph = c.args.graph.now; stopped = c.args.stopped }) (record { seen = c.follow.new.seen; graph = c.follow.new.graph; stopped = b }) c.follow.new.done) (sym w.stops-is)
                (further.running (record { seen = c.args.seen.now; graph = c.args.graph.now; stopped = c.args.stopped }) so_far.running);
            count = further.seen_count ∙ so_far.count;
            rest = λ e. absurd (let t = w.fresh-is in cc);
            most = omega arith;
            less = λ _. omega arith;
          })
      | in_default w ↦ (
          let idle = w.in_default.ensures in
          let same_gap : gap c.follow.new.done ≡ gap c.places.done = ap (λ (xs : List ℕ). gap xs) idle.same_done in
          let most = so_far.most in
          record {
            running = subst (λ (b : Bool). IsRunning (StepsOf c.args.routes.now) (StopsOf c.args.routes.now) (record { seen = c.args.seen.now; graph = c.args.graph.now; stopped = c.args.stopped }) (record { seen = c.follow.new.seen; graph = c.follow.new.graph; stopped = b }) c.follow.new.done) (sym w.stops-is)
                (idle_run (StepsOf c.args.routes.now) (StopsOf c.args.routes.now) (record { seen = c.args.seen.now; graph = c.args.graph.now; stopped = c.args.stopped }) c.places.place (record { seen = c.places.seen; graph = c.places.graph; stopped = c.places.stops }) (record { seen = c.follow.new.seen; graph = c.follow.new.graph; stopped = c.places.stops }) c.places.done c.follow.new.done idle so_far.running);
            count = ap (λ (s : StateOf). length s.seen) idle.same ∙ so_far.count;
            rest = λ e. idle_rest c.places.place (record { seen = c.places.seen; graph = c.places.graph; stopped = c.places.stops }) (record { seen = c.follow.new.seen; graph = c.follow.new.graph; stopped = c.places.stops }) c.places.done c.follow.new.done idle (so_far.rest (sym w.fresh-is ∙ e));
            most = omega arith;
            less = λ e. (let less = so_far.less (sym w.fresh-is ∙ e) in omega arith);
          })
    ]

pub returns : goal.returns
returns c = run_done (StepsOf c.args.routes.now) (StopsOf c.args.routes.now) (record { seen = c.args.seen.now; graph = c.args.graph.now; stopped = c.args.stopped }) (record { seen = c.rounds.seen; graph = c.rounds.graph; stopped = c.rounds.stops }) c.rounds.done c.rounds.invariant.running (c.rounds.invariant.rest c.rounds-test.false)
