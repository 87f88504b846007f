use Rattle.std.proofs.Common.{sym, subst}
use Rattle.check_text.specs.Runs.{IsRun}
use Rattle.check_text.proofs.RunLemmas.{runs_more}
use Rattle.check_text.proofs.runs.runs_of.Goals as goal

pub runs-preserved : goal.runs-preserved
runs-preserved c =
    let so_far = c.runs.invariant in
    runs_more c.args.rows.now c.runs.rest.now c.split_at.result.1.now c.runs.runs.items c.push.new.self.items c.split_at.result.0 (λ r. r.now) c.in_ok-push.ensures.items so_far.0 so_far.1 c.split_at.ensures.by_index.0 (subst IsRun (sym c.split_at.ensures.front) c.run_len.ensures.run)
